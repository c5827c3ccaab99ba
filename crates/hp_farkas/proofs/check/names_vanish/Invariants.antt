use Rattle.std.proofs.Common.{◌≡◌, ℕ, ◌-◌, ◌^◌, ◌≤◌, List}
use Rattle.hp_lit.specs.Leaf.{Taken, AreTaken}
use Rattle.hp_farkas.specs.Names.{names_of}
use Rattle.hp_farkas.specs.Check.{vanish}
use Rattle.hp_farkas.proofs.Names.{AreNamesFrom}
use Rattle.hp_farkas.proofs.Loops.{onward}
use Rattle.hp_farkas.proofs.check.names_vanish.Given as goal

abbrev pub invariant-names : goal.invariant-names
invariant-names l = record {
  within : l.from ≤ 2 ^ 32;
  sums : (taken : List Taken) → AreTaken l.path l.shares taken
      → (rest : List ℕ) × AreNamesFrom l.from taken rest × (vanish taken (names_of taken) ≡ onward l.vanish (vanish taken rest));
}

abbrev pub decreases-names : goal.decreases-names
decreases-names l = 2 ^ 32 - l.from
