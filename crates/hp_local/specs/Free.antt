-- The completion of a free function: a row for each point, and 0 elsewhere.
use Rattle.std.specs.Prelude.{ℕ, ◌≤◌, List, [], ◌∷◌, false, pos}
use Rattle.std.specs.Str.{bytes_eq}
use Rattle.hp_math.specs.Rational.{whole}
use Rattle.hp_tree.specs.declared.term.Term.{Number}
use Rattle.hp_tree.specs.Limits.{most_arguments}
use Rattle.hp_tree.specs.Value.{Word}
use Rattle.hp_model.specs.declared.structure.Table.{Table}
use Rattle.hp_local.specs.Frame.{Fact, AreCongruent, Frame}
use Rattle.hp_local.specs.Law.{Group, Completes}
use Rattle.hp_local.specs.Rows.{own_facts, HaveArguments, point_rows}

-- the table of a function of so many arguments, over its own points
abbrev pub free_table : Word → ℕ → List Fact → Table
free_table func count facts = record { func = func; args = count; rows = point_rows facts; otherwise = Number (whole (pos 0)) }

abbrev pub free_group : Frame → Word → ℕ → Group
free_group frame func count = record { own = bytes_eq func; clauses = []; tables = free_table func count (own_facts func frame.facts) ∷ [] }

-- it completes congruent points, whatever functions stand below
abbrev pub FreeCompletes : Type 0
FreeCompletes = (frame : Frame) (func : Word) (count : ℕ) → count ≤ most_arguments → HaveArguments count (own_facts func frame.facts) → AreCongruent frame.facts
    → Completes frame (λ word. false) (free_group frame func count)
