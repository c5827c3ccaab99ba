-- What each call answers.
use Rattle.std.specs.Prelude.{◌≡◌, Bool, List, ◌++◌, Result, Ok, Err}
use Rattle.std.specs.List.{All}
use Rattle.hp_tree.specs.declared.problem.Atom.{Atom}
use Rattle.hp_tree.specs.Value.{Word}
use Rattle.hp_terms.specs.Weight.{IsLightAtom}
use Rattle.hp_lit.specs.declared.literal.Lit.{Lit}
use Rattle.hp_lit.specs.declared.refusal.Refusal.{Refusal}
use Rattle.hp_lit.specs.declared.refusal.Refusal.TheVariants.{Wide, Memory}
use Rattle.hp_lit.specs.Growing.{Begins}
use Rattle.hp_index.specs.Fit.{HasSmallBound}
use Rattle.hp_index.specs.Literals.{literals}

-- literals behind those that are there, which stay where memory is short
abbrev pub Pushed : {E : Type 0} → List Lit → List Lit → List Lit → Result (Unit {0}) E → Type 0
Pushed more old new (Ok done) = new ≡ old ++ more
Pushed more old new (Err e) = Begins old new

-- the literals of an atom, which are refused only where its numbers are large
abbrev pub AtomPushed : List Word → Bool → Atom → List Lit → List Lit → Result (Unit {0}) Refusal → Type 0
AtomPushed words positive atom old new (Ok done) = (new ≡ old ++ literals words positive atom) × All HasSmallBound (literals words positive atom)
AtomPushed words positive atom old new (Err Wide) = (IsLightAtom atom → ⊥) × (new ≡ old)
AtomPushed words positive atom old new (Err Memory) = Begins old new
