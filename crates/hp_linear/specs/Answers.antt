-- What the calls answer.
use Rattle.std.specs.Prelude.{◌≡◌, List, ◌∷◌, ◌++◌, Result, Ok, Err}
use Rattle.hp_lit.specs.declared.literal.Lit.{Lit}
use Rattle.hp_lit.specs.declared.line.LinPart.{LinPart}
use Rattle.hp_lit.specs.declared.refusal.Refusal.{Refusal}
use Rattle.hp_lit.specs.declared.refusal.Refusal.TheVariants.{Wide, Memory}
use Rattle.hp_lit.specs.Growing.{Begins}
use Rattle.hp_linear.specs.declared.parts.Taken.{Taken}
use Rattle.hp_linear.specs.declared.parts.Taken.TheVariants.{Left, Right, Both}
use Rattle.hp_linear.specs.Steps.{Refusable, behind}
use Rattle.hp_linear.specs.Lins.{plus_parts}

-- what a computation gives or why it is refused, or want of memory
abbrev pub Answers : {A : Type 0} → Refusable A → Refusable A → Type 0
Answers wanted (Ok x) = wanted ≡ Ok x
Answers wanted (Err Wide) = wanted ≡ Err Wide
Answers wanted (Err Memory) = Unit {0}

-- literals behind those that are there, which stay where there are none
abbrev pub Pushed : Refusable (List Lit) → List Lit → List Lit → Result (Unit {0}) Refusal → Type 0
Pushed wanted old new (Ok done) = (more : List Lit) × (wanted ≡ Ok more) × (new ≡ old ++ more)
Pushed wanted old new (Err Wide) = (wanted ≡ Err Wide) × (new ≡ old)
Pushed wanted old new (Err Memory) = Begins old new

-- what is left to be merged once the summand of the lesser name was taken, or the sum of both
abbrev pub Took : LinPart → LinPart → List LinPart → List LinPart → Refusable Taken → Type 0
Took x y old new (Ok Left) = (xs ys : List LinPart) → behind old (plus_parts (x ∷ xs) (y ∷ ys)) ≡ behind new (plus_parts xs (y ∷ ys))
Took x y old new (Ok Right) = (xs ys : List LinPart) → behind old (plus_parts (x ∷ xs) (y ∷ ys)) ≡ behind new (plus_parts (x ∷ xs) ys)
Took x y old new (Ok Both) = (xs ys : List LinPart) → behind old (plus_parts (x ∷ xs) (y ∷ ys)) ≡ behind new (plus_parts xs ys)
Took x y old new (Err Wide) = (xs ys : List LinPart) → plus_parts (x ∷ xs) (y ∷ ys) ≡ Err Wide
Took x y old new (Err Memory) = Unit {0}
