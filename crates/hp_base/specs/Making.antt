-- Computations that add to a ground set, as functions: a value and the ground set then, or the first limit that is passed.
use Rattle.std.specs.Prelude.{◌≡◌, ℕ, List, [], ◌∷◌, ◌++◌, Result, Ok, Err}
use Rattle.hp_tree.specs.declared.limit.Limit.{Limit}
use Rattle.hp_lit.specs.declared.line.Def.{Def}
use Rattle.hp_lit.specs.declared.line.Line.{Line}
use Rattle.hp_lit.specs.declared.refusal.GroundErr.{GroundErr}
use Rattle.hp_lit.specs.declared.refusal.GroundErr.TheVariants as stopped
use Rattle.hp_lit.specs.declared.refusal.Refusal.TheVariants.{Wide, Memory}
use Rattle.hp_lit.specs.Limited.{coefficient}
use Rattle.hp_linear.specs.Steps.{Refusable}
use Rattle.hp_defs.specs.declared.names.Ground.{Ground}

abbrev pub Maker : Type 0 → Type 0
Maker A = Ground → Result (A × Ground) Limit

-- one step, and then the rest where no limit was passed
infixl 10 ◌then◌
abbrev pub ◌then◌ : {A B : Type 0} → Result (A × Ground) Limit → (A → Maker B) → Result (B × Ground) Limit
(Ok x) then f = f x.0 x.1
(Err l) then f = Err l

-- a value that needs nothing new
abbrev pub keep : {A : Type 0} → A → Maker A
keep x g = Ok (x, g)

-- a value whose numbers may be too wide: then the limit on the coefficients of an item is passed
abbrev pub computed : {A : Type 0} → ℕ → Refusable A → Maker A
computed item (Ok x) g = Ok (x, g)
computed item (Err Wide) g = Err (coefficient item)
computed item (Err Memory) g = Err (coefficient item)

-- the values of the entries of a list, one after the other
abbrev pub each : {X A : Type 0} → (X → Maker A) → List X → Maker (List A)
each f [] g = Ok ([], g)
each f (x ∷ xs) g = f x g then λ y. λ mid. each f xs mid then λ ys. λ end. Ok (y ∷ ys, end)

-- one entry after the other, for what they add alone
abbrev pub in_turn : {X : Type 0} → (X → Maker (Unit {0})) → List X → Maker (Unit {0})
in_turn f [] g = Ok (tt, g)
in_turn f (x ∷ xs) g = f x g then λ done. in_turn f xs

-- what was there is a front of what is there now
pub record Begins (old new : Ground) : Type 0 where
  pub constants : new.names.constants ≡ old.names.constants
  pub signatures : new.names.signatures ≡ old.names.signatures
  pub made : List Def
  pub definitions : new.names.definitions ≡ old.names.definitions ++ made
  pub added : List Line
  pub lines : new.lines ≡ old.lines ++ added

-- what a call that lends a ground set gives, beside that it begins with what was there
abbrev pub Makes : {A : Type 0} → Maker A → Ground → Ground → Result A GroundErr → Type 0
Makes m old new (Ok x) = m old ≡ Ok (x, new)
Makes m old new (Err (stopped.Limit l)) = m old ≡ Err l
Makes m old new (Err stopped.Memory) = Unit {0}
