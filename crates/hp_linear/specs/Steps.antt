-- Computations that may be refused, step by step.
use Rattle.std.specs.Prelude.{List, ◌++◌, Result, Ok, Err}
use Rattle.hp_num.specs.declared.wide.Wide.{Wide as TooWide}
use Rattle.hp_num.specs.Wide.{◌>>=◌}
use Rattle.hp_lit.specs.declared.refusal.Refusal.{Refusal}
use Rattle.hp_lit.specs.declared.refusal.Refusal.TheVariants.{Wide}

-- a computation that gives a value, or is refused
abbrev pub Refusable : Type 0 → Type 0
Refusable A = Result A Refusal

-- a list behind one that is there
abbrev pub behind : {A : Type 0} → List A → Refusable (List A) → Refusable (List A)
behind first rest = rest >>= λ last. Ok (first ++ last)

-- an operation on numbers that is refused where it is too wide
abbrev pub unless_wide : {A : Type 0} → Result A TooWide → Refusable A
unless_wide (Ok x) = Ok x
unless_wide (Err e) = Err Wide
