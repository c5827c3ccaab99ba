-- The grammar of declarations and of lists of variables.
use Rattle.std.specs.Prelude.{ℕ, List, [], ◌∷◌, ◌++◌, map}
use Rattle.hp_tree.specs.declared.problem.Decl.{Decl}
use Rattle.hp_tree.specs.declared.problem.Decl.TheVariants.{Const, Fun}
use Rattle.hp_tree.specs.declared.problem.Sort.{Sort}
use Rattle.hp_tree.specs.declared.problem.Sort.TheVariants as sorts
use Rattle.hp_tree.specs.declared.problem.Var.{Var}
use Rattle.hp_text.specs.declared.token.Kind.TheVariants as kinds
use Rattle.hp_grammar.specs.Token.{Token, word, name, numeral}
use Rattle.hp_grammar.specs.Bodies.{Separated}

-- sort = "num" | "idx" | "ptr"
pub data SpellsSort : List Token → Sort → Type 0 where
  num : SpellsSort (word kinds.Num ∷ []) sorts.Num
  idx : SpellsSort (word kinds.Idx ∷ []) sorts.Idx
  ptr : SpellsSort (word kinds.Ptr ∷ []) sorts.Ptr

pub data SpellsName : List Token → List ℕ → Type 0 where
  called : (x : List ℕ) → SpellsName (name x ∷ []) x

-- each name is a constant of its own
abbrev pub constants_of : List (List ℕ) → Sort → List Decl
constants_of xs s = map (λ x. Const x s) xs

-- name { "," name } ":" sort
pub data SpellsConstants : List Token → List Decl → Type 0 where
  constants : (u v : List Token) (xs : List (List ℕ)) (s : Sort) → Separated SpellsName kinds.Comma u xs → SpellsSort v s
      → SpellsConstants (u ++ word kinds.Colon ∷ v) (constants_of xs s)

-- name "(" sort { "," sort } ")" ":" sort "level" numeral
pub data SpellsFunction : List Token → Decl → Type 0 where
  function : (x : List ℕ) (u v : List Token) (ss : List Sort) (s : Sort) (n : ℕ) → Separated SpellsSort kinds.Comma u ss → SpellsSort v s
      → SpellsFunction (name x ∷ word kinds.OpenRound ∷ u ++ (word kinds.CloseRound ∷ word kinds.Colon ∷ v ++ (word kinds.Level ∷ numeral n ∷ []))) (Fun x ss s n)

abbrev pub variable_of : List ℕ → Sort → Var
variable_of x s = record { name = x; sort = s }

-- var = name ":" sort
pub data SpellsVariable : List Token → Var → Type 0 where
  variable : (x : List ℕ) (u : List Token) (s : Sort) → SpellsSort u s → SpellsVariable (name x ∷ word kinds.Colon ∷ u) (variable_of x s)

-- [ var { "," var } ]
pub data SpellsVariables : List Token → List Var → Type 0 where
  none : SpellsVariables [] []
  some : (u : List Token) (vs : List Var) → Separated SpellsVariable kinds.Comma u vs → SpellsVariables u vs
