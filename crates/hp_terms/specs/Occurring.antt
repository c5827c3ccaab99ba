-- The names, the functions and the numbers that occur in a term, those in arguments too.
use Rattle.std.specs.Prelude.{◌≡◌, List, [], ◌∷◌, ◌++◌}
use Rattle.std.specs.List.{All, flat_map}
use Rattle.hp_math.specs.Rational.{ℚ}
use Rattle.hp_tree.specs.declared.term.Term.{Term, fold-Term}
use Rattle.hp_tree.specs.declared.term.Term.TheOpen.{Term-F}
use Rattle.hp_tree.specs.declared.problem.Atom.{Atom}
use Rattle.hp_tree.specs.Value.{Word}
use Rattle.hp_terms.specs.Scope.{Scope}

-- lists one after another
abbrev pub joined : {A : Type 0} → List (List A) → List A
joined lists = flat_map (λ list. list) lists

abbrev pub names_step : Term-F (List Word) → List Word
names_step (Term-F.Number value) = []
names_step Term-F.Null = []
names_step (Term-F.Name name) = name ∷ []
names_step (Term-F.Apply func args) = joined args
names_step (Term-F.Add left right) = left ++ right
names_step (Term-F.Sub left right) = left ++ right
names_step (Term-F.Neg inner) = inner
names_step (Term-F.Scale value inner) = inner

-- the names without arguments, in the order of the text
abbrev pub names_in : Term → List Word
names_in = fold-Term (List Word) names_step

abbrev pub functions_step : Term-F (List Word) → List Word
functions_step (Term-F.Number value) = []
functions_step Term-F.Null = []
functions_step (Term-F.Name name) = []
functions_step (Term-F.Apply func args) = func ∷ joined args
functions_step (Term-F.Add left right) = left ++ right
functions_step (Term-F.Sub left right) = left ++ right
functions_step (Term-F.Neg inner) = inner
functions_step (Term-F.Scale value inner) = inner

-- the functions that are applied, in the order of the text
abbrev pub functions_in : Term → List Word
functions_in = fold-Term (List Word) functions_step

abbrev pub numbers_step : Term-F (List ℚ) → List ℚ
numbers_step (Term-F.Number value) = value ∷ []
numbers_step Term-F.Null = []
numbers_step (Term-F.Name name) = []
numbers_step (Term-F.Apply func args) = joined args
numbers_step (Term-F.Add left right) = left ++ right
numbers_step (Term-F.Sub left right) = left ++ right
numbers_step (Term-F.Neg inner) = inner
numbers_step (Term-F.Scale value inner) = inner

-- the numbers that are terms of their own, in the order of the text
abbrev pub numbers_in : Term → List ℚ
numbers_in = fold-Term (List ℚ) numbers_step

-- two scopes say the same of all that occurs in a term
pub record AgreeOn (one other : Scope) (term : Term) : Type 0 where
  pub names : All (λ word. one.name word ≡ other.name word) (names_in term)
  pub functions : All (λ word. one.function word ≡ other.function word) (functions_in term)
  pub pointers : All (λ number. one.pointer number ≡ other.pointer number) (numbers_in term)

pub record AgreeOnAtom (one other : Scope) (atom : Atom) : Type 0 where
  pub left : AgreeOn one other atom.left
  pub right : AgreeOn one other atom.right
