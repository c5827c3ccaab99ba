-- Flattening: a clause with one application is said of the words of its arguments, `$1`, `$2` and so on. An argument without
-- variables, and a variable that is an earlier argument, becomes an equality of the guard.
use Rattle.std.specs.Prelude.{ℕ, suc, List, [], ◌∷◌, ◌++◌, map, take, length, position, Bool, false, ◌&&◌, nat_eq, if◌then◌else◌, Option, Some, None, is_some, slice_index_or}
use Rattle.std.specs.List.{list_all}
use Rattle.std.specs.Str.{bytes_eq}
use Rattle.hp_tree.specs.declared.term.Term.{Term, fold-Term, out-Term, Number, Null, Name, Apply, Add, Sub, Neg, Scale}
use Rattle.hp_tree.specs.declared.term.Term.TheOpen.{Term-F}
use Rattle.hp_tree.specs.declared.problem.Atom.{Atom}
use Rattle.hp_tree.specs.declared.problem.Cmp.TheVariants.{Eq}
use Rattle.hp_tree.specs.declared.problem.Sort.TheVariants as sort
use Rattle.hp_tree.specs.declared.problem.Var.{Var}
use Rattle.hp_tree.specs.Value.{Word}
use Rattle.hp_local.specs.Rows.{argument_words}
use Rattle.hp_norm.specs.declared.flat.FlatClause.{FlatClause}
use Rattle.hp_norm.specs.Opening.{is_variable}
pub use Rattle.hp_norm.specs.Plain.{is_lone_variable, is_plain_argument, is_variable_in, name_in}
use Rattle.hp_flatten.specs.declared.application.Application.{Application}
use Rattle.hp_flatten.specs.Sorts.{is_num}

-- ---- the words of arguments
-- that of the argument at a place, counted from 0; a function has at most four arguments
abbrev pub argument_word : ℕ → Word
argument_word k = slice_index_or argument_words k []

abbrev pub argument_var : Word → Var
argument_var word = record { name = word; sort = sort.Num }

-- so many of them, of sort num
abbrev pub argument_vars : ℕ → List Var
argument_vars count = map argument_var (take count argument_words)

abbrev pub argument_names : ℕ → List Term
argument_names count = map Name (take count argument_words)

-- a function at them
abbrev pub at_words : Word → ℕ → Application
at_words func count = record { func = func; args = argument_names count }

-- ---- arguments
-- the term is this name alone
abbrev pub is_word : Word → Option Word → Bool
is_word word None = false
is_word word (Some other) = bytes_eq word other

abbrev pub is_named : Word → Term → Bool
is_named word term = is_word word (name_in (out-Term term))

-- the place of the first argument that is this name alone, counted from 0
abbrev pub place_of : List Term → Word → Option ℕ
place_of args word = position (is_named word) args

-- a num variable that is an argument
abbrev pub is_argument : List Term → Var → Bool
is_argument args v = is_num v.sort && is_some (place_of args v.name)

-- each argument is a variable or has none, and the variables are num and are those that are arguments
abbrev pub are_arguments : List Var → List Term → Bool
are_arguments vars args = list_all (is_plain_argument vars) args && list_all (is_argument args) vars

-- ---- terms over the words of arguments
abbrev pub placed_word : Word → Option ℕ → Word
placed_word word None = word
placed_word word (Some k) = argument_word k

-- a variable becomes the word of its first place
abbrev pub flat_word : List Var → List Term → Word → Word
flat_word vars args word = if is_variable vars word then placed_word word (place_of args word) else word

abbrev pub flat_step : Application → List Var → Term-F Term → Term
flat_step a vars (Term-F.Number q) = Number q
flat_step a vars Term-F.Null = Null
flat_step a vars (Term-F.Name word) = Name (flat_word vars a.args word)
flat_step a vars (Term-F.Apply func args) = Apply func (if bytes_eq func a.func then argument_names (length a.args) else args)
flat_step a vars (Term-F.Add s t) = Add s t
flat_step a vars (Term-F.Sub s t) = Sub s t
flat_step a vars (Term-F.Neg s) = Neg s
flat_step a vars (Term-F.Scale q s) = Scale q s

-- and the application is one of its function at the words
abbrev pub flat_term : Application → List Var → Term → Term
flat_term a vars = fold-Term Term (flat_step a vars)

abbrev pub flat_atom : Application → List Var → Atom → Atom
flat_atom a vars atom = record { left = flat_term a vars atom.left; cmp = atom.cmp; right = flat_term a vars atom.right }

-- ---- equalities
-- the term is a variable whose first place this is
abbrev pub is_place : ℕ → Option ℕ → Bool
is_place k None = false
is_place k (Some j) = nat_eq k j

abbrev pub is_first_of : List Var → List Term → ℕ → Option Word → Bool
is_first_of vars args k None = false
is_first_of vars args k (Some word) = is_variable vars word && is_place k (place_of args word)

abbrev pub is_first : List Var → List Term → ℕ → Term → Bool
is_first vars args k term = is_first_of vars args k (name_in (out-Term term))

-- the argument at a place is another one, or has no variable
abbrev pub equality : Application → List Var → ℕ → Term → List Atom
equality a vars k term = if is_first vars a.args k term then [] else record { left = Name (argument_word k); cmp = Eq; right = flat_term a vars term } ∷ []

abbrev pub equalities_from : Application → List Var → ℕ → List Term → List Atom
equalities_from a vars k [] = []
equalities_from a vars k (term ∷ terms) = equality a vars k term ++ equalities_from a vars (suc k) terms

abbrev pub equalities : Application → List Var → List Atom
equalities a vars = equalities_from a vars 0 a.args

-- ---- clauses
-- the clause over the words of the arguments of its application, with the equalities at the end of its guard
abbrev pub flattened : Application → FlatClause → FlatClause
flattened a c = record {
  clause = c.clause;
  item = c.item;
  vars = argument_vars (length a.args);
  guard = map (flat_atom a c.vars) c.guard ++ equalities a c.vars;
  head = map (flat_atom a c.vars) c.head;
}
