-- Which problems are of a form that isn't decided so far: with pointers in clauses with variables, or with applications of several
-- levels in them.
use Rattle.std.specs.Prelude.{ℕ, List, [], ◌∷◌, ◌++◌, Bool, true, false, ◌&&◌, ◌||◌, not, nat_eq, if◌then◌else◌, Option, Some, None, option_and_then, position, slice_get}
use Rattle.std.specs.List.{list_any, flat_map}
use Rattle.std.specs.Str.{bytes_eq}
use Rattle.hp_names.specs.Names.{is_among}
use Rattle.hp_tree.specs.declared.term.Term.{Term}
use Rattle.hp_tree.specs.declared.term.Term.TheOpen.{Term-F}
use Rattle.hp_tree.specs.declared.problem.Atom.{Atom}
use Rattle.hp_tree.specs.declared.problem.Clause.{Clause}
use Rattle.hp_tree.specs.declared.problem.Decl.{Decl}
use Rattle.hp_tree.specs.declared.problem.Decl.TheVariants.{Const, Fun}
use Rattle.hp_tree.specs.declared.problem.Problem.{Problem}
use Rattle.hp_tree.specs.declared.problem.Sort.{Sort}
use Rattle.hp_tree.specs.declared.problem.Sort.TheVariants as sort
use Rattle.hp_tree.specs.declared.problem.Var.{Var}
use Rattle.hp_tree.specs.Value.{Word}
use Rattle.hp_terms.specs.Occurring.{joined}
use Rattle.hp_norm.specs.Opening.{mentions}
use Rattle.hp_norm.specs.Trees.{by_term}
use Rattle.hp_waiting.specs.declared.functions.Function.{Function}

abbrev pub is_ptr : Sort → Bool
is_ptr sort.Num = false
is_ptr sort.Idx = false
is_ptr sort.Ptr = true

-- ---- declared functions
-- whether a function takes or gives a pointer, and its level
abbrev pub function_of : List Sort → Sort → ℕ → Function
function_of args result level = record { pointer = list_any is_ptr args || is_ptr result; level = level }

-- the words of functions, the first declaration of each, and the functions in their order
abbrev pub with_function : List Word → Decl → List Word
with_function words (Const name s) = words
with_function words (Fun name args result level) = if is_among name words then words else words ++ name ∷ []

abbrev pub also_function : List Word → List Function → Decl → List Function
also_function words functions (Const name s) = functions
also_function words functions (Fun name args result level) = if is_among name words then functions else functions ++ function_of args result level ∷ []

abbrev pub words_from : List Word → List Decl → List Word
words_from words [] = words
words_from words (d ∷ ds) = words_from (with_function words d) ds

abbrev pub functions_from : List Word → List Function → List Decl → List Function
functions_from words functions [] = functions
functions_from words functions (d ∷ ds) = functions_from (with_function words d) (also_function words functions d) ds

abbrev pub function_named : List Decl → Word → Option Function
function_named decls word = option_and_then (λ at. slice_get (functions_from [] [] decls) at) (position (bytes_eq word) (words_from [] decls))

-- ---- applications with a variable in them
abbrev pub open_step : List Var → Term → Term-F (List Word) → List Word
open_step vars term (Term-F.Number q) = []
open_step vars term Term-F.Null = []
open_step vars term (Term-F.Name word) = []
open_step vars term (Term-F.Apply func args) = if mentions vars term then func ∷ joined args else []
open_step vars term (Term-F.Add a b) = a ++ b
open_step vars term (Term-F.Sub a b) = a ++ b
open_step vars term (Term-F.Neg a) = a
open_step vars term (Term-F.Scale q a) = a

-- their functions
abbrev pub open_functions : List Var → Term → List Word
open_functions vars = by_term (open_step vars)

abbrev pub atom_functions : List Var → Atom → List Word
atom_functions vars atom = open_functions vars atom.left ++ open_functions vars atom.right

abbrev pub clause_functions : Clause → List Word
clause_functions clause = flat_map (atom_functions clause.vars) clause.guard ++ flat_map (atom_functions clause.vars) clause.head

-- ---- problems
abbrev pub has_pointer_variable : Clause → Bool
has_pointer_variable clause = list_any (λ v. is_ptr v.sort) clause.vars

-- on this level where one is given
abbrev pub fits_level : Option ℕ → ℕ → Bool
fits_level None level = true
fits_level (Some other) level = nat_eq other level

-- without pointers, and on this level
abbrev pub is_at : Option ℕ → Option Function → Bool
is_at level None = false
is_at level (Some function) = not function.pointer && fits_level level function.level

abbrev pub level_of : Option Function → Option ℕ
level_of None = None
level_of (Some function) = Some function.level

-- all functions are without pointers, and on one level
abbrev pub are_level : List Decl → Option ℕ → List Word → Bool
are_level decls level [] = true
are_level decls level (word ∷ words) = is_at level (function_named decls word) && are_level decls (level_of (function_named decls word)) words

-- a clause has a variable of sort ptr, or an application with a variable in it has this in its signature, or two such applications have
-- different levels
abbrev pub is_waiting : Problem → Bool
is_waiting p = list_any has_pointer_variable p.clauses || not (are_level p.decls None (flat_map clause_functions p.clauses))
