-- A group of pointer fields: the names that it is made for, its instances, and its tables.
use Rattle.std.specs.Prelude.{◌≡◌, ◌≤◌, ◌<◌, ℕ, suc, pos, List, [], ◌∷◌, ◌++◌, map, filter, length, Bool, true, false, IsTrue, if◌then◌else◌, Option, Some, None, slice_get}
use Rattle.std.specs.List.{All, AllZip, Contains}
use Rattle.hp_math.specs.Rational.{ℚ, whole, lt_ℚ}
use Rattle.hp_tree.specs.Limits.{most_variables}
use Rattle.hp_tree.specs.declared.problem.Sort.{Sort}
use Rattle.hp_tree.specs.declared.problem.Sort.TheVariants.{Num, Idx, Ptr}
use Rattle.hp_tree.specs.Sorted.{is_of_sort}
use Rattle.hp_tree.specs.Value.{Word}
use Rattle.hp_lit.specs.declared.line.Arg.{Arg}
use Rattle.hp_lit.specs.declared.line.Arg.TheVariants.{Named, Null}
use Rattle.hp_lit.specs.declared.line.Def.{Def}
use Rattle.hp_lit.specs.Truth.{Values}
use Rattle.hp_defs.specs.declared.names.Signature.{Signature}
use Rattle.hp_defs.specs.Made.{IsMade}
use Rattle.hp_defs.specs.Names.{BeginsNames, NameList, sorts}
use Rattle.hp_model.specs.declared.structure.Table.{Table}
use Rattle.hp_local.specs.Fields.{cut, field_table}
use Rattle.hp_local.specs.Ordered.{first_argument}
use Rattle.hp_base.specs.Congruence.{body_args}
use Rattle.hp_base.specs.Values.{arg_value, arg_values}
use Rattle.hp_norm.specs.declared.flat.FlatClause.{FlatClause}
use Rattle.hp_norm.specs.Flat.{IsFlat}
use Rattle.hp_norm.specs.Scopes.{function_profile}
use Rattle.hp_class.specs.Frame.{definition_facts, is_function}
use Rattle.hp_class.specs.Group.{Planned}
use Rattle.hp_flatten.specs.Applications.{clause_applications}
use Rattle.hp_tuple_lines.specs.TupleLines.{tuples_plan}
use Rattle.hp_null_guards.specs.Laws.{IsFieldRead, IsFieldSort}
use Rattle.hp_null_guards.specs.Rules.{gives_pointer, has_null_guards, is_over_pointers}

-- ---- pointers
-- the names of sort ptr, of which the first one has this number
abbrev pub pointer_at : ℕ → Sort → List Arg
pointer_at n Num = []
pointer_at n Idx = []
pointer_at n Ptr = Named (record { 0 = n }) ∷ []

abbrev pub pointers_from : ℕ → List Sort → List Arg
pointers_from n [] = []
pointers_from n (sort ∷ sorts) = pointer_at n sort ++ pointers_from (suc n) sorts

-- null, and the names of sort ptr in their order
abbrev pub pointer_terms : NameList → List Arg
pointer_terms names = Null ∷ pointers_from 0 (sorts names)

-- their values are those of a universe of so many pointers
pub record IsUniverse (size : ℕ) (v : Values) (terms : List Arg) : Type 0 where
  pub inside : All (λ x. IsTrue (is_of_sort size Ptr (arg_value v x))) terms
  pub all : (n : ℕ) → n < size → Contains (map (arg_value v) terms) (whole (pos n))

-- ---- the group
-- the function at a place, of ptr to ptr or to num, with its word
pub record IsField (names : NameList) (func : ℕ) (word : Word) : Type 0 where
  pub signature : Signature
  pub known : slice_get names.signatures func ≡ Some signature
  pub name : signature.name ≡ word
  pub arguments : signature.args ≡ Ptr ∷ []
  pub result : IsFieldSort signature.result

-- a flat clause of few variables that keeps the rules and applies functions of the group and lower ones alone
pub record IsFieldClause (names : NameList) (own applied : List ℕ) (c : FlatClause) : Type 0 where
  pub flat : IsFlat names c
  pub few : length c.vars ≤ most_variables
  pub over : is_over_pointers names c ≡ true
  pub guards : has_null_guards names c ≡ true
  pub reads : All (IsFieldRead names (λ word. is_function names own word) c.vars) (clause_applications c)
  pub owned : All (λ a. is_function names (own ++ applied) a.func ≡ true) (clause_applications c)

-- functions of a group with their words, the lower functions and the clauses
pub record IsFieldsFor (names : NameList) (own : List ℕ) (words : List Word) (applied : List ℕ) (clauses : List FlatClause) : Type 0 where
  pub functions : AllZip (IsField names) own words
  pub all : All (IsFieldClause names own applied) clauses
  pub apart : (word : Word) → IsTrue (is_function names applied word) → is_function names own word ≡ false

-- the same over the first names, whose pointers are these
pub record IsFieldGroup (names : NameList) (own : List ℕ) (words : List Word) (applied : List ℕ) (clauses : List FlatClause) (terms : List Arg) : Type 0 where
  pub front : NameList
  pub begins : BeginsNames front names
  pub made : IsMade front
  pub is : IsFieldsFor front own words applied clauses
  pub terms_are : terms ≡ pointer_terms front

-- ---- instances
-- each clause at all tuples over the pointers
abbrev pub fields_plan : List FlatClause → List Arg → NameList → List Planned
fields_plan clauses terms names = tuples_plan terms clauses

-- ---- tables
-- a function gives a pointer
abbrev pub gives : NameList → Word → Bool
gives names word = gives_pointer (function_profile names word)

-- a row for each pointer of the universe at which there is an application, whose value is null where it is a pointer outside
abbrev pub fields_tables : ℕ → List Word → NameList → Values → List Table
fields_tables size words names v = map (field_table size (gives names) (definition_facts names.signatures v names.definitions)) words

-- the places of applications whose argument is in the universe
abbrev pub is_inside : ℕ → Values → Option Def → Bool
is_inside size v None = false
is_inside size v (Some d) = lt_ℚ (first_argument (arg_values v (body_args d.body))) (whole (pos size))

abbrev pub inside_places : ℕ → Values → List Def → List ℕ → List ℕ
inside_places size v ds places = filter (λ place. is_inside size v (slice_get ds place)) places

-- each value, or null for one past the universe
abbrev pub cut_values : ℕ → Values → Values
cut_values size v = map (cut size) v
