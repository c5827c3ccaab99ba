-- A function by cases as a group of one function: the names that it is made for, its instances, and its table.
use Rattle.std.specs.Prelude.{◌≡◌, ◌≤◌, ℕ, List, [], ◌∷◌, map, length, position, nat_lt, if◌then◌else◌, Option, Some, None, IsTrue, true, false, slice_get}
use Rattle.std.specs.List.{All, Contains}
use Rattle.std.specs.Str.{bytes_eq}
use Rattle.hp_math.specs.Rational.{◌≤ℚ◌}
use Rattle.hp_tree.specs.Limits.{most_arguments}
use Rattle.hp_tree.specs.declared.term.Term.{Term, Apply, Name}
use Rattle.hp_tree.specs.declared.problem.Atom.{Atom}
use Rattle.hp_tree.specs.declared.problem.Sort.TheVariants.{Num}
use Rattle.hp_tree.specs.Value.{Word, Environment, Functions, value, all_true}
use Rattle.hp_names.specs.Names.{AreDistinct}
use Rattle.hp_terms.specs.Scope.{Scope}
use Rattle.hp_terms.specs.Sorting.{forms_of, has_form, is_sorted, sort_of}
use Rattle.hp_lit.specs.declared.line.Arg.TheVariants.{Named}
use Rattle.hp_lit.specs.Truth.{Values, name_value}
use Rattle.hp_defs.specs.declared.names.Signature.{Signature}
use Rattle.hp_defs.specs.Names.{NameList, function_words, words}
use Rattle.hp_model.specs.declared.structure.Table.{Table}
use Rattle.hp_local.specs.Cases.{Case as local_case, case_table}
use Rattle.hp_local.specs.Rows.{number_term}
use Rattle.hp_local.specs.Substitution.{substitute, substitute_atom}
use Rattle.hp_base.specs.Congruence.{Point}
use Rattle.hp_base.specs.Making.{Maker, in_turn}
use Rattle.hp_norm.specs.declared.flat.FlatClause.{FlatClause}
use Rattle.hp_norm.specs.Flat.{IsFlat}
use Rattle.hp_norm.specs.Scopes.{clause_scope}
use Rattle.hp_instance.specs.declared.tuple.Tuple.{Tuple}
use Rattle.hp_instance.specs.Instances.{instance}
use Rattle.hp_instance.specs.Laws.{TupleFits}
use Rattle.hp_class.specs.Frame.{facts_of, is_function, is_place}
use Rattle.hp_class.specs.Group.{Planned}
use Rattle.hp_class.specs.Points.{points}
use Rattle.hp_flatten.specs.Applications.{applications, atoms_applications}
use Rattle.hp_flatten.specs.Flattening.{argument_names, argument_vars}
use Rattle.hp_flatten.specs.Laws.{AreNum, HasPlainConstants}
use Rattle.hp_cases.specs.declared.case.Bound.{Bound}
use Rattle.hp_cases.specs.declared.case.Bound.TheVariants.{Low, High, Same}
use Rattle.hp_cases.specs.declared.case.Case.{Case}
use Rattle.hp_cases.specs.Bounds.{head_bound, head_value}

-- ---- lower functions
-- each application in the term is of one of the functions at these places
abbrev pub AppliesThese : NameList → List ℕ → Term → Type 0
AppliesThese names applied term = All (λ a. is_function names applied a.func ≡ true) (applications term)

-- the function at a place is one of num to num
pub record IsLowerFunction (names : NameList) (func : ℕ) : Type 0 where
  pub signature : Signature
  pub known : slice_get names.signatures func ≡ Some signature
  pub nums : AreNum signature.args
  pub result : signature.result ≡ Num

-- ---- clauses
abbrev pub bound_term : Bound → Term
bound_term (Low t) = t
bound_term (High t) = t
bound_term (Same t) = t

-- the case has the bound
abbrev pub HasBound : Case → Bound → Type 0
HasBound case (Low t) = case.low ≡ Some t
HasBound case (High t) = case.high ≡ Some t
HasBound case (Same t) = (case.low ≡ Some t) × (case.high ≡ Some t)

-- two guards are true together, whatever names and functions there are
abbrev pub AreSameGuards : List Atom → List Atom → Type 0
AreSameGuards guard other = (env : Environment) (functions : Functions) → all_true env functions guard ≡ all_true env functions other

-- a clause over the words of the arguments, whose guard is that of a case of the function, with a bound that the case has: its head
-- compares the function at these words with the bound, which applies lower functions alone, and its guard applies none
pub record IsCaseClause (names : NameList) (func : Word) (count : ℕ) (cases : List Case) (applied : List ℕ) (c : FlatClause) : Type 0 where
  pub flat : IsFlat names c
  pub vars : c.vars ≡ argument_vars count
  pub bound : Bound
  pub head : head_bound func c.head ≡ Some bound
  pub value : head_value func c.head ≡ Some (Apply func (argument_names count))
  pub lower : AppliesThese names applied (bound_term bound)
  pub nums : All (λ a. sort_of (clause_scope names c.vars) a ≡ Num) c.guard
  pub bare : atoms_applications c.guard ≡ []
  pub case : Case
  pub among : Contains cases case
  pub has : HasBound case bound
  pub guard : AreSameGuards c.guard case.guard

-- ---- cases
-- no names and functions make both guards true
abbrev pub AreApart : Case → Case → Type 0
AreApart j k = (env : Environment) (functions : Functions) → IsTrue (all_true env functions j.guard) → IsTrue (all_true env functions k.guard) → ⊥

abbrev pub AreDisjoint : List Case → Type 0
AreDisjoint [] = Unit {0}
AreDisjoint (case ∷ cases) = All (AreApart case) cases × AreDisjoint cases

-- none make the guard true with the bounds out of order
abbrev pub IsInOrder : Case → Type 0
IsInOrder case = (s t : Term) → case.low ≡ Some s → case.high ≡ Some t → (env : Environment) (functions : Functions) → IsTrue (all_true env functions case.guard)
    → value env functions s ≤ℚ value env functions t

-- an atom of num names, without applications
pub record IsNumAtom (scope : Scope) (atom : Atom) : Type 0 where
  pub sorted : is_sorted scope Num atom ≡ true
  pub left : applications atom.left ≡ []
  pub right : applications atom.right ≡ []

-- a num term, which applies the functions at these places alone
pub record IsNumTerm (names : NameList) (applied : List ℕ) (scope : Scope) (term : Term) : Type 0 where
  pub sorted : has_form (forms_of scope term) Num ≡ true
  pub lower : AppliesThese names applied term

abbrev pub IsNumBound : NameList → List ℕ → Scope → Option Term → Type 0
IsNumBound names applied scope None = Unit {0}
IsNumBound names applied scope (Some term) = IsNumTerm names applied scope term

-- over names and the words of so many arguments
pub record IsNumCase (names : NameList) (count : ℕ) (applied : List ℕ) (case : Case) : Type 0 where
  pub guard : All (IsNumAtom (clause_scope names (argument_vars count))) case.guard
  pub low : IsNumBound names applied (clause_scope names (argument_vars count)) case.low
  pub high : IsNumBound names applied (clause_scope names (argument_vars count)) case.high

-- ---- a function by cases
-- the function at a place, of num to num, with its word, its number of arguments, its clauses, their cases, and the lower functions
-- that their bounds apply
pub record IsByCases (names : NameList) (func : ℕ) (word : Word) (count : ℕ) (clauses : List FlatClause) (cases : List Case) (applied funcs : List ℕ) : Type 0 where
  pub signature : Signature
  pub known : slice_get names.signatures func ≡ Some signature
  pub name : signature.name ≡ word
  pub arguments : length signature.args ≡ count
  pub nums : AreNum signature.args
  pub result : signature.result ≡ Num
  pub few : count ≤ most_arguments
  pub constants : HasPlainConstants names
  pub distinct : AreDistinct (function_words names)
  pub own : funcs ≡ func ∷ []
  pub lower : All (IsLowerFunction names) applied
  pub others : is_place applied func ≡ false
  pub all : All (IsCaseClause names word count cases applied) clauses
  pub sorted : All (IsNumCase names count applied) cases
  pub apart : AreDisjoint cases
  pub ordered : All IsInOrder cases

-- ---- instances
-- the arguments of an application for the words of arguments; its name is shown
abbrev pub point_tuple : Point → Tuple
point_tuple p = record { args = p.args; shown = Named p.name ∷ [] }

-- each clause at each application of the function
abbrev pub cases_plan : ℕ → List FlatClause → NameList → List Planned
cases_plan func clauses names = map (λ c. record { clause = c; tuples = map point_tuple (points func names.definitions) }) clauses

-- a flat clause, and tuples that fit it
pub record FitsTuples (names : NameList) (tuples : List Tuple) (c : FlatClause) : Type 0 where
  pub flat : IsFlat names c
  pub tuples_fit : All (λ t. TupleFits names c t.args) tuples

-- the lines of a clause at tuples
abbrev pub clause_lines : List Tuple → FlatClause → Maker (Unit {0})
clause_lines tuples c = in_turn (instance c) tuples

-- ---- its table
-- a definition has its value in a table, and every other word stays
abbrev pub valued : NameList → Values → Word → Option ℕ → Term
valued names v word None = Name word
valued names v word (Some n) = if nat_lt n (length names.constants) then Name word else number_term (name_value v n)

abbrev pub word_term : NameList → Values → Word → Term
word_term names v word = valued names v word (position (bytes_eq word) (words names))

abbrev pub table_bound : NameList → Values → Option Term → Option Term
table_bound names v None = None
table_bound names v (Some t) = Some (substitute (word_term names v) t)

abbrev pub table_case : NameList → Values → Case → local_case
table_case names v case = record {
  guard = map (substitute_atom (word_term names v)) case.guard;
  low = table_bound names v case.low;
  high = table_bound names v case.high;
}

-- rows for the points first, and then one for each case
abbrev pub cases_tables : ℕ → Word → ℕ → List Case → NameList → Values → List Table
cases_tables func word count cases names v = case_table word count (facts_of func word names v) (map (table_case names v) cases) ∷ []
