-- A flattened clause holds at all values of its variables exactly where its source does.
use Rattle.std.proofs.Common.{◌≡◌, ◌&&◌, ◌||◌, ◌≤◌, not, ℕ, Bool, true, false, List, [], ◌∷◌, ◌++◌, map, length, Some, IsTrue, refl, sym, ap, subst, ◌∙◌, arith}
use Rattle.std.specs.Prelude.{if◌then◌else◌}
use Rattle.std.specs.List.{All, list_all}
use Rattle.std.specs.Str.{bytes_eq}
use Rattle.std.proofs.lemmas.Bool.{and_parts, and_right}
use Rattle.std.proofs.lemmas.List.{length-append}
use Rattle.std.proofs.lemmas.List.Elements.{All-nil, All-cons, All-head, All-tail, All-append}
use Rattle.std.proofs.lemmas.Slice.Eq.{bytes_eq-Decides}
use Rattle.hp_math.specs.Rational.{ℚ}
use Rattle.hp_tree.specs.declared.term.Term.{Term, Apply}
use Rattle.hp_tree.specs.declared.problem.Atom.{Atom}
use Rattle.hp_tree.specs.declared.problem.Sort.{Sort}
use Rattle.hp_tree.specs.declared.problem.Var.{Var}
use Rattle.hp_tree.specs.Universal.{HoldsAll, assign, clause_at}
use Rattle.hp_tree.specs.Value.{Environment, Functions, Word, all_true, atom_is_true, compares, one_true, value}
use Rattle.hp_terms.specs.Occurring.{joined}
use Rattle.hp_terms.specs.Scope.{Scope}
use Rattle.hp_terms.specs.Sorting.{sort_of}
use Rattle.hp_terms.specs.Laws.{HasSort}
use Rattle.hp_defs.specs.Names.{NameList}
use Rattle.hp_local.proofs.Terms.{apply_value}
use Rattle.hp_norm.specs.declared.flat.FlatClause.{FlatClause}
use Rattle.hp_norm.specs.Flat.{universal_of}
use Rattle.hp_norm.specs.Opening.{is_variable}
use Rattle.hp_norm.specs.Scopes.{clause_scope}
use Rattle.hp_norm.proofs.AtomsNamed.{IsSortedIn, has_sides}
use Rattle.hp_flatten.specs.declared.application.Application.{Application}
use Rattle.hp_flatten.specs.Applications.{applications, atoms_applications}
use Rattle.hp_flatten.specs.Flattening.{argument_names, argument_vars, equalities, flat_atom, flat_term, flat_word, flattened, is_argument, is_plain_argument, place_of, placed_word}
use Rattle.hp_flatten.specs.Laws.{FlattenedHolds, IsFlattenableClause}
use Rattle.hp_flatten.proofs.HoldsWords.{clause_word_other, keeps_value, other_keeps_value, values_by, values_sorted, variable_value}
use Rattle.hp_flatten.proofs.HoldsReads.{AreRead, IsSame, all_joined, argument_values, assigned_read, assigned_sorted, equal_read, names_read, placed_read, read_equal, variable_placed}
use Rattle.hp_flatten.proofs.HoldsTerms.{HasBareArguments, back, few_bare, flat_term_same, front}

-- ---- the application of a clause
module _ (scope : Scope) where
  abbrev Bare : Application → Type 0
  Bare = HasBareArguments scope

  sides_sorted : (atom : Atom) → IsSortedIn scope atom → HasSort scope atom.left × HasSort scope atom.right
  sides_sorted atom sorted =
      let sides = has_sides scope (sort_of scope atom) atom sorted in
      (record { sort = sort_of scope atom; is = sides.left }, record { sort = sort_of scope atom; is = sides.right })

  atoms_bare : (atoms : List Atom) → All (IsSortedIn scope) atoms → length (atoms_applications atoms) ≤ 1 → All Bare (atoms_applications atoms)
  atoms_bare [] sorted few = All-nil Bare
  atoms_bare (atom ∷ atoms) sorted few =
      let own = applications atom.left ++ applications atom.right in
      let sum = length-append own (atoms_applications atoms) in
      let parts = length-append (applications atom.left) (applications atom.right) in
      let sides = sides_sorted atom (All-head (IsSortedIn scope) atom atoms sorted) in
      All-append Bare own (atoms_applications atoms)
      (All-append Bare (applications atom.left) (applications atom.right) (few_bare scope atom.left sides.0 (omega arith)) (few_bare scope atom.right sides.1 (omega arith)))
      (atoms_bare atoms (All-tail (IsSortedIn scope) atom atoms sorted) (omega arith))

  one_bare : (guard head : List Atom) (a : Application) → All (IsSortedIn scope) guard → All (IsSortedIn scope) head → atoms_applications guard ++ atoms_applications head ≡ a ∷ [] → Bare a
  one_bare guard head a sorted heads one =
      let sum = length-append (atoms_applications guard) (atoms_applications head) in
      let count : length (atoms_applications guard ++ atoms_applications head) ≡ 1 = ap length one in
      All-head Bare a [] (subst (All Bare) one
      (All-append Bare (atoms_applications guard) (atoms_applications head) (atoms_bare guard sorted (omega arith)) (atoms_bare head heads (omega arith))))

-- ---- the same truth
module _ (scope : Scope) (a : Application) (vars : List Var) (inner outer : Environment) (functions : Functions)
    (words_same : (word : Word) (sort : Sort) → scope.name word ≡ Some sort → inner (flat_word vars a.args word) ≡ outer word) where
  abbrev Never : Application → Type 0
  Never x = ⊥

  args_same : (args : List Term) → All (HasSort scope) args → All Never (joined (map applications args)) → All (IsSame scope a vars inner outer functions) args
  args_same [] sorted never = All-nil (IsSame scope a vars inner outer functions)
  args_same (t ∷ args) sorted never =
      let own = All-head (HasSort scope) t args sorted in
      let same = flat_term_same scope a vars inner outer functions Never words_same (λ func xs flats f. absurd f) t own (front Never (applications t) (joined (map applications args)) never) in
      All-cons (IsSame scope a vars inner outer functions) t args (own, same)
      (args_same args (All-tail (HasSort scope) t args sorted) (back Never (applications t) (joined (map applications args)) never))

  -- arguments without applications
  pub bare_same : HasBareArguments scope a → All (IsSame scope a vars inner outer functions) a.args
  bare_same bare = args_same a.args bare.sorted (subst (All Never) (sym bare.none) (All-nil Never))

  module _ (few : length a.args ≤ 4) (read : AreRead inner outer functions 0 a.args) where
    abbrev IsIt : Application → Type 0
    IsIt x = x ≡ a

    applied : (func : Word) (args flats : List Term) → record { func = func; args = args } ≡ a
        → value inner functions (Apply func (if bytes_eq func a.func then argument_names (length a.args) else flats)) ≡ functions func (map (value outer functions) args)
    applied func args flats is =
        let test : bytes_eq func a.func ≡ true = (bytes_eq-Decides func a.func).1 (ap (λ (x : Application). x.func) is) in
        ap (λ b. value inner functions (Apply func (if b then argument_names (length a.args) else flats))) test
        ∙ apply_value inner functions func (argument_names (length a.args))
        ∙ ap (functions func) (names_read inner outer functions a.args few read ∙ ap (λ (x : Application). map (value outer functions) x.args) (sym is))

    term_same : (t : Term) → HasSort scope t → All IsIt (applications t) → value inner functions (flat_term a vars t) ≡ value outer functions t
    term_same = flat_term_same scope a vars inner outer functions IsIt words_same applied

    atom_same : (atom : Atom) → IsSortedIn scope atom → All IsIt (applications atom.left ++ applications atom.right) → atom_is_true inner functions (flat_atom a vars atom) ≡ atom_is_true outer functions atom
    atom_same atom sorted it =
        let sides = sides_sorted scope atom sorted in
        let left = term_same atom.left sides.0 (front IsIt (applications atom.left) (applications atom.right) it) in
        let right = term_same atom.right sides.1 (back IsIt (applications atom.left) (applications atom.right) it) in
        λ i. compares atom.cmp (left i) (right i)

    all_same : (atoms : List Atom) → All (IsSortedIn scope) atoms → All IsIt (atoms_applications atoms) → all_true inner functions (map (flat_atom a vars) atoms) ≡ all_true outer functions atoms
    all_same [] sorted it = refl
    all_same (atom ∷ atoms) sorted it =
        let own = applications atom.left ++ applications atom.right in
        let first = atom_same atom (All-head (IsSortedIn scope) atom atoms sorted) (front IsIt own (atoms_applications atoms) it) in
        let rest = all_same atoms (All-tail (IsSortedIn scope) atom atoms sorted) (back IsIt own (atoms_applications atoms) it) in
        λ i. first i && rest i

    one_same : (atoms : List Atom) → All (IsSortedIn scope) atoms → All IsIt (atoms_applications atoms) → one_true inner functions (map (flat_atom a vars) atoms) ≡ one_true outer functions atoms
    one_same [] sorted it = refl
    one_same (atom ∷ atoms) sorted it =
        let own = applications atom.left ++ applications atom.right in
        let first = atom_same atom (All-head (IsSortedIn scope) atom atoms sorted) (front IsIt own (atoms_applications atoms) it) in
        let rest = one_same atoms (All-tail (IsSortedIn scope) atom atoms sorted) (back IsIt own (atoms_applications atoms) it) in
        λ i. first i || rest i

    and_true : (b : Bool) → (b && true) ≡ b
    and_true true = refl
    and_true false = refl

    -- a clause with this one application, and its equalities true
    pub truth_same : (guard head : List Atom) → All (IsSortedIn scope) guard → All (IsSortedIn scope) head → atoms_applications guard ++ atoms_applications head ≡ a ∷ []
        → all_true inner functions (equalities a vars) ≡ true
        → (not (all_true inner functions (map (flat_atom a vars) guard ++ equalities a vars)) || one_true inner functions (map (flat_atom a vars) head))
        ≡ (not (all_true outer functions guard) || one_true outer functions head)
    truth_same guard head sorted heads one equal =
        let it : All IsIt (atoms_applications guard ++ atoms_applications head) = subst (All IsIt) (sym one) (All-cons IsIt a [] refl (All-nil IsIt)) in
        let first = all_same guard sorted (front IsIt (atoms_applications guard) (atoms_applications head) it) in
        let last = one_same head heads (back IsIt (atoms_applications guard) (atoms_applications head) it) in
        let whole = all_joined inner functions (map (flat_atom a vars) guard) (equalities a vars) ∙ (λ i. first i && equal i) ∙ and_true (all_true outer functions guard) in
        λ i. not (whole i) || last i

-- ---- the law
module _ (names : NameList) (c : FlatClause) (a : Application) (size : ℕ) (env : Environment) (functions : Functions) (h : IsFlattenableClause names c a) where
  abbrev own_scope : Scope
  own_scope = clause_scope names c.vars

  abbrev at_place : Word → Word
  at_place word = flat_word c.vars a.args word

  bare : HasBareArguments own_scope a
  bare = one_bare own_scope c.guard c.head a h.flat.guard h.flat.head h.one

  all_arguments : list_all (is_argument a.args) c.vars ≡ true
  all_arguments = (and_parts (list_all (is_plain_argument c.vars) a.args) (list_all (is_argument a.args) c.vars) h.arguments).1

  -- the words of arguments have these values, and so have the variables
  abbrev inner_at : List ℚ → Environment
  inner_at xs = assign (argument_vars (length a.args)) xs env

  abbrev outer_at : List ℚ → Environment
  outer_at ys = assign c.vars ys env

  -- what is no variable keeps its value on both sides
  words_same : (xs ys : List ℚ) → ((word : Word) → is_variable c.vars word ≡ true → inner_at xs (at_place word) ≡ outer_at ys word)
      → (word : Word) (s : Sort) → own_scope.name word ≡ Some s → inner_at xs (at_place word) ≡ outer_at ys word
  words_same xs ys variables word s e = by (is_variable c.vars word) refl
    where
      by : (b : Bool) → is_variable c.vars word ≡ b → inner_at xs (at_place word) ≡ outer_at ys word
      by true f = variables word f
      by false f =
          ap (λ b. inner_at xs (if b then placed_word word (place_of a.args word) else word)) f
          ∙ other_keeps_value (length a.args) xs env word (clause_word_other names c.vars word s h.constants f e)
          ∙ sym (keeps_value c.vars ys env word f)

  -- at values of its variables it is true where the flattened clause is at those of the arguments
  source_holds : HoldsAll size env functions (universal_of (flattened a c)) → HoldsAll size env functions (universal_of c)
  source_holds holds ys sorted =
      sym (truth_same own_scope a c.vars (inner_at xs) (outer_at ys) functions same h.few read c.guard c.head h.flat.guard h.flat.head h.one equal)
      ∙ holds xs (assigned_sorted (outer_at ys) env functions size a.args h.few)
    where
      xs : List ℚ
      xs = argument_values (outer_at ys) env functions a.args

      read : AreRead (inner_at xs) (outer_at ys) functions 0 a.args
      read = assigned_read (outer_at ys) env functions a.args h.few

      variables : (word : Word) → is_variable c.vars word ≡ true → inner_at xs (at_place word) ≡ outer_at ys word
      variables word e =
          let place = variable_placed a.args c.vars word all_arguments e in
          (λ i. inner_at xs (if e i then placed_word word (place.1 i) else word)) ∙ placed_read (inner_at xs) (outer_at ys) functions a.args word place.0 read place.1

      same : (word : Word) (s : Sort) → own_scope.name word ≡ Some s → inner_at xs (at_place word) ≡ outer_at ys word
      same = words_same xs ys variables

      equal : all_true (inner_at xs) functions (equalities a c.vars) ≡ true
      equal = read_equal own_scope a c.vars (inner_at xs) (outer_at ys) functions same 0 a.args (bare_same own_scope a c.vars (inner_at xs) (outer_at ys) functions same bare) read

  -- where an equality is false the flattened clause is true, and else it is true where its source is at the values of its variables
  flattened_true : HoldsAll size env functions (universal_of c) → (xs : List ℚ) → (b : Bool) → all_true (inner_at xs) functions (equalities a c.vars) ≡ b
      → IsTrue (clause_at env functions (universal_of (flattened a c)) xs)
  flattened_true holds xs false e =
      let guard = map (flat_atom a c.vars) c.guard in
      let none = all_joined (inner_at xs) functions guard (equalities a c.vars) ∙ and_right (all_true (inner_at xs) functions guard) (all_true (inner_at xs) functions (equalities a c.vars)) e in
      λ i. not (none i) || one_true (inner_at xs) functions (map (flat_atom a c.vars) c.head)
  flattened_true holds xs true e =
      truth_same own_scope a c.vars (inner_at xs) (outer_at ys) functions same h.few read c.guard c.head h.flat.guard h.flat.head h.one e
      ∙ holds ys (values_sorted size reading a.args c.vars all_arguments)
    where
      reading : Word → ℚ
      reading word = inner_at xs (at_place word)

      ys : List ℚ
      ys = values_by reading c.vars

      same : (word : Word) (s : Sort) → own_scope.name word ≡ Some s → inner_at xs (at_place word) ≡ outer_at ys word
      same = words_same xs ys (λ word e. sym (variable_value reading c.vars env word e))

      read : AreRead (inner_at xs) (outer_at ys) functions 0 a.args
      read = equal_read own_scope a c.vars (inner_at xs) (outer_at ys) functions same 0 a.args (bare_same own_scope a c.vars (inner_at xs) (outer_at ys) functions same bare) e

pub flattened_holds : FlattenedHolds
flattened_holds names c a size env functions h = (
  λ holds xs sorted. flattened_true names c a size env functions h holds xs (all_true (assign (argument_vars (length a.args)) xs env) functions (equalities a c.vars)) refl,
  source_holds names c a size env functions h,
)
