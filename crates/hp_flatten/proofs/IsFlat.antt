-- A flattened clause is flat.
use Rattle.std.proofs.Common.{◌≡◌, ◌&&◌, ◌+◌, ◌<◌, ◌≤◌, ℕ, suc, Bool, true, false, List, [], ◌∷◌, ◌++◌, map, take, length, Option, Some, refl, sym, ap, subst, ◌∙◌, arith}
use Rattle.std.specs.Prelude.{if◌then◌else◌, option_map, unwrap_or}
use Rattle.std.specs.List.{All, AllZip, list_all}
use Rattle.std.specs.Option.{option_or}
use Rattle.std.proofs.lemmas.Bool.{and_from, and_parts}
use Rattle.std.proofs.lemmas.List.{length-map}
use Rattle.std.proofs.lemmas.List.Elements.{All-nil, All-cons, All-head, All-tail, All-append, All-map, All-weaker}
use Rattle.hp_tree.specs.declared.term.Term.{Term, Name}
use Rattle.hp_tree.specs.declared.problem.Atom.{Atom}
use Rattle.hp_tree.specs.declared.problem.Cmp.TheVariants.{Eq}
use Rattle.hp_tree.specs.declared.problem.Sort.{Sort}
use Rattle.hp_tree.specs.declared.problem.Sort.TheVariants.{Num}
use Rattle.hp_tree.specs.Value.{Word}
use Rattle.hp_terms.specs.Scope.{Profile, Scope}
use Rattle.hp_terms.specs.Sorting.{first_sort, fit, forms_of, has_form, is_sorted, name_forms, relates, sort_of}
use Rattle.hp_terms.specs.Weight.{IsLightAtom, largest_offset, weight, weights}
use Rattle.hp_terms.specs.Laws.{HasSort}
use Rattle.hp_terms.specs.Occurring.{joined}
use Rattle.hp_terms.proofs.Weights.{each_within}
use Rattle.hp_base.specs.Lines.{flat_scope}
use Rattle.hp_defs.specs.Names.{NameList, profile_of}
use Rattle.hp_local.specs.Rows.{argument_words}
use Rattle.hp_norm.specs.declared.flat.FlatClause.{FlatClause}
use Rattle.hp_norm.specs.Flat.{IsFlat}
use Rattle.hp_norm.specs.Scopes.{clause_scope, variable_sort}
use Rattle.hp_norm.proofs.AtomsNamed.{IsSortedIn, has_sides}
use Rattle.hp_flatten.specs.declared.application.Application.{Application}
use Rattle.hp_flatten.specs.Applications.{applications, atoms_applications}
use Rattle.hp_flatten.specs.Flattening.{argument_names, argument_vars, argument_word, equalities, equalities_from, equality, flat_atom, flat_term, flattened, is_argument, is_first, is_plain_argument}
use Rattle.hp_flatten.specs.Laws.{AreNum, FlattenedIsFlat, IsFlattenableClause}
use Rattle.hp_flatten.proofs.HoldsTerms.{back, front}
use Rattle.hp_flatten.proofs.One.{one_has_none}
use Rattle.hp_flatten.proofs.IsFlatTerms.{IsPlaced, KeepsTerm, name_first, name_has, name_weighs, term_keeps, term_placed}
use Rattle.hp_flatten.proofs.IsFlatWords.{name_kept, word_num, words_count, words_distinct, words_fresh, words_num, words_plain}

-- ---- num terms
abbrev IsNumTerm : Scope → Term → Type 0
IsNumTerm scope t = has_form (forms_of scope t) Num ≡ true

abbrev IsNum : Sort → Type 0
IsNum s = s ≡ Num

each_num : (scope : Scope) (args : List Term) (sorts : List Sort) → AreNum sorts → AllZip (λ arg place. has_form (forms_of scope arg) place ≡ true) args sorts → All (IsNumTerm scope) args
each_num scope [] [] nums each = All-nil (IsNumTerm scope)
each_num scope [] (s ∷ sorts) nums each = absurd each
each_num scope (t ∷ args) [] nums each = absurd each
each_num scope (t ∷ args) (s ∷ sorts) nums each =
    All-cons (IsNumTerm scope) t args (ap (has_form (forms_of scope t)) (sym (All-head IsNum s sorts nums)) ∙ each.0) (each_num scope args sorts (All-tail IsNum s sorts nums) each.1)

-- num terms fit num places
num_fit : (scope : Scope) (terms : List Term) (sorts : List Sort) → All (IsNumTerm scope) terms → AreNum sorts → length terms ≡ length sorts → fit (map (forms_of scope) terms) sorts ≡ true
num_fit scope [] [] own nums same = refl
num_fit scope [] (s ∷ sorts) own nums same = absurd (omega (arith, same))
num_fit scope (t ∷ terms) [] own nums same = absurd (omega (arith, same))
num_fit scope (t ∷ terms) (s ∷ sorts) own nums same =
    and_from (has_form (forms_of scope t) s) (fit (map (forms_of scope) terms) sorts)
    (ap (has_form (forms_of scope t)) (All-head IsNum s sorts nums) ∙ All-head (IsNumTerm scope) t terms own)
    (num_fit scope terms sorts (All-tail (IsNumTerm scope) t terms own) (All-tail IsNum s sorts nums) (omega (arith, same)))

num_name : (scope : Scope) (word : Word) → scope.name word ≡ Some Num → IsNumTerm scope (Name word)
num_name scope word e = ap (λ f. has_form f Num) (name_has scope word) ∙ ap (λ o. has_form (name_forms o) Num) e

-- ---- where the application of a clause stands
module _ (scope : Scope) where
  abbrev Placed : Application → Type 0
  Placed = IsPlaced scope largest_offset

  sides_sorted : (atom : Atom) → IsSortedIn scope atom → HasSort scope atom.left × HasSort scope atom.right
  sides_sorted atom sorted =
      let sides = has_sides scope (sort_of scope atom) atom sorted in
      (record { sort = sort_of scope atom; is = sides.left }, record { sort = sort_of scope atom; is = sides.right })

  atoms_placed : (atoms : List Atom) → All (IsSortedIn scope) atoms → All IsLightAtom atoms → All Placed (atoms_applications atoms)
  atoms_placed [] sorted light = All-nil Placed
  atoms_placed (atom ∷ atoms) sorted light =
      let sides = sides_sorted atom (All-head (IsSortedIn scope) atom atoms sorted) in
      let under = All-head IsLightAtom atom atoms light in
      All-append Placed (applications atom.left ++ applications atom.right) (atoms_applications atoms)
      (All-append Placed (applications atom.left) (applications atom.right)
      (term_placed scope largest_offset atom.left sides.0 (omega (arith, under))) (term_placed scope largest_offset atom.right sides.1 (omega (arith, under))))
      (atoms_placed atoms (All-tail (IsSortedIn scope) atom atoms sorted) (All-tail IsLightAtom atom atoms light))

-- ---- the law
module _ (names : NameList) (c : FlatClause) (a : Application) (h : IsFlattenableClause names c a) where
  abbrev own : Scope
  own = clause_scope names c.vars

  abbrev now : Scope
  now = clause_scope names (argument_vars (length a.args))

  abbrev profile : Profile
  profile = profile_of h.signature

  known : own.function a.func ≡ Some profile
  known = ap (option_map profile_of) h.known

  all_arguments : list_all (is_argument a.args) c.vars ≡ true
  all_arguments = (and_parts (list_all (is_plain_argument c.vars) a.args) (list_all (is_argument a.args) c.vars) h.arguments).1

  placed : IsPlaced own largest_offset a
  placed =
      All-head (Placed own) a [] (subst (All (Placed own)) h.one
      (All-append (Placed own) (atoms_applications c.guard) (atoms_applications c.head) (atoms_placed own c.guard h.flat.guard h.flat.guard_light) (atoms_placed own c.head h.flat.head h.flat.head_light)))

  same_profile : placed.follows.profile ≡ profile
  same_profile = let e : Some placed.follows.profile ≡ Some profile = sym placed.follows.known ∙ known in cc

  args_num : All (IsNumTerm own) a.args
  args_num = each_num own a.args placed.follows.profile.args (subst (λ (p : Profile). AreNum p.args) (sym same_profile) h.nums) placed.follows.each

  -- the words of arguments at the places of the function
  word_is_num : (word : Word) → variable_sort (argument_vars (length a.args)) word ≡ Some Num → IsNumTerm now (Name word)
  word_is_num word e = num_name now word (ap (λ (o : Option Sort). option_or o ((flat_scope names).name word)) e)

  names_num : All (IsNumTerm now) (argument_names (length a.args))
  names_num =
      All-map (IsNumTerm now) Name (take (length a.args) argument_words)
      (All-weaker (λ word. variable_sort (argument_vars (length a.args)) word ≡ Some Num) (λ word. IsNumTerm now (Name word)) word_is_num (take (length a.args) argument_words) (words_num (length a.args) h.few))

  fits : fit (map (forms_of now) (argument_names (length a.args))) profile.args ≡ true
  fits =
      num_fit now (argument_names (length a.args)) profile.args names_num h.nums
      (length-map (take (length a.args) argument_words) Name ∙ words_count (length a.args) h.few ∙ placed.follows.count ∙ ap (λ (p : Profile). length p.args) same_profile)

  -- ---- terms and atoms
  abbrev flat : Term → Term
  flat = flat_term a c.vars

  abbrev IsIt : Application → Type 0
  IsIt x = x ≡ a

  keeps : (t : Term) → HasSort own t → All IsIt (applications t) → KeepsTerm own now t (flat t)
  keeps = term_keeps own now a c.vars (λ word s e. name_kept names c.vars a.args word s h.constants h.few all_arguments e) (λ word. refl) (λ q e. e) profile known fits

  abbrev IsGood : Atom → Type 0
  IsGood atom = IsSortedIn now atom × IsLightAtom atom

  atom_good : (atom : Atom) → IsSortedIn own atom → IsLightAtom atom → All IsIt (applications atom.left ++ applications atom.right) → IsGood (flat_atom a c.vars atom)
  atom_good atom sorted light it =
      let sides = sides_sorted own atom sorted in
      let left = keeps atom.left sides.0 (front IsIt (applications atom.left) (applications atom.right) it) in
      let right = keeps atom.right sides.1 (back IsIt (applications atom.left) (applications atom.right) it) in
      let sort = sort_of own atom in
      let has = has_sides own sort atom sorted in
      let first : sort ≡ sort_of now (flat_atom a c.vars atom) = λ i. unwrap_or (option_or (left.first i) (right.first i)) Num in
      let both = and_from (has_form (forms_of now (flat atom.left)) sort) (has_form (forms_of now (flat atom.right)) sort) (left.forms.sorts sort has.left) (right.forms.sorts sort has.right) in
      let all = and_from (has_form (forms_of now (flat atom.left)) sort && has_form (forms_of now (flat atom.right)) sort) (relates sort atom.cmp) both has.related in
      let less = left.light in
      let fewer = right.light in
      (subst (λ (s : Sort). is_sorted now s (flat_atom a c.vars atom) ≡ true) first all, omega (arith, light, less, fewer))

  atoms_good : (atoms : List Atom) → All (IsSortedIn own) atoms → All IsLightAtom atoms → All IsIt (atoms_applications atoms) → All IsGood (map (flat_atom a c.vars) atoms)
  atoms_good [] sorted light it = All-nil IsGood
  atoms_good (atom ∷ atoms) sorted light it =
      let here = applications atom.left ++ applications atom.right in
      All-cons IsGood (flat_atom a c.vars atom) (map (flat_atom a c.vars) atoms)
      (atom_good atom (All-head (IsSortedIn own) atom atoms sorted) (All-head IsLightAtom atom atoms light) (front IsIt here (atoms_applications atoms) it))
      (atoms_good atoms (All-tail (IsSortedIn own) atom atoms sorted) (All-tail IsLightAtom atom atoms light) (back IsIt here (atoms_applications atoms) it))

  -- ---- equalities
  abbrev IsUnder : Term → Type 0
  IsUnder t = weight t < largest_offset

  equality_good : (k : ℕ) (t : Term) → k < length a.args → IsNumTerm own t → All IsIt (applications t) → IsUnder t → All IsGood (equality a c.vars k t)
  equality_good k t within num it under = by (is_first c.vars a.args k t)
    where
      word : Word
      word = argument_word k

      equal : Atom
      equal = record { left = Name word; cmp = Eq; right = flat t }

      kept : KeepsTerm own now t (flat t)
      kept = keeps t (record { sort = Num; is = num }) it

      there : now.name word ≡ Some Num
      there = ap (λ (o : Option Sort). option_or o ((flat_scope names).name word)) (word_num (length a.args) k within h.few)

      sort_is : sort_of now equal ≡ Num
      sort_is = ap (λ (o : Option Sort). unwrap_or (option_or o (first_sort now (flat t))) Num) (name_first now word ∙ there)

      sorted : IsSortedIn now equal
      sorted =
          let both = and_from (has_form (forms_of now (Name word)) Num) (has_form (forms_of now (flat t)) Num) (num_name now word there) (kept.forms.sorts Num num) in
          subst (λ (s : Sort). is_sorted now s equal ≡ true) (sym sort_is) (and_from (has_form (forms_of now (Name word)) Num && has_form (forms_of now (flat t)) Num) true both refl)

      light : IsLightAtom equal
      light = let less = kept.light in let none = name_weighs word in omega (arith, less, none, under)

      by : (b : Bool) → All IsGood (if b then [] else equal ∷ [])
      by true = All-nil IsGood
      by false = All-cons IsGood equal [] (sorted, light) (All-nil IsGood)

  equalities_good : (k : ℕ) (terms : List Term) → (k + length terms) ≤ length a.args → All (IsNumTerm own) terms → All IsIt (joined (map applications terms)) → All IsUnder terms
      → All IsGood (equalities_from a c.vars k terms)
  equalities_good k [] within nums it under = All-nil IsGood
  equalities_good k (t ∷ terms) within nums it under =
      All-append IsGood (equality a c.vars k t) (equalities_from a c.vars (suc k) terms)
      (equality_good k t (omega (arith, within)) (All-head (IsNumTerm own) t terms nums) (front IsIt (applications t) (joined (map applications terms)) it) (All-head IsUnder t terms under))
      (equalities_good (suc k) terms (omega (arith, within)) (All-tail (IsNumTerm own) t terms nums) (back IsIt (applications t) (joined (map applications terms)) it) (All-tail IsUnder t terms under))

  -- ---- the clause
  it : All IsIt (atoms_applications c.guard ++ atoms_applications c.head)
  it = subst (All IsIt) (sym h.one) (All-cons IsIt a [] refl (All-nil IsIt))

  args_under : All IsUnder a.args
  args_under =
      let all = placed.light in
      All-weaker (λ t. weight t ≤ weights (map weight a.args)) IsUnder (λ t less. omega (arith, less, all)) a.args (each_within a.args)

  guard_good : All IsGood (map (flat_atom a c.vars) c.guard ++ equalities a c.vars)
  guard_good =
      All-append IsGood (map (flat_atom a c.vars) c.guard) (equalities a c.vars)
      (atoms_good c.guard h.flat.guard h.flat.guard_light (front IsIt (atoms_applications c.guard) (atoms_applications c.head) it))
      (equalities_good 0 a.args (omega arith) args_num (subst (All IsIt) (sym (one_has_none c.guard c.head a h.one)) (All-nil IsIt)) args_under)

  head_good : All IsGood (map (flat_atom a c.vars) c.head)
  head_good = atoms_good c.head h.flat.head h.flat.head_light (back IsIt (atoms_applications c.guard) (atoms_applications c.head) it)

  sorted_ones : (atoms : List Atom) → All IsGood atoms → All (IsSortedIn now) atoms
  sorted_ones atoms good = All-weaker IsGood (IsSortedIn now) (λ atom g. g.0) atoms good

  light_ones : (atoms : List Atom) → All IsGood atoms → All IsLightAtom atoms
  light_ones atoms good = All-weaker IsGood IsLightAtom (λ atom g. g.1) atoms good

  flat_again : IsFlat names (flattened a c)
  flat_again = record {
    distinct = words_distinct (length a.args) h.few;
    plain = words_plain (length a.args);
    fresh = words_fresh names (length a.args) h.constants;
    guard = sorted_ones (map (flat_atom a c.vars) c.guard ++ equalities a c.vars) guard_good;
    head = sorted_ones (map (flat_atom a c.vars) c.head) head_good;
    guard_light = light_ones (map (flat_atom a c.vars) c.guard ++ equalities a c.vars) guard_good;
    head_light = light_ones (map (flat_atom a c.vars) c.head) head_good;
  }

pub flattened_is_flat : FlattenedIsFlat
flattened_is_flat names c a h = flat_again names c a h
