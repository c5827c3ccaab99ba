-- The guard and the bound of a flattened clause of a case.
use Rattle.std.proofs.Common.{◌≡◌, ◌<◌, ◌≤◌, ℕ, suc, ◌+◌, List, [], ◌∷◌, ◌++◌, map, length, Bool, true, false, ◌&&◌, Some, None, refl, sym, ap, subst, ◌∙◌, arith}
use Rattle.std.specs.Prelude.{option_map, if◌then◌else◌}
use Rattle.std.specs.List.{All, list_all}
use Rattle.std.proofs.lemmas.Bool.{and_from, and_parts}
use Rattle.std.proofs.lemmas.List.Elements.{All-append, All-cons, All-head, All-nil, All-tail}
use Rattle.std.proofs.lemmas.Slice.Eq.{bytes_eq-Decides}
use Rattle.hp_tree.specs.Limits.{most_arguments}
use Rattle.hp_tree.specs.declared.term.Term.{Term, Name, out-Term, out-roll-Term, roll-Term}
use Rattle.hp_tree.specs.declared.term.Term.TheOpen.{Term-F}
use Rattle.hp_tree.specs.declared.problem.Atom.{Atom}
use Rattle.hp_tree.specs.declared.problem.Cmp.{Cmp}
use Rattle.hp_tree.specs.declared.problem.Cmp.TheVariants.{Le, Lt, Eq, Ne, Ge, Gt}
use Rattle.hp_tree.specs.declared.problem.Sort.{Sort}
use Rattle.hp_tree.specs.declared.problem.Sort.TheVariants.{Num}
use Rattle.hp_tree.specs.Value.{Word}
use Rattle.hp_terms.specs.Scope.{Profile, Scope}
use Rattle.hp_terms.specs.Sorting.{forms_of, has_form, is_sorted, sort_of}
use Rattle.hp_terms.proofs.Parts.{applications_follow_profiles}
use Rattle.hp_defs.specs.declared.names.Signature.{Signature}
use Rattle.hp_defs.specs.Names.{NameList, profile_of}
use Rattle.hp_index.proofs.Layers.{bare, by_layers}
use Rattle.hp_norm.specs.declared.flat.FlatClause.{FlatClause}
use Rattle.hp_norm.specs.Scopes.{clause_scope, signature_named}
use Rattle.hp_flatten.specs.declared.application.Application.{Application}
use Rattle.hp_flatten.specs.Applications.{applications, atoms_applications}
use Rattle.hp_flatten.specs.Flattening.{are_arguments, argument_word, equalities_from, equality, flat_atom, flat_term, is_first}
use Rattle.hp_flatten.specs.Sorts.{is_num}
use Rattle.hp_cases.specs.declared.case.Bound.{Bound}
use Rattle.hp_cases.specs.declared.case.Bound.TheVariants.{Low, High, Same}
use Rattle.hp_cases.specs.Bounds.{applies_it, atom_bound, bound_left, bound_right, head_bound}
use Rattle.hp_cases.specs.Cases.{IsNumAtom, bound_term}
use Rattle.hp_rules.specs.Rules.{is_case_atom, is_empty, rule_words}
use Rattle.hp_index_set.specs.Rules.{is_convex}
use Rattle.hp_ruled.proofs.Applications.{HasNumArguments, IsSortedAtom, applications_apply, is_num-Num, sides_sorted}
use Rattle.hp_ruled.proofs.Numbers.{IsFree, IsNumIn, argument_num, flat_name, flat_names, flat_num, name_free, name_num, nil_parts, num_stays, rule_name}
use Rattle.hp_ruled.proofs.Truth.{IsRowed, num_scope}

-- ---- atoms
-- an atom of a guard of a case
pub record IsRuleAtom (names : NameList) (count : ℕ) (atom : Atom) : Type 0 where
  pub num : IsNumAtom (flat_names names count) atom
  pub convex : is_convex atom.cmp ≡ true

-- a num term without applications, as a bound of a case is
pub record IsBareTerm (scope : Scope) (term : Term) : Type 0 where
  pub sorted : has_form (forms_of scope term) Num ≡ true
  pub free : applications term ≡ []

pub num_sides : (scope : Scope) (atom : Atom) → is_sorted scope Num atom ≡ true → IsNumIn scope atom.left × IsNumIn scope atom.right
num_sides scope atom h =
    let l = has_form (forms_of scope atom.left) Num in
    let r = has_form (forms_of scope atom.right) Num in
    and_parts l r (and_parts (l && r) true h).0

pub sides_num : (scope : Scope) (atom : Atom) → IsNumIn scope atom.left → IsNumIn scope atom.right → is_sorted scope Num atom ≡ true
sides_num scope atom p q =
    let l = has_form (forms_of scope atom.left) Num in
    let r = has_form (forms_of scope atom.right) Num in
    and_from (l && r) true (and_from l r p q) refl

pub term_rowed : (names : NameList) (count : ℕ) (t : Term) → IsBareTerm (flat_names names count) t → IsNumIn (num_scope (rule_words names)) t
term_rowed names count t is = num_stays (flat_names names count) (num_scope (rule_words names)) (rule_name names count) t is.sorted is.free

pub atom_rowed : (names : NameList) (count : ℕ) (atom : Atom) → IsRuleAtom names count atom → IsRowed (rule_words names) atom
atom_rowed names count atom is =
    let sides = num_sides (flat_names names count) atom is.num.sorted in
    record {
      sorted = sides_num (num_scope (rule_words names)) atom
          (term_rowed names count atom.left (record { sorted = sides.0; free = is.num.left })) (term_rowed names count atom.right (record { sorted = sides.1; free = is.num.right }));
      convex = is.convex;
    }

pub no_applications : (names : NameList) (count : ℕ) (atoms : List Atom) → All (IsRuleAtom names count) atoms → atoms_applications atoms ≡ []
no_applications names count [] h = refl
no_applications names count (atom ∷ atoms) h =
    let is = All-head (IsRuleAtom names count) atom atoms h in
    λ i. (is.num.left i ++ is.num.right i) ++ no_applications names count atoms (All-tail (IsRuleAtom names count) atom atoms h) i

empty_is : {A : Type 0} (xs : List A) → is_empty xs ≡ true → xs ≡ []
empty_is [] e = refl
empty_is (x ∷ xs) e = absurd (cc)

-- ---- the guard
module _ (names : NameList) (c : FlatClause) (a : Application) (are : are_arguments c.vars a.args ≡ true) (few : length a.args ≤ most_arguments) where
  abbrev old : Scope
  old = clause_scope names c.vars

  abbrev count : ℕ
  count = length a.args

  abbrev new : Scope
  new = flat_names names count

  flat_free : (t : Term) → IsNumIn old t → IsFree t → IsNumIn new (flat_term a c.vars t) × IsFree (flat_term a c.vars t)
  flat_free t h f = flat_num a c.vars old new (flat_name names c.vars a.args are few) t h f

  flat_rule : (atom : Atom) → IsSortedAtom old atom → is_case_atom names c atom ≡ true → IsRuleAtom names count (flat_atom a c.vars atom)
  flat_rule atom sorted h =
      let outer = and_parts (is_num (sort_of old atom) && is_convex atom.cmp) (is_empty (atoms_applications (atom ∷ []))) h in
      let inner = and_parts (is_num (sort_of old atom)) (is_convex atom.cmp) outer.0 in
      let num = is_num-Num (sort_of old atom) inner.0 in
      let sides = sides_sorted old atom sorted in
      let none = nil_parts (applications atom.left ++ applications atom.right) [] (empty_is (atoms_applications (atom ∷ [])) outer.1) in
      let both = nil_parts (applications atom.left) (applications atom.right) none.0 in
      let left = flat_free atom.left (subst (λ s. has_form (forms_of old atom.left) s ≡ true) num sides.0) both.0 in
      let right = flat_free atom.right (subst (λ s. has_form (forms_of old atom.right) s ≡ true) num sides.1) both.1 in
      record { num = record { sorted = sides_num new (flat_atom a c.vars atom) left.0 right.0; left = left.1; right = right.1 }; convex = inner.1 }

  flat_rules : (atoms : List Atom) → All (IsSortedAtom old) atoms → list_all (is_case_atom names c) atoms ≡ true → All (IsRuleAtom names count) (map (flat_atom a c.vars) atoms)
  flat_rules [] sorted h = All-nil (IsRuleAtom names count)
  flat_rules (atom ∷ atoms) sorted h =
      let both = and_parts (is_case_atom names c atom) (list_all (is_case_atom names c) atoms) h in
      All-cons (IsRuleAtom names count) (flat_atom a c.vars atom) (map (flat_atom a c.vars) atoms) (flat_rule atom (All-head (IsSortedAtom old) atom atoms sorted) both.0)
      (flat_rules atoms (All-tail (IsSortedAtom old) atom atoms sorted) both.1)

  equal_rule : (k : ℕ) (term : Term) → k < count → IsNumIn old term → IsFree term → All (IsRuleAtom names count) (equality a c.vars k term)
  equal_rule k term h num free = by (is_first c.vars a.args k term)
    where
      it : Atom
      it = record { left = Name (argument_word k); cmp = Eq; right = flat_term a c.vars term }

      by : (b : Bool) → All (IsRuleAtom names count) (if b then [] else record { left = Name (argument_word k); cmp = Eq; right = flat_term a c.vars term } ∷ [])
      by true = All-nil (IsRuleAtom names count)
      by false =
          let right = flat_free term num free in
          let atom : Atom = record { left = Name (argument_word k); cmp = Eq; right = flat_term a c.vars term } in
          let left = name_num new (argument_word k) (argument_num names count k h few) in
          All-cons (IsRuleAtom names count) atom []
          (record { num = record { sorted = sides_num new atom left right.0; left = name_free (argument_word k); right = right.1 }; convex = refl }) (All-nil (IsRuleAtom names count))

  equal_rules : (k : ℕ) (terms : List Term) → k + length terms ≡ count → All (IsNumIn old) terms → All IsFree terms → All (IsRuleAtom names count) (equalities_from a c.vars k terms)
  equal_rules k [] e nums free = All-nil (IsRuleAtom names count)
  equal_rules k (term ∷ terms) e nums free =
      All-append (IsRuleAtom names count) (equality a c.vars k term) (equalities_from a c.vars (suc k) terms)
      (equal_rule k term (omega (arith, e)) (All-head (IsNumIn old) term terms nums) (All-head IsFree term terms free))
      (equal_rules (suc k) terms (omega (arith, e)) (All-tail (IsNumIn old) term terms nums) (All-tail IsFree term terms free))

  pub guard_rules : All (IsSortedAtom old) c.guard → list_all (is_case_atom names c) c.guard ≡ true → HasNumArguments old a
      → All (IsRuleAtom names count) (map (flat_atom a c.vars) c.guard ++ equalities_from a c.vars 0 a.args)
  guard_rules sorted h args =
      All-append (IsRuleAtom names count) (map (flat_atom a c.vars) c.guard) (equalities_from a c.vars 0 a.args) (flat_rules c.guard sorted h)
      (equal_rules 0 a.args (omega arith) args.nums args.free)

-- ---- the bound
apply_layer : (func : Word) (z : Term-F Term) → applies_it func z ≡ true → (args : List Term) × (roll-Term z ≡ roll-Term (Term-F.Apply func args))
apply_layer func (Term-F.Apply word args) h = (args, ap (λ (w : Word). roll-Term (Term-F.Apply w args)) ((bytes_eq-Decides word func).0 h))
apply_layer func (Term-F.Number q) h = absurd (cc)
apply_layer func Term-F.Null h = absurd (cc)
apply_layer func (Term-F.Name w) h = absurd (cc)
apply_layer func (Term-F.Add s t) h = absurd (cc)
apply_layer func (Term-F.Sub s t) h = absurd (cc)
apply_layer func (Term-F.Neg s) h = absurd (cc)
apply_layer func (Term-F.Scale q s) h = absurd (cc)

apply_is : (func : Word) (t : Term) → applies_it func (out-Term t) ≡ true → (args : List Term) × (t ≡ roll-Term (Term-F.Apply func args))
apply_is func t =
    by_layers (λ t. applies_it func (out-Term t) ≡ true → (args : List Term) × (t ≡ roll-Term (Term-F.Apply func args)))
    (λ y h. apply_layer func (bare _ y) (ap (applies_it func) (sym (out-roll-Term (bare _ y))) ∙ h)) t

right_is : (cmp : Cmp) (t : Term) (bound : Bound) → bound_right cmp t ≡ Some bound → t ≡ bound_term bound
right_is Le t bound e = let is : High t ≡ bound = cc in ap bound_term is
right_is Ge t bound e = let is : Low t ≡ bound = cc in ap bound_term is
right_is Eq t bound e = let is : Same t ≡ bound = cc in ap bound_term is
right_is Lt t bound e = absurd (cc)
right_is Gt t bound e = absurd (cc)
right_is Ne t bound e = absurd (cc)

left_is : (cmp : Cmp) (t : Term) (bound : Bound) → bound_left cmp t ≡ Some bound → t ≡ bound_term bound
left_is Le t bound e = let is : Low t ≡ bound = cc in ap bound_term is
left_is Ge t bound e = let is : High t ≡ bound = cc in ap bound_term is
left_is Eq t bound e = let is : Same t ≡ bound = cc in ap bound_term is
left_is Lt t bound e = absurd (cc)
left_is Gt t bound e = absurd (cc)
left_is Ne t bound e = absurd (cc)

behind_one : {A : Type 0} (p q : A) (xs ys : List A) → ((p ∷ xs) ++ ys) ++ [] ≡ q ∷ [] → ys ≡ []
behind_one p q xs ys e = let t : (xs ++ ys) ++ [] ≡ [] = cc in (nil_parts xs ys (nil_parts (xs ++ ys) [] t).0).1

before_one : {A : Type 0} (p q : A) (ys xs : List A) → (ys ++ p ∷ xs) ++ [] ≡ q ∷ [] → ys ≡ []
before_one p q [] xs e = refl
before_one p q (y ∷ ys) xs e = absurd (let t : (ys ++ p ∷ xs) ++ [] ≡ [] = cc in let u = (nil_parts ys (p ∷ xs) (nil_parts (ys ++ p ∷ xs) [] t).0).1 in cc)

module _ (names : NameList) (func : Word) (count : ℕ) (s : Signature) (known : signature_named names func ≡ Some s) (result : s.result ≡ Num) where
  abbrev scope : Scope
  scope = flat_names names count

  num_side : (app other : Term) (sort : Sort) (args : List Term) → app ≡ roll-Term (Term-F.Apply func args) → has_form (forms_of scope app) sort ≡ true → has_form (forms_of scope other) sort ≡ true → IsNumIn scope other
  num_side app other sort args is h g =
      let f = applications_follow_profiles scope func args sort (subst (λ t. has_form (forms_of scope t) sort ≡ true) is h) in
      let same : profile_of s ≡ f.profile = (let both : Some (profile_of s) ≡ Some f.profile = sym (ap (option_map profile_of) known) ∙ f.known in cc) in
      let num : sort ≡ Num = sym f.result ∙ ap (λ (p : Profile). p.result) (sym same) ∙ result in
      subst (λ z. has_form (forms_of scope other) z ≡ true) num g

  atom_bounds : (atom : Atom) (bound : Bound) (q : Application) → atom_bound func atom ≡ Some bound → IsSortedAtom scope atom → (applications atom.left ++ applications atom.right) ++ [] ≡ q ∷ [] → IsBareTerm scope (bound_term bound)
  atom_bounds atom bound q e sorted one = by_left (applies_it func (out-Term atom.left)) refl e
    where
      by_right : (b : Bool) → applies_it func (out-Term atom.right) ≡ b → (if b then bound_left atom.cmp atom.left else None) ≡ Some bound → IsBareTerm scope (bound_term bound)
      by_right false t e = absurd (cc)
      by_right true t e =
          let is = apply_is func atom.right t in
          let sides = sides_sorted scope atom sorted in
          subst (IsBareTerm scope) (left_is atom.cmp atom.left bound e) (record {
            sorted = num_side atom.right atom.left (sort_of scope atom) is.0 is.1 sides.1 sides.0;
            free = before_one (record { func = func; args = is.0 }) q (applications atom.left) _ (ap (λ xs. (applications atom.left ++ xs) ++ []) (sym (ap applications is.1 ∙ applications_apply func is.0)) ∙ one);
          })

      by_left : (b : Bool) → applies_it func (out-Term atom.left) ≡ b
          → (if b then bound_right atom.cmp atom.right else (if applies_it func (out-Term atom.right) then bound_left atom.cmp atom.left else None)) ≡ Some bound → IsBareTerm scope (bound_term bound)
      by_left false t e = by_right (applies_it func (out-Term atom.right)) refl e
      by_left true t e =
          let is = apply_is func atom.left t in
          let sides = sides_sorted scope atom sorted in
          subst (IsBareTerm scope) (right_is atom.cmp atom.right bound e) (record {
            sorted = num_side atom.left atom.right (sort_of scope atom) is.0 is.1 sides.0 sides.1;
            free = behind_one (record { func = func; args = is.0 }) q _ (applications atom.right) (ap (λ xs. (xs ++ applications atom.right) ++ []) (sym (ap applications is.1 ∙ applications_apply func is.0)) ∙ one);
          })

  pub head_bounds : (head : List Atom) (bound : Bound) (q : Application) → head_bound func head ≡ Some bound → All (IsSortedAtom scope) head → atoms_applications head ≡ q ∷ [] → IsBareTerm scope (bound_term bound)
  head_bounds [] bound q e sorted one = absurd (cc)
  head_bounds (atom ∷ []) bound q e sorted one = atom_bounds atom bound q e (All-head (IsSortedAtom scope) atom [] sorted) one
  head_bounds (atom ∷ other ∷ head) bound q e sorted one = absurd (cc)
