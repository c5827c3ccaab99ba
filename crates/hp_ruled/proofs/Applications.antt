-- The applications in sorted terms: each has the arguments of its function, and those in its arguments stand beside it.
use Rattle.std.proofs.Common.{◌≡◌, ◌<◌, ◌≤◌, ℕ, zero, suc, List, [], ◌∷◌, ◌++◌, map, length, true, ◌&&◌, Option, Some, None, refl, sym, ap, subst, ◌∙◌, arith}
use Rattle.std.specs.Prelude.{slice_get, option_map, option_and_then}
use Rattle.std.specs.List.{All, AllZip, list_all}
use Rattle.std.proofs.lemmas.Bool.{and_parts}
use Rattle.std.proofs.lemmas.List.Elements.{All-append, All-cons, All-head, All-nil, All-tail, All-weaker}
use Rattle.hp_tree.specs.Limits.{most_arguments}
use Rattle.hp_tree.specs.declared.term.Term.{Term, map-Term, out-roll-Term, roll-Term}
use Rattle.hp_tree.specs.declared.term.Term.TheOpen.{Term-F}
use Rattle.hp_tree.specs.declared.problem.Atom.{Atom}
use Rattle.hp_tree.specs.declared.problem.Sort.{Sort}
use Rattle.hp_tree.specs.declared.problem.Sort.TheVariants.{Num, Idx, Ptr}
use Rattle.hp_tree.specs.Value.{Word}
use Rattle.hp_terms.specs.Scope.{Profile, Scope}
use Rattle.hp_terms.specs.Sorting.{atom_is_sorted, forms_of, has_form, relates, sort_of}
use Rattle.hp_terms.specs.Occurring.{joined}
use Rattle.hp_terms.specs.Laws.{HasSort}
use Rattle.hp_terms.proofs.Parts.{applications_follow_profiles, parts_of_sorted_terms_are_sorted}
use Rattle.hp_defs.specs.declared.names.Signature.{Signature}
use Rattle.hp_defs.specs.Names.{NameList, profile_of}
use Rattle.hp_index.proofs.Layers.{Parts, bare, by_layers}
use Rattle.hp_norm.specs.declared.flat.FlatClause.{FlatClause}
use Rattle.hp_norm.specs.Flat.{IsFlat}
use Rattle.hp_norm.specs.Scopes.{clause_scope, signature_named}
use Rattle.hp_norm.proofs.Seeing.{by_term_roll}
use Rattle.hp_class.specs.Small.{HasFewArguments}
use Rattle.hp_flatten.specs.declared.application.Application.{Application}
use Rattle.hp_flatten.specs.Applications.{application_of, applications, applications_step, atoms_applications, clause_applications}
use Rattle.hp_flatten.specs.Sorts.{is_num}
use Rattle.hp_flatten.specs.Laws.{AreNum, HasPlainConstants, IsFlattenableClause}
use Rattle.hp_rules.specs.declared.ruled.Ruled.{Ruled}
use Rattle.hp_rules.specs.Rules.{is_num_function, is_num_signature}
use Rattle.hp_ruled.proofs.Reading.{CaseRead}

-- ---- layers
pub applications_at : (z : Term-F Term) → applications (roll-Term z) ≡ applications_step (roll-Term z) (map-Term Term (List Application) applications z)
applications_at z = by_term_roll applications_step z

pub applications_apply : (func : Word) (args : List Term) → applications (roll-Term (Term-F.Apply func args)) ≡ record { func = func; args = args } ∷ joined (map applications args)
applications_apply func args =
    applications_at (Term-F.Apply func args)
    ∙ ap (λ (z : Term-F Term). application_of z ++ joined (map applications args)) (out-roll-Term (Term-F.Apply func args))

module _ (scope : Scope) where
  -- as many arguments as its function has, each of the sort of its place, and fewer than so many applications in them
  pub record IsApplied (room : ℕ) (a : Application) : Type 0 where
    pub profile : Profile
    pub known : scope.function a.func ≡ Some profile
    pub count : length a.args ≡ length profile.args
    pub each : AllZip (λ arg place. has_form (forms_of scope arg) place ≡ true) a.args profile.args
    pub below : length (joined (map applications a.args)) < room

  wider : (m n : ℕ) → m ≤ n → (a : Application) → IsApplied m a → IsApplied n a
  wider m n h a is = record { profile = is.profile; known = is.known; count = is.count; each = is.each; below = let b = is.below in omega (arith, h, b) }

  abbrev AreApplied : List Application → Type 0
  AreApplied apps = All (IsApplied (length apps)) apps

  within : (n : ℕ) (xs : List Application) → length xs ≤ n → AreApplied xs → All (IsApplied n) xs
  within n xs h is = All-weaker (IsApplied (length xs)) (IsApplied n) (wider (length xs) n h) xs is

  left_within : (xs ys : List Application) → length xs ≤ length (xs ++ ys)
  left_within [] ys = omega arith
  left_within (x ∷ xs) ys = let h = left_within xs ys in omega (arith, h)

  right_within : (xs ys : List Application) → length ys ≤ length (xs ++ ys)
  right_within [] ys = omega arith
  right_within (x ∷ xs) ys = let h = right_within xs ys in omega (arith, h)

  both_applied : (xs ys : List Application) → AreApplied xs → AreApplied ys → AreApplied (xs ++ ys)
  both_applied xs ys p q =
      All-append (IsApplied (length (xs ++ ys))) xs ys (within (length (xs ++ ys)) xs (left_within xs ys) p) (within (length (xs ++ ys)) ys (right_within xs ys) q)

  -- ---- terms
  abbrev Applies : Term → Type 0
  Applies t = HasSort scope t → AreApplied (applications t)

  abbrev terms : List (Parts Applies) → List Term
  terms args = map (λ (e : Parts Applies). e.0) args

  all_applied : (args : List (Parts Applies)) → All (HasSort scope) (terms args) → AreApplied (joined (map applications (terms args)))
  all_applied [] h = All-nil (IsApplied 0)
  all_applied (arg ∷ args) h =
      both_applied (applications arg.0) (joined (map applications (terms args))) (arg.1 (All-head (HasSort scope) arg.0 (terms args) h))
      (all_applied args (All-tail (HasSort scope) arg.0 (terms args) h))

  two_applied : (a b : Parts Applies) → All (HasSort scope) (a.0 ∷ b.0 ∷ []) → AreApplied (applications a.0 ++ applications b.0)
  two_applied a b h =
      both_applied (applications a.0) (applications b.0) (a.1 (All-head (HasSort scope) a.0 (b.0 ∷ []) h))
      (b.1 (All-head (HasSort scope) b.0 [] (All-tail (HasSort scope) a.0 (b.0 ∷ []) h)))

  apply_applied : (func : Word) (args : List (Parts Applies)) (sort : Sort) → has_form (forms_of scope (roll-Term (Term-F.Apply func (terms args)))) sort ≡ true → All (HasSort scope) (terms args)
      → AreApplied (record { func = func; args = terms args } ∷ joined (map applications (terms args)))
  apply_applied func args sort e parts =
      let f = applications_follow_profiles scope func (terms args) sort e in
      let inner = joined (map applications (terms args)) in
      All-cons (IsApplied (suc (length inner))) (record { func = func; args = terms args }) inner
      (record { profile = f.profile; known = f.known; count = f.count; each = f.each; below = omega arith })
      (within (suc (length inner)) inner (omega arith) (all_applied args parts))

  layer_applies : (y : Term-F (Parts Applies)) → Applies (roll-Term (bare Applies y))
  layer_applies y h = subst AreApplied (sym (applications_at (bare Applies y))) (by y h)
    where
      by : (y : Term-F (Parts Applies)) → HasSort scope (roll-Term (bare Applies y)) → AreApplied (applications_step (roll-Term (bare Applies y)) (map-Term Term (List Application) applications (bare Applies y)))
      by (Term-F.Number q) h = All-nil (IsApplied 0)
      by Term-F.Null h = All-nil (IsApplied 0)
      by (Term-F.Name w) h = All-nil (IsApplied 0)
      by (Term-F.Apply func args) h =
          subst AreApplied (sym (applications_apply func (terms args)) ∙ applications_at (Term-F.Apply func (terms args)))
          (apply_applied func args h.sort h.is (parts_of_sorted_terms_are_sorted scope (Term-F.Apply func (terms args)) h))
      by (Term-F.Add a b) h = two_applied a b (parts_of_sorted_terms_are_sorted scope (Term-F.Add a.0 b.0) h)
      by (Term-F.Sub a b) h = two_applied a b (parts_of_sorted_terms_are_sorted scope (Term-F.Sub a.0 b.0) h)
      by (Term-F.Neg a) h = a.1 (All-head (HasSort scope) a.0 [] (parts_of_sorted_terms_are_sorted scope (Term-F.Neg a.0) h))
      by (Term-F.Scale q a) h = a.1 (All-head (HasSort scope) a.0 [] (parts_of_sorted_terms_are_sorted scope (Term-F.Scale q a.0) h))

  pub term_applied : (t : Term) → HasSort scope t → AreApplied (applications t)
  term_applied t = by_layers Applies layer_applies t

  -- ---- atoms
  abbrev pub IsSortedAtom : Atom → Type 0
  IsSortedAtom atom = atom_is_sorted scope atom ≡ true

  -- both sides are of the sort of the atom
  pub sides_sorted : (atom : Atom) → IsSortedAtom atom
      → (has_form (forms_of scope atom.left) (sort_of scope atom) ≡ true) × (has_form (forms_of scope atom.right) (sort_of scope atom) ≡ true)
  sides_sorted atom h =
      let s = sort_of scope atom in
      let outer = and_parts (has_form (forms_of scope atom.left) s && has_form (forms_of scope atom.right) s) (relates s atom.cmp) h in
      and_parts (has_form (forms_of scope atom.left) s) (has_form (forms_of scope atom.right) s) outer.0

  pub atoms_applied : (atoms : List Atom) → All IsSortedAtom atoms → AreApplied (atoms_applications atoms)
  atoms_applied [] h = All-nil (IsApplied 0)
  atoms_applied (atom ∷ atoms) h =
      let sides = sides_sorted atom (All-head IsSortedAtom atom atoms h) in
      both_applied (applications atom.left ++ applications atom.right) (atoms_applications atoms)
      (both_applied (applications atom.left) (applications atom.right) (term_applied atom.left (record { sort = sort_of scope atom; is = sides.0 })) (term_applied atom.right (record { sort = sort_of scope atom; is = sides.1 })))
      (atoms_applied atoms (All-tail IsSortedAtom atom atoms h))

  -- all arguments of an application alone are num terms, where those of the function are, and none of them has an application
  pub record HasNumArguments (a : Application) : Type 0 where
    pub nums : All (λ arg. has_form (forms_of scope arg) Num ≡ true) a.args
    pub free : All (λ arg. applications arg ≡ []) a.args

pub one_applied : (names : NameList) (c : FlatClause) (a : Application) → IsFlat names c → clause_applications c ≡ a ∷ [] → IsApplied (clause_scope names c.vars) 1 a
one_applied names c a flat one =
    let scope = clause_scope names c.vars in
    All-head (IsApplied scope 1) a []
    (subst (λ apps. All (IsApplied scope (length apps)) apps) one
    (both_applied scope (atoms_applications c.guard) (atoms_applications c.head) (atoms_applied scope c.guard flat.guard) (atoms_applied scope c.head flat.head)))

-- ---- functions
nothing_joined : (lists : List (List Application)) → length (joined lists) < 1 → All (λ l. l ≡ []) lists
nothing_joined [] h = All-nil (λ l. l ≡ [])
nothing_joined ([] ∷ lists) h = All-cons (λ l. l ≡ []) [] lists refl (nothing_joined lists h)
nothing_joined ((a ∷ l) ∷ lists) h = absurd (omega (arith, h))

free_args : (args : List Term) → All (λ l. l ≡ []) (map applications args) → All (λ arg. applications arg ≡ []) args
free_args [] h = All-nil (λ arg. applications arg ≡ [])
free_args (arg ∷ args) h =
    All-cons (λ t. applications t ≡ []) arg args (All-head (λ l. l ≡ []) (applications arg) (map applications args) h)
    (free_args args (All-tail (λ l. l ≡ []) (applications arg) (map applications args) h))

num_args : (scope : Scope) (args : List Term) (sorts : List Sort) → AreNum sorts → AllZip (λ arg place. has_form (forms_of scope arg) place ≡ true) args sorts → All (λ arg. has_form (forms_of scope arg) Num ≡ true) args
num_args scope [] sorts h e = All-nil (λ arg. has_form (forms_of scope arg) Num ≡ true)
num_args scope (arg ∷ args) [] h e = absurd e
num_args scope (arg ∷ args) (s ∷ sorts) h e =
    All-cons (λ t. has_form (forms_of scope t) Num ≡ true) arg args (subst (λ z. has_form (forms_of scope arg) z ≡ true) (All-head (λ z. z ≡ Num) s sorts h) e.0)
    (num_args scope args sorts (All-tail (λ z. z ≡ Num) s sorts h) e.1)

pub is_num-Num : (s : Sort) → is_num s ≡ true → s ≡ Num
is_num-Num Num e = refl
is_num-Num Idx e = absurd (cc)
is_num-Num Ptr e = absurd (cc)

all_num : (sorts : List Sort) → list_all is_num sorts ≡ true → AreNum sorts
all_num [] e = All-nil (λ s. s ≡ Num)
all_num (s ∷ sorts) e =
    let both = and_parts (is_num s) (list_all is_num sorts) e in
    All-cons (λ z. z ≡ Num) s sorts (is_num-Num s both.0) (all_num sorts both.1)

pub record IsNumSignature (names : NameList) (func : ℕ) : Type 0 where
  pub signature : Signature
  pub there : slice_get names.signatures func ≡ Some signature
  pub nums : AreNum signature.args
  pub result : signature.result ≡ Num

pub num_signature : (names : NameList) (func : ℕ) → is_num_function names (Some func) ≡ true → IsNumSignature names func
num_signature names func = by (slice_get names.signatures func) refl
  where
    by : (o : Option Signature) → slice_get names.signatures func ≡ o → is_num_signature o ≡ true → IsNumSignature names func
    by None e h = absurd (cc)
    by (Some s) e h =
        let both = and_parts (list_all is_num s.args) (is_num s.result) h in
        record { signature = s; there = e; nums = all_num s.args both.0; result = is_num-Num s.result both.1 }

pub all_get : {X : Type 0} (P : X → Type 0) (xs : List X) (k : ℕ) (x : X) → All P xs → slice_get xs k ≡ Some x → P x
all_get P [] k x h e = absurd (cc)
all_get P (y ∷ xs) zero x h e = let is : y ≡ x = cc in subst P is (All-head P y xs h)
all_get P (y ∷ xs) (suc k) x h e = all_get P xs k x (All-tail P y xs h) e

-- ---- a clause of a case
pub record IsAble (names : NameList) (func : ℕ) (c : FlatClause) (a : Application) : Type 0 where
  pub able : IsFlattenableClause names c a
  pub there : slice_get names.signatures func ≡ Some able.signature
  pub count : length a.args ≡ length able.signature.args
  pub arguments : HasNumArguments (clause_scope names c.vars) a

pub case_able : (names : NameList) (monotone : List ℕ) (before : Ruled) (c : FlatClause) (after : Ruled) (r : CaseRead names monotone before c after) → HasPlainConstants names → All HasFewArguments names.signatures
    → IsFlat names c → IsAble names r.func c r.application
case_able names monotone before c after r constants few flat =
    let a = r.application in
    let is = one_applied names c a flat r.one in
    let s = num_signature names r.func r.num in
    let known : signature_named names a.func ≡ Some s.signature = ap (option_and_then (λ at. slice_get names.signatures at)) r.place ∙ s.there in
    let profile : profile_of s.signature ≡ is.profile = (let both : Some (profile_of s.signature) ≡ Some is.profile = sym (ap (option_map profile_of) known) ∙ is.known in cc) in
    let args : s.signature.args ≡ is.profile.args = ap (λ (p : Profile). p.args) profile in
    let count : length a.args ≡ length s.signature.args = is.count ∙ ap length (sym args) in
    record {
      able = record {
        flat = flat;
        constants = constants;
        one = r.one;
        signature = s.signature;
        known = known;
        nums = s.nums;
        result = s.result;
        few = subst (λ n. n ≤ most_arguments) (sym count) (all_get HasFewArguments names.signatures r.func s.signature few s.there);
        arguments = r.arguments;
      };
      there = s.there;
      count = count;
      arguments = record {
        nums = num_args (clause_scope names c.vars) a.args is.profile.args (subst AreNum args s.nums) is.each;
        free = free_args a.args (nothing_joined (map applications a.args) is.below);
      };
    }
