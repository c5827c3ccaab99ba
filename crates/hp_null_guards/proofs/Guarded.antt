-- Null guards that the test finds are null guards, and in clauses over fields that keep the rules all sides are good.
use Rattle.std.proofs.Common.{◌≡◌, ◌∙◌, inl, inr, ◌⊎◌, List, [], ◌∷◌, ◌++◌, Bool, true, false, ◌&&◌, ◌||◌, not, if◌then◌else◌, IsTrue, Option, Some, None, refl, sym, ap, subst}
use Rattle.std.specs.Option.{option_or}
use Rattle.std.specs.List.{All, Contains, list_all, list_any}
use Rattle.std.specs.Str.{bytes_eq}
use Rattle.std.proofs.lemmas.Bool.{and_from, and_parts, or_left, or_right}
use Rattle.std.proofs.lemmas.List.Elements.{All-cons, All-head, All-nil, All-tail}
use Rattle.hp_tree.specs.declared.term.Term.{Term, Null, out-Term, out-roll-Term, roll-Term}
use Rattle.hp_tree.specs.declared.term.Term.TheOpen.{Term-F}
use Rattle.hp_tree.specs.declared.term.Term.TheVariants.{rolls-Null}
use Rattle.hp_tree.specs.declared.problem.Atom.{Atom}
use Rattle.hp_tree.specs.declared.problem.Cmp.{Cmp}
use Rattle.hp_tree.specs.declared.problem.Cmp.TheVariants.{Le, Lt, Eq, Ne, Ge, Gt}
use Rattle.hp_tree.specs.declared.problem.Sort.{Sort}
use Rattle.hp_tree.specs.declared.problem.Sort.TheVariants.{Num, Idx, Ptr}
use Rattle.hp_tree.specs.declared.problem.Var.{Var}
use Rattle.hp_tree.specs.Value.{Word}
use Rattle.hp_terms.specs.Sorting.{atom_is_sorted, forms_of, has_form, relates, sort_of}
use Rattle.hp_index.proofs.Layers.{bare, by_layers}
use Rattle.hp_local.specs.Fields.{FieldScope, Side, are_alike, field_scope, good_guard, good_head, is_plain, is_settled}
use Rattle.hp_local.specs.Frame.{Frame, is_own}
use Rattle.hp_local.specs.NullGuards.{InGuard, InGuardTurned, InHead, InHeadTurned, sides_are_good}
use Rattle.hp_local.proofs.Lists.{contains_first, contains_later}
use Rattle.hp_defs.specs.Names.{NameList}
use Rattle.hp_base.specs.Lines.{flat_scope}
use Rattle.hp_norm.specs.declared.flat.FlatClause.{FlatClause}
use Rattle.hp_norm.specs.Flat.{IsFlat, universal_of}
use Rattle.hp_norm.specs.Opening.{is_variable}
use Rattle.hp_norm.specs.Scopes.{clause_scope, function_profile, variable_sort}
use Rattle.hp_norm.specs.Trees.{same_term}
use Rattle.hp_flatten.specs.declared.application.Application.{Application}
use Rattle.hp_flatten.specs.Applications.{applications, atoms_applications, clause_applications}
use Rattle.hp_flatten.specs.Sorts.{is_idx, is_ptr}
use Rattle.hp_flatten.proofs.HoldsTerms.{back, front}
use Rattle.hp_null_guards.specs.Laws.{GuardedSidesAreGood, IsFieldRead, NullGuardsAreFound}
use Rattle.hp_null_guards.specs.Rules.{gives_pointer, has_guarded_sides, has_null_guard, has_null_guards, is_against_null, is_eq, is_guarded, is_ne, is_no_index, is_null_term, is_over_pointers}
use Rattle.hp_null_guards.proofs.SameTrees.{means}
use Rattle.hp_null_guards.proofs.Sides.{IsRead, IsSide, plain_settled, side, term_is}

-- ---- null guards
null_layer : (z : Term-F Term) → is_null_term z ≡ true → roll-Term z ≡ Null
null_layer Term-F.Null e = rolls-Null
null_layer (Term-F.Number q) e = absurd (let no : false ≡ true = e in cc)
null_layer (Term-F.Name word) e = absurd (let no : false ≡ true = e in cc)
null_layer (Term-F.Apply func args) e = absurd (let no : false ≡ true = e in cc)
null_layer (Term-F.Add a b) e = absurd (let no : false ≡ true = e in cc)
null_layer (Term-F.Sub a b) e = absurd (let no : false ≡ true = e in cc)
null_layer (Term-F.Neg a) e = absurd (let no : false ≡ true = e in cc)
null_layer (Term-F.Scale q a) e = absurd (let no : false ≡ true = e in cc)

abbrev IsNull : Term → Type 0
IsNull t = is_null_term (out-Term t) ≡ true → t ≡ Null

is_null : (t : Term) → IsNull t
is_null t = by_layers IsNull (λ y e. null_layer (bare IsNull y) (ap is_null_term (sym (out-roll-Term (bare IsNull y))) ∙ e)) t

cmp_eq : (cmp : Cmp) → is_eq cmp ≡ true → cmp ≡ Eq
cmp_eq Le e = absurd (let no : false ≡ true = e in cc)
cmp_eq Lt e = absurd (let no : false ≡ true = e in cc)
cmp_eq Eq e = refl
cmp_eq Ne e = absurd (let no : false ≡ true = e in cc)
cmp_eq Ge e = absurd (let no : false ≡ true = e in cc)
cmp_eq Gt e = absurd (let no : false ≡ true = e in cc)

cmp_ne : (cmp : Cmp) → is_ne cmp ≡ true → cmp ≡ Ne
cmp_ne Le e = absurd (let no : false ≡ true = e in cc)
cmp_ne Lt e = absurd (let no : false ≡ true = e in cc)
cmp_ne Eq e = absurd (let no : false ≡ true = e in cc)
cmp_ne Ne e = refl
cmp_ne Ge e = absurd (let no : false ≡ true = e in cc)
cmp_ne Gt e = absurd (let no : false ≡ true = e in cc)

-- an atom that is found among others
any_contains : (test : Atom → Bool) (atoms : List Atom) → list_any test atoms ≡ true → (atom : Atom) × Contains atoms atom × (test atom ≡ true)
any_contains test [] e = absurd (let no : false ≡ true = e in cc)
any_contains test (a ∷ atoms) e = by (λ h. any_contains test atoms h) (test a) refl e
  where
    by : (list_any test atoms ≡ true → (atom : Atom) × Contains atoms atom × (test atom ≡ true)) → (b : Bool) → test a ≡ b → (b || list_any test atoms) ≡ true → (atom : Atom) × Contains (a ∷ atoms) atom × (test atom ≡ true)
    by rest true t h = (a, contains_first a atoms, t)
    by rest false t h = (let w = rest h in (w.0, contains_later a atoms w.0 w.1, w.2))

either : (a b : Bool) → (a || b) ≡ true → (a ≡ true) ⊎ (b ≡ true)
either true b e = inl refl
either false b e = inr e

-- the atom has the term on one side and null on the other
against : (term : Term) (atom : Atom) (cmp : Cmp) → atom.cmp ≡ cmp → is_against_null term atom ≡ true
    → (atom ≡ record { left = term; cmp = cmp; right = Null }) ⊎ (atom ≡ record { left = Null; cmp = cmp; right = term })
against term atom cmp same e = elim (either (same_term term atom.left && is_null_term (out-Term atom.right)) (is_null_term (out-Term atom.left) && same_term term atom.right) e) [
  | inl h ↦ (
      let w = and_parts (same_term term atom.left) (is_null_term (out-Term atom.right)) h in
      let left = sym (means term atom.left w.0) in
      let right = is_null atom.right w.1 in
      inl (λ i. record { left = left i; cmp = same i; right = right i }))
  | inr h ↦ (
      let w = and_parts (is_null_term (out-Term atom.left)) (same_term term atom.right) h in
      let left = is_null atom.left w.0 in
      let right = sym (means term atom.right w.1) in
      inr (λ i. record { left = left i; cmp = same i; right = right i }))
]

pub null_guards_are_found : NullGuardsAreFound
null_guards_are_found c term e =
    elim (either (list_any (λ (atom : Atom). is_ne atom.cmp && is_against_null term atom) c.guard) (list_any (λ (atom : Atom). is_eq atom.cmp && is_against_null term atom) c.head) e) [
      | inl h ↦ (
          let w = any_contains (λ (atom : Atom). is_ne atom.cmp && is_against_null term atom) c.guard h in
          let both = and_parts (is_ne w.0.cmp) (is_against_null term w.0) w.2 in
          elim (against term w.0 Ne (cmp_ne w.0.cmp both.0) both.1) [
            | inl same ↦ InGuard (subst (λ (a : Atom). Contains c.guard a) same w.1)
            | inr same ↦ InGuardTurned (subst (λ (a : Atom). Contains c.guard a) same w.1)
          ])
      | inr h ↦ (
          let w = any_contains (λ (atom : Atom). is_eq atom.cmp && is_against_null term atom) c.head h in
          let both = and_parts (is_eq w.0.cmp) (is_against_null term w.0) w.2 in
          elim (against term w.0 Eq (cmp_eq w.0.cmp both.0) both.1) [
            | inl same ↦ InHead (subst (λ (a : Atom). Contains c.head a) same w.1)
            | inr same ↦ InHeadTurned (subst (λ (a : Atom). Contains c.head a) same w.1)
          ])
    ]

-- a word that has a sort among variables is one of them
variable_found : (vars : List Var) (word : Word) (sort : Sort) → variable_sort vars word ≡ Some sort → is_variable vars word ≡ true
variable_found [] word sort e = absurd (cc)
variable_found (v ∷ vars) word sort e = by (λ h. variable_found vars word sort h) (bytes_eq v.name word) refl e
  where
    by : (variable_sort vars word ≡ Some sort → is_variable vars word ≡ true) → (b : Bool) → bytes_eq v.name word ≡ b → (if b then Some v.sort else variable_sort vars word) ≡ Some sort → is_variable (v ∷ vars) word ≡ true
    by rest true is h = or_left (bytes_eq v.name word) (is_variable vars word) is
    by rest false is h = or_right (bytes_eq v.name word) (is_variable vars word) (rest h)

-- ---- sides
two_alike : (a b : Side) → is_plain a ≡ true → is_plain b ≡ true → are_alike a b ≡ true
two_alike a b p q =
    let x = and_parts a.good (not a.given) p in
    let y = and_parts b.good (not b.given) q in
    and_from (a.good && b.good) ((a.pointer && b.pointer) || (not a.given && not b.given)) (and_from a.good b.good x.0 y.0)
    (or_right (a.pointer && b.pointer) (not a.given && not b.given) (and_from (not a.given) (not b.given) x.1 y.1))

plain_guard : (cmp : Cmp) (a b : Side) → is_plain a ≡ true → is_plain b ≡ true → good_guard cmp a b ≡ true
plain_guard Le a b p q = and_from (is_settled a) (is_settled b) (plain_settled a p) (plain_settled b q)
plain_guard Lt a b p q = and_from (is_settled a) (is_settled b) (plain_settled a p) (plain_settled b q)
plain_guard Eq a b p q = and_from (is_settled a) (is_settled b) (plain_settled a p) (plain_settled b q)
plain_guard Ne a b p q = two_alike a b p q
plain_guard Ge a b p q = and_from (is_settled a) (is_settled b) (plain_settled a p) (plain_settled b q)
plain_guard Gt a b p q = and_from (is_settled a) (is_settled b) (plain_settled a p) (plain_settled b q)

plain_head : (cmp : Cmp) (a b : Side) → is_plain a ≡ true → is_plain b ≡ true → good_head cmp a b ≡ true
plain_head Le a b p q = and_from (is_settled a) (is_settled b) (plain_settled a p) (plain_settled b q)
plain_head Lt a b p q = and_from (is_settled a) (is_settled b) (plain_settled a p) (plain_settled b q)
plain_head Eq a b p q = two_alike a b p q
plain_head Ne a b p q = and_from (is_settled a) (is_settled b) (plain_settled a p) (plain_settled b q)
plain_head Ge a b p q = and_from (is_settled a) (is_settled b) (plain_settled a p) (plain_settled b q)
plain_head Gt a b p q = and_from (is_settled a) (is_settled b) (plain_settled a p) (plain_settled b q)

module _ (names : NameList) (c : FlatClause) (frame : Frame) (constant : Word → Bool) (funcs : List Word) (flat : IsFlat names c)
    (over : is_over_pointers names c ≡ true) (rules : has_null_guards names c ≡ true) (reads : All (IsFieldRead names (is_own funcs) c.vars) (clause_applications c))
    (pointers : (word : Word) → (flat_scope names).name word ≡ Some Ptr → constant word ≡ true) where
  abbrev s : FieldScope
  s = field_scope frame (λ word. gives_pointer (function_profile names word)) constant funcs (universal_of c)

  abbrev told : Term → Side
  told = side s (has_null_guard c)

  -- a word of sort ptr is a variable or such a name
  known_pointers : (word : Word) → (clause_scope names c.vars).name word ≡ Some Ptr → s.pointer word ≡ true
  known_pointers word e = by (variable_sort c.vars word) refl e
    where
      by : (o : Option Sort) → variable_sort c.vars word ≡ o → option_or o ((flat_scope names).name word) ≡ Some Ptr → s.pointer word ≡ true
      by (Some sort) is h = or_left (is_variable c.vars word) (constant word) (variable_found c.vars word sort is)
      by None is h = or_right (is_variable c.vars word) (constant word) (pointers word h)

  gives_is : (word : Word) → s.gives word ≡ gives_pointer (function_profile names word)
  gives_is word = refl

  abbrev Read : Application → Type 0
  Read = IsRead names c s known_pointers gives_is

  abbrev Is : Term → Type 0
  Is t = IsSide names (forms_of (clause_scope names c.vars) t) t (has_null_guard c t) (told t)

  abbrev rule : Atom → Bool
  rule a = has_guarded_sides names c a

  settled : (t : Term) → Is t → (forms_of (clause_scope names c.vars) t).ptr ≡ true → is_guarded names c t ≡ true → is_settled (told t) ≡ true
  settled t is e keeps = and_from (told t).good (not (told t).given || (told t).live) (is.good e) (by (told t).given refl)
    where
      by : (b : Bool) → (told t).given ≡ b → (not b || (told t).live) ≡ true
      by false g = refl
      by true g = is.live ∙ sym (ap (λ r. not r || has_null_guard c t) (is.given g)) ∙ keeps

  -- two pointers
  alike : (t u : Term) → Is t → Is u → (forms_of (clause_scope names c.vars) t).ptr ≡ true → (forms_of (clause_scope names c.vars) u).ptr ≡ true → are_alike (told t) (told u) ≡ true
  alike t u p q e f =
      and_from ((told t).good && (told u).good) (((told t).pointer && (told u).pointer) || (not (told t).given && not (told u).given)) (and_from (told t).good (told u).good (p.good e) (q.good f))
      (or_left ((told t).pointer && (told u).pointer) (not (told t).given && not (told u).given) (and_from (told t).pointer (told u).pointer (p.pointer e) (q.pointer f)))

  num_plain : (t : Term) → Is t → (forms_of (clause_scope names c.vars) t).num ≡ true → is_plain (told t) ≡ true
  num_plain t is e =
      let f = forms_of (clause_scope names c.vars) t in
      is.plain (or_left (f.num || f.idx) f.whole (or_left f.num f.idx e))

  both_guarded : (a : Atom) → Is a.left → Is a.right → (forms_of (clause_scope names c.vars) a.left).ptr ≡ true → (forms_of (clause_scope names c.vars) a.right).ptr ≡ true → rule a ≡ true
      → is_settled (told a.left) && is_settled (told a.right) ≡ true
  both_guarded a p q e f keeps =
      let w = and_parts (is_guarded names c a.left) (is_guarded names c a.right) keeps in
      and_from (is_settled (told a.left)) (is_settled (told a.right)) (settled a.left p e w.0) (settled a.right q f w.1)

  -- ---- atoms, by their sorts
  pointer_guard : (a : Atom) (cmp : Cmp) → relates Ptr cmp ≡ true → (is_eq cmp ≡ true → rule a ≡ true) → Is a.left → Is a.right
      → (forms_of (clause_scope names c.vars) a.left).ptr ≡ true → (forms_of (clause_scope names c.vars) a.right).ptr ≡ true → good_guard cmp (told a.left) (told a.right) ≡ true
  pointer_guard a Le r keeps p q e f = absurd (let no : false ≡ true = r in cc)
  pointer_guard a Lt r keeps p q e f = absurd (let no : false ≡ true = r in cc)
  pointer_guard a Eq r keeps p q e f = both_guarded a p q e f (keeps refl)
  pointer_guard a Ne r keeps p q e f = alike a.left a.right p q e f
  pointer_guard a Ge r keeps p q e f = absurd (let no : false ≡ true = r in cc)
  pointer_guard a Gt r keeps p q e f = absurd (let no : false ≡ true = r in cc)

  pointer_head : (a : Atom) (cmp : Cmp) → relates Ptr cmp ≡ true → (is_ne cmp ≡ true → rule a ≡ true) → Is a.left → Is a.right
      → (forms_of (clause_scope names c.vars) a.left).ptr ≡ true → (forms_of (clause_scope names c.vars) a.right).ptr ≡ true → good_head cmp (told a.left) (told a.right) ≡ true
  pointer_head a Le r keeps p q e f = absurd (let no : false ≡ true = r in cc)
  pointer_head a Lt r keeps p q e f = absurd (let no : false ≡ true = r in cc)
  pointer_head a Eq r keeps p q e f = alike a.left a.right p q e f
  pointer_head a Ne r keeps p q e f = both_guarded a p q e f (keeps refl)
  pointer_head a Ge r keeps p q e f = absurd (let no : false ≡ true = r in cc)
  pointer_head a Gt r keeps p q e f = absurd (let no : false ≡ true = r in cc)

  -- a sorted atom of a sort, which is not idx
  abbrev sorted_as : Sort → Atom → Bool
  sorted_as sort a = has_form (forms_of (clause_scope names c.vars) a.left) sort && has_form (forms_of (clause_scope names c.vars) a.right) sort && relates sort a.cmp

  sides_of : (sort : Sort) (a : Atom) → sorted_as sort a ≡ true
      → (has_form (forms_of (clause_scope names c.vars) a.left) sort ≡ true) × (has_form (forms_of (clause_scope names c.vars) a.right) sort ≡ true) × (relates sort a.cmp ≡ true)
  sides_of sort a e =
      let l = has_form (forms_of (clause_scope names c.vars) a.left) sort in
      let r = has_form (forms_of (clause_scope names c.vars) a.right) sort in
      let w = and_parts (l && r) (relates sort a.cmp) e in
      let u = and_parts l r w.0 in
      (u.0, u.1, w.1)

  atom_good : (good : Cmp → Side → Side → Bool) (test : Cmp → Bool) → ((cmp : Cmp) (a b : Side) → is_plain a ≡ true → is_plain b ≡ true → good cmp a b ≡ true)
      → ((a : Atom) (cmp : Cmp) → relates Ptr cmp ≡ true → (test cmp ≡ true → rule a ≡ true) → Is a.left → Is a.right
      → (forms_of (clause_scope names c.vars) a.left).ptr ≡ true → (forms_of (clause_scope names c.vars) a.right).ptr ≡ true → good cmp (told a.left) (told a.right) ≡ true)
      → (a : Atom) (sort : Sort) → sorted_as sort a ≡ true → not (is_idx sort) ≡ true → (not (test a.cmp) || rule a) ≡ true → Is a.left → Is a.right → good a.cmp (told a.left) (told a.right) ≡ true
  atom_good good test plains points a Num e none keeps p q =
      let w = sides_of Num a e in
      plains a.cmp (told a.left) (told a.right) (num_plain a.left p w.0) (num_plain a.right q w.1)
  atom_good good test plains points a Idx e none keeps p q = absurd (let no : false ≡ true = none in cc)
  atom_good good test plains points a Ptr e none keeps p q =
      let w = sides_of Ptr a e in
      points a a.cmp w.2 (λ t. sym (ap (λ b. not b || rule a) t) ∙ keeps) p q w.0 w.1

  abbrev IsSorted : Atom → Type 0
  IsSorted a = atom_is_sorted (clause_scope names c.vars) a ≡ true

  -- all of them
  all_good : (good : Cmp → Side → Side → Bool) (test : Cmp → Bool)
      → ((a : Atom) (sort : Sort) → sorted_as sort a ≡ true → not (is_idx sort) ≡ true → (not (test a.cmp) || rule a) ≡ true → Is a.left → Is a.right → good a.cmp (told a.left) (told a.right) ≡ true)
      → (atoms : List Atom) → All IsSorted atoms → list_all (is_no_index names c) atoms ≡ true → list_all (λ (a : Atom). not (test a.cmp) || rule a) atoms ≡ true → All Read (atoms_applications atoms)
      → list_all (λ (a : Atom). good a.cmp (told a.left) (told a.right)) atoms ≡ true
  all_good good test each [] sorted none keeps h = refl
  all_good good test each (a ∷ atoms) sorted none keeps h =
      let l = applications a.left in
      let r = applications a.right in
      let own = front Read (l ++ r) (atoms_applications atoms) h in
      let u = and_parts (is_no_index names c a) (list_all (is_no_index names c) atoms) none in
      let w = and_parts (not (test a.cmp) || rule a) (list_all (λ (b : Atom). not (test b.cmp) || rule b) atoms) keeps in
      let is = term_is names c s known_pointers gives_is in
      and_from (good a.cmp (told a.left) (told a.right)) (list_all (λ (b : Atom). good b.cmp (told b.left) (told b.right)) atoms)
      (each a (sort_of (clause_scope names c.vars) a) (All-head IsSorted a atoms sorted) u.0 w.0 (is a.left (front Read l r own)) (is a.right (back Read l r own)))
      (all_good good test each atoms (All-tail IsSorted a atoms sorted) u.1 w.1 (back Read (l ++ r) (atoms_applications atoms) h))

  -- applications and the pointers in their arguments
  all_read : (apps : List Application) → All (IsFieldRead names (is_own funcs) c.vars) apps → list_all (λ (a : Application). list_all (is_guarded names c) a.args) apps ≡ true → All Read apps
  all_read [] h e = All-nil Read
  all_read (a ∷ apps) h e =
      let w = and_parts (list_all (is_guarded names c) a.args) (list_all (λ (b : Application). list_all (is_guarded names c) b.args) apps) e in
      All-cons Read a apps (record { read = All-head (IsFieldRead names (is_own funcs) c.vars) a apps h; arguments = w.0 }) (all_read apps (All-tail (IsFieldRead names (is_own funcs) c.vars) a apps h) w.1)

  pub sides_good : IsTrue (sides_are_good s (has_null_guard c) (universal_of c))
  sides_good =
      let equations = list_all (λ (a : Atom). not (is_eq a.cmp) || rule a) c.guard in
      let inequations = list_all (λ (a : Atom). not (is_ne a.cmp) || rule a) c.head in
      let args = list_all (λ (a : Application). list_all (is_guarded names c) a.args) (clause_applications c) in
      let w = and_parts args (equations && inequations) rules in
      let u = and_parts equations inequations w.1 in
      let all = all_read (clause_applications c) reads w.0 in
      let none = and_parts (list_all (is_no_index names c) c.guard) (list_all (is_no_index names c) c.head) (and_parts (list_all (λ v. is_ptr v.sort) c.vars) (list_all (is_no_index names c) c.guard && list_all (is_no_index names c) c.head) over).1 in
      and_from (list_all (λ (a : Atom). good_guard a.cmp (told a.left) (told a.right)) c.guard) (list_all (λ (a : Atom). good_head a.cmp (told a.left) (told a.right)) c.head)
      (all_good good_guard is_eq (atom_good good_guard is_eq plain_guard pointer_guard) c.guard flat.guard none.0 u.0 (front Read (atoms_applications c.guard) (atoms_applications c.head) all))
      (all_good good_head is_ne (atom_good good_head is_ne plain_head pointer_head) c.head flat.head none.1 u.1 (back Read (atoms_applications c.guard) (atoms_applications c.head) all))

pub guarded_sides_are_good : GuardedSidesAreGood
guarded_sides_are_good names c frame constant funcs flat over rules reads pointers = sides_good names c frame constant funcs flat over rules reads pointers
