-- The sides of atoms in clauses over fields that keep the rules.
use Rattle.std.proofs.Common.{◌≡◌, ◌∙◌, inl, inr, List, [], ◌∷◌, map, Bool, true, false, ◌&&◌, ◌||◌, not, if◌then◌else◌, Option, Some, None, refl, sym, ap, subst}
use Rattle.std.specs.List.{All, AllZip, list_all}
use Rattle.std.proofs.lemmas.Bool.{and_from, and_parts, or_left, or_right}
use Rattle.std.proofs.lemmas.List.Elements.{All-cons, All-head, All-nil, All-tail}
use Rattle.hp_index.proofs.Layers.{bare, by_layers}
use Rattle.hp_tree.specs.declared.term.Term.{Term, fold-roll-Term, ind-Term, map-Term, out-Term, out-roll-Term, roll-Term}
use Rattle.hp_tree.specs.declared.term.Term.TheOpen.{Term-F}
use Rattle.hp_tree.specs.declared.problem.Sort.{Sort}
use Rattle.hp_tree.specs.declared.problem.Sort.TheVariants.{Num, Idx, Ptr}
use Rattle.hp_tree.specs.Value.{Word}
use Rattle.hp_terms.specs.declared.forms.Forms.{Forms}
use Rattle.hp_terms.specs.Occurring.{joined}
use Rattle.hp_terms.specs.Scope.{Profile, Scope}
use Rattle.hp_terms.specs.Sorting.{application_forms, difference_forms, fit, forms_of, forms_step, has_form, multiple_forms, name_forms, negation_forms, no_forms, sort_forms, sum_forms}
use Rattle.hp_local.specs.Fields.{FieldScope, Side, is_plain, is_settled, one_pointer, side_step}
use Rattle.hp_local.specs.NullGuards.{Marked, marked, marked_step}
use Rattle.hp_defs.specs.Names.{NameList}
use Rattle.hp_norm.specs.declared.flat.FlatClause.{FlatClause}
use Rattle.hp_norm.specs.Scopes.{clause_scope, function_profile}
use Rattle.hp_flatten.specs.declared.application.Application.{Application}
use Rattle.hp_flatten.specs.Applications.{applications}
use Rattle.hp_flatten.specs.Sorts.{is_ptr}
use Rattle.hp_flatten.proofs.HoldsTerms.{applications_apply, applications_at, back, front}
use Rattle.hp_null_guards.specs.Laws.{IsFieldProfile, IsFieldRead, IsFieldSort, IsLowerArgument, IsLowerRead}
use Rattle.hp_null_guards.specs.Rules.{gives_pointer, has_null_guard, is_guarded, is_pointer_read}

-- ---- marks
module _ (s : FieldScope) (guarded : Term → Bool) where
  abbrev pub mark : Term → Marked
  mark = marked s guarded

  abbrev pub side : Term → Side
  side t = (mark t).side

  abbrev SamePart : Type 0
  SamePart = (t : Term) × ((mark t).term ≡ t)

  same_terms : (ts : List SamePart) → map (λ a. a.term) (map mark (map (λ (e : SamePart). e.0) ts)) ≡ map (λ (e : SamePart). e.0) ts
  same_terms [] = refl
  same_terms (t ∷ ts) = λ i. t.1 i ∷ same_terms ts i

  term_layer : (y : Term-F SamePart) → let z = roll-Term (map-Term SamePart Term (λ e. e.0) y) in (mark z).term ≡ z
  term_layer (Term-F.Number n) = simp fold-roll-Term
  term_layer Term-F.Null = simp fold-roll-Term
  term_layer (Term-F.Name n) = simp fold-roll-Term
  term_layer (Term-F.Apply func args) = simp fold-roll-Term (λ i. roll-Term (Term-F.Apply func (same_terms args i)))
  term_layer (Term-F.Add a b) = simp fold-roll-Term (λ i. roll-Term (Term-F.Add (a.1 i) (b.1 i)))
  term_layer (Term-F.Sub a b) = simp fold-roll-Term (λ i. roll-Term (Term-F.Sub (a.1 i) (b.1 i)))
  term_layer (Term-F.Neg a) = simp fold-roll-Term (λ i. roll-Term (Term-F.Neg (a.1 i)))
  term_layer (Term-F.Scale n a) = simp fold-roll-Term (λ i. roll-Term (Term-F.Scale n (a.1 i)))

  mark_term : (t : Term) → (mark t).term ≡ t
  mark_term t = ind-Term (λ t. (mark t).term ≡ t) (λ x y is. subst (λ z. (mark (roll-Term z)).term ≡ roll-Term z) is (term_layer y)) t

  mark_terms : (ts : List Term) → map (λ a. a.term) (map mark ts) ≡ ts
  mark_terms [] = refl
  mark_terms (t ∷ ts) = λ i. mark_term t i ∷ mark_terms ts i

  sides_mapped : (ts : List Term) → map (λ a. a.side) (map mark ts) ≡ map side ts
  sides_mapped [] = refl
  sides_mapped (t ∷ ts) = ap (λ rest. side t ∷ rest) (sides_mapped ts)

  side_layer : (z : Term-F Term) → (marked_step s guarded (map-Term Term Marked mark z)).side ≡ side_step s (guarded (roll-Term z)) (map-Term Term Side side z)
  side_layer (Term-F.Number n) = refl
  side_layer Term-F.Null = refl
  side_layer (Term-F.Name n) = refl
  side_layer (Term-F.Apply func args) = λ i. side_step s (guarded (roll-Term (Term-F.Apply func (mark_terms args i)))) (Term-F.Apply func (sides_mapped args i))
  side_layer (Term-F.Add a b) = λ i. side_step s (guarded (roll-Term (Term-F.Add (mark_term a i) (mark_term b i)))) (Term-F.Add (side a) (side b))
  side_layer (Term-F.Sub a b) = λ i. side_step s (guarded (roll-Term (Term-F.Sub (mark_term a i) (mark_term b i)))) (Term-F.Sub (side a) (side b))
  side_layer (Term-F.Neg a) = λ i. side_step s (guarded (roll-Term (Term-F.Neg (mark_term a i)))) (Term-F.Neg (side a))
  side_layer (Term-F.Scale n a) = λ i. side_step s (guarded (roll-Term (Term-F.Scale n (mark_term a i)))) (Term-F.Scale n (side a))

  -- the mark of a term, by its first layer
  pub side_roll : (z : Term-F Term) → side (roll-Term z) ≡ side_step s (guarded (roll-Term z)) (map-Term Term Side side z)
  side_roll z = ap (λ (m : Marked). m.side) (fold-roll-Term Marked (marked_step s guarded) z) ∙ side_layer z

-- ---- terms
-- a number, an index, or a whole number
abbrev pub is_value : Forms → Bool
is_value f = (f.num || f.idx) || f.whole

sort_value : (sort : Sort) → has_form (sort_forms sort) Num ≡ true → is_value (sort_forms sort) ≡ true
sort_value Num e = refl
sort_value Idx e = refl
sort_value Ptr e = absurd (cc)

-- the parts of a sum, by their forms
sum_left : (n m i w v j : Bool) → (((n && m) || ((i && w) || (v && j))) || false) ≡ true → ((n || i) || v) ≡ true
sum_left true m i w v j e = refl
sum_left false m true w v j e = refl
sum_left false m false w true j e = refl
sum_left false m false w false j e = e

sum_right : (n m i w v j : Bool) → (((n && m) || ((i && w) || (v && j))) || false) ≡ true → ((m || j) || w) ≡ true
sum_right n true i w v j e = refl
sum_right n false i w v true e = refl
sum_right n false i true v false e = refl
sum_right true false true false true false e = e
sum_right true false true false false false e = e
sum_right true false false false true false e = e
sum_right true false false false false false e = e
sum_right false false true false true false e = e
sum_right false false true false false false e = e
sum_right false false false false true false e = e
sum_right false false false false false false e = e

difference_left : (n m i w v : Bool) → (((n && m) || (i && w)) || false) ≡ true → ((n || i) || v) ≡ true
difference_left true m i w v e = refl
difference_left false m true w v e = refl
difference_left false m false w v e = absurd (let no : false ≡ true = e in cc)

difference_right : (n m i w j : Bool) → (((n && m) || (i && w)) || false) ≡ true → ((m || j) || w) ≡ true
difference_right n true i w j e = refl
difference_right n false i w true e = refl
difference_right n false i true false e = refl
difference_right true false true false false e = e
difference_right true false false false false e = e
difference_right false false true false false e = e
difference_right false false false false false e = e

negation_inner : (n w i : Bool) → ((n || w) || false) ≡ true → ((n || i) || w) ≡ true
negation_inner true w i e = refl
negation_inner false true true e = refl
negation_inner false true false e = refl
negation_inner false false i e = absurd (let no : false ≡ true = e in cc)

multiple_inner : (n i w : Bool) → ((n || false) || false) ≡ true → ((n || i) || w) ≡ true
multiple_inner true i w e = refl
multiple_inner false i w e = absurd (let no : false ≡ true = e in cc)

-- no pointer of a field
pub plain_settled : (a : Side) → is_plain a ≡ true → is_settled a ≡ true
plain_settled a e = let w = and_parts a.good (not a.given) e in and_from a.good (not a.given || a.live) w.0 (or_left (not a.given) a.live w.1)

-- ---- terms of a clause
-- what is told of a term with these forms: where it is a number or an index no field gives it, and where it is a pointer each pointer in
-- it that is read further is known not to be null
pub record IsSide (names : NameList) (f : Forms) (t : Term) (known : Bool) (a : Side) : Type 0 where
  pub live : a.live ≡ known
  pub plain : is_value f ≡ true → is_plain a ≡ true
  pub good : f.ptr ≡ true → a.good ≡ true
  pub pointer : f.ptr ≡ true → a.pointer ≡ true
  pub given : a.given ≡ true → is_pointer_read names (out-Term t) ≡ true

module _ (names : NameList) (c : FlatClause) (s : FieldScope) (known_pointers : (word : Word) → (clause_scope names c.vars).name word ≡ Some Ptr → s.pointer word ≡ true)
    (gives_is : (word : Word) → s.gives word ≡ gives_pointer (function_profile names word)) where
  abbrev scope : Scope
  scope = clause_scope names c.vars

  abbrev guarded : Term → Bool
  guarded = has_null_guard c

  abbrev told : Term → Side
  told = side s guarded

  abbrev forms : Term → Forms
  forms = forms_of scope

  -- an application that keeps the rules
  pub record IsRead (a : Application) : Type 0 where
    pub read : IsFieldRead names s.own c.vars a
    pub arguments : list_all (is_guarded names c) a.args ≡ true

  abbrev Is : Term → Type 0
  Is t = IsSide names (forms t) t (guarded t) (told t)

  abbrev Claim : Term → Type 0
  Claim t = All IsRead (applications t) → Is t

  abbrev Part : Type 0
  Part = (t : Term) × Claim t

  forms_roll : (z : Term-F Term) → forms (roll-Term z) ≡ forms_step scope (map-Term Term Forms forms z)
  forms_roll z = fold-roll-Term Forms (forms_step scope) z

  -- by the first layer
  is_rolled : (z : Term-F Term) → IsSide names (forms_step scope (map-Term Term Forms forms z)) (roll-Term z) (guarded (roll-Term z)) (side_step s (guarded (roll-Term z)) (map-Term Term Side told z))
      → Is (roll-Term z)
  is_rolled z h =
      subst (λ a. IsSide names (forms (roll-Term z)) (roll-Term z) (guarded (roll-Term z)) a) (sym (side_roll s guarded z))
      (subst (λ f. IsSide names f (roll-Term z) (guarded (roll-Term z)) (side_step s (guarded (roll-Term z)) (map-Term Term Side told z))) (sym (forms_roll z)) h)

  -- a pointer with the rule's guard
  settled : (t : Term) → Is t → (forms t).ptr ≡ true → is_guarded names c t ≡ true → is_settled (told t) ≡ true
  settled t is e rule = and_from (told t).good (not (told t).given || (told t).live) (is.good e) (by (told t).given refl)
    where
      by : (b : Bool) → (told t).given ≡ b → (not b || (told t).live) ≡ true
      by false g = refl
      by true g = is.live ∙ sym (ap (λ r. not r || guarded t) (is.given g)) ∙ rule

  -- ---- applications
  given_apply : (func : Word) (args : List Term) → s.own func && s.gives func ≡ true → is_pointer_read names (out-Term (roll-Term (Term-F.Apply func args))) ≡ true
  given_apply func args e =
      ap (is_pointer_read names) (out-roll-Term (Term-F.Apply func args)) ∙ sym (gives_is func) ∙ (and_parts (s.own func) (s.gives func) e).1

  -- the side of an application, by whether its function is a field and gives a pointer
  abbrev apply_side : Bool → Bool → Bool → List Side → Side
  apply_side own gives live args = record { pointer = own && gives; given = own && gives; live = live; good = if own then one_pointer args else list_all is_plain args }

  fit_value : (b : Bool) (f : Forms) → is_value (if b then f else no_forms) ≡ true → (b ≡ true) × (is_value f ≡ true)
  fit_value true f e = (refl, e)
  fit_value false f e = absurd (let no : false ≡ true = e in cc)

  fit_pointer : (b : Bool) (f : Forms) → (if b then f else no_forms).ptr ≡ true → (b ≡ true) × (f.ptr ≡ true)
  fit_pointer true f e = (refl, e)
  fit_pointer false f e = absurd (let no : false ≡ true = e in cc)

  pointer_sort : (sort : Sort) → (sort_forms sort).ptr ≡ true → is_ptr sort ≡ true
  pointer_sort Num e = e
  pointer_sort Idx e = e
  pointer_sort Ptr e = refl

  field_value : (sort : Sort) → IsFieldSort sort → is_value (sort_forms sort) ≡ true → is_ptr sort ≡ false
  field_value Num h e = refl
  field_value Idx h e = absurd h
  field_value Ptr h e = absurd (let no : false ≡ true = e in cc)

  not_both : (x : Bool) → x ≡ true → x ≡ false → ⊥
  not_both x e f = let no : false ≡ true = sym f ∙ e in cc

  -- that of a field
  one_read : (terms : List Term) → All Is terms → list_all (is_guarded names c) terms ≡ true → fit (map forms terms) (Ptr ∷ []) ≡ true → one_pointer (map told terms) ≡ true
  one_read [] all rules e = absurd (let no : false ≡ true = e in cc)
  one_read (t ∷ []) all rules e =
      let is = All-head Is t [] all in
      let ptr = (and_parts ((forms t).ptr) true e).0 in
      and_from (is_settled (told t)) (told t).pointer (settled t is ptr (and_parts (is_guarded names c t) true rules).0) (is.pointer ptr)
  one_read (t ∷ u ∷ ts) all rules e = absurd (not_both false (and_parts ((forms t).ptr) false e).1 refl)

  field_is : (profile : Profile) → IsFieldProfile profile → (term : Term) (live gives : Bool) → gives ≡ gives_pointer (Some profile) → (gives ≡ true → is_pointer_read names (out-Term term) ≡ true)
      → (terms : List Term) → All Is terms → list_all (is_guarded names c) terms ≡ true
      → IsSide names (application_forms (map forms terms) (Some profile)) term live (apply_side true gives live (map told terms))
  field_is profile field term live gives same read terms all rules =
      let own = sort_forms profile.result in
      let b = fit (map forms terms) profile.args in
      let one : b ≡ true → one_pointer (map told terms) ≡ true = λ e. one_read terms all rules (subst (λ ss. fit (map forms terms) ss ≡ true) field.arguments e) in
      record {
        live = refl;
        plain = λ e. (
            let w = fit_value b own e in
            and_from (one_pointer (map told terms)) (not gives) (one w.0) (ap not (same ∙ field_value profile.result field.result w.1)));
        good = λ e. one (fit_pointer b own e).0;
        pointer = λ e. same ∙ pointer_sort profile.result (fit_pointer b own e).1;
        given = read;
      }

  -- and of a lower function
  no_read_layer : (z : Term-F Term) → applications (roll-Term z) ≡ [] → is_pointer_read names z ≡ true → ⊥
  no_read_layer (Term-F.Number q) e r = let no : false ≡ true = r in cc
  no_read_layer Term-F.Null e r = let no : false ≡ true = r in cc
  no_read_layer (Term-F.Name word) e r = let no : false ≡ true = r in cc
  no_read_layer (Term-F.Apply func args) e r = let some = sym (applications_apply func args) ∙ e in cc
  no_read_layer (Term-F.Add a b) e r = let no : false ≡ true = r in cc
  no_read_layer (Term-F.Sub a b) e r = let no : false ≡ true = r in cc
  no_read_layer (Term-F.Neg a) e r = let no : false ≡ true = r in cc
  no_read_layer (Term-F.Scale q a) e r = let no : false ≡ true = r in cc

  abbrev IsUnread : Term → Type 0
  IsUnread t = applications t ≡ [] → is_pointer_read names (out-Term t) ≡ true → ⊥

  no_read : (t : Term) → IsUnread t
  no_read t =
      by_layers IsUnread (λ y e r. no_read_layer (bare IsUnread y) e (ap (is_pointer_read names) (sym (out-roll-Term (bare IsUnread y))) ∙ r)) t

  unread_plain : (t : Term) → Is t → applications t ≡ [] → (forms t).ptr ≡ true → is_plain (told t) ≡ true
  unread_plain t is none e = and_from (told t).good (not (told t).given) (is.good e) (by (told t).given refl)
    where
      by : (b : Bool) → (told t).given ≡ b → not b ≡ true
      by false g = refl
      by true g = absurd (no_read t none (is.given g))

  num_value : (f : Forms) → f.num ≡ true → is_value f ≡ true
  num_value f e = or_left (f.num || f.idx) f.whole (or_left f.num f.idx e)

  lower_plain : (sort : Sort) (t : Term) → Is t → IsLowerArgument c.vars sort t → has_form (forms t) sort ≡ true → is_plain (told t) ≡ true
  lower_plain sort t is (inl e) h = is.plain (num_value (forms t) (subst (λ r. has_form (forms t) r ≡ true) e h))
  lower_plain Num t is (inr none) h = is.plain (num_value (forms t) h)
  lower_plain Idx t is (inr none) h = is.plain (or_left ((forms t).num || (forms t).idx) (forms t).whole (or_right (forms t).num (forms t).idx h))
  lower_plain Ptr t is (inr none) h = unread_plain t is none.1 h

  lowers_plain : (ss : List Sort) (terms : List Term) → All Is terms → AllZip (IsLowerArgument c.vars) ss terms → fit (map forms terms) ss ≡ true → list_all is_plain (map told terms) ≡ true
  lowers_plain [] [] all lower e = refl
  lowers_plain [] (t ∷ terms) all lower e = absurd lower
  lowers_plain (sort ∷ ss) [] all lower e = absurd lower
  lowers_plain (sort ∷ ss) (t ∷ terms) all lower e =
      let w = and_parts (has_form (forms t) sort) (fit (map forms terms) ss) e in
      and_from (is_plain (told t)) (list_all is_plain (map told terms)) (lower_plain sort t (All-head Is t terms all) lower.0 w.0) (lowers_plain ss terms (All-tail Is t terms all) lower.1 w.1)

  no_pointer : (sort : Sort) → sort ≡ Num → (sort_forms sort).ptr ≡ true → ⊥
  no_pointer sort e h = not_both ((sort_forms sort).ptr) h (ap (λ (r : Sort). (sort_forms r).ptr) e)

  lower_is : (profile : Profile) (term : Term) (live gives : Bool) (terms : List Term) → IsLowerRead c.vars profile terms → All Is terms
      → IsSide names (application_forms (map forms terms) (Some profile)) term live (apply_side false gives live (map told terms))
  lower_is profile term live gives terms lower all =
      let own = sort_forms profile.result in
      let b = fit (map forms terms) profile.args in
      record {
        live = refl;
        plain = λ e. and_from (list_all is_plain (map told terms)) true (lowers_plain profile.args terms all lower.arguments (fit_value b own e).0) refl;
        good = λ e. absurd (no_pointer profile.result lower.result (fit_pointer b own e).1);
        pointer = λ e. absurd (no_pointer profile.result lower.result (fit_pointer b own e).1);
        given = λ e. absurd (let no : false ≡ true = e in cc);
      }

  -- an application that keeps the rules, whose arguments are told of
  apply_is : (func : Word) (terms : List Term) → All Is terms → IsRead (record { func = func; args = terms }) → Is (roll-Term (Term-F.Apply func terms))
  apply_is func terms all r =
      is_rolled (Term-F.Apply func terms) (by (s.own func) refl)
    where
      term : Term
      term = roll-Term (Term-F.Apply func terms)

      IsWith : Bool → Type 0
      IsWith b = IsSide names (application_forms (map forms terms) (function_profile names func)) term (guarded term) (apply_side b (s.gives func) (guarded term) (map told terms))

      by : (b : Bool) → s.own func ≡ b → IsWith (s.own func)
      by true own =
          subst IsWith (sym own)
          (subst (λ (o : Option Profile). IsSide names (application_forms (map forms terms) o) term (guarded term) (apply_side true (s.gives func) (guarded term) (map told terms))) (sym r.read.known)
          (field_is r.read.profile (r.read.field own) term (guarded term) (s.gives func) (gives_is func ∙ ap gives_pointer r.read.known)
          (λ e. given_apply func terms (and_from (s.own func) (s.gives func) own e)) terms all r.arguments))
      by false own =
          subst IsWith (sym own)
          (subst (λ (o : Option Profile). IsSide names (application_forms (map forms terms) o) term (guarded term) (apply_side false (s.gives func) (guarded term) (map told terms))) (sym r.read.known)
          (lower_is r.read.profile term (guarded term) (s.gives func) terms (r.read.lower own) all))

  -- ---- the other terms
  name_pointer : (o : Option Sort) → (name_forms o).ptr ≡ true → o ≡ Some Ptr
  name_pointer None e = absurd (let no : false ≡ true = e in cc)
  name_pointer (Some Num) e = absurd (let no : false ≡ true = e in cc)
  name_pointer (Some Idx) e = absurd (let no : false ≡ true = e in cc)
  name_pointer (Some Ptr) e = refl

  name_is : (word : Word) → Is (roll-Term (Term-F.Name word))
  name_is word = is_rolled (Term-F.Name word) (record {
    live = refl;
    plain = λ e. refl;
    good = λ e. refl;
    pointer = λ e. known_pointers word (name_pointer (scope.name word) e);
    given = λ e. absurd (let no : false ≡ true = e in cc);
  })

  -- a number, over parts that are numbers
  value_is : (f : Forms) (term : Term) (live good : Bool) → f.ptr ≡ false → (is_value f ≡ true → good ≡ true)
      → IsSide names f term live (record { pointer = false; given = false; live = live; good = good })
  value_is f term live good none h = record {
    live = refl;
    plain = λ e. and_from good true (h e) refl;
    good = λ e. absurd (not_both f.ptr e none);
    pointer = λ e. absurd (not_both f.ptr e none);
    given = λ e. absurd (let no : false ≡ true = e in cc);
  }

  parts_are : (args : List Part) → All IsRead (joined (map applications (map (λ (e : Part). e.0) args))) → All Is (map (λ (e : Part). e.0) args)
  parts_are [] h = All-nil Is
  parts_are (e ∷ args) h =
      let rest = joined (map applications (map (λ (x : Part). x.0) args)) in
      All-cons Is e.0 (map (λ (x : Part). x.0) args) (e.1 (front IsRead (applications e.0) rest h)) (parts_are args (back IsRead (applications e.0) rest h))

  layer_is : (y : Term-F Part) → Claim (roll-Term (map-Term Part Term (λ e. e.0) y))
  layer_is (Term-F.Number q) h = is_rolled (Term-F.Number q) (value_is (forms_step scope (Term-F.Number q)) (roll-Term (Term-F.Number q)) (guarded (roll-Term (Term-F.Number q))) true refl (λ e. refl))
  layer_is Term-F.Null h = is_rolled Term-F.Null (record {
    live = refl;
    plain = λ e. refl;
    good = λ e. refl;
    pointer = λ e. refl;
    given = λ e. absurd (let no : false ≡ true = e in cc);
  })
  layer_is (Term-F.Name word) h = name_is word
  layer_is (Term-F.Apply func args) h =
      let terms = map (λ (e : Part). e.0) args in
      let own : Application = record { func = func; args = terms } in
      let all = subst (All IsRead) (applications_apply func terms) h in
      apply_is func terms (parts_are args (All-tail IsRead own (joined (map applications terms)) all)) (All-head IsRead own (joined (map applications terms)) all)
  layer_is (Term-F.Add a b) h =
      let all = subst (All IsRead) (applications_at (Term-F.Add a.0 b.0)) h in
      let p = a.1 (front IsRead (applications a.0) (applications b.0) all) in
      let q = b.1 (back IsRead (applications a.0) (applications b.0) all) in
      let f = forms a.0 in
      let g = forms b.0 in
      is_rolled (Term-F.Add a.0 b.0) (value_is (sum_forms f g) (roll-Term (Term-F.Add a.0 b.0)) (guarded (roll-Term (Term-F.Add a.0 b.0))) (is_plain (told a.0) && is_plain (told b.0)) refl
      (λ e. and_from (is_plain (told a.0)) (is_plain (told b.0)) (p.plain (sum_left f.num g.num f.idx g.whole f.whole g.idx e)) (q.plain (sum_right f.num g.num f.idx g.whole f.whole g.idx e))))
  layer_is (Term-F.Sub a b) h =
      let all = subst (All IsRead) (applications_at (Term-F.Sub a.0 b.0)) h in
      let p = a.1 (front IsRead (applications a.0) (applications b.0) all) in
      let q = b.1 (back IsRead (applications a.0) (applications b.0) all) in
      let f = forms a.0 in
      let g = forms b.0 in
      is_rolled (Term-F.Sub a.0 b.0) (value_is (difference_forms f g) (roll-Term (Term-F.Sub a.0 b.0)) (guarded (roll-Term (Term-F.Sub a.0 b.0))) (is_plain (told a.0) && is_plain (told b.0)) refl
      (λ e. and_from (is_plain (told a.0)) (is_plain (told b.0)) (p.plain (difference_left f.num g.num f.idx g.whole f.whole e)) (q.plain (difference_right f.num g.num f.idx g.whole g.idx e))))
  layer_is (Term-F.Neg a) h =
      let p = a.1 (subst (All IsRead) (applications_at (Term-F.Neg a.0)) h) in
      let f = forms a.0 in
      is_rolled (Term-F.Neg a.0) (value_is (negation_forms f) (roll-Term (Term-F.Neg a.0)) (guarded (roll-Term (Term-F.Neg a.0))) (is_plain (told a.0)) refl
      (λ e. p.plain (negation_inner f.num f.whole f.idx e)))
  layer_is (Term-F.Scale n a) h =
      let p = a.1 (subst (All IsRead) (applications_at (Term-F.Scale n a.0)) h) in
      let f = forms a.0 in
      is_rolled (Term-F.Scale n a.0) (value_is (multiple_forms f) (roll-Term (Term-F.Scale n a.0)) (guarded (roll-Term (Term-F.Scale n a.0))) (is_plain (told a.0)) refl
      (λ e. p.plain (multiple_inner f.num f.idx f.whole e)))

  pub term_is : (t : Term) → Claim t
  term_is t = ind-Term Claim (λ x y is. subst (λ z. Claim (roll-Term z)) is (layer_is y)) t
