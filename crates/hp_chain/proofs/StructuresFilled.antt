-- Values of names from those of the constants: each definition has the value of its body, in the order of their making.
use Rattle.std.proofs.Common.{◌≡◌, ◌∙◌, ◌++◌, ◌+◌, ℕ, zero, suc, ◌≤◌, ◌<◌, inl, inr, pos, IsTrue, List, [], ◌∷◌, length, map, take, Option, Some, slice_get, refl, sym, ap, subst, arith, append_assoc, append-nil, length-append, add-one}
use Rattle.std.proofs.lemmas.Bool.{cases_eq}
use Rattle.std.proofs.lemmas.List.{get_or_append_left, get_or_push, length-take-le, map-append, take_all, take_more}
use Rattle.std.proofs.lemmas.Option.{get_or_from_slice_get, slice_get_within}
use Rattle.hp_math.specs.Rational.{ℚ, whole}
use Rattle.hp_tree.specs.declared.problem.Sort.{Sort}
use Rattle.hp_tree.specs.Sorted.{is_of_sort}
use Rattle.hp_tree.specs.Value.{Functions}
use Rattle.hp_terms.specs.Laws.{AreOfSort}
use Rattle.hp_lit.specs.declared.line.Body.{Body}
use Rattle.hp_lit.specs.declared.line.Body.TheVariants.{Apply, Sum}
use Rattle.hp_lit.specs.declared.line.Def.{Def}
use Rattle.hp_lit.specs.Truth.{Values, name_value}
use Rattle.hp_defs.specs.declared.names.Signature.{Signature}
use Rattle.hp_defs.specs.Fit.{BodyFits, IsFitNames}
use Rattle.hp_defs.specs.Names.{NameList, constant_sort, first_names, result_sort, sort_of_body, sort_of_definition, sorts}
use Rattle.hp_defs.proofs.Growing.{length_sorts}
use Rattle.hp_defs.proofs.Lists.{pushed}
use Rattle.hp_base.specs.Values.{Extends, arg_values, body_value, signature_function}
use Rattle.hp_class.specs.Groups.{AreInside}
use Rattle.hp_class.proofs.Inside.{args_inside}
use Rattle.hp_groups.proofs.Held.{got_one}
use Rattle.hp_chain.proofs.StructuresStay.{body_stays, name_stays}
use Rattle.hp_lit.specs.Growing.{Begins}
use Rattle.hp_lit.proofs.Growing.{begins_more, begins_same, begins_then}

-- ---- lists
-- the first elements and one more
take_one_more : {A : Type 0} (xs : List A) (k : ℕ) (x : A) → slice_get xs k ≡ Some x → take (suc k) xs ≡ take k xs ++ x ∷ []
take_one_more xs k x e =
    ap (λ n. take n xs) (sym (add-one k)) ∙ take_more xs k x (slice_get_within xs k x e) ∙ ap (λ y. take k xs ++ y ∷ []) (get_or_from_slice_get xs k x x e)

take_nothing : {A : Type 0} (xs : List A) → take 0 xs ≡ []
take_nothing [] = refl
take_nothing (x ∷ xs) = refl

-- ---- functions of values of their sorts
abbrev pub FunctionsKeep : ℕ → Functions → NameList → Type 0
FunctionsKeep size functions names = (func : ℕ) (signature : Signature) (args : List ℚ) → slice_get names.signatures func ≡ Some signature → AreOfSort size signature.args args
    → IsTrue (is_of_sort size signature.result (functions signature.name args))

module _ (size : ℕ) (some : 1 ≤ size) (functions : Functions) (names : NameList) (fit : IsFitNames names) (keep : FunctionsKeep size functions names) where
  body_has_sort : (k : ℕ) (v : Values) → AreInside size (sorts (first_names k names)) v → (body : Body) → BodyFits (first_names k names) body
      → IsTrue (is_of_sort size (sort_of_body names.signatures body) (body_value functions names v body))
  body_has_sort k v inside (Sum lin) fits = refl
  body_has_sort k v inside (Apply func args) fits =
      let Sorted : Option Signature → Type 0 = λ o. IsTrue (is_of_sort size (result_sort o) (signature_function functions o (arg_values v args))) in
      subst Sorted (sym fits.found) (keep func fits.known (arg_values v args) fits.found (args_inside size (sorts (first_names k names)) v some inside fits.known.args args fits.args_fit))

  -- ---- so many definitions
  sorts_more : (k : ℕ) (d : Def) → slice_get names.definitions k ≡ Some d → sorts (first_names (suc k) names) ≡ sorts (first_names k names) ++ sort_of_definition names.signatures d ∷ []
  sorts_more k d there =
      let front = map constant_sort names.constants in
      let sort = sort_of_definition names.signatures in
      ap (λ (ds : List Def). front ++ map sort ds) (take_one_more names.definitions k d there)
      ∙ ap (λ ss. front ++ ss) (map-append sort (take k names.definitions) (d ∷ []))
      ∙ sym (append_assoc front (map sort (take k names.definitions)) (sort d ∷ []))

  sorts_count : (k : ℕ) → k ≤ length names.definitions → length (sorts (first_names k names)) ≡ length names.constants + k
  sorts_count k few = length_sorts (first_names k names) ∙ ap (λ n. length names.constants + n) (length-take-le k names.definitions few)

  -- values of the constants and of so many definitions, which are those of their bodies
  pub record AreFilled (consts : Values) (k : ℕ) (v : Values) : Type 0 where
    pub count : length v ≡ length names.constants + k
    pub begins : Begins consts v
    pub inside : AreInside size (sorts (first_names k names)) v
    pub bodies : (j : ℕ) (d : Def) → j < k → slice_get names.definitions j ≡ Some d → name_value v (length names.constants + j) ≡ body_value functions names v d.body

  start : (consts : Values) → length consts ≡ length names.constants → AreInside size (map constant_sort names.constants) consts → AreFilled consts 0 consts
  start consts count inside = record {
    count = omega (arith, count);
    begins = begins_same consts consts refl;
    inside =
        let none : sorts (first_names 0 names) ≡ map constant_sort names.constants =
        ap (λ (ds : List Def). map constant_sort names.constants ++ map (sort_of_definition names.signatures) ds) (take_nothing names.definitions) ∙ append-nil (map constant_sort names.constants) in
        subst (λ (ss : List Sort). AreInside size ss consts) (sym none) inside;
    bodies = λ j d within there. absurd (omega arith);
  }

  more : (consts : Values) (k : ℕ) (v : Values) (d : Def) → slice_get names.definitions k ≡ Some d → AreFilled consts k v → AreFilled consts (suc k) (v ++ body_value functions names v d.body ∷ [])
  more consts k v d there filled = record {
    count = length-append v (x ∷ []) ∙ omega (arith, filled.count);
    begins = begins_then consts v (v ++ x ∷ []) filled.begins (begins_more v (x ∷ []) (v ++ x ∷ []) refl);
    inside = λ n s e. elim (pushed (sorts (first_names k names)) (sort_of_definition names.signatures d) n s (subst (λ (ss : List Sort). slice_get ss n ≡ Some s) (sorts_more k d there) e)) [
      | inl old ↦ subst (λ y. IsTrue (is_of_sort size s y)) (sym (name_stays (sorts (first_names k names)) v (x ∷ []) few n s old)) (filled.inside n s old)
      | inr new ↦ subst (λ (t : Sort). IsTrue (is_of_sort size t (name_value (v ++ x ∷ []) n))) (sym new.1)
          (subst (λ y. IsTrue (is_of_sort size (sort_of_definition names.signatures d) y)) (sym (get_or_push v x (whole (pos 0)) n (same_count ∙ sym new.0))) (body_has_sort k v filled.inside d.body (fit k d there)))
    ];
    bodies = λ j e within at. elim (cases_eq j k) [
      | inl same ↦ last j e at same
      | inr other ↦ old j e (omega (arith, other)) at
    ];
  }
    where
      x : ℚ
      x = body_value functions names v d.body

      within : k < length names.definitions
      within = slice_get_within names.definitions k d there

      same_count : length v ≡ length (sorts (first_names k names))
      same_count = filled.count ∙ sym (sorts_count k (omega (arith, within)))

      few : length (sorts (first_names k names)) ≤ length v
      few = omega (arith, same_count)

      stays : (j : ℕ) (e : Def) → j ≤ k → slice_get names.definitions j ≡ Some e → body_value functions names (v ++ x ∷ []) e.body ≡ body_value functions names v e.body
      stays j e before at = body_stays functions names (first_names j names) v (x ∷ []) (omega (arith, filled.count, sorts_count j (omega (arith, within)))) e.body (fit j e at)

      old : (j : ℕ) (e : Def) → j < k → slice_get names.definitions j ≡ Some e → name_value (v ++ x ∷ []) (length names.constants + j) ≡ body_value functions names (v ++ x ∷ []) e.body
      old j e before at =
          get_or_append_left v (x ∷ []) (whole (pos 0)) (length names.constants + j) (omega (arith, filled.count))
          ∙ filled.bodies j e before at ∙ sym (stays j e (omega arith) at)

      last : (j : ℕ) (e : Def) → slice_get names.definitions j ≡ Some e → j ≡ k → name_value (v ++ x ∷ []) (length names.constants + j) ≡ body_value functions names (v ++ x ∷ []) e.body
      last j e at same =
          let here : slice_get names.definitions k ≡ Some e = subst (λ (n : ℕ). slice_get names.definitions n ≡ Some e) same at in
          let both : Some d ≡ Some e = sym there ∙ here in
          let is : d ≡ e = cc in
          get_or_push v x (whole (pos 0)) (length names.constants + j) (omega (arith, filled.count))
          ∙ ap (λ (c : Def). body_value functions names v c.body) is ∙ sym (stays j e (omega (arith, same)) at)

  filled_upto : (consts : Values) → length consts ≡ length names.constants → AreInside size (map constant_sort names.constants) consts
      → (k : ℕ) → k ≤ length names.definitions → (v : Values) × AreFilled consts k v
  filled_upto consts count inside zero few = (consts, start consts count inside)
  filled_upto consts count inside (suc k) few =
      let before = filled_upto consts count inside k (omega arith) in
      let next = got_one names.definitions k (omega arith) in
      (before.0 ++ body_value functions names before.0 next.0.body ∷ [], more consts k before.0 next.0 next.1 before.1)

  -- values of all names, those of the constants in front
  pub record AreExtended (consts v : Values) : Type 0 where
    pub count : length v ≡ length (sorts names)
    pub begins : Begins consts v
    pub inside : AreInside size (sorts names) v
    pub extends : Extends functions names v

  pub extended : (consts : Values) → length consts ≡ length names.constants → AreInside size (map constant_sort names.constants) consts → (v : Values) × AreExtended consts v
  extended consts count inside =
      let n = length names.definitions in
      let last = filled_upto consts count inside n (omega arith) in
      let all : sorts (first_names n names) ≡ sorts names =
      ap (λ (ds : List Def). map constant_sort names.constants ++ map (sort_of_definition names.signatures) ds) (take_all n names.definitions (omega arith)) in (
        last.0,
        record {
          count = last.1.count ∙ sym (length_sorts names);
          begins = last.1.begins;
          inside = subst (λ (ss : List Sort). AreInside size ss last.0) all last.1.inside;
          extends = λ k d there. last.1.bodies k d (slice_get_within names.definitions k d there) there;
        },
      )
