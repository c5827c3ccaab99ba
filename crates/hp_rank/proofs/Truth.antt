-- Literals at values by rank.
use Rattle.std.proofs.Common.{◌≡◌, ◌↔◌, ℕ, List, [], ◌∷◌, inl, inr, ◌⊎◌, false, Option, Some, None, pos, refl, sym, ap, subst, ◌∙◌}
use Rattle.std.specs.Prelude.{slice_get}
use Rattle.std.specs.List.{All}
use Rattle.std.proofs.lemmas.List.Elements.{All-head, All-tail}
use Rattle.hp_math.specs.Rational.{ℚ, whole, ◌+ℚ◌, ◌*ℚ◌, ◌-ℚ◌, ◌≤ℚ◌}
use Rattle.hp_math.proofs.Laws.{whole-inj}
use Rattle.hp_tree.specs.declared.problem.Sort.{Sort}
use Rattle.hp_tree.specs.declared.problem.Sort.TheVariants.{Num, Ptr}
use Rattle.hp_lit.specs.declared.literal.Name.{Name}
use Rattle.hp_lit.specs.declared.literal.Part.{Part}
use Rattle.hp_lit.specs.declared.literal.Lit.{Lit}
use Rattle.hp_lit.specs.declared.literal.Lit.TheVariants as lit
use Rattle.hp_lit.specs.Truth.{Values, name_value, optional_value, parts_value, Compares, IsTrueAt, LineIsTrue}
use Rattle.hp_lit.specs.Sorts.{HaveSorts}
use Rattle.hp_lit.specs.Fit.{IsFit, IsIdxSide, IsSide}
use Rattle.hp_rank.specs.Ranks.{pointer, rank, ranked}
use Rattle.hp_rank.specs.Laws.{IsRanked, RanksKeepTruth}
use Rattle.hp_rank.proofs.Pointers.{are_ranks, has_rank, is_pointer, null_pointer, null_ranked, of_sort_ptr, other_name}

both : (P : ℚ → ℚ → Type 0) (a b c d : ℚ) → a ≡ b → c ≡ d → P a c → P b d
both P a b c d e g h = subst (λ x. P x d) e (subst (P a) g h)

module _ (first : ℕ) (sorts : List Sort) (v : Values) where
  abbrev new : Values
  new = ranked first sorts v

  -- ---- numbers
  idx_side : (o : Option Name) → IsIdxSide sorts o → optional_value new o ≡ optional_value v o
  idx_side None h = refl
  idx_side (Some name) h = other_name (rank first sorts v) sorts v name.0 (λ e. cc)

  parts : (ps : List Part) → All (λ p. slice_get sorts p.name.0 ≡ Some Num) ps → parts_value new ps ≡ parts_value v ps
  parts [] h = refl
  parts (p ∷ ps) h =
      let P = λ (q : Part). slice_get sorts q.name.0 ≡ Some Num in
      let is = All-head P p ps h in
      let e = other_name (rank first sorts v) sorts v p.name.0 (λ g. cc) in
      (λ i. whole p.coef *ℚ e i +ℚ parts ps (All-tail P p ps h) i)

  -- ---- pointers
  -- a side of a pointer literal: its value is a pointer that is ranked, and its new value that pointer's rank
  record IsPtrSide (o : Option Name) : Type 0 where
    is : optional_value v o ≡ whole (pos (pointer (optional_value v o)))
    listed : IsRanked first sorts v (pointer (optional_value v o))
    value : optional_value new o ≡ whole (pos (rank first sorts v (pointer (optional_value v o))))

  ptr_side : HaveSorts sorts v → (o : Option Name) → IsSide Ptr sorts o → IsPtrSide o
  ptr_side have None h = record {
    is = is_pointer (whole (pos 0)) (of_sort_ptr 0);
    listed = subst (IsRanked first sorts v) (sym null_pointer) (null_ranked first sorts v);
    value = ap (λ k. whole (pos k)) (sym (ap (rank first sorts v) null_pointer ∙ (are_ranks first sorts v).null));
  }
  ptr_side have (Some name) h = let r = has_rank first sorts v name.0 h in record { is = is_pointer (name_value v name.0) (have name.0 Ptr h); listed = r.listed; value = r.value }

  same_pointers : (a b : Option Name) → IsPtrSide a → IsPtrSide b → optional_value new a ≡ optional_value new b ↔ optional_value v a ≡ optional_value v b
  same_pointers a b s t =
      let p = pointer (optional_value v a) in
      let q = pointer (optional_value v b) in
      let f = rank first sorts v in (
        λ e. (let ranks : pos (f p) ≡ pos (f q) = whole-inj (pos (f p)) (pos (f q)) (sym s.value ∙ e ∙ t.value) in
            let one : p ≡ q = (are_ranks first sorts v).distinct p q s.listed t.listed (cc) in
            s.is ∙ ap (λ k. whole (pos k)) one ∙ sym t.is),
        λ e. s.value ∙ ap (λ x. whole (pos (f (pointer x)))) e ∙ sym t.value,
      )

  -- ---- literals and lines
  pub literal_kept : HaveSorts sorts v → (l : Lit) → IsFit sorts l → IsTrueAt new l ↔ IsTrueAt v l
  literal_kept have (lit.Num l) fit =
      let e = parts l.parts fit.names in
      let P = λ (x : ℚ). Compares l.rel x (whole l.bound) in
      (λ h. subst P e h, λ h. subst P (sym e) h)
  literal_kept have (lit.Idx row) fit =
      let e = idx_side row.left fit.left in
      let g = idx_side row.right fit.right in
      let P = λ (x y : ℚ). ((row.exact ≡ false) × ((x -ℚ y) ≤ℚ whole row.bound)) ⊎ ((x -ℚ y) ≡ whole row.bound) in
      (λ h. both P _ _ _ _ e g h, λ h. both P _ _ _ _ (sym e) (sym g) h)
  literal_kept have (lit.Ptr l) fit =
      let e = same_pointers l.left l.right (ptr_side have l.left fit.left) (ptr_side have l.right fit.right) in
      (λ h. (λ same. e.0 (h.0 same), λ is. h.1 (e.1 is)), λ h. (λ same. e.1 (h.0 same), λ is. h.1 (e.0 is)))

  pub line_kept : HaveSorts sorts v → (ls : List Lit) → All (IsFit sorts) ls → LineIsTrue new ls ↔ LineIsTrue v ls
  line_kept have [] fit = (λ h. h, λ h. h)
  line_kept have (l ∷ ls) fit =
      let one = literal_kept have l (All-head (IsFit sorts) l ls fit) in
      let more = line_kept have ls (All-tail (IsFit sorts) l ls fit) in
      (λ h. elim h [ inl t ↦ inl (one.0 t) | inr t ↦ inr (more.0 t) ], λ h. elim h [ inl t ↦ inl (one.1 t) | inr t ↦ inr (more.1 t) ])

pub ranks_keep_truth : RanksKeepTruth
ranks_keep_truth = record { literal = literal_kept; line = line_kept }
