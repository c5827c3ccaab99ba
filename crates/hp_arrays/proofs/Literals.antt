-- Literals that bound variables stay true where each variable goes to the nearest index.
use Rattle.std.proofs.Common.{◌≡◌, ◌⊎◌, inl, inr, ℕ, pos, neg_ℤ, List, [], ◌∷◌, Bool, true, false, cond, Option, Some, None, sym, ap, subst, ◌∙◌}
use Rattle.std.specs.List.{All, Contains, flat_map, list_all}
use Rattle.std.proofs.lemmas.Bool.{and_parts}
use Rattle.std.proofs.lemmas.Bool.Decides.{Decides-int_eq}
use Rattle.std.proofs.lemmas.List.Elements.{All-head, All-tail, Contains-append_left, Contains-append_right}
use Rattle.hp_math.specs.Rational.{ℚ, whole, ◌-ℚ◌, ◌≤ℚ◌, is_whole}
use Rattle.hp_terms.proofs.Whole.{whole-whole}
use Rattle.hp_tree.specs.declared.problem.Sort.{Sort}
use Rattle.hp_tree.specs.declared.problem.Sort.TheVariants as sort
use Rattle.hp_lit.specs.declared.literal.Name.{Name}
use Rattle.hp_lit.specs.declared.literal.IdxLit.{IdxLit}
use Rattle.hp_lit.specs.declared.literal.Lit.{Lit}
use Rattle.hp_lit.specs.declared.literal.Lit.TheVariants as lit
use Rattle.hp_lit.specs.declared.line.Arg.{Arg}
use Rattle.hp_lit.specs.declared.line.Arg.TheVariants.{Index}
use Rattle.hp_lit.specs.Fit.{IsFit, IsIdxSide}
use Rattle.hp_lit.specs.Sorts.{HaveSorts}
use Rattle.hp_lit.specs.Truth.{IdxIsTrue, LineIsTrue, Values, optional_value}
use Rattle.hp_local.specs.Nearest.{nearest}
use Rattle.hp_local.proofs.Lists.{contains_first}
use Rattle.hp_base.specs.Values.{arg_value}
use Rattle.hp_index_set.specs.IndexSet.{bounds_between, is_variable, literal_bounds}
use Rattle.hp_index_set.specs.Rules.{is_bounded, is_bounded_literal}
use Rattle.hp_arrays.proofs.Near.{both_at_most, both_same, left_at_most, left_same, right_at_most, right_same}

-- ---- one literal
-- what an inexact or exact bound says of two sides
abbrev Says : IdxLit → ℚ → ℚ → Type 0
Says l x y = ((l.exact ≡ false) × ((x -ℚ y) ≤ℚ whole l.bound)) ⊎ (x -ℚ y ≡ whole l.bound)

abbrev pub goes : List ℚ → Bool → ℚ → ℚ
goes is b x = cond b (nearest is x) x

module _ (is : List ℚ) (v : Values) (l : IdxLit) where
  abbrev x : ℚ
  x = optional_value v l.left

  abbrev y : ℚ
  y = optional_value v l.right

  module _ (left : is_whole x ≡ true) (right : is_whole y ≡ true) where
    sides_kept : (a b : Bool) → is_bounded a b l ≡ true → ((z : Arg) → Contains (bounds_between a b l) z → Contains is (arg_value v z)) → Says l x y → Says l (goes is a x) (goes is b y)
    sides_kept true true bounded among (inl h) =
        let zero : l.bound ≡ pos 0 = (Decides-int_eq l.bound (pos 0)).0 bounded in
        inl (h.0, subst (λ k. (nearest is x -ℚ nearest is y) ≤ℚ whole k) (sym zero) (both_at_most is x y (subst (λ k. (x -ℚ y) ≤ℚ whole k) zero h.1)))
    sides_kept true true bounded among (inr h) =
        let zero : l.bound ≡ pos 0 = (Decides-int_eq l.bound (pos 0)).0 bounded in
        inr (both_same is x y (h ∙ ap whole zero) ∙ ap whole (sym zero))
    sides_kept true false bounded among (inl h) = inl (h.0, left_at_most is x y l.bound left right (among (Index l.right l.bound) (contains_first (Index l.right l.bound) [])) h.1)
    sides_kept true false bounded among (inr h) = inr (left_same is x y l.bound (among (Index l.right l.bound) (contains_first (Index l.right l.bound) [])) h)
    sides_kept false true bounded among (inl h) =
        inl (h.0, right_at_most is x y l.bound left right (among (Index l.left (neg_ℤ l.bound)) (contains_first (Index l.left (neg_ℤ l.bound)) [])) h.1)
    sides_kept false true bounded among (inr h) = inr (right_same is x y l.bound (among (Index l.left (neg_ℤ l.bound)) (contains_first (Index l.left (neg_ℤ l.bound)) [])) h)
    sides_kept false false bounded among h = absurd (cc)

-- ---- lines
pub side_whole : (sorts : List Sort) (v : Values) (o : Option Name) → HaveSorts sorts v → IsIdxSide sorts o → is_whole (optional_value v o) ≡ true
side_whole sorts v None have e = whole-whole (pos 0)
side_whole sorts v (Some name) have e = have name.0 sort.Idx e

module _ (is : List ℚ) (count : ℕ) (sorts : List Sort) (v w : Values) (have : HaveSorts sorts v)
    (near : (o : Option Name) → IsIdxSide sorts o → optional_value w o ≡ goes is (is_variable count o) (optional_value v o)) where
  literal_kept : (l : IdxLit) → IsFit sorts (lit.Idx l) → is_bounded_literal count (lit.Idx l) ≡ true → ((z : Arg) → Contains (literal_bounds count (lit.Idx l)) z → Contains is (arg_value v z))
      → IdxIsTrue v l → IdxIsTrue w l
  literal_kept l fit bounded among h =
      let kept = sides_kept is v l (side_whole sorts v l.left have fit.left) (side_whole sorts v l.right have fit.right) (is_variable count l.left) (is_variable count l.right) bounded among h in
      subst (λ p. Says l p (optional_value w l.right)) (sym (near l.left fit.left))
      (subst (λ q. Says l (goes is (is_variable count l.left) (optional_value v l.left)) q) (sym (near l.right fit.right)) kept)

  pub line_kept : (ls : List Lit) → All (IsFit sorts) ls → list_all (is_bounded_literal count) ls ≡ true → ((z : Arg) → Contains (flat_map (literal_bounds count) ls) z → Contains is (arg_value v z))
      → LineIsTrue v ls → LineIsTrue w ls
  line_kept [] fit bounded among h = h
  line_kept (lit.Num l ∷ ls) fit bounded among h = absurd (cc)
  line_kept (lit.Ptr l ∷ ls) fit bounded among h = absurd (cc)
  line_kept (lit.Idx l ∷ ls) fit bounded among (inl h) =
      let parts = and_parts (is_bounded_literal count (lit.Idx l)) (list_all (is_bounded_literal count) ls) bounded in
      inl (literal_kept l (All-head (IsFit sorts) (lit.Idx l) ls fit) parts.0
      (λ z m. among z (Contains-append_left (literal_bounds count (lit.Idx l)) (flat_map (literal_bounds count) ls) z m)) h)
  line_kept (lit.Idx l ∷ ls) fit bounded among (inr h) =
      let parts = and_parts (is_bounded_literal count (lit.Idx l)) (list_all (is_bounded_literal count) ls) bounded in
      inr (line_kept ls (All-tail (IsFit sorts) (lit.Idx l) ls fit) parts.1
      (λ z m. among z (Contains-append_right (literal_bounds count (lit.Idx l)) (flat_map (literal_bounds count) ls) z m)) h)
