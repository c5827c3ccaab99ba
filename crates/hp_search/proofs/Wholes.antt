-- Whole numbers among the fractions.
use Rattle.std.proofs.Common.{◌≡◌, ℕ, ◌^◌, ℤ, pos, neg_ℤ, ◌+ℤ◌, ◌-ℤ◌, ◌≤ℤ◌, inl, inr, refl, sym, ◌∙◌, ap, subst, arith, true, false, ◌≤◌, length, [], ◌∷◌, zero, suc, Some, to_z, of_z}
use Rattle.std.specs.Int.{w128}
use Rattle.std.specs.Prelude.{slice_get}
use Rattle.std.proofs.lemmas.Option.{get_or_from_slice_get}
use Rattle.hp_diff.specs.Rows.{IsSmallWhole}
use Rattle.hp_search.specs.Lines.{IsSmallIndex, Keeps}
use Rattle.std.proofs.lemmas.Int.{ints}
use Rattle.std.proofs.lemmas.Bool.{eqb-true}
use Rattle.hp_math.specs.Rational.{ℚ, ratio, whole, is_whole, ◌+ℚ◌, ◌-ℚ◌, ◌≤ℚ◌}
use Rattle.hp_math.proofs.Rational.{ratio-parts, ratio-≤, ratio-≤_out, ratio-inj, ratio-+, ratio-neg}
use Rattle.hp_lit.specs.declared.literal.IdxLit.{IdxLit}
use Rattle.hp_lit.specs.Truth.{Values, name_value, optional_value, IdxIsTrue}

pub whole_of : (q : ℚ) → is_whole q ≡ true → q ≡ whole q.num
unfolding whole
whole_of q h = sym (ratio-parts q) ∙ ap (λ d. ratio q.num d) (eqb-true q.den 1 h)

whole_minus : (a b : ℤ) → whole a -ℚ whole b ≡ whole (a -ℤ b)
unfolding whole
whole_minus a b = ap (λ x. ratio a 1 +ℚ x) (ratio-neg b 1 (omega arith)) ∙ ratio-+ a (neg_ℤ b) 1 (omega arith) ∙ ap (λ n. ratio n 1) (omega (arith, ints))

pub whole_le : (a b : ℤ) → a ≤ℤ b → whole a ≤ℚ whole b
unfolding whole
whole_le a b h = ratio-≤ a b 1 (omega arith) h

whole_le_out : (a b : ℤ) → whole a ≤ℚ whole b → a ≤ℤ b
unfolding whole
whole_le_out a b h = ratio-≤_out a b 1 (omega arith) h

whole_same : (a b : ℤ) → whole a ≡ whole b → a ≡ b
unfolding whole
whole_same a b h = ratio-inj a b 1 (omega arith) h

module _ (v : Values) (row : IdxLit) (a b : ℤ) (left : optional_value v row.left ≡ whole a) (right : optional_value v row.right ≡ whole b) where
  difference : optional_value v row.left -ℚ optional_value v row.right ≡ whole (a -ℤ b)
  difference = (λ i. left i -ℚ right i) ∙ whole_minus a b

  pub kept_true : Keeps row a b → IdxIsTrue v row
  kept_true h = (elim row.exact as (λ e. row.exact ≡ e → IdxIsTrue v row) [
    | true ↦ λ t. (let e : (a -ℤ b) ≡ row.bound = omega (arith, ints, h.0, h.1 t) in inr (difference ∙ ap whole e))
    | false ↦ λ t. inl (t, subst (λ d. d ≤ℚ whole row.bound) (sym difference) (whole_le (a -ℤ b) row.bound h.0))
  ]) refl

  pub true_kept : IdxIsTrue v row → Keeps row a b
  true_kept (inl h) = (whole_le_out (a -ℤ b) row.bound (subst (λ d. d ≤ℚ whole row.bound) difference h.1), λ e. (let f = h.0 in cc))
  true_kept (inr h) = let e = whole_same (a -ℤ b) row.bound (sym difference ∙ h) in (omega (arith, ints), λ f. omega (arith, ints))

-- the value of a name
pub index_given : (v : Values) (n : ℕ) (q : ℚ) (r : ℤ) → IsSmallWhole (name_value v n) → slice_get v n ≡ Some q → r ≡ q.num → name_value v n ≡ whole r
index_given v n q r small at e =
    let given : name_value v n ≡ q = get_or_from_slice_get v n q (whole (pos 0)) at in
    let s : IsSmallWhole q = subst IsSmallWhole given small in
    given ∙ whole_of q s.whole ∙ ap whole (sym e)

-- the same of numbers that went to bits and back
pub kept_in : (row : IdxLit) (a b : ℤ) → IsSmallIndex a → IsSmallIndex b → Keeps row a b → Keeps row (to_z w128 (of_z w128 a)) (to_z w128 (of_z w128 b))
kept_in row a b p q h = (omega (arith, ints, h.0), λ e. omega (arith, ints, h.1 e))

pub kept_out : (row : IdxLit) (a b : ℤ) → IsSmallIndex a → IsSmallIndex b → Keeps row (to_z w128 (of_z w128 a)) (to_z w128 (of_z w128 b)) → Keeps row a b
kept_out row a b p q h = (omega (arith, ints, h.0), λ e. omega (arith, ints, h.1 e))

pub index_small : (v : Values) (n : ℕ) (q : ℚ) (r : ℤ) → IsSmallWhole (name_value v n) → slice_get v n ≡ Some q → r ≡ q.num → IsSmallIndex (to_z w128 (of_z w128 r))
index_small v n q r small at e =
    let s : IsSmallWhole q = subst IsSmallWhole (get_or_from_slice_get v n q (whole (pos 0)) at) small in
    bits r (subst (λ x. pos 0 ≤ℤ (x +ℤ pos (10 ^ 37))) (sym e) s.low) (subst (λ x. x ≤ℤ pos (10 ^ 37)) (sym e) s.high)
  where
    bits : (r : ℤ) → pos 0 ≤ℤ (r +ℤ pos (10 ^ 37)) → r ≤ℤ pos (10 ^ 37) → IsSmallIndex (to_z w128 (of_z w128 r))
    bits r low high = record { low = omega (arith, ints); high = omega (arith, ints) }

-- a name past the end
pub missing : (v : Values) (n : ℕ) → length v ≤ n → name_value v n ≡ whole (pos 0)
missing [] n h = refl
missing (x ∷ xs) zero h = absurd (omega arith)
missing (x ∷ xs) (suc n) h = missing xs n (omega arith)
