-- No values make all literals of a cycle true that adds to less than 0.
use Rattle.std.proofs.Common.{◌≡◌, suc, ◌⊎◌, inl, inr, ℤ, pos, neg_ℤ, ◌+ℤ◌, ◌*ℤ◌, ◌<ℤ◌, sym, ap, subst, arith, List, [], ◌∷◌, Bool, true, false, Option}
use Rattle.std.proofs.lemmas.Int.{ints}
use Rattle.std.specs.List.{All}
use Rattle.hp_math.specs.Rational.{ℚ, whole, ◌-ℚ◌, ◌≤ℚ◌}
use Rattle.hp_math.proofs.Whole.{+ℤ-*ℤ}
use Rattle.hp_math.proofs.Rational.{ratio-≤_out}
use Rattle.hp_math.proofs.Field.{by_common2, by_common3, at_one, fractions, whole_at, +ℚ-neg_ℚ, ≤ℚ_refl}
use Rattle.hp_lit.specs.declared.literal.Name.{Name}
use Rattle.hp_lit.specs.declared.literal.IdxLit.{IdxLit}
use Rattle.hp_lit.specs.declared.literal.Lit.{Lit}
use Rattle.hp_lit.specs.declared.literal.Lit.TheVariants.{Idx as IdxLiteral}
use Rattle.hp_lit.specs.declared.proof.Step.{Step}
use Rattle.hp_lit.specs.Truth.{Values, IsTrueAt, IdxIsTrue, optional_value}
use Rattle.hp_lit.specs.Cycle.{turned, AreRowsOf, Leads, bound_sum, NoIdxLeaf}
use Rattle.hp_lit.proofs.Paths.{lit_true}

-- ---- differences
telescope : (m n : ℤ) (x y z : ℚ) → (x -ℚ y) ≤ℚ whole m → (y -ℚ z) ≤ℚ whole n → (x -ℚ z) ≤ℚ whole (m +ℤ n)
telescope m n = by_common3 (λ x y z. (x -ℚ y) ≤ℚ whole m → (y -ℚ z) ≤ℚ whole n → (x -ℚ z) ≤ℚ whole (m +ℤ n)) (λ k a b c g h.
    let g2 = simp (whole_at m k, at_one) at g in
    let h2 = simp (whole_at n k, at_one) at h in
    simp (whole_at (m +ℤ n) k, at_one) (omega (arith, fractions, +ℤ-*ℤ m n (pos (suc k)))))

reversed : (m : ℤ) (x y : ℚ) → x -ℚ y ≡ whole m → (y -ℚ x) ≤ℚ whole (neg_ℤ m)
reversed m = by_common2 (λ x y. x -ℚ y ≡ whole m → (y -ℚ x) ≤ℚ whole (neg_ℤ m)) (λ k a b g.
    let g2 = simp (whole_at m k, at_one) at g in
    let z : neg_ℤ m +ℤ m ≡ pos 0 = omega (arith, ints) in
    simp (whole_at (neg_ℤ m) k, at_one) (omega (arith, fractions, +ℤ-*ℤ (neg_ℤ m) m (pos (suc k)), ap (λ x. x *ℤ pos (suc k)) z)))

not_below : (s : ℤ) → whole (pos 0) ≤ℚ whole s → s <ℤ pos 0 → ⊥
unfolding whole
not_below s h b = let k = ratio-≤_out (pos 0) s 1 (omega arith) h in omega (arith, ints)

abbrev RowIsTrue : Values → IdxLit → Type 0
RowIsTrue v r = (optional_value v r.left -ℚ optional_value v r.right) ≤ℚ whole r.bound

row_true : (v : Values) (l : IdxLit) (forward : Bool) → (forward ≡ true) ⊎ (l.exact ≡ true) → IdxIsTrue v l → RowIsTrue v (turned l forward)
row_true v l true may (inl h) = h.1
row_true v l true may (inr e) = subst (λ d. d ≤ℚ whole l.bound) (sym e) (≤ℚ_refl (whole l.bound))
row_true v l false (inl t) h = cc
row_true v l false (inr t) (inl h) = let n = h.0 in cc
row_true v l false (inr t) (inr e) = reversed l.bound (optional_value v l.left) (optional_value v l.right) e

AllTrue : Values → List IdxLit → Type 0
AllTrue v [] = Unit {0}
AllTrue v (r ∷ rs) = RowIsTrue v r × AllTrue v rs

all_true : (v : Values) (path : List Lit) (ss : List Step) (rs : List IdxLit) → All (IsTrueAt v) path → AreRowsOf path ss rs → AllTrue v rs
unfolding AllTrue
all_true v path [] [] all h = tt
all_true v path [] (r ∷ rs) all h = absurd h
all_true v path (s ∷ ss) [] all h = absurd h
all_true v path (s ∷ ss) (r ∷ rs) all h =
    let one = row_true v h.0.lit s.forward h.0.may (lit_true v path s.lit (IdxLiteral h.0.lit) h.0.at all) in
    (subst (RowIsTrue v) (sym h.0.same) one, all_true v path ss rs all h.1)

leads_to : (v : Values) (a b : Option Name) (rs : List IdxLit) → AllTrue v rs → Leads a rs b → (optional_value v a -ℚ optional_value v b) ≤ℚ whole (bound_sum rs)
unfolding AllTrue
leads_to v a b [] all e = subst (λ c. (optional_value v a -ℚ optional_value v c) ≤ℚ whole (pos 0)) e (subst (λ d. d ≤ℚ whole (pos 0)) (sym (+ℚ-neg_ℚ (optional_value v a))) (≤ℚ_refl (whole (pos 0))))
leads_to v a b (r ∷ rs) all h =
    let x = telescope r.bound (bound_sum rs) (optional_value v r.left) (optional_value v r.right) (optional_value v b) all.0 (leads_to v r.right b rs all.1 h.1) in
    subst (λ c. (optional_value v c -ℚ optional_value v b) ≤ℚ whole (r.bound +ℤ bound_sum rs)) (sym h.0) x

pub no_idx_leaf : NoIdxLeaf
no_idx_leaf path steps h v all =
    let a = optional_value v h.start in
    let x = leads_to v h.start h.start h.rows (all_true v path steps h.rows all h.are_rows) h.cycle in
    not_below (bound_sum h.rows) (subst (λ d. d ≤ℚ whole (bound_sum h.rows)) (+ℚ-neg_ℚ a) x) h.below
