-- The map to the nearest of a list of numbers keeps the order, each of the numbers, and the guards over indexes.
use Rattle.std.proofs.Common.{◌≡◌, ◌⊎◌, inl, inr, List, [], ◌∷◌, map, IsTrue, refl, ap, ◌∙◌, sym, subst, arith, pos, ℤ, ◌+ℤ◌, neg_ℤ}
use Rattle.std.specs.List.{All, Contains}
use Rattle.std.proofs.lemmas.Bool.{eqb-true}
use Rattle.std.proofs.lemmas.Int.{ints}
use Rattle.std.proofs.lemmas.List.Elements.{All-map, All-contains}
use Rattle.hp_math.specs.Rational.{ℚ, ◌≤ℚ◌, ◌<ℚ◌, ◌+ℚ◌, ◌-ℚ◌, whole, ratio, is_whole}
use Rattle.hp_math.proofs.Rational.{ratio-parts, ratio-+, ratio-neg, ratio-≤, ratio-<_out}
use Rattle.hp_math.specs.Steps.{Point, steps}
use Rattle.hp_math.proofs.Field.{≤ℚ_trans, ≤ℚ_antisym, <ℚ_irrefl, by_lt_ℚ, by_common1, fractions, at_one, whole_at, lt_ℚ-true, le_ℚ-true, cases_ℚ}
use Rattle.hp_math.proofs.Laws.{≤ℚ_of_<ℚ, <ℚ-≤ℚ_trans, ≤ℚ-<ℚ_trans}
use Rattle.hp_math.proofs.Steps.{steps_are_monotone}
use Rattle.hp_tree.specs.declared.problem.Cmp.TheVariants.{Le, Lt, Eq, Ne, Ge, Gt}
use Rattle.hp_tree.proofs.Compares.{le_ℚ-from, lt_ℚ-from, eq_ℚ-true, eq_ℚ-from}
use Rattle.hp_local.specs.Ordered.{in_order, AreOrdered, HasAt}
use Rattle.hp_local.specs.Nearest.{itself, nearest, NearestKeepsOrder, NearestKeepsNumbers, StepsAreNearest, GuardsAreKept, OrdersAreKept}
use Rattle.hp_local.proofs.Lists.{contains_first, contains_later, contains_cases, contains_none, contains_map, map_contains}
use Rattle.hp_local.proofs.Ordered.{≤ℚ_of_≡, all_in_order, in_order_ordered, at_least, steps_at, steps_have_points, steps_among, rising, among_in_order, at_in_order}

abbrev IsItself : Point → Type 0
IsItself p = p.at ≡ p.value

all_itself : (is : List ℚ) → All IsItself (map itself is)
all_itself is = All-map IsItself itself is (λ k d l. refl)

pub nearest_keeps_order : NearestKeepsOrder
nearest_keeps_order is x y h =
    let ps = in_order (map itself is) in
    let all = all_in_order IsItself (map itself is) (all_itself is) in
    steps_are_monotone ps
    (rising ps (in_order_ordered (map itself is)) (λ p q m n l.
    ≤ℚ_of_<ℚ _ _ (subst (λ z. z <ℚ q.value) (All-contains IsItself ps p all m) (subst (λ z. p.at <ℚ z) (All-contains IsItself ps q all n) l))))
    x y h

pub nearest_keeps_numbers : NearestKeepsNumbers
nearest_keeps_numbers is x m =
    let ps = map itself is in
    steps_have_points ps (λ p q a b e. sym (All-contains IsItself ps p (all_itself is) a) ∙ e ∙ All-contains IsItself ps q (all_itself is) b) (itself x) (contains_map itself is x m)

-- ---- the nearest point of a list
record Near (ps : List Point) (x : ℚ) (q : Point) : Type 0 where
  there : Contains ps q
  low : (z : Point) → Contains ps z → z.at ≤ℚ x → (q.at ≤ℚ x) × (z.at ≤ℚ q.at)
  high : x <ℚ q.at → (z : Point) → Contains ps z → q.at ≤ℚ z.at

near : (p : Point) (ps : List Point) → AreOrdered (p ∷ ps) → (x : ℚ) → (q : Point) × Near (p ∷ ps) x q × (steps (p ∷ ps) x ≡ q.value)
near p [] o x = (
  p,
  record {
    there = contains_first p [];
    low = λ z m h. (let l = at_least p [] o z m in (≤ℚ_trans _ _ _ l h, only z (contains_cases p [] z m)));
    high = λ h z m. at_least p [] o z m;
  },
  refl,
)
  where
    only : (z : Point) → (p ≡ z) ⊎ Contains [] z → z.at ≤ℚ p.at
    only z (inl e) = ≤ℚ_of_≡ _ _ (sym (ap (λ q. q.at) e))
    only z (inr m) = absurd (contains_none z m)
near p (r ∷ ps) o x = go (near r ps o.1 x)
  where
    first : x <ℚ r.at → (z : Point) → (p ≡ z) ⊎ Contains (r ∷ ps) z → z.at ≤ℚ x → (p.at ≤ℚ x) × (z.at ≤ℚ p.at)
    first l z (inl e) h = (subst (λ q. q.at ≤ℚ x) (sym e) h, ≤ℚ_of_≡ _ _ (sym (ap (λ q. q.at) e)))
    first l z (inr m) h = absurd (<ℚ_irrefl x r.at l (≤ℚ_trans _ _ _ (at_least r ps o.1 z m) h))

    later : r.at ≤ℚ x → (q : Point) → Near (r ∷ ps) x q → (z : Point) → (p ≡ z) ⊎ Contains (r ∷ ps) z → z.at ≤ℚ x → (q.at ≤ℚ x) × (z.at ≤ℚ q.at)
    later l q n z (inl e) h =
        (let k = n.low r (contains_first r ps) l in (k.0, ≤ℚ_trans _ _ _ (subst (λ y. y.at ≤ℚ r.at) e (at_least p (r ∷ ps) o r (contains_later p (r ∷ ps) r (contains_first r ps)))) k.1))
    later l q n z (inr m) h = n.low z m h

    go : (q : Point) × Near (r ∷ ps) x q × (steps (r ∷ ps) x ≡ q.value) → (q : Point) × Near (p ∷ r ∷ ps) x q × (steps (p ∷ r ∷ ps) x ≡ q.value)
    go t =
        by_lt_ℚ x r.at
        (λ e l. (p, record { there = contains_first p (r ∷ ps); low = λ z m. first l z (contains_cases p (r ∷ ps) z m); high = λ h z m. at_least p (r ∷ ps) o z m }, rw e refl))
        (λ e l. (
          t.0,
          record {
            there = contains_later p (r ∷ ps) t.0 t.1.there;
            low = λ z m. later l t.0 t.1 z (contains_cases p (r ∷ ps) z m);
            high = λ h z m. absurd (<ℚ_irrefl x t.0.at h (t.1.low r (contains_first r ps) l).0);
          },
          rw e t.2,
        ))

-- two lists of the same arguments have the same nearest argument
one_near : (ps qs : List Point) (x : ℚ) (p q : Point) → Near ps x p → Near qs x q → HasAt qs p.at → HasAt ps q.at → p.at ≡ q.at
one_near ps qs x p q m n a b =
    elim (cases_ℚ p.at x) [
      | inl l ↦ (
          let k = n.low a.0 a.1 (subst (λ z. z ≤ℚ x) (sym a.2) l) in
          let j = m.low b.0 b.1 (subst (λ z. z ≤ℚ x) (sym b.2) k.0) in
          ≤ℚ_antisym _ _ (subst (λ z. z ≤ℚ q.at) a.2 k.1) (subst (λ z. z ≤ℚ p.at) b.2 j.1))
      | inr l ↦ elim (cases_ℚ q.at x) [
        | inl k ↦ absurd (<ℚ_irrefl x p.at l (m.low b.0 b.1 (subst (λ z. z ≤ℚ x) (sym b.2) k)).0)
        | inr k ↦ ≤ℚ_antisym _ _ (subst (λ z. p.at ≤ℚ z) b.2 (m.high l b.0 b.1)) (subst (λ z. q.at ≤ℚ z) a.2 (n.high k a.0 a.1))
      ]
    ]

nearest_same : (ps qs : List Point) → AreOrdered ps → AreOrdered qs → All IsItself qs → ((p : Point) → Contains ps p → HasAt qs p.at) → ((q : Point) → Contains qs q → HasAt ps q.at)
    → (x : ℚ) → steps ps x ≡ steps ps (steps qs x)
nearest_same [] qs o r i f g x = refl
nearest_same (p ∷ ps) [] o r i f g x = (let h = f p (contains_first p ps) in absurd (contains_none h.0 h.1))
nearest_same (p ∷ ps) (q ∷ qs) o r i f g x =
    let a = near p ps o x in
    let b = near q qs r x in
    let e : a.0.at ≡ b.0.at = one_near (p ∷ ps) (q ∷ qs) x a.0 b.0 a.1 b.1 (f a.0 a.1.there) (g b.0 b.1.there) in
    let y : steps (q ∷ qs) x ≡ a.0.at = b.2 ∙ sym (All-contains IsItself (q ∷ qs) b.0 i b.1.there) ∙ sym e in
    a.2 ∙ sym (steps_at (p ∷ ps) o a.0 a.1.there) ∙ ap (λ z. steps (p ∷ ps) z) (sym y)

among_at : (is : List ℚ) (q : Point) → Contains (map itself is) q → Contains is q.at
among_at is q m = let h = map_contains itself is q m in subst (Contains is) (ap (λ z. z.at) h.2) h.1

pub steps_are_nearest : StepsAreNearest
steps_are_nearest is ps f g x =
    nearest_same (in_order ps) (in_order (map itself is)) (in_order_ordered ps) (in_order_ordered (map itself is)) (all_in_order IsItself (map itself is) (all_itself is))
    (λ p m. at_in_order (map itself is) (itself p.at) (contains_map itself is p.at (g p (among_in_order ps p m))))
    (λ q m. (let h = f q.at (among_at is q (among_in_order (map itself is) q m)) in let k = at_in_order ps h.0 h.1 in (k.0, k.1, k.2 ∙ h.2)))
    x

-- ---- guards
whole_form : (x : ℚ) → IsTrue (is_whole x) → x ≡ whole x.num
unfolding whole
whole_form x h = sym (ratio-parts x) ∙ ap (λ d. ratio x.num d) (eqb-true x.den 1 h)

whole_minus : (b : ℤ) → whole b -ℚ whole (pos 1) ≡ whole (b +ℤ neg_ℤ (pos 1))
unfolding whole
whole_minus b = ap (λ z. ratio b 1 +ℚ z) (ratio-neg (pos 1) 1 (omega arith)) ∙ ratio-+ b (neg_ℤ (pos 1)) 1 (omega arith)

whole_plus : (b : ℤ) → whole b +ℚ whole (pos 1) ≡ whole (b +ℤ pos 1)
unfolding whole
whole_plus b = ratio-+ b (pos 1) 1 (omega arith)

whole_below : (a b : ℤ) → whole a <ℚ whole b → (whole a ≤ℚ whole (b +ℤ neg_ℤ (pos 1))) × (whole (a +ℤ pos 1) ≤ℚ whole b)
unfolding whole
whole_below a b h =
    let k = ratio-<_out a b 1 (omega arith) h in
    (ratio-≤ a (b +ℤ neg_ℤ (pos 1)) 1 (omega arith) (omega (arith, ints)), ratio-≤ (a +ℤ pos 1) b 1 (omega arith) (omega (arith, ints)))

-- below a whole number is at or below the one before it
before : (x c : ℚ) → IsTrue (is_whole x) → IsTrue (is_whole c) → x <ℚ c → (x ≤ℚ c -ℚ whole (pos 1)) × (x +ℚ whole (pos 1) ≤ℚ c)
before x c p q h =
    let a = whole_form x p in
    let b = whole_form c q in
    let k = whole_below x.num c.num (subst (λ z. z <ℚ whole c.num) a (subst (λ z. x <ℚ z) b h)) in (
      subst (λ z. z ≤ℚ c -ℚ whole (pos 1)) (sym a) (subst (λ z. whole x.num ≤ℚ z -ℚ whole (pos 1)) (sym b) (subst (λ z. whole x.num ≤ℚ z) (sym (whole_minus c.num)) k.0)),
      subst (λ z. x +ℚ whole (pos 1) ≤ℚ z) (sym b) (subst (λ z. z +ℚ whole (pos 1) ≤ℚ whole c.num) (sym a) (subst (λ z. z ≤ℚ whole c.num) (sym (whole_plus x.num)) k.1)),
    )

step_below : (c : ℚ) → (c -ℚ whole (pos 1) <ℚ c) × (c <ℚ c +ℚ whole (pos 1))
step_below = by_common1 (λ c. (c -ℚ whole (pos 1) <ℚ c) × (c <ℚ c +ℚ whole (pos 1))) (λ k a. rw (whole_at (pos 1) k) (simp at_one (omega (arith, fractions))))

below_number : (is : List ℚ) (x c : ℚ) → Contains is c → x ≤ℚ c → nearest is x ≤ℚ c
below_number is x c m h = subst (λ z. nearest is x ≤ℚ z) (nearest_keeps_numbers is c m) (nearest_keeps_order is x c h)

above_number : (is : List ℚ) (x c : ℚ) → Contains is c → c ≤ℚ x → c ≤ℚ nearest is x
above_number is x c m h = subst (λ z. z ≤ℚ nearest is x) (nearest_keeps_numbers is c m) (nearest_keeps_order is c x h)

pub guards_are_kept : GuardsAreKept
guards_are_kept is Le x c a p q m h = le_ℚ-from _ _ (below_number is x c m (le_ℚ-true x c h))
guards_are_kept is Ge x c a p q m h = le_ℚ-from _ _ (above_number is x c m (le_ℚ-true c x h))
guards_are_kept is Eq x c a p q m h = eq_ℚ-from (nearest is x) c (ap (nearest is) (eq_ℚ-true x c h) ∙ nearest_keeps_numbers is c m)
guards_are_kept is Lt x c a p q m h =
    lt_ℚ-from _ _ (≤ℚ-<ℚ_trans _ _ _ (below_number is x (c -ℚ whole (pos 1)) m (before x c p q (lt_ℚ-true x c h)).0) (step_below c).0)
guards_are_kept is Gt x c a p q m h =
    lt_ℚ-from _ _ (<ℚ-≤ℚ_trans _ _ _ (step_below c).1 (above_number is x (c +ℚ whole (pos 1)) m (before c x q p (lt_ℚ-true c x h)).1))
guards_are_kept is Ne x c a p q m h = cc

pub orders_are_kept : OrdersAreKept
orders_are_kept is Le x y a h = le_ℚ-from _ _ (nearest_keeps_order is x y (le_ℚ-true x y h))
orders_are_kept is Ge x y a h = le_ℚ-from _ _ (nearest_keeps_order is y x (le_ℚ-true y x h))
orders_are_kept is Eq x y a h = eq_ℚ-from (nearest is x) (nearest is y) (ap (nearest is) (eq_ℚ-true x y h))
orders_are_kept is Ne x y a h = cc
orders_are_kept is Lt x y a h = cc
orders_are_kept is Gt x y a h = cc

-- the nearest number is one of the numbers
pub nearest_among : (i : ℚ) (is : List ℚ) (x : ℚ) → Contains (i ∷ is) (nearest (i ∷ is) x)
nearest_among i is x = go (in_order (map itself (i ∷ is))) refl
  where
    go : (ps : List Point) → in_order (map itself (i ∷ is)) ≡ ps → Contains (i ∷ is) (nearest (i ∷ is) x)
    go [] e = (let h = subst (λ ps. HasAt ps i) e (at_in_order (map itself (i ∷ is)) (itself i) (contains_first (itself i) (map itself is))) in absurd (contains_none h.0 h.1))
    go (p ∷ ps) e =
        (let h = steps_among p ps x in
        let m = among_in_order (map itself (i ∷ is)) h.0 (subst (λ z. Contains z h.0) (sym e) h.1) in
        let v = All-contains IsItself (map itself (i ∷ is)) h.0 (all_itself (i ∷ is)) m in
        subst (λ z. Contains (i ∷ is) z) (v ∙ sym h.2 ∙ sym (ap (λ z. steps z x) e)) (among_at (i ∷ is) h.0 m))
