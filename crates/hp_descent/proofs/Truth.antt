-- Where the rows of literals hold at a point, the literals are true at the coordinates over that of t.
use Rattle.std.proofs.Common.{◌≡◌, ℕ, suc, ◌<◌, inl, inr, ℤ, pos, negsuc, neg_ℤ, ◌+ℤ◌, ◌*ℤ◌, refl, sym, ◌∙◌, ap, subst, arith, List, [], ◌∷◌, ◌++◌, length, get_or, map, nat_eq, cond, ◌-◌, Ok}
use Rattle.std.proofs.lemmas.List.{length-map, get_or-map}
use Rattle.std.proofs.lemmas.Int.{ints}
use Rattle.std.specs.List.{All}
use Rattle.std.proofs.lemmas.List.Elements.{All-cons, All-nil}
use Rattle.std.proofs.lemmas.Bool.{ne_eqb, eq-eqb}
use Rattle.hp_math.specs.Rational.{ℚ, ratio, whole, ◌+ℚ◌, ◌*ℚ◌, neg_ℚ, ◌≤ℚ◌, ◌<ℚ◌}
use Rattle.hp_math.proofs.Whole.{+ℤ-*ℤ}
use Rattle.hp_math.proofs.Field.{by_common1, by_common2, by_common3, at_one, fractions, whole_at, whole_times_at, +ℚ_comm, +ℚ_assoc, +ℚ_zero, *ℚ_comm, *ℚ_assoc, *ℚ-+ℚ, cases_ℚ, *ℚ_mono, ≤ℚ_antisym, ≤ℚ_refl}
use Rattle.hp_math.proofs.Laws.{*ℚ_smono, *ℚ_zero, <ℚ_of_not_≤ℚ}
use Rattle.hp_lit.specs.declared.literal.Rel.{Rel}
use Rattle.hp_lit.specs.declared.literal.Rel.TheVariants.{Le, Lt, Eq}
use Rattle.hp_lit.specs.declared.literal.Part.{Part}
use Rattle.hp_lit.specs.declared.literal.NumLit.{NumLit}
use Rattle.hp_lit.specs.Truth.{Values, name_value, parts_value, Compares, NumIsTrue}
use Rattle.hp_lit.specs.Leaf.{coefficient}
use Rattle.hp_rows.specs.declared.row.Row.{Row}
use Rattle.hp_lit.specs.declared.valuation.NameValue.{NameValue}
use Rattle.hp_rows.specs.Rows.{dot, Holds, HoldsBelow, Among}
use Rattle.hp_rows.specs.Points.{at_point, values_of}
use Rattle.hp_rows.specs.Exact.{AreQuotients}
use Rattle.hp_rows.specs.Answers.{IsPoint}
use Rattle.hp_rows.specs.Rows as rows
use Rattle.hp_lit.specs.Fit.{part_names}
use Rattle.hp_descent.specs.Columns.{mentioned, columns}
use Rattle.hp_descent.specs.LiteralRows.{scale_row, forward_row, backward_row, rows_by, rows_over, rows_of, width_of}
use Rattle.hp_descent.specs.Answers.{IsSolution, IsChainSolution}
use Rattle.hp_descent.proofs.Rising.{Above, Rises, columns_rise, among_names}

zero-times : (x : ℚ) → whole (pos 0) *ℚ x ≡ whole (pos 0)
zero-times x = *ℚ_comm (whole (pos 0)) x ∙ *ℚ_zero x

-- ---- a linear form over the names
abbrev pub form : (ℕ → ℤ) → List ℕ → Values → ℚ
form f [] v = whole (pos 0)
form f (n ∷ ns) v = (whole (f n) *ℚ name_value v n) +ℚ form f ns v

form_none : (ns : List ℕ) (v : Values) → form (λ n. pos 0) ns v ≡ whole (pos 0)
form_none [] v = refl
form_none (n ∷ ns) v = (λ i. zero-times (name_value v n) i +ℚ form_none ns v i) ∙ +ℚ_zero (whole (pos 0))

-- one summand more at a name
summand : (a b : ℤ) (x p q : ℚ) → (whole (a +ℤ b) *ℚ x) +ℚ (p +ℚ q) ≡ ((whole a *ℚ x) +ℚ p) +ℚ ((whole b *ℚ x) +ℚ q)
summand a b = by_common3 (λ x p q. (whole (a +ℤ b) *ℚ x) +ℚ (p +ℚ q) ≡ ((whole a *ℚ x) +ℚ p) +ℚ ((whole b *ℚ x) +ℚ q))
    (λ k x p q. simp at_one (ap (λ z. ratio z (suc k)) (omega (arith, ints, +ℤ-*ℤ a b x))))

form_sum : (f g : ℕ → ℤ) (ns : List ℕ) (v : Values) → form (λ n. f n +ℤ g n) ns v ≡ form f ns v +ℚ form g ns v
form_sum f g [] v = sym (+ℚ_zero (whole (pos 0)))
form_sum f g (n ∷ ns) v =
    ap (λ q. (whole (f n +ℤ g n) *ℚ name_value v n) +ℚ q) (form_sum f g ns v)
    ∙ summand (f n) (g n) (name_value v n) (form f ns v) (form g ns v)

-- the form with one coefficient
abbrev single : ℕ → ℤ → ℕ → ℤ
single m c n = cond (nat_eq m n) c (pos 0)

form_absent : (m : ℕ) (c : ℤ) (ns : List ℕ) (v : Values) → Above m ns → form (single m c) ns v ≡ whole (pos 0)
form_absent m c [] v h = refl
form_absent m c (n ∷ ns) v h =
    (λ i. (ap (λ b. whole (cond b c (pos 0)) *ℚ name_value v n) (ne_eqb m n (λ e. absurd (let l = h.0 in omega arith))) ∙ zero-times (name_value v n)) i +ℚ form_absent m c ns v h.1 i)
    ∙ +ℚ_zero (whole (pos 0))

zero_left : (x : ℚ) → whole (pos 0) +ℚ x ≡ x
zero_left x = +ℚ_comm (whole (pos 0)) x ∙ +ℚ_zero x

above_among : (n m : ℕ) (ns : List ℕ) → Above n ns → Among ns m → n < m
above_among n m [] h a = absurd a
above_among n m (x ∷ xs) h (inl e) = (let l = h.0 in omega arith)
above_among n m (x ∷ xs) h (inr a) = above_among n m xs h.1 a

form_single : (m : ℕ) (c : ℤ) (ns : List ℕ) (v : Values) → Rises ns → Among ns m → form (single m c) ns v ≡ whole c *ℚ name_value v m
form_single m c [] v r a = absurd a
form_single m c (n ∷ ns) v r (inl e) =
    (λ i. (ap (λ b. whole (cond b c (pos 0)) *ℚ name_value v n) (eq-eqb m n (sym e)) ∙ ap (λ x. whole c *ℚ name_value v x) e) i
    +ℚ form_absent m c ns v (subst (λ x. Above x ns) e r.0) i)
    ∙ +ℚ_zero (whole c *ℚ name_value v m)
form_single m c (n ∷ ns) v r (inr a) =
    let l = above_among n m ns r.0 a in
    (λ i. (ap (λ b. whole (cond b c (pos 0)) *ℚ name_value v n) (ne_eqb m n (λ e. absurd (omega arith))) ∙ zero-times (name_value v n)) i +ℚ form_single m c ns v r.1 a i)
    ∙ zero_left (whole c *ℚ name_value v m)

-- the left side of a literal is a form over names that have its own among them
abbrev pub AllAmong : List ℕ → List ℕ → Type 0
AllAmong ns [] = Unit {0}
AllAmong ns (m ∷ ms) = Among ns m × AllAmong ns ms

pub form_parts : (ps : List Part) (ns : List ℕ) (v : Values) → Rises ns → AllAmong ns (part_names ps) → form (λ n. coefficient n ps) ns v ≡ parts_value v ps
form_parts [] ns v r h = form_none ns v
form_parts (p ∷ ps) ns v r h =
    form_sum (single p.name.0 p.coef) (λ n. coefficient n ps) ns v
    ∙ (λ i. form_single p.name.0 p.coef ns v r h.0 i +ℚ form_parts ps ns v r h.1 i)

-- ---- a row's left side at a point is the form times t, and the last product
right_sum : (x y z : ℚ) → (x +ℚ y) *ℚ z ≡ (x *ℚ z) +ℚ (y *ℚ z)
right_sum x y z = *ℚ_comm (x +ℚ y) z ∙ *ℚ-+ℚ z x y ∙ (λ i. *ℚ_comm z x i +ℚ *ℚ_comm z y i)

scaled_sum : (w x o t l : ℚ) → (w *ℚ (x *ℚ t)) +ℚ ((o *ℚ t) +ℚ l) ≡ (((w *ℚ x) +ℚ o) *ℚ t) +ℚ l
scaled_sum w x o t l =
    sym (+ℚ_assoc (w *ℚ (x *ℚ t)) (o *ℚ t) l)
    ∙ (λ i. (sym (*ℚ_assoc w x t) i +ℚ (o *ℚ t)) +ℚ l)
    ∙ (λ i. sym (right_sum (w *ℚ x) o t) i +ℚ l)

pub IsScaled : List ℕ → Values → ℚ → rows.Values → Type 0
IsScaled ns v t p = (k : ℕ) → k < length ns → name_value v (get_or ns k 0) *ℚ t ≡ p k

pub dot_form : (f : ℕ → ℤ) (last : ℤ) (ns : List ℕ) (v : Values) (t : ℚ) (p : rows.Values) → IsScaled ns v t p
    → dot (map f ns ++ last ∷ []) p ≡ (form f ns v *ℚ t) +ℚ (whole last *ℚ p (length ns))
unfolding IsScaled
dot_form f last [] v t p h = +ℚ_zero (whole last *ℚ p 0) ∙ sym (zero_left (whole last *ℚ p 0)) ∙ (λ i. sym (zero-times t) i +ℚ (whole last *ℚ p 0))
dot_form f last (n ∷ ns) v t p h =
    (λ i. (whole (f n) *ℚ sym (h 0 (omega arith)) i) +ℚ dot_form f last ns v t (λ k. p (suc k)) (λ k l. h (suc k) (omega arith)) i)
    ∙ scaled_sum (whole (f n)) (name_value v n) (form f ns v) t (whole last *ℚ p (suc (length ns)))

-- ---- rows that hold
abbrev pub AllHold : List Row → rows.Values → Type 0
AllHold [] p = Unit {0}
AllHold (r ∷ rs) p = Holds r p × AllHold rs p

holds_in : (rs : List Row) (p : rows.Values) → HoldsBelow rs (length rs) p → AllHold rs p
holds_in [] p h = tt
holds_in (r ∷ rs) p h = (h 0 (omega arith), holds_in rs p (λ i l. h (suc i) (omega arith)))

hold_split : (p : rows.Values) (xs ys : List Row) → AllHold (xs ++ ys) p → AllHold xs p × AllHold ys p
hold_split p [] ys h = (tt, h)
hold_split p (x ∷ xs) ys h = let r = hold_split p xs ys h.1 in ((h.0, r.0), r.1)

pub among_split : (ns xs ys : List ℕ) → AllAmong ns (xs ++ ys) → AllAmong ns xs × AllAmong ns ys
among_split ns [] ys h = (tt, h)
among_split ns (x ∷ xs) ys h = let r = among_split ns xs ys h.1 in ((h.0, r.0), r.1)

-- ---- from a row to its literal
dot_scale : (ns : List ℕ) (p : rows.Values) → dot (map (λ (n : ℕ). pos 0) ns ++ negsuc 0 ∷ []) p ≡ whole (negsuc 0) *ℚ p (length ns)
dot_scale [] p = +ℚ_zero (whole (negsuc 0) *ℚ p 0)
dot_scale (n ∷ ns) p = (λ i. zero-times (p 0) i +ℚ dot_scale ns (λ k. p (suc k)) i) ∙ zero_left (whole (negsuc 0) *ℚ p (suc (length ns)))

at_least : (x : ℚ) → (whole (negsuc 0) *ℚ x) ≤ℚ whole (negsuc 0) → whole (pos 1) ≤ℚ x
at_least = by_common1 (λ x. (whole (negsuc 0) *ℚ x) ≤ℚ whole (negsuc 0) → whole (pos 1) ≤ℚ x) (λ k a g.
    let g2 = subst (λ y. y ≤ℚ whole (negsuc 0)) (whole_times_at (negsuc 0) a k) g in
    let g3 = subst (λ y. ratio (negsuc 0 *ℤ a) (suc k) ≤ℚ y) (whole_at (negsuc 0) k) g2 in
    rw (whole_at (pos 1) k) (omega (arith, fractions)))

pub scale_at_least : (ns : List ℕ) (p : rows.Values) → Holds (scale_row ns) p → whole (pos 1) ≤ℚ p (length ns)
scale_at_least ns p h = at_least (p (length ns)) (subst (λ q. q ≤ℚ whole (negsuc 0)) (dot_scale ns p) h.le)

pub positive : (t : ℚ) → whole (pos 1) ≤ℚ t → whole (pos 0) <ℚ t
positive = by_common1 (λ t. whole (pos 1) ≤ℚ t → whole (pos 0) <ℚ t) (λ k a g.
    let g2 = rw (whole_at (pos 1) k) at g in
    rw (whole_at (pos 0) k) (omega (arith, fractions)))

negated_times : (b : ℤ) (t : ℚ) → whole (neg_ℤ b) *ℚ t ≡ neg_ℚ (whole b *ℚ t)
negated_times b = by_common1 (λ t. whole (neg_ℤ b) *ℚ t ≡ neg_ℚ (whole b *ℚ t)) (λ k a. simp at_one (ap (λ z. ratio z (suc k)) (neg-*ℤ b a)))
  where
    neg-*ℤ : (x y : ℤ) → neg_ℤ x *ℤ y ≡ neg_ℤ (x *ℤ y)
    neg-*ℤ x y = let z : neg_ℤ x +ℤ x ≡ pos 0 = omega (arith, ints) in omega (arith, ints, +ℤ-*ℤ (neg_ℤ x) x y, ap (λ n. n *ℤ y) z)

difference_le : (x y : ℚ) → (x +ℚ neg_ℚ y) ≤ℚ whole (pos 0) → x ≤ℚ y
difference_le = by_common2 (λ x y. (x +ℚ neg_ℚ y) ≤ℚ whole (pos 0) → x ≤ℚ y) (λ k a b g. let g2 = simp (whole_at (pos 0) k, at_one) at g in omega (arith, fractions))

difference_lt : (x y : ℚ) → (x +ℚ neg_ℚ y) ≤ℚ whole (negsuc 0) → x <ℚ y
difference_lt = by_common2 (λ x y. (x +ℚ neg_ℚ y) ≤ℚ whole (negsuc 0) → x <ℚ y) (λ k a b g. let g2 = simp (whole_at (negsuc 0) k, at_one) at g in omega (arith, fractions))

difference_ge : (x y : ℚ) → (neg_ℚ x +ℚ y) ≤ℚ whole (pos 0) → y ≤ℚ x
difference_ge = by_common2 (λ x y. (neg_ℚ x +ℚ y) ≤ℚ whole (pos 0) → y ≤ℚ x) (λ k a b g. let g2 = simp (whole_at (pos 0) k, at_one) at g in omega (arith, fractions))

not_both : (x y : ℚ) → x <ℚ y → y ≤ℚ x → ⊥
not_both = by_common2 (λ x y. x <ℚ y → y ≤ℚ x → ⊥) (λ k a b g h. omega (arith, fractions))

-- a factor over 0 falls away on both sides
cancel_le : (x y t : ℚ) → whole (pos 0) <ℚ t → (x *ℚ t) ≤ℚ (y *ℚ t) → x ≤ℚ y
cancel_le x y t p h = elim (cases_ℚ x y) [ inl l ↦ l | inr l ↦ absurd (not_both _ _ (*ℚ_smono y x t l p) h) ]

weak : (x : ℚ) → whole (pos 0) <ℚ x → whole (pos 0) ≤ℚ x
weak = by_common1 (λ x. whole (pos 0) <ℚ x → whole (pos 0) ≤ℚ x) (λ k a g. let g2 = rw (whole_at (pos 0) k) at g in rw (whole_at (pos 0) k) (omega (arith, fractions)))

cancel_lt : (x y t : ℚ) → whole (pos 0) <ℚ t → (x *ℚ t) <ℚ (y *ℚ t) → x <ℚ y
cancel_lt x y t p h = <ℚ_of_not_≤ℚ x y (λ l. not_both _ _ h (*ℚ_mono y x t l (weak t p)))

module _ (l : NumLit) (ns : List ℕ) (v : Values) (t : ℚ) (p : rows.Values) (rise : Rises ns) (in_ns : AllAmong ns (part_names l.parts)) (s : IsScaled ns v t p)
    (at_t : p (length ns) ≡ t) (above : whole (pos 0) <ℚ t) where
  S : ℚ
  S = parts_value v l.parts

  forward : dot (map (λ n. coefficient n l.parts) ns ++ neg_ℤ l.bound ∷ []) p ≡ (S *ℚ t) +ℚ neg_ℚ (whole l.bound *ℚ t)
  unfolding S
  forward =
      dot_form (λ n. coefficient n l.parts) (neg_ℤ l.bound) ns v t p s
      ∙ (λ i. (form_parts l.parts ns v rise in_ns i *ℚ t) +ℚ (ap (λ x. whole (neg_ℤ l.bound) *ℚ x) at_t ∙ negated_times l.bound t) i)

  pub row_le : Holds (forward_row ns l (pos 0)) p → parts_value v l.parts ≤ℚ whole l.bound
  unfolding S
  row_le h = cancel_le S (whole l.bound) t above (difference_le (S *ℚ t) (whole l.bound *ℚ t) (subst (λ q. q ≤ℚ whole (pos 0)) forward h.le))

  pub row_lt : Holds (forward_row ns l (negsuc 0)) p → parts_value v l.parts <ℚ whole l.bound
  unfolding S
  row_lt h = cancel_lt S (whole l.bound) t above (difference_lt (S *ℚ t) (whole l.bound *ℚ t) (subst (λ q. q ≤ℚ whole (negsuc 0)) forward h.le))

  form_negated : (ns : List ℕ) → form (λ n. neg_ℤ (coefficient n l.parts)) ns v ≡ neg_ℚ (form (λ n. coefficient n l.parts) ns v)
  form_negated [] = by_common1 (λ x. x ≡ whole (pos 0) → x ≡ neg_ℚ x) (λ k a e. let e2 = rw (whole_at (pos 0) k) at e in simp at_one (omega (arith, fractions))) (whole (pos 0)) refl
  form_negated (n ∷ ns) =
      (λ i. negated_times (coefficient n l.parts) (name_value v n) i +ℚ form_negated ns i)
      ∙ both_negated (whole (coefficient n l.parts) *ℚ name_value v n) (form (λ n. coefficient n l.parts) ns v)
    where
      both_negated : (x y : ℚ) → neg_ℚ x +ℚ neg_ℚ y ≡ neg_ℚ (x +ℚ y)
      both_negated = by_common2 (λ x y. neg_ℚ x +ℚ neg_ℚ y ≡ neg_ℚ (x +ℚ y)) (λ k a b. simp at_one (omega (arith, fractions)))

  negated_product : (x y : ℚ) → neg_ℚ x *ℚ y ≡ neg_ℚ (x *ℚ y)
  negated_product x y = no_rest (neg_ℚ x *ℚ y) (x *ℚ y) (sym (right_sum (neg_ℚ x) x y) ∙ ap (λ z. z *ℚ y) (nothing x) ∙ zero-times y)
    where
      nothing : (x : ℚ) → neg_ℚ x +ℚ x ≡ whole (pos 0)
      nothing = by_common1 (λ x. neg_ℚ x +ℚ x ≡ whole (pos 0)) (λ k a. simp (whole_at (pos 0) k, at_one) (omega (arith, fractions)))

      no_rest : (a b : ℚ) → a +ℚ b ≡ whole (pos 0) → a ≡ neg_ℚ b
      no_rest = by_common2 (λ a b. a +ℚ b ≡ whole (pos 0) → a ≡ neg_ℚ b) (λ k a b g. let g2 = simp (whole_at (pos 0) k, at_one) at g in simp at_one (omega (arith, fractions)))

  backward : dot (map (λ n. neg_ℤ (coefficient n l.parts)) ns ++ l.bound ∷ []) p ≡ neg_ℚ (S *ℚ t) +ℚ (whole l.bound *ℚ t)
  unfolding S
  backward =
      dot_form (λ n. neg_ℤ (coefficient n l.parts)) l.bound ns v t p s
      ∙ (λ i. (ap (λ q. q *ℚ t) (form_negated ns ∙ ap neg_ℚ (form_parts l.parts ns v rise in_ns)) ∙ negated_product (parts_value v l.parts) t) i +ℚ (whole l.bound *ℚ at_t i))

  pub row_ge : Holds (backward_row ns l) p → whole l.bound ≤ℚ parts_value v l.parts
  unfolding S
  row_ge h = cancel_le (whole l.bound) S t above (difference_ge (S *ℚ t) (whole l.bound *ℚ t) (subst (λ q. q ≤ℚ whole (pos 0)) backward h.le))

  pub by_rel : (r : Rel) → AllHold (rows_by r ns l) p → Compares r (parts_value v l.parts) (whole l.bound)
  by_rel Le h = row_le h.0
  by_rel Lt h = row_lt h.0
  by_rel Eq h = ≤ℚ_antisym _ _ (row_le h.0) (row_ge h.1.0)

-- ---- all literals
all_true : (ns : List ℕ) (v : Values) (t : ℚ) (p : rows.Values) → Rises ns → IsScaled ns v t p → p (length ns) ≡ t → whole (pos 0) <ℚ t
    → (ls : List NumLit) → AllAmong ns (mentioned ls) → AllHold (rows_over ns ls) p → All (NumIsTrue v) ls
all_true ns v t p rise s e above [] a h = All-nil (NumIsTrue v)
all_true ns v t p rise s e above (l ∷ ls) a h =
    let b = among_split ns (part_names l.parts) (mentioned ls) a in
    let g = hold_split p (rows_by l.rel ns l) (rows_over ns ls) h in
    All-cons (NumIsTrue v) l ls (by_rel l ns v t p rise b.0 s e above l.rel g.0) (all_true ns v t p rise s e above ls b.1 g.1)

pub all_in : (ns ms : List ℕ) → ((x : ℕ) → Among ms x → Among ns x) → AllAmong ns ms
all_in ns [] h = tt
all_in ns (m ∷ ms) h = (h m (inl refl), all_in ns ms (λ x a. h x (inr a)))

-- the value of a name times t is the coordinate of its column
unfoldable pub are_scaled : (ns : List ℕ) (values : List NameValue) (v : Values) (t : ℕ) (point : List ℚ) → map (λ nv. nv.name.0) values ≡ ns → length ns ≡ t
    → AreQuotients t point (map (λ nv. nv.value) values) → All (λ nv. name_value v nv.name.0 ≡ nv.value) values → IsScaled ns v (at_point point t) (at_point point)
unfolding IsScaled
are_scaled ns values v t point named size q agree k l =
    let n : length values ≡ length ns = sym (length-map values (λ (nv : NameValue). nv.name.0)) ∙ ap length named in
    let d : NameValue = record { name = record { 0 = 0 }; value = whole (pos 0) } in
    let in_k : k < length values = omega arith in
    let name : (get_or values k d).name.0 ≡ get_or ns k 0 = sym (get_or-map (λ (nv : NameValue). nv.name.0) values k d 0 in_k) ∙ ap (λ xs. get_or xs k 0) named in
    let value : at_point (map (λ (nv : NameValue). nv.value) values) k ≡ (get_or values k d).value = get_or-map (λ (nv : NameValue). nv.value) values k d (whole (pos 0)) in_k in
    ap (λ x. x *ℚ at_point point t) (ap (name_value v) (sym name) ∙ agree k d in_k ∙ sym value) ∙ q.each k (omega arith)

pub keeps : (lits : List NumLit) (chain : List ℕ) (point : List ℚ) (values : List NameValue) → IsPoint (rows_of lits) (width_of lits) chain point
    → map (λ nv. nv.name.0) values ≡ columns lits → AreQuotients (length (columns lits)) point (map (λ nv. nv.value) values) → IsSolution lits values
keeps lits chain point values p named q = record {
  named = named;
  keeps = λ v agree.
      let ns = columns lits in
      let t = at_point point (length ns) in
      let h = holds_in (rows_of lits) (at_point point) p.holds in
      let above : whole (pos 0) <ℚ t = positive t (scale_at_least ns (at_point point) h.0) in
      all_true ns v t (at_point point) (columns_rise lits) (are_scaled ns values v (length ns) point named refl q agree) refl above lits
      (all_in ns (mentioned lits) (among_names (mentioned lits) [])) h.1;
}

-- the coordinate of t isn't 0
pub scale_apart : (lits : List NumLit) (chain : List ℕ) (point : List ℚ) → IsPoint (rows_of lits) (width_of lits) chain point → at_point point (length point - 1) ≡ whole (pos 0) → ⊥
scale_apart lits chain point p e =
    let h = holds_in (rows_of lits) (at_point point) p.holds in
    let above = positive (at_point point (length (columns lits))) (scale_at_least (columns lits) (at_point point) h.0) in
    let s : length point - 1 ≡ length (columns lits) = (let z = p.size in omega arith) in
    not_both (whole (pos 0)) (at_point point (length (columns lits))) above (subst (λ j. at_point point j ≤ℚ whole (pos 0)) s (subst (λ x. x ≤ℚ whole (pos 0)) (sym e) (≤ℚ_refl (whole (pos 0)))))

pub solves : (lits : List NumLit) (rows : List ℕ) (point quotients : List ℚ) (values : List NameValue) → IsPoint (rows_of lits) (width_of lits) rows point
    → AreQuotients (length point - 1) point quotients → values_of (length point - 1) point ≡ Ok quotients
    → map (λ nv. nv.name.0) values ≡ columns lits → map (λ nv. nv.value) values ≡ quotients → IsChainSolution lits (map suc rows) values
solves lits rows point quotients values p q made named valued =
    let s : length point - 1 ≡ length (columns lits) = (let z = p.size in omega arith) in
    let r : AreQuotients (length (columns lits)) point (map (λ nv. nv.value) values) =
    subst (λ ys. AreQuotients (length (columns lits)) point ys) (sym valued) (subst (λ t. AreQuotients t point quotients) s q) in
    record {
      rows = rows;
      numbers = refl;
      point = point;
      is_point = p;
      quotients = r;
      made = ap (λ t. values_of t point) (sym s) ∙ made ∙ ap Ok (sym valued);
      solution = keeps lits rows point values p named r;
    }
