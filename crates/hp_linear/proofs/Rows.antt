-- A form over whole numbers is in proportion to the form that it comes from.
use Rattle.std.proofs.Common.{◌≡◌, ◌↔◌, ℕ, zero, suc, ◌*◌, ◌/◌, ◌<◌, ◌^◌, Bool, true, false, cond, nat_eq, nat_lt, ℤ, pos, ◌*ℤ◌, unsigned_abs, List, [], ◌∷◌, map, Result, Ok, Err, inl, inr, refl, sym, ap, subst, ◌∙◌, arith}
use Rattle.std.specs.Prelude.{int_div}
use Rattle.std.proofs.lemmas.Int.{ints}
use Rattle.std.proofs.lemmas.Bool.{eq-eqb, cases_lt}
use Rattle.std.proofs.lemmas.Nat.Gcd.{dvd_refl, dvd_trans}
use Rattle.std.proofs.Math.Nat.{div-mul_cancel, dvd-mul_left, dvd-mul_right, mul-pos}
use Prim.Native.Nat.{◌∣◌}
use Rattle.hp_math.specs.Rational.{ℚ, ratio, whole, ◌+ℚ◌, ◌*ℚ◌}
use Rattle.hp_math.proofs.Whole.{*ℤ_assoc}
use Rattle.hp_math.proofs.Rational.{ratio-parts, ratio-same, ratio-*}
use Rattle.hp_math.proofs.Field.{*ℚ-+ℚ}
use Rattle.hp_num.specs.declared.wide.Wide.{Wide as TooWide}
use Rattle.std.specs.Int.{IsGcd}
use Rattle.hp_num.specs.Wide.{times_of, ◌>>=◌}
use Rattle.hp_num.proofs.Bits.{Gave, times_gave}
use Rattle.hp_num.proofs.Reduce.{whole_quotient}
use Rattle.hp_num.specs.Divisor.{gcd}
use Rattle.hp_num.proofs.Given.{came}
use Rattle.hp_lit.specs.declared.literal.Part.{Part}
use Rattle.hp_lit.specs.declared.literal.Rel.{Rel}
use Rattle.hp_lit.specs.Truth.{Values, Compares, IsTrueAt, name_value, parts_value}
use Rattle.hp_lit.specs.declared.literal.Lit.{Lit}
use Rattle.hp_lit.specs.declared.line.LinPart.{LinPart}
use Rattle.hp_lit.specs.declared.line.Lin.{Lin}
use Rattle.hp_linear.specs.declared.wholes.Row.{Row}
use Rattle.hp_lit.specs.declared.refusal.Refusal.TheVariants.{Wide}
use Rattle.hp_linear.specs.Steps.{behind, unless_wide}
use Rattle.hp_linear.specs.Lins.{minus_lin}
use Rattle.hp_linear.specs.Wholes.{denominator_of, lcm_of, lowest_row, multiple_of, one_if_zero, over, parts_divisor, row_divisor, row_of, row_over, row_with, scaled_number, scaled_parts, scaled_row, whole_copies}
use Rattle.hp_linear.specs.Literals.{compared, row_literal}
use Rattle.hp_linear.specs.Values.{lin_value, sum_value}
use Rattle.hp_num.proofs.Divisor.{gcd-is}
use Rattle.hp_linear.proofs.Refusals.{ok_same}
use Rattle.hp_linear.proofs.Fields.{factor_out, times_zero}
use Rattle.hp_linear.proofs.Values.{minus_lin-value}
use Rattle.hp_linear.proofs.Comparisons.{and_then, difference_compares, moved_compares, multiple_compares, turned}

-- ---- common multiples
lcm_gave : (m d n : ℕ) → lcm_of m d ≡ Ok n → n ≡ m / gcd m d * d
lcm_gave m d n e = by (nat_lt (m / gcd m d * d) (2 ^ 127)) e
  where
    by : (b : Bool) → cond b (Ok (m / gcd m d * d)) (Err Wide) ≡ Ok n → n ≡ m / gcd m d * d
    by true e = sym (ok_same (m / gcd m d * d) n e)
    by false e = absurd (cc)

pub some_share : (a g n : ℕ) → a * g ≡ n → 0 < n → 0 < a
some_share zero g n e p = absurd (omega arith)
some_share (suc a) g n e p = omega arith

-- a positive number that both of two divide
pub record IsMultiple (m d n : ℕ) : Type 0 where
  pub left : m ∣ n
  pub right : d ∣ n
  pub some : 0 < n

lcm_multiple : (m d n : ℕ) → 0 < m → 0 < d → lcm_of m d ≡ Ok n → IsMultiple m d n
lcm_multiple m d n p q e =
    let g = gcd m d in
    let is = gcd-is m d in
    let a : m / g * g ≡ m = div-mul_cancel g is.0 in
    let b : d / g * g ≡ d = div-mul_cancel g is.1 in
    let n-is = lcm_gave m d n e in
    let other : n ≡ m * (d / g) = n-is ∙ omega (arith, ap (λ x. m / g * x) b, ap (λ x. x * (d / g)) a) in
    record {
      left = subst (λ x. m ∣ x) (sym other) (dvd-mul_right m (d / g));
      right = subst (λ x. d ∣ x) (sym n-is) (dvd-mul_left d (m / g));
      some = subst (λ x. 0 < x) (sym n-is) (mul-pos (some_share (m / g) g m a p) q);
    }

-- the denominators divide a number
unfoldable pub AreDivisors : ℕ → List LinPart → Type 0
AreDivisors m [] = Unit {0}
AreDivisors m (s ∷ ss) = (s.coef.den ∣ m) × AreDivisors m ss

multiple_gave : (ss : List LinPart) (m n : ℕ) → 0 < m → multiple_of m ss ≡ Ok n → (m ∣ n) × AreDivisors n ss × (0 < n)
unfolding AreDivisors
multiple_gave [] m n p e = let same = ok_same m n e in (subst (λ x. m ∣ x) same (dvd_refl m), tt, subst (λ x. 0 < x) same p)
multiple_gave (s ∷ ss) m n p e =
    let one = came (lcm_of m s.coef.den) (λ k. multiple_of k ss) n e in
    let is = lcm_multiple m s.coef.den one.value p s.coef.positive one.first in
    let rest = multiple_gave ss one.value n is.some one.rest in
    (dvd_trans m is.left rest.0, (dvd_trans s.coef.den is.right rest.0, rest.1), rest.2)

divisors_more : (ss : List LinPart) (m n : ℕ) → m ∣ n → AreDivisors m ss → AreDivisors n ss
unfolding AreDivisors
divisors_more [] m n h all = tt
divisors_more (s ∷ ss) m n h all = (dvd_trans s.coef.den all.0 h, divisors_more ss m n h all.1)

pub record IsDenominator (f : Lin) (n : ℕ) : Type 0 where
  pub parts : AreDivisors n f.parts
  pub constant : f.rest.den ∣ n
  pub some : 0 < n

pub denominator_gave : (f : Lin) (n : ℕ) → denominator_of f ≡ Ok n → IsDenominator f n
denominator_gave f n e =
    let one = came (multiple_of 1 f.parts) (λ m. lcm_of m f.rest.den) n e in
    let all = multiple_gave f.parts 1 one.value (omega arith) one.first in
    let is = lcm_multiple one.value f.rest.den n all.2 f.rest.positive one.rest in
    record { parts = divisors_more f.parts one.value n is.left all.1; constant = is.right; some = is.some }

-- ---- whole numbers
dvd-one : (n : ℕ) → 1 ∣ n
dvd-one n = subst (λ x. 1 ∣ x) (let e : 1 * n ≡ n = omega arith in e) (dvd-mul_right 1 n)

pub scaled_gave : (m : ℕ) (q : ℚ) (z : ℤ) → scaled_number m q ≡ Ok z → Gave z (q.num *ℤ pos (m / q.den))
scaled_gave m q z e = by (times_of q.num (pos (m / q.den))) refl e
  where
    by : (r : Result ℤ TooWide) → times_of q.num (pos (m / q.den)) ≡ r → unless_wide r ≡ Ok z → Gave z (q.num *ℤ pos (m / q.den))
    by (Ok y) s e = subst (λ x. Gave x (q.num *ℤ pos (m / q.den))) (ok_same y z e) (times_gave q.num (pos (m / q.den)) y s)
    by (Err y) s e = absurd (cc)

scaled_value : (m : ℕ) (q : ℚ) (z : ℤ) → q.den ∣ m → scaled_number m q ≡ Ok z → whole z ≡ whole (pos m) *ℚ q
unfolding whole
scaled_value m q z h e =
    let k = m / q.den in
    let cancel : k * q.den ≡ m = div-mul_cancel q.den h in
    let cross : (q.num *ℤ pos k) *ℤ pos (1 * q.den) ≡ (pos m *ℤ q.num) *ℤ pos 1 =
    ap (λ d. (q.num *ℤ pos k) *ℤ pos d) (let s : 1 * q.den ≡ q.den = omega arith in s) ∙ *ℤ_assoc q.num (pos k) (pos q.den) ∙ ap (λ n. q.num *ℤ pos n) cancel ∙ omega (arith, ints) in
    let d : 0 < 1 * q.den = mul-pos (let one : 0 < 1 = omega arith in one) q.positive in
    ap (λ n. ratio n 1) (scaled_gave m q z e).value
    ∙ ratio-same (q.num *ℤ pos k) (pos m *ℤ q.num) 1 (1 * q.den) (omega arith) d cross
    ∙ sym (ratio-* (pos m) q.num 1 q.den (omega arith) q.positive)
    ∙ ap (λ x. ratio (pos m) 1 *ℚ x) (ratio-parts q)

whole_product : (m n : ℤ) → whole m *ℚ whole n ≡ whole (m *ℤ n)
unfolding whole
whole_product m n = ratio-* m n 1 1 (omega arith) (omega arith)

-- ---- common divisors
unfoldable pub AreMultiples : ℕ → List Part → Type 0
AreMultiples g [] = Unit {0}
AreMultiples g (p ∷ ps) = (g ∣ unsigned_abs p.coef) × AreMultiples g ps

parts_divide : (ps : List Part) (g : ℕ) → (parts_divisor g ps ∣ g) × AreMultiples (parts_divisor g ps) ps
unfolding AreMultiples
parts_divide [] g = (dvd_refl g, tt)
parts_divide (p ∷ ps) g =
    let is = gcd-is g (unsigned_abs p.coef) in
    let rest = parts_divide ps (gcd g (unsigned_abs p.coef)) in
    let d = parts_divisor (gcd g (unsigned_abs p.coef)) ps in
    (dvd_trans d rest.0 is.0, (dvd_trans d rest.0 is.1, rest.1))

multiples_more : (ps : List Part) (g h : ℕ) → g ∣ h → AreMultiples h ps → AreMultiples g ps
unfolding AreMultiples
multiples_more [] g h d all = tt
multiples_more (p ∷ ps) g h d all = (dvd_trans g d all.0, multiples_more ps g h d all.1)

-- a positive number that divides all numbers of a row
pub record IsDivisor (r : Row) (g : ℕ) : Type 0 where
  pub parts : AreMultiples g r.parts
  pub constant : g ∣ unsigned_abs r.constant
  pub some : 0 < g

pub lowest_divides : (r : Row) → IsDivisor r (one_if_zero (row_divisor r))
lowest_divides r = by (row_divisor r) (multiples_more r.parts (row_divisor r) (parts_divisor 0 r.parts) is.0 (parts_divide r.parts 0).1) is.1 (nat_eq (row_divisor r) 0) refl
  where
    is : IsGcd (parts_divisor 0 r.parts) (unsigned_abs r.constant) (row_divisor r)
    is = gcd-is (parts_divisor 0 r.parts) (unsigned_abs r.constant)

    by : (d : ℕ) → AreMultiples d r.parts → d ∣ unsigned_abs r.constant → (b : Bool) → nat_eq d 0 ≡ b → IsDivisor r (cond b 1 d)
    by d parts constant true t = record { parts = multiples_more r.parts 1 d (dvd-one d) parts; constant = dvd-one (unsigned_abs r.constant); some = omega arith }
    by d parts constant false t = record {
      parts = parts;
      constant = constant;
      some = elim (cases_lt 0 d) [ inl p ↦ p | inr p ↦ (let z : nat_eq d 0 ≡ true = eq-eqb d 0 (omega arith) in absurd (cc)) ];
    }

module _ (v : Values) where
  abbrev pub row_value : Row → ℚ
  row_value r = parts_value v r.parts +ℚ whole r.constant

  -- ---- a form times its denominator
  scaled_parts-value : (m : ℕ) (ss : List LinPart) (ps : List Part) → AreDivisors m ss → scaled_parts m ss ≡ Ok ps → parts_value v ps ≡ whole (pos m) *ℚ sum_value v ss
  unfolding AreDivisors
  scaled_parts-value m [] ps all e = ap (parts_value v) (sym (ok_same [] ps e)) ∙ sym (times_zero (whole (pos m)))
  scaled_parts-value m (s ∷ ss) ps all e =
      let w = name_value v s.name.0 in
      let one = came (scaled_number m s.coef) (λ n. behind (whole_copies s.name n ∷ []) (scaled_parts m ss)) ps e in
      let two = came (scaled_parts m ss) (λ us. Ok (whole_copies s.name one.value ∷ us)) ps one.rest in
      ap (parts_value v) (sym (ok_same (whole_copies s.name one.value ∷ two.value) ps two.rest))
      ∙ (λ i. scaled_value m s.coef one.value all.0 one.first i *ℚ w +ℚ scaled_parts-value m ss two.value all.1 two.first i)
      ∙ factor_out (whole (pos m)) s.coef w (sum_value v ss)

  scaled_row-value : (m : ℕ) (f : Lin) (r : Row) → IsDenominator f m → scaled_row m f ≡ Ok r → row_value r ≡ whole (pos m) *ℚ lin_value v f
  scaled_row-value m f r is e =
      let one = came (scaled_parts m f.parts) (λ ps. scaled_number m f.rest >>= λ c. Ok (row_with ps c)) r e in
      let two = came (scaled_number m f.rest) (λ c. Ok (row_with one.value c)) r one.rest in
      ap row_value (sym (ok_same (row_with one.value two.value) r two.rest))
      ∙ (λ i. scaled_parts-value m f.parts one.value is.parts one.first i +ℚ scaled_value m f.rest two.value is.constant two.first i)
      ∙ sym (*ℚ-+ℚ (whole (pos m)) (sum_value v f.parts) f.rest)

  -- ---- a row over a divisor
  quotient_value : (g : ℕ) (n : ℤ) → g ∣ unsigned_abs n → whole n ≡ whole (pos g) *ℚ whole (int_div n (pos g))
  quotient_value g n h =
      let q = int_div n (pos g) in
      ap whole (sym (whole_quotient n g h) ∙ (let e : q *ℤ pos g ≡ pos g *ℤ q = omega (arith, ints) in e)) ∙ sym (whole_product (pos g) q)

  parts_over-value : (g : ℕ) (ps : List Part) → AreMultiples g ps → parts_value v ps ≡ whole (pos g) *ℚ parts_value v (map (over g) ps)
  unfolding AreMultiples
  parts_over-value g [] all = sym (times_zero (whole (pos g)))
  parts_over-value g (p ∷ ps) all =
      let w = name_value v p.name.0 in
      (λ i. quotient_value g p.coef all.0 i *ℚ w +ℚ parts_over-value g ps all.1 i)
      ∙ factor_out (whole (pos g)) (whole (int_div p.coef (pos g))) w (parts_value v (map (over g) ps))

  row_over-value : (g : ℕ) (r : Row) → IsDivisor r g → row_value r ≡ whole (pos g) *ℚ row_value (row_over g r)
  row_over-value g r is =
      (λ i. parts_over-value g r.parts is.parts i +ℚ quotient_value g r.constant is.constant i)
      ∙ sym (*ℚ-+ℚ (whole (pos g)) (parts_value v (map (over g) r.parts)) (whole (int_div r.constant (pos g))))

  -- ---- a form and its row
  pub record IsProportional (f : Lin) (w : Row) : Type 0 where
    pub multiple : ℕ
    pub divisor : ℕ
    pub some_multiple : 0 < multiple
    pub some_divisor : 0 < divisor
    pub same : whole (pos divisor) *ℚ row_value w ≡ whole (pos multiple) *ℚ lin_value v f

  row_proportional : (f : Lin) (w : Row) → row_of f ≡ Ok w → IsProportional f w
  row_proportional f w e =
      let one = came (denominator_of f) (λ m. scaled_row m f >>= λ r. Ok (lowest_row r)) w e in
      let two = came (scaled_row one.value f) (λ r. Ok (lowest_row r)) w one.rest in
      let is = denominator_gave f one.value one.first in
      let g = one_if_zero (row_divisor two.value) in
      let divides = lowest_divides two.value in
      let lowest = ok_same (lowest_row two.value) w two.rest in
      record {
        multiple = one.value;
        divisor = g;
        some_multiple = is.some;
        some_divisor = divides.some;
        same = ap (λ x. whole (pos g) *ℚ row_value x) (sym lowest) ∙ sym (row_over-value g two.value divides) ∙ scaled_row-value one.value f two.value is two.first;
      }

  -- a row stands to 0 as its form does
  row_compares : (rel : Rel) (f : Lin) (w : Row) → row_of f ≡ Ok w → Compares rel (row_value w) (whole (pos 0)) ↔ Compares rel (lin_value v f) (whole (pos 0))
  row_compares rel f w e =
      let is = row_proportional f w e in
      let left = multiple_compares rel is.divisor (row_value w) is.some_divisor in
      let right = multiple_compares rel is.multiple (lin_value v f) is.some_multiple in
      and_then (turned left) (subst (λ x. Compares rel x (whole (pos 0)) ↔ Compares rel (lin_value v f) (whole (pos 0))) (sym is.same) right)

  -- the literal that compares two forms is true exactly where their values stand in the relation
  pub compared_true : (rel : Rel) (l r : Lin) (lit : Lit) → compared rel l r ≡ Ok lit → IsTrueAt v lit ↔ Compares rel (lin_value v l) (lin_value v r)
  compared_true rel l r lit e =
      let one = came (minus_lin l r) (λ f. row_of f >>= λ w. Ok (row_literal rel w)) lit e in
      let two = came (row_of one.value) (λ w. Ok (row_literal rel w)) lit one.rest in
      let w = two.value in
      let same = minus_lin-value v l r one.value one.first in
      subst (λ (x : Lit). IsTrueAt v x ↔ Compares rel (lin_value v l) (lin_value v r)) (ok_same (row_literal rel w) lit two.rest)
      (and_then (moved_compares rel (parts_value v w.parts) w.constant) (and_then (row_compares rel one.value w two.first)
      (subst (λ x. Compares rel x (whole (pos 0)) ↔ Compares rel (lin_value v l) (lin_value v r)) (sym same) (difference_compares rel (lin_value v l) (lin_value v r)))))
