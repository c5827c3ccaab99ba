-- What the operations on forms do to the value of a form.
use Rattle.std.proofs.Common.{◌≡◌, Bool, true, false, cond, nat_lt, pos, List, [], ◌∷◌, ◌++◌, map, Ok, refl, sym, ap, ◌∙◌, arith}
use Rattle.std.proofs.lemmas.Bool.{ltb-false}
use Rattle.hp_math.specs.Rational.{ℚ, whole, ◌+ℚ◌, ◌-ℚ◌, ◌*ℚ◌, neg_ℚ, eq_ℚ}
use Rattle.hp_math.proofs.Field.{+ℚ_zero, +ℚ_assoc, *ℚ-+ℚ}
use Rattle.hp_num.specs.Wide.{add_of, mul_of, ◌>>=◌}
use Rattle.hp_num.proofs.Given.{came, add_gave, mul_gave}
use Rattle.hp_lit.specs.declared.literal.Name.{Name}
use Rattle.hp_lit.specs.Truth.{Values, name_value}
use Rattle.hp_tree.proofs.Compares.{eq_ℚ-true}
use Rattle.hp_lit.specs.declared.line.LinPart.{LinPart}
use Rattle.hp_lit.specs.declared.line.Lin.{Lin}
use Rattle.hp_linear.specs.Steps.{Refusable, behind}
use Rattle.hp_linear.specs.Lins.{copies, lin_with, minus_lin, neg_lin, neg_part, plus_lin, plus_parts, product_of, sum_of, times_lin, times_parts, unless_zero}
use Rattle.hp_linear.specs.Values.{lin_value, sum_value}
use Rattle.hp_linear.proofs.Refusals.{ok_same, not_wide}
use Rattle.hp_linear.proofs.Fields.{factor_out, four, neg_sum, neg_times, neg_zero, sum_times, swap_first, times_zero, zero_plus, zero_times}

-- ---- fractions
pub sum_exact : (x y s : ℚ) → sum_of x y ≡ Ok s → s ≡ x +ℚ y
sum_exact x y s e = add_gave x y s (not_wide (add_of x y) s e)

pub product_exact : (x y s : ℚ) → product_of x y ≡ Ok s → s ≡ x *ℚ y
product_exact x y s e = mul_gave x y s (not_wide (mul_of x y) s e)

-- ---- summands
module _ (v : Values) where
  abbrev S : List LinPart → ℚ
  S ss = sum_value v ss

  -- a summand that is left out has the value 0
  unless_zero-value : (name : Name) (c : ℚ) (ss : List LinPart) → S (unless_zero name c ++ ss) ≡ c *ℚ name_value v name.0 +ℚ S ss
  unless_zero-value name c ss = (elim (eq_ℚ c (whole (pos 0))) as (λ t. eq_ℚ c (whole (pos 0)) ≡ t → S (cond t [] (copies name c ∷ []) ++ ss) ≡ c *ℚ name_value v name.0 +ℚ S ss) [
    | true ↦ λ t. sym (zero_plus (S ss)) ∙ ap (λ x. x +ℚ S ss) (sym (zero_times (name_value v name.0)) ∙ ap (λ x. x *ℚ name_value v name.0) (sym (eq_ℚ-true c (whole (pos 0)) t)))
    | false ↦ λ t. refl
  ]) refl

  -- a coefficient and the rest, both of which were not refused
  first_value : (name : Name) (r : Refusable ℚ) (rest : Refusable (List LinPart)) (zs : List LinPart) (c s : ℚ) → ((d : ℚ) → r ≡ Ok d → d ≡ c)
      → ((us : List LinPart) → rest ≡ Ok us → S us ≡ s)
      → (r >>= λ d. behind (unless_zero name d) rest) ≡ Ok zs → S zs ≡ c *ℚ name_value v name.0 +ℚ s
  first_value name r rest zs c s exact value e =
      let one = came r (λ d. behind (unless_zero name d) rest) zs e in
      let two = came rest (λ us. Ok (unless_zero name one.value ++ us)) zs one.rest in
      ap S (sym (ok_same (unless_zero name one.value ++ two.value) zs two.rest)) ∙ unless_zero-value name one.value two.value
      ∙ (λ i. exact one.value one.first i *ℚ name_value v name.0 +ℚ value two.value two.first i)

  module _ (x y : LinPart) (xs ys : List LinPart) where
    abbrev X : ℚ
    X = x.coef *ℚ name_value v x.name.0

    abbrev Y : ℚ
    Y = y.coef *ℚ name_value v y.name.0

    abbrev Adds : List LinPart → List LinPart → Type 0
    Adds ls rs = (zs : List LinPart) → plus_parts ls rs ≡ Ok zs → S zs ≡ S ls +ℚ S rs

    -- a summand in front of a merge
    in_front : (s : LinPart) (ls rs zs : List LinPart) → Adds ls rs → behind (s ∷ []) (plus_parts ls rs) ≡ Ok zs
        → S zs ≡ s.coef *ℚ name_value v s.name.0 +ℚ (S ls +ℚ S rs)
    in_front s ls rs zs adds e =
        let one = came (plus_parts ls rs) (λ us. Ok (s ∷ us)) zs e in
        ap S (sym (ok_same (s ∷ one.value) zs one.rest)) ∙ ap (λ r. s.coef *ℚ name_value v s.name.0 +ℚ r) (adds one.value one.first)

    both_value : (zs : List LinPart) → Adds xs ys → x.name.0 ≡ y.name.0 → (sum_of x.coef y.coef >>= λ c. behind (unless_zero x.name c) (plus_parts xs ys)) ≡ Ok zs
        → S zs ≡ (X +ℚ S xs) +ℚ (Y +ℚ S ys)
    both_value zs adds same e =
        first_value x.name (sum_of x.coef y.coef) (plus_parts xs ys) zs (x.coef +ℚ y.coef) (S xs +ℚ S ys) (sum_exact x.coef y.coef) adds e
        ∙ ap (λ z. z +ℚ (S xs +ℚ S ys)) (sum_times x.coef y.coef (name_value v x.name.0) ∙ ap (λ n. X +ℚ y.coef *ℚ name_value v n) same)
        ∙ four X Y (S xs) (S ys)

    plus_step : Adds xs (y ∷ ys) → Adds (x ∷ xs) ys → Adds xs ys → (a b : Bool) (zs : List LinPart) → nat_lt x.name.0 y.name.0 ≡ a → nat_lt y.name.0 x.name.0 ≡ b
        → cond a (behind (x ∷ []) (plus_parts xs (y ∷ ys))) (cond b (behind (y ∷ []) (plus_parts (x ∷ xs) ys)) (sum_of x.coef y.coef >>= λ c. behind (unless_zero x.name c) (plus_parts xs ys))) ≡ Ok zs
        → S zs ≡ (X +ℚ S xs) +ℚ (Y +ℚ S ys)
    plus_step left right both true b zs s t e = in_front x xs (y ∷ ys) zs left e ∙ sym (+ℚ_assoc X (S xs) (Y +ℚ S ys))
    plus_step left right both false true zs s t e = in_front y (x ∷ xs) ys zs right e ∙ swap_first Y (X +ℚ S xs) (S ys)
    plus_step left right both false false zs s t e =
        let same : x.name.0 ≡ y.name.0 = omega (arith, ltb-false x.name.0 y.name.0 s, ltb-false y.name.0 x.name.0 t) in
        both_value zs both same e

  plus_value : (xs ys zs : List LinPart) → plus_parts xs ys ≡ Ok zs → S zs ≡ S xs +ℚ S ys
  plus_value [] ys zs e = ap S (sym (ok_same ys zs e)) ∙ sym (zero_plus (S ys))
  plus_value (x ∷ xs) [] zs e = ap S (sym (ok_same (x ∷ xs) zs e)) ∙ sym (+ℚ_zero (S (x ∷ xs)))
  plus_value (x ∷ xs) (y ∷ ys) zs e = plus_step x y xs ys (plus_value xs (y ∷ ys)) (plus_value (x ∷ xs) ys) (plus_value xs ys) (nat_lt x.name.0 y.name.0) (nat_lt y.name.0 x.name.0) zs refl refl e

  times_value : (q : ℚ) (ss zs : List LinPart) → times_parts q ss ≡ Ok zs → S zs ≡ q *ℚ S ss
  times_value q [] zs e = ap S (sym (ok_same [] zs e)) ∙ sym (times_zero q)
  times_value q (s ∷ ss) zs e =
      first_value s.name (product_of q s.coef) (times_parts q ss) zs (q *ℚ s.coef) (q *ℚ S ss) (product_exact q s.coef) (times_value q ss) e
      ∙ factor_out q s.coef (name_value v s.name.0) (S ss)

  neg_value : (ss : List LinPart) → S (map neg_part ss) ≡ neg_ℚ (S ss)
  neg_value [] = sym neg_zero
  neg_value (s ∷ ss) = (λ i. neg_times s.coef (name_value v s.name.0) i +ℚ neg_value ss i) ∙ neg_sum (s.coef *ℚ name_value v s.name.0) (S ss)

  -- ---- forms
  pub plus_lin-value : (f g h : Lin) → plus_lin f g ≡ Ok h → lin_value v h ≡ lin_value v f +ℚ lin_value v g
  plus_lin-value f g h e =
      let one = came (plus_parts f.parts g.parts) (λ ss. sum_of f.rest g.rest >>= λ c. Ok (lin_with ss c)) h e in
      let two = came (sum_of f.rest g.rest) (λ c. Ok (lin_with one.value c)) h one.rest in
      ap (lin_value v) (sym (ok_same (lin_with one.value two.value) h two.rest))
      ∙ (λ i. plus_value f.parts g.parts one.value one.first i +ℚ sum_exact f.rest g.rest two.value two.first i)
      ∙ four (S f.parts) (S g.parts) f.rest g.rest

  pub neg_lin-value : (f : Lin) → lin_value v (neg_lin f) ≡ neg_ℚ (lin_value v f)
  neg_lin-value f = ap (λ x. x +ℚ neg_ℚ f.rest) (neg_value f.parts) ∙ neg_sum (S f.parts) f.rest

  pub minus_lin-value : (f g h : Lin) → minus_lin f g ≡ Ok h → lin_value v h ≡ lin_value v f -ℚ lin_value v g
  minus_lin-value f g h e = plus_lin-value f (neg_lin g) h e ∙ ap (λ x. lin_value v f +ℚ x) (neg_lin-value g)

  pub times_lin-value : (q : ℚ) (f h : Lin) → times_lin q f ≡ Ok h → lin_value v h ≡ q *ℚ lin_value v f
  times_lin-value q f h e =
      let one = came (times_parts q f.parts) (λ ss. product_of q f.rest >>= λ c. Ok (lin_with ss c)) h e in
      let two = came (product_of q f.rest) (λ c. Ok (lin_with one.value c)) h one.rest in
      ap (lin_value v) (sym (ok_same (lin_with one.value two.value) h two.rest))
      ∙ (λ i. times_value q f.parts one.value one.first i +ℚ product_exact q f.rest two.value two.first i)
      ∙ sym (*ℚ-+ℚ q (S f.parts) f.rest)
