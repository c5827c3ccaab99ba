-- Sums at values: what is computed is exact, it rests on the values of the names in the parts alone, and it decides whether
-- a literal is true.
use Rattle.std.proofs.Common.{rules, ◌≡◌, ◌↔◌, ◌<◌, ◌^◌, FitsSigned, to_z, of_z, unsigned_abs, ℕ, ℤ, pos, refl, sym, ◌∙◌, ap, subst, List, [], ◌∷◌, true, Ok}
use Rattle.std.specs.Int.{w128}
use Rattle.std.proofs.lemmas.Int.{to_z-of_z}
use Rattle.std.specs.List.{All}
use Rattle.std.proofs.lemmas.List.Elements.{All-head, All-tail}
use Rattle.std.specs.declared.cmp.Ordering.{Ordering}
use Rattle.std.specs.declared.cmp.Ordering.TheVariants.{Less, Equal, Greater}
use Rattle.hp_math.specs.Rational.{ℚ, whole, ◌+ℚ◌, ◌*ℚ◌, ◌≤ℚ◌, ◌<ℚ◌}
use Rattle.hp_math.proofs.Field.{+ℚ_assoc, +ℚ_comm, +ℚ_zero, ≤ℚ_refl, <ℚ_irrefl}
use Rattle.hp_math.proofs.Laws.{≤ℚ_of_<ℚ}
use Rattle.hp_num.specs.Wide.{◌>>=◌, mul_of, add_of}
use Rattle.hp_num.proofs.Given.{came, mul_gave, add_gave}
use Rattle.hp_lit.specs.declared.literal.Rel.{Rel}
use Rattle.hp_lit.specs.declared.literal.Rel.TheVariants.{Le, Lt, Eq}
use Rattle.hp_lit.specs.declared.literal.Part.{Part}
use Rattle.hp_lit.specs.declared.literal.NumLit.{NumLit}
use Rattle.hp_lit.specs.Truth.{Values, name_value, parts_value, Compares, NumIsTrue}
use Rattle.hp_lit.specs.declared.valuation.NameValue.{NameValue}
use Rattle.hp_descent.specs.Values.{add_product, sum_at, value_in, exact_sum, Stands, is_met, GivesAmong}

-- a narrow number is its own image in 128 bits
pub narrow_is : (z : ℤ) → unsigned_abs z < 2 ^ 127 → to_z w128 (of_z w128 z) ≡ z
narrow_is z n = to_z-of_z w128 z (let fits : FitsSigned w128 z = search rules in fits)

-- ---- values that agree on the names of the parts
pub sum_at_same : (v w : ℕ → ℚ) (sum : ℚ) (ps : List Part) → All (λ p. v p.name.0 ≡ w p.name.0) ps → sum_at v sum ps ≡ sum_at w sum ps
sum_at_same v w sum [] h = refl
sum_at_same v w sum (p ∷ ps) h =
    let more = All-tail (λ q. v q.name.0 ≡ w q.name.0) p ps h in
    (λ i. add_product sum p.coef (All-head (λ q. v q.name.0 ≡ w q.name.0) p ps h i) >>= λ a. sum_at_same v w a ps more i)

pub exact_sum_same : (v w : ℕ → ℚ) (ps : List Part) → All (λ p. v p.name.0 ≡ w p.name.0) ps → exact_sum v ps ≡ exact_sum w ps
exact_sum_same v w [] h = refl
exact_sum_same v w (p ∷ ps) h =
    (λ i. (whole p.coef *ℚ All-head (λ q. v q.name.0 ≡ w q.name.0) p ps h i) +ℚ exact_sum_same v w ps (All-tail (λ q. v q.name.0 ≡ w q.name.0) p ps h) i)

-- ---- what is computed is exact
pub exact_value : (v : Values) (ps : List Part) → exact_sum (name_value v) ps ≡ parts_value v ps
exact_value v [] = refl
exact_value v (p ∷ ps) = ap (λ q. (whole p.coef *ℚ name_value v p.name.0) +ℚ q) (exact_value v ps)

pub sum_gave : (v : ℕ → ℚ) (sum : ℚ) (ps : List Part) (s : ℚ) → sum_at v sum ps ≡ Ok s → s ≡ sum +ℚ exact_sum v ps
sum_gave v sum [] s h = (let e : s ≡ sum = cc in e ∙ sym (+ℚ_zero sum))
sum_gave v sum (p ∷ ps) s h =
    let b = came (add_product sum p.coef (v p.name.0)) (λ b. sum_at v b ps) s h in
    let a = came (mul_of (whole p.coef) (v p.name.0)) (λ y. add_of sum y) b.value b.first in
    sum_gave v b.value ps s b.rest
    ∙ (λ i. (add_gave sum a.value b.value a.rest ∙ ap (λ q. sum +ℚ q) (mul_gave (whole p.coef) (v p.name.0) a.value a.first)) i +ℚ exact_sum v ps)
    ∙ +ℚ_assoc sum (whole p.coef *ℚ v p.name.0) (exact_sum v ps)

pub whole_sum : (v : ℕ → ℚ) (ps : List Part) (s : ℚ) → sum_at v (whole (pos 0)) ps ≡ Ok s → s ≡ exact_sum v ps
whole_sum v ps s h = sum_gave v (whole (pos 0)) ps s h ∙ +ℚ_comm (whole (pos 0)) (exact_sum v ps) ∙ +ℚ_zero (exact_sum v ps)

-- ---- whether a literal is true
at_most : (a b : ℚ) → a ≡ b → a ≤ℚ b
at_most a b e = subst (λ x. a ≤ℚ x) e (≤ℚ_refl a)

not_less : (a b : ℚ) → a ≡ b → a <ℚ b → ⊥
not_less a b e l = <ℚ_irrefl a b l (at_most b a (sym e))

pub met_decides : (r : Rel) (o : Ordering) (a b : ℚ) → Stands o a b → is_met r o ≡ true ↔ Compares r a b
met_decides Le Less a b h = (λ e. ≤ℚ_of_<ℚ a b h, λ l. refl)
met_decides Le Equal a b h = (λ e. at_most a b h, λ l. refl)
met_decides Le Greater a b h = (λ e. cc, λ l. absurd (<ℚ_irrefl b a h l))
met_decides Lt Less a b h = (λ e. h, λ l. refl)
met_decides Lt Equal a b h = (λ e. cc, λ l. absurd (not_less a b h l))
met_decides Lt Greater a b h = (λ e. cc, λ l. absurd (<ℚ_irrefl b a h (≤ℚ_of_<ℚ a b l)))
met_decides Eq Less a b h = (λ e. cc, λ l. absurd (not_less a b l h))
met_decides Eq Equal a b h = (λ e. h, λ l. refl)
met_decides Eq Greater a b h = (λ e. cc, λ l. absurd (not_less b a (sym l) h))

-- ---- an ordering that was told
pub stands : (o : Ordering) (a b : ℚ) → o ≡ Less ↔ a <ℚ b → o ≡ Equal ↔ a ≡ b → o ≡ Greater ↔ b <ℚ a → Stands o a b
stands Less a b l e g = l.0 refl
stands Equal a b l e g = e.0 refl
stands Greater a b l e g = g.0 refl

pub stands_at : (v : Values) (l : NumLit) (sum : ℚ) (o : Ordering) → sum_at (name_value v) (whole (pos 0)) l.parts ≡ Ok sum → Stands o sum (whole l.bound)
    → Stands o (parts_value v l.parts) (whole l.bound)
stands_at v l sum o e h = subst (λ q. Stands o q (whole l.bound)) (whole_sum (name_value v) l.parts sum e ∙ exact_value v l.parts) h

pub decides_at : (v : Values) (l : NumLit) (sum : ℚ) (o : Ordering) → sum_at (name_value v) (whole (pos 0)) l.parts ≡ Ok sum → Stands o sum (whole l.bound)
    → is_met l.rel o ≡ true ↔ NumIsTrue v l
decides_at v l sum o e h = met_decides l.rel o (parts_value v l.parts) (whole l.bound) (stands_at v l sum o e h)

pub decides_among : (values : List NameValue) (l : NumLit) (sum : ℚ) (o : Ordering) (v : Values) → sum_at (value_in values) (whole (pos 0)) l.parts ≡ Ok sum
    → Stands o sum (whole l.bound) → GivesAmong values l.parts v → is_met l.rel o ≡ true ↔ NumIsTrue v l
decides_among values l sum o v e h g = decides_at v l sum o (sum_at_same (name_value v) (value_in values) (whole (pos 0)) l.parts g ∙ e) h
