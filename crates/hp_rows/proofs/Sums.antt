-- A row's sum at a point, and its comparison with the bound.
use Rattle.std.proofs.Common.{◌≡◌, ℤ, pos, sym, ◌∙◌, ap, subst, arith, List, [], ◌∷◌, length, true, false, Bool, Ok, refl}
use Rattle.hp_math.specs.Rational.{ℚ, whole, ◌+ℚ◌, ◌*ℚ◌, ◌≤ℚ◌, ◌<ℚ◌}
use Rattle.hp_math.proofs.Field.{+ℚ_assoc, +ℚ_zero}
use Rattle.hp_num.specs.Wide.{◌>>=◌, mul_of, add_of}
use Rattle.hp_rows.specs.declared.row.Row.{Row}
use Rattle.hp_rows.specs.Rows.{dot}
use Rattle.hp_rows.specs.Points.{at_point, left_of}
use Rattle.hp_rows.specs.Told.{TestTells}
use Rattle.hp_num.proofs.Given.{came, mul_gave, add_gave}
use Rattle.hp_rows.proofs.Lines.{zero_plus}

pub left_gave : (sum : ℚ) (cs : List ℤ) (xs : List ℚ) (s : ℚ) → length cs ≡ length xs → left_of sum cs xs ≡ Ok s → s ≡ sum +ℚ dot cs (at_point xs)
left_gave sum [] [] s l h = (let e : s ≡ sum = cc in e ∙ sym (+ℚ_zero sum))
left_gave sum [] (x ∷ xs) s l h = absurd (omega arith)
left_gave sum (c ∷ cs) [] s l h = absurd (omega arith)
left_gave sum (c ∷ cs) (x ∷ xs) s l h =
    let a = came (mul_of (whole c) x) (λ y. add_of sum y >>= λ b. left_of b cs xs) s h in
    let b = came (add_of sum a.value) (λ b. left_of b cs xs) s a.rest in
    left_gave b.value cs xs s (omega arith) b.rest
    ∙ (λ i. (add_gave sum a.value b.value b.first ∙ ap (λ q. sum +ℚ q) (mul_gave (whole c) x a.value a.first)) i +ℚ dot cs (at_point xs))
    ∙ +ℚ_assoc sum (whole c *ℚ x) (dot cs (at_point xs))

pub test_tells : (row : Row) (point : List ℚ) (s : ℚ) (t : Bool) → length row.coefs ≡ length point → left_of (whole (pos 0)) row.coefs point ≡ Ok s
    → (t ≡ true → whole row.bound <ℚ s) → (t ≡ false → s ≤ℚ whole row.bound) → TestTells row point (Ok t)
test_tells row point s true l h above under =
    let g = left_gave (whole (pos 0)) row.coefs point s l h ∙ zero_plus (dot row.coefs (at_point point)) in
    record { gt = subst (λ q. whole row.bound <ℚ q) g (above refl) }
test_tells row point s false l h above under =
    let g = left_gave (whole (pos 0)) row.coefs point s l h ∙ zero_plus (dot row.coefs (at_point point)) in
    record { le = subst (λ q. q ≤ℚ whole row.bound) g (under refl) }
