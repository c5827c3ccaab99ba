-- Lists of one word and of three.
use Rattle.std.proofs.Common.{◌≡◌, ◌<◌, ◌≤◌, ℕ, List, [], ◌∷◌, Result, Ok, true, length, get_or, refl, sym, ap, arith}
use Rattle.std.specs.Str.{bytes_eq}
use Rattle.std.proofs.lemmas.Bool.{eq-eqb}

pub one_item : {A : Type 0} (xs : List A) (x : A) → 1 ≤ length xs → length xs < 2 → x ≡ get_or xs 0 x → xs ≡ x ∷ []
one_item [] x lo hi e = absurd (omega arith)
one_item (y ∷ []) x lo hi e = ap (λ z. z ∷ []) (sym e)
one_item (y ∷ z ∷ zs) x lo hi e = absurd (omega arith)

pub three_items : {A : Type 0} (xs : List A) (x y z : A) → 3 ≤ length xs → length xs < 4 → x ≡ get_or xs 0 x → y ≡ get_or xs 1 y → z ≡ get_or xs 2 z → xs ≡ x ∷ y ∷ z ∷ []
three_items [] x y z lo hi e f g = absurd (omega arith)
three_items (a ∷ []) x y z lo hi e f g = absurd (omega arith)
three_items (a ∷ b ∷ []) x y z lo hi e f g = absurd (omega arith)
three_items (a ∷ b ∷ c ∷ []) x y z lo hi e f g = λ i. sym e i ∷ sym f i ∷ sym g i ∷ []
three_items (a ∷ b ∷ c ∷ d ∷ ds) x y z lo hi e f g = absurd (omega arith)

pub ok_same : {T E : Type 0} (x y : T) → ◌≡◌ {A = Result T E} (Ok x) (Ok y) → x ≡ y
ok_same x y e = cc

pub text_same : (xs : List ℕ) → bytes_eq xs xs ≡ true
text_same [] = refl
text_same (x ∷ xs) = (let h = eq-eqb x x refl in rw h (text_same xs))
