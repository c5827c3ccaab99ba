-- The test of two texts.
use Rattle.std.proofs.Common.{◌≡◌, ℕ, List, Bool, true, false, refl, sym}
use Rattle.std.specs.Str.{bytes_eq}
use Rattle.std.proofs.lemmas.Slice.Eq.{bytes_eq-Decides}

pub not_both : (a : Bool) → a ≡ false → a ≡ true → ⊥
not_both a e f = cc

is_false : (a : Bool) → (a ≡ true → ⊥) → a ≡ false
is_false true h = absurd (h refl)
is_false false h = refl

pub same_text : (xs ys : List ℕ) → bytes_eq xs ys ≡ true → xs ≡ ys
same_text xs ys = (bytes_eq-Decides xs ys).0

pub text_same : (xs : List ℕ) → bytes_eq xs xs ≡ true
text_same xs = (bytes_eq-Decides xs xs).1 refl

pub apart_back : (x y : List ℕ) → bytes_eq x y ≡ false → bytes_eq y x ≡ false
apart_back x y e = is_false (bytes_eq y x) (λ t. not_both (bytes_eq x y) e ((bytes_eq-Decides x y).1 (sym (same_text y x t))))
