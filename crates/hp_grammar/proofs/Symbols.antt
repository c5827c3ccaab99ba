-- What a token says, by its kind, and how large the value of a numeral is.
use Rattle.std.proofs.Common.{◌≡◌, ℕ, ◌^◌, ◌<◌, ◌≤◌, true, false, List, [], ◌∷◌, ◌++◌, length, refl, sym, ap, subst, ◌∙◌, arith, lit<}
use Rattle.std.specs.Prelude.{ℤ, pos}
use Rattle.std.proofs.lemmas.Int.{to_z_pos}
use mir.Val.{to_z, of_z, Fits}
use mir.Syntax.{w64, w128}
use lib.IntN.{nat_abs}
use lib.Signed.{non_neg}
use lib.Dec.{T}
use Rattle.std.proofs.Math.Nat.{pow-le-pow_right}
use Rattle.hp_text.specs.declared.token.Kind.{Kind}
use Rattle.hp_text.specs.declared.token.Kind.TheVariants as kinds
use Rattle.hp_text.specs.declared.token.Token.{Token as Placed}
use Rattle.hp_text.specs.Numeral.{IsNumeral, numeral_value}
use Rattle.hp_text.specs.Placed.{text_of}
use Rattle.hp_text.proofs.Pieces.{numeral_below}
use Rattle.hp_grammar.specs.Token.{word, name, numeral, same}
use Rattle.hp_grammar.specs.Symbols.{symbol_by, symbol_of, symbols}
use denote.Enum.Bare.{same_true}
use Rattle.hp_text.specs.contracts.token.Kind.{the_type}

pub same-is : (a b : Kind) → same a b ≡ true → a ≡ b
unfolding same
same-is a b e = same_true the_type tt a b e

pub kind_is : (a b : Kind) → same a b ≡ true → a ≡ b
kind_is a b e = same-is a b e

pub symbol_name : (bytes : List ℕ) (t : Placed) → same t.kind kinds.Name ≡ true → symbol_of bytes t ≡ name (text_of bytes t)
unfolding symbol_of
symbol_name bytes t e = rw (same-is t.kind _ e) refl

pub symbol_numeral : (bytes : List ℕ) (t : Placed) → same t.kind kinds.Numeral ≡ true → symbol_of bytes t ≡ numeral (numeral_value (text_of bytes t))
unfolding symbol_of
symbol_numeral bytes t e = rw (same-is t.kind _ e) refl

symbol_other : (k : Kind) (x : List ℕ) → same k kinds.Name ≡ false → same k kinds.Numeral ≡ false → symbol_by k x ≡ word k
unfolding same
symbol_other kinds.Name x e f = absurd (cc)
symbol_other kinds.Numeral x e f = absurd (cc)
symbol_other k x e f = refl

pub symbol_word : (bytes : List ℕ) (t : Placed) → same t.kind kinds.Name ≡ false → same t.kind kinds.Numeral ≡ false → symbol_of bytes t ≡ word t.kind
unfolding symbol_of
symbol_word bytes t e f = symbol_other t.kind (text_of bytes t) e f

pub numeral_fits : (text : List ℕ) → IsNumeral text → numeral_value text < 2 ^ 64
numeral_fits text n =
    let below : numeral_value text < 10 ^ length text = numeral_below text n.each in
    let most : 10 ^ length text ≤ 10 ^ 18 = pow-le-pow_right {n = 10} (omega arith) {i = length text} {j = 18} n.most in
    let fits : 10 ^ 18 < 2 ^ 64 = lit< tt in
    omega arith

-- a whole number of 128 bits that is not below 0, as one of 64 bits
kept : (z : ℤ) (n : ℕ) → z ≡ pos n → n < 2 ^ 64 → to_z w128 (of_z w128 z) ≡ pos n
kept z n e h =
    let most : 2 ^ 64 < 2 ^ 127 = lit< tt in
    let small : n < 2 ^ 127 = omega arith in
    ap (λ x. to_z w128 (of_z w128 x)) e ∙ to_z_pos w128 n small

pub cast_fits : (z : ℤ) (n : ℕ) → z ≡ pos n → n < 2 ^ 64 → T (non_neg (to_z w128 (of_z w128 z))) × Fits w64 (nat_abs (to_z w128 (of_z w128 z)))
cast_fits z n e h =
    let fits : Fits w64 n = omega arith in
    subst (λ x. T (non_neg x) × Fits w64 (nat_abs x)) (sym (kept z n e h)) (tt, fits)

pub cast_is : (z : ℤ) (n : ℕ) → z ≡ pos n → n < 2 ^ 64 → nat_abs (to_z w128 (of_z w128 z)) ≡ n
cast_is z n e h = ap nat_abs (kept z n e h)

-- what more tokens say
pub symbols-append : (bytes : List ℕ) (ts us : List Placed) → symbols bytes (ts ++ us) ≡ symbols bytes ts ++ symbols bytes us
symbols-append bytes [] us = refl
symbols-append bytes (t ∷ ts) us = ap (λ z. symbol_of bytes t ∷ z) (symbols-append bytes ts us)
