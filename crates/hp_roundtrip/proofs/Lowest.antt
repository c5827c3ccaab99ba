-- The numbers that a text spells have no sign, and their lowest terms are no larger than what was read.
use Rattle.std.proofs.Common.{◌≡◌, ℕ, ◌<◌, ◌≤◌, Bool, true, false, List, [], ◌∷◌, ◌++◌, refl, sym, ap, subst, ◌∙◌, arith}
use Rattle.std.specs.Prelude.{pos, if◌then◌else◌}
use Rattle.std.proofs.lemmas.Bool.{eqb-true}
use Rattle.hp_math.specs.Rational.{ℚ, magnitude, ratio, lowest_num, is_whole}
use Rattle.hp_math.proofs.Rational.{ratio-parts}
use Rattle.hp_text.specs.declared.token.Kind.TheVariants as kinds
use Rattle.hp_grammar.specs.declared.symbol.Symbol.{Symbol as Token}
use Rattle.hp_grammar.specs.declared.symbol.Symbol.TheVariants.{Word as word, Numeral as numeral}
use Rattle.hp_grammar.specs.Grammar.{SpellsNumber, whole, fraction}
use Rattle.hp_math.proofs.Lowest.{copies, denominator_most, numerator_below}
use Rattle.hp_roundtrip.specs.inner.Printed.{frac_tokens, whole_tokens}

-- a number without a sign, and its parts
pub record IsLow (q : ℚ) (n d : ℕ) : Type 0 where
  pub top : ℕ
  pub is_top : q.num ≡ pos top
  pub top_most : top ≤ n
  pub den_most : q.den ≤ d

top_of : (n d : ℕ) → (m : ℕ) × ((ratio (pos n) d).num ≡ pos m)
unfolding ratio lowest_num
top_of n d = (_, refl)

pub is_low : (n d : ℕ) → 0 < d → IsLow (ratio (pos n) d) n d
is_low n d p =
    let q : ℚ = ratio (pos n) d in
    let t = top_of n d in
    let most : q.den ≤ d = denominator_most n d p in
    record {
      top = t.0;
      is_top = t.1;
      top_most = omega (arith, ap magnitude t.1, numerator_below (magnitude q.num) n d q.den p (copies n d p) most);
      den_most = most;
    }

-- ---- the tokens of such a number spell it
abbrev pub low_tokens : Bool → ℕ → ℕ → List Token
low_tokens true m d = numeral m ∷ []
low_tokens false m d = numeral m ∷ word kinds.Slash ∷ numeral d ∷ []

pub tokens-low : (q : ℚ) (m : ℕ) → q.num ≡ pos m → frac_tokens q ≡ low_tokens (is_whole q) m q.den
tokens-low q m e =
    ap (λ z. if is_whole q then whole_tokens z else (whole_tokens z ++ (word kinds.Slash ∷ numeral q.den ∷ []))) e
    ∙ by_form (is_whole q)
  where
    by_form : (b : Bool) → (if b then (numeral m ∷ []) else (numeral m ∷ word kinds.Slash ∷ numeral q.den ∷ [])) ≡ low_tokens b m q.den
    by_form true = refl
    by_form false = refl

itself : (q : ℚ) (m : ℕ) → q.num ≡ pos m → ratio (pos m) q.den ≡ q
itself q m e = ap (λ z. ratio z q.den) (sym e) ∙ ratio-parts q

low_spelled : (q : ℚ) (m : ℕ) → q.num ≡ pos m → (b : Bool) → is_whole q ≡ b → SpellsNumber (low_tokens b m q.den) q
low_spelled q m e true h =
    let one : q.den ≡ 1 = eqb-true q.den 1 h in
    subst (λ z. SpellsNumber (numeral m ∷ []) z) (ap (λ d. ratio (pos m) d) (sym one) ∙ itself q m e) (whole m)
low_spelled q m e false h = subst (λ z. SpellsNumber (numeral m ∷ word kinds.Slash ∷ numeral q.den ∷ []) z) (itself q m e) (fraction m q.den q.positive)

number_itself : (q : ℚ) (m : ℕ) → q.num ≡ pos m → SpellsNumber (frac_tokens q) q
number_itself q m e = rw (tokens-low q m e) (low_spelled q m e (is_whole q) refl)

pub number_derived : (u : List Token) (q : ℚ) → SpellsNumber u q → SpellsNumber (frac_tokens q) q
number_derived u q (whole n) = let l = is_low n 1 (omega arith) in number_itself _ l.top l.is_top
number_derived u q (fraction n d p) = let l = is_low n d p in number_itself _ l.top l.is_top
