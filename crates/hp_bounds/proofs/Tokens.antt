-- Tokens one after another in a text: each takes a byte, and no numeral is above 10^18.
use Rattle.std.proofs.Common.{◌≢◌, ℕ, ◌+◌, ◌*◌, ◌^◌, ◌≤◌, List, [], ◌∷◌, length, Ok, sym, arith}
use Rattle.hp_text.specs.declared.token.Kind.{Kind}
use Rattle.hp_text.specs.declared.token.Kind.TheVariants as kinds
use Rattle.hp_text.specs.declared.token.Token.{Token as Placed}
use Rattle.hp_text.specs.Lexes.{Passes, IsSaid, said_by, said}
use Rattle.hp_text.specs.Placed.{IsPlaced, text_of}
use Rattle.hp_text.proofs.Fronts.{next_placed}
use Rattle.hp_text.proofs.Saying.{token_says}
use Rattle.hp_grammar.specs.Symbols.{symbol_by, symbol_of, symbols}
use Rattle.hp_bounds.proofs.Loads.{value, load}

pub tokens_fit : (bytes : List ℕ) (from to : ℕ) (ts : List Placed) → from ≤ length bytes → Passes bytes from ts to → (from + length ts) ≤ length bytes
tokens_fit bytes from to [] h p = omega arith
tokens_fit bytes from to (t ∷ ts) h p =
    let placed : IsPlaced bytes from t = next_placed bytes from (Ok t) h (sym p.0) in
    omega (arith, placed.behind, placed.some p.1, tokens_fit bytes t.end to ts placed.within p.2)

symbol_carries : (k : Kind) (text : List ℕ) → IsSaid (said_by k text) → value (symbol_by k text) ≤ 10 ^ 18
symbol_carries kinds.Name text h = omega arith
symbol_carries kinds.Numeral text h = omega (arith, h)
symbol_carries k text h = omega arith

token_carries : (bytes : List ℕ) (from : ℕ) (t : Placed) → IsPlaced bytes from t → t.kind ≢ kinds.End → value (symbol_of bytes t) ≤ 10 ^ 18
unfolding symbol_of said
token_carries bytes from t p e = symbol_carries t.kind (text_of bytes t) (token_says bytes from t p e)

-- one token more, of which none carries more than `most`
more_carried : (most n first rest : ℕ) → first ≤ most → rest ≤ n * most → (first + rest) ≤ (n + 1) * most
more_carried most n first rest f r = omega arith

pub tokens_carry : (bytes : List ℕ) (from to : ℕ) (ts : List Placed) → from ≤ length bytes → Passes bytes from ts to → load (symbols bytes ts) ≤ length ts * 10 ^ 18
tokens_carry bytes from to [] h p = omega arith
tokens_carry bytes from to (t ∷ ts) h p =
    let placed : IsPlaced bytes from t = next_placed bytes from (Ok t) h (sym p.0) in
    let all : (value (symbol_of bytes t) + load (symbols bytes ts)) ≤ (length ts + 1) * 10 ^ 18 =
    more_carried (10 ^ 18) (length ts) _ _ (token_carries bytes from t placed p.1) (tokens_carry bytes t.end to ts placed.within p.2) in
    omega arith
