-- What the tokens of a text say.
use Rattle.std.proofs.Common.{◌≡◌, ◌≢◌, ℕ, ◌^◌, ◌<◌, ◌≤◌, List, [], ◌∷◌, length, Result, Ok, refl, sym, arith}
use Rattle.std.proofs.Math.Nat.{pow-le-pow_right}
use Rattle.hp_text.specs.Numeral.{IsNumeral, numeral_value}
use Rattle.hp_text.specs.Words.{IsName}
use Rattle.hp_text.specs.Placed.{text_of, IsPlaced}
use Rattle.hp_text.specs.Lexes.{Passes, Lexes, IsSaid, AreSaid, said_by, said, all_said}
use Rattle.hp_text.specs.declared.token.Kind.{Kind}
use Rattle.hp_text.specs.declared.token.Kind.TheVariants as kinds
use Rattle.hp_text.specs.declared.token.Token.{Token}
use Rattle.hp_text.specs.declared.token.TokenErr.{TokenErr}
use Rattle.hp_text.proofs.Fronts.{next_placed}
use Rattle.hp_text.proofs.Pieces.{numeral_below}

numeral_small : (text : List ℕ) → IsNumeral text → numeral_value text < 10 ^ 18
numeral_small text n =
    let below = numeral_below text n.each in
    let most : 10 ^ length text ≤ 10 ^ 18 = pow-le-pow_right {n = 10} (omega arith) {i = length text} {j = 18} n.most in omega arith

said_by_is : (k : Kind) (text : List ℕ) → k ≢ kinds.End → (k ≡ kinds.Numeral → IsNumeral text) → (k ≡ kinds.Name → IsName text) → IsSaid (said_by k text)
said_by_is kinds.Name text e d n = n refl
said_by_is kinds.Numeral text e d n = numeral_small text (d refl)
said_by_is kinds.End text e d n = absurd (e refl)
said_by_is k text e d n = refl

pub token_says : (bytes : List ℕ) (place : ℕ) (t : Token) → IsPlaced bytes place t → t.kind ≢ kinds.End → IsSaid (said bytes t)
unfolding said
token_says bytes place t p e = said_by_is t.kind (text_of bytes t) e p.numeral p.name

passed_say : (bytes : List ℕ) (from to : ℕ) (ts : List Token) → from ≤ length bytes → Passes bytes from ts to → AreSaid (all_said bytes ts)
passed_say bytes from to [] h p = tt
passed_say bytes from to (t ∷ ts) h p =
    let placed : IsPlaced bytes from t = next_placed bytes from (Ok t) h (sym p.0) in
    (token_says bytes from t placed p.1, passed_say bytes t.end to ts placed.within p.2)

pub all_say : (bytes : List ℕ) (tokens : List Token) (last : Result Token TokenErr) → Lexes bytes tokens last → AreSaid (all_said bytes tokens)
all_say bytes tokens last l = passed_say bytes 0 l.place tokens (omega arith) l.passes
