-- Where the reading of a text stops: behind the longest list of its tokens that some problem begins with and
-- that is within the limits. There is one such list, and it says what the fault is.
use Rattle.std.proofs.Common.{◌≡◌, ◌≢◌, ℕ, List, [], ◌∷◌, ◌++◌, Result, Ok, Err, sym, ap, subst, ◌∙◌, append_assoc, ◌⊎◌, inl, inr}
use Rattle.hp_text.specs.declared.token.Kind.TheVariants as kinds
use Rattle.hp_text.specs.declared.token.Token.{Token as Placed}
use Rattle.hp_text.specs.declared.token.TokenErr.{TokenErr}
use Rattle.hp_text.specs.Tokens.{next_from}
use Rattle.hp_text.specs.Lexes.{Passes}
use Rattle.hp_grammar.specs.declared.fault.ReadErr.{ReadErr}
use Rattle.hp_grammar.specs.declared.fault.ReadErr.TheVariants.{Syntax, Deep}
use Rattle.hp_grammar.specs.declared.symbol.Symbol.{Symbol as Token}
use Rattle.hp_grammar.specs.Spells.{fault_of}
use Rattle.hp_grammar.specs.Faults.{IsWithin}
use Rattle.hp_grammar.specs.Symbols.{symbol_of, symbols}
use Rattle.hp_grammar.proofs.Symbols.{symbols-append}
use Rattle.hp_faults.proofs.Fronts.{GoesOn, compare, Opens, front_opens, front_within}

-- what the tokens and one more say
abbrev pub with : List ℕ → List Placed → Placed → List Token
with bytes ts t = symbols bytes ts ++ symbol_of bytes t ∷ []

-- why the tokens go on no further, by what stands behind them: no token; the end, or a token that no problem
-- goes on with; or a token that a problem goes on with and a limit refuses
abbrev pub Cause : List ℕ → List Placed → Result Placed TokenErr → ReadErr → Type 0
Cause bytes ts (Err x) e = e ≡ fault_of x
Cause bytes ts (Ok t) e = ((t.kind ≢ kinds.End → Opens (with bytes ts t) → ⊥) × (e ≡ Syntax t.start))
    ⊎ ((t.kind ≢ kinds.End) × Opens (with bytes ts t) × (IsWithin (with bytes ts t) → ⊥) × (e ≡ Deep t.start))

-- a text stops with a fault
pub record Stops (bytes : List ℕ) (e : ReadErr) : Type 0 where
  pub before : List Placed
  pub place : ℕ
  pub passes : Passes bytes 0 before place
  pub opens : Opens (symbols bytes before)
  pub within : IsWithin (symbols bytes before)
  pub cause : Cause bytes before (next_from bytes place) e

goes_no_further : (bytes : List ℕ) (ts : List Placed) (t : Placed) (e : ReadErr) → t.kind ≢ kinds.End → Cause bytes ts (Ok t) e → Opens (with bytes ts t) → IsWithin (with bytes ts t) → ⊥
goes_no_further bytes ts t e k (inl c) o w = c.0 k o
goes_no_further bytes ts t e k (inr c) o w = c.2 w

-- the tokens at which a text stops are a proper front of no others
is_longest : (bytes : List ℕ) (e f : ReadErr) (s : Stops bytes e) (r : Stops bytes f) → GoesOn bytes s.before r.before s.place → ⊥
is_longest bytes e f s r g =
    let all : symbols bytes r.before ≡ with bytes s.before g.token ++ symbols bytes g.rest =
    ap (symbols bytes) g.all ∙ (symbols-append bytes s.before (g.token ∷ g.rest)
    ∙ sym (append_assoc (symbols bytes s.before) (symbol_of bytes g.token ∷ []) (symbols bytes g.rest))) in
    goes_no_further bytes s.before g.token e g.some (subst (λ z. Cause bytes s.before z e) g.next s.cause)
    (front_opens (with bytes s.before g.token) (symbols bytes g.rest) (subst Opens all r.opens))
    (front_within (with bytes s.before g.token) (symbols bytes g.rest) (subst IsWithin all r.within))

one_cause : (bytes : List ℕ) (ts : List Placed) (next : Result Placed TokenErr) (e f : ReadErr) → Cause bytes ts next e → Cause bytes ts next f → e ≡ f
one_cause bytes ts (Err x) e f c d = c ∙ sym d
one_cause bytes ts (Ok t) e f (inl c) (inl d) = c.1 ∙ sym d.1
one_cause bytes ts (Ok t) e f (inl c) (inr d) = absurd (c.0 d.0 d.1)
one_cause bytes ts (Ok t) e f (inr c) (inl d) = absurd (d.0 c.0 c.1)
one_cause bytes ts (Ok t) e f (inr c) (inr d) = c.3 ∙ sym d.3

pub one_stop : (bytes : List ℕ) (e f : ReadErr) → Stops bytes e → Stops bytes f → e ≡ f
one_stop bytes e f s r = elim (compare bytes 0 s.place r.place s.before r.before s.passes r.passes) [
  | inl same ↦
      one_cause bytes r.before (next_from bytes r.place) e f
      (subst (λ z. Cause bytes r.before (next_from bytes z) e) same.1 (subst (λ z. Cause bytes z (next_from bytes s.place) e) same.0 s.cause)) r.cause
  | inr (inl g) ↦ absurd (is_longest bytes e f s r g)
  | inr (inr g) ↦ absurd (is_longest bytes f e r s g)
]
