-- Bytes that are cut into tokens from the front, at whatever place they stand, and the tokens of a text that is cut to its end.
use Rattle.std.proofs.Common.{◌≡◌, ◌≢◌, ℕ, ◌+◌, ◌-◌, List, [], ◌∷◌, ◌++◌, length, take, drop, Ok, refl, sym, ap, ◌∙◌, arith}
use Rattle.std.proofs.Math.Seq.{take-append_seam, drop-append_seam}
use Rattle.std.proofs.lemmas.List.{drop-drop}
use Rattle.hp_text.specs.declared.token.Kind.{Kind}
use Rattle.hp_text.specs.declared.token.Kind.TheVariants as kinds
use Rattle.hp_text.specs.declared.token.Token.{Token as Placed}
use Rattle.hp_text.specs.Tokens.{gap, token, front, start_from, next_from}
use Rattle.hp_text.specs.Placed.{text_of}
use Rattle.hp_text.specs.Lexes.{Passes, Lexes}
use Rattle.hp_grammar.specs.declared.symbol.Symbol.{Symbol as Token}
use Rattle.hp_grammar.specs.Symbols.{symbol_by, symbol_of, symbols}

-- ---- cutting
-- the bytes without the blanks and comments in front
abbrev pub bare : List ℕ → List ℕ
bare bytes = drop (gap bytes) bytes

-- these bytes begin with this token, and those are behind it
pub record Takes (bytes : List ℕ) (t : Token) (next : List ℕ) : Type 0 where
  pub kind : Kind
  pub text : List ℕ
  pub cut : bytes ≡ text ++ next
  pub first : (start : ℕ) → front start bytes ≡ Ok (token start kind (length text))
  pub inner : kind ≢ kinds.End
  pub says : symbol_by kind text ≡ t

-- the bytes are these tokens, and then those bytes
abbrev pub Cuts : List ℕ → List Token → List ℕ → Type 0
Cuts bytes [] rest = bare bytes ≡ bare rest
Cuts bytes (t ∷ ts) rest = (next : List ℕ) × Takes (bare bytes) t next × Cuts next ts rest

-- blanks and comments in front make no difference
pub cuts_from : (a b : List ℕ) (ts : List Token) (rest : List ℕ) → bare a ≡ bare b → Cuts b ts rest → Cuts a ts rest
cuts_from a b [] rest e c = e ∙ c
cuts_from a b (t ∷ ts) rest e c = (c.0, rw e c.1, c.2)

-- tokens, and then others
pub cuts_join : (a b c : List ℕ) (ts us : List Token) → Cuts a ts b → Cuts b us c → Cuts a (ts ++ us) c
cuts_join a b c [] us p q = cuts_from a b us c p q
cuts_join a b c (t ∷ ts) us p q = (p.0, p.1, cuts_join p.0 b c ts us p.2 q)

-- ---- places
-- the next token begins behind the blanks and comments that stand at the place
bare_from : (bytes : List ℕ) (at : ℕ) → drop (start_from bytes at) bytes ≡ bare (drop at bytes)
bare_from bytes at = sym (drop-drop (gap (drop at bytes)) at bytes)

-- the next token from a place on
record Next (bytes : List ℕ) (at : ℕ) (t : Token) (next : List ℕ) : Type 0 where
  pub placed : Placed
  pub found : next_from bytes at ≡ Ok placed
  pub inner : placed.kind ≢ kinds.End
  pub says : symbol_of bytes placed ≡ t
  pub behind : drop placed.end bytes ≡ next

next_placed : (bytes : List ℕ) (at : ℕ) (t : Token) (next : List ℕ) → Takes (bare (drop at bytes)) t next → Next bytes at t next
unfolding symbol_of
next_placed bytes at t next k =
    let start = start_from bytes at in
    let whole : drop start bytes ≡ k.text ++ next = bare_from bytes at ∙ k.cut in
    let long : start + length k.text - start ≡ length k.text = omega arith in
    let text : text_of bytes (token start k.kind (length k.text)) ≡ k.text =
    ap (λ n. take n (drop start bytes)) long ∙ ap (take (length k.text)) whole ∙ take-append_seam k.text next in
    record {
      placed = token start k.kind (length k.text);
      found = ap (front start) (bare_from bytes at) ∙ k.first start;
      inner = k.inner;
      says = ap (symbol_by k.kind) text ∙ k.says;
      behind = sym (drop-drop (length k.text) start bytes) ∙ ap (drop (length k.text)) whole ∙ drop-append_seam k.text next;
    }

-- tokens of the bytes from a place on
record Placing (bytes : List ℕ) (at : ℕ) (ts : List Token) (rest : List ℕ) : Type 0 where
  pub tokens : List Placed
  pub place : ℕ
  pub passes : Passes bytes at tokens place
  pub says : symbols bytes tokens ≡ ts
  pub behind : bare (drop place bytes) ≡ bare rest

placing : (bytes : List ℕ) (at : ℕ) (here : List ℕ) (ts : List Token) (rest : List ℕ) → bare (drop at bytes) ≡ bare here → Cuts here ts rest → Placing bytes at ts rest
placing bytes at here [] rest e c = record { tokens = []; place = at; passes = refl; says = refl; behind = e ∙ c }
placing bytes at here (t ∷ ts) rest e c =
    let one = next_placed bytes at t c.0 (rw e c.1) in
    let more = placing bytes one.placed.end c.0 ts rest (ap bare one.behind) c.2 in
    record {
      tokens = one.placed ∷ more.tokens;
      place = more.place;
      passes = (one.found, one.inner, more.passes);
      says = (let first = one.says in let others = more.says in cc);
      behind = more.behind;
    }

-- a text that is cut to its end has these tokens
pub lexed : (bytes : List ℕ) (ts : List Token) → Cuts bytes ts []
    → (tokens : List Placed) × (last : Placed) × Lexes bytes tokens (Ok last) × (symbols bytes tokens ≡ ts)
lexed bytes ts c =
    let all = placing bytes 0 bytes ts [] refl c in
    let start = start_from bytes all.place in
    let ends : drop start bytes ≡ [] = bare_from bytes all.place ∙ all.behind in
    (all.tokens, token start kinds.End 0, record { place = all.place; passes = all.passes; next = ap (front start) ends; is_last = refl }, all.says)
