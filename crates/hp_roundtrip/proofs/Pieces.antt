-- Texts that are certain tokens, by what may stand behind them, and how they are put together.
use Rattle.std.proofs.Common.{◌≡◌, ℕ, false, List, [], ◌++◌, refl, append_assoc}
use Rattle.hp_text.specs.Bytes.{is_name_byte}
use Rattle.hp_text.proofs.LongestTokens.{begins_with}
use Rattle.hp_grammar.specs.declared.symbol.Symbol.{Symbol as Token}
use Rattle.hp_roundtrip.proofs.Cutting.{Cuts, cuts_join}

-- ---- what stands behind
-- no name byte is in front
abbrev pub Stops : List ℕ → Type 0
Stops rest = begins_with is_name_byte rest ≡ false

-- a text that is these tokens, whatever stands behind it
pub record IsFree (text : List ℕ) (ts : List Token) : Type 0 where
  pub cuts : (rest : List ℕ) → Cuts (text ++ rest) ts rest

-- the same of a text that begins with no name byte
pub record IsSign (text : List ℕ) (ts : List Token) : Type 0 where
  pub stops : (rest : List ℕ) → Stops (text ++ rest)
  pub cuts : (rest : List ℕ) → Cuts (text ++ rest) ts rest

-- a text that is these tokens where no name byte stands behind it
pub record IsPiece (text : List ℕ) (ts : List Token) : Type 0 where
  pub cuts : (rest : List ℕ) → Stops rest → Cuts (text ++ rest) ts rest

-- the same of a text that is empty or begins with no name byte
pub record IsTail (text : List ℕ) (ts : List Token) : Type 0 where
  pub stops : (rest : List ℕ) → Stops rest → Stops (text ++ rest)
  pub cuts : (rest : List ℕ) → Stops rest → Cuts (text ++ rest) ts rest

-- ---- one text behind another
joined : (a b rest : List ℕ) (ts us : List Token) → Cuts (a ++ (b ++ rest)) ts (b ++ rest) → Cuts (b ++ rest) us rest → Cuts ((a ++ b) ++ rest) (ts ++ us) rest
joined a b rest ts us p q = rw append_assoc (cuts_join (a ++ (b ++ rest)) (b ++ rest) rest ts us p q)

pub sign_free : (a : List ℕ) (ts : List Token) → IsSign a ts → IsFree a ts
sign_free a ts p = record { cuts = p.cuts }

pub free_piece : (a : List ℕ) (ts : List Token) → IsFree a ts → IsPiece a ts
free_piece a ts p = record { cuts = λ rest h. p.cuts rest }

pub piece_sign : {a b : List ℕ} {ts us : List Token} → IsPiece a ts → IsSign b us → IsFree (a ++ b) (ts ++ us)
piece_sign {a} {b} {ts} {us} p q = record { cuts = λ rest. joined a b rest ts us (p.cuts (b ++ rest) (q.stops rest)) (q.cuts rest) }

pub free_then : {a b : List ℕ} {ts us : List Token} → IsFree a ts → IsPiece b us → IsPiece (a ++ b) (ts ++ us)
free_then {a} {b} {ts} {us} p q = record { cuts = λ rest h. joined a b rest ts us (p.cuts (b ++ rest)) (q.cuts rest h) }

pub sign_sign : {a b : List ℕ} {ts us : List Token} → IsSign a ts → IsSign b us → IsSign (a ++ b) (ts ++ us)
sign_sign {a} {b} {ts} {us} p q = record {
  stops = λ rest. rw append_assoc (p.stops (b ++ rest));
  cuts = λ rest. joined a b rest ts us (p.cuts (b ++ rest)) (q.cuts rest);
}

pub piece_tail : {a b : List ℕ} {ts us : List Token} → IsPiece a ts → IsTail b us → IsPiece (a ++ b) (ts ++ us)
piece_tail {a} {b} {ts} {us} p q = record { cuts = λ rest h. joined a b rest ts us (p.cuts (b ++ rest) (q.stops rest h)) (q.cuts rest h) }

pub sign_piece : {a b : List ℕ} {ts us : List Token} → IsSign a ts → IsPiece b us → IsTail (a ++ b) (ts ++ us)
sign_piece {a} {b} {ts} {us} p q = record {
  stops = λ rest h. rw append_assoc (p.stops (b ++ rest));
  cuts = λ rest h. joined a b rest ts us (p.cuts (b ++ rest)) (q.cuts rest h);
}

pub tail_tail : {a b : List ℕ} {ts us : List Token} → IsTail a ts → IsTail b us → IsTail (a ++ b) (ts ++ us)
tail_tail {a} {b} {ts} {us} p q = record {
  stops = λ rest h. rw append_assoc (p.stops (b ++ rest) (q.stops rest h));
  cuts = λ rest h. joined a b rest ts us (p.cuts (b ++ rest) (q.stops rest h)) (q.cuts rest h);
}

pub no_tail : IsTail [] []
no_tail = record { stops = λ rest h. h; cuts = λ rest h. refl }

pub free_free : {a b : List ℕ} {ts us : List Token} → IsFree a ts → IsFree b us → IsFree (a ++ b) (ts ++ us)
free_free {a} {b} {ts} {us} p q = record { cuts = λ rest. joined a b rest ts us (p.cuts (b ++ rest)) (q.cuts rest) }

pub sign_then : {a b : List ℕ} {ts us : List Token} → IsSign a ts → IsFree b us → IsSign (a ++ b) (ts ++ us)
sign_then {a} {b} {ts} {us} p q = record {
  stops = λ rest. rw append_assoc (p.stops (b ++ rest));
  cuts = λ rest. joined a b rest ts us (p.cuts (b ++ rest)) (q.cuts rest);
}

pub nothing : IsFree [] []
nothing = record { cuts = λ rest. refl }
