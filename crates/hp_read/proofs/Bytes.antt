-- What the reader has come to says what the bytes spell, or what their fault is.
use Rattle.std.proofs.Common.{◌≡◌, ◌≢◌, ℕ, List, [], ◌∷◌, ◌++◌, length, Option, Some, None, Result, Ok, Err, IfErr, refl, sym, ap, subst, ◌∙◌, inl, inr}
use Rattle.std.specs.Result.{IsErrAnd}
use Rattle.hp_tree.specs.declared.problem.Problem.{Problem}
use Rattle.hp_text.specs.declared.token.Kind.TheVariants as kinds
use Rattle.hp_text.specs.declared.token.Token.{Token as Placed}
use Rattle.hp_text.specs.declared.token.TokenErr.{TokenErr}
use Rattle.hp_text.specs.declared.token.TokenErr.TheVariants as faults
use Rattle.hp_text.specs.Tokens.{next_from}
use Rattle.hp_text.specs.Lexes.{Lexes}
use Rattle.hp_text.proofs.Lexing.{passes_more}
use Rattle.hp_grammar.specs.declared.fault.ReadErr.{ReadErr}
use Rattle.hp_grammar.specs.declared.fault.ReadErr.TheVariants.{Syntax, Deep}
use Rattle.hp_grammar.specs.declared.counts.Counts.{Counts}
use Rattle.hp_read.specs.declared.stage.Progress.{Progress}
use Rattle.hp_grammar.specs.declared.symbol.Symbol.{Symbol as Token}
use Rattle.hp_grammar.specs.Runs.{◌and_then◌, runs}
use Rattle.hp_grammar.specs.Counts.{count, nothing_counted}
use Rattle.hp_grammar.specs.Problems.{SpellsProblem}
use Rattle.hp_read.specs.Top.{started, top_step, top_end}
use Rattle.hp_grammar.specs.Symbols.{symbol_of, symbols}
use Rattle.hp_grammar.specs.Spells.{Spells, IsFault}
use Rattle.hp_read.specs.Reading.{IsReading}
use Rattle.hp_grammar.specs.Spells.{fault_of}
use Rattle.hp_grammar.proofs.Symbols.{symbols-append}
use Rattle.hp_grammar.proofs.Machines.{runs_on, runs_one, begins, refused_at, deep_at, early_at}
use Rattle.hp_read.proofs.TopOnly.{problems_read}

pub reading_starts : (bytes : List ℕ) → IsReading bytes 0 started nothing_counted
reading_starts bytes = record { tokens = []; passes = refl; goes = refl; within = refl }

-- a run and one token more of the bytes
one_more : {S : Type 0} (next : S → Token → Option S) (start s n : S) (bytes : List ℕ) (ts : List Placed) (t : Placed) → runs next start (symbols bytes ts) ≡ Some s
    → next s (symbol_of bytes t) ≡ Some n → runs next start (symbols bytes (ts ++ t ∷ [])) ≡ Some n
one_more next start s n bytes ts t h e =
    ap (runs next start) (symbols-append bytes ts (t ∷ []))
    ∙ (runs_on next (symbols bytes ts) (symbol_of bytes t ∷ []) start s h ∙ runs_one next s n (symbol_of bytes t) e)

pub reading_goes : (bytes : List ℕ) (place : ℕ) (s n : Progress) (c d : Counts) (t : Placed) → IsReading bytes place s c → next_from bytes place ≡ Ok t → t.kind ≢ kinds.End
    → top_step s (symbol_of bytes t) ≡ Some n → count c (symbol_of bytes t) ≡ Some d → IsReading bytes t.end n d
reading_goes bytes place s n c d t h e k g f = record {
  tokens = h.tokens ++ t ∷ [];
  passes = passes_more bytes 0 place h.tokens t h.passes e k;
  goes = one_more top_step started s n bytes h.tokens t h.goes g;
  within = one_more count nothing_counted c d bytes h.tokens t h.within f;
}

pub misplaced : (bytes : List ℕ) (place : ℕ) (s : Progress) (c : Counts) (t : Placed) → IsReading bytes place s c → next_from bytes place ≡ Ok t → t.kind ≢ kinds.End
    → top_step s (symbol_of bytes t) ≡ None → IsFault bytes (Syntax t.start)
misplaced bytes place s c t h e k g = inl (record {
  before = h.tokens;
  token = t;
  place = t.end;
  passes = passes_more bytes 0 place h.tokens t h.passes e k;
  refused = refused_at top_step top_end started SpellsProblem problems_read (symbols bytes h.tokens) s c (symbol_of bytes t) h.goes h.within g;
  at = refl;
})

pub past_limit : (bytes : List ℕ) (place : ℕ) (s n : Progress) (c : Counts) (t : Placed) → IsReading bytes place s c → next_from bytes place ≡ Ok t → t.kind ≢ kinds.End
    → top_step s (symbol_of bytes t) ≡ Some n → count c (symbol_of bytes t) ≡ None → IsFault bytes (Deep t.start)
past_limit bytes place s n c t h e k g f = record {
  before = h.tokens;
  token = t;
  place = t.end;
  passes = passes_more bytes 0 place h.tokens t h.passes e k;
  deep = deep_at top_step top_end started SpellsProblem problems_read (symbols bytes h.tokens) s n c (symbol_of bytes t) h.goes h.within g f;
  at = refl;
}

pub no_token : (bytes : List ℕ) (place : ℕ) (s : Progress) (c : Counts) (e : TokenErr) → IsReading bytes place s c → next_from bytes place ≡ Err e → IsFault bytes (fault_of e)
no_token bytes place s c (faults.Stray o) h e = inr (inl (record {
  before = h.tokens;
  place = place;
  passes = h.passes;
  next = inl (o, refl, e);
  within = (c, h.within);
  begins = begins top_step top_end started SpellsProblem problems_read (symbols bytes h.tokens) s h.goes;
}))
no_token bytes place s c (faults.LongNumeral o) h e = record {
  before = h.tokens;
  place = place;
  passes = h.passes;
  next = inr (o, refl, e);
  within = (c, h.within);
  begins = begins top_step top_end started SpellsProblem problems_read (symbols bytes h.tokens) s h.goes;
}

-- the same, where the place and the cause are known by equations
pub no_token_here : {A : Type 0} (bytes seen : List ℕ) (place at : ℕ) (s : Progress) (c : Counts) (e : TokenErr) (r : Result A ReadErr) → IsReading bytes place s c
    → seen ≡ bytes → at ≡ place → ◌≡◌ {A = Result Placed TokenErr} (Err e) (next_from seen at) → IsErrAnd r (λ f. f ≡ fault_of e) → IfErr r (IsFault bytes)
no_token_here bytes seen place at s c e (Ok p) h i j k l = tt
no_token_here bytes seen place at s c e (Err f) h i j k l =
    let next : next_from bytes place ≡ Err e = sym (k ∙ (ap (λ z. next_from z at) i ∙ ap (next_from bytes) j)) in
    subst (IsFault bytes) (sym l) (no_token bytes place s c e h next)

at_end : (bytes : List ℕ) (place : ℕ) (s : Progress) (c : Counts) (t : Placed) → (h : IsReading bytes place s c) → next_from bytes place ≡ Ok t → t.kind ≡ kinds.End
    → Lexes bytes h.tokens (Ok t)
at_end bytes place s c t h e k = record { place = place; passes = h.passes; next = e; is_last = k }

pub unfinished : (bytes : List ℕ) (place : ℕ) (s : Progress) (c : Counts) (t : Placed) → IsReading bytes place s c → next_from bytes place ≡ Ok t → t.kind ≡ kinds.End
    → top_end s ≡ None → IsFault bytes (Syntax (length bytes))
unfinished bytes place s c t h e k g = inr (inr (record {
  tokens = h.tokens;
  last = t;
  lexes = at_end bytes place s c t h e k;
  early = early_at top_step top_end started SpellsProblem problems_read (symbols bytes h.tokens) s c h.goes h.within g;
  at = refl;
}))

pub spelled : (bytes : List ℕ) (place : ℕ) (s : Progress) (c : Counts) (t : Placed) (p : Problem) → IsReading bytes place s c → next_from bytes place ≡ Ok t → t.kind ≡ kinds.End
    → top_end s ≡ Some p → Spells bytes p
spelled bytes place s c t p h e k g = record {
  tokens = h.tokens;
  last = t;
  lexes = at_end bytes place s c t h e k;
  within = (c, h.within);
  spelled = problems_read.found (symbols bytes h.tokens) p (ap (λ o. o and_then top_end) h.goes ∙ g);
}
