-- Bytes spell one problem, or have a fault.
use Rattle.std.proofs.Common.{◌≡◌, ℕ, List, [], ◌∷◌, ◌++◌, Some, None, Result, Ok, Err, IfOk, IfErr, refl, sym, ap, subst, ◌∙◌, ◌⊎◌, inl, inr}
use Rattle.hp_tree.specs.declared.problem.Problem.{Problem}
use Rattle.hp_text.specs.declared.token.Kind.TheVariants as kinds
use Rattle.hp_text.specs.declared.token.Token.{Token as Placed}
use Rattle.hp_text.specs.declared.token.TokenErr.{TokenErr}
use Rattle.hp_text.specs.Tokens.{next_from}
use Rattle.hp_text.specs.Lexes.{Passes}
use Rattle.hp_text.proofs.Lexing.{one_lexing}
use Rattle.hp_grammar.specs.declared.fault.ReadErr.{ReadErr}
use Rattle.hp_grammar.specs.declared.fault.ReadErr.TheVariants.{Syntax, LongNumeral, Deep, Memory}
use Rattle.hp_grammar.specs.declared.counts.Counts.{Counts}
use Rattle.hp_grammar.specs.declared.symbol.Symbol.{Symbol as Token}
use Rattle.hp_grammar.specs.Runs.{◌and_then◌, runs}
use Rattle.hp_grammar.specs.Counts.{count, counted, nothing_counted}
use Rattle.hp_grammar.specs.Problems.{SpellsProblem}
use Rattle.hp_read.specs.Top.{started, top_step, top_end}
use Rattle.hp_grammar.specs.Symbols.{symbol_of, symbols}
use Rattle.hp_grammar.specs.Spells.{Spells, IsMisplaced, IsNoToken, IsUnfinished, IsPastLimit, IsFault}
use Rattle.hp_grammar.proofs.Machines.{bound, one_value}
use Rattle.hp_read.proofs.TopOnly.{problems_read}
use Rattle.hp_grammar.proofs.Symbols.{symbols-append}

-- the tokens of a text begin with those between its beginning and a place
record Follows (bytes : List ℕ) (ts us : List Placed) (from to : ℕ) : Type 0 where
  pub rest : List Placed
  pub all : us ≡ ts ++ rest
  pub passes : Passes bytes from rest to

follow : (bytes : List ℕ) (from a b : ℕ) (ts us : List Placed) (l : Placed) → Passes bytes from ts a → Passes bytes from us b → next_from bytes b ≡ Ok l → l.kind ≡ kinds.End
    → Follows bytes ts us a b
follow bytes from a b [] us l p q e k = record { rest = us; all = refl; passes = subst (λ z. Passes bytes z us b) p q }
follow bytes from a b (t ∷ ts) [] l p q e k =
    let both : ◌≡◌ {A = Result Placed TokenErr} (Ok t) (Ok l) = sym p.0 ∙ (ap (next_from bytes) q ∙ e) in
    let same : t ≡ l = cc in
    absurd (p.1 (ap (λ (x : Placed). x.kind) same ∙ k))
follow bytes from a b (t ∷ ts) (u ∷ us) l p q e k =
    let both : ◌≡◌ {A = Result Placed TokenErr} (Ok t) (Ok u) = sym p.0 ∙ q.0 in
    let same : t ≡ u = cc in
    let f = follow bytes t.end a b ts us l p.2 (subst (λ (x : Placed). Passes bytes x.end us b) (sym same) q.2) e k in
    record { rest = f.rest; all = ap (λ z. z ∷ us) (sym same) ∙ ap (λ z. t ∷ z) f.all; passes = f.passes }

-- a fault among the tokens is none where all of them spell a problem
no_misplaced : (bytes : List ℕ) (p : Problem) (o : ℕ) → Spells bytes p → IsMisplaced bytes o → ⊥
no_misplaced bytes p o s m =
    let f = follow bytes 0 m.place s.lexes.place (m.before ++ m.token ∷ []) s.tokens s.last m.passes s.lexes.passes s.lexes.next s.lexes.is_last in
    let all : symbols bytes s.tokens ≡ (symbols bytes m.before ++ symbol_of bytes m.token ∷ []) ++ symbols bytes f.rest =
    ap (symbols bytes) f.all ∙ (symbols-append bytes (m.before ++ m.token ∷ []) f.rest
    ∙ ap (λ z. z ++ symbols bytes f.rest) (symbols-append bytes m.before (m.token ∷ []))) in
    m.refused.refused (symbols bytes f.rest) p (subst (λ z. SpellsProblem z p) all s.spelled)

-- a run that stops doesn't go on
stops : (u v : List Token) (c d : Counts) → runs count c u ≡ None → runs count c (u ++ v) ≡ Some d → ⊥
stops [] v c d e h = absurd (cc)
stops (k ∷ u) v c d e h =
    let b = bound (count c k) (λ n. runs count n (u ++ v)) d h in
    stops u v b.0 d (sym (ap (λ o. o and_then λ n. runs count n u) b.1) ∙ e) b.2

no_past_limit : (bytes : List ℕ) (p : Problem) (o : ℕ) → Spells bytes p → IsPastLimit bytes o → ⊥
no_past_limit bytes p o s m =
    let f = follow bytes 0 m.place s.lexes.place (m.before ++ m.token ∷ []) s.tokens s.last m.passes s.lexes.passes s.lexes.next s.lexes.is_last in
    let all : symbols bytes s.tokens ≡ (symbols bytes m.before ++ symbol_of bytes m.token ∷ []) ++ symbols bytes f.rest =
    ap (symbols bytes) f.all ∙ (symbols-append bytes (m.before ++ m.token ∷ []) f.rest
    ∙ ap (λ z. z ++ symbols bytes f.rest) (symbols-append bytes m.before (m.token ∷ []))) in
    let end : counted ((symbols bytes m.before ++ symbol_of bytes m.token ∷ []) ++ symbols bytes f.rest) ≡ Some s.within.0 = ap counted (sym all) ∙ s.within.1 in
    stops (symbols bytes m.before ++ symbol_of bytes m.token ∷ []) (symbols bytes f.rest) nothing_counted s.within.0 m.deep.passed end

stands : (bytes : List ℕ) (a b : ℕ) (ts : List Placed) (l : Placed) (e : TokenErr) → Passes bytes a ts b → next_from bytes b ≡ Ok l → next_from bytes a ≡ Err e → ⊥
stands bytes a b [] l e p n m =
    let both : ◌≡◌ {A = Result Placed TokenErr} (Ok l) (Err e) = sym n ∙ (ap (next_from bytes) (sym p) ∙ m) in cc
stands bytes a b (t ∷ ts) l e p n m =
    let both : ◌≡◌ {A = Result Placed TokenErr} (Ok t) (Err e) = sym p.0 ∙ m in cc

-- where no token stands the text is not at its end
no_no_token : (bytes : List ℕ) (p : Problem) (e : ReadErr) → Spells bytes p → IsNoToken bytes e → ⊥
no_no_token bytes p e s m =
    let f = follow bytes 0 m.place s.lexes.place m.before s.tokens s.last m.passes s.lexes.passes s.lexes.next s.lexes.is_last in
    elim m.next [
      | inl k ↦ stands bytes m.place s.lexes.place f.rest s.last _ f.passes s.lexes.next k.2
      | inr k ↦ stands bytes m.place s.lexes.place f.rest s.last _ f.passes s.lexes.next k.2
    ]

no_unfinished : (bytes : List ℕ) (p : Problem) (o : ℕ) → Spells bytes p → IsUnfinished bytes o → ⊥
no_unfinished bytes p o s m =
    let one = (one_lexing bytes).one s.tokens m.tokens (Ok s.last) (Ok m.last) s.lexes m.lexes in
    m.early.unspelled p (subst (λ z. SpellsProblem (symbols bytes z) p) one.0 s.spelled)

-- bytes that spell a problem have no fault
pub no_fault : (bytes : List ℕ) (p : Problem) (e : ReadErr) → Spells bytes p → IsFault bytes e → e ≡ Memory
no_fault bytes p (Syntax o) s (inl m) = absurd (no_misplaced bytes p o s m)
no_fault bytes p (Syntax o) s (inr (inl m)) = absurd (no_no_token bytes p (Syntax o) s m)
no_fault bytes p (Syntax o) s (inr (inr m)) = absurd (no_unfinished bytes p o s m)
no_fault bytes p (LongNumeral o) s m = absurd (no_no_token bytes p (LongNumeral o) s m)
no_fault bytes p (Deep o) s m = absurd (no_past_limit bytes p o s m)
no_fault bytes p Memory s m = refl

-- bytes spell one problem
pub one_problem : (bytes : List ℕ) (p q : Problem) → Spells bytes p → Spells bytes q → p ≡ q
one_problem bytes p q s r =
    let one = (one_lexing bytes).one s.tokens r.tokens (Ok s.last) (Ok r.last) s.lexes r.lexes in
    one_value top_step top_end started SpellsProblem problems_read (symbols bytes r.tokens) p q
    (subst (λ z. SpellsProblem (symbols bytes z) p) one.0 s.spelled) r.spelled

-- what the reader answers where the bytes spell a problem
pub read_only : (bytes : List ℕ) (r : Result Problem ReadErr) → IfOk r (Spells bytes) → IfErr r (IsFault bytes) → (p : Problem) → Spells bytes p
    → (r ≡ Ok p) ⊎ (r ≡ Err Memory)
read_only bytes (Ok q) h k p s = inl (ap (λ z. Ok z) (one_problem bytes q p h s))
read_only bytes (Err e) h k p s = inr (ap (λ z. Err z) (no_fault bytes p e s k))
