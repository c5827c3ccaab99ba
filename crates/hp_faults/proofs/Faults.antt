-- Each fault of a text is one that the text stops with, so there is one.
use Rattle.std.proofs.Common.{◌≡◌, ◌≢◌, ℕ, List, [], ◌∷◌, ◌++◌, Option, Some, None, Ok, refl, sym, ap, subst, ◌∙◌, inl, inr, arith}
use Rattle.hp_text.specs.Placed.{IsPlaced}
use Rattle.hp_text.proofs.Fronts.{next_placed}
use Rattle.hp_text.proofs.Lexing.{passes_within}
use Rattle.hp_grammar.specs.declared.fault.ReadErr.{ReadErr}
use Rattle.hp_grammar.specs.declared.fault.ReadErr.TheVariants.{Syntax, LongNumeral, Deep, Memory}
use Rattle.hp_grammar.specs.declared.counts.Counts.{Counts}
use Rattle.hp_grammar.specs.declared.symbol.Symbol.{Symbol as Token}
use Rattle.hp_grammar.specs.Counts.{counted}
use Rattle.hp_grammar.specs.Faults.{Begins, IsWithin}
use Rattle.hp_grammar.specs.Problems.{SpellsProblem}
use Rattle.hp_grammar.specs.Symbols.{symbol_of, symbols}
use Rattle.hp_grammar.specs.Spells.{IsMisplaced, IsNoToken, IsUnfinished, IsPastLimit, IsFault}
use Rattle.hp_faults.specs.Laws.{OneFault}
use Rattle.hp_faults.proofs.Fronts.{parts, Opens, front_opens}
use Rattle.hp_faults.proofs.Stops.{Cause, Stops, one_stop}

opens : (u : List Token) → Begins SpellsProblem u → Opens u
opens u b = (b.0, b.1, b.3)

misplaced_stops : (bytes : List ℕ) (o : ℕ) → IsMisplaced bytes o → Stops bytes (Syntax o)
misplaced_stops bytes o m =
    let p = parts bytes 0 m.place m.before m.token m.passes in
    record {
      before = m.before;
      place = p.place;
      passes = p.passes;
      opens = opens (symbols bytes m.before) m.refused.begins;
      within = m.refused.within;
      cause = subst (λ z. Cause bytes m.before z (Syntax o)) (sym p.next) (inl (λ k h. m.refused.refused h.0 h.1 h.2, ap Syntax (sym m.at)));
    }

no_token_stops : (bytes : List ℕ) (e : ReadErr) → IsNoToken bytes e → Stops bytes e
no_token_stops bytes e m = record {
  before = m.before;
  place = m.place;
  passes = m.passes;
  opens = opens (symbols bytes m.before) m.begins;
  within = m.within;
  cause = elim m.next [
    | inl k ↦ subst (λ z. Cause bytes m.before z e) (sym k.2) k.1
    | inr k ↦ subst (λ z. Cause bytes m.before z e) (sym k.2) k.1
  ];
}

unfinished_stops : (bytes : List ℕ) (o : ℕ) → IsUnfinished bytes o → Stops bytes (Syntax o)
unfinished_stops bytes o m =
    let reached = passes_within bytes 0 m.lexes.place m.tokens (omega arith) m.lexes.passes in
    let placed : IsPlaced bytes m.lexes.place m.last = next_placed bytes m.lexes.place (Ok m.last) reached.1 (sym m.lexes.next) in
    let at : o ≡ m.last.start = sym m.at ∙ sym (placed.last m.lexes.is_last).0 in
    record {
      before = m.tokens;
      place = m.lexes.place;
      passes = m.lexes.passes;
      opens = opens (symbols bytes m.tokens) m.early.begins;
      within = m.early.within;
      cause = subst (λ z. Cause bytes m.tokens z (Syntax o)) (sym m.lexes.next) (inl (λ k. absurd (k m.lexes.is_last), ap Syntax at));
    }

none_within : (u : List Token) → counted u ≡ None → IsWithin u → ⊥
none_within u e w = let both : ◌≡◌ {A = Option Counts} (Some w.0) None = sym w.1 ∙ e in cc

past_limit_stops : (bytes : List ℕ) (o : ℕ) → IsPastLimit bytes o → Stops bytes (Deep o)
past_limit_stops bytes o m =
    let p = parts bytes 0 m.place m.before m.token m.passes in
    let all = symbols bytes m.before ++ symbol_of bytes m.token ∷ [] in
    record {
      before = m.before;
      place = p.place;
      passes = p.passes;
      opens = front_opens (symbols bytes m.before) (symbol_of bytes m.token ∷ []) (opens all m.deep.begins);
      within = m.deep.within;
      cause = subst (λ z. Cause bytes m.before z (Deep o)) (sym p.next) (inr (p.some, opens all m.deep.begins, none_within all m.deep.passed, ap Deep (sym m.at)));
    }

fault_stops : (bytes : List ℕ) (e : ReadErr) → IsFault bytes e → e ≢ Memory → Stops bytes e
fault_stops bytes (Syntax o) (inl m) n = misplaced_stops bytes o m
fault_stops bytes (Syntax o) (inr (inl m)) n = no_token_stops bytes (Syntax o) m
fault_stops bytes (Syntax o) (inr (inr m)) n = unfinished_stops bytes o m
fault_stops bytes (LongNumeral o) m n = no_token_stops bytes (LongNumeral o) m
fault_stops bytes (Deep o) m n = past_limit_stops bytes o m
fault_stops bytes Memory m n = absurd (n refl)

pub one_fault : OneFault
one_fault bytes e f m n k l = one_stop bytes e f (fault_stops bytes e m k) (fault_stops bytes f n l)
