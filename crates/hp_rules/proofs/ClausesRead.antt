-- Clauses are read one after the other.
use Rattle.std.proofs.Common.{◌≡◌, ◌∙◌, ℕ, ◌+◌, ◌<◌, ◌≤◌, List, ◌∷◌, length, drop, get_or, Result, Ok, Err, sym, ap, subst}
use Rattle.std.specs.Result.{IsErrAnd}
use Rattle.std.proofs.lemmas.List.{drop_all, drop_more}
use Rattle.hp_num.specs.Wide.{◌>>=◌}
use Rattle.hp_defs.specs.Names.{NameList}
use Rattle.hp_norm.specs.declared.flat.FlatClause.{FlatClause}
use Rattle.hp_rules.specs.declared.ruled.Ruled.{Ruled}
use Rattle.hp_rules.specs.declared.ruled.RuleErr.{RuleErr}
use Rattle.hp_rules.specs.declared.ruled.RuleErr.TheVariants as refusal
use Rattle.hp_rules.specs.Answers.{RuledAs, RuledTo}
use Rattle.hp_rules.specs.Rules.{monotone_places, nothing_ruled, read_clause, read_clauses, rules}

-- those from a place on are still to be read
pub record IsBehind (names : NameList) (clauses : List FlatClause) (i : ℕ) (ruled : Ruled) : Type 0 where
  pub rest : rules names clauses ≡ read_clauses names (monotone_places names clauses) ruled (drop i clauses)

pub behind_start : (names : NameList) (clauses : List FlatClause) (ruled : Ruled) → ruled ≡ nothing_ruled → IsBehind names clauses 0 ruled
behind_start names clauses ruled e = record { rest = ap (λ (r : Ruled). read_clauses names (monotone_places names clauses) r clauses) (sym e) }

module _ (names : NameList) (clauses : List FlatClause) (i : ℕ) (old new : Ruled) (c : FlatClause) (places : List ℕ) (less : i < length clauses) (at : c ≡ get_or clauses i c)
    (are : places ≡ monotone_places names clauses) (b : IsBehind names clauses i old) where
  next : rules names clauses ≡ (read_clause names places old c >>= λ now. read_clauses names (monotone_places names clauses) now (drop (i + 1) clauses))
  next =
      b.rest
      ∙ ap (read_clauses names (monotone_places names clauses) old) (drop_more clauses i c less ∙ ap (λ (d : FlatClause). d ∷ drop (i + 1) clauses) (sym at))
      ∙ ap (λ (ps : List ℕ). read_clause names ps old c >>= λ now. read_clauses names (monotone_places names clauses) now (drop (i + 1) clauses)) (sym are)

  pub behind_more : read_clause names places old c ≡ Ok new → IsBehind names clauses (i + 1) new
  behind_more e = record { rest = next ∙ ap (λ (r : Result Ruled RuleErr). r >>= λ now. read_clauses names (monotone_places names clauses) now (drop (i + 1) clauses)) e }

  stops : (e : RuleErr) → read_clause names places old c ≡ Err e → rules names clauses ≡ Err e
  stops e h = next ∙ ap (λ (r : Result Ruled RuleErr). r >>= λ now. read_clauses names (monotone_places names clauses) now (drop (i + 1) clauses)) h

  refused_as : (e : RuleErr) → RuledTo (read_clause names places old c) new (Err e) → RuledAs names clauses (Err e)
  refused_as (refusal.Outside o) h = stops (refusal.Outside o) h
  refused_as (refusal.Limit l) h = stops (refusal.Limit l) h
  refused_as refusal.Memory h = tt

  -- the answer is that of the first clause that isn't taken
  pub behind_refused : (e : RuleErr) (r : Result Ruled RuleErr) → RuledTo (read_clause names places old c) new (Err e) → IsErrAnd r (λ x. x ≡ e) → RuledAs names clauses r
  behind_refused e (Ok ruled) h k = absurd k
  behind_refused e (Err x) h k = subst (λ (y : RuleErr). RuledAs names clauses (Err y)) (sym k) (refused_as e h)

pub behind_end : (names : NameList) (clauses : List FlatClause) (i : ℕ) (ruled : Ruled) → length clauses ≤ i → IsBehind names clauses i ruled → rules names clauses ≡ Ok ruled
behind_end names clauses i ruled l b = b.rest ∙ ap (read_clauses names (monotone_places names clauses) ruled) (drop_all i clauses l)
