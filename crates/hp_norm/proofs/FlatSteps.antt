-- Flat clauses and lines of clauses, one after the other.
use Rattle.std.proofs.Common.{◌≡◌, ◌≤◌, ℕ, suc, ◌+◌, List, [], ◌∷◌, ◌++◌, Bool, false, length, drop, Result, Ok, Err, refl, sym, ap, subst, ◌∙◌, add-one, append-nil, append_assoc, arith}
use Rattle.std.specs.Prelude.{nat_lt, if◌then◌else◌}
use Rattle.std.specs.Result.{IsErrAnd}
use Rattle.hp_num.specs.Wide.{◌>>=◌}
use Rattle.hp_tree.specs.Limits.{most_names}
use Rattle.hp_tree.specs.declared.limit.Limit.{Limit as Which}
use Rattle.hp_tree.specs.declared.problem.Clause.{Clause}
use Rattle.hp_tree.specs.declared.problem.Decl.{Decl}
use Rattle.hp_tree.specs.declared.problem.Problem.{Problem}
use Rattle.hp_lit.specs.declared.refusal.GroundErr.{GroundErr}
use Rattle.hp_lit.specs.declared.refusal.GroundErr.TheVariants.{Limit, Memory}
use Rattle.hp_lit.specs.Limited.{many_names}
use Rattle.hp_defs.specs.declared.names.Ground.{Ground}
use Rattle.hp_base.specs.Making.{Begins, Maker, Makes, ◌then◌, keep}
use Rattle.hp_base.proofs.Making.{begins_same, begins_trans, makes_same_err}
use Rattle.hp_base.proofs.Each.{behind}
use Rattle.hp_norm.specs.declared.flat.Flat.{Flat}
use Rattle.hp_norm.specs.declared.flat.FlatClause.{FlatClause}
use Rattle.hp_norm.specs.Answers.{FlatFound, MakesMore}
use Rattle.hp_norm.specs.Flat.{clause_made, clauses_made, flat_of, has_variables}
use Rattle.hp_norm.specs.Lines.{constants_of, declared_ground}

behind_behind : {A : Type 0} (all more : List A) (r : Result (List A × Ground) Which) → behind all (behind more r) ≡ behind (all ++ more) r
behind_behind {A} all more (Ok x) = ap (λ (xs : List A). ◌then◌ {A = List A} (Ok (xs, x.1)) (λ zs. λ end. Ok (zs, end))) (sym (append_assoc all more x.0))
behind_behind all more (Err e) = refl

behind_nothing : {A : Type 0} (r : Result (List A × Ground) Which) → r ≡ behind [] r
behind_nothing (Ok x) = refl
behind_nothing (Err e) = refl

-- a loop over clauses at the place `i`, behind so many items, with these flat clauses made
pub record IsFlattened (before : ℕ) (clauses : List Clause) (i : ℕ) (flats : List FlatClause) (old now : Ground) : Type 0 where
  pub rest : clauses_made before 1 clauses old ≡ behind flats (clauses_made before (i + 1) (drop i clauses) now)
  pub kept : Begins old now

module _ (before : ℕ) (clauses : List Clause) where
  pub flattened_start : (flats : List FlatClause) (g : Ground) → flats ≡ [] → IsFlattened before clauses 0 flats g g
  flattened_start flats g e = record {
    rest = behind_nothing (clauses_made before 1 clauses g) ∙ ap (λ (fs : List FlatClause). behind fs (clauses_made before 1 clauses g)) (sym e);
    kept = begins_same g;
  }

  -- the next clause is `clause`
  module _ (i : ℕ) (clause : Clause) (is : drop i clauses ≡ clause ∷ drop (suc i) clauses) (flats : List FlatClause) (old now : Ground) (so_far : IsFlattened before clauses i flats old now) where
    abbrev maker : Maker (List FlatClause)
    maker = clause_made (before + (i + 1)) (i + 1) (has_variables clause) clause

    abbrev others : List FlatClause → Maker (List FlatClause)
    others more mid = clauses_made before (i + 1 + 1) (drop (suc i) clauses) mid then λ last. keep (more ++ last)

    first : (r : Result (List FlatClause × Ground) Which) → maker now ≡ r → clauses_made before 1 clauses old ≡ behind flats (r then others)
    first r e =
        so_far.rest ∙ ap (λ (cs : List Clause). behind flats (clauses_made before (i + 1) cs now)) is
        ∙ ap (λ (q : Result (List FlatClause × Ground) Which). behind flats (q then others)) e

    pub flattened_more : (next : Ground) (longer : List FlatClause) (done : Unit {0}) → MakesMore maker now next flats longer (Ok done) → Begins now next → IsFlattened before clauses (i + 1) longer old next
    flattened_more next longer done h b = record {
      rest = first (Ok (h.0, next)) h.1 ∙ behind_behind flats h.0 (clauses_made before (i + 1 + 1) (drop (suc i) clauses) next)
          ∙ (λ j. behind (sym h.2 j) (clauses_made before (i + 1 + 1) (drop (sym (add-one i) j) clauses) next));
      kept = begins_trans old now next so_far.kept b;
    }

    stops : (next : Ground) (longer : List FlatClause) (e : GroundErr) → MakesMore maker now next flats longer (Err e) → Makes (clauses_made before 1 clauses) old next (Err e)
    stops next longer (Limit l) h = first (Err l) h
    stops next longer Memory h = tt

    pub flattened_err : (next : Ground) (longer : List FlatClause) (e : GroundErr) (r : Result (List FlatClause) GroundErr) → MakesMore maker now next flats longer (Err e) → IsErrAnd r (λ x. x ≡ e)
        → Makes (clauses_made before 1 clauses) old next r
    flattened_err next longer e r h s = makes_same_err (clauses_made before 1 clauses) old next r e s (stops next longer e h)

-- ---- a clause
-- the call that made it, from its maker
pub more_flat : (m : Maker FlatClause) (old new : Ground) (flats longer : List FlatClause) (flat : FlatClause) → m old ≡ Ok (flat, new) → longer ≡ flats ++ flat ∷ []
    → MakesMore (λ g. m g then λ f. keep (f ∷ [])) old new flats longer (Ok tt)
more_flat m old new flats longer flat e is = (flat ∷ [], ap (λ (r : Result (FlatClause × Ground) Which). ◌then◌ {A = FlatClause} r (λ f. keep (f ∷ []))) e, is)

stops_flat : (m : Maker FlatClause) (old new : Ground) (flats longer : List FlatClause) (e : GroundErr) → Makes m old new (Err e) → MakesMore (λ g. m g then λ f. keep (f ∷ [])) old new flats longer (Err e)
stops_flat m old new flats longer (Limit l) h = ap (λ (r : Result (FlatClause × Ground) Which). ◌then◌ {A = FlatClause} r (λ f. keep (f ∷ []))) h
stops_flat m old new flats longer Memory h = tt

pub no_flat : (m : Maker FlatClause) (old new : Ground) (flats longer : List FlatClause) (e : GroundErr) (r : Result (Unit {0}) GroundErr) → Makes m old new (Err e) → IsErrAnd r (λ x. x ≡ e)
    → MakesMore (λ g. m g then λ f. keep (f ∷ [])) old new flats longer r
no_flat m old new flats longer e (Ok d) h s = absurd s
no_flat m old new flats longer e (Err x) h s = subst (λ y. MakesMore (λ g. m g then λ f. keep (f ∷ [])) old new flats longer (Err y)) (sym s) (stops_flat m old new flats longer e h)

-- a line adds no flat clause
pub more_line : (m : Maker (Unit {0})) (old new : Ground) (flats longer : List FlatClause) (r : Result (Unit {0}) GroundErr) → longer ≡ flats → Makes m old new r
    → MakesMore (λ g. m g then λ done. keep []) old new flats longer r
more_line m old new flats longer (Ok done) is h = ([], ap (λ (q : Result (Unit {0} × Ground) Which). ◌then◌ {A = Unit {0}} {B = List FlatClause} q (λ d. keep [])) h, is ∙ sym (append-nil flats))
more_line m old new flats longer (Err (Limit l)) is h = ap (λ (q : Result (Unit {0} × Ground) Which). ◌then◌ {A = Unit {0}} {B = List FlatClause} q (λ d. keep [])) h
more_line m old new flats longer (Err Memory) is h = tt

-- ---- a problem
not_lesser : (m n : ℕ) → n ≤ m → nat_lt m n ≡ false
not_lesser m n h = grind (arith, h)

-- names that may be so many, and what the clauses add to them
pub after_names : (p : Problem) → length (constants_of p.decls) ≤ most_names → flat_of p ≡ clauses_made (length p.decls) 1 p.clauses (declared_ground p.decls)
after_names p h =
    ap (λ b. (if b then Err many_names else Ok (declared_ground p.decls)) >>= λ g. clauses_made (length p.decls) 1 p.clauses g) (not_lesser most_names (length (constants_of p.decls)) h)

-- what the clauses of a problem give is what the problem has
module _ (p : Problem) (decls : List Decl) (clauses : List Clause) (old new : Ground) (ds : decls ≡ p.decls) (cs : clauses ≡ p.clauses) (is : old ≡ declared_ground decls)
    (few : length (constants_of decls) ≤ most_names) where
  same : flat_of p ≡ clauses_made (length decls) 1 clauses old
  same =
      after_names p (subst (λ xs. length (constants_of xs) ≤ most_names) ds few)
      ∙ (λ i. clauses_made (length (sym ds i)) 1 (sym cs i) (sym (is ∙ ap declared_ground ds) i))

  pub flats_found : (flats : List FlatClause) → clauses_made (length decls) 1 clauses old ≡ Ok (flats, new) → flat_of p ≡ Ok (flats, new)
  flats_found flats e = same ∙ e

  found_err : (e : GroundErr) → Makes (clauses_made (length decls) 1 clauses) old new (Err e) → FlatFound p (Err e)
  found_err (Limit l) h = same ∙ h
  found_err Memory h = tt

  pub flats_refused : (e : GroundErr) (r : Result Flat GroundErr) → Makes (clauses_made (length decls) 1 clauses) old new (Err e) → IsErrAnd r (λ x. x ≡ e) → FlatFound p r
  flats_refused e (Ok f) h s = absurd s
  flats_refused e (Err x) h s = subst (λ y. FlatFound p (Err y)) (sym s) (found_err e h)

-- ---- with variables or without
-- what a clause with variables makes, and one without
pub with_test : (item number : ℕ) (clause : Clause) (test which : Bool) (old new : Ground) (flats longer : List FlatClause) (r : Result (Unit {0}) GroundErr)
    → test ≡ has_variables clause → test ≡ which → MakesMore (clause_made item number which clause) old new flats longer r → MakesMore (clause_made item number (has_variables clause) clause) old new flats longer r
with_test item number clause test which old new flats longer r e is h = subst (λ b. MakesMore (clause_made item number b clause) old new flats longer r) (sym is ∙ e) h
