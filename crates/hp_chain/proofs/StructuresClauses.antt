-- Where a structure satisfies a problem, its flat clauses hold at values of all names, and the lines of its clauses without variables
-- are true.
use Rattle.std.proofs.Common.{◌≡◌, ◌↔◌, ℕ, Bool, true, false, not, IsTrue, List, [], ◌∷◌, sym, subst}
use Rattle.std.specs.List.{All, AllZip}
use Rattle.std.proofs.lemmas.List.Elements.{All-cons, All-contains, All-head, All-nil, All-tail}
use Rattle.hp_math.specs.Rational.{ℚ}
use Rattle.hp_tree.specs.declared.problem.Clause.{Clause}
use Rattle.hp_tree.specs.declared.problem.Problem.{Problem}
use Rattle.hp_tree.specs.declared.problem.Var.{Var}
use Rattle.hp_tree.specs.Universal.{AreSorted, HoldsAll, clause_at, universal}
use Rattle.hp_tree.specs.Value.{Environment, Functions}
use Rattle.hp_lit.specs.Sorts.{HaveSorts}
use Rattle.hp_lit.specs.Truth.{Values}
use Rattle.hp_local.proofs.Lists.{All-by}
use Rattle.hp_defs.specs.declared.names.Ground.{Ground}
use Rattle.hp_defs.specs.Names.{sorts}
use Rattle.hp_norm.specs.declared.flat.FlatClause.{FlatClause}
use Rattle.hp_norm.specs.Flat.{IsFlatOf, IsFlattenable, IsFlattened, chosen, has_variables, universal_of, with_variables, without_variables}
use Rattle.hp_norm.specs.Laws.{AgreeOnConstants, ClausesHoldAtOnce, ClausesNeedConstantsAlone}
use Rattle.hp_norm.specs.Sound.{AreTrue, AreValues, IsLater}

-- ---- lists
-- what holds of all clauses holds of those with variables, and of those without
some_chosen : (P : Clause → Type 0) (b : Bool) (clause : Clause) (clauses : List Clause) → P clause → All P clauses → All P (chosen b clause clauses)
some_chosen P true clause clauses here rest = All-cons P clause clauses here rest
some_chosen P false clause clauses here rest = rest

pub all_with : (P : Clause → Type 0) (clauses : List Clause) → All P clauses → All P (with_variables clauses)
all_with P [] all = All-nil P
all_with P (clause ∷ clauses) all = some_chosen P (has_variables clause) clause (with_variables clauses) (All-head P clause clauses all) (all_with P clauses (All-tail P clause clauses all))

all_without : (P : Clause → Type 0) (clauses : List Clause) → All P clauses → All P (without_variables clauses)
all_without P [] all = All-nil P
all_without P (clause ∷ clauses) all =
    some_chosen P (not (has_variables clause)) clause (without_variables clauses) (All-head P clause clauses all) (all_without P clauses (All-tail P clause clauses all))

-- ---- values of all names
module _ (size : ℕ) (base end : Ground) (v : Values) (env : Environment) (functions : Functions) (later : IsLater base end) (values : AreValues end v env functions) where
  abbrev ClauseHolds : Clause → Type 0
  ClauseHolds clause = HoldsAll size env functions (universal clause)

  abbrev FlatHolds : FlatClause → Type 0
  FlatHolds c = HoldsAll size env functions (universal_of c)

  -- a flat clause holds where its clause does
  one_holds : (clause : Clause) (c : FlatClause) → IsFlatOf base clause c → ClauseHolds clause → FlatHolds c
  one_holds clause c is holds xs sorted =
      subst IsTrue (sym (is.says end v env functions xs later values)) (holds xs (subst (λ (vars : List Var). AreSorted size vars xs) is.vars sorted))

  flats_hold : (clauses : List Clause) (flats : List FlatClause) → AllZip (IsFlatOf base) clauses flats → All ClauseHolds clauses → All FlatHolds flats
  flats_hold [] [] are hold = All-nil FlatHolds
  flats_hold [] (c ∷ flats) are hold = absurd are
  flats_hold (clause ∷ clauses) [] are hold = absurd are
  flats_hold (clause ∷ clauses) (c ∷ flats) are hold =
      All-cons FlatHolds c flats (one_holds clause c are.0 (All-head ClauseHolds clause clauses hold)) (flats_hold clauses flats are.1 (All-tail ClauseHolds clause clauses hold))

  module _ (alone : ClausesNeedConstantsAlone) (at_once : ClausesHoldAtOnce) (p : Problem) (flats : List FlatClause) (consts : Environment) (able : IsFlattenable p) (is : IsFlattened p flats base)
      (agree : AgreeOnConstants p env consts) (holds : All (λ clause. HoldsAll size consts functions (universal clause)) p.clauses) where
    -- clauses need the constants alone
    hold_here : All ClauseHolds p.clauses
    hold_here =
        let Same = λ (clause : Clause). (n : ℕ) (xs : List ℚ) → AreSorted n clause.vars xs → clause_at env functions (universal clause) xs ≡ clause_at consts functions (universal clause) xs in
        All-by ClauseHolds p.clauses (λ clause m xs sorted.
        subst IsTrue (sym (All-contains Same p.clauses clause (alone p env consts functions agree able.sorted) m size xs sorted))
        (All-contains (λ (clause : Clause). HoldsAll size consts functions (universal clause)) p.clauses clause holds m xs sorted))

    pub flat_clauses_hold : All FlatHolds flats
    flat_clauses_hold = flats_hold (with_variables p.clauses) flats is.clauses (all_with ClauseHolds p.clauses hold_here)

    pub lines_are_true : HaveSorts (sorts end.names) v → AreTrue v base.lines
    lines_are_true sorted =
        let IsTrueAt = λ (clause : Clause). clause_at env functions (universal clause) [] ≡ true in
        let plain = without_variables p.clauses in
        let hold = all_without ClauseHolds p.clauses hold_here in
        let once = at_once p size env functions in
        (is.lines end v env functions later values sorted).1 (All-by IsTrueAt plain (λ clause m.
        (All-contains (λ (clause : Clause). ClauseHolds clause ↔ IsTrueAt clause) plain clause once m).0 (All-contains ClauseHolds plain clause hold m)))
