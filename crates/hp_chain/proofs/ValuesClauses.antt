-- Clauses hold in a structure where flat clauses hold and the lines of clauses without variables are true.
use Rattle.std.proofs.Common.{◌≡◌, ◌↔◌, ℕ, Bool, true, false, not, IsTrue, List, [], ◌∷◌, sym, subst}
use Rattle.std.specs.List.{All, AllZip}
use Rattle.std.proofs.lemmas.List.Elements.{All-cons, All-contains, All-head, All-nil, All-tail}
use Rattle.hp_math.specs.Rational.{ℚ}
use Rattle.hp_tree.specs.declared.problem.Clause.{Clause}
use Rattle.hp_tree.specs.declared.problem.Problem.{Problem}
use Rattle.hp_tree.specs.declared.problem.Var.{Var}
use Rattle.hp_tree.specs.Universal.{AreSorted, HoldsAll, clause_at, universal}
use Rattle.hp_tree.specs.Value.{Environment, Functions}
use Rattle.hp_lit.specs.Sorts.{HaveSorts}
use Rattle.hp_lit.specs.Truth.{Values}
use Rattle.hp_local.proofs.Lists.{All-by}
use Rattle.hp_defs.specs.declared.names.Ground.{Ground}
use Rattle.hp_defs.specs.Names.{sorts}
use Rattle.hp_norm.specs.declared.flat.FlatClause.{FlatClause}
use Rattle.hp_norm.specs.Flat.{IsFlatOf, IsFlattenable, IsFlattened, chosen, has_variables, universal_of, with_variables, without_variables}
use Rattle.hp_norm.specs.Laws.{AgreeOnConstants}
use Rattle.hp_norm.specs.Sound.{AreTrue, AreValues, IsLater}
use Rattle.hp_norm.proofs.ConstantsAlone.{clauses_need_constants_alone}
use Rattle.hp_norm.proofs.HoldsAtOnce.{clauses_hold_at_once}

-- what holds of the clauses with variables and of those without holds of all
all_chosen : (P : Clause → Type 0) (clauses : List Clause) → All P (with_variables clauses) → All P (without_variables clauses) → All P clauses
all_chosen P [] a b = All-nil P
all_chosen P (clause ∷ clauses) a b = by (all_chosen P clauses) (has_variables clause) a b
  where
    by : (All P (with_variables clauses) → All P (without_variables clauses) → All P clauses) → (t : Bool)
        → All P (chosen t clause (with_variables clauses)) → All P (chosen (not t) clause (without_variables clauses)) → All P (clause ∷ clauses)
    by rest true a b = All-cons P clause clauses (All-head P clause (with_variables clauses) a) (rest (All-tail P clause (with_variables clauses) a) b)
    by rest false a b = All-cons P clause clauses (All-head P clause (without_variables clauses) b) (rest a (All-tail P clause (without_variables clauses) b))

module _ (size : ℕ) (base end : Ground) (v : Values) (env : Environment) (functions : Functions) (later : IsLater base end) (values : AreValues end v env functions) where
  abbrev FlatHolds : FlatClause → Type 0
  FlatHolds c = HoldsAll size env functions (universal_of c)

  abbrev ClauseHolds : Clause → Type 0
  ClauseHolds clause = HoldsAll size env functions (universal clause)

  -- a clause holds where its flat clause does
  one_holds : (clause : Clause) (c : FlatClause) → IsFlatOf base clause c → FlatHolds c → ClauseHolds clause
  one_holds clause c is holds xs sorted =
      subst IsTrue (is.says end v env functions xs later values) (holds xs (subst (λ (vars : List Var). AreSorted size vars xs) (sym is.vars) sorted))

  pub flats_hold : (clauses : List Clause) (flats : List FlatClause) → AllZip (IsFlatOf base) clauses flats → All FlatHolds flats → All ClauseHolds clauses
  flats_hold [] [] are hold = All-nil ClauseHolds
  flats_hold [] (c ∷ flats) are hold = absurd are
  flats_hold (clause ∷ clauses) [] are hold = absurd are
  flats_hold (clause ∷ clauses) (c ∷ flats) are hold =
      All-cons ClauseHolds clause clauses (one_holds clause c are.0 (All-head FlatHolds c flats hold)) (flats_hold clauses flats are.1 (All-tail FlatHolds c flats hold))

  -- all clauses hold, where the constants have these values
  pub clauses_hold : (p : Problem) (flats : List FlatClause) (consts : Environment) → IsFlattenable p → IsFlattened p flats base
      → HaveSorts (sorts end.names) v → AreTrue v base.lines → All FlatHolds flats → AgreeOnConstants p env consts → All (λ clause. HoldsAll size consts functions (universal clause)) p.clauses
  clauses_hold p flats consts able is sorted lines hold agree =
      let IsTrueAt = λ (clause : Clause). clause_at env functions (universal clause) [] ≡ true in
      let HoldsWhereTrue = λ (clause : Clause). ClauseHolds clause ↔ IsTrueAt clause in
      let true_lines = (is.lines end v env functions later values sorted).0 lines in
      let once = clauses_hold_at_once p size env functions in
      let without = All-by ClauseHolds (without_variables p.clauses) (λ clause m.
      (All-contains HoldsWhereTrue (without_variables p.clauses) clause once m).1 (All-contains IsTrueAt (without_variables p.clauses) clause true_lines m)) in
      let all = all_chosen ClauseHolds p.clauses (flats_hold (with_variables p.clauses) flats is.clauses hold) without in
      let Same = λ (clause : Clause). (n : ℕ) (xs : List ℚ) → AreSorted n clause.vars xs → clause_at env functions (universal clause) xs ≡ clause_at consts functions (universal clause) xs in
      All-by (λ (clause : Clause). HoldsAll size consts functions (universal clause)) p.clauses (λ clause m xs s.
      subst IsTrue (All-contains Same p.clauses clause (clauses_need_constants_alone p env consts functions agree able.sorted) m size xs s) (All-contains ClauseHolds p.clauses clause all m xs s))
