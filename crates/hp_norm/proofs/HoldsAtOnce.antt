-- Clauses without variables hold at all values of their variables exactly where they are true at none.
use Rattle.std.proofs.Common.{◌≡◌, ◌↔◌, ℕ, Bool, true, false, not, List, [], ◌∷◌, refl, sym, subst}
use Rattle.std.specs.Prelude.{IsTrue}
use Rattle.std.specs.List.{All}
use Rattle.std.proofs.lemmas.List.Elements.{All-nil, All-cons, All-weaker}
use Rattle.hp_math.specs.Rational.{ℚ}
use Rattle.hp_tree.specs.declared.problem.Var.{Var}
use Rattle.hp_tree.specs.declared.problem.Clause.{Clause}
use Rattle.hp_tree.specs.Value.{Environment, Functions}
use Rattle.hp_tree.specs.Universal.{AreSorted, HoldsAll, clause_at, universal}
use Rattle.hp_norm.specs.Flat.{chosen, has_variables, without_variables}
use Rattle.hp_norm.specs.Laws.{ClausesHoldAtOnce}
use Rattle.hp_norm.proofs.FlatNamed.{none_are}
use Rattle.hp_norm.proofs.LinesNamed.{ClauseHolds}

-- ---- no variables
abbrev HasNone : Clause → Type 0
HasNone clause = clause.vars ≡ []

have_none : (clauses : List Clause) → All HasNone (without_variables clauses)
have_none [] = All-nil HasNone
have_none (clause ∷ clauses) = by (has_variables clause) refl (have_none clauses)
  where
    by : (b : Bool) → has_variables clause ≡ b → All HasNone (without_variables clauses) → All HasNone (chosen (not b) clause (without_variables clauses))
    by true e rest = rest
    by false e rest = All-cons HasNone clause (without_variables clauses) (none_are clause.vars e) rest

no_values : (size : ℕ) (vars : List Var) (values : List ℚ) → vars ≡ [] → AreSorted size vars values → values ≡ []
no_values size [] [] none sorted = refl
no_values size [] (x ∷ xs) none sorted = absurd sorted
no_values size (var ∷ vars) values none sorted = absurd (cc)

-- ---- a clause
module _ (size : ℕ) (env : Environment) (functions : Functions) where
  abbrev HoldsAlways : Clause → Type 0
  HoldsAlways clause = HoldsAll size env functions (universal clause)

  holds_once : (clause : Clause) → clause.vars ≡ [] → HoldsAlways clause → ClauseHolds env functions clause
  holds_once clause none h = h [] (subst (λ (vars : List Var). AreSorted size vars []) (sym none) tt)

  holds_always : (clause : Clause) → clause.vars ≡ [] → ClauseHolds env functions clause → HoldsAlways clause
  holds_always clause none h values sorted = subst (λ (xs : List ℚ). IsTrue (clause_at env functions (universal clause) xs)) (sym (no_values size clause.vars values none sorted)) h

pub clauses_hold_at_once : ClausesHoldAtOnce
clauses_hold_at_once p size env functions =
    All-weaker HasNone (λ (clause : Clause). HoldsAlways size env functions clause ↔ ClauseHolds env functions clause) (λ clause none. (holds_once size env functions clause none, holds_always size env functions clause none))
    (without_variables p.clauses) (have_none p.clauses)
