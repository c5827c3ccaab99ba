-- Clauses without variables hold where their atoms say so.
use Rattle.std.proofs.Common.{◌≡◌, ◌||◌, Bool, not, true, List, [], sym, subst}
use Rattle.hp_math.specs.Rational.{ℚ}
use Rattle.hp_tree.specs.declared.problem.Var.{Var}
use Rattle.hp_model.specs.Value.{constant, functions_of}
use Rattle.hp_tree.specs.Value.{all_true, one_true}
use Rattle.hp_tree.specs.Universal.{AreSorted, assign}
use Rattle.hp_model.specs.Laws.{PlainClausesHold}

pub plain_clauses_hold : PlainClausesHold
plain_clauses_hold s c e =
    let at : List Var → List ℚ → Bool = λ vars values.
    not (all_true (assign vars values (constant s.consts)) (functions_of s) c.guard) || one_true (assign vars values (constant s.consts)) (functions_of s) c.head in (
      λ h. subst (λ (vars : List Var). at vars [] ≡ true) e (h [] (subst (λ (vars : List Var). AreSorted s.universe vars []) (sym e) tt)),
      λ h values sorted. subst (λ (vars : List Var). at vars values ≡ true) (sym e) h,
    )
