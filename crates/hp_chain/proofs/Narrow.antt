-- Flat clauses have few variables, where no limit of a text is passed.
use Rattle.std.proofs.Common.{◌≡◌, ◌≤◌, Bool, true, false, cond, nat_lt, List, [], ◌∷◌, length, Some, None, refl, sym, subst}
use Rattle.std.specs.List.{All, AllZip, list_any}
use Rattle.std.proofs.lemmas.Bool.{ltb-false, or_parts}
use Rattle.std.proofs.lemmas.List.Elements.{All-cons, All-head, All-nil, All-tail}
use Rattle.hp_tree.specs.declared.limit.Limit.{Limit}
use Rattle.hp_tree.specs.declared.limit.Which.TheVariants.{Arguments, Clauses, Variables}
use Rattle.hp_tree.specs.declared.problem.Clause.{Clause}
use Rattle.hp_tree.specs.declared.problem.Problem.{Problem}
use Rattle.hp_tree.specs.declared.problem.Var.{Var}
use Rattle.hp_tree.specs.Limits.{most_arguments, most_clauses, most_variables}
use Rattle.hp_sorts.specs.Limits.{has_many_arguments, has_many_variables, limit, passed}
use Rattle.hp_defs.specs.declared.names.Ground.{Ground}
use Rattle.hp_norm.specs.declared.flat.FlatClause.{FlatClause}
use Rattle.hp_norm.specs.Flat.{IsFlatOf}
use Rattle.hp_ruled.specs.Laws.{HasFewVariables}

second : (a b c : Bool) (x y z : Limit) → cond a (Some x) (cond b (Some y) (cond c (Some z) None)) ≡ None → b ≡ false
second true b c x y z e = absurd (cc)
second false true c x y z e = absurd (cc)
second false false c x y z e = refl

pub few_variables_of : (p : Problem) → passed p ≡ None → list_any has_many_variables p.clauses ≡ false
few_variables_of p h =
    second (nat_lt most_clauses (length p.clauses)) (list_any has_many_variables p.clauses) (list_any has_many_arguments p.decls)
    (limit Clauses most_clauses) (limit Variables most_variables) (limit Arguments most_arguments) h

abbrev pub HasFewVariablesToo : Clause → Type 0
HasFewVariablesToo clause = length clause.vars ≤ most_variables

pub narrow_clauses : (clauses : List Clause) → list_any has_many_variables clauses ≡ false → All HasFewVariablesToo clauses
narrow_clauses [] h = All-nil HasFewVariablesToo
narrow_clauses (clause ∷ clauses) h =
    let parts = or_parts (nat_lt most_variables (length clause.vars)) (list_any has_many_variables clauses) h in
    All-cons HasFewVariablesToo clause clauses (ltb-false most_variables (length clause.vars) parts.0) (narrow_clauses clauses parts.1)

pub narrow_flats : (base : Ground) (clauses : List Clause) (flats : List FlatClause) → AllZip (IsFlatOf base) clauses flats → All HasFewVariablesToo clauses → All HasFewVariables flats
narrow_flats base [] [] are few = All-nil HasFewVariables
narrow_flats base [] (c ∷ flats) are few = absurd are
narrow_flats base (clause ∷ clauses) [] are few = absurd are
narrow_flats base (clause ∷ clauses) (c ∷ flats) are few =
    All-cons HasFewVariables c flats (subst (λ (vars : List Var). length vars ≤ most_variables) (sym are.0.vars) (All-head HasFewVariablesToo clause clauses few))
    (narrow_flats base clauses flats are.1 (All-tail HasFewVariablesToo clause clauses few))
