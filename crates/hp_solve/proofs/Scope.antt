-- A problem with a ground set is in scope.
use Rattle.std.proofs.Common.{◌≡◌, false}
use Rattle.hp_tree.specs.declared.problem.Problem.{Problem}
use Rattle.hp_defs.specs.declared.names.Ground.{Ground}
use Rattle.hp_chain.specs.Ground.{IsGroundOf}
use Rattle.hp_waiting.specs.Waiting.{is_waiting}
use Rattle.hp_solve.specs.Solved.{IsInScope}

pub scope_of : (p : Problem) (g : Ground) → is_waiting p ≡ false → IsGroundOf p g → IsInScope p
scope_of p g built is = record { sorted = is.able.sorted; built = built; within = g; is = is }
