use Rattle.hp_descent.proofs.Located.{solution_holds}
use Rattle.hp_unit_tests.proofs.literals.asked_at.Goals as goal

pub value_at-requires-clause-chain : goal.value_at-requires-clause-chain
value_at-requires-clause-chain c =
    let d = rw (c.in-Point.is, c.as_slice-in-Some.ensures) at c.in_ok-chain-in-Some.ensures in
    rw (c.as_slice-in-Point.ensures, c.as_slice-in-Point-2.ensures) (solution_holds _ _ c.in-Point.values d)
