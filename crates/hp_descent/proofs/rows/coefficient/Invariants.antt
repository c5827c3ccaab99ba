use Rattle.std.proofs.Common.{◌≡◌, drop}
use Rattle.hp_lit.specs.Leaf.{coefficient}
use Rattle.hp_descent.proofs.rows.coefficient.Given as goal

abbrev pub invariant-loop-part : goal.invariant-loop-part
invariant-loop-part l = coefficient l.name l.parts ≡ coefficient l.name (drop l.part-index l.parts)
