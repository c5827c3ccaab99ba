use Rattle.std.proofs.Common.{◌≡◌, drop}
use Rattle.hp_farkas.specs.inner.Next.{least_part}
use Rattle.hp_farkas.proofs.next.least_part.Given as goal

abbrev pub invariant-loop-part : goal.invariant-loop-part
invariant-loop-part l = least_part l.from l.fn.best l.parts ≡ least_part l.from l.best (drop l.part-index l.parts)
