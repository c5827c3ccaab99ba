use Rattle.std.proofs.Common.{◌≡◌, filter, map, nat_eq, take}
use Rattle.hp_ruled.specs.Laws.{case_of}
use Rattle.hp_groups.proofs.copies.cases_of.Given as goal

abbrev pub invariant-loop-branch : goal.invariant-loop-branch
invariant-loop-branch l = l.cases ≡ map case_of (filter (λ b. nat_eq b.func l.func) (take l.branch-index l.branches))
