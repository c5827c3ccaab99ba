use Rattle.std.proofs.Common.{◌≡◌, drop, nat_eq, ◌&&◌, ◌+◌}
use Rattle.std.specs.Prelude.{position, option_map}
use Rattle.hp_pairs.specs.declared.branch.Branch.{Branch}
use Rattle.hp_rules.specs.Rules.{same_rows}
use Rattle.hp_rules.proofs.branches.case_at.Given as goal

abbrev pub invariant-loop-at : goal.invariant-loop-at
invariant-loop-at l = position (λ (b : Branch). nat_eq b.func l.func && same_rows b.rows l.rows) l.branches ≡ option_map (λ k. l.at + k) (position (λ (b : Branch). nat_eq b.func l.func && same_rows b.rows l.rows) (drop l.at l.branches))
