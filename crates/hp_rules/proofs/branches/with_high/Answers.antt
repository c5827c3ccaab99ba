use Rattle.std.proofs.Common.{◌∙◌, sym}
use Rattle.hp_rules.proofs.Gaps.{high_gap}
use Rattle.hp_rules.proofs.branches.with_high.Goals as goal

pub returns-in_ok-more-in-Some : goal.returns-in_ok-more-in-Some
returns-in_ok-more-in-Some c =
    high_gap c.args.words.now c.args.clause c.args.term c.args.branch.now _ _ c.in-Some.low c.in_ok-low-in-Some.low c.in_ok-more-in-Some.more (sym c.is_some.ensures ∙ c.if-is_some.false) c.in-Some.is
    c.in_ok-low-in-Some.ensures c.in_ok-more-in-Some.ensures c.with_gap.ensures c.gap_of-gap.ensures
