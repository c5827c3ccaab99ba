use Rattle.std.proofs.Common.{◌∙◌, sym}
use Rattle.hp_rules.proofs.Gaps.{low_gap}
use Rattle.hp_rules.proofs.branches.with_low.Goals as goal

pub returns-in_ok-more-in-Some : goal.returns-in_ok-more-in-Some
returns-in_ok-more-in-Some c =
    low_gap c.args.words.now c.args.clause c.args.term c.args.branch.now _ _ c.in-Some.high c.in_ok-high-in-Some.high c.in_ok-more-in-Some.more (sym c.is_some.ensures ∙ c.if-is_some.false) c.in-Some.is
    c.in_ok-high-in-Some.ensures c.in_ok-more-in-Some.ensures c.with_gap.ensures c.gap_of-gap.ensures
