use Rattle.hp_rules.proofs.WithCase.{case_added, case_changed, case_full}
use Rattle.hp_rules.proofs.branches.with_case.Goals as goal

pub returns-in-None : goal.returns-in-None
returns-in-None c =
    case_added c.args.words.now c.args.func c.args.args c.args.clause.now c.args.rows c.args.bound c.as_slice-2.result.now c.as_slice.result.now c.args.branches.now c.case_at.result
    c.as_slice-2.ensures c.as_slice.ensures c.case_at.ensures c.push.new.self c.in_ok-branch-in-None.branch c.in-Some-more.more c.in_ok-more-in-None.more c.in-None.is c.in_ok-branch-in-None.ensures
    c.in_ok-more-in-None.ensures c.in-Some-more.is c.in_ok-push-in-Some-more.ensures.ok

pub returns-in-None-more-2 : goal.returns-in-None-more-2
returns-in-None-more-2 c =
    case_full c.args.words.now c.args.func c.args.args c.args.clause.now c.args.rows c.args.bound c.as_slice-2.result.now c.as_slice.result.now c.args.branches.now c.case_at.result
    c.as_slice-2.ensures c.as_slice.ensures c.case_at.ensures c.in-Some.at c.get.result.now c.in_ok-more-in-Some.more c.in-Some.is c.get.ensures c.in_ok-more-in-Some.ensures c.in-None-more-2.is

pub returns : goal.returns
returns c =
    case_changed c.args.words.now c.args.func c.args.args c.args.clause.now c.args.rows c.args.bound c.as_slice-2.result.now c.as_slice.result.now c.args.branches.now c.case_at.result
    c.as_slice-2.ensures c.as_slice.ensures c.case_at.ensures c.set.new.self c.in-Some.at c.get.result.now c.in-Some-more-2.more c.in_ok-more-in-Some.more c.in-Some.is c.get.ensures
    c.in_ok-more-in-Some.ensures c.in-Some-more-2.is c.set.ensures
