use Rattle.std.proofs.Common.{arith}
use Rattle.hp_ptreq.proofs.Trees.{have_roots}
use Rattle.hp_ptreq.proofs.Joining.{already_one, hang_left, hang_right}
use Rattle.hp_ptreq.proofs.classes.unite.Goals as goal

pub returns-in_ok-push : goal.returns-in_ok-push
returns-in_ok-push c =
    let roots = have_roots _ _ _ _ _ _ _ _ c.requires.trees c.root_of-left.ensures.trees c.root_of-right.ensures.trees c.root_of-left.ensures.root c.root_of-right.ensures.root in
    rw (c.set.ensures, c.in_ok-push.ensures.ok) (hang_right _ c.args.classes.now _ _ _ _ roots c.if-left-right.true)

pub returns-in_ok-push-2 : goal.returns-in_ok-push-2
returns-in_ok-push-2 c =
    let roots = have_roots _ _ _ _ _ _ _ _ c.requires.trees c.root_of-left.ensures.trees c.root_of-right.ensures.trees c.root_of-left.ensures.root c.root_of-right.ensures.root in
    rw (c.set-then-right-left.ensures, c.in_ok-push-2.ensures.ok) (hang_left _ c.args.classes.now _ _ _ _ roots c.if-right-left.true)

pub returns-else-right-left : goal.returns-else-right-left
returns-else-right-left c =
    let roots = have_roots _ _ _ _ _ _ _ _ c.requires.trees c.root_of-left.ensures.trees c.root_of-right.ensures.trees c.root_of-left.ensures.root c.root_of-right.ensures.root in
    already_one _ c.args.classes.now _ _ _ _ roots (omega arith)
