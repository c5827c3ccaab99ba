use Rattle.std.proofs.Common.{◌<◌, get_or, length, subst, sym}
use Rattle.hp_base.specs.Congruence.{congruence_at}
use Rattle.hp_defs.specs.Names.{NameList}
use Rattle.hp_class.proofs.Pairing.{at_keeps, turned_err, turned_more, turned_start}
use Rattle.hp_class.proofs.congruence.lines_with.Goals as goal

pub loop-right-init : goal.loop-right-init
loop-right-init c = turned_start (congruence_at c.args.func c.args.left) c.args.others.now c.args.g.now

pub add_congruence-requires-clause-known : goal.add_congruence-requires-clause-known
add_congruence-requires-clause-known c = subst (λ (n : NameList). c.args.func < length n.signatures) (sym c.loop-right.invariant.names) c.requires.known

pub add_congruence-requires-clause-left : goal.add_congruence-requires-clause-left
add_congruence-requires-clause-left c = subst (λ (n : NameList). c.args.left < length n.definitions) (sym c.loop-right.invariant.names) c.requires.left

pub add_congruence-requires-clause-right : goal.add_congruence-requires-clause-right
add_congruence-requires-clause-right c =
    subst (λ (n : NameList). get_or c.args.others.now c.loop-right.right-index 0 < length n.definitions) (sym c.loop-right.invariant.names) (c.requires.others c.loop-right.right-index 0 c.loop-right-test.true)

pub returns-in_err-add_congruence-clause-made : goal.returns-in_err-add_congruence-clause-made
returns-in_err-add_congruence-clause-made c =
    turned_err (congruence_at c.args.func c.args.left) c.args.others.now c.loop-right.right-index 0 c.loop-right-test.true _ _ c.loop-right.invariant _ _ _
    c.in_err-add_congruence.ensures.made c.from_residual.ensures.1

pub loop-right-preserved : goal.loop-right-preserved
loop-right-preserved c =
    turned_more (congruence_at c.args.func c.args.left) c.args.others.now c.loop-right.right-index 0 c.loop-right-test.true _ _ c.loop-right.invariant _
    c.in_ok-add_congruence.ensures.made (at_keeps c.args.func c.args.left _ tt _ _ c.in_ok-add_congruence.ensures.made) c.add_congruence.ensures.kept
