use Rattle.std.proofs.Common.{inr}
use Rattle.hp_tree.specs.declared.problem.Sort.TheVariants.{Num}
use Rattle.hp_instance.proofs.LiteralSteps.{all_lits, light_at}
use Rattle.hp_instance.proofs.literals.push_literals.Goals as goal

pub push_atom-requires-clause-light : goal.push_atom-requires-clause-light
push_atom-requires-clause-light c =
    light_at c.args.sorts.now c.args.atoms.now c.loop-at.at Num c.index-atoms-at.result c.if-at-sorts.false c.loop-at-test.true c.index-atoms-at.is c.requires

pub returns : goal.returns
returns c = all_lits c.args.names.now c.args.positive c.args.sorts.now c.args.atoms.now c.args.lits.now c.loop-at.at c.loop-at.lits (inr c.loop-at-test.false) c.loop-at.invariant tt
