use Rattle.std.proofs.Common.{Ok, subst}
use Rattle.hp_tree.specs.declared.problem.Atom.{Atom}
use Rattle.hp_linear.specs.Answers.{Pushed}
use Rattle.hp_norm.specs.Lines.{atom_literals}
use Rattle.hp_norm.proofs.LiteralSteps.{atom_more}
use Rattle.hp_norm.proofs.literals.push_literals.Goals as goal

pub loop-atom-preserved : goal.loop-atom-preserved
loop-atom-preserved c =
    let names = c.args.names.now in
    let positive = c.args.positive in
    let done = c.in_ok-push_atom.field-0 in
    atom_more names positive c.args.atoms.now c.args.lits.now c.loop-atom.atom-index c.atom-item.result c.loop-atom.lits c.push_atom.new.lits done c.loop-atom-test.true
    (subst (λ (a : Atom). Pushed (atom_literals names positive a) c.loop-atom.lits c.push_atom.new.lits (Ok done)) c.atom-item.is c.in_ok-push_atom.ensures)
    c.loop-atom.invariant
