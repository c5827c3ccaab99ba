use Rattle.hp_index.proofs.Steps.{atom_pushed}
use Rattle.hp_index.proofs.atoms.literals.Goals as goal

pub returns-in_ok-form_literals-in-Some-index_form : goal.returns-in_ok-form_literals-in-Some-index_form
returns-in_ok-form_literals-in-Some-index_form c =
    atom_pushed c.args.index.now c.args.positive c.args.atom.now c.signed.result c.in-Some.left c.in-Some-index_form.right c.args.lits.now c.form_literals.new.lits
    c.in-Some.ensures.0 c.in-Some-index_form.ensures.0 c.signed.ensures c.in-Some.ensures.1 c.in-Some-index_form.ensures.1 c.in_ok-form_literals-in-Some-index_form.ensures
