use Rattle.hp_base.proofs.Making.{begins_same}
use Rattle.hp_arrays.proofs.elements.add_element.Goals as goal

pub returns-in_err-push-clause-kept : goal.returns-in_err-push-clause-kept
returns-in_err-push-clause-kept c = begins_same c.args.g.now
