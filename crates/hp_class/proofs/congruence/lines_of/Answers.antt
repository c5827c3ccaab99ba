use Rattle.hp_base.proofs.Making.{begins_same}
use Rattle.hp_class.proofs.congruence.lines_of.Goals as goal

pub returns-in_err-places-clause-kept : goal.returns-in_err-places-clause-kept
returns-in_err-places-clause-kept c = begins_same c.args.g.now
