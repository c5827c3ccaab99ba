use Rattle.hp_base.proofs.Making.{begins_same}
use Rattle.hp_field.proofs.fields.FieldsLocalClass.grow.Goals as goal

pub returns-clause-kept : goal.returns-clause-kept
returns-clause-kept c = begins_same c.args.g.now
