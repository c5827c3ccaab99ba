use Rattle.hp_fields.proofs.Fits.{begins_itself}
use Rattle.hp_field.proofs.fields.Fields.new.Goals as goal

pub returns-clause-lent : goal.returns-clause-lent
returns-clause-lent c = record {
  front = c.args.names.now;
  begins = begins_itself c.args.names.now;
  made = c.pointer_terms.ensures.made;
  is = c.requires.fields;
  terms_are = c.in_ok-terms.ensures.terms;
}
