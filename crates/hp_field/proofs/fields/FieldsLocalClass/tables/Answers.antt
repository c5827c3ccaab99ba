use Rattle.std.proofs.Common.{ℕ, List, subst, sym}
use Rattle.std.specs.List.{AllZip}
use Rattle.hp_tree.specs.Value.{Word}
use Rattle.hp_fields.specs.Fields.{IsField}
use Rattle.hp_fields.proofs.Pointers.{fields_later}
use Rattle.hp_field.proofs.fields.FieldsLocalClass.tables.Goals as goal

pub field_tables-requires-clause-fields : goal.field_tables-requires-clause-fields
field_tables-requires-clause-fields c =
    let group = c.args.self.now in
    let names = c.args.names.now in
    let lent = c.requires.lent in
    subst (λ (own : List ℕ). AllZip (IsField names) own c.as_slice.result.now) (sym c.as_slice-own.ensures)
    (subst (λ (words : List Word). AllZip (IsField names) group.own words) (sym c.as_slice.ensures)
    (fields_later lent.front names lent.begins.signatures group.own group.words lent.is.functions))
