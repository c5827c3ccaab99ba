use Rattle.std.proofs.Common.{◌≡◌, ◌<◌, ◌∙◌, ℕ, List, Err, length, subst, sym}
use Rattle.std.specs.List.{All}
use Rattle.hp_lit.specs.declared.line.Arg.{Arg}
use Rattle.hp_defs.specs.declared.names.Signature.{Signature}
use Rattle.hp_base.specs.Making.{Makes}
use Rattle.hp_norm.specs.declared.flat.FlatClause.{FlatClause}
use Rattle.hp_class.specs.Group.{plan_lines}
use Rattle.hp_tables.proofs.ClassLaws.{group_stopped}
use Rattle.hp_tuple_lines.specs.TupleLines.{FitsOver, tuples_plan}
use Rattle.hp_fields.specs.Fields.{fields_plan}
use Rattle.hp_fields.proofs.Fits.{fields_clauses_fit, fields_known}
use Rattle.hp_fields.proofs.Pointers.{fields_later}
use Rattle.hp_field.proofs.fields.FieldsLocalClass.lines.Goals as goal

pub add_tuple_lines-requires-clause-fit : goal.add_tuple_lines-requires-clause-fit
add_tuple_lines-requires-clause-fit c =
    let group = c.args.self.now in
    let names = c.args.g.now.names in
    subst (λ (cs : List FlatClause). All (FitsOver names c.as_slice-2.result.now) cs) (sym c.as_slice.ensures)
    (subst (λ (xs : List Arg). All (FitsOver names xs) group.clauses) (sym c.as_slice-2.ensures)
    (fields_clauses_fit names group.own group.words group.applied group.clauses group.terms c.requires.lent c.requires.sound.made))

pub returns-in_err-add_tuple_lines-clause-made : goal.returns-in_err-add_tuple_lines-clause-made
returns-in_err-add_tuple_lines-clause-made c =
    let group = c.args.self.now in
    let g = c.args.g.now in
    let new = c.add_tuple_lines.new.g in
    let w = c.in_err-add_tuple_lines.field-0.0 in
    let made = subst (λ (cs : List FlatClause). Makes (plan_lines (tuples_plan c.as_slice-2.result.now cs)) g new (Err w)) c.as_slice.ensures c.in_err-add_tuple_lines.ensures.made in
    group_stopped group.own (fields_plan group.clauses group.terms) g new w c.from_residual.result
    (subst (λ (xs : List Arg). Makes (plan_lines (tuples_plan xs group.clauses)) g new (Err w)) c.as_slice-2.ensures made) c.from_residual.ensures.1

pub add_function_lines-requires : goal.add_function_lines-requires
add_function_lines-requires c =
    let group = c.args.self.now in
    let names = c.args.g.now.names in
    let now = c.add_tuple_lines.new.g in
    let lent = c.requires.lent in
    subst (All (λ k. k < length now.names.signatures)) (sym c.as_slice-3.ensures)
    (subst (λ (ss : List Signature). All (λ k. k < length ss) group.own) (sym c.add_tuple_lines.ensures.kept.signatures)
    (fields_known names group.own group.words (fields_later lent.front names lent.begins.signatures group.own group.words lent.is.functions)))
