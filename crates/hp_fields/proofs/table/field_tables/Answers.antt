use Rattle.std.proofs.Common.{◌≡◌, ◌∙◌, ap, arith, subst, sym, get_or, length}
use Rattle.hp_tree.specs.Value.{Word}
use Rattle.hp_class.specs.Frame.{definition_facts}
use Rattle.hp_local.specs.Fields.{field_table}
use Rattle.hp_fields.specs.Fields.{IsField, gives}
use Rattle.hp_fields.proofs.Tables.{same_length, tables_step, zip_at}
use Rattle.hp_fields.proofs.table.field_tables.Goals as goal

pub returns-then-at-own : goal.returns-then-at-own
returns-then-at-own c =
    let same = same_length (IsField c.args.names.now) c.args.own.now c.args.words.now c.requires.fields in
    let past = c.if-at-own.true in
    let within = c.loop-at-test.true in
    absurd (omega (arith, same, past, within))

pub field_table-requires-clause-field : goal.field_table-requires-clause-field
field_table-requires-clause-field c =
    let at = c.loop-at.at in
    let past = c.if-at-own.false in
    subst (λ (w : Word). IsField c.args.names.now (get_or c.args.own.now at 0) w) (sym c.index-words-at.is)
    (zip_at (IsField c.args.names.now) c.args.own.now c.args.words.now c.requires.fields at 0 c.index-words-at.result (omega (arith, past)) c.loop-at-test.true)

pub loop-at-preserved : goal.loop-at-preserved
loop-at-preserved c =
    let names = c.args.names.now in
    let v = c.args.values.now in
    tables_step c.args.size c.args.words.now names v (field_table c.args.size (gives names) (definition_facts names.signatures v names.definitions)) c.loop-at.at c.index-words-at.result c.loop-at.tables
    c.push.new.self c.in_ok-field_table.field-0 c.loop-at-test.true c.index-words-at.is c.in_ok-field_table.ensures c.loop-at.invariant c.in_ok-push.ensures.ok
