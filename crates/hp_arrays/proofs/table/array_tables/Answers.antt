use Rattle.hp_arrays.proofs.Tables.{tables_without_words}
use Rattle.hp_arrays.proofs.table.array_tables.Goals as goal

pub returns-then-at-words : goal.returns-then-at-words
returns-then-at-words c =
    tables_without_words c.args.names.now c.args.values.now c.args.own.now c.args.words.now c.loop-at.at c.loop-at.tables c.if-at-words.true c.loop-at.invariant
