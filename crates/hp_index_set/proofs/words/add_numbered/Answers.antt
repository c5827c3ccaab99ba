use Rattle.std.proofs.Common.{◌∙◌}
use Rattle.hp_index_set.proofs.WordsAdded.{numbered_next}
use Rattle.hp_index_set.proofs.words.add_numbered.Goals as goal

pub loop-at-preserved : goal.loop-at-preserved
loop-at-preserved c =
    numbered_next c.args.count c.loop-at.at c.args.words.now c.loop-at.words c.insert.new.self c.as_slice.result.now c.in_ok-insert.field-0 c.loop-at-test.true
    (c.as_slice.ensures ∙ c.in_ok-word.ensures) c.in_ok-insert.ensures.added c.loop-at.invariant
