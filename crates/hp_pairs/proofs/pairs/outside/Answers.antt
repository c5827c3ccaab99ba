use Rattle.std.proofs.Common.{◌++◌, ◌∙◌, refl}
use Rattle.hp_local.specs.Rows.{argument_words}
use Rattle.hp_defs.specs.Names.{count, words}
use Rattle.hp_pairs.proofs.Solutions.{is_shown}
use Rattle.hp_pairs.proofs.pairs.outside.Goals as goal

pub returns-in-Ok : goal.returns-in-Ok
returns-in-Ok c =
    let names = c.args.names.now in
    let s = is_shown (words names ++ argument_words) (count names) c.args.test.now.args c.args.test.now.rows c.args.values.now c.requires.solution in
    record { rule = refl; clause = refl; other = refl; values = s.at; true = s.true; shown = c.in-Ok.ensures ∙ s.shown }
