use Rattle.std.proofs.Common.{◌++◌, ◌∙◌, ap, subst, sym}
use Rattle.hp_local.specs.Rows.{argument_words}
use Rattle.hp_defs.specs.Names.{count, words}
use Rattle.hp_pairs.specs.Answers.{Separates}
use Rattle.hp_pairs.specs.Shown.{pair_of, pairs_of}
use Rattle.hp_pairs.proofs.First.{single}
use Rattle.hp_pairs.proofs.pairs.separate_bounds.Goals as goal

pub returns-in-Ok-Some : goal.returns-in-Ok-Some
returns-in-Ok-Some c =
    let all = words c.args.names.now ++ argument_words in
    let others = count c.args.names.now in
    subst (λ ps. Separates all others ps c.decide_test.result) (sym (ap pairs_of c.in-Ok-Some.field-0-is) ∙ c.in-Ok-Some.ensures.pairs)
    (single all others (pair_of c.in-Ok-Some.test) c.decide_test.result c.decide_test.ensures)
