use Rattle.std.proofs.Common.{◌<◌, ◌^◌, List, length, sym, ap, subst}
use Rattle.hp_tree.specs.Value.{Word}
use Rattle.hp_rules.proofs.Words.{few_rule_words, rule_words_added}
use Rattle.hp_rules.proofs.rows.rule_words.Goals as goal

pub returns-clause-words : goal.returns-clause-words
returns-clause-words c =
    rule_words_added c.args.names.now c.new-words.result c.add_constants.new.words c.add_numbered.new.words c.add_arguments.new.words c.constants.result.now (length c.definitions.result.now)
    c.definitions.ensures.made c.requires.constants c.new-words.ensures c.constants.ensures.constants (ap length c.definitions.ensures.definitions) c.in_ok-add_constants.ensures
    c.in_ok-add_numbered.ensures c.in_ok-add_arguments.ensures

pub returns-clause-few : goal.returns-clause-few
returns-clause-few c = subst (λ (ws : List Word). length ws < 2 ^ 28) (sym (returns-clause-words c)) (few_rule_words c.args.names.now c.definitions.ensures.made)
