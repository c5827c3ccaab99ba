use Rattle.std.proofs.Common.{◌<◌, ◌≤◌, ◌^◌, List, length, sym, ap, subst, arith}
use Rattle.hp_tree.specs.Value.{Word}
use Rattle.hp_index_set.proofs.ClauseWords.{clause_words_added, few_clause_words}
use Rattle.hp_index_set.proofs.words.clause_words.Goals as goal

pub returns-clause-words : goal.returns-clause-words
returns-clause-words c =
    clause_words_added c.args.names.now c.args.clause.now c.new-words.result c.add_constants.new.words c.add_numbered.new.words c.add_variables.new.words c.constants.result.now
    (length c.definitions.result.now) c.as_slice.result.now c.definitions.ensures.made c.requires.flat c.new-words.ensures c.constants.ensures.constants (ap length c.definitions.ensures.definitions)
    c.as_slice.ensures c.in_ok-add_constants.ensures c.in_ok-add_numbered.ensures c.in_ok-add_variables.ensures

pub returns-clause-few : goal.returns-clause-few
returns-clause-few c =
    let few : c.len.result ≤ 2 ^ 26 = omega arith in
    subst (λ (ws : List Word). length ws < 2 ^ 28) (sym (returns-clause-words c)) (few_clause_words c.args.names.now c.args.clause.now c.len.result c.definitions.ensures.made c.len.ensures few)
