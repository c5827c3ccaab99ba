use Rattle.hp_norm.proofs.Declaring.{few_constants, few_functions, new_constant, new_function, no_definitions, one_more, plain_word}
use Rattle.hp_norm.proofs.declared.declared_names.Goals as goal

pub add_declared-requires-clause-few : goal.add_declared-requires-clause-few
add_declared-requires-clause-few c = few_constants c.args.decls.now c.loop-at.at c.index-decls-at.result c.loop-at-test.true c.index-decls-at.is c.loop-at.names c.loop-at.invariant c.requires.few

pub add_declared-requires-clause-few_functions : goal.add_declared-requires-clause-few_functions
add_declared-requires-clause-few_functions c =
    few_functions c.args.decls.now c.loop-at.at c.index-decls-at.result c.loop-at-test.true c.index-decls-at.is c.loop-at.names c.loop-at.invariant c.requires.items

pub add_declared-requires-clause-before : goal.add_declared-requires-clause-before
add_declared-requires-clause-before c = no_definitions c.args.decls.now c.loop-at.at c.index-decls-at.result c.loop-at-test.true c.index-decls-at.is c.loop-at.names c.loop-at.invariant

pub add_declared-requires-clause-new_constant : goal.add_declared-requires-clause-new_constant
add_declared-requires-clause-new_constant c =
    new_constant c.args.decls.now c.loop-at.at c.index-decls-at.result c.loop-at-test.true c.index-decls-at.is c.loop-at.names c.loop-at.invariant c.requires.distinct

pub add_declared-requires-clause-new_function : goal.add_declared-requires-clause-new_function
add_declared-requires-clause-new_function c =
    new_function c.args.decls.now c.loop-at.at c.index-decls-at.result c.loop-at-test.true c.index-decls-at.is c.loop-at.names c.loop-at.invariant c.requires.distinct

pub add_declared-requires-clause-plain : goal.add_declared-requires-clause-plain
add_declared-requires-clause-plain c =
    plain_word c.args.decls.now c.loop-at.at c.index-decls-at.result c.loop-at-test.true c.index-decls-at.is c.loop-at.names c.loop-at.invariant c.requires.plain

pub loop-at-preserved : goal.loop-at-preserved
loop-at-preserved c =
    one_more c.args.decls.now c.loop-at.at c.index-decls-at.result c.loop-at-test.true c.index-decls-at.is c.loop-at.names c.loop-at.invariant c.add_declared.new.names c.in_ok-add_declared.ensures
