use Rattle.std.proofs.Common.{◌++◌, map}
use Rattle.hp_local.specs.Rows.{argument_words}
use Rattle.hp_defs.specs.Names.{count, words}
use Rattle.hp_pairs.specs.Branches.{branches_of, order_pairs, overlap}
use Rattle.hp_pairs.proofs.First.{follows}
use Rattle.hp_pairs.proofs.pairs.separate_branch.Goals as goal

pub returns : goal.returns
returns c =
    let b = c.args.branch.now in
    follows (words c.args.names.now ++ argument_words) (count c.args.names.now) (order_pairs b b.low b.high b.gap) (map (overlap b) (branches_of c.args.func c.args.earlier.now))
    c.separate_guards.result c.in_ok-separate_bounds.ensures c.separate_guards.ensures
