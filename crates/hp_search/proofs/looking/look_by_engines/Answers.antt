use Rattle.hp_search.proofs.Picking.{caused_within}
use Rattle.hp_search.proofs.looking.look_by_engines.Goals as goal

pub returns-then-exact-clause-strained : goal.returns-then-exact-clause-strained
returns-then-exact-clause-strained c = caused_within c.args.lines.now c.args.path.now c.look_wholly.result c.look_wholly.ensures.strained
