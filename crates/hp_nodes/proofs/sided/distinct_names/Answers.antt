use Rattle.std.proofs.Common.{subst}
use Rattle.std.specs.Prelude.{IfOk}
use Rattle.hp_nodes.specs.Nodes.{AreNames}
use Rattle.hp_nodes.proofs.sided.distinct_names.Goals as goal

pub returns : goal.returns
returns g c = subst (λ mentions. IfOk c.distinct.result (λ names. AreNames mentions names.items)) c.in_ok-mentions.ensures c.distinct.ensures
