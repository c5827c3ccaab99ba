use Rattle.std.proofs.Common.{rules}
use Rattle.hp_num.specs.inner.Stored.{kept}
use Rattle.hp_num.proofs.frac.FracPartialEq.eq.Goals as goal

pub returns : goal.returns
returns c = search (rules, kept)
