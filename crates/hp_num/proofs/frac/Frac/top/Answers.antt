use Rattle.std.proofs.Common.{sym, ap, ◌∙◌}
use Rattle.hp_num.specs.inner.Stored.{kept}
use Rattle.hp_num.proofs.frac.Frac.top.Goals as goal

pub returns : goal.returns
returns c = sym (kept _ _ c.self.invariant).0 ∙ ap (λ q. q.num) c.self.view_is
