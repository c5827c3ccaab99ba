use Rattle.std.proofs.Common.{pos, sym, ap, ◌∙◌}
use Rattle.hp_num.specs.inner.Stored.{kept}
use Rattle.hp_num.proofs.frac.Frac.below.Goals as goal

pub returns : goal.returns
returns c = sym (kept _ _ c.self.invariant).1 ∙ ap (λ q. pos q.den) c.self.view_is
