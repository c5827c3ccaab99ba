use Rattle.std.proofs.Common.{pos, ap, sym, subst, ℤ, ◌<ℤ◌}
use borrow.Author.Differences.{up}
use Rattle.hp_math.specs.Rational.{ratio, whole, IsLowest}
use Rattle.hp_num.proofs.Reduce.{one_is_lowest}
use Rattle.hp_num.proofs.frac.Frac.whole.Goals as goal

pub invariant_of-result : goal.invariant_of-result
invariant_of-result c = subst (λ (d : ℤ). (pos 0 <ℤ d) × IsLowest c.args.number (up d)) (sym c.new.ensures) (one_is_lowest c.args.number)

pub returns : goal.returns
unfolding whole
returns c = ap (λ d. ratio c.args.number (up d)) c.new.ensures
