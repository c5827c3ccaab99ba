use Rattle.std.proofs.Common.{sym, ap, ◌∙◌, subst, arith, ◌<◌, ℤ}
use Rattle.std.proofs.lemmas.Int.{ints}
use borrow.Author.Differences.{up}
use Rattle.hp_math.specs.Rational.{ratio, IsLowest, neg_ℚ}
use Rattle.hp_math.proofs.Rational.{ratio-neg}
use Rattle.hp_math.proofs.Parts.{lowest-neg_ℤ}
use Rattle.hp_num.proofs.frac.Frac.negated.Goals as goal

pub invariant_of-result : goal.invariant_of-result
invariant_of-result c = (c.self.invariant.0, subst (λ (n : ℤ). IsLowest n (up c.self.inside.below)) (sym c.negated.ensures) (lowest-neg_ℤ c.self.inside.top (up c.self.inside.below) c.self.invariant.1))

pub returns : goal.returns
returns c =
    let p : 0 < up c.self.inside.below = (let q = c.self.invariant.0 in omega (arith, ints)) in
    ap (λ n. ratio n (up c.self.inside.below)) c.negated.ensures ∙ sym (ratio-neg c.self.inside.top (up c.self.inside.below) p) ∙ ap neg_ℚ c.self.view_is
