use Rattle.std.proofs.Common.{◌≡◌, arith, ap, ◌∙◌, unsigned_abs}
use Rattle.std.proofs.lemmas.Int.{ints}
use Rattle.std.proofs.lemmas.Bool.{eqb-true, eq-eqb}
use Rattle.hp_math.proofs.Parts.{zero_from_num, num_of_zero, abs-magnitude}
use Rattle.hp_num.proofs.frac.Frac.is_zero.Goals as goal

pub returns : goal.returns
returns c =
    let q = c.args.self.now in
    let m : c.magnitude.result ≡ unsigned_abs q.num = c.magnitude.ensures.value ∙ ap unsigned_abs c.top.ensures in
    (λ t. zero_from_num q (let e = eqb-true _ _ t in omega (arith, ints, abs-magnitude q.num)), λ e. eq-eqb _ _ (m ∙ ap unsigned_abs (num_of_zero q e)))
