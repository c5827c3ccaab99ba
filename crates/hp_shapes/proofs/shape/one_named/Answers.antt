use Rattle.std.proofs.Common.{◌≡◌, length, arith}
use Rattle.hp_shapes.proofs.Shapes.{one_named_is}
use Rattle.hp_shapes.proofs.shape.one_named.Goals as goal

pub returns-then-terms-eq1 : goal.returns-then-terms-eq1
returns-then-terms-eq1 c = λ func.
    let one : length c.args.terms.now ≡ 1 = omega (arith, c.if-terms-eq1.true) in
    one_named_is func c.args.word.now c.args.terms.now c.index-terms-0.result c.is_name.result one c.index-terms-0.is (c.is_name.ensures func)
