use Rattle.std.proofs.Common.{◌≡◌, ◌+ℤ◌, ap, sym, ◌∙◌, arith}
use Rattle.std.proofs.lemmas.Int.{ints}
use Rattle.hp_math.specs.Rational.{whole}
use Rattle.hp_shapes.proofs.Numbers.{shifted_is}
use Rattle.hp_tables.proofs.values.shifted.Goals as goal

pub returns : goal.returns
returns c =
    let sum : c.new.result ≡ c.args.base.num +ℤ c.args.offset = c.new.ensures ∙ omega (arith, ints) in
    c.whole.ensures ∙ ap whole sum ∙ sym (shifted_is c.args.base c.args.offset c.requires.whole)
