use Rattle.std.proofs.Common.{◌∙◌, ap, arith}
use Rattle.hp_defs.specs.Places.{with_place}
use Rattle.hp_defs.proofs.Grouped.{place_off}
use Rattle.hp_defs.proofs.places.take_place.Goals as goal

pub returns-then-func-len : goal.returns-then-func-len
returns-then-func-len c = λ kept at is.
    place_off c.args.groups.now.items kept at c.in-Some.func c.pop.result c.index_mut.result.now c.pop.new.self c.index_mut.result.now (is ∙ ap (with_place kept at) c.in-Some.is)
    (omega (arith, c.if-func-len.true, c.len.ensures)) c.index_mut.ensures.value c.pop.ensures
