use Rattle.std.proofs.Common.{List, get_or, refl, subst, sym}
use Rattle.hp_local.specs.Frame.{Fact}
use Rattle.hp_tables.specs.Kept.{AreKept}
use Rattle.hp_tables.proofs.KeptPoints.{facts_next}
use Rattle.hp_tables.proofs.tables.table.Goals as goal

pub loop-place-preserved : goal.loop-place-preserved
loop-place-preserved c =
    let places = c.args.places.now in
    let i = c.loop-place.place-index in
    let next = facts_next c.args.func.now c.args.values.now c.args.definitions.now places i (get_or places i 0) c.index-definitions-place.result
    c.loop-place-test.true refl (c.requires.inside i 0 c.loop-place-test.true) c.index-definitions-place.is in
    subst (λ (facts : List Fact). AreKept facts c.add_point.new.index c.add_point.new.rows) (sym next)
    (c.in_ok-add_point.ensures c.args.func.now _ c.loop-place.invariant)
