use Rattle.std.proofs.Common.{◌<◌, get_or, length, ◌+◌, subst, sym}
use Rattle.std.proofs.lemmas.List.Elements.{All-contains, Contains-get_or}
use Rattle.hp_base.proofs.Making.{begins_names}
use Rattle.hp_class.proofs.Stays.{flat_stays}
use Rattle.hp_tables.proofs.PairLoops.{IsBelow, below_err, below_itself, below_more, below_start, inside_still}
use Rattle.hp_tables.proofs.PairsFit.{fit_still, two_fit}
use Rattle.hp_defs.specs.declared.names.Ground.{Ground}
use Rattle.hp_tables.proofs.pairs.add_lines_below.Goals as goal
use Rattle.hp_tables.proofs.pairs.add_lines_below.Goals.{then-upper-lower+in_ok-add_pair_line, else-upper-lower}

pub loop-upper-init : goal.loop-upper-init
loop-upper-init c = below_start c.args.clause.now c.args.first_lower c.args.lower c.args.places.now c.args.g.now c.requires.sound

pub add_pair_line-requires-clause-flat : goal.add_pair_line-requires-clause-flat
add_pair_line-requires-clause-flat c =
    let t = c.loop-upper.invariant in
    flat_stays c.args.g.now.names c.loop-upper.g.names c.args.clause.now (begins_names c.args.g.now c.loop-upper.g t.begins) t.sound.made c.requires.flat

pub add_pair_line-requires-clause-lower : goal.add_pair_line-requires-clause-lower
add_pair_line-requires-clause-lower c =
    let t = c.loop-upper.invariant in
    All-contains (λ k. k < length c.loop-upper.g.names.definitions) c.args.places.now c.args.lower (inside_still c.args.g.now c.loop-upper.g c.args.places.now t.begins c.requires.inside) c.requires.lower

pub add_pair_line-requires-clause-upper : goal.add_pair_line-requires-clause-upper
add_pair_line-requires-clause-upper c =
    let t = c.loop-upper.invariant in
    inside_still c.args.g.now c.loop-upper.g c.args.places.now t.begins c.requires.inside c.loop-upper.upper-index 0 c.loop-upper-test.true

pub add_pair_line-requires-clause-fit : goal.add_pair_line-requires-clause-fit
add_pair_line-requires-clause-fit c =
    let t = c.loop-upper.invariant in
    let ks = c.args.places.now in
    two_fit c.loop-upper.g c.args.clause.now c.args.first_lower ks c.args.lower (get_or ks c.loop-upper.upper-index 0) c.requires.lower (Contains-get_or ks c.loop-upper.upper-index 0 c.loop-upper-test.true)
    (fit_still c.args.g.now c.loop-upper.g c.args.clause.now c.args.first_lower ks t.begins t.sound.made c.requires.flat c.requires.inside c.requires.fit)

pub returns-in_err-add_pair_line-clause-made : goal.returns-in_err-add_pair_line-clause-made
returns-in_err-add_pair_line-clause-made c =
    let ks = c.args.places.now in
    let low = All-contains (λ k. k < length c.args.g.now.names.definitions) ks c.args.lower c.requires.inside c.requires.lower in
    below_err c.args.clause.now c.args.first_lower c.args.lower ks c.loop-upper.upper-index c.loop-upper-test.true c.args.g.now c.loop-upper.g c.requires.sound.made low c.requires.inside c.loop-upper.invariant
    c.if-upper-lower.true c.add_pair_line.new.g c.in_err-add_pair_line.field-0.0 c.from_residual.result c.in_err-add_pair_line.ensures.made c.from_residual.ensures.1

pub loop-upper-preserved : goal.loop-upper-preserved
loop-upper-preserved c =
    let ks = c.args.places.now in
    let low = All-contains (λ k. k < length c.args.g.now.names.definitions) ks c.args.lower c.requires.inside c.requires.lower in
    let Below = λ (g : Ground). IsBelow c.args.clause.now c.args.first_lower c.args.lower ks (c.loop-upper.upper-index + 1) c.args.g.now g in
    elim c.if-upper-lower.branch [
      | then-upper-lower+in_ok-add_pair_line w ↦ subst Below (sym w.g-is)
          (below_more c.args.clause.now c.args.first_lower c.args.lower ks c.loop-upper.upper-index c.loop-upper-test.true c.args.g.now c.loop-upper.g c.requires.sound.made low c.requires.inside c.loop-upper.invariant
          w.if-upper-lower.true w.add_pair_line.new.g w.in_ok-add_pair_line.ensures.made w.add_pair_line.ensures.kept w.in_ok-add_pair_line.ensures.sound)
      | else-upper-lower w ↦ subst Below (sym w.g-is) (below_itself c.args.clause.now c.args.first_lower c.args.lower ks c.loop-upper.upper-index c.loop-upper-test.true c.args.g.now c.loop-upper.g c.requires.sound.made low c.requires.inside c.loop-upper.invariant w.if-upper-lower.false)
    ]
