use Rattle.std.proofs.Common.{ℕ, suc, ◌<◌, List, Ok, length, subst, sym, arith}
use Rattle.std.specs.List.{All}
use Rattle.hp_defs.specs.Names.{NameList}
use Rattle.hp_class.proofs.Pairing.{all_drop, function_made, paired_end, paired_err, paired_more, paired_start, places_known, rest_is}
use Rattle.hp_class.proofs.congruence.lines_at.Goals as goal

pub loop-at-init : goal.loop-at-init
loop-at-init c = paired_start c.args.func c.args.places.now c.args.g.now

pub lines_with-requires-clause-known : goal.lines_with-requires-clause-known
lines_with-requires-clause-known c = subst (λ (n : NameList). c.args.func < length n.signatures) (sym c.loop-at.invariant.names) c.requires.known

pub lines_with-requires-clause-left : goal.lines_with-requires-clause-left
lines_with-requires-clause-left c =
    places_known c.args.func c.args.places.now c.args.g.now.names c.loop-at.g.names c.requires.places c.loop-at.invariant.names c.loop-at.at 0 c.loop-at-test.true

pub lines_with-requires-clause-others : goal.lines_with-requires-clause-others
lines_with-requires-clause-others c =
    let ks = c.args.places.now in
    let inside = places_known c.args.func ks c.args.g.now.names c.loop-at.g.names c.requires.places c.loop-at.invariant.names in
    subst (λ (js : List ℕ). All (λ k. k < length c.loop-at.g.names.definitions) js) (sym (rest_is ks c.loop-at.at))
    (all_drop (λ k. k < length c.loop-at.g.names.definitions) (suc c.loop-at.at) ks inside)

pub returns-in_err-lines_with-clause-made : goal.returns-in_err-lines_with-clause-made
returns-in_err-lines_with-clause-made c =
    function_made c.args.func c.args.places.now c.args.g.now c.lines_with.new.g c.from_residual.result c.requires.known c.requires.places
    (paired_err c.args.func c.args.places.now c.loop-at.at c.loop-at-test.true c.args.g.now c.loop-at.g c.loop-at.invariant c.lines_with.new.g _ c.in_err-lines_with.field-0.0 c.from_residual.result
    (rest_is c.args.places.now c.loop-at.at) c.in_err-lines_with.ensures.made c.from_residual.ensures.1)

pub loop-at-preserved : goal.loop-at-preserved
loop-at-preserved c =
    paired_more c.args.func c.args.places.now c.loop-at.at c.loop-at-test.true c.args.g.now c.loop-at.g c.loop-at.invariant c.lines_with.new.g _
    (rest_is c.args.places.now c.loop-at.at) c.in_ok-lines_with.ensures.made c.in_ok-lines_with.ensures.names c.lines_with.ensures.kept

pub returns-clause-made : goal.returns-clause-made
returns-clause-made c =
    function_made c.args.func c.args.places.now c.args.g.now c.loop-at.g (Ok tt) c.requires.known c.requires.places
    (paired_end c.args.func c.args.places.now c.loop-at.at c.args.g.now c.loop-at.g (omega arith) c.loop-at.invariant)
