use Rattle.std.proofs.Common.{◌∙◌, ap, length, replicate, subst}
use Rattle.hp_tuples.specs.Tuples.{all_tuples, places}
use Rattle.hp_tuple_lines.specs.TupleLines.{args_at}
use Rattle.hp_tuple_lines.proofs.Stepping.{IsStepping, stepping_fits, stepping_more, stepping_refused, stepping_start}
use Rattle.hp_tuple_lines.proofs.lines.add_lines_of.Goals as goal

pub loop-more-init : goal.loop-more-init
loop-more-init c =
    let xs = c.args.over.now in
    let ks = c.first_tuple-places.result.items in
    let count = c.len.ensures in
    stepping_start c.args.clause.now xs ks c.args.g.now c.requires.some (c.first_tuple-places.ensures.items ∙ ap (λ n. replicate n 0) count)
    (c.first_tuple-places.ensures.first (length xs) c.requires.some ∙ ap (λ n. all_tuples (places (length xs)) n) count) c.requires.fit c.requires.sound

pub instantiate-requires : goal.instantiate-requires
instantiate-requires c =
    let xs = c.args.over.now in
    let ks = c.loop-more.places.items in
    let here = c.in_ok-args.ensures ∙ ap (args_at xs) c.as_slice.ensures in
    stepping_fits c.args.clause.now xs ks c.args.g.now c.loop-more.g (subst (λ b. IsStepping c.args.clause.now xs b ks c.args.g.now c.loop-more.g) c.loop-more-test.true c.loop-more.invariant)
    c.as_slice-in-loop-more.result.now c.as_slice-in-loop-more-2.result.now (c.as_slice-in-loop-more.ensures ∙ here) (c.as_slice-in-loop-more-2.ensures ∙ here)

pub returns-in_err-instantiate-clause-made : goal.returns-in_err-instantiate-clause-made
returns-in_err-instantiate-clause-made c =
    let xs = c.args.over.now in
    let ks = c.loop-more.places.items in
    let here = c.in_ok-args.ensures ∙ ap (args_at xs) c.as_slice.ensures in
    stepping_refused c.args.clause.now xs ks c.args.g.now c.loop-more.g (subst (λ b. IsStepping c.args.clause.now xs b ks c.args.g.now c.loop-more.g) c.loop-more-test.true c.loop-more.invariant)
    c.as_slice-in-loop-more.result.now c.as_slice-in-loop-more-2.result.now (c.as_slice-in-loop-more.ensures ∙ here) (c.as_slice-in-loop-more-2.ensures ∙ here)
    c.instantiate.new.ground c.in_err-instantiate.field-0.0 c.from_residual-in_err-instantiate.result c.in_err-instantiate.ensures.made c.from_residual-in_err-instantiate.ensures.1

pub loop-more-preserved : goal.loop-more-preserved
loop-more-preserved c =
    let xs = c.args.over.now in
    let ks = c.loop-more.places.items in
    let here = c.in_ok-args.ensures ∙ ap (args_at xs) c.as_slice.ensures in
    stepping_more c.args.clause.now xs ks c.args.g.now c.loop-more.g (subst (λ b. IsStepping c.args.clause.now xs b ks c.args.g.now c.loop-more.g) c.loop-more-test.true c.loop-more.invariant)
    c.as_slice-in-loop-more.result.now c.as_slice-in-loop-more-2.result.now (c.as_slice-in-loop-more.ensures ∙ here) (c.as_slice-in-loop-more-2.ensures ∙ here)
    c.next_tuple-more.new.tuple.items c.next_tuple-more.result c.next_tuple-more.ensures.next c.instantiate.new.ground c.in_ok-instantiate.ensures.made c.in_ok-instantiate.ensures.kept c.next_tuple-more.ensures.below
