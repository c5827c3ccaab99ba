use Rattle.std.proofs.Common.{◌≡◌, ◌+◌, ◌∙◌, pos, sym, ap, arith, drop, get_or, to_z, of_z, Ok, Err}
use Rattle.std.specs.Int.{w128}
use Rattle.std.proofs.lemmas.Int.{ints}
use Rattle.std.proofs.lemmas.Result.{err_from_is_err_and}
use Rattle.hp_lit.specs.declared.literal.Part.{Part}
use Rattle.hp_farkas.specs.Sums.{add_product, add_parts}
use Rattle.hp_farkas.proofs.Loops.{part_err, part_ok, part_other}
use Rattle.hp_farkas.proofs.sums.add_parts.Goals as goal
use Rattle.hp_farkas.proofs.sums.add_parts.Goals.{then-part-name+in_ok-add_product, else-part-name}

abbrev no_part : Part
no_part = record { name = record { 0 = 0 }; coef = pos 0 }

pub returns-in_err-add_product : goal.returns-in_err-add_product
returns-in_err-add_product c =
    let p = err_from_is_err_and c.from_residual.result c.from_residual.ensures.1 in
    let part : Part = get_or c.args.parts.now c.loop-part.part-index no_part in
    let s : c.loop-part.total.sum ≡ to_z w128 (of_z w128 c.loop-part.total.sum) = omega (arith, ints) in
    let m : c.args.multiplier ≡ to_z w128 (of_z w128 c.args.multiplier) = omega (arith, ints) in
    let t : c.args.sum ≡ to_z w128 (of_z w128 c.args.sum) = omega (arith, ints) in
    let f : part.coef ≡ to_z w128 (of_z w128 part.coef) = omega (arith, ints) in
    let e : Err c.in_err-add_product.field-0.0 ≡ add_product c.loop-part.total.sum c.args.multiplier part.coef = sym c.in_err-add_product.was ∙ c.add_product.ensures ∙ sym (λ i. add_product (s i) (m i) (f i)) in
    let rest = drop c.loop-part.part-index c.args.parts.now in
    let i : add_parts c.args.name.0 c.args.multiplier c.args.sum c.args.parts.now ≡ add_parts c.args.name.0 c.args.multiplier c.loop-part.total.sum rest =
    (λ j. add_parts c.args.name.0 (m j) (t j) c.args.parts.now) ∙ c.loop-part.invariant ∙ sym (λ j. add_parts c.args.name.0 (m j) c.loop-part.total.sum rest) in
    p.1 ∙ ap (λ w. Err w) p.2 ∙ part_err c.args.name.0 c.args.multiplier c.loop-part.total.sum c.args.parts.now c.loop-part.part-index no_part c.loop-part-test.true c.in_err-add_product.field-0.0 c.if-part-name.true e ∙ sym i

pub loop-part-preserved : goal.loop-part-preserved
loop-part-preserved c =
    let part : Part = get_or c.args.parts.now c.loop-part.part-index no_part in
    let multiplier = to_z w128 (of_z w128 c.args.multiplier) in
    elim c.if-part-name.branch [
      | then-part-name+in_ok-add_product w ↦ (
          let s : c.loop-part.total.sum ≡ to_z w128 (of_z w128 c.loop-part.total.sum) = omega (arith, ints) in
          let f : part.coef ≡ to_z w128 (of_z w128 part.coef) = omega (arith, ints) in
          let n : w.in_ok-add_product.field-0 ≡ to_z w128 (of_z w128 w.in_ok-add_product.field-0) = omega (arith, ints) in
          let e : Ok (to_z w128 (of_z w128 w.in_ok-add_product.field-0)) ≡ add_product c.loop-part.total.sum multiplier part.coef = sym (ap (λ z. Ok z) n) ∙ sym w.in_ok-add_product.was ∙ w.add_product.ensures ∙ sym (λ i. add_product (s i) multiplier (f i)) in
          c.loop-part.invariant
          ∙ part_ok c.args.name.0 multiplier c.loop-part.total.sum c.args.parts.now c.loop-part.part-index no_part c.loop-part-test.true _ w.if-part-name.true e
          ∙ ap (λ t. add_parts c.args.name.0 multiplier t.sum (drop (c.loop-part.part-index + 1) c.args.parts.now)) (sym w.total-is))
      | else-part-name w ↦ (
          c.loop-part.invariant
          ∙ part_other c.args.name.0 multiplier c.loop-part.total.sum c.args.parts.now c.loop-part.part-index no_part c.loop-part-test.true w.if-part-name.false
          ∙ ap (λ t. add_parts c.args.name.0 multiplier t.sum (drop (c.loop-part.part-index + 1) c.args.parts.now)) (sym w.total-is))
    ]
