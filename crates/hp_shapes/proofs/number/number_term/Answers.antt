use Rattle.std.proofs.Common.{◌≡◌, ap, sym, ◌∙◌, arith, to_z, of_z}
use Rattle.std.specs.Int.{w128}
use Rattle.std.proofs.lemmas.Int.{ints}
use Rattle.hp_tree.specs.declared.term.Term.{Neg, Number}
use Rattle.hp_shapes.proofs.Numbers.{term_below, term_from}
use Rattle.hp_shapes.proofs.number.number_term.Goals as goal

pub returns-in_ok-new : goal.returns-in_ok-new
returns-in_ok-new c =
    let same : to_z w128 (of_z w128 c.num.result) ≡ c.num.result = omega (arith, ints) in
    ap (λ t. Neg t) (c.in_ok-new.ensures ∙ ap (λ q. Number q) c.negated.ensures)
    ∙ sym (term_below c.args.number (to_z w128 (of_z w128 c.num.result)) (same ∙ c.num.ensures.value) c.if-num-lt0.true)

pub returns-else-num-lt0 : goal.returns-else-num-lt0
returns-else-num-lt0 c =
    let same : to_z w128 (of_z w128 c.num.result) ≡ c.num.result = omega (arith, ints) in
    sym (term_from c.args.number (to_z w128 (of_z w128 c.num.result)) (same ∙ c.num.ensures.value) c.if-num-lt0.false)
