use Rattle.std.proofs.Common.{◌∙◌, ◌<◌, ◌∷◌, List, ℕ, refl, sym, ap, subst, arith}
use Rattle.std.specs.List.{All}
use Rattle.hp_tuples.specs.Raised.{IsRaised}
use Rattle.hp_tuples.specs.Tuples.{tuples_from}
use Rattle.hp_tuples.proofs.Counting.{none_next, raised_below, raised_next}
use Rattle.hp_tuples.proofs.tuples.next_tuple.Goals as goal

pub returns-then-count-eq0-clause-next : goal.returns-then-count-eq0-clause-next
returns-then-count-eq0-clause-next c =
    let raised = subst (λ (xs : List ℕ). IsRaised c.args.size xs c.raised-count.result) c.as_slice.ensures c.raised-count.ensures in
    (none_next c.args.size c.args.tuple.now.items c.raised-count.result c.if-count-eq0.true raised, refl)

pub returns-else-count-eq0-clause-next : goal.returns-else-count-eq0-clause-next
returns-else-count-eq0-clause-next c =
    let xs = c.args.tuple.now.items in
    let count = c.raised-count.result in
    let raised = subst (λ (ys : List ℕ). IsRaised c.args.size ys count) c.as_slice.ensures c.raised-count.ensures in
    let n = c.if-count-eq0.false in
    raised_next c.args.size xs count (omega (arith, n)) raised ∙ ap (λ (ys : List ℕ). xs ∷ tuples_from c.args.size ys) (sym c.raise.ensures)

pub returns-else-count-eq0-clause-below : goal.returns-else-count-eq0-clause-below
returns-else-count-eq0-clause-below c =
    let count = c.raised-count.result in
    let raised = subst (λ (ys : List ℕ). IsRaised c.args.size ys count) c.as_slice.ensures c.raised-count.ensures in
    let n = c.if-count-eq0.false in
    subst (All (λ x. x < c.args.size)) (sym c.raise.ensures) (raised_below c.args.size c.args.tuple.now.items count (omega (arith, n)) raised c.requires)
