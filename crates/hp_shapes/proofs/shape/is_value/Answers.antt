use Rattle.std.proofs.Common.{◌≡◌, ◌∙◌, ap, map, sym, true}
use Rattle.std.specs.Str.{bytes_eq}
use Rattle.hp_shapes.specs.Shapes.{look, one_named}
use Rattle.hp_shapes.proofs.Shapes.{value_read}
use Rattle.hp_shapes.proofs.shape.is_value.Goals as goal

pub returns-then-eq : goal.returns-then-eq
returns-then-eq c =
    let func = c.args.func.now in
    let word = c.args.word.now in
    let same : bytes_eq c.in-Apply.applied func ≡ true =
    (λ i. bytes_eq (sym c.as_slice.ensures i) (sym c.as_slice-in-Apply.ensures i)) ∙ sym c.eq.ensures ∙ c.if-eq.true in
    let args = c.one_named.ensures func ∙ ap (λ ts. one_named (map (look func word) ts)) c.as_slice-then-eq.ensures in
    value_read func word c.in-Apply.applied c.in-Apply.args c.args.term.now c.one_named.result c.in-Apply.is same args
