use Rattle.std.proofs.Common.{◌≡◌, ◌⊎◌, inl, inr, ◌%◌, ◌∙◌}
use Rattle.hp_num.proofs.Compare.{by_wholes, by_rests, by_zero, turned}
use Rattle.hp_num.proofs.frac.+compare.Goals as goal

pub returns-then-left_whole-right_whole : goal.returns-then-left_whole-right_whole
returns-then-left_whole-right_whole t c =
    c.cmp.ensures ∙ by_wholes c.args.a c.args.b c.args.c c.args.d c.requires.left_positive c.requires.right_positive c.if-left_whole-right_whole.true

pub returns-then-left_rest-eq0 : goal.returns-then-left_rest-eq0
returns-then-left_rest-eq0 t c =
    let a = c.args.a in let b = c.args.b in let d = c.args.d in
    let zero : (a % b ≡ 0) ⊎ (c.args.c % d ≡ 0) = elim c.then-left_rest-eq0.either [ inl e ↦ inl e | inr e ↦ inr e.1 ] in
    c.cmp-then-left_rest-eq0.ensures
    ∙ by_zero (a % b) (c.args.c % d) b d c.requires.left_positive c.requires.right_positive zero
    ∙ by_rests a b c.args.c d c.requires.left_positive c.requires.right_positive c.if-left_whole-right_whole.false

pub returns : goal.returns
returns t c =
    c.compare.ensures ∙ turned (c.args.a % c.args.b) (c.args.c % c.args.d) c.args.b c.args.d
    ∙ by_rests c.args.a c.args.b c.args.c c.args.d c.requires.left_positive c.requires.right_positive c.if-left_whole-right_whole.false
