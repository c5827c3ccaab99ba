use Rattle.std.proofs.Common.{◌≡◌, ◌++◌, List, OnOk, subst, sym}
use Rattle.hp_lit.specs.declared.line.LinPart.{LinPart}
use Rattle.hp_linear.proofs.Merging.{other_kept}
use Rattle.hp_linear.proofs.parts.push_unless_zero.Goals as goal

pub returns-else-is_zero-clause-ok : goal.returns-else-is_zero-clause-ok
returns-else-is_zero-clause-ok c =
    subst (λ (xs : List LinPart). OnOk c.push.result (c.push.new.summands ≡ c.args.summands.now ++ xs))
    (sym (other_kept c.args.name c.args.coef (λ e. absurd (let t = c.is_zero.ensures.1 e in let f = c.if-is_zero.false in cc)))) c.push.ensures.ok
