use Rattle.std.proofs.Common.{List, ap, sym}
use Rattle.hp_tree.specs.declared.problem.Sort.TheVariants.{Num}
use Rattle.hp_tree.specs.Value.{Word}
use Rattle.hp_linear.specs.Lins.{lin_of}
use Rattle.hp_base.specs.Making.{◌then◌, computed}
use Rattle.hp_base.specs.Arguments.{argument_of, lin_argument}
use Rattle.hp_base.proofs.Making.{computed_first, computed_second, makes_other}
use Rattle.hp_base.proofs.arguments.num_argument.Goals as goal

pub returns-in_err-lin-clause-made : goal.returns-in_err-lin-clause-made
returns-in_err-lin-clause-made c =
    let g = c.args.g.now in
    let wanted = lin_of c.words.result.now c.args.term.now in
    makes_other (λ h. computed c.args.item wanted h then lin_argument c.args.item) (argument_of c.args.item Num c.args.term.now) g g c.from_residual.result
    (ap (λ (ws : List Word). computed c.args.item (lin_of ws c.args.term.now) g then lin_argument c.args.item) (sym c.words.ensures.words))
    (computed_first c.args.item wanted (lin_argument c.args.item) g c.in_err-lin.field-0.0 c.from_residual.result (c.in_err-lin.ensures wanted g c.linear_form.ensures) c.from_residual.ensures.1)

pub returns-clause-made : goal.returns-clause-made
returns-clause-made c =
    let g = c.args.g.now in
    let wanted = lin_of c.words.result.now c.args.term.now in
    makes_other (λ h. computed c.args.item wanted h then lin_argument c.args.item) (argument_of c.args.item Num c.args.term.now) g c.lin_argument.new.g c.lin_argument.result
    (ap (λ (ws : List Word). computed c.args.item (lin_of ws c.args.term.now) g then lin_argument c.args.item) (sym c.words.ensures.words))
    (computed_second c.args.item wanted (lin_argument c.args.item) c.in_ok-lin.lin g c.lin_argument.new.g c.lin_argument.result (c.in_ok-lin.ensures wanted g c.linear_form.ensures) c.lin_argument.ensures.made)
