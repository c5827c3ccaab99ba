use Rattle.std.proofs.Common.{Ok, ap, ◌∙◌, ◌++◌, ◌∷◌, [], List}
use Rattle.hp_lit.specs.declared.line.LinPart.{LinPart}
use Rattle.hp_linear.specs.Lins.{copies}
use Rattle.hp_linear.proofs.Naming.{named_found}
use Rattle.hp_linear.proofs.lin.named_lin.Goals as goal

pub returns : goal.returns
returns c =
    ap Ok (named_found c.args.name c.new.result c.new-2.result c.push.new.summands c.new.ensures c.new-2.ensures
    (c.in_ok-push.ensures.ok ∙ ap (λ (xs : List LinPart). xs ++ copies c.args.name c.new.result ∷ []) c.new-parts.ensures))
