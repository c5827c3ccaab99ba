use Rattle.std.proofs.Common.{sym, subst}
use Rattle.hp_terms.specs.Weight.{IsSmallOffset}
use Rattle.hp_index.specs.declared.form.IndexForm.{IndexForm}
use Rattle.hp_index.proofs.Bounds.{small_offset}
use Rattle.hp_base.proofs.arguments.small_form.Goals as goal

pub returns-in-Some-clause-small : goal.returns-in-Some-clause-small
returns-in-Some-clause-small c =
    subst (λ (g : IndexForm). IsSmallOffset g.offset) (sym c.in-Some.ensures.0) (small_offset c.args.index.now c.args.term.now c.requires.light)
