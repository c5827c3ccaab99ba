use Rattle.std.proofs.Common.{sym, subst}
use Rattle.std.specs.List.{All}
use Rattle.std.proofs.lemmas.List.Elements.{All-nil, All-push}
use Rattle.hp_terms.specs.Weight.{IsLightAtom}
use Rattle.hp_base.proofs.Each.{item_next, under_start, under_more, under_err}
use Rattle.hp_norm.proofs.opening.opened_atoms.Goals as goal

pub loop-atom-init : goal.loop-atom-init
loop-atom-init c = (under_start _ _ _ _ c.new-all.ensures, subst (All IsLightAtom) (sym c.new-all.ensures) (All-nil IsLightAtom))

pub returns-in_err-atom-clause-made : goal.returns-in_err-atom-clause-made
returns-in_err-atom-clause-made c =
    under_err _ _ _ _ (item_next _ _ _ c.loop-atom-test.true c.atom-item.is) _ _ _ c.loop-atom.invariant.0 _ _ _ c.in_err-atom.ensures.made c.from_residual.ensures.1

pub loop-atom-preserved : goal.loop-atom-preserved
loop-atom-preserved c = (
  under_more _ _ _ _ (item_next _ _ _ c.loop-atom-test.true c.atom-item.is) _ _ _ c.loop-atom.invariant.0 _ _ _ c.in_ok-atom.ensures.made c.opened_atom.ensures.kept c.in_ok-push.ensures.ok,
  subst (All IsLightAtom) (sym c.in_ok-push.ensures.ok) (All-push IsLightAtom c.loop-atom.all c.in_ok-atom.atom c.loop-atom.invariant.1 c.in_ok-atom.ensures.light),
)
