use Rattle.std.proofs.Common.{List, ◌+◌, sym, subst, take}
use Rattle.std.specs.List.{AllZip}
use Rattle.std.proofs.lemmas.List.Elements.{All-get_or, all_zip_more}
use Rattle.hp_tree.specs.declared.problem.Atom.{Atom}
use Rattle.hp_base.proofs.Each.{item_next, under_start, under_more, under_err}
use Rattle.hp_norm.specs.Loads.{IsLightWithin, WeighsNoMore}
use Rattle.hp_norm.specs.Scopes.{term_scope}
use Rattle.hp_norm.proofs.Loads.{no_more_later, within_later}
use Rattle.hp_norm.proofs.naming.named_atoms.Goals as goal

pub loop-atom-init : goal.loop-atom-init
loop-atom-init c = (under_start _ _ _ _ c.new-all.ensures, subst (λ (xs : List Atom). AllZip (WeighsNoMore (term_scope c.args.ground.now.names)) (take 0 c.args.atoms.now) xs) (sym c.new-all.ensures) tt)

pub named_atom-requires : goal.named_atom-requires
named_atom-requires c =
    let before = c.args.ground.now in
    within_later before c.loop-atom.ground c.atom-item.result c.loop-atom.invariant.0.kept
    (subst (IsLightWithin (term_scope before.names)) (sym c.atom-item.is) (All-get_or (IsLightWithin (term_scope before.names)) c.args.atoms.now c.loop-atom.atom-index c.atom-item.result c.loop-atom-test.true c.requires))

pub returns-in_err-atom-clause-made : goal.returns-in_err-atom-clause-made
returns-in_err-atom-clause-made c =
    under_err _ _ _ _ (item_next _ _ _ c.loop-atom-test.true c.atom-item.is) _ _ _ c.loop-atom.invariant.0 _ _ _ c.in_err-atom.ensures.made c.from_residual.ensures.1

pub loop-atom-preserved : goal.loop-atom-preserved
loop-atom-preserved c = (
  under_more _ _ _ _ (item_next _ _ _ c.loop-atom-test.true c.atom-item.is) _ _ _ c.loop-atom.invariant.0 _ _ _ c.in_ok-atom.ensures.made c.named_atom.ensures.kept c.in_ok-push.ensures.ok,
  subst (λ (xs : List Atom). AllZip (WeighsNoMore (term_scope c.args.ground.now.names)) (take (c.loop-atom.atom-index + 1) c.args.atoms.now) xs) (sym c.in_ok-push.ensures.ok)
      (all_zip_more (WeighsNoMore (term_scope c.args.ground.now.names)) c.args.atoms.now c.loop-atom.all c.loop-atom.atom-index c.atom-item.result c.in_ok-atom.atom c.loop-atom-test.true c.atom-item.is c.loop-atom.invariant.1
      (no_more_later c.args.ground.now c.loop-atom.ground c.atom-item.result c.in_ok-atom.atom c.loop-atom.invariant.0.kept c.in_ok-atom.ensures.light)),
)
