use Rattle.std.proofs.Common.{List, ap, arith, sym, ◌∙◌}
use Rattle.hp_tree.specs.declared.term.Term.{Term, Apply}
use Rattle.hp_terms.specs.Weight.{largest_offset}
use Rattle.hp_base.proofs.Each.{map_next, under_start, under_more, under_err}
use Rattle.hp_norm.specs.Opening.{opened, run}
use Rattle.hp_norm.proofs.Applications.{opened_kept, opened_named}
use Rattle.hp_norm.proofs.Loads.{light_application}
use Rattle.hp_norm.proofs.Placed.{deep_at, light_at}
use Rattle.hp_norm.proofs.Weighing.{light_start, light_more}
use Rattle.hp_norm.proofs.opening.+opened.Goals as goal

pub opened-returns-then-mentions-clause-made : goal.opened-returns-then-mentions-clause-made
opened-returns-then-mentions-clause-made t c =
    opened_kept c.args.vars.now c.args.item c.args.term.now c.in-Apply.func c.as_slice.result.now
    (c.in-Apply.is ∙ ap (λ (args : List Term). Apply c.in-Apply.func args) (sym c.as_slice.ensures)) c.args.ground.now c.kept_application.new.ground c.kept_application.result
    (sym c.mentions.ensures ∙ c.if-mentions.true) c.kept_application.ensures.made

pub opened-returns-else-mentions-clause-made : goal.opened-returns-else-mentions-clause-made
opened-returns-else-mentions-clause-made t c =
    opened_named c.args.vars.now c.args.item c.args.term.now c.in-Apply.func c.as_slice-else-mentions.result.now
    (c.in-Apply.is ∙ ap (λ (args : List Term). Apply c.in-Apply.func args) (sym c.as_slice-else-mentions.ensures)) c.args.ground.now c.application.new.ground c.application.result
    (sym c.mentions.ensures ∙ c.if-mentions.false) c.application.ensures.made

pub opened-application-requires : goal.opened-application-requires
opened-application-requires t c =
    light_application c.args.ground.now.names c.args.term.now c.in-Apply.func c.in-Apply.args c.as_slice-else-mentions.result.now c.in-Apply.is c.as_slice-else-mentions.ensures c.requires

pub opened_terms-loop-term-init : goal.opened_terms-loop-term-init
opened_terms-loop-term-init t c = (under_start _ _ _ _ c.new-all.ensures, light_start c.new-all.result c.args.terms.now c.new-all.ensures)

pub opened_terms-opened-requires : goal.opened_terms-opened-requires
opened_terms-opened-requires t c =
    let light = light_at c.args.terms.now c.loop-term.term-index c.term-item.result largest_offset c.term-item.is c.loop-term-test.true c.requires in
    let deep = deep_at c.args.terms.now c.loop-term.term-index c.term-item.result c.term-item.is c.loop-term-test.true in
    (grind (arith, deep), light)

pub opened_terms-returns-in_err-flat-clause-made : goal.opened_terms-returns-in_err-flat-clause-made
opened_terms-returns-in_err-flat-clause-made t c =
    under_err run _ _ _ (map_next (opened c.args.vars.now c.args.item) _ _ _ c.loop-term-test.true c.term-item.is) _ _ _ c.loop-term.invariant.0 _ _ _ c.in_err-flat.ensures.made c.from_residual.ensures.1

pub opened_terms-loop-term-preserved : goal.opened_terms-loop-term-preserved
opened_terms-loop-term-preserved t c = (
  under_more run _ _ _ (map_next (opened c.args.vars.now c.args.item) _ _ _ c.loop-term-test.true c.term-item.is) _ _ _ c.loop-term.invariant.0 _ _ _ c.in_ok-flat.ensures.made c.opened.ensures.kept c.in_ok-push.ensures.ok,
  light_more c.args.terms.now c.loop-term.all c.push.new.self c.loop-term.term-index c.term-item.result c.in_ok-flat.flat c.loop-term-test.true c.term-item.is c.in_ok-push.ensures.ok c.in_ok-flat.ensures.light c.loop-term.invariant.1,
)
