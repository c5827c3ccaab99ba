use Rattle.std.proofs.Common.{◌≤◌, List, map, inl, inr, sym, ap, subst, ◌∙◌, arith}
use Rattle.std.specs.Prelude.{position}
use Rattle.std.specs.Str.{bytes_eq}
use Rattle.std.specs.List.{All}
use Rattle.std.proofs.lemmas.List.Elements.{All-nil, All-push}
use Rattle.hp_tree.specs.declared.term.Term.{Term}
use Rattle.hp_tree.specs.declared.problem.Sort.{Sort}
use Rattle.hp_tree.specs.Value.{Word}
use Rattle.hp_terms.specs.Weight.{weight}
use Rattle.hp_defs.specs.Made.{IsSmallArg}
use Rattle.hp_defs.specs.Names.{function_words}
use Rattle.hp_base.proofs.Each.{under_start, under_more, under_err, under_end}
use Rattle.hp_norm.specs.Loads.{ArgumentsAreLight, load}
use Rattle.hp_norm.specs.Naming.{named, placed_argument}
use Rattle.hp_norm.specs.Scopes.{term_scope}
use Rattle.hp_norm.proofs.Applied.{application_made}
use Rattle.hp_norm.proofs.Loads.{difference_later, difference_light, light_at, light_of, multiple_light, negation_light, place_later, sum_light}
use Rattle.hp_norm.proofs.Placed.{deep_at, placed_next, placed_over, right_falls}
use Rattle.hp_norm.proofs.naming.+named.Goals as goal

pub application_at-returns-clause-made : goal.application_at-returns-clause-made
application_at-returns-clause-made t c =
    application_made c.args.item (map (named c.args.item) c.args.args.now) c.args.at c.signature-signature.result.now c.as_slice-2.result.now
    c.args.ground.now c.arguments.new.ground c.definition.new.g c.in_ok-args.args c.in_ok-name.name c.in_ok-word.word
    c.signature-signature.ensures (c.as_slice-2.ensures ∙ c.in_ok-sorts.ensures ∙ c.as_slice.ensures) c.in_ok-args.ensures.made c.in_ok-name.ensures.made c.in_ok-word.ensures

pub application-application_at-requires : goal.application-application_at-requires
application-application_at-requires t c =
    let found = ap (λ (w : Word). position (bytes_eq w) (function_words c.args.ground.now.names)) (sym c.as_slice.ensures) ∙ sym c.in-Some.ensures.position in
    (grind arith, (c.in-Some.ensures.within, λ signature there. light_of c.args.ground.now.names c.args.func.now c.args.args.now c.in-Some.at signature found there c.requires))

pub application_at-arguments-requires : goal.application_at-arguments-requires
application_at-arguments-requires t c =
    let same = c.as_slice-2.ensures ∙ c.in_ok-sorts.ensures ∙ c.as_slice.ensures in
    (grind arith, subst (λ (ss : List Sort). ArgumentsAreLight c.args.ground.now.names ss c.args.args.now) (sym same) (c.requires.light c.signature-signature.result.now c.signature-signature.ensures))

pub arguments-loop-at-init : goal.arguments-loop-at-init
arguments-loop-at-init t c = (under_start _ _ _ _ c.new-all.ensures, subst (All IsSmallArg) (sym c.new-all.ensures) (All-nil IsSmallArg))

pub arguments-placed_argument-requires : goal.arguments-placed_argument-requires
arguments-placed_argument-requires t c =
    let light = light_at c.args.ground.now.names c.args.terms.now c.args.sorts.now c.loop-at.at c.index-terms-at.result _ c.loop-at-test.true (omega arith) c.index-terms-at.is c.requires in
    let now = place_later c.args.ground.now c.loop-at.ground _ c.index-terms-at.result c.loop-at.invariant.0.kept light in
    let deep = deep_at c.args.terms.now _ c.index-terms-at.result c.index-terms-at.is (omega arith) in
    (grind (arith, deep), now)

pub arguments-returns-then-at-sorts-clause-made : goal.arguments-returns-then-at-sorts-clause-made
arguments-returns-then-at-sorts-clause-made t c = under_end _ _ _ _ _ _ (placed_over (named c.args.item) c.args.terms.now c.args.sorts.now c.loop-at.at (inr (omega arith))) c.loop-at.invariant.0

pub arguments-returns-in_err-arg-clause-made : goal.arguments-returns-in_err-arg-clause-made
arguments-returns-in_err-arg-clause-made t c =
    under_err (placed_argument c.args.item) _ _ _ (placed_next (named c.args.item) c.args.terms.now c.args.sorts.now c.loop-at.at c.index-terms-at.result _ c.loop-at-test.true (omega arith) c.index-terms-at.is)
    _ _ _ c.loop-at.invariant.0 _ _ _ c.in_err-arg.ensures.made c.from_residual.ensures.1

pub arguments-loop-at-preserved : goal.arguments-loop-at-preserved
arguments-loop-at-preserved t c = (
  under_more (placed_argument c.args.item) _ _ _ (placed_next (named c.args.item) c.args.terms.now c.args.sorts.now c.loop-at.at c.index-terms-at.result _ c.loop-at-test.true (omega arith) c.index-terms-at.is)
      _ _ _ c.loop-at.invariant.0 _ _ _ c.in_ok-arg.ensures.made c.in_ok-arg.ensures.kept c.in_ok-push.ensures.ok,
  subst (All IsSmallArg) (sym c.in_ok-push.ensures.ok) (All-push IsSmallArg c.loop-at.all c.in_ok-arg.arg c.loop-at.invariant.1 c.in_ok-arg.ensures.small),
)

pub arguments-returns-clause-made : goal.arguments-returns-clause-made
arguments-returns-clause-made t c = under_end _ _ _ _ _ _ (placed_over _ _ _ _ (inl c.loop-at-test.false)) c.loop-at.invariant.0

pub named-returns-in_ok-new-in-Add-2-clause-light : goal.named-returns-in_ok-new-in-Add-2-clause-light
named-returns-in_ok-new-in-Add-2-clause-light t c =
    let before = c.args.ground.now in
    let mid = c.named.new.ground in
    let left = subst (λ (p : Term). weight c.in_ok-left-in-Add.left ≤ (load (term_scope before.names) p).own) c.get.ensures c.in_ok-left-in-Add.ensures.light in
    let right = subst (λ (p : Term). weight c.in_ok-right-in-Add.right ≤ (load (term_scope mid.names) p).own) c.get-in-Add.ensures c.in_ok-right-in-Add.ensures.light in
    sum_light before mid c.args.term.now c.in-Add.left c.in-Add.right c.in_ok-new-in-Add.field-0 c.in_ok-new-in-Add-2.field-0 c.named.ensures.kept c.in-Add.is
    (subst (λ (x : Term). weight x ≤ (load (term_scope before.names) c.in-Add.left).own) (sym c.in_ok-new-in-Add.ensures) left)
    (subst (λ (x : Term). weight x ≤ (load (term_scope mid.names) c.in-Add.right).own) (sym c.in_ok-new-in-Add-2.ensures) right)

pub named-returns-in_ok-new-in-Sub-2-clause-light : goal.named-returns-in_ok-new-in-Sub-2-clause-light
named-returns-in_ok-new-in-Sub-2-clause-light t c =
    let before = c.args.ground.now in
    let mid = c.named-in-Sub.new.ground in
    let left = subst (λ (p : Term). weight c.in_ok-left-in-Sub.left ≤ (load (term_scope before.names) p).own) c.get-in-Sub.ensures c.in_ok-left-in-Sub.ensures.light in
    let right = subst (λ (p : Term). weight c.in_ok-right-in-Sub.right ≤ (load (term_scope mid.names) p).own) c.get-in-Sub-2.ensures c.in_ok-right-in-Sub.ensures.light in
    difference_light before mid c.args.term.now c.in-Sub.left c.in-Sub.right c.in_ok-new-in-Sub.field-0 c.in_ok-new-in-Sub-2.field-0 c.named-in-Sub.ensures.kept c.in-Sub.is
    (subst (λ (x : Term). weight x ≤ (load (term_scope before.names) c.in-Sub.left).own) (sym c.in_ok-new-in-Sub.ensures) left)
    (subst (λ (x : Term). weight x ≤ (load (term_scope mid.names) c.in-Sub.right).own) (sym c.in_ok-new-in-Sub-2.ensures) right)

pub named-returns-in_ok-new-in-Neg-clause-light : goal.named-returns-in_ok-new-in-Neg-clause-light
named-returns-in_ok-new-in-Neg-clause-light t c =
    let scope = term_scope c.args.ground.now.names in
    let inner = subst (λ (p : Term). weight c.in_ok-inner-in-Neg.inner ≤ (load scope p).own) c.get-in-Neg.ensures c.in_ok-inner-in-Neg.ensures.light in
    negation_light scope c.args.term.now c.in-Neg.inner c.in_ok-new-in-Neg.field-0 c.in-Neg.is
    (subst (λ (x : Term). weight x ≤ (load scope c.in-Neg.inner).own) (sym c.in_ok-new-in-Neg.ensures) inner)

pub named-returns-in_ok-new-in-Scale-clause-light : goal.named-returns-in_ok-new-in-Scale-clause-light
named-returns-in_ok-new-in-Scale-clause-light t c =
    let scope = term_scope c.args.ground.now.names in
    let inner = subst (λ (p : Term). weight c.in_ok-inner-in-Scale.inner ≤ (load scope p).own) c.get-in-Scale.ensures c.in_ok-inner-in-Scale.ensures.light in
    multiple_light scope c.in-Scale.number c.args.term.now c.in-Scale.inner c.in_ok-new-in-Scale.field-0 c.in-Scale.is
    (subst (λ (x : Term). weight x ≤ (load scope c.in-Scale.inner).own) (sym c.in_ok-new-in-Scale.ensures) inner)

pub named-named-requires-in-Sub-2 : goal.named-named-requires-in-Sub-2
named-named-requires-in-Sub-2 t c =
    let right = c.get-in-Sub-2.result.now in
    let deep = right_falls c.args.term.now c.in-Sub.left c.in-Sub.right right c.in-Sub.is c.get-in-Sub-2.ensures in
    let light = difference_later c.args.ground.now c.named-in-Sub.new.ground c.args.term.now c.in-Sub.left c.in-Sub.right right c.named-in-Sub.ensures.kept c.in-Sub.is c.get-in-Sub-2.ensures c.requires in
    (grind (arith, deep), light)
