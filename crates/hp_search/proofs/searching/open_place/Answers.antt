use Rattle.std.proofs.Common.{◌≤◌, ◌∙◌, ap, length, subst, sym, Err, IfErr}
use Rattle.std.proofs.lemmas.Result.{err_from_is_err_and}
use Rattle.hp_search.specs.Search.{IsCause, IsCauseWithin, Sees}
use Rattle.hp_search.proofs.Opening as opening
use Rattle.hp_search.proofs.searching.open_place.Goals as goal

pub look-requires-clause-path : goal.look-requires-clause-path
look-requires-clause-path c = subst (λ p. length p ≤ 50000) (sym c.as_slice.ensures) (opening.path_small _ _ c.args.tree.now c.args.tree.now _ c.args.exact c.requires.at 50000 c.requires.lines)

pub returns-in-Model-clause-turned : goal.returns-in-Model-clause-turned
returns-in-Model-clause-turned c =
    let seen = subst (λ p. Sees c.args.sorts.now c.args.lines.now p c.args.exact c.in_ok-values.field-0) c.as_slice.ensures c.in_ok-values.ensures.seen in
    opening.seen_model _ _ c.args.tree.now c.args.tree.now _ c.args.exact c.requires.at _ _ _ seen c.in-Model.is

pub returns-then-branch-clause-turned : goal.returns-then-branch-clause-turned
returns-then-branch-clause-turned c =
    let seen = subst (λ p. Sees c.args.sorts.now c.args.lines.now p c.args.exact c.in_ok-values.field-0) c.as_slice.ensures c.in_ok-values.ensures.seen in
    opening.split_next _ _ _ _ _ c.args.exact c.requires.at c.in-Split.line _ _ _ seen c.in-Split.is c.in_ok-push-in-Split.ensures.ok c.in_ok-enter-in-Split.ensures c.if-branch.true

pub returns-else-branch-clause-turned : goal.returns-else-branch-clause-turned
returns-else-branch-clause-turned c =
    let seen = subst (λ p. Sees c.args.sorts.now c.args.lines.now p c.args.exact c.in_ok-values.field-0) c.as_slice.ensures c.in_ok-values.ensures.seen in
    opening.split_end _ _ _ _ _ c.args.exact c.requires.at c.in-Split.line _ c.enter.new.path _ seen c.in-Split.is c.in_ok-push-in-Split.ensures.ok c.in_ok-enter-in-Split.ensures c.if-branch.false

pub returns-then-branch-2-clause-turned : goal.returns-then-branch-2-clause-turned
returns-then-branch-2-clause-turned c =
    let seen = subst (λ p. Sees c.args.sorts.now c.args.lines.now p c.args.exact c.in_ok-values.field-0) c.as_slice.ensures c.in_ok-values.ensures.seen in
    opening.leaf_next _ _ _ _ _ c.args.exact c.requires.at c.in-Leaf.proof _ _ _ seen c.in-Leaf.is c.in_ok-push-in-Leaf.ensures.ok c.in_ok-go_on-in-Leaf.ensures c.if-branch-2.true

pub returns-else-branch-2-clause-turned : goal.returns-else-branch-2-clause-turned
returns-else-branch-2-clause-turned c =
    let seen = subst (λ p. Sees c.args.sorts.now c.args.lines.now p c.args.exact c.in_ok-values.field-0) c.as_slice.ensures c.in_ok-values.ensures.seen in
    opening.leaf_end _ _ _ _ _ c.args.exact c.requires.at c.in-Leaf.proof _ c.go_on.new.path _ seen c.in-Leaf.is c.in_ok-push-in-Leaf.ensures.ok c.in_ok-go_on-in-Leaf.ensures c.if-branch-2.false

pub returns-in_err-values-clause-cause : goal.returns-in_err-values-clause-cause
returns-in_err-values-clause-cause c =
    let ss = c.args.sorts.now in
    let lines = c.args.lines.now in
    let e = c.in_err-values.field-0.0 in
    let here = subst (λ p. IsCauseWithin lines p e) c.as_slice.ensures c.in_err-values.ensures.strained in
    let cause = opening.cause_here _ _ c.args.tree.now c.args.tree.now _ c.args.exact c.requires.at e here in
    let handed = err_from_is_err_and c.from_residual.result c.from_residual.ensures.1 in
    subst (λ r. IfErr r (IsCause ss lines)) (sym (handed.1 ∙ ap (λ w. Err w) handed.2)) cause
