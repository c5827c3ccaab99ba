use Rattle.std.proofs.Common.{subst, sym, ◌∙◌}
use Rattle.std.proofs.lemmas.List.{append-nil}
use Rattle.hp_diff.specs.declared.net.Net.{Net}
use Rattle.hp_diff.specs.inner.RowEdges.{Shows}
use Rattle.hp_diff.proofs.States.{cut_again, ready_more}
use Rattle.hp_diff.proofs.state.add_edge.Goals as goal

pub decide_last-requires-clause-ready : goal.decide_last-requires-clause-ready
decide_last-requires-clause-ready c = ready_more _ _ _ _ c.requires.fit c.requires.state c.in_ok-link.ensures.ok

pub returns-in-Ok-Some-clause-ok : goal.returns-in-Ok-Some-clause-ok
returns-in-Ok-Some-clause-ok c =
    let d = rw c.in-Ok-Some.field-0-is at c.in-Ok-Some.ensures.ok in
    let again = cut_again _ c.args.state.now _ _ _ _ c.in_ok-link.ensures.ok d.0.ready d.0.net c.cut.ensures in
    (again.0, again.1, subst (λ (net : Net). Shows net.edges c.in-Ok-Some.steps) c.in_ok-link.ensures.ok d.1)

pub returns-in-Err-clause-err : goal.returns-in-Err-clause-err
returns-in-Err-clause-err c =
    let d = c.in-Err.ensures.err in
    let again = cut_again _ c.args.state.now _ _ _ _ c.in_ok-link.ensures.ok d.ready d.net c.cut-in-Err.ensures in
    (again.0, again.1 ∙ sym (append-nil _))
