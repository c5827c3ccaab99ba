use Rattle.std.proofs.Common.{◌∙◌, false, List, ap, sym, subst}
use Rattle.std.specs.Prelude.{slice_get}
use Rattle.hp_defs.specs.Names.{sorts}
use Rattle.hp_leaf.specs.Tree.{IsSpent}
use Rattle.hp_cert.specs.Entries.{AreSplitLines}
use Rattle.hp_search.specs.Search.{IsFound}
use Rattle.hp_lit.specs.Sorts.{AreOfSorts}
use Rattle.hp_tree.specs.declared.problem.Sort.{Sort}
use Rattle.hp_chain.proofs.FitGround.{ground_sets_are_fit}
use Rattle.hp_solve.proofs.Grounded.{names_named, names_on_one_line}
use Rattle.hp_solve.proofs.Splits.{closed_reading, closed_splits, spent_reading, spent_splits}
use Rattle.hp_solve.proofs.Verdicts.{sat_from, none_from}
use Rattle.hp_solve.proofs.solving.verdict.Goals as goal

pub ascend-requires-clause-sorted : goal.ascend-requires-clause-sorted
ascend-requires-clause-sorted c =
    let g = c.args.g.now in
    let found = subst (λ f. IsFound (sorts g.names) g.lines c.args.most false f) c.in-Model.is c.requires.found in
    subst (λ (ss : List Sort). AreOfSorts ss c.in-Model.solution.values.values) (sym c.requires.sorts) found.model.sorted

pub ascend-requires-clause-small : goal.ascend-requires-clause-small
ascend-requires-clause-small c = λ n at.
    let g = c.args.g.now in
    let found = subst (λ f. IsFound (sorts g.names) g.lines c.args.most false f) c.in-Model.is c.requires.found in
    let small = found.model.small n (ap (λ (ss : List Sort). slice_get ss n) (sym c.requires.sorts) ∙ at) in
    record { low = small.low; high = small.high }

pub returns-in-Ok : goal.returns-in-Ok
returns-in-Ok c =
    let g = c.args.g.now in
    let found = subst (λ f. IsFound (sorts g.names) g.lines c.args.most false f) c.in-Model.is c.requires.found in
    sat_from c.args.p.now g c.in-Model.solution.path c.in-Model.solution.values c.in-Ok.structure c.requires.chain.ground c.requires.scope found.model
    (c.in-Ok.ensures c.requires.chain.ground)

pub entries-requires-clause-named : goal.entries-requires-clause-named
entries-requires-clause-named c = names_named c.args.g.now.names (ground_sets_are_fit c.args.p.now c.args.g.now c.requires.chain.ground).names

pub entries-requires-clause-splits : goal.entries-requires-clause-splits
entries-requires-clause-splits c =
    let g = c.args.g.now in
    closed_splits g c.in-Closed.tree (subst (λ f. IsFound (sorts g.names) g.lines c.args.most false f) c.in-Closed.is c.requires.found)

pub returns-in-Ok-entries : goal.returns-in-Ok-entries
returns-in-Ok-entries c =
    let g = c.args.g.now in
    let closed = subst (λ f. IsFound (sorts g.names) g.lines c.args.most false f) c.in-Closed.is c.requires.found in
    record {
      scope = c.requires.scope;
      lines = g;
      ground = c.requires.chain.ground;
      refuted = c.in-Ok-entries.ensures.refutes closed;
      defs = c.in-Ok-entries.ensures.defs;
      listed = subst (λ tree. AreSplitLines g tree c.in-Ok-entries.refutation.lines) (sym c.in-Ok-entries.ensures.tree) c.in-Ok-entries.ensures.lines;
      spelled = λ named. c.in-Ok-entries.ensures.spelled (names_on_one_line c.args.p.now g c.requires.chain.ground named) (closed_reading g c.in-Closed.tree closed);
      none = none_from c.args.p.now g c.in-Closed.tree c.requires.chain.ground closed;
    }

pub entries-requires-in-Spent-clause-named : goal.entries-requires-in-Spent-clause-named
entries-requires-in-Spent-clause-named c = names_named c.args.g.now.names (ground_sets_are_fit c.args.p.now c.args.g.now c.requires.chain.ground).names

pub entries-requires-in-Spent-clause-splits : goal.entries-requires-in-Spent-clause-splits
entries-requires-in-Spent-clause-splits c =
    let g = c.args.g.now in
    spent_splits (sorts g.names) g c.in-Spent.tree c.args.most (subst (λ f. IsFound (sorts g.names) g.lines c.args.most false f) c.in-Spent.is c.requires.found)

pub returns-in-Ok-entries-2 : goal.returns-in-Ok-entries-2
returns-in-Ok-entries-2 c =
    let g = c.args.g.now in
    let spent = subst (λ f. IsFound (sorts g.names) g.lines c.args.most false f) c.in-Spent.is c.requires.found in
    let e = c.in-Ok-entries-2.ensures in
    record {
      scope = c.requires.scope;
      lines = g;
      ground = c.requires.chain.ground;
      honest = subst (λ tree. IsSpent (sorts g.names) g.lines tree c.args.most) (sym e.tree) spent;
      defs = e.defs;
      listed = subst (λ tree. AreSplitLines g tree c.in-Ok-entries-2.listing.lines) (sym e.tree) e.lines;
      spelled = λ named. e.spelled (names_on_one_line c.args.p.now g c.requires.chain.ground named) (spent_reading (sorts g.names) g c.in-Spent.tree c.args.most spent);
    }
