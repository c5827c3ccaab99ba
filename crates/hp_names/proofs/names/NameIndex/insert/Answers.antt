use Rattle.std.proofs.Common.{subst, List, ℕ, map}
use Rattle.hp_names.specs.Names.{Added}
use Rattle.hp_names.proofs.Distinct.{distinct_added}
use Rattle.hp_names.proofs.Numbering.{added-fresh, added-map}
use Rattle.hp_names.proofs.names.NameIndex.insert.Goals as goal

pub returns-clause-added : goal.returns-clause-added
returns-clause-added c =
    let e = c.in_ok-insert.ensures in
    let keys = c.self.inside.set.keys in
    let new = map (λ name. name.items) c.insert.new.self.keys in
    let b = c.in_ok-insert.field-0 in
    let added = added-map (λ name. name.items) keys c.insert.new.self.keys c.in_ok-owned.owned b e.added e.keys in
    let named = subst (λ (name : List ℕ). Added (map (λ name. name.items) keys) name new b) c.in_ok-owned.ensures.items added in
    subst (λ (old : List (List ℕ)). Added old c.args.name.now new b) c.self.view_is named

pub returns-clause-fresh : goal.returns-clause-fresh
returns-clause-fresh c = added-fresh c.args.self.now c.args.name.now (map (λ name. name.items) c.insert.new.self.keys) c.in_ok-insert.field-0 (returns-clause-added c)

pub invariant_of-self-2 : goal.invariant_of-self-2
invariant_of-self-2 c =
    let e = c.in_ok-insert.ensures in
    let keys = c.self.inside.set.keys in
    let name = c.in_ok-owned.owned in
    let new = c.insert.new.self.keys in
    let b = c.in_ok-insert.field-0 in
    distinct_added (map (λ name. name.items) keys) name.items (map (λ name. name.items) new) b (added-map (λ name. name.items) keys new name b e.added e.keys) c.self.invariant

pub returns-clause-distinct : goal.returns-clause-distinct
returns-clause-distinct c = invariant_of-self-2 c
