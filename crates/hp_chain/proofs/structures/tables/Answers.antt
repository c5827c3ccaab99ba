use Rattle.std.proofs.Common.{List, length, ap, subst, sym, ◌∙◌}
use Rattle.std.specs.List.{All, flat_map}
use Rattle.hp_groups.specs.declared.group.Group.{Group}
use Rattle.hp_groups.specs.contracts.group.GroupLocalClass.TheImpl.{ghosts}
use Rattle.hp_chain.specs.Order.{levels_of}
use Rattle.hp_chain.specs.Slots.{HasPlaces}
use Rattle.hp_chain.proofs.Ascending.{ground_lent, ground_sound, own_places, tables_many, tables_said}
use Rattle.hp_chain.proofs.structures.tables.Goals as goal

pub ascend_groups-requires-clause-lent : goal.ascend_groups-requires-clause-lent
ascend_groups-requires-clause-lent c =
    let chain = c.requires.chain in
    subst (λ (groups : List Group). All (λ k. ghosts.IsLent k c.args.g.now.names) groups) (sym (c.as_slice-groups.ensures ∙ chain.groups)) (ground_lent c.args.p.now c.args.g.now chain.ground)

pub ascend_groups-requires-clause-fit : goal.ascend_groups-requires-clause-fit
ascend_groups-requires-clause-fit c = (ground_sound c.args.p.now c.args.g.now c.requires.chain.ground).names

pub in_order-requires-clause-places : goal.in_order-requires-clause-places
in_order-requires-clause-places c =
    let chain = c.requires.chain in
    let decls = ap (λ ds. levels_of ds) c.as_slice.ensures in
    let many = c.len.ensures ∙ ap length (c.in_ok-levels.ensures ∙ decls) in
    let own = c.as_slice-2.ensures ∙ c.in_ok-places.ensures ∙ ap (flat_map ghosts.own) (c.as_slice-groups.ensures ∙ chain.groups) in
    subst (λ n. HasPlaces n c.as_slice-2.result.now) (sym many)
    (subst (λ places. HasPlaces (length (levels_of c.args.p.now.decls)) places) (sym own) (own_places c.args.p.now c.args.g.now chain.ground))

pub in_order-requires-clause-each : goal.in_order-requires-clause-each
in_order-requires-clause-each c =
    let chain = c.requires.chain in
    tables_many c.args.p.now c.args.g.now chain.ground c.as_slice-groups.result.now c.args.size c.args.values.now c.in-Ok.made c.as_slice-2.result.now
    (c.as_slice-groups.ensures ∙ chain.groups) (c.as_slice-2.ensures ∙ c.in_ok-places.ensures) c.in-Ok.ensures.tables

pub returns : goal.returns
returns c =
    let chain = c.requires.chain in
    let decls = ap (λ ds. levels_of ds) c.as_slice.ensures in
    let many = c.len.ensures ∙ ap length (c.in_ok-levels.ensures ∙ decls) in
    tables_said c.args.p.now c.args.g.now chain.ground c.as_slice-groups.result.now c.args.size c.args.values.now c.len.result c.in-Ok.made c.as_slice-2.result.now c.in_order.result
    (c.as_slice-groups.ensures ∙ chain.groups) many (c.as_slice-2.ensures ∙ c.in_ok-places.ensures) c.in-Ok.ensures.tables c.in_order.ensures
