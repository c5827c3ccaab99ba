use Rattle.std.proofs.Common.{◌<◌, ◌∙◌, ℕ, List, length, ap, arith, subst, sym}
use Rattle.std.specs.List.{All}
use Rattle.hp_norm.specs.declared.flat.FlatClause.{FlatClause}
use Rattle.hp_ruled.specs.Laws.{AreRuled}
use Rattle.hp_chain.specs.Order.{places_below}
use Rattle.hp_groups.specs.Laws.{IsWhole}
use Rattle.hp_chain.proofs.Chained.{are_ruled, order_known, order_whole}
use Rattle.hp_chain.proofs.Levels.{levels_few}
use Rattle.hp_chain.proofs.chain.groups_in_turn.Goals as goal

pub function_order-requires : goal.function_order-requires
function_order-requires c =
    let many = ap length c.requires.levels in
    omega (arith, many, levels_few c.args.p.now.decls, c.requires.items)

pub groups-requires-clause-ruled : goal.groups-requires-clause-ruled
groups-requires-clause-ruled c =
    let flat = c.args.flat.now in
    let taken = c.requires.taken in
    subst (λ (cs : List FlatClause). AreRuled flat.ground.names cs c.args.ruled.now) (sym c.as_slice.ensures)
    (are_ruled c.args.p.now flat.clauses flat.ground c.args.ruled.now c.requires.able c.requires.limits taken.named c.requires.plain taken.rules_give)

pub groups-requires-clause-known : goal.groups-requires-clause-known
groups-requires-clause-known c =
    let flat = c.args.flat.now in
    subst (λ (ks : List ℕ). All (λ k. k < length flat.ground.names.signatures) ks) (sym (c.as_slice-2.ensures ∙ c.in_ok-order.ensures ∙ ap (λ ls. places_below 16 ls) c.requires.levels))
    (order_known c.args.p.now flat.clauses flat.ground c.requires.able c.requires.limits c.requires.taken.named)

pub groups-requires-clause-whole : goal.groups-requires-clause-whole
groups-requires-clause-whole c =
    let flat = c.args.flat.now in
    subst (λ (ks : List ℕ). IsWhole flat.ground.names.signatures ks) (sym (c.as_slice-2.ensures ∙ c.in_ok-order.ensures ∙ ap (λ ls. places_below 16 ls) c.requires.levels))
    (order_whole c.args.p.now flat.clauses flat.ground c.requires.able c.requires.limits c.requires.taken.named)
