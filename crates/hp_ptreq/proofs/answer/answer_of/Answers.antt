use Rattle.std.proofs.Common.{arith, refl}
use Rattle.hp_ptreq.proofs.Labels.{joined_by_label}
use Rattle.hp_lit.specs.declared.literal.PtrLit.{PtrLit}
use Rattle.hp_nodes.proofs.Mentions.{named_left, named_right}
use Rattle.hp_ptreq.proofs.Paths.{are_within, valid_path}
use Rattle.hp_ptreq.proofs.Points.{are_pointers}
use Rattle.hp_ptreq.proofs.answer.answer_of.Goals as goal

pub first_clash-requires-clause-left : goal.first_clash-requires-clause-left
first_clash-requires-clause-left c = named_left PtrLit (λ row. row.left) (λ row. row.right) _ _ c.requires.names.all

pub first_clash-requires-clause-right : goal.first_clash-requires-clause-right
first_clash-requires-clause-right c = named_right PtrLit (λ row. row.left) (λ row. row.right) _ _ c.requires.names.all

pub way_between-requires-clause-within : goal.way_between-requires-clause-within
way_between-requires-clause-within c = rw c.as_slice-joins.ensures (are_within _ _ _ c.requires.classes.each)

pub way_between-requires-clause-joined : goal.way_between-requires-clause-joined
way_between-requires-clause-joined c =
    let clash = c.in-Some.ensures.clash in
    rw c.as_slice-joins.ensures
    (joined_by_label _ c.args.classes.now _ _ _ c.requires.labels c.requires.classes.from (omega (arith, clash.nodes.left_in)) (omega (arith, clash.nodes.right_in)) clash.label)

pub returns-in_ok-path-in-Some : goal.returns-in_ok-path-in-Some
returns-in_ok-path-in-Some c =
    let way = rw c.as_slice-joins.ensures at c.in_ok-path-in-Some.ensures in
    valid_path _ _ _ c.requires.classes.each _ _ _ _ c.in-Some.ensures.clash refl way

pub returns-in_ok-named-in-None : goal.returns-in_ok-named-in-None
returns-in_ok-named-in-None c = are_pointers _ _ _ _ _ c.requires.names c.requires.classes c.requires.labels c.in-None.ensures.none c.in_ok-named-in-None.ensures
