use Rattle.std.proofs.Common.{◌≡◌, List, Ok, subst, sym, ◌∙◌}
use Rattle.std.specs.List.{AllZip}
use Rattle.hp_tree.specs.declared.problem.Atom.{Atom}
use Rattle.hp_norm.specs.Loads.{WeighsNoMore}
use Rattle.hp_norm.specs.Naming.{named_atoms}
use Rattle.hp_norm.specs.Scopes.{clause_scope, term_scope}
use Rattle.hp_instance.specs.declared.tuple.Tuple.{Tuple}
use Rattle.hp_instance.specs.Instances.{atom_sorts}
use Rattle.hp_instance.proofs.InstanceSteps.{answers_at, instance_given, instance_refused, wanted}
use Rattle.hp_instance.proofs.InstancesLight.{first_light, first_sorted, later_light, later_sorted, put_is, sorts_are}
use Rattle.hp_instance.proofs.Replaced.{args_known}
use Rattle.hp_instance.proofs.instances.instantiate.Goals as goal

pub arg_terms-requires-clause-known : goal.arg_terms-requires-clause-known
arg_terms-requires-clause-known c = args_known c.args.ground.now.names c.args.c.now.vars c.args.args.now c.requires.sorted

pub named_atoms-requires : goal.named_atoms-requires
named_atoms-requires c =
    let g = c.args.ground.now in
    let clause = c.args.c.now in
    let args = c.args.args.now in
    let guard_is = put_is g clause args c.as_slice-vars.result.now c.as_slice.result.now c.as_slice-2.result.now clause.guard c.as_slice-7.result.now c.as_slice-vars.ensures
    (c.as_slice.ensures ∙ c.in_ok-terms.ensures) c.as_slice-2.ensures (c.as_slice-7.ensures ∙ c.in_ok-guard.ensures) in
    first_light g clause args clause.guard c.as_slice-7.result.now guard_is c.requires.guard

pub named_atoms-requires-2 : goal.named_atoms-requires-2
named_atoms-requires-2 c =
    let g = c.args.ground.now in
    let clause = c.args.c.now in
    let args = c.args.args.now in
    let head_is = put_is g clause args c.as_slice-vars.result.now c.as_slice-3.result.now c.as_slice-4.result.now clause.head c.as_slice-8.result.now c.as_slice-vars.ensures
    (c.as_slice-3.ensures ∙ c.in_ok-terms.ensures) c.as_slice-4.ensures (c.as_slice-8.ensures ∙ c.in_ok-head.ensures) in
    later_light g clause args c.named_atoms.new.ground clause.head c.as_slice-8.result.now c.named_atoms.ensures.kept head_is c.requires.head

pub sorted_literals-lits-requires-clause-guard : goal.sorted_literals-lits-requires-clause-guard
sorted_literals-lits-requires-clause-guard c =
    let g = c.args.ground.now in
    let clause = c.args.c.now in
    let args = c.args.args.now in
    let guard_is = put_is g clause args c.as_slice-vars.result.now c.as_slice.result.now c.as_slice-2.result.now clause.guard c.as_slice-7.result.now c.as_slice-vars.ensures
    (c.as_slice.ensures ∙ c.in_ok-terms.ensures) c.as_slice-2.ensures (c.as_slice-7.ensures ∙ c.in_ok-guard.ensures) in
    let guard_sorts_are = sorts_are g clause args c.as_slice-vars.result.now c.as_slice-5.result.now clause.guard c.as_slice-9.result.now c.as_slice-vars.ensures c.as_slice-5.ensures
    (c.as_slice-9.ensures ∙ c.in_ok-guard_sorts.ensures) in
    first_sorted g clause args clause.guard c.as_slice-7.result.now c.as_slice-10.result.now c.as_slice-9.result.now guard_is guard_sorts_are c.requires.guard
    (subst (λ (xs : List Atom). AllZip (WeighsNoMore (term_scope g.names)) c.as_slice-7.result.now xs) (sym c.as_slice-10.ensures) c.in_ok-guard-2.ensures.light)

pub sorted_literals-lits-requires-clause-head : goal.sorted_literals-lits-requires-clause-head
sorted_literals-lits-requires-clause-head c =
    let g = c.args.ground.now in
    let clause = c.args.c.now in
    let args = c.args.args.now in
    let head_is = put_is g clause args c.as_slice-vars.result.now c.as_slice-3.result.now c.as_slice-4.result.now clause.head c.as_slice-8.result.now c.as_slice-vars.ensures
    (c.as_slice-3.ensures ∙ c.in_ok-terms.ensures) c.as_slice-4.ensures (c.as_slice-8.ensures ∙ c.in_ok-head.ensures) in
    let head_sorts_are = sorts_are g clause args c.as_slice-vars.result.now c.as_slice-6.result.now clause.head c.as_slice-11.result.now c.as_slice-vars.ensures c.as_slice-6.ensures
    (c.as_slice-11.ensures ∙ c.in_ok-head_sorts.ensures) in
    let mid = c.named_atoms.new.ground in
    later_sorted g clause args mid clause.head c.as_slice-8.result.now c.as_slice-12.result.now c.as_slice-11.result.now c.named_atoms.ensures.kept head_is head_sorts_are c.requires.head
    (subst (λ (xs : List Atom). AllZip (WeighsNoMore (term_scope mid.names)) c.as_slice-8.result.now xs) (sym c.as_slice-12.ensures) c.in_ok-head-2.ensures.light)

pub returns-in_err-lits-clause-made : goal.returns-in_err-lits-clause-made
returns-in_err-lits-clause-made c =
    let g = c.args.ground.now in
    let clause = c.args.c.now in
    let args = c.args.args.now in
    let guard_is = put_is g clause args c.as_slice-vars.result.now c.as_slice.result.now c.as_slice-2.result.now clause.guard c.as_slice-7.result.now c.as_slice-vars.ensures
    (c.as_slice.ensures ∙ c.in_ok-terms.ensures) c.as_slice-2.ensures (c.as_slice-7.ensures ∙ c.in_ok-guard.ensures) in
    let head_is = put_is g clause args c.as_slice-vars.result.now c.as_slice-3.result.now c.as_slice-4.result.now clause.head c.as_slice-8.result.now c.as_slice-vars.ensures
    (c.as_slice-3.ensures ∙ c.in_ok-terms.ensures) c.as_slice-4.ensures (c.as_slice-8.ensures ∙ c.in_ok-head.ensures) in
    let guard_sorts_are = sorts_are g clause args c.as_slice-vars.result.now c.as_slice-5.result.now clause.guard c.as_slice-9.result.now c.as_slice-vars.ensures c.as_slice-5.ensures
    (c.as_slice-9.ensures ∙ c.in_ok-guard_sorts.ensures) in
    let head_sorts_are = sorts_are g clause args c.as_slice-vars.result.now c.as_slice-6.result.now clause.head c.as_slice-11.result.now c.as_slice-vars.ensures c.as_slice-6.ensures
    (c.as_slice-11.ensures ∙ c.in_ok-head_sorts.ensures) in
    let mid = c.named_atoms.new.ground in
    let end = c.named_atoms-2.new.ground in
    let guard = c.in_ok-guard-2.guard in
    let head = c.in_ok-head-2.head in
    let t : Tuple = record { args = args; shown = c.args.shown.now } in
    let guard_named = subst (λ (xs : List Atom). named_atoms clause.item xs g ≡ Ok (guard, mid)) guard_is c.in_ok-guard-2.ensures.made in
    let head_named = subst (λ (xs : List Atom). named_atoms clause.item xs mid ≡ Ok (head, end)) head_is c.in_ok-head-2.ensures.made in
    let lits = answers_at end.names c.as_slice-9.result.now (atom_sorts (clause_scope g.names clause.vars) clause.guard) c.as_slice-10.result.now guard
    c.as_slice-11.result.now (atom_sorts (clause_scope g.names clause.vars) clause.head) c.as_slice-12.result.now head c.sorted_literals-lits.result
    guard_sorts_are c.as_slice-10.ensures head_sorts_are c.as_slice-12.ensures c.sorted_literals-lits.ensures in
    let all = wanted clause t g mid end guard head in
    instance_refused clause t g mid end guard head c.in_err-lits.field-0.0 c.from_residual-in_err-lits.result (guard_named, head_named) (c.in_err-lits.ensures all end lits) c.from_residual-in_err-lits.ensures.1

pub returns-clause-made : goal.returns-clause-made
returns-clause-made c =
    let g = c.args.ground.now in
    let clause = c.args.c.now in
    let args = c.args.args.now in
    let guard_is = put_is g clause args c.as_slice-vars.result.now c.as_slice.result.now c.as_slice-2.result.now clause.guard c.as_slice-7.result.now c.as_slice-vars.ensures
    (c.as_slice.ensures ∙ c.in_ok-terms.ensures) c.as_slice-2.ensures (c.as_slice-7.ensures ∙ c.in_ok-guard.ensures) in
    let head_is = put_is g clause args c.as_slice-vars.result.now c.as_slice-3.result.now c.as_slice-4.result.now clause.head c.as_slice-8.result.now c.as_slice-vars.ensures
    (c.as_slice-3.ensures ∙ c.in_ok-terms.ensures) c.as_slice-4.ensures (c.as_slice-8.ensures ∙ c.in_ok-head.ensures) in
    let guard_sorts_are = sorts_are g clause args c.as_slice-vars.result.now c.as_slice-5.result.now clause.guard c.as_slice-9.result.now c.as_slice-vars.ensures c.as_slice-5.ensures
    (c.as_slice-9.ensures ∙ c.in_ok-guard_sorts.ensures) in
    let head_sorts_are = sorts_are g clause args c.as_slice-vars.result.now c.as_slice-6.result.now clause.head c.as_slice-11.result.now c.as_slice-vars.ensures c.as_slice-6.ensures
    (c.as_slice-11.ensures ∙ c.in_ok-head_sorts.ensures) in
    let mid = c.named_atoms.new.ground in
    let end = c.named_atoms-2.new.ground in
    let guard = c.in_ok-guard-2.guard in
    let head = c.in_ok-head-2.head in
    let t : Tuple = record { args = args; shown = c.args.shown.now } in
    let guard_named = subst (λ (xs : List Atom). named_atoms clause.item xs g ≡ Ok (guard, mid)) guard_is c.in_ok-guard-2.ensures.made in
    let head_named = subst (λ (xs : List Atom). named_atoms clause.item xs mid ≡ Ok (head, end)) head_is c.in_ok-head-2.ensures.made in
    let lits = answers_at end.names c.as_slice-9.result.now (atom_sorts (clause_scope g.names clause.vars) clause.guard) c.as_slice-10.result.now guard
    c.as_slice-11.result.now (atom_sorts (clause_scope g.names clause.vars) clause.head) c.as_slice-12.result.now head c.sorted_literals-lits.result
    guard_sorts_are c.as_slice-10.ensures head_sorts_are c.as_slice-12.ensures c.sorted_literals-lits.ensures in
    let all = wanted clause t g mid end guard head in
    instance_given clause t g mid end guard head c.in_ok-lits.lits c.in_ok-tuple.tuple c.add_line.new.g c.add_line.result (guard_named, head_named) (c.in_ok-lits.ensures all end lits) c.in_ok-tuple.ensures
    c.add_line.ensures.made
