use Rattle.std.proofs.Common.{◌<◌, ◌∙◌, List, Err, ap, length, slice_get, subst, sym}
use Rattle.std.specs.List.{All}
use Rattle.hp_base.specs.Making.{Makes}
use Rattle.hp_defs.specs.declared.names.Signature.{Signature}
use Rattle.hp_norm.specs.declared.flat.FlatClause.{FlatClause}
use Rattle.hp_class.specs.Group.{PlanFits, plan_lines}
use Rattle.hp_tables.proofs.ClassLaws.{group_stopped, own_known}
use Rattle.hp_cases.specs.Cases.{cases_plan}
use Rattle.hp_cases.proofs.Laws.{cases_plan_fits}
use Rattle.hp_by_cases.proofs.cases.CasesLocalClass.lines.Goals as goal

pub add_case_lines-requires-clause-fit : goal.add_case_lines-requires-clause-fit
add_case_lines-requires-clause-fit c =
    let group = c.args.self.now in
    let names = c.args.g.now.names in
    subst (λ (cs : List FlatClause). PlanFits names cs (cases_plan group.func cs names)) (sym c.as_slice.ensures)
    (cases_plan_fits names group.func group.word group.args group.clauses group.cases group.applied group.own c.requires.lent c.requires.sound.made c.requires.sound.names)

pub returns-in_err-add_case_lines-clause-made : goal.returns-in_err-add_case_lines-clause-made
returns-in_err-add_case_lines-clause-made c =
    let group = c.args.self.now in
    let g = c.args.g.now in
    let w = c.in_err-add_case_lines.field-0.0 in
    let made = subst (λ (cs : List FlatClause). Makes (plan_lines (cases_plan group.func cs g.names)) g c.add_case_lines.new.g (Err w)) c.as_slice.ensures c.in_err-add_case_lines.ensures.made in
    group_stopped group.own (cases_plan group.func group.clauses) g c.add_case_lines.new.g w c.from_residual.result made c.from_residual.ensures.1

pub add_function_lines-requires : goal.add_function_lines-requires
add_function_lines-requires c =
    let group = c.args.self.now in
    let now = c.add_case_lines.new.g in
    let known = ap (λ (ss : List Signature). slice_get ss group.func) c.add_case_lines.ensures.kept.signatures ∙ c.requires.lent.known in
    subst (All (λ k. k < length now.names.signatures)) (sym c.as_slice-2.ensures) (own_known now.names group.func c.requires.lent.signature group.own known c.requires.lent.own)
