use Rattle.std.proofs.Common.{◌≡◌, ◌<◌, ◌∙◌, List, Err, length, subst, sym}
use Rattle.std.specs.List.{All}
use Rattle.hp_lit.specs.declared.line.Arg.{Arg}
use Rattle.hp_defs.specs.declared.names.Signature.{Signature}
use Rattle.hp_base.specs.Making.{Makes, in_turn}
use Rattle.hp_base.proofs.Making.{begins_same}
use Rattle.hp_norm.specs.declared.flat.FlatClause.{FlatClause}
use Rattle.hp_class.specs.Group.{plan_lines}
use Rattle.hp_class.specs.Points.{function_lines}
use Rattle.hp_tables.proofs.ClassLaws.{group_made, group_stopped}
use Rattle.hp_index_set.specs.IndexSet.{index_set}
use Rattle.hp_arrays.specs.Arrays.{arrays_plan}
use Rattle.hp_tuple_lines.specs.TupleLines.{FitsOver, tuples_plan}
use Rattle.hp_arrays.proofs.Fits.{arrays_clauses_fit, arrays_known}
use Rattle.hp_array.proofs.arrays.ArraysLocalClass.lines.Goals as goal

pub returns-in_err-indexes-clause-kept : goal.returns-in_err-indexes-clause-kept
returns-in_err-indexes-clause-kept c = begins_same c.args.g.now

pub add_tuple_lines-requires-clause-fit : goal.add_tuple_lines-requires-clause-fit
add_tuple_lines-requires-clause-fit c =
    let group = c.args.self.now in
    let names = c.args.g.now.names in
    let is : c.as_slice.result.now ≡ index_set group.own group.clauses names =
    c.as_slice.ensures ∙ c.in_ok-indexes.ensures ∙ (λ i. index_set (c.as_slice-own.ensures i) (c.as_slice-clauses.ensures i) names) in
    subst (λ (cs : List FlatClause). All (FitsOver names c.as_slice.result.now) cs) (sym c.as_slice-clauses.ensures)
    (subst (λ (xs : List Arg). All (FitsOver names xs) group.clauses) (sym is)
    (arrays_clauses_fit names group.own group.words group.clauses c.requires.lent c.requires.sound.made c.requires.sound.names))

pub returns-in_err-add_tuple_lines-clause-made : goal.returns-in_err-add_tuple_lines-clause-made
returns-in_err-add_tuple_lines-clause-made c =
    let group = c.args.self.now in
    let g = c.args.g.now in
    let new = c.add_tuple_lines.new.g in
    let w = c.in_err-add_tuple_lines.field-0.0 in
    let is : c.as_slice.result.now ≡ index_set group.own group.clauses g.names =
    c.as_slice.ensures ∙ c.in_ok-indexes.ensures ∙ (λ i. index_set (c.as_slice-own.ensures i) (c.as_slice-clauses.ensures i) g.names) in
    let made = subst (λ (cs : List FlatClause). Makes (plan_lines (tuples_plan c.as_slice.result.now cs)) g new (Err w)) c.as_slice-clauses.ensures c.in_err-add_tuple_lines.ensures.made in
    group_stopped group.own (arrays_plan group.own group.clauses) g new w c.from_residual-in_err-add_tuple_lines.result
    (subst (λ (xs : List Arg). Makes (plan_lines (tuples_plan xs group.clauses)) g new (Err w)) is made) c.from_residual-in_err-add_tuple_lines.ensures.1

pub add_function_lines-requires : goal.add_function_lines-requires
add_function_lines-requires c =
    let group = c.args.self.now in
    let now = c.add_tuple_lines.new.g in
    subst (All (λ k. k < length now.names.signatures)) (sym c.as_slice-own.ensures)
    (subst (λ (ss : List Signature). All (λ k. k < length ss) group.own) (sym c.add_tuple_lines.ensures.kept.signatures)
    (arrays_known c.args.g.now.names group.own group.words c.requires.lent.functions))

pub returns-clause-made : goal.returns-clause-made
returns-clause-made c =
    let group = c.args.self.now in
    let g = c.args.g.now in
    let mid = c.add_tuple_lines.new.g in
    let is : c.as_slice.result.now ≡ index_set group.own group.clauses g.names =
    c.as_slice.ensures ∙ c.in_ok-indexes.ensures ∙ (λ i. index_set (c.as_slice-own.ensures i) (c.as_slice-clauses.ensures i) g.names) in
    group_made group.own (arrays_plan group.own group.clauses) g mid c.add_function_lines.new.g c.add_function_lines.result
    ((λ i. plan_lines (tuples_plan (sym is i) (sym c.as_slice-clauses.ensures i)) g) ∙ c.in_ok-add_tuple_lines.ensures.made)
    (subst (λ funcs. Makes (in_turn function_lines funcs) mid c.add_function_lines.new.g c.add_function_lines.result) c.as_slice-own.ensures c.add_function_lines.ensures.made)
