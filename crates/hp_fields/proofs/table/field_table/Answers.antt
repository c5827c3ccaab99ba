use Rattle.std.proofs.Common.{◌≡◌, ◌∙◌, ◌<◌, ℕ, List, Bool, IfOk, length, map, ap, subst, sym}
use Rattle.std.specs.List.{All}
use Rattle.std.proofs.lemmas.Option.{same_Some, slice_get_within}
use Rattle.hp_tree.specs.declared.problem.Sort.{Sort}
use Rattle.hp_lit.specs.declared.line.Def.{Def}
use Rattle.hp_lit.specs.Truth.{Values}
use Rattle.hp_defs.specs.Places.{places}
use Rattle.hp_defs.specs.declared.names.Signature.{Signature}
use Rattle.hp_model.specs.declared.structure.Table.{Table}
use Rattle.hp_local.specs.Free.{free_table}
use Rattle.hp_class.specs.Frame.{fact_of}
use Rattle.hp_class.specs.Places.{points_at}
use Rattle.hp_class.specs.Small.{HasSmallSums}
use Rattle.hp_flatten.specs.Sorts.{is_ptr}
use Rattle.hp_tables.proofs.InOrder.{all_inside}
use Rattle.hp_tables.proofs.SmallSums.{all_small}
use Rattle.hp_fields.specs.Fields.{inside_places}
use Rattle.hp_fields.proofs.Tables.{places_kept, seen_cut, seen_small, seen_values, seen_whole, table_is}
use Rattle.hp_fields.proofs.table.field_table.Goals.{then-is_ptr, else-is_ptr}
use Rattle.hp_fields.proofs.table.field_table.Goals as goal

pub inside_places-requires-clause-inside : goal.inside_places-requires-clause-inside
inside_places-requires-clause-inside c =
    all_inside c.args.func c.args.names.now.definitions c.definitions-definitions.result.now c.of_function.result.now c.definitions-definitions.ensures.definitions c.of_function.ensures

pub inside_places-requires-clause-small : goal.inside_places-requires-clause-small
inside_places-requires-clause-small c =
    subst (λ (ds : List Def). All (HasSmallSums c.args.values.now) ds) (sym c.definitions-definitions.ensures.definitions)
    (all_small c.args.names.now c.args.values.now c.definitions-definitions.ensures.made c.requires.fit c.requires.sorted c.requires.small)

pub signature-requires : goal.signature-requires
signature-requires c = slice_get_within c.args.names.now.signatures c.args.func c.requires.field.signature c.requires.field.known

pub table-requires-clause-inside : goal.table-requires-clause-inside
table-requires-clause-inside c =
    let ds = c.definitions-definitions.result.now in
    let all = all_inside c.args.func c.args.names.now.definitions ds c.of_function.result.now c.definitions-definitions.ensures.definitions c.of_function.ensures in
    subst (λ (ks : List ℕ). All (λ k. k < length ds) ks) (sym (c.as_slice.ensures ∙ c.in_ok-places.ensures)) (places_kept c.args.size c.args.values.now ds c.of_function.result.now all)

pub table-requires-clause-small : goal.table-requires-clause-small
table-requires-clause-small c =
    let r : Sort = c.signature.result.now.result in
    let seen : c.if-is_ptr.seen.now ≡ seen_values (is_ptr r) c.args.size c.args.values.now =
    (elim c.if-is_ptr.branch [
      | then-is_ptr w ↦ seen_cut c.args.size c.args.values.now c.if-is_ptr.seen.now c.args.cut.now r (sym c.is_ptr.ensures ∙ w.if-is_ptr.true) (ap (λ s. s.now) w.seen-is) c.requires.cut
      | else-is_ptr w ↦ seen_whole c.args.size c.args.values.now c.if-is_ptr.seen.now r (sym c.is_ptr.ensures ∙ w.if-is_ptr.false) (ap (λ s. s.now) w.seen-is)
    ]) in
    subst (λ (v : Values). All (HasSmallSums v) c.definitions-definitions.result.now) (sym seen)
    (subst (λ (ds : List Def). All (HasSmallSums (seen_values (is_ptr r) c.args.size c.args.values.now)) ds) (sym c.definitions-definitions.ensures.definitions)
    (seen_small c.args.names.now c.args.size c.args.values.now (is_ptr r) c.definitions-definitions.ensures.made c.requires.fit c.requires.sorted c.requires.small))

pub returns : goal.returns
returns c =
    let names = c.args.names.now in
    let size = c.args.size in
    let v = c.args.values.now in
    let word = c.args.word.now in
    let f = c.requires.field in
    let same : c.signature.result.now ≡ f.signature = same_Some c.signature.result.now f.signature (sym c.signature.ensures ∙ f.known) in
    let r : Sort = c.signature.result.now.result in
    let seen : c.if-is_ptr.seen.now ≡ seen_values (is_ptr r) size v =
    (elim c.if-is_ptr.branch [
      | then-is_ptr w ↦ seen_cut size v c.if-is_ptr.seen.now c.args.cut.now r (sym c.is_ptr.ensures ∙ w.if-is_ptr.true) (ap (λ s. s.now) w.seen-is) c.requires.cut
      | else-is_ptr w ↦ seen_whole size v c.if-is_ptr.seen.now r (sym c.is_ptr.ensures ∙ w.if-is_ptr.false) (ap (λ s. s.now) w.seen-is)
    ]) in
    let all : c.if-is_ptr.seen.now ≡ seen_values (is_ptr f.signature.result) size v = seen ∙ ap (λ (s : Signature). seen_values (is_ptr s.result) size v) same in
    let ds : c.definitions-definitions.result.now ≡ names.definitions = c.definitions-definitions.ensures.definitions in
    let ks : c.as_slice.result.now ≡ inside_places size v names.definitions (places c.args.func names.definitions) =
    c.as_slice.ensures ∙ c.in_ok-places.ensures ∙ (λ i. inside_places size v (ds i) (c.of_function.ensures i)) in
    let whole = (λ i. free_table word 1 (map (fact_of word (all i)) (points_at (ds i) (ks i)))) ∙ sym (table_is names c.definitions-definitions.ensures.made c.requires.fit size v c.args.func word f) in
    subst (λ (t : Table). IfOk c.table.result (λ made. made ≡ t)) whole c.table.ensures
