use Rattle.std.proofs.Common.{◌≡◌, ◌∙◌, true, List, OnOk, sym, ap, subst}
use Rattle.std.specs.List.{flat_map}
use Rattle.hp_tree.specs.declared.problem.Sort.{Sort}
use Rattle.hp_tree.specs.declared.problem.Var.{Var}
use Rattle.hp_terms.specs.Sorting.{sort_of}
use Rattle.hp_lit.specs.declared.line.Arg.{Arg}
use Rattle.hp_index.specs.Literals.{literals}
use Rattle.hp_norm.specs.Scopes.{clause_scope}
use Rattle.hp_index_set.specs.IndexSet.{atom_bounds, literal_bounds, sorted_bounds, with_indexes}
use Rattle.hp_index_set.proofs.bounds.add_atom_bounds.Goals as goal

pub returns-in-Idx : goal.returns-in-Idx
returns-in-Idx c =
    let names = c.args.names.now in
    let clause = c.args.clause.now in
    let atom = c.args.atom.now in
    let sorted = sym c.in-Idx.is ∙ c.clause_sort.ensures ∙ ap (λ (vs : List Var). sort_of (clause_scope names vs) atom) c.as_slice.ensures in
    let same : flat_map (literal_bounds c.count.result) (literals c.args.words.now true atom) ≡ atom_bounds names clause atom =
    (λ i. flat_map (literal_bounds (c.count.ensures.names i)) (literals (c.requires.words i) true atom)) ∙ ap (λ (s : Sort). sorted_bounds s names clause atom) sorted in
    subst (λ (xs : List Arg). OnOk c.add_index_bounds.result (c.add_index_bounds.new.indexes ≡ with_indexes c.args.indexes.now xs)) same c.add_index_bounds.ensures
