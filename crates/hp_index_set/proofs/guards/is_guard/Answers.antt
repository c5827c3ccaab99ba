use Rattle.std.proofs.Common.{◌≡◌, ◌∙◌, Bool, true, not, ◌||◌, List, IfOk, sym, ap, subst}
use Rattle.hp_tree.specs.declared.problem.Sort.{Sort}
use Rattle.hp_tree.specs.declared.problem.Var.{Var}
use Rattle.hp_terms.specs.Sorting.{sort_of}
use Rattle.hp_norm.specs.Scopes.{clause_scope}
use Rattle.hp_index_set.specs.Rules.{is_guard, is_index_guard}
use Rattle.hp_flatten.specs.Sorts.{is_idx}
use Rattle.hp_index_set.proofs.guards.is_guard.Goals as goal

pub returns-then-is_idx : goal.returns-then-is_idx
returns-then-is_idx c =
    let names = c.args.names.now in
    let clause = c.args.clause.now in
    let atom = c.args.atom.now in
    let sorted = sym (c.clause_sort.ensures ∙ ap (λ (vs : List Var). sort_of (clause_scope names vs) atom) c.as_slice.ensures) in
    let index : is_idx (sort_of (clause_scope names clause.vars) atom) ≡ true = ap is_idx sorted ∙ sym c.is_idx.ensures ∙ c.if-is_idx.true in
    let same : is_index_guard names clause atom ≡ is_guard names clause atom = sym (ap (λ (b : Bool). not b || is_index_guard names clause atom) index) in
    subst (λ (b : Bool). IfOk c.is_index_guard.result (λ keeps. keeps ≡ b)) same c.is_index_guard.ensures
