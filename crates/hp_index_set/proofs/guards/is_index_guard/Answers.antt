use Rattle.std.proofs.Common.{◌≡◌, ◌∙◌, Bool, true, not, ◌&&◌, ◌||◌, List, IfOk, sym, ap, subst}
use Rattle.std.specs.List.{list_all}
use Rattle.hp_tree.specs.declared.problem.Var.{Var}
use Rattle.hp_defs.specs.Names.{count}
use Rattle.hp_index.specs.Literals.{literals}
use Rattle.hp_index_set.specs.IndexSet.{clause_words}
use Rattle.hp_index_set.specs.Rules.{has_variable, is_bounded_literal, is_convex, is_index_guard}
use Rattle.hp_index_set.proofs.guards.is_index_guard.Goals as goal

pub returns-then-occurs : goal.returns-then-occurs
returns-then-occurs c =
    let names = c.args.names.now in
    let clause = c.args.clause.now in
    let atom = c.args.atom.now in
    let bounded = is_convex atom.cmp && list_all (is_bounded_literal (count names)) (literals (clause_words names clause) true atom) in
    let occurs : has_variable clause.vars atom ≡ true = ap (λ (vs : List Var). has_variable vs atom) (sym c.as_slice.ensures) ∙ sym c.has_variable-occurs.ensures ∙ c.if-occurs.true in
    let same : (is_convex atom.cmp && list_all (is_bounded_literal c.count.result) (literals c.args.words.now true atom)) ≡ is_index_guard names clause atom =
    (λ i. is_convex atom.cmp && list_all (is_bounded_literal (c.count.ensures.names i)) (literals (c.requires.words i) true atom))
    ∙ sym (ap (λ (b : Bool). not b || bounded) occurs) in
    subst (λ (b : Bool). IfOk c.is_bounded_atom.result (λ keeps. keeps ≡ b)) same c.is_bounded_atom.ensures
