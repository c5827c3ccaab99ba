-- The rules of the profile on the guards and applications of clauses over arrays.
use Rattle.std.specs.Prelude.{ℕ, List, [], ◌∷◌, Bool, true, false, ◌&&◌, ◌||◌, not, ℤ, pos}
use Rattle.std.specs.List.{list_all}
use Rattle.std.specs.Ordering.{int_eq}
use Rattle.hp_tree.specs.declared.term.Term.{Term, out-Term}
use Rattle.hp_tree.specs.declared.term.Term.TheOpen.{Term-F}
use Rattle.hp_tree.specs.declared.problem.Atom.{Atom}
use Rattle.hp_tree.specs.declared.problem.Cmp.{Cmp}
use Rattle.hp_tree.specs.declared.problem.Cmp.TheVariants.{Ne}
use Rattle.hp_tree.specs.declared.problem.Var.{Var}
use Rattle.hp_terms.specs.Sorting.{sort_of}
use Rattle.hp_lit.specs.declared.literal.IdxLit.{IdxLit}
use Rattle.hp_lit.specs.declared.literal.Lit.{Lit}
use Rattle.hp_lit.specs.declared.literal.Lit.TheVariants as lit
use Rattle.hp_defs.specs.Names.{NameList, count}
use Rattle.hp_index.specs.Literals.{literals}
use Rattle.hp_norm.specs.declared.flat.FlatClause.{FlatClause}
use Rattle.hp_norm.specs.Opening.{mentions}
use Rattle.hp_norm.specs.Opening as opening
use Rattle.hp_norm.specs.Scopes.{clause_scope}
use Rattle.hp_flatten.specs.declared.application.Application.{Application}
use Rattle.hp_flatten.specs.Applications.{clause_applications}
use Rattle.hp_flatten.specs.Sorts.{is_idx, is_ptr}
use Rattle.hp_index_set.specs.IndexSet.{clause_words, is_variable}

-- ---- guards
-- two variables with bound 0, or a variable with a constant or a number; which sides of the literal are variables
abbrev pub is_bounded : Bool → Bool → IdxLit → Bool
is_bounded true true l = int_eq l.bound (pos 0)
is_bounded true false l = true
is_bounded false true l = true
is_bounded false false l = false

abbrev pub is_bounded_literal : ℕ → Lit → Bool
is_bounded_literal names (lit.Idx l) = is_bounded (is_variable names l.left) (is_variable names l.right) l
is_bounded_literal names (lit.Num l) = false
is_bounded_literal names (lit.Ptr l) = false

abbrev pub is_convex : Cmp → Bool
is_convex Ne = false
is_convex _ = true

abbrev pub has_variable : List Var → Atom → Bool
has_variable vars atom = mentions vars atom.left || mentions vars atom.right

-- no variable occurs, or the atom is not `!=`, and is bounded after collecting
abbrev pub is_index_guard : NameList → FlatClause → Atom → Bool
is_index_guard names c atom = not (has_variable c.vars atom) || (is_convex atom.cmp && list_all (is_bounded_literal (count names)) (literals (clause_words names c) true atom))

abbrev pub is_guard : NameList → FlatClause → Atom → Bool
is_guard names c atom = not (is_idx (sort_of (clause_scope names c.vars) atom)) || is_index_guard names c atom

-- ---- heads
-- an atom of sort idx has no variable
abbrev pub is_head : NameList → FlatClause → Atom → Bool
is_head names c atom = not (is_idx (sort_of (clause_scope names c.vars) atom)) || not (has_variable c.vars atom)

-- all variables are indexes, and atoms between indexes with a variable stand in the guard and bound it
abbrev pub has_index_guards : NameList → FlatClause → Bool
has_index_guards names c = list_all (λ v. is_idx v.sort) c.vars && (list_all (is_guard names c) c.guard && list_all (is_head names c) c.head)

-- ---- applications
abbrev pub is_variable_term : List Var → Term-F Term → Bool
is_variable_term vars (Term-F.Name word) = opening.is_variable vars word
is_variable_term vars _ = false

-- one argument, which is a variable
abbrev pub is_read : List Var → List Term → Bool
is_read vars (t ∷ []) = is_variable_term vars (out-Term t)
is_read vars _ = false

abbrev pub is_no_pointer : NameList → FlatClause → Atom → Bool
is_no_pointer names c atom = not (is_ptr (sort_of (clause_scope names c.vars) atom))

-- each application has a variable as its argument, and no atom is between pointers
abbrev pub reads_at_variables : NameList → FlatClause → Bool
reads_at_variables names c = list_all (λ a. is_read c.vars a.args) (clause_applications c) && (list_all (is_no_pointer names c) c.guard && list_all (is_no_pointer names c) c.head)
