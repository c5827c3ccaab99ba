-- The rules of the profile on clauses over pointer fields: what they are over, and which pointers in them have a null guard.
use Rattle.std.specs.Prelude.{Bool, true, false, ◌&&◌, ◌||◌, not, Option, Some, None}
use Rattle.std.specs.List.{list_all, list_any}
use Rattle.hp_tree.specs.declared.term.Term.{Term, out-Term}
use Rattle.hp_tree.specs.declared.term.Term.TheOpen.{Term-F}
use Rattle.hp_tree.specs.declared.problem.Atom.{Atom}
use Rattle.hp_tree.specs.declared.problem.Cmp.{Cmp}
use Rattle.hp_tree.specs.declared.problem.Cmp.TheVariants.{Eq, Ne}
use Rattle.hp_terms.specs.Scope.{Profile}
use Rattle.hp_terms.specs.Sorting.{sort_of}
use Rattle.hp_defs.specs.Names.{NameList}
use Rattle.hp_norm.specs.declared.flat.FlatClause.{FlatClause}
use Rattle.hp_norm.specs.Scopes.{clause_scope, function_profile}
use Rattle.hp_norm.specs.Trees.{same_term}
use Rattle.hp_flatten.specs.Applications.{clause_applications}
use Rattle.hp_flatten.specs.Sorts.{is_idx, is_ptr}

-- ---- variables and atoms
abbrev pub is_no_index : NameList → FlatClause → Atom → Bool
is_no_index names c atom = not (is_idx (sort_of (clause_scope names c.vars) atom))

-- all variables are pointers, and no atom is between indexes
abbrev pub is_over_pointers : NameList → FlatClause → Bool
is_over_pointers names c = list_all (λ v. is_ptr v.sort) c.vars && (list_all (is_no_index names c) c.guard && list_all (is_no_index names c) c.head)

-- ---- null guards
abbrev pub is_eq : Cmp → Bool
is_eq Eq = true
is_eq _ = false

abbrev pub is_ne : Cmp → Bool
is_ne Ne = true
is_ne _ = false

abbrev pub is_null_term : Term-F Term → Bool
is_null_term Term-F.Null = true
is_null_term _ = false

-- the term stands against null
abbrev pub is_against_null : Term → Atom → Bool
is_against_null term atom = (same_term term atom.left && is_null_term (out-Term atom.right)) || (is_null_term (out-Term atom.left) && same_term term atom.right)

-- `t != null` in the guard or `t = null` in the head, in either order of sides
abbrev pub has_null_guard : FlatClause → Term → Bool
has_null_guard c term =
    list_any (λ (atom : Atom). is_ne atom.cmp && is_against_null term atom) c.guard || list_any (λ (atom : Atom). is_eq atom.cmp && is_against_null term atom) c.head

-- ---- pointers that are read further
abbrev pub gives_pointer : Option Profile → Bool
gives_pointer None = false
gives_pointer (Some profile) = is_ptr profile.result

-- an application that gives a pointer
abbrev pub is_pointer_read : NameList → Term-F Term → Bool
is_pointer_read names (Term-F.Apply func args) = gives_pointer (function_profile names func)
is_pointer_read names _ = false

-- no application that gives a pointer, or one with a null guard
abbrev pub is_guarded : NameList → FlatClause → Term → Bool
is_guarded names c term = not (is_pointer_read names (out-Term term)) || has_null_guard c term

abbrev pub has_guarded_sides : NameList → FlatClause → Atom → Bool
has_guarded_sides names c atom = is_guarded names c atom.left && is_guarded names c atom.right

-- each application that gives a pointer and is an argument of another application, or a side of a guard by `=` or of a head by `!=`,
-- has a null guard
abbrev pub has_null_guards : NameList → FlatClause → Bool
has_null_guards names c =
    list_all (λ a. list_all (is_guarded names c) a.args) (clause_applications c)
    && (list_all (λ (atom : Atom). not (is_eq atom.cmp) || has_guarded_sides names c atom) c.guard
    && list_all (λ (atom : Atom). not (is_ne atom.cmp) || has_guarded_sides names c atom) c.head)
