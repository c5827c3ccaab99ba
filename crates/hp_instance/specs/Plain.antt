-- Terms in which each argument that is an index is a variable alone or has none: at arguments, no number is added there to one
-- that an argument has.
use Rattle.std.specs.Prelude.{◌≡◌, List, [], ◌∷◌, Bool, true, ◌&&◌}
use Rattle.std.specs.List.{list_all}
use Rattle.hp_tree.specs.declared.term.Term.{Term, out-Term}
use Rattle.hp_tree.specs.declared.term.Term.TheOpen.{Term-F}
use Rattle.hp_tree.specs.declared.problem.Atom.{Atom}
use Rattle.hp_tree.specs.declared.problem.Sort.{Sort}
use Rattle.hp_tree.specs.declared.problem.Sort.TheVariants.{Num, Idx, Ptr}
use Rattle.hp_tree.specs.declared.problem.Var.{Var}
use Rattle.hp_tree.specs.Value.{Word}
use Rattle.hp_terms.specs.Scope.{Scope}
use Rattle.hp_defs.specs.Names.{NameList}
use Rattle.hp_norm.specs.declared.flat.FlatClause.{FlatClause}
use Rattle.hp_norm.specs.Loads.{places_of}
use Rattle.hp_norm.specs.Plain.{is_plain_argument}
use Rattle.hp_norm.specs.Scopes.{clause_scope}
use Rattle.hp_norm.specs.Trees.{by_term}

-- ---- arguments
-- the argument at a place of this sort
abbrev pub is_plain_at : List Var → Sort → Term → Bool
is_plain_at vars Num term = true
is_plain_at vars Idx term = is_plain_argument vars term
is_plain_at vars Ptr term = true

-- those at places of these sorts
abbrev pub are_plain_at : List Var → List Sort → List Term → Bool
are_plain_at vars (sort ∷ sorts) (term ∷ terms) = is_plain_at vars sort term && are_plain_at vars sorts terms
are_plain_at vars _ _ = true

-- ---- terms
-- the arguments of a term that is an application
abbrev pub arguments_in : Term-F Term → List Term
arguments_in (Term-F.Apply func args) = args
arguments_in _ = []

abbrev pub plain_step : (Word → List Sort) → List Var → Term → Term-F Bool → Bool
plain_step places vars term (Term-F.Number q) = true
plain_step places vars term Term-F.Null = true
plain_step places vars term (Term-F.Name word) = true
plain_step places vars term (Term-F.Apply func args) = are_plain_at vars (places func) (arguments_in (out-Term term)) && list_all (λ b. b) args
plain_step places vars term (Term-F.Add a b) = a && b
plain_step places vars term (Term-F.Sub a b) = a && b
plain_step places vars term (Term-F.Neg a) = a
plain_step places vars term (Term-F.Scale q a) = a

-- those of all applications in a term, by the sorts of the arguments of their functions
abbrev pub has_plain_indexes : (Word → List Sort) → List Var → Term → Bool
has_plain_indexes places vars = by_term (plain_step places vars)

-- and in both sides of an atom of a clause
pub record HasPlainIndexes (names : NameList) (c : FlatClause) (atom : Atom) : Type 0 where
  pub left : has_plain_indexes (places_of (clause_scope names c.vars)) c.vars atom.left ≡ true
  pub right : has_plain_indexes (places_of (clause_scope names c.vars)) c.vars atom.right ≡ true
