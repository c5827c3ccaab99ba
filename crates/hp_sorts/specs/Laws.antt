-- What is known of a problem without a fault, and what its scopes say.
use Rattle.std.specs.Prelude.{◌≡◌, ◌≤◌, List, [], false, true, map, Some, None}
use Rattle.std.specs.List.{All, Contains}
use Rattle.hp_names.specs.Names.{AreDistinct}
use Rattle.hp_tree.specs.declared.problem.Sort.{Sort}
use Rattle.hp_tree.specs.declared.problem.Var.{Var}
use Rattle.hp_tree.specs.declared.problem.Atom.{Atom}
use Rattle.hp_tree.specs.declared.problem.Clause.{Clause}
use Rattle.hp_tree.specs.declared.problem.Decl.{Decl}
use Rattle.hp_tree.specs.declared.problem.Decl.TheVariants.{Const, Fun}
use Rattle.hp_tree.specs.declared.problem.Problem.{Problem}
use Rattle.hp_terms.specs.Scope.{Scope, Widens}
use Rattle.hp_terms.specs.Sorting.{atom_is_sorted}
use Rattle.hp_terms.specs.Words.{declared_word}
use Rattle.hp_sorts.specs.declared.tables.Signature.{Signature}
use Rattle.hp_sorts.specs.declared.naming.NameRule.TheVariants.{Known, Counted}
use Rattle.hp_sorts.specs.Numbered.{Name, named}
use Rattle.hp_sorts.specs.Symbols.{constant_names, constant_sorts, is_declared, signature_of, symbols, variables}
use Rattle.hp_sorts.specs.Naming.{atom_passes}
use Rattle.hp_sorts.specs.Scopes.{problem_scope}
use Rattle.hp_sorts.specs.Faults.{sort_fault}

-- ---- without a fault
-- the level of a function is 1 to 16
abbrev pub HasLevel : Decl → Type 0
HasLevel (Const name sort) = Unit {0}
HasLevel (Fun name args value level) = (1 ≤ level) × (level ≤ 16)

-- variables with names of their own, none of which is declared
pub record AreFresh (p : Problem) (vars : List Var) : Type 0 where
  pub distinct : AreDistinct (map (λ v. v.name) vars)
  pub undeclared : All (λ v. is_declared (symbols p.decls) v.name ≡ false) vars

-- the names of an atom are known, its functions have as many arguments as declared, and its terms their sorts
pub record IsWellSortedAtom (p : Problem) (vars : List Var) (atom : Atom) : Type 0 where
  pub known : atom_passes (symbols p.decls) (variables vars) Known atom ≡ true
  pub counted : atom_passes (symbols p.decls) (variables vars) Counted atom ≡ true
  pub sorted : atom_is_sorted (problem_scope p vars) atom ≡ true

pub record IsWellSortedClause (p : Problem) (clause : Clause) : Type 0 where
  pub vars : AreFresh p clause.vars
  pub guard : All (IsWellSortedAtom p clause.vars) clause.guard
  pub head : All (IsWellSortedAtom p clause.vars) clause.head

-- no name is declared twice, and each clause is well sorted
pub record IsWellSorted (p : Problem) : Type 0 where
  pub distinct : AreDistinct (map declared_word p.decls)
  pub levels : All HasLevel p.decls
  pub clauses : All (IsWellSortedClause p) p.clauses

abbrev pub FaultlessProblemsAreWellSorted : Type 0
FaultlessProblemsAreWellSorted = (p : Problem) → sort_fault p ≡ None → IsWellSorted p

-- ---- what scopes say
-- a constant has its sort and is no function, and a function has its profile and is no constant
abbrev pub Says : Scope → Decl → Type 0
Says scope (Const name sort) = (scope.name name ≡ Some sort) × (scope.function name ≡ None)
Says scope (Fun name args value level) = (scope.function name ≡ Some (record { args = args; result = value })) × (scope.name name ≡ None)

-- the scope of a clause says of each declaration what it declares, and of each variable its sort
pub record SaysAll (p : Problem) (vars : List Var) : Type 0 where
  pub declared : All (Says (problem_scope p vars)) p.decls
  pub variable : All (λ v. (problem_scope p vars).name v.name ≡ Some v.sort) vars

abbrev pub ScopesSayWhatIsDeclared : Type 0
ScopesSayWhatIsDeclared = (p : Problem) (vars : List Var) → IsWellSorted p → AreFresh p vars → SaysAll p vars

-- with variables it says all that it says without
abbrev pub VariablesWidenScopes : Type 0
VariablesWidenScopes = (p : Problem) (vars : List Var) → AreFresh p vars → Widens (problem_scope p []) (problem_scope p vars)

-- the signature that is found is the declared one
abbrev pub HasSignature : Problem → Decl → Type 0
HasSignature p (Const name sort) = signature_of (symbols p.decls) name ≡ None
HasSignature p (Fun name args value level) = signature_of (symbols p.decls) name ≡ Some (record { args = args; result = value; level = level })

abbrev pub SignaturesAreFound : Type 0
SignaturesAreFound = (p : Problem) → IsWellSorted p → All (HasSignature p) p.decls

-- and nothing is found that is not declared
pub record FoundIsDeclared (p : Problem) : Type 0 where
  pub constant : (name : Name) (sort : Sort) → named name (constant_names p.decls) (constant_sorts p.decls) ≡ Some sort → Contains p.decls (Const name sort)
  pub function : (name : Name) (signature : Signature) → signature_of (symbols p.decls) name ≡ Some signature
      → Contains p.decls (Fun name signature.args signature.result signature.level)

abbrev pub NothingElseIsFound : Type 0
NothingElseIsFound = (p : Problem) → FoundIsDeclared p
