-- What named atoms say of the values of terms, which functions names are made for, and what clauses say of environments.
use Rattle.std.specs.Prelude.{◌≡◌, ◌↔◌, ℕ, List, [], Bool, Some, None, Ok, true, position}
use Rattle.std.specs.List.{All, AllZip}
use Rattle.std.specs.Str.{bytes_eq}
use Rattle.hp_math.specs.Rational.{ℚ}
use Rattle.hp_tree.specs.declared.problem.Sort.{Sort}
use Rattle.hp_tree.specs.declared.problem.Atom.{Atom}
use Rattle.hp_tree.specs.declared.problem.Problem.{Problem}
use Rattle.hp_tree.specs.Value.{Environment, Functions, Word, atom_is_true}
use Rattle.hp_tree.specs.Universal.{AreSorted, HoldsAll, clause_at, universal}
use Rattle.hp_terms.specs.Scope.{Scope}
use Rattle.hp_terms.specs.Occurring.{functions_in}
use Rattle.hp_terms.specs.Sorting.{is_sorted, sort_of}
use Rattle.hp_lit.specs.declared.literal.Name.{Name}
use Rattle.hp_lit.specs.declared.line.Arg.{Arg}
use Rattle.hp_lit.specs.declared.line.Body.TheVariants.{Apply}
use Rattle.hp_lit.specs.Truth.{Values}
use Rattle.hp_defs.specs.declared.names.Ground.{Ground}
use Rattle.hp_defs.specs.Names.{function_words}
use Rattle.hp_defs.specs.Made.{IsMade}
pub use Rattle.hp_base.specs.Laws.{HasSums, IsFitLine}
use Rattle.hp_base.specs.Laws.{IsDefined}
use Rattle.hp_base.specs.Defining.{definition_of}
use Rattle.hp_base.specs.Lines.{flat_scope}
use Rattle.hp_sorts.specs.Faults.{sort_fault}
use Rattle.hp_norm.specs.Flat.{without_variables}
use Rattle.hp_norm.specs.Lines.{constants_of}
use Rattle.hp_norm.specs.Loads.{IsLightWithin, WeighsNoMore}
use Rattle.hp_norm.specs.Naming.{named_atoms}
use Rattle.hp_norm.specs.Scopes.{term_scope}
use Rattle.hp_norm.specs.Sound.{AreValues, Grew, IsLater, IsSound, MakesOnly}

-- ---- atoms over names
-- both sides have one sort
abbrev pub HasOneSort : Scope → Atom → Type 0
HasOneSort scope atom = (sort : Sort) × (is_sorted scope sort atom ≡ true)

-- atoms without applications stand for others: they are of each sort that these are of, have the same first sort and the same
-- truth, and no side weighs more than that of the other atom outside of arguments
pub record AreNamedAtoms (before after : Ground) (atoms flats : List Atom) : Type 0 where
  pub grew : Grew before after
  pub sound : IsSound after
  pub light : AllZip (WeighsNoMore (term_scope before.names)) atoms flats
  pub sorted : (end : Ground) → IsLater after end → AllZip (λ a f. (sort : Sort) → is_sorted (term_scope before.names) sort a ≡ true → is_sorted (flat_scope end.names) sort f ≡ true) atoms flats
  pub first : (end : Ground) → IsLater after end → AllZip (λ a f. sort_of (term_scope before.names) a ≡ sort_of (flat_scope end.names) f) atoms flats
  pub same : (end : Ground) (v : Values) (env : Environment) (functions : Functions) → IsLater after end → AreValues end v env functions
      → AllZip (λ a f. atom_is_true env functions f ≡ atom_is_true env functions a) atoms flats

-- each application of an atom over the names of a ground set gets a name, where indexes have small numbers
abbrev pub AtomsAreNamed : Type 0
AtomsAreNamed = (item : ℕ) (atoms flats : List Atom) (before after : Ground) → IsSound before → All (IsLightWithin (term_scope before.names)) atoms → All (HasOneSort (term_scope before.names)) atoms
    → named_atoms item atoms before ≡ Ok (flats, after) → AreNamedAtoms before after atoms flats

-- ---- which functions are applied
-- the function among these that has this word passes the test
abbrev pub WordPasses : (ℕ → Bool) → List Word → Word → Type 0
WordPasses test functions word = (func : ℕ) → position (bytes_eq word) functions ≡ Some func → test func ≡ true

-- and so does each that an atom applies
pub record WordsOfAtomPass (test : ℕ → Bool) (functions : List Word) (atom : Atom) : Type 0 where
  pub left : All (WordPasses test functions) (functions_in atom.left)
  pub right : All (WordPasses test functions) (functions_in atom.right)

-- names are made for applications of the functions that the atoms apply, and of no other ones
abbrev pub AtomsMakeOnly : Type 0
AtomsMakeOnly = (test : ℕ → Bool) (item : ℕ) (atoms flats : List Atom) (before after : Ground) → named_atoms item atoms before ≡ Ok (flats, after)
    → All (WordsOfAtomPass test (function_words before.names)) atoms → MakesOnly test before.names after.names

-- ---- definitions that are there
-- the application of a function at arguments whose definition is there has its name, and nothing is added
abbrev pub DefinitionsAreFound : Type 0
DefinitionsAreFound = (func : ℕ) (args : List Arg) (name : Name) (g : Ground) → IsMade g.names → IsDefined g.names name (Apply func args) → definition_of func args g ≡ Ok (name, g)

-- ---- clauses
-- the declared constants have the same values
abbrev pub AgreeOnConstants : Problem → Environment → Environment → Type 0
AgreeOnConstants p env other = All (λ c. env c.name ≡ other c.name) (constants_of p.decls)

-- a clause has the same truth at values of its variables in all environments that give the declared constants the same values
abbrev pub ClausesNeedConstantsAlone : Type 0
ClausesNeedConstantsAlone = (p : Problem) (env other : Environment) (functions : Functions) → AgreeOnConstants p env other → sort_fault p ≡ None
    → All (λ clause. (size : ℕ) (values : List ℚ) → AreSorted size clause.vars values → clause_at env functions (universal clause) values ≡ clause_at other functions (universal clause) values) p.clauses

-- a clause without variables holds at all values of its variables exactly where it is true at the empty list of them
abbrev pub ClausesHoldAtOnce : Type 0
ClausesHoldAtOnce = (p : Problem) (size : ℕ) (env : Environment) (functions : Functions)
    → All (λ clause. HoldsAll size env functions (universal clause) ↔ (clause_at env functions (universal clause) [] ≡ true)) (without_variables p.clauses)
