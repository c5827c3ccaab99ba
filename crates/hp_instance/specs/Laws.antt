-- What the line of a clause at arguments says, and what its making adds.
use Rattle.std.specs.Prelude.{◌≡◌, ◌↔◌, ℕ, ◌≤◌, List, Ok, true}
use Rattle.std.specs.List.{All, AllZip}
use Rattle.hp_tree.specs.declared.problem.Sort.{Sort}
use Rattle.hp_tree.specs.declared.problem.Sort.TheVariants.{Idx}
use Rattle.hp_tree.specs.declared.problem.Atom.{Atom}
use Rattle.hp_tree.specs.declared.problem.Var.{Var}
use Rattle.hp_tree.specs.Value.{Environment, Functions}
use Rattle.hp_tree.specs.Universal.{clause_at}
use Rattle.hp_terms.specs.Scope.{Scope}
use Rattle.hp_terms.specs.Sorting.{sort_of}
use Rattle.hp_lit.specs.declared.line.Arg.{Arg}
use Rattle.hp_index.specs.Fit.{largest_side}
use Rattle.hp_lit.specs.Sorts.{HaveSorts}
use Rattle.hp_lit.specs.Truth.{Values}
use Rattle.hp_defs.specs.declared.names.Ground.{Ground}
use Rattle.hp_defs.specs.Names.{NameList, sorts}
use Rattle.hp_defs.specs.Fit.{ArgFits}
use Rattle.hp_defs.specs.Made.{IsMade, IsSmallArg}
use Rattle.hp_base.specs.Making.{Begins}
use Rattle.hp_base.specs.Arguments.{argument_of}
use Rattle.hp_base.specs.Values.{arg_values}
use Rattle.hp_norm.specs.declared.flat.FlatClause.{FlatClause}
use Rattle.hp_norm.specs.Flat.{IsFlat, universal_of}
use Rattle.hp_norm.specs.Loads.{IsLightWithin, load}
use Rattle.hp_norm.specs.Scopes.{clause_scope, term_scope}
use Rattle.hp_norm.specs.Sound.{AreTrue, AreValues, IsLater, IsSound}
use Rattle.hp_local.specs.Substitution.{substitute_atom}
use Rattle.hp_instance.specs.declared.tuple.Tuple.{Tuple}
use Rattle.hp_instance.specs.Instances.{instance}
use Rattle.hp_instance.specs.Plain.{HasPlainIndexes}
use Rattle.hp_instance.specs.Replacing.{arg_term, replacement}

-- ---- tuples
-- the numbers of each side outside of arguments are small enough together for one
pub record HasLightSides (scope : Scope) (atom : Atom) : Type 0 where
  pub left : (load scope atom.left).own ≤ largest_side
  pub right : (load scope atom.right).own ≤ largest_side

-- at arguments, an atom of sort idx has small numbers on each side, and so has each argument of an application in it that is
-- an index; other numbers may be large
pub record IsLightAt (names : NameList) (c : FlatClause) (args : List Arg) (atom : Atom) : Type 0 where
  pub inner : IsLightWithin (term_scope names) (substitute_atom (replacement names c.vars args) atom)
  pub sides : sort_of (clause_scope names c.vars) atom ≡ Idx → HasLightSides (term_scope names) (substitute_atom (replacement names c.vars args) atom)

-- an argument for each variable, of its sort, that keeps the numbers of indexes small in each atom
pub record TupleFits (names : NameList) (c : FlatClause) (args : List Arg) : Type 0 where
  pub sorted : AllZip (λ (v : Var) x. ArgFits (sorts names) v.sort x) c.vars args
  pub small : All IsSmallArg args
  pub guard : All (IsLightAt names c args) c.guard
  pub head : All (IsLightAt names c args) c.head

-- arguments of the sorts of variables fit a clause with plain indexes
abbrev pub PlainTuplesFit : Type 0
PlainTuplesFit = (names : NameList) (c : FlatClause) (args : List Arg) → IsFlat names c → AllZip (λ (v : Var) x. ArgFits (sorts names) v.sort x) c.vars args → All IsSmallArg args
    → All (HasPlainIndexes names c) c.guard → All (HasPlainIndexes names c) c.head → TupleFits names c args

-- ---- instances
-- a line was added that is true exactly where the clause is at the values of the arguments
pub record IsInstance (c : FlatClause) (t : Tuple) (before after : Ground) : Type 0 where
  pub grew : Begins before after
  pub sound : IsSound after
  pub says : (end : Ground) (v : Values) (env : Environment) (functions : Functions) → IsLater after end → AreValues end v env functions → HaveSorts (sorts end.names) v
      → AreTrue v after.lines ↔ (AreTrue v before.lines × (clause_at env functions (universal_of c) (arg_values v t.args) ≡ true))

abbrev pub InstancesSay : Type 0
InstancesSay = (c : FlatClause) (t : Tuple) (done : Unit {0}) (before after : Ground) → IsSound before → IsFlat before.names c → TupleFits before.names c t.args
    → instance c t before ≡ Ok (done, after) → IsInstance c t before after

-- ---- arguments
-- the term of an argument of a sort is that argument again, and nothing is made
abbrev pub ArgumentsComeBack : Type 0
ArgumentsComeBack = (item : ℕ) (sort : Sort) (x : Arg) (g : Ground) → IsMade g.names → ArgFits (sorts g.names) sort x
    → argument_of item sort (arg_term g.names x) g ≡ Ok (x, g)
