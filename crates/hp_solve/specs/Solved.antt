-- What a verdict says of a problem.
use Rattle.std.specs.Prelude.{◌≡◌, ℕ, map, None, false}
use Rattle.std.specs.List.{All}
use Rattle.hp_tree.specs.declared.problem.Problem.{Problem}
use Rattle.hp_defs.specs.declared.names.Ground.{Ground}
use Rattle.hp_defs.specs.Names.{sorts}
use Rattle.hp_leaf.specs.Tree.{IsSpent}
use Rattle.hp_cert.specs.declared.refutation.Refutation.{Refutation}
use Rattle.hp_cert.specs.Entries.{AreSplitLines, all_defs}
use Rattle.hp_cert.specs.Refutes.{Refutes}
use Rattle.hp_cert.specs.Spelled.{IsOnOneLine, IsSpelled}
use Rattle.hp_model.specs.declared.structure.Structure.{Structure}
use Rattle.hp_model.specs.Satisfies.{Satisfies}
use Rattle.hp_descent.specs.declared.answer.Strain.{Strain}
use Rattle.hp_search.specs.Search.{IsHonestStrain}
use Rattle.hp_sorts.specs.Faults.{sort_fault}
use Rattle.hp_terms.specs.Words.{declared_word}
use Rattle.hp_chain.specs.Ground.{IsGroundOf, IsLimited, IsOutside, IsStrained}
use Rattle.hp_waiting.specs.Waiting.{is_waiting}
use Rattle.hp_solve.specs.declared.solving.Solved.{Solved}
use Rattle.hp_solve.specs.declared.solving.Solved.TheVariants.{Sat, Unsat, Spent, Strained, StrainedPair, Outside, Limit, Memory}

-- a sorted problem that waits for no class and has a ground set: its clauses can be taken, and it passes no limit
pub record IsInScope (p : Problem) : Type 0 where
  pub sorted : sort_fault p ≡ None
  pub built : is_waiting p ≡ false
  pub within : Ground
  pub is : IsGroundOf p within

-- no declared name has a line feed, as in each problem that some text spells
abbrev pub AreNamesOnOneLine : Problem → Type 0
AreNamesOnOneLine p = All IsOnOneLine (map declared_word p.decls)

-- a structure satisfies the problem
pub record IsSat (p : Problem) (s : Structure) : Type 0 where
  pub scope : IsInScope p
  pub satisfied : Satisfies s p

-- the refutation refutes the ground lines, lists all definitions and the lines that it splits, and is spelled; no structure
-- satisfies the problem
pub record IsUnsat (p : Problem) (r : Refutation) : Type 0 where
  pub scope : IsInScope p
  pub lines : Ground
  pub ground : IsGroundOf p lines
  pub refuted : Refutes lines r
  pub defs : r.defs ≡ all_defs lines.names
  pub listed : AreSplitLines lines r.tree r.lines
  pub spelled : AreNamesOnOneLine p → IsSpelled r
  pub none : (s : Structure) → Satisfies s p → ⊥

-- an honest tree of so many splits and leaves, with an open place, and the lines that it splits, all of it spelled
pub record IsSpentOn (p : Problem) (most : ℕ) (r : Refutation) : Type 0 where
  pub scope : IsInScope p
  pub lines : Ground
  pub ground : IsGroundOf p lines
  pub honest : IsSpent (sorts lines.names) lines.lines r.tree most
  pub defs : r.defs ≡ all_defs lines.names
  pub listed : AreSplitLines lines r.tree r.lines
  pub spelled : AreNamesOnOneLine p → IsSpelled r

-- a number passes over the literals of an honest path through the ground lines
pub record IsStrainedOn (p : Problem) (s : Strain) : Type 0 where
  pub scope : IsInScope p
  pub lines : Ground
  pub ground : IsGroundOf p lines
  pub strain : IsHonestStrain (sorts lines.names) lines.lines s

abbrev pub SolvedAs : Problem → ℕ → Solved → Type 0
SolvedAs p most (Sat s) = IsSat p s
SolvedAs p most (Unsat r) = IsUnsat p r
SolvedAs p most (Spent r) = IsSpentOn p most r
SolvedAs p most (Strained s) = IsStrainedOn p s
SolvedAs p most (StrainedPair s) = IsStrained p s
SolvedAs p most (Outside o) = IsOutside p o
SolvedAs p most (Limit l) = IsLimited p l
SolvedAs p most Memory = Unit {0}
