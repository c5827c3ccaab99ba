-- What the program says of the bytes of an input.
use Rattle.std.specs.Prelude.{◌≡◌, ◌≢◌, ℕ, ◌<◌, ◌≤◌, List, ◌++◌, ◌+◌, codes, length, Some, None, true, false}
use Rattle.std.specs.Fmt.{decimal}
use Rattle.hp_tree.specs.declared.limit.Limit.{Limit}
use Rattle.hp_tree.specs.declared.limit.Which.TheVariants.{Bytes}
use Rattle.hp_tree.specs.declared.problem.Problem.{Problem}
use Rattle.hp_ast.specs.Printing.{problem_text}
use Rattle.hp_defs.specs.declared.names.Ground.{Ground}
use Rattle.hp_defs.specs.Names.{sorts}
use Rattle.hp_grammar.specs.declared.fault.ReadErr.{ReadErr}
use Rattle.hp_grammar.specs.declared.fault.ReadErr.TheVariants.{Memory as memory}
use Rattle.hp_grammar.specs.Spells.{Spells, IsFault}
use Rattle.hp_sorts.specs.declared.fault.SortErr.{SortErr}
use Rattle.hp_sorts.specs.Faults.{sort_fault}
use Rattle.hp_sorts.specs.Limits.{limit, passed}
use Rattle.hp_model.specs.declared.structure.Structure.{Structure}
use Rattle.hp_model.specs.Satisfies.{Satisfies}
use Rattle.hp_model.specs.Written.{structure_text}
use Rattle.hp_leaf.specs.Tree.{IsSpent}
use Rattle.hp_cert.specs.declared.refutation.Refutation.{Refutation}
use Rattle.hp_cert.specs.Entries.{AreSplitLines, all_defs}
use Rattle.hp_cert.specs.Refutation.{refutation_text}
use Rattle.hp_cert.specs.Refutes.{Refutes}
use Rattle.hp_cert.specs.Spelled.{IsSpelled}
use Rattle.hp_descent.specs.declared.answer.Strain.{Strain}
use Rattle.hp_search.specs.Search.{IsHonestStrain}
use Rattle.hp_pairs.specs.declared.answer.Outside.{Outside}
use Rattle.hp_pairs.specs.declared.answer.PairStrain.{PairStrain}
use Rattle.hp_pairs.specs.Text.{outside_text}
use Rattle.hp_waiting.specs.Waiting.{is_waiting}
use Rattle.hp_chain.specs.Ground.{IsGroundOf, IsLimited, IsOutside, IsStrained}
use Rattle.hp_cert.specs.Overflow.{overflow_text, pair_overflow_text}
use Rattle.hp_tree.specs.Limits.{most_bytes}
use Rattle.hp_cli.specs.Refusals.{line, limit_text, not_built_text, sort_text, spelling_text}

-- ---- how far an input comes
-- at most 1,048,576 bytes, and they spell the problem
pub record IsRead (bytes : List ℕ) (p : Problem) : Type 0 where
  pub size : length bytes ≤ most_bytes
  pub spelled : Spells bytes p

-- no item breaks a rule on names and sorts
pub record IsSorted (bytes : List ℕ) (p : Problem) : Type 0 where
  pub read : IsRead bytes p
  pub sorted : sort_fault p ≡ None

-- at most 2,000 clauses, of at most 6 variables each, and functions of at most 4 arguments
pub record IsCounted (bytes : List ℕ) (p : Problem) : Type 0 where
  pub sorted : IsSorted bytes p
  pub counted : passed p ≡ None

-- its clauses with variables are of forms that are decided
pub record IsBuilt (bytes : List ℕ) (p : Problem) : Type 0 where
  pub counted : IsCounted bytes p
  pub built : is_waiting p ≡ false

-- It has a ground set: its clauses keep the rules of the profile, and the ground set passes no limit, with at most 4,000 constants
-- and definitions, 50,000 lines, and no number of a normal form above 2^127 - 1. These are the texts that get a verdict, or a strain.
pub record InScope (bytes : List ℕ) (p : Problem) : Type 0 where
  pub built : IsBuilt bytes p
  pub within : Ground
  pub is : IsGroundOf p within

-- ---- refusals
pub record Misspelled (bytes text : List ℕ) : Type 0 where
  pub size : length bytes ≤ most_bytes
  pub fault : ReadErr
  pub cause : IsFault bytes fault
  pub known : fault ≢ memory
  pub written : text ≡ spelling_text fault

pub record Missorted (bytes text : List ℕ) : Type 0 where
  pub problem : Problem
  pub read : IsRead bytes problem
  pub fault : SortErr
  pub cause : sort_fault problem ≡ Some fault
  pub written : text ≡ sort_text fault

-- more bytes than a problem may have
pub record TooLong (bytes text : List ℕ) : Type 0 where
  pub size : most_bytes < length bytes
  pub written : text ≡ limit_text (limit Bytes most_bytes)

-- more clauses, variables or arguments
pub record TooMany (bytes text : List ℕ) : Type 0 where
  pub problem : Problem
  pub sorted : IsSorted bytes problem
  pub passed_limit : Limit
  pub cause : passed problem ≡ Some passed_limit
  pub written : text ≡ limit_text passed_limit

-- a clause is of a form that isn't decided so far
pub record OtherForm (bytes text : List ℕ) : Type 0 where
  pub problem : Problem
  pub counted : IsCounted bytes problem
  pub cause : is_waiting problem ≡ true
  pub written : text ≡ not_built_text

-- more names or lines than a ground set may have, or a number of a normal form that is too wide, whichever is made first
pub record Limited (bytes text : List ℕ) : Type 0 where
  pub problem : Problem
  pub built : IsBuilt bytes problem
  pub passed_limit : Limit
  pub cause : IsLimited problem passed_limit
  pub written : text ≡ limit_text passed_limit

-- the first clause that breaks a rule of the profile, or, where none breaks one by itself, the first two cases that break one with
-- each other, with a point that shows it
pub record Unruly (bytes text : List ℕ) : Type 0 where
  pub problem : Problem
  pub built : IsBuilt bytes problem
  pub broken : Outside
  pub cause : IsOutside problem broken
  pub written : text ≡ outside_text broken

-- a number passes 2^127 - 1 over the rows of two cases, and no cases before them break a rule
pub record StrainedPair (bytes text : List ℕ) : Type 0 where
  pub problem : Problem
  pub built : IsBuilt bytes problem
  pub strain : PairStrain
  pub cause : IsStrained problem strain
  pub written : text ≡ pair_overflow_text strain.rule strain.clause strain.other strain.row

-- ---- answers
-- the text is the printed text of the problem, and spells it too
pub record Printed (bytes text : List ℕ) : Type 0 where
  pub problem : Problem
  pub read : IsRead bytes problem
  pub written : text ≡ problem_text problem
  pub respelled : Spells text problem

-- the text is a structure that satisfies the problem
pub record Satisfiable (bytes text : List ℕ) : Type 0 where
  pub problem : Problem
  pub scope : InScope bytes problem
  pub structure : Structure
  pub satisfied : Satisfies structure problem
  pub written : text ≡ line (codes "satisfiable") ++ structure_text structure

-- Over an honest path through the ground lines of the problem a number passes 2^127 - 1 as the text says: in the descent over
-- the path's literals over fractions, or in the sum of a literal at values that satisfy them.
pub record Strained (bytes text : List ℕ) : Type 0 where
  pub problem : Problem
  pub scope : InScope bytes problem
  pub lines : Ground
  pub ground : IsGroundOf problem lines
  pub strain : Strain
  pub strained : IsHonestStrain (sorts lines.names) lines.lines strain
  pub written : text ≡ overflow_text strain

-- No structure satisfies the problem, and the text is a refutation: each definition and line in it is that of the problem
-- with its number, each split is of a listed line, and the tree is whole with valid leaves. All definitions are listed, and
-- the lines that the tree splits and no others, in rising order, and the numbers are those that a refutation may have.
pub record Unsatisfiable (bytes text : List ℕ) : Type 0 where
  pub problem : Problem
  pub scope : InScope bytes problem
  pub lines : Ground
  pub ground : IsGroundOf problem lines
  pub refutation : Refutation
  pub refuted : Refutes lines refutation
  pub defs : refutation.defs ≡ all_defs lines.names
  pub listed : AreSplitLines lines refutation.tree refutation.lines
  pub spelled : IsSpelled refutation
  pub none : (s : Structure) → Satisfies s problem → ⊥
  pub written : text ≡ line (codes "unsatisfiable") ++ refutation_text refutation

-- The text is an honest tree of exactly so many splits and leaves, with an open place, below the definitions and the
-- lines that it splits.
pub record OutOfNodes (bytes text : List ℕ) (most : ℕ) : Type 0 where
  pub problem : Problem
  pub scope : InScope bytes problem
  pub lines : Ground
  pub ground : IsGroundOf problem lines
  pub listing : Refutation
  pub honest : IsSpent (sorts lines.names) lines.lines listing.tree most
  pub defs : listing.defs ≡ all_defs lines.names
  pub listed : AreSplitLines lines listing.tree listing.lines
  pub spelled : IsSpelled listing
  pub written : text ≡ line (codes "spent " ++ decimal most) ++ refutation_text listing
