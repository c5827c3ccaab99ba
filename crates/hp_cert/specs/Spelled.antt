-- When the text of a refutation is one that the language of refutations has: what its entries and nodes must keep to.
use Rattle.std.specs.Prelude.{◌≡◌, ◌≢◌, ℕ, ◌<◌, ◌≤◌, ◌^◌, List, [], ◌∷◌, ◌++◌, length, map, pos, unsigned_abs, slice_get}
use Rattle.std.specs.List.{All}
use Rattle.std.proofs.Math.ListN.{replicate}
use Rattle.hp_lit.specs.declared.line.Line.{Line}
use Rattle.hp_lit.specs.declared.proof.Share.{Share}
use Rattle.hp_lit.specs.declared.proof.Step.{Step}
use Rattle.hp_defs.specs.declared.names.Constant.{Constant}
use Rattle.hp_lit.specs.declared.line.Body.{Body}
use Rattle.hp_lit.specs.declared.line.Body.TheVariants.{Apply, Sum}
use Rattle.hp_lit.specs.declared.line.Def.{Def}
use Rattle.hp_defs.specs.Names.{NameList}
use Rattle.hp_lit.specs.Leaf.{IsRising}
use Rattle.hp_leaf.specs.declared.tree.LeafProof.{LeafProof}
use Rattle.hp_leaf.specs.declared.tree.LeafProof.TheVariants.{Num, Idx, Ptr}
use Rattle.hp_leaf.specs.declared.tree.Node.{Node}
use Rattle.hp_leaf.specs.declared.tree.Node.TheVariants.{Split, Leaf, Unopened}
use Rattle.hp_leaf.specs.Tree.{Place, Reads, Any}
use Rattle.hp_cert.specs.declared.refutation.Entry.{Entry}
use Rattle.hp_cert.specs.declared.refutation.Refutation.{Refutation}
use Rattle.hp_cert.specs.Lines.{function_name}
use Rattle.hp_cert.specs.Entries.{entry_number, RisesFrom}

-- the numbers of definitions, lines and literals
abbrev pub IsNumber : ℕ → Type 0
IsNumber n = (1 ≤ n) × (n ≤ 4294967295)

abbrev pub IsStep : Step → Type 0
IsStep step = IsNumber step.lit

-- a multiplier isn't 0 and has a magnitude of at most 2^127 - 1
pub record IsShare (share : Share) : Type 0 where
  pub number : IsNumber share.lit
  pub some : share.times ≡ pos 0 → ⊥
  pub narrow : unsigned_abs share.times < 2 ^ 127

-- a combination takes at least one literal, and its literals rise
pub record AreShares (shares : List Share) : Type 0 where
  pub some : 1 ≤ length shares
  pub rising : IsRising shares
  pub each : All IsShare shares

-- a cycle has at least one step
pub record AreSteps (steps : List Step) : Type 0 where
  pub some : 1 ≤ length steps
  pub each : All IsStep steps

-- of pointers one inequality is named, and any number of equalities
abbrev pub IsSpelledLeaf : LeafProof → Type 0
IsSpelledLeaf (Num shares) = AreShares shares
IsSpelledLeaf (Idx steps) = AreSteps steps
IsSpelledLeaf (Ptr ne links) = IsNumber ne × All IsNumber links

abbrev pub IsSpelledNode : Node → Type 0
IsSpelledNode (Split line) = IsNumber line
IsSpelledNode (Leaf proof) = IsSpelledLeaf proof
IsSpelledNode Unopened = Unit {0}

abbrev pub HasNumber : Entry → Type 0
HasNumber entry = IsNumber entry.number

-- a byte that isn't a line feed
abbrev pub IsOther : ℕ → Type 0
IsOther byte = byte ≢ 10

abbrev pub IsOnOneLine : List ℕ → Type 0
IsOnOneLine text = All IsOther text

abbrev pub HasOneLine : Entry → Type 0
HasOneLine entry = IsOnOneLine entry.text

-- numbers that rise from 1 on, so that each is listed once, and a line of text for each
pub record AreListed (entries : List Entry) : Type 0 where
  pub rising : RisesFrom 0 (map entry_number entries)
  pub numbers : All HasNumber entries
  pub texts : All HasOneLine entries

-- The definitions are listed, and so are the lines, and each node is spelled. Places that weren't looked at may stand in a
-- tree that came to a limit, and in no refutation.
pub record IsSpelled (r : Refutation) : Type 0 where
  pub defs : AreListed r.defs
  pub lines : AreListed r.lines
  pub tree : All IsSpelledNode r.tree

-- the name of the function that is applied
abbrev pub FunctionIsOnOneLine : NameList → Body → Type 0
FunctionIsOnOneLine names (Apply func args) = IsOnOneLine (function_name (slice_get names.signatures func))
FunctionIsOnOneLine names (Sum lin) = Unit {0}

-- no constant has a name with a line feed, and no function that a definition applies
pub record AreOnOneLine (names : NameList) : Type 0 where
  pub constants : All (λ (constant : Constant). IsOnOneLine constant.name) names.constants
  pub functions : All (λ (def : Def). FunctionIsOnOneLine names def.body) names.definitions

-- splits and valid leaves, and behind them the places that weren't looked at
pub record IsReading (lines : List Line) (tree : List Node) : Type 0 where
  pub made : List Node
  pub waiting : List Place
  pub reads : Reads Any lines made ([] ∷ []) waiting
  pub whole : tree ≡ made ++ replicate (length waiting) Unopened
