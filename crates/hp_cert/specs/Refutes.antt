-- When a refutation refutes a ground problem.
use Rattle.std.specs.Prelude.{◌≡◌, ℕ, ◌≤◌, List, length, map}
use Rattle.std.specs.List.{All, Contains}
use Rattle.hp_defs.specs.declared.names.Ground.{Ground}
use Rattle.hp_defs.specs.Names.{NameList}
use Rattle.hp_leaf.specs.declared.tree.Node.{Node}
use Rattle.hp_leaf.specs.declared.tree.Node.TheVariants.{Split, Leaf, Unopened}
use Rattle.hp_leaf.specs.Tree.{IsClosed}
use Rattle.hp_cert.specs.declared.refutation.Entry.{Entry}
use Rattle.hp_cert.specs.declared.refutation.Refutation.{Refutation}
use Rattle.hp_cert.specs.Lines.{def_text}
use Rattle.hp_cert.specs.Entries.{entry_number, IsLineOf}

-- the entry has the text of the definition with its number
abbrev pub IsDefOf : NameList → Entry → Type 0
IsDefOf names entry = (1 ≤ entry.number) × (entry.number ≤ length names.definitions) × (entry.text ≡ def_text names entry.number)

-- a split is of a listed line
abbrev pub SplitsListed : List ℕ → Node → Type 0
SplitsListed listed (Split line) = Contains listed line
SplitsListed listed (Leaf proof) = Unit {0}
SplitsListed listed Unopened = Unit {0}

-- what is listed is the problem's, letter by letter, each split is of a listed line, and the tree is whole with valid
-- leaves
pub record Refutes (g : Ground) (r : Refutation) : Type 0 where
  pub defs : All (IsDefOf g.names) r.defs
  pub lines : All (IsLineOf g) r.lines
  pub splits : All (SplitsListed (map entry_number r.lines)) r.tree
  pub closed : IsClosed g.lines r.tree
