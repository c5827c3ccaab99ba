-- What a refutation lists of a ground problem: all its definitions, and the lines that the tree splits.
use Rattle.std.specs.Prelude.{◌≡◌, ℕ, zero, suc, ◌<◌, ◌-◌, ◌↔◌, List, [], ◌∷◌, ◌++◌, map, length, Bool, true, false, if◌then◌else◌, slice_set, slice_index_or}
use Rattle.std.specs.List.{All, Contains}
use Rattle.hp_defs.specs.declared.names.Ground.{Ground}
use Rattle.hp_defs.specs.Names.{NameList}
use Rattle.hp_leaf.specs.declared.tree.Node.{Node}
use Rattle.hp_leaf.specs.declared.tree.Node.TheVariants.{Split, Leaf, Unopened}
use Rattle.hp_leaf.specs.Tree.{IsLine}
use Rattle.hp_cert.specs.declared.refutation.Entry.{Entry}
use Rattle.hp_cert.specs.Lines.{line_text, def_text}

abbrev pub entry_number : Entry → ℕ
entry_number entry = entry.number

-- the first definitions, each with its number and text
abbrev pub first_defs : NameList → ℕ → List Entry
first_defs names zero = []
first_defs names (suc n) = first_defs names n ++ record { number = suc n; text = def_text names (suc n) } ∷ []

abbrev pub all_defs : NameList → List Entry
all_defs names = first_defs names (length names.definitions)

-- each number is above the one before it, and the first above a bound
abbrev pub RisesFrom : ℕ → List ℕ → Type 0
RisesFrom bound [] = Unit {0}
RisesFrom bound (n ∷ ns) = (bound < n) × RisesFrom n ns

-- the entry has the text of the line with its number
abbrev pub IsLineOf : Ground → Entry → Type 0
IsLineOf g entry = IsLine g.lines entry.number × (entry.text ≡ line_text g entry.number)

-- the lines that the tree splits and no others, in rising order, each with its text
pub record AreSplitLines (g : Ground) (tree : List Node) (entries : List Entry) : Type 0 where
  pub rising : RisesFrom 0 (map entry_number entries)
  pub split : (n : ℕ) → Contains (map entry_number entries) n ↔ Contains tree (Split n)
  pub texts : All (IsLineOf g) entries

-- a split is of a line of the problem
abbrev pub SplitsLine : Ground → Node → Type 0
SplitsLine g (Split line) = IsLine g.lines line
SplitsLine g (Leaf proof) = Unit {0}
SplitsLine g Unopened = Unit {0}

-- ---- marks: one for each line, true where the tree splits it

abbrev pub with_mark : List Bool → Node → List Bool
with_mark marks (Split line) = slice_set marks (line - 1) true
with_mark marks (Leaf proof) = marks
with_mark marks Unopened = marks

abbrev pub with_marks : List Bool → List Node → List Bool
with_marks marks [] = marks
with_marks marks (node ∷ nodes) = with_marks (with_mark marks node) nodes

-- the entries of the marked ones among the first lines
abbrev pub marked_lines : Ground → List Bool → ℕ → List Entry
marked_lines g marks zero = []
marked_lines g marks (suc n) = marked_lines g marks n ++ (if slice_index_or marks n false then record { number = suc n; text = line_text g (suc n) } ∷ [] else [])
