-- Trees in preorder: the nodes are read one by one, each at the first of the places that wait.
use Rattle.std.specs.Prelude.{◌≡◌, ℕ, zero, suc, ◌-◌, ◌*◌, ◌<◌, ◌≤◌, List, [], ◌∷◌, ◌++◌, length, map, pos, Option, Some, None, slice_get, slice_index_or, false}
use Rattle.std.specs.List.{All}
use Rattle.std.proofs.Math.ListN.{replicate}
use Rattle.hp_lit.specs.declared.literal.Lit.{Lit}
use Rattle.hp_lit.specs.declared.literal.Lit.TheVariants.{Idx}
use Rattle.hp_lit.specs.declared.line.Line.{Line}
use Rattle.hp_lit.specs.declared.proof.Choice.{Choice}
use Rattle.hp_tree.specs.declared.problem.Sort.{Sort}
use Rattle.hp_lit.specs.Sorts.{AreOfSorts}
use Rattle.hp_lit.specs.Truth.{Values, IsTrueAt, LineIsTrue}
use Rattle.hp_leaf.specs.declared.tree.Node.{Node}
use Rattle.hp_leaf.specs.declared.tree.Node.TheVariants.{Split, Leaf, Unopened}
use Rattle.hp_leaf.specs.Leaf.{IsValid}

-- ---- lines and choices, counted from 1
abbrev pub lits_of : Option Line → List Lit
lits_of None = []
lits_of (Some line) = line.lits

abbrev pub lits_at : List Line → ℕ → List Lit
lits_at lines n = lits_of (slice_get lines (n - 1))

abbrev pub IsLine : List Line → ℕ → Type 0
IsLine lines n = (1 ≤ n) × (n ≤ length lines)

-- `0 <= 0`, for a choice that names no literal
abbrev pub nothing : Lit
nothing = Idx (record { exact = false; left = None; right = None; bound = pos 0 })

abbrev pub lit_at : List Line → Choice → Lit
lit_at lines c = slice_index_or (lits_at lines c.line) (c.lit - 1) nothing

-- a place of a tree: the choices from the root to it
abbrev pub Place : Type 0
Place = List Choice

abbrev pub place_lits : List Line → Place → List Lit
place_lits lines place = map (lit_at lines) place

-- the places below a split: the literals after the first `done`, `left` of them
abbrev pub children : Place → ℕ → ℕ → ℕ → List Place
children place line done zero = []
children place line done (suc left) = (place ++ record { line = line; lit = suc done } ∷ []) ∷ children place line (suc done) left

-- ---- trees
-- some values make the literals of the place true and the line false
pub record IsOpenAt (sorts : List Sort) (lines : List Line) (place : Place) (line : ℕ) : Type 0 where
  pub values : Values
  pub sorted : AreOfSorts sorts values
  pub holds : All (IsTrueAt values) (place_lits lines place)
  pub fails : ¬ (LineIsTrue values (lits_at lines line))

-- reading the nodes turns the places that wait into the rest
abbrev pub Reads : (Place → ℕ → Type 0) → List Line → List Node → List Place → List Place → Type 0
Reads May lines [] places rest = places ≡ rest
Reads May lines (node ∷ nodes) [] rest = ⊥
Reads May lines (Split line ∷ nodes) (place ∷ places) rest =
    IsLine lines line × May place line × Reads May lines nodes (children place line 0 (length (lits_at lines line)) ++ places) rest
Reads May lines (Leaf proof ∷ nodes) (place ∷ places) rest = IsValid (place_lits lines place) proof × Reads May lines nodes places rest
Reads May lines (Unopened ∷ nodes) (place ∷ places) rest = ⊥

abbrev pub Any : Place → ℕ → Type 0
Any place line = Unit {0}

-- the tree is whole, and each leaf is valid
abbrev pub IsClosed : List Line → List Node → Type 0
IsClosed lines tree = Reads Any lines tree ([] ∷ []) []

-- splits and leaves, each split at a place where some values leave its line false, and then the places that still wait
pub record IsSpent (sorts : List Sort) (lines : List Line) (tree : List Node) (most : ℕ) : Type 0 where
  pub made : List Node
  pub waiting : List Place
  pub honest : Reads (IsOpenAt sorts lines) lines made ([] ∷ []) waiting
  pub whole : tree ≡ made ++ replicate (length waiting) Unopened
  pub count : length made ≡ most
  pub some : 0 < length waiting

-- the product of one plus the numbers of literals
abbrev pub limit : List Line → ℕ
limit [] = 1
limit (line ∷ lines) = suc (length line.lits) * limit lines
