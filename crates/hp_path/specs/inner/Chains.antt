-- The literals of each label, one behind the other.
use Rattle.std.specs.Prelude.{◌≡◌, ◌≢◌, ℕ, ◌+◌, ◌<◌, ◌≤◌, List, length, slice_index, slice_index_or}
use Rattle.hp_lit.specs.declared.literal.NumLit.{NumLit}
use Rattle.hp_path.specs.declared.chains.Chains.{Chains}
use Rattle.hp_path.specs.declared.chains.Labelled.{Labelled}
use Rattle.hp_path.specs.Components.{AreLabels, first_label}

-- the label of a literal, counted from 0
abbrev pub label_of : List ℕ → List NumLit → ℕ → NumLit → ℕ
label_of labels nums k d = first_label labels (slice_index_or nums k d).parts

-- the first literal of this label from i on, or the count of literals where there is none
pub record IsNext (labels : List ℕ) (nums : List NumLit) (label i j : ℕ) : Type 0 where
  pub after : i ≤ j
  pub within : j ≤ length nums
  pub others : (k : ℕ) (d : NumLit) → i ≤ k → k < j → label_of labels nums k d ≢ label
  pub has : (d : NumLit) → j < length nums → label_of labels nums j d ≡ label

-- from literal i on: the first literal of each label, and the next one of each literal's label
pub record AreChained (labels : List ℕ) (nums : List NumLit) (i : ℕ) (c : Chains) : Type 0 where
  pub labels_count : length c.firsts ≡ length labels + 1
  pub count : length c.nexts ≡ length nums + 1
  pub first : (label : ℕ) → label < length labels + 1 → IsNext labels nums label i (slice_index c.firsts label)
  pub next : (k : ℕ) (d : NumLit) → i ≤ k → k < length nums → IsNext labels nums (label_of labels nums k d) (k + 1) (slice_index c.nexts k)

pub record AreLabelled (nums : List NumLit) (l : Labelled) : Type 0 where
  pub labels : AreLabels l.labels nums
  pub chained : AreChained l.labels nums 0 l.chains
