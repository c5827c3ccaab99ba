-- The fields of kept rows.
use Rattle.std.specs.Prelude.{◌≡◌, ◌⊎◌, ◌+◌, ◌≤◌, length}
use Rattle.hp_tree.specs.Limits.{most_names, most_rows}
use Rattle.hp_diff.specs.declared.kept.Kept.TheInside.{Inside}
use Rattle.hp_diff.specs.inner.RowEdges.{edges_of}
use Rattle.hp_diff.specs.Kept.{KeptRows}
use Rattle.hp_diff.specs.inner.State.{IsEmpty, IsState}

abbrev pub kept_rows : Inside → KeptRows
kept_rows k = record { names = k.names; rows = k.rows; nodes = k.state.values }

pub record IsInside (k : Inside) : Type 0 where
  pub names : k.names ≤ most_names
  pub few : length k.rows ≤ most_rows
  pub edges : k.state.net.edges ≡ edges_of 1 k.rows
  pub state : IsState (k.names + 1) k.state ⊎ IsEmpty k.state
