-- The limits that a ground problem may pass.
use Rattle.std.specs.Prelude.{ℕ}
use Rattle.hp_tree.specs.Limits.{most_names, most_lines}
use Rattle.hp_tree.specs.declared.limit.Limit.{Limit}
use Rattle.hp_tree.specs.declared.limit.Which.TheVariants.{Names, Lines, Coefficient}

-- more names than there may be
abbrev pub many_names : Limit
many_names = record { which = Names; most = most_names; item = 0 }

-- more lines than there may be
abbrev pub many_lines : Limit
many_lines = record { which = Lines; most = most_lines; item = 0 }

-- a number that is too wide, first in this item
abbrev pub coefficient : ℕ → Limit
coefficient item = record { which = Coefficient; most = 0; item = item }
