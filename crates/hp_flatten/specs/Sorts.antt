-- Tests for each sort.
use Rattle.std.specs.Prelude.{Bool, true, false}
use Rattle.hp_tree.specs.declared.problem.Sort.{Sort}
use Rattle.hp_tree.specs.declared.problem.Sort.TheVariants.{Num, Idx, Ptr}

abbrev pub is_num : Sort → Bool
is_num Num = true
is_num Idx = false
is_num Ptr = false

abbrev pub is_idx : Sort → Bool
is_idx Num = false
is_idx Idx = true
is_idx Ptr = false

abbrev pub is_ptr : Sort → Bool
is_ptr Num = false
is_ptr Idx = false
is_ptr Ptr = true
