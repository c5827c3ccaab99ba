-- Values of a sort.
use Rattle.std.specs.Prelude.{ℕ, Bool, true, ◌&&◌, pos}
use Rattle.hp_math.specs.Rational.{ℚ, whole, is_whole, lt_ℚ, le_ℚ}
use Rattle.hp_tree.specs.declared.problem.Sort.{Sort}
use Rattle.hp_tree.specs.declared.problem.Sort.TheVariants.{Num, Idx, Ptr}

-- a value of the sort, in a universe of so many pointers: any fraction, a whole number, a whole number below the size
abbrev pub is_of_sort : ℕ → Sort → ℚ → Bool
is_of_sort size Num v = true
is_of_sort size Idx v = is_whole v
is_of_sort size Ptr v = is_whole v && le_ℚ (whole (pos 0)) v && lt_ℚ v (whole (pos size))
