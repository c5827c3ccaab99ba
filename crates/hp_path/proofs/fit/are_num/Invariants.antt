use Rattle.std.proofs.Common.{◌≡◌, ℕ, ◌<◌, get_or, Some}
use Rattle.std.specs.Prelude.{slice_get}
use Rattle.hp_tree.specs.declared.problem.Sort.TheVariants.{Num}
use Rattle.hp_lit.specs.declared.literal.Part.{Part}
use Rattle.hp_path.proofs.fit.are_num.Given as goal

abbrev pub invariant-loop-part : goal.invariant-loop-part
invariant-loop-part l = (k : ℕ) (d : Part) → k < l.part-index → slice_get l.sorts (get_or l.parts k d).name.0 ≡ Some Num
