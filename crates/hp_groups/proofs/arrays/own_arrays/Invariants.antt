use Rattle.std.proofs.Common.{◌≡◌, ◌&&◌, filter, take}
use Rattle.std.specs.Prelude.{slice_get}
use Rattle.hp_rules.specs.Rules.{has_level, is_array}
use Rattle.hp_groups.proofs.arrays.own_arrays.Given as goal

abbrev pub invariant-loop-func : goal.invariant-loop-func
invariant-loop-func l = l.own ≡ filter (λ func. is_array l.ruled func && has_level l.level (slice_get l.names.signatures func)) (take l.func-index l.order)
