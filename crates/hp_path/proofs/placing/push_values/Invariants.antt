use Rattle.std.proofs.Common.{◌≡◌, ◌++◌, take}
use Rattle.hp_path.proofs.placing.push_values.Given as goal

abbrev pub invariant-loop-nv : goal.invariant-loop-nv
invariant-loop-nv l = l.values ≡ l.initial.values ++ take l.nv-index l.more
