use Rattle.std.proofs.Common.{◌≡◌, drop, length}
use Rattle.hp_path.specs.Placed.{put_all}
use Rattle.hp_path.proofs.placing.put.Given as goal

abbrev pub invariant-loop-nv : goal.invariant-loop-nv
invariant-loop-nv l = (put_all l.values (drop l.nv-index l.point) ≡ put_all l.initial.values l.point) × (length l.values ≡ length l.initial.values)
