use Rattle.std.proofs.Common.{◌≡◌, ◌++◌, map, take}
use Rattle.hp_defs.specs.Cells.{arg_cell}
use Rattle.hp_defs.proofs.cell.put_args.Given as goal

abbrev pub invariant-loop-arg : goal.invariant-loop-arg
invariant-loop-arg l = l.all.items ≡ l.fn.all.items ++ map arg_cell (take l.arg-index l.args)
