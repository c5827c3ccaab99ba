use Rattle.std.proofs.Common.{arith}
use Rattle.std.proofs.lemmas.List.{length-take}
use Rattle.hp_cli.proofs.Transfers.{read_few, read_more}
use Rattle.hp_cli.proofs.transfer.read_all.Goals as goal

pub returns-then-is_err-clause-input : goal.returns-then-is_err-clause-input
returns-then-is_err-clause-input g c = read_few _ _ _ (read_more _ _ _ _ _ c.input.invariant.0 c.in-Ok.ensures.bytes.0
    (omega (arith, length-take c.in-Ok.count c.read.new.buf, length-take c.min-room.result c.input.buf, c.read.auto.buf, c.min-room.ensures)))
