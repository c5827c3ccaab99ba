use Rattle.hp_roundtrip.proofs.Reprinted.{reprints_ok}
use Rattle.hp_roundtrip.proofs.reprinting.reprint.Goals as goal

pub returns-clause-found : goal.returns-clause-found
returns-clause-found c = reprints_ok c.args.bytes.now c.transcribe.result c.transcribe.ensures.found
