-- Where no token stands the fault is that of the bytes.
use Rattle.hp_read.proofs.Bytes.{no_token_here}
use Rattle.hp_read.proofs.reader.read_tokens.Goals as goal

pub returns-in_err-token-clause-fault : goal.returns-in_err-token-clause-fault
returns-in_err-token-clause-fault c =
    let known = c.loop-reading.invariant in
    no_token_here _ _ _ _ _ _ _ _ known.reading known.bytes known.place c.in_err-token.ensures.token c.from_residual.ensures.1
