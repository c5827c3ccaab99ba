-- Where no token stands the fault is that of the bytes.
use Rattle.hp_read.proofs.Printing.{no_token_printing}
use Rattle.hp_read.proofs.transcript.print_tokens.Goals as goal

pub returns-in_err-token-clause-fault : goal.returns-in_err-token-clause-fault
returns-in_err-token-clause-fault c =
    let known = c.loop-out.invariant in
    no_token_printing _ _ _ _ _ _ _ _ _ known.printing known.bytes known.place c.in_err-token.ensures.token c.from_residual-in_err-token.ensures.1
