-- What it answers where the bytes spell a problem follows from the two other clauses.
use Rattle.hp_read.proofs.Printing.{printed_only}
use Rattle.hp_read.proofs.transcript.transcribe.Goals as goal

pub returns-clause-only : goal.returns-clause-only
returns-clause-only c = λ p s. printed_only _ c.print_tokens.result c.print_tokens.ensures.found c.print_tokens.ensures.fault p s
