-- What the reader answers where the bytes spell a problem follows from the two other clauses.
use Rattle.hp_read.proofs.BytesLaws.{read_only}
use Rattle.hp_read.proofs.reader.read.Goals as goal

pub returns-clause-only : goal.returns-clause-only
returns-clause-only c = λ p s. read_only _ c.read_tokens.result c.read_tokens.ensures.found c.read_tokens.ensures.fault p s
