use Rattle.hp_roundtrip.proofs.Reprinted.{printed_text_spells}
use Rattle.hp_roundtrip.proofs.laws.printed_text_spells.Goals as goal

pub returns : goal.returns
returns c = printed_text_spells
