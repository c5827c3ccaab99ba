use Rattle.std.proofs.Common.{◌≡◌, ◌^◌, ◌<◌, take}
use Rattle.hp_text.specs.Numeral.{numeral_value}
use Rattle.hp_text.proofs.digits.numeral.Given as goal

abbrev pub invariant-loop-digit : goal.invariant-loop-digit
invariant-loop-digit l = record { value : l.value ≡ numeral_value (take l.digit-index l.bytes); small : l.value < 10 ^ l.digit-index }
