-- The words of definitions differ, and none of them is plain.
use Rattle.std.proofs.Common.{ap, drop}
use Rattle.std.proofs.lemmas.Fmt.{decimal_injective, digits_decimal}
use Rattle.std.proofs.lemmas.Str.Parse.{numerals_by_value, tells_all_ascii_digits}
use Rattle.hp_terms.specs.Laws.{MadeWordsAreNotPlain, MadeWordsDiffer}

pub made_words_differ : MadeWordsDiffer
made_words_differ m n p q e = decimal_injective m n p q (ap (drop 1) e)

pub made_words_are_not_plain : MadeWordsAreNotPlain
made_words_are_not_plain n p = digits_decimal (numerals_by_value _ tells_all_ascii_digits) n p
