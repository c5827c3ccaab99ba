use Rattle.std.proofs.Common.{◌≡◌, ◌++◌, drop, map}
use Rattle.hp_norm.specs.TermKeys.{list_key, term_key}
use Rattle.hp_norm.proofs.key.+put_key.Given as goal

abbrev pub invariant-put_keys-loop-term : goal.invariant-put_keys-loop-term
invariant-put_keys-loop-term l = l.key.items ++ list_key (map term_key (drop l.term-index l.terms)) ≡ l.fn.key.items ++ list_key (map term_key l.terms)
