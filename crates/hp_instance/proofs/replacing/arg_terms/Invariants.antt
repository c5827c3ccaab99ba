use Rattle.std.proofs.Common.{◌≡◌, map, take}
use Rattle.hp_instance.specs.Replacing.{arg_term}
use Rattle.hp_instance.proofs.replacing.arg_terms.Given as goal

abbrev pub invariant-loop-arg : goal.invariant-loop-arg
invariant-loop-arg l = l.terms ≡ map (arg_term l.names) (take l.arg-index l.args)
