use Rattle.hp_path.specs.Components.{AreSettled}
use Rattle.hp_path.proofs.components.decide_apart.Given as goal

abbrev pub invariant-loop-lit : goal.invariant-loop-lit
invariant-loop-lit l = AreSettled l.sorts l.pace l.labelled.labels l.parts.nums l.parts.num_places l.lit-index l.done l.values l.unknown
