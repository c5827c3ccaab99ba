-- A token that passes a limit may stand there by the grammar.
use Rattle.std.proofs.Common.{◌≡◌, Some, None, refl, sym, subst}
use Rattle.hp_grammar.specs.Counts.{count}
use Rattle.hp_read.specs.Top.{top_step}
use Rattle.hp_read.proofs.reader.Reading.step.Goals as goal

pub returns-in-None-clause-fault : goal.returns-in-None-clause-fault
returns-in-None-clause-fault c = (
  refl,
  (_, subst (λ z. top_step c.args.self.now.progress z ≡ Some c.step.new.self) c.in_ok-symbol.ensures c.in-Ok.ensures),
  subst (λ z. count c.args.self.now.counts z ≡ None) c.in_ok-symbol.ensures (sym c.in-None.ensures),
)
