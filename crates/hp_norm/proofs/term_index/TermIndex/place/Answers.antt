use Rattle.std.proofs.Common.{◌∙◌, ap, map}
use Rattle.hp_norm.specs.TermKeys.{term_key}
use Rattle.hp_norm.proofs.TermsFound.{place_by_first}
use Rattle.hp_norm.proofs.term_index.TermIndex.place.Goals as goal

pub returns-clause-first : goal.returns-clause-first
returns-clause-first c = λ term e.
    place_by_first c.args.key.now c.self.inside.keys c.args.self.now term c.position.result (c.self.invariant ∙ ap (map term_key) c.self.view_is) e c.position.ensures.first
