use Rattle.std.proofs.Common.{◌∙◌, List, ap, length}
use Rattle.hp_tree.specs.declared.term.Term.{Term}
use Rattle.hp_norm.proofs.TermsFound.{not_found}
use Rattle.hp_norm.proofs.term_index.TermIndex.place_of.Goals as goal

pub returns-clause-place : goal.returns-clause-place
returns-clause-place c =
    c.len.ensures ∙ ap (λ (ts : List Term). length ts) c.self.view_is
    ∙ not_found c.args.self.now c.args.term.now (c.in-None.ensures.first c.args.term.now (c.as_slice.ensures.value ∙ c.in_ok-key.ensures))
