use Rattle.std.proofs.Common.{◌≡◌, ◌∙◌, ◌++◌, ◌∷◌, [], List, ap, subst}
use Rattle.std.specs.Result.{OnOk}
use Rattle.hp_tree.specs.declared.term.Term.{Term}
use Rattle.hp_norm.proofs.TermsFound.{noted_again, noted_once}
use Rattle.hp_norm.proofs.term_index.TermIndex.note.Goals as goal

pub returns-in-Some : goal.returns-in-Some
returns-in-Some c =
    noted_again c.args.self.now c.args.term.now c.in-Some.field-0 (c.in-Some.ensures.first c.args.term.now (c.as_slice.ensures.value ∙ c.in_ok-key.ensures))

pub returns-in_ok-copy-in-None : goal.returns-in_ok-copy-in-None
returns-in_ok-copy-in-None c =
    let terms = c.args.self.now in
    subst (λ (ts : List Term). OnOk c.add.result (c.add.new.self ≡ ts))
    (ap (λ (t : Term). terms ++ t ∷ []) c.in_ok-copy-in-None.ensures
    ∙ noted_once terms c.args.term.now (c.in-None.ensures.first c.args.term.now (c.as_slice.ensures.value ∙ c.in_ok-key.ensures))) c.add.ensures.added
