-- What is made of an application in a clause with variables, from what is made of its arguments.
use Rattle.std.proofs.Common.{◌≡◌, ℕ, Bool, true, false, List, map, Result, sym, ap, ◌∙◌}
use Rattle.std.specs.List.{position_or_len}
use Rattle.hp_tree.specs.declared.term.Term.{Term, Apply, Name, fold-roll-Term}
use Rattle.hp_tree.specs.declared.term.Term.TheOpen.{Term-F}
use Rattle.hp_tree.specs.declared.term.Term.TheVariants.{rolls-Apply}
use Rattle.hp_tree.specs.declared.problem.Var.{Var}
use Rattle.hp_tree.specs.Value.{Word}
use Rattle.hp_lit.specs.declared.refusal.GroundErr.{GroundErr}
use Rattle.hp_defs.specs.declared.names.Ground.{Ground}
use Rattle.hp_base.specs.Making.{Maker, Makes}
use Rattle.hp_base.proofs.Making.{makes_other}
use Rattle.hp_norm.specs.declared.standing.Standing.{Standing}
use Rattle.hp_norm.specs.Naming.{applied, name_step, named}
use Rattle.hp_norm.specs.Opening.{kept_application, mentions, opened, opened_application, opening_step}
use Rattle.hp_norm.specs.Testing.{hidden, hide_step, stand_in}
use Rattle.hp_norm.specs.Trees.{gather_step, gathered, noted, one_by_one, same_term}
use Rattle.hp_norm.proofs.Seeing.{by_term_apply}

pub gathered_apply : (term : Term) (func : Word) (args apps mid : List Term) → term ≡ Apply func args → mid ≡ one_by_one (map gathered args) apps → noted term mid ≡ gathered term apps
gathered_apply term func args apps mid is e =
    (λ i. noted (is i) (e i))
    ∙ sym (ap (λ (f : List Term → List Term). f apps) (by_term_apply gather_step func args))
    ∙ sym (ap (λ t. gathered t apps) is)

pub hidden_apply : (s : Standing) (term : Term) (func : Word) (args : List Term) → term ≡ Apply func args → Name (stand_in s (position_or_len (same_term term) s.apps)) ≡ hidden s term
hidden_apply s term func args is =
    ap (λ t. Name (stand_in s (position_or_len (same_term t) s.apps))) is ∙ sym (by_term_apply (hide_step s) func args) ∙ sym (ap (hidden s) is)

module _ (vars : List Var) (item : ℕ) (term : Term) (func : Word) (args : List Term) (is : term ≡ Apply func args) where
  at_test : (b : Bool) → mentions vars term ≡ b → opened vars item term ≡ opened_application item b term func (map (opened vars item) args)
  at_test b e =
      ap (opened vars item) is ∙ by_term_apply (opening_step vars item) func args
      ∙ sym (ap (λ t. opened_application item (mentions vars t) t func (map (opened vars item) args)) is)
      ∙ ap (λ c. opened_application item c term func (map (opened vars item) args)) e

  -- an application with a variable in it stays one
  pub opened_kept : (old new : Ground) (r : Result Term GroundErr) → mentions vars term ≡ true → Makes (kept_application func (map (opened vars item) args)) old new r → Makes (opened vars item term) old new r
  opened_kept old new r e h = makes_other (kept_application func (map (opened vars item) args)) (opened vars item term) old new r (ap (λ (m : Maker Term). m old) (at_test true e)) h

  -- and one without is named
  pub opened_named : (old new : Ground) (r : Result Term GroundErr) → mentions vars term ≡ false → Makes (applied item func (map (named item) args)) old new r → Makes (opened vars item term) old new r
  opened_named old new r e h =
      let name : named item (Apply func args) ≡ applied item func (map (named item) args) =
      ap (named item) (sym (rolls-Apply func args)) ∙ fold-roll-Term (Maker Term) (name_step item) (Term-F.Apply func args) in
      makes_other (applied item func (map (named item) args)) (opened vars item term) old new r (ap (λ (m : Maker Term). m old) (at_test false e ∙ ap (named item) is ∙ name)) h
