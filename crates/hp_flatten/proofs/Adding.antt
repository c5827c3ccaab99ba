-- The applications in a term, behind those that were found before.
use Rattle.std.proofs.Common.{◌≡◌, List, [], ◌∷◌, ◌++◌, map, ◌⊎◌, inl, inr, sym, ap, ◌∙◌}
use Rattle.std.proofs.lemmas.List.{append_assoc}
use Rattle.hp_tree.specs.declared.term.Term.{Term, Apply, Add, Sub}
use Rattle.hp_tree.specs.declared.term.Term.TheOpen.{Term-F}
use Rattle.hp_tree.specs.declared.term.Term.TheVariants.{rolls-Apply, rolls-Add, rolls-Sub}
use Rattle.hp_tree.specs.Value.{Word}
use Rattle.hp_terms.specs.Occurring.{joined}
use Rattle.hp_flatten.specs.declared.application.Application.{Application}
use Rattle.hp_flatten.specs.Applications.{applications}
use Rattle.hp_flatten.proofs.HoldsTerms.{applications_at, applications_apply}

module _ (term : Term) (old mid : List Application) where
  behind : (xs ys : List Application) → mid ≡ old ++ xs → xs ++ ys ≡ applications term → mid ++ ys ≡ old ++ applications term
  behind xs ys e f = ap (λ all. all ++ ys) e ∙ append_assoc old xs ys ∙ ap (λ all. old ++ all) f

  pub apply_behind : (func : Word) (args : List Term) → term ≡ Apply func args → mid ≡ old ++ record { func = func; args = args } ∷ []
      → mid ++ joined (map applications args) ≡ old ++ applications term
  apply_behind func args is e =
      behind (record { func = func; args = args } ∷ []) (joined (map applications args)) e
      (sym (applications_apply func args) ∙ ap applications (rolls-Apply func args ∙ sym is))

  add_behind : (left right : Term) → term ≡ Add left right → mid ≡ old ++ applications left → mid ++ applications right ≡ old ++ applications term
  add_behind left right is e =
      behind (applications left) (applications right) e (sym (applications_at (Term-F.Add left right)) ∙ ap applications (rolls-Add left right ∙ sym is))

  sub_behind : (left right : Term) → term ≡ Sub left right → mid ≡ old ++ applications left → mid ++ applications right ≡ old ++ applications term
  sub_behind left right is e =
      behind (applications left) (applications right) e (sym (applications_at (Term-F.Sub left right)) ∙ ap applications (rolls-Sub left right ∙ sym is))

  -- a sum, or a difference
  pub two_behind : (left right : Term) → (term ≡ Add left right) ⊎ (term ≡ Sub left right) → mid ≡ old ++ applications left → mid ++ applications right ≡ old ++ applications term
  two_behind left right (inl is) e = add_behind left right is e
  two_behind left right (inr is) e = sub_behind left right is e
