-- The functions of open applications in a term, from those in its parts.
use Rattle.std.proofs.Common.{◌≡◌, ◌⊎◌, Bool, true, false, List, [], ◌∷◌, ◌++◌, map, sym, ap, ◌∙◌, inl, inr}
use Rattle.std.specs.Prelude.{if◌then◌else◌}
use Rattle.std.proofs.lemmas.List.{append_assoc, append-nil}
use Rattle.hp_tree.specs.declared.term.Term.{Term, Apply, Add, Sub}
use Rattle.hp_tree.specs.declared.term.Term.TheOpen.{Term-F}
use Rattle.hp_tree.specs.declared.term.Term.TheVariants.{rolls-Add, rolls-Sub}
use Rattle.hp_tree.specs.declared.problem.Var.{Var}
use Rattle.hp_tree.specs.Value.{Word}
use Rattle.hp_terms.specs.Occurring.{joined}
use Rattle.hp_norm.specs.Opening.{mentions}
use Rattle.hp_waiting.specs.Waiting.{open_functions, open_step}
use Rattle.hp_norm.proofs.Seeing.{by_term_apply, by_term_roll}

module _ (vars : List Var) (term : Term) where
  module _ (func : Word) (args : List Term) (is : term ≡ Apply func args) where
    at_test : (b : Bool) → mentions vars term ≡ b → open_functions vars term ≡ if b then func ∷ joined (map (open_functions vars) args) else []
    at_test b e =
        ap (open_functions vars) is ∙ by_term_apply (open_step vars) func args
        ∙ sym (ap (λ t. if mentions vars t then func ∷ joined (map (open_functions vars) args) else []) is)
        ∙ ap (λ c. if c then func ∷ joined (map (open_functions vars) args) else []) e

    -- an application with a variable in it has its function and those of its arguments
    pub functions_there : (old mid : List Word) (word : Word) (terms : List Term) → mentions vars term ≡ true → mid ≡ old ++ word ∷ [] → word ≡ func → terms ≡ args
        → mid ++ joined (map (open_functions vars) terms) ≡ old ++ open_functions vars term
    functions_there old mid word terms e more same these =
        (λ i. more i ++ joined (map (open_functions vars) (these i)))
        ∙ append_assoc old (word ∷ []) (joined (map (open_functions vars) args))
        ∙ ap (λ (w : Word). old ++ w ∷ joined (map (open_functions vars) args)) same
        ∙ ap (λ (ws : List Word). old ++ ws) (sym (at_test true e))

    -- and one without has none
    pub none_there : (old : List Word) → mentions vars term ≡ false → old ≡ old ++ open_functions vars term
    none_there old e = sym (ap (λ (ws : List Word). old ++ ws) (at_test false e) ∙ append-nil old)

  -- a sum or a difference has those of its parts
  module _ (left right : Term) where
    functions_in_parts : (term ≡ Add left right) ⊎ (term ≡ Sub left right) → open_functions vars term ≡ open_functions vars left ++ open_functions vars right
    functions_in_parts (inl is) = ap (open_functions vars) (is ∙ sym (rolls-Add left right)) ∙ by_term_roll (open_step vars) (Term-F.Add left right)
    functions_in_parts (inr is) = ap (open_functions vars) (is ∙ sym (rolls-Sub left right)) ∙ by_term_roll (open_step vars) (Term-F.Sub left right)

    pub functions_of_parts : (term ≡ Add left right) ⊎ (term ≡ Sub left right) → (old mid : List Word) (one other : Term) → mid ≡ old ++ open_functions vars one → one ≡ left → other ≡ right
        → mid ++ open_functions vars other ≡ old ++ open_functions vars term
    functions_of_parts is old mid one other more first second =
        (λ i. more i ++ open_functions vars (second i))
        ∙ append_assoc old (open_functions vars one) (open_functions vars right)
        ∙ ap (λ (t : Term). old ++ (open_functions vars t ++ open_functions vars right)) first
        ∙ ap (λ (words : List Word). old ++ words) (sym (functions_in_parts is))
