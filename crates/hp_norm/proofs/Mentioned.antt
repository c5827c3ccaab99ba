-- A term in which no variable occurs means the same without them.
use Rattle.std.proofs.Common.{◌≡◌, ◌||◌, Bool, true, false, List, [], ◌∷◌, ◌++◌, map, None, refl, sym, ap, ◌∙◌}
use Rattle.std.specs.Prelude.{if◌then◌else◌}
use Rattle.std.specs.List.{All, list_any}
use Rattle.std.proofs.lemmas.Bool.{or_parts}
use Rattle.std.proofs.lemmas.List.Elements.{All-nil, All-cons, All-weaker}
use Rattle.std.proofs.lemmas.List.Folds.{list_any-append}
use Rattle.hp_tree.specs.declared.term.Term.{Term, fold-roll-Term, map-Term}
use Rattle.hp_tree.specs.declared.term.Term.TheOpen.{Term-F}
use Rattle.hp_tree.specs.declared.problem.Var.{Var}
use Rattle.hp_tree.specs.Value.{Word}
use Rattle.hp_terms.specs.Scope.{Scope}
use Rattle.hp_terms.specs.Occurring.{joined, names_in, names_step}
use Rattle.hp_terms.specs.Laws.{IsFormedAlike}
use Rattle.hp_terms.proofs.Agreeing.{agreeing_scopes_form_alike}
use Rattle.hp_index.proofs.Layers.{Parts, bare, by_layers}
use Rattle.hp_norm.specs.Opening.{is_variable, mentions, mentions_step}
use Rattle.hp_norm.proofs.ClauseScopes.{closed}

or_nothing : (b : Bool) → b ≡ (b || false)
or_nothing true = refl
or_nothing false = refl

module _ (vars : List Var) where
  -- one of these words is a variable's
  abbrev one_is : List Word → Bool
  one_is words = list_any (is_variable vars) words

  abbrev Tells : Term → Type 0
  Tells t = mentions vars t ≡ one_is (names_in t)

  abbrev terms : List (Parts Tells) → List Term
  terms args = map (λ (e : Parts Tells). e.0) args

  args_tell : (args : List (Parts Tells)) → list_any (λ b. b) (map (mentions vars) (terms args)) ≡ one_is (joined (map names_in (terms args)))
  args_tell [] = refl
  args_tell (arg ∷ args) = (λ i. arg.1 i || args_tell args i) ∙ sym (list_any-append (is_variable vars) (names_in arg.0) (joined (map names_in (terms args))))

  both_tell : (a b : Parts Tells) → (mentions vars a.0 || mentions vars b.0) ≡ one_is (names_in a.0 ++ names_in b.0)
  both_tell a b = (λ i. a.1 i || b.1 i) ∙ sym (list_any-append (is_variable vars) (names_in a.0) (names_in b.0))

  layer_tells : (y : Term-F (Parts Tells)) → mentions_step vars (map-Term Term Bool (mentions vars) (bare Tells y)) ≡ one_is (names_step (map-Term Term (List Word) names_in (bare Tells y)))
  layer_tells (Term-F.Number q) = refl
  layer_tells Term-F.Null = refl
  layer_tells (Term-F.Name word) = or_nothing (is_variable vars word)
  layer_tells (Term-F.Apply func args) = args_tell args
  layer_tells (Term-F.Add a b) = both_tell a b
  layer_tells (Term-F.Sub a b) = both_tell a b
  layer_tells (Term-F.Neg a) = a.1
  layer_tells (Term-F.Scale q a) = a.1

  -- a variable occurs exactly where one of the names is a variable's
  pub mentions_tells : (t : Term) → mentions vars t ≡ one_is (names_in t)
  mentions_tells t = by_layers Tells (λ y.
      fold-roll-Term Bool (mentions_step vars) (bare Tells y) ∙ layer_tells y ∙ ap one_is (sym (fold-roll-Term (List Word) names_step (bare Tells y)))) t

  none_is : (ws : List Word) → one_is ws ≡ false → All (λ w. is_variable vars w ≡ false) ws
  none_is [] e = All-nil (λ w. is_variable vars w ≡ false)
  none_is (w ∷ ws) e = let parts = or_parts (is_variable vars w) (one_is ws) e in All-cons (λ w. is_variable vars w ≡ false) w ws parts.0 (none_is ws parts.1)

  -- without one it is formed alike where variables mean nothing
  pub closed_alike : (scope : Scope) (t : Term) → mentions vars t ≡ false → IsFormedAlike scope (closed vars scope) t
  closed_alike scope t e = agreeing_scopes_form_alike scope (closed vars scope) t (record {
    names = All-weaker (λ w. is_variable vars w ≡ false) (λ w. scope.name w ≡ (closed vars scope).name w)
        (λ w h. sym (ap (λ b. if b then None else scope.name w) h)) (names_in t) (none_is (names_in t) (sym (mentions_tells t) ∙ e));
    functions = λ k d within. refl;
    pointers = λ k d within. refl;
  })
