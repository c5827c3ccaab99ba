-- Two laws of folds over terms, by induction, and the value of a term whose names are replaced.
use Rattle.std.proofs.Common.{◌≡◌, List, [], ◌∷◌, map, subst, refl, ap, ◌∙◌, Bool, ◌&&◌}
use Rattle.hp_math.specs.Rational.{ℚ}
use Rattle.hp_tree.specs.declared.term.Term.{Term, fold-Term, fold-roll-Term, ind-Term, roll-Term, map-Term}
use Rattle.hp_tree.specs.declared.term.Term.TheOpen.{Term-F}
use Rattle.hp_tree.specs.Value.{Word, Environment, Functions, value, value_step, compares}
use Rattle.hp_local.specs.Applied.{applies_step, applies_only}
use Rattle.hp_local.specs.Substitution.{substitute_step, SubstitutesHaveValues, SubstitutesKeepValues, SubstitutesKeepGuards, SubstitutesApplyTheSame}

-- a function of the results of one fold is the result of another
module _ (A B : Type 0) (step : Term-F A → A) (other : Term-F B → B) (h : A → B) (each : (y : Term-F A) → h (step y) ≡ other (map-Term A B h y)) where
  abbrev Fused : Term → Type 0
  Fused t = h (fold-Term A step t) ≡ fold-Term B other t

  fused_all : (ts : List ((t : Term) × Fused t)) → map h (map (fold-Term A step) (map (λ e. e.0) ts)) ≡ map (fold-Term B other) (map (λ e. e.0) ts)
  fused_all [] = refl
  fused_all (t ∷ ts) = λ i. t.1 i ∷ fused_all ts i

  fused_layer : (y : Term-F ((t : Term) × Fused t)) → Fused (roll-Term (map-Term ((t : Term) × Fused t) Term (λ e. e.0) y))
  fused_layer (Term-F.Number n) = simp fold-roll-Term (each (Term-F.Number n))
  fused_layer Term-F.Null = simp fold-roll-Term (each Term-F.Null)
  fused_layer (Term-F.Name n) = simp fold-roll-Term (each (Term-F.Name n))
  fused_layer (Term-F.Apply func args) = simp fold-roll-Term (each (Term-F.Apply func (map (fold-Term A step) (map (λ e. e.0) args))) ∙ (λ i. other (Term-F.Apply func (fused_all args i))))
  fused_layer (Term-F.Add a b) = simp fold-roll-Term (each (Term-F.Add (fold-Term A step a.0) (fold-Term A step b.0)) ∙ (λ i. other (Term-F.Add (a.1 i) (b.1 i))))
  fused_layer (Term-F.Sub a b) = simp fold-roll-Term (each (Term-F.Sub (fold-Term A step a.0) (fold-Term A step b.0)) ∙ (λ i. other (Term-F.Sub (a.1 i) (b.1 i))))
  fused_layer (Term-F.Neg a) = simp fold-roll-Term (each (Term-F.Neg (fold-Term A step a.0)) ∙ (λ i. other (Term-F.Neg (a.1 i))))
  fused_layer (Term-F.Scale n a) = simp fold-roll-Term (each (Term-F.Scale n (fold-Term A step a.0)) ∙ (λ i. other (Term-F.Scale n (a.1 i))))

  pub folds_fuse : (t : Term) → Fused t
  folds_fuse t = ind-Term Fused (λ x y is. subst (λ z. Fused (roll-Term z)) is (fused_layer y)) t

-- what each layer keeps, the fold keeps
module _ (A : Type 0) (step : Term-F A → A) (P : A → Type 0) (each : (y : Term-F ((a : A) × P a)) → P (step (map-Term ((a : A) × P a) A (λ e. e.0) y))) where
  abbrev Kept : Term → Type 0
  Kept t = P (fold-Term A step t)

  abbrev result : (e : (t : Term) × Kept t) → (a : A) × P a
  result e = (fold-Term A step e.0, e.1)

  results : (ts : List ((t : Term) × Kept t)) → map (λ e. e.0) (map result ts) ≡ map (fold-Term A step) (map (λ e. e.0) ts)
  results [] = refl
  results (t ∷ ts) = λ i. fold-Term A step t.0 ∷ results ts i

  kept_layer : (y : Term-F ((t : Term) × Kept t)) → Kept (roll-Term (map-Term ((t : Term) × Kept t) Term (λ e. e.0) y))
  kept_layer (Term-F.Number n) = simp fold-roll-Term (each (Term-F.Number n))
  kept_layer Term-F.Null = simp fold-roll-Term (each Term-F.Null)
  kept_layer (Term-F.Name n) = simp fold-roll-Term (each (Term-F.Name n))
  kept_layer (Term-F.Apply func args) = simp fold-roll-Term (subst (λ xs. P (step (Term-F.Apply func xs))) (results args) (each (Term-F.Apply func (map result args))))
  kept_layer (Term-F.Add a b) = simp fold-roll-Term (each (Term-F.Add (result a) (result b)))
  kept_layer (Term-F.Sub a b) = simp fold-roll-Term (each (Term-F.Sub (result a) (result b)))
  kept_layer (Term-F.Neg a) = simp fold-roll-Term (each (Term-F.Neg (result a)))
  kept_layer (Term-F.Scale n a) = simp fold-roll-Term (each (Term-F.Scale n (result a)))

  pub folds_keep : (t : Term) → Kept t
  folds_keep t = ind-Term Kept (λ x y is. subst (λ z. Kept (roll-Term z)) is (kept_layer y)) t

module _ (names : Environment) (f : Functions) (s : Word → Term) where
  layer : (y : Term-F Term) → value names f (substitute_step s y) ≡ value_step (λ n. value names f (s n)) f (map-Term Term ℚ (value names f) y)
  layer (Term-F.Number n) = simp fold-roll-Term
  layer Term-F.Null = simp fold-roll-Term
  layer (Term-F.Name n) = refl
  layer (Term-F.Apply func args) = simp fold-roll-Term
  layer (Term-F.Add a b) = simp fold-roll-Term
  layer (Term-F.Sub a b) = simp fold-roll-Term
  layer (Term-F.Neg a) = simp fold-roll-Term
  layer (Term-F.Scale n a) = simp fold-roll-Term

pub substitutes_have_values : SubstitutesHaveValues
substitutes_have_values names f s t =
    folds_fuse Term ℚ (substitute_step s) (value_step (λ n. value names f (s n)) f) (value names f) (layer names f s) t

pub substitutes_keep_values : SubstitutesKeepValues
substitutes_keep_values env names f s h t = substitutes_have_values env f s t ∙ ap (λ (e : Environment). value e f t) (λ i word. h word i)

pub substitutes_keep_guards : SubstitutesKeepGuards
substitutes_keep_guards env names f s h [] = refl
substitutes_keep_guards env names f s h (a ∷ atoms) =
    λ i. compares a.cmp (substitutes_keep_values env names f s h a.left i) (substitutes_keep_values env names f s h a.right i) && substitutes_keep_guards env names f s h atoms i

pub substitutes_apply_the_same : SubstitutesApplyTheSame
substitutes_apply_the_same test s h t = folds_fuse Term Bool (substitute_step s) (applies_step test) (applies_only test) each t
  where
    each : (y : Term-F Term) → applies_only test (substitute_step s y) ≡ applies_step test (map-Term Term Bool (applies_only test) y)
    each (Term-F.Number n) = simp fold-roll-Term
    each Term-F.Null = simp fold-roll-Term
    each (Term-F.Name n) = h n
    each (Term-F.Apply func args) = simp fold-roll-Term
    each (Term-F.Add a b) = simp fold-roll-Term
    each (Term-F.Sub a b) = simp fold-roll-Term
    each (Term-F.Neg a) = simp fold-roll-Term
    each (Term-F.Scale n a) = simp fold-roll-Term
