-- The forms of index terms whose words move.
use Rattle.std.proofs.Common.{◌≡◌, ◌∙◌, ℕ, List, true, Option, Some, None, refl, sym, ap, subst}
use Rattle.std.specs.Prelude.{pos}
use Rattle.std.proofs.lemmas.Bool.{and_parts}
use Rattle.hp_tree.specs.declared.problem.Sort.{Sort}
use Rattle.hp_tree.specs.declared.problem.Sort.TheVariants.{Num, Idx, Ptr}
use Rattle.hp_tree.specs.declared.term.Term.{Term, fold-roll-Term, ind-Term, map-Term, roll-Term}
use Rattle.hp_tree.specs.declared.term.Term.TheOpen.{Term-F}
use Rattle.hp_tree.specs.Value.{Word}
use Rattle.hp_terms.specs.declared.forms.Forms.{Forms}
use Rattle.hp_terms.specs.Scope.{Scope}
use Rattle.hp_terms.specs.Sorting.{forms_of, forms_step, has_form, name_forms}
use Rattle.hp_terms.proofs.Values.{either_both}
use Rattle.hp_lit.specs.Words.{number}
use Rattle.hp_index.specs.declared.form.IndexForm.{IndexForm}
use Rattle.hp_index.specs.Forms.{above, index_of, index_step, minus_form, neg_form, plus_form}
use Rattle.hp_arrays.proofs.Shifting.{plus_shifted, shift, shift_form}

name_has : (o : Option Sort) → has_form (name_forms o) Idx ≡ true → (s : Sort) × (o ≡ Some s)
name_has None e = absurd (cc)
name_has (Some s) e = (s, refl)

name_not_whole : (o : Option Sort) → (name_forms o).whole ≡ true → ⊥
name_not_whole None e = cc
name_not_whole (Some Num) e = cc
name_not_whole (Some Idx) e = cc
name_not_whole (Some Ptr) e = cc

module _ (scope : Scope) (old new : List Word) (n d : ℕ) (words_move : (w : Word) (s : Sort) → scope.name w ≡ Some s → number new w ≡ shift n d (number old w)) where
  abbrev Moves : Term → Type 0
  Moves t = index_of new t ≡ shift_form n d (index_of old t)

  -- where it is an index or a whole number
  record Moved (t : Term) : Type 0 where
    idx : has_form (forms_of scope t) Idx ≡ true → Moves t
    whole : (forms_of scope t).whole ≡ true → Moves t

  abbrev Part : Type 0
  Part = (t : Term) × Moved t

  formed : (z : Term-F Term) → forms_of scope (roll-Term z) ≡ forms_step scope (map-Term Term Forms (forms_of scope) z)
  formed z = fold-roll-Term Forms (forms_step scope) z

  moves : (z : Term-F Term) → index_step new (map-Term Term IndexForm (index_of new) z) ≡ shift_form n d (index_step old (map-Term Term IndexForm (index_of old) z)) → Moves (roll-Term z)
  moves z h = fold-roll-Term IndexForm (index_step new) z ∙ h ∙ ap (shift_form n d) (sym (fold-roll-Term IndexForm (index_step old) z))

  always : (t : Term) → Moves t → Moved t
  always t h = record { idx = λ e. h; whole = λ e. h }

  name_moved : (word : Word) → Moved (roll-Term (Term-F.Name word))
  name_moved word = record {
    idx = λ e. (let h = name_has (scope.name word) (sym (ap (λ (f : Forms). has_form f Idx) (formed (Term-F.Name word))) ∙ e) in
        moves (Term-F.Name word) (ap (λ o. above o (pos 0)) (words_move word h.0 h.1)));
    whole = λ e. absurd (name_not_whole (scope.name word) (sym (ap (λ (f : Forms). f.whole) (formed (Term-F.Name word))) ∙ e));
  }

  sum_moves : (a b : Term) → Moves a → Moves b → Moves (roll-Term (Term-F.Add a b))
  sum_moves a b h k = moves (Term-F.Add a b) ((λ i. plus_form (h i) (k i)) ∙ plus_shifted n d (index_of old a) (index_of old b))

  sum_moved : (a b : Term) → Moved a → Moved b → Moved (roll-Term (Term-F.Add a b))
  sum_moved a b h k = record {
    idx = λ e. either_both (forms_of scope a).idx (forms_of scope b).whole (forms_of scope a).whole (forms_of scope b).idx
        (sym (ap (λ (f : Forms). f.idx) (formed (Term-F.Add a b))) ∙ e)
        (λ x y. sum_moves a b (h.idx x) (k.whole y)) (λ x y. sum_moves a b (h.whole x) (k.idx y));
    whole = λ e. absurd (let no = sym (ap (λ (f : Forms). f.whole) (formed (Term-F.Add a b))) ∙ e in cc);
  }

  difference_moved : (a b : Term) → Moved a → Moved b → Moved (roll-Term (Term-F.Sub a b))
  difference_moved a b h k = record {
    idx = λ e. (let w = and_parts (forms_of scope a).idx (forms_of scope b).whole (sym (ap (λ (f : Forms). f.idx) (formed (Term-F.Sub a b))) ∙ e) in
        let x = h.idx w.0 in
        let y = k.whole w.1 in
        moves (Term-F.Sub a b) (λ i. minus_form (x i) (y i)));
    whole = λ e. absurd (let no = sym (ap (λ (f : Forms). f.whole) (formed (Term-F.Sub a b))) ∙ e in cc);
  }

  negation_moved : (a : Term) → Moved a → Moved (roll-Term (Term-F.Neg a))
  negation_moved a h = record {
    idx = λ e. moves (Term-F.Neg a) (ap neg_form (h.whole (sym (ap (λ (f : Forms). f.idx) (formed (Term-F.Neg a))) ∙ e)));
    whole = λ e. absurd (let no = sym (ap (λ (f : Forms). f.whole) (formed (Term-F.Neg a))) ∙ e in cc);
  }

  layer_moved : (y : Term-F Part) → Moved (roll-Term (map-Term Part Term (λ e. e.0) y))
  layer_moved (Term-F.Number q) = always (roll-Term (Term-F.Number q)) (moves (Term-F.Number q) refl)
  layer_moved Term-F.Null = always (roll-Term Term-F.Null) (moves Term-F.Null refl)
  layer_moved (Term-F.Name word) = name_moved word
  layer_moved (Term-F.Apply func args) = (let z : Term-F Term = map-Term Part Term (λ e. e.0) (Term-F.Apply func args) in always (roll-Term z) (moves z refl))
  layer_moved (Term-F.Add a b) = sum_moved a.0 b.0 a.1 b.1
  layer_moved (Term-F.Sub a b) = difference_moved a.0 b.0 a.1 b.1
  layer_moved (Term-F.Neg a) = negation_moved a.0 a.1
  layer_moved (Term-F.Scale q a) = always (roll-Term (Term-F.Scale q a.0)) (moves (Term-F.Scale q a.0) refl)

  moved : (t : Term) → Moved t
  moved t = ind-Term Moved (λ x y is. subst (λ z. Moved (roll-Term z)) is (layer_moved y)) t

  pub index_moves : (t : Term) → has_form (forms_of scope t) Idx ≡ true → index_of new t ≡ shift_form n d (index_of old t)
  index_moves t e = (moved t).idx e
