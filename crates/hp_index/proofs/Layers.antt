-- Terms by one layer at a time.
use Rattle.std.proofs.Common.{◌≡◌, List, sym, ap, subst, ◌∙◌}
use Rattle.hp_tree.specs.declared.term.Term.{Term, fold-roll-Term, ind-Term, roll-Term, map-Term}
use Rattle.hp_tree.specs.declared.term.Term.TheOpen.{Term-F}
use Rattle.hp_tree.specs.declared.term.Term.TheViews.{Add, Sub}
use Rattle.hp_tree.specs.declared.term.Term.TheVariants.{rolls-Add, rolls-Sub}
use Rattle.hp_tree.specs.Value.{Word}
use Rattle.hp_index.specs.declared.form.IndexForm.{IndexForm}
use Rattle.hp_index.specs.Forms.{index_of, index_step, minus_form, plus_form}

-- the parts of a layer, each of which has what is to be shown
module _ (Holds : Term → Type 0) where
  abbrev pub Parts : Type 0
  Parts = (t : Term) × Holds t

  abbrev pub bare : Term-F Parts → Term-F Term
  bare = map-Term Parts Term (λ e. e.0)

  -- what holds of each term whose parts have it holds of all terms
  pub by_layers : ((y : Term-F Parts) → Holds (roll-Term (bare y))) → (t : Term) → Holds t
  by_layers step t = ind-Term Holds (λ x y is. subst (λ z. Holds (roll-Term z)) is (step y)) t

-- ---- the forms of sums and differences
module _ (words : List Word) where
  pub index-Add : (a b : Term) → index_of words (Add a b) ≡ plus_form (index_of words a) (index_of words b)
  index-Add a b = ap (index_of words) (sym (rolls-Add a b)) ∙ fold-roll-Term IndexForm (index_step words) (Term-F.Add a b)

  pub index-Sub : (a b : Term) → index_of words (Sub a b) ≡ minus_form (index_of words a) (index_of words b)
  index-Sub a b = ap (index_of words) (sym (rolls-Sub a b)) ∙ fold-roll-Term IndexForm (index_step words) (Term-F.Sub a b)
