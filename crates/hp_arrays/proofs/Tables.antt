-- The tables of arrays, one after the other.
use Rattle.std.proofs.Common.{◌≡◌, ◌∙◌, ◌≤◌, ℕ, List, [], ◌∷◌, ◌++◌, length, drop, refl, sym, ap, append-nil}
use Rattle.hp_tree.specs.Value.{Word}
use Rattle.hp_lit.specs.Truth.{Values}
use Rattle.hp_defs.specs.Names.{NameList}
use Rattle.hp_model.specs.declared.structure.Table.{Table}
use Rattle.hp_local.specs.Ordered.{fact_points, in_order, step_table}
use Rattle.hp_class.specs.Frame.{facts_of}
use Rattle.hp_class.proofs.Places.{over}
use Rattle.hp_arrays.specs.Arrays.{arrays_tables}

module _ (names : NameList) (v : Values) where
  abbrev pub array_table : ℕ → Word → Table
  array_table func word = step_table word (in_order (fact_points (facts_of func word names v)))

  no_words : (own : List ℕ) → arrays_tables own [] names v ≡ []
  no_words [] = refl
  no_words (k ∷ ks) = refl

  pub tables_without_words : (own : List ℕ) (words : List Word) (i : ℕ) (tables : List Table) → length words ≤ i
      → arrays_tables own words names v ≡ tables ++ arrays_tables (drop i own) (drop i words) names v → tables ≡ arrays_tables own words names v
  tables_without_words own words i tables h rest =
      sym (append-nil tables) ∙ ap (λ ts. tables ++ ts) (sym (no_words (drop i own)) ∙ ap (λ ws. arrays_tables (drop i own) ws names v) (sym (over words i h))) ∙ sym rest
