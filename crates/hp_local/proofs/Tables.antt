-- Tables of several functions, one for each.
use Rattle.std.proofs.Common.{◌≡◌, List, [], ◌∷◌, map, true, false, ◌||◌, IsTrue, refl, ap, ◌∙◌, subst, cond}
use Rattle.std.specs.Str.{bytes_eq}
use Rattle.std.specs.List.{All}
use Rattle.std.proofs.lemmas.List.Elements.{All-head, All-tail}
use Rattle.std.proofs.lemmas.Slice.Eq.{bytes_eq-Decides}
use Rattle.hp_math.specs.Rational.{ℚ}
use Rattle.hp_tree.specs.Value.{Word, Environment, Functions}
use Rattle.hp_model.specs.declared.structure.Table.{Table}
use Rattle.hp_model.specs.Value.{rows_value, with_arguments}
use Rattle.hp_local.specs.Frame.{is_own, with_tables}
use Rattle.hp_local.proofs.Steps.{same_bytes}

-- what holds of each of the functions
pub own_is : (P : Word → Type 0) (fs : List Word) → All P fs → (f : Word) → IsTrue (is_own fs f) → P f
own_is P [] h f o = cc
own_is P (k ∷ fs) h f o =
    (elim (bytes_eq k f) as (λ b. bytes_eq k f ≡ b → IsTrue (b || is_own fs f) → P f) [
      | true ↦ λ t o. subst P ((bytes_eq-Decides k f).0 t) (All-head P k fs h)
      | false ↦ λ t o. own_is P fs (All-tail P k fs h) f o
    ]) refl o

abbrev pub table_value : Environment → Functions → Table → List ℚ → ℚ
table_value consts lower table xs = rows_value (with_arguments xs consts) lower table.rows table.otherwise

pub one_table : (consts : Environment) (lower : Functions) (table : Table) (xs : List ℚ) → with_tables consts lower (table ∷ []) table.func xs ≡ table_value consts lower table xs
one_table consts lower table xs = rw (same_bytes table.func) refl

module _ (table : Word → Table) (named : (f : Word) → (table f).func ≡ f) (consts : Environment) (lower : Functions) where
  pub own_tables : (fs : List Word) (f : Word) (xs : List ℚ) → IsTrue (is_own fs f) → with_tables consts lower (map table fs) f xs ≡ table_value consts lower (table f) xs
  own_tables [] f xs h = cc
  own_tables (h ∷ hs) f xs o =
      (λ i. cond (bytes_eq (named h i) f) (table_value consts lower (table h) xs) (with_tables consts lower (map table hs) f xs))
      ∙ (elim (bytes_eq h f) as (λ b. bytes_eq h f ≡ b → IsTrue (b || is_own hs f)
      → cond b (table_value consts lower (table h) xs) (with_tables consts lower (map table hs) f xs) ≡ table_value consts lower (table f) xs) [
        | true ↦ λ t o. ap (λ z. table_value consts lower (table z) xs) ((bytes_eq-Decides h f).0 t)
        | false ↦ λ t o. own_tables hs f xs o
      ]) refl o

  pub other_tables : (fs : List Word) (f : Word) (xs : List ℚ) → is_own fs f ≡ false → with_tables consts lower (map table fs) f xs ≡ lower f xs
  other_tables [] f xs h = refl
  other_tables (h ∷ hs) f xs o =
      (λ i. cond (bytes_eq (named h i) f) (table_value consts lower (table h) xs) (with_tables consts lower (map table hs) f xs))
      ∙ (elim (bytes_eq h f) as (λ b. (b || is_own hs f) ≡ false → cond b (table_value consts lower (table h) xs) (with_tables consts lower (map table hs) f xs) ≡ lower f xs) [
        | true ↦ λ o. cc
        | false ↦ λ o. other_tables hs f xs o
      ]) o
