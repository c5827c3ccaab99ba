-- By induction over the levels: the table of a function applies functions of lower levels, whose values are the same.
use Rattle.std.proofs.Common.{ℕ, zero, suc, ◌≡◌, ◌<◌, List, [], ◌∷◌, arith, true, false, IsTrue, refl, subst, cond}
use Rattle.std.specs.Str.{bytes_eq}
use Rattle.std.proofs.lemmas.Bool.{ltb-true}
use Rattle.std.proofs.lemmas.List.Elements.{All-head, All-tail}
use Rattle.std.proofs.lemmas.Slice.Eq.{bytes_eq-Decides}
use Rattle.hp_math.specs.Rational.{ℚ}
use Rattle.hp_tree.specs.Value.{Word, Environment, Functions}
use Rattle.hp_model.specs.declared.structure.Table.{Table}
use Rattle.hp_model.specs.Value.{rows_value, tables_value, constant, with_arguments, functions_below}
use Rattle.hp_local.specs.Applied.{table_applies}
use Rattle.hp_local.specs.Fuel.{is_lower, TablesAreLower, FuelIsEnough}
use Rattle.hp_local.proofs.Tests.{both}
use Rattle.hp_local.proofs.Applied.{rows_local}

module _ (level : Word → ℕ) (consts : Environment) (func : Word) (args : List ℚ) (f g : Functions)
    (agree : (word : Word) → IsTrue (is_lower level (level func) word) → (xs : List ℚ) → f word xs ≡ g word xs) where
  abbrev IsBelow : Table → Type 0
  IsBelow t = IsTrue (table_applies (is_lower level (level t.func)) t)

  pub tables_local : (ts : List Table) → TablesAreLower level ts → tables_value consts f ts func args ≡ tables_value consts g ts func args
  tables_local [] h = refl
  tables_local (t ∷ ts) h =
      (elim (bytes_eq t.func func) as (λ b. bytes_eq t.func func ≡ b
      → cond b (rows_value (with_arguments args consts) f t.rows t.otherwise) (tables_value consts f ts func args)
      ≡ cond b (rows_value (with_arguments args consts) g t.rows t.otherwise) (tables_value consts g ts func args)) [
        | true ↦ λ e. (
            let same : t.func ≡ func = (bytes_eq-Decides t.func func).0 e in
            let k = both _ _ (subst (λ n. IsTrue (table_applies (is_lower level (level n)) t)) same (All-head IsBelow t ts h)) in
            rows_local f g (is_lower level (level func)) agree (with_arguments args consts) t.rows t.otherwise k.0 k.1)
        | false ↦ λ e. tables_local ts (All-tail IsBelow t ts h)
      ]) refl

pub fuel_is_enough : FuelIsEnough
fuel_is_enough s level lower zero m func p q r args = absurd (omega arith)
fuel_is_enough s level lower (suc n) zero func p q r args = absurd (omega arith)
fuel_is_enough s level lower (suc n) (suc m) func p q r args =
    tables_local level (constant s.consts) func args (functions_below n s) (functions_below m s)
    (λ word t xs.
    let k = both _ _ t in
    let low : 0 < level word = ltb-true 0 (level word) k.0 in
    let high : level word < level func = ltb-true (level word) (level func) k.1 in
    fuel_is_enough s level lower n m word (omega arith) (omega arith) (omega arith) xs)
    s.tables lower
