-- The functions through points.
use Rattle.std.proofs.Common.{◌≡◌, ◌⊎◌, inl, inr, List, [], ◌∷◌, Bool, true, false, ◌&&◌, refl, ap, sym, cond}
use Rattle.std.specs.Str.{bytes_eq}
use Rattle.std.specs.Bool.{Decides}
use Rattle.std.specs.List.{Contains}
use Rattle.std.proofs.lemmas.Bool.Decides.{Decides-and}
use Rattle.std.proofs.lemmas.Slice.Eq.{bytes_eq-Decides}
use Rattle.hp_math.specs.Rational.{ℚ, eq_ℚ}
use Rattle.hp_tree.specs.Value.{Word}
use Rattle.hp_tree.proofs.Compares.{eq_ℚ-true, eq_ℚ-from}
use Rattle.hp_local.specs.Frame.{Fact, same_values, with_points, PointsAreKept}
use Rattle.hp_local.proofs.Lists.{contains_first, contains_later, contains_cases, contains_none}

pub eq_ℚ-Decides : (a b : ℚ) → Decides (eq_ℚ a b) (a ≡ b)
eq_ℚ-Decides a b = (eq_ℚ-true a b, eq_ℚ-from a b)

pub same_values-Decides : (xs ys : List ℚ) → Decides (same_values xs ys) (xs ≡ ys)
same_values-Decides [] [] = (λ t. refl, λ e. refl)
same_values-Decides [] (y ∷ ys) = (λ t. cc, λ e. cc)
same_values-Decides (x ∷ xs) [] = (λ t. cc, λ e. cc)
same_values-Decides (x ∷ xs) (y ∷ ys) =
    let d = Decides-and (eq_ℚ x y) (same_values xs ys) (eq_ℚ-Decides x y) (same_values-Decides xs ys) in
    (λ t. (let k = d.0 t in λ i. k.0 i ∷ k.1 i), λ e. d.1 ((let h : x ≡ y = cc in h), (let h : xs ≡ ys = cc in h)))

abbrev pub fits : Fact → Word → List ℚ → Bool
fits k func args = bytes_eq k.func func && same_values args k.args

fits-Decides : (k : Fact) (func : Word) (args : List ℚ) → Decides (fits k func args) ((k.func ≡ func) × (args ≡ k.args))
fits-Decides k func args = Decides-and _ _ (bytes_eq-Decides k.func func) (same_values-Decides args k.args)

pub points_are_kept : PointsAreKept
points_are_kept lower [] c k m = absurd (contains_none k m)
points_are_kept lower (l ∷ facts) c k m =
    (elim (fits l k.func k.args) as (λ b. fits l k.func k.args ≡ b → cond b l.value (with_points lower facts k.func k.args) ≡ k.value) [
      | true ↦ λ t. (let e = (fits-Decides l k.func k.args).0 t in c l k (contains_first l facts) m e.0 (sym e.1))
      | false ↦ λ t. rest (λ n. points_are_kept lower facts (λ p q a b. c p q (contains_later l facts p a) (contains_later l facts q b)) k n) (contains_cases l facts k m) t
    ]) refl
  where
    rest : (Contains facts k → with_points lower facts k.func k.args ≡ k.value) → (l ≡ k) ⊎ Contains facts k → fits l k.func k.args ≡ false → with_points lower facts k.func k.args ≡ k.value
    rest h (inl e) t = (let y : fits l k.func k.args ≡ true = (fits-Decides l k.func k.args).1 (ap (λ z. z.func) e, sym (ap (λ z. z.args) e)) in cc)
    rest h (inr n) t = h n
