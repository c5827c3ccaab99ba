-- Values of names followed by values of variables.
use Rattle.std.proofs.Common.{◌≡◌, ℕ, zero, suc, ◌+◌, ◌-◌, ◌<◌, ◌≤◌, List, [], ◌∷◌, ◌++◌, map, length, Bool, true, false, not, cond, nat_lt, pos, Some, refl, sym, ap, ◌∙◌, arith}
use Rattle.std.proofs.lemmas.Bool.{ltb-false, ltb-true}
use Rattle.hp_math.specs.Rational.{ℚ, whole}
use Rattle.hp_tree.specs.declared.problem.Sort.{Sort}
use Rattle.hp_tree.specs.Value.{Word}
use Rattle.hp_lit.specs.declared.literal.Name.{Name}
use Rattle.hp_lit.specs.Sorts.{HaveSorts}
use Rattle.hp_lit.specs.Truth.{Values, name_value}
use Rattle.hp_lit.specs.Words.{Agrees}
use Rattle.hp_index_set.specs.IndexSet.{is_variable}

-- the values of so many names
abbrev pub firsts : ℕ → Values → Values
firsts zero v = []
firsts (suc n) [] = whole (pos 0) ∷ firsts n []
firsts (suc n) (x ∷ v) = x ∷ firsts n v

pub length_firsts : (n : ℕ) (v : Values) → length (firsts n v) ≡ n
length_firsts zero v = refl
length_firsts (suc n) [] = ap suc (length_firsts n [])
length_firsts (suc n) (x ∷ v) = ap suc (length_firsts n v)

pub firsts_value : (n : ℕ) (v : Values) (k : ℕ) → k < n → name_value (firsts n v) k ≡ name_value v k
firsts_value zero v k h = absurd (omega arith)
firsts_value (suc n) [] zero h = refl
firsts_value (suc n) [] (suc k) h = firsts_value n [] k (omega arith)
firsts_value (suc n) (x ∷ v) zero h = refl
firsts_value (suc n) (x ∷ v) (suc k) h = firsts_value n v k (omega arith)

-- ---- one list behind another
pub front_value : (xs ys : Values) (k : ℕ) → k < length xs → name_value (xs ++ ys) k ≡ name_value xs k
front_value [] ys k h = absurd (omega arith)
front_value (x ∷ xs) ys zero h = refl
front_value (x ∷ xs) ys (suc k) h = front_value xs ys k (omega arith)

pub back_value : (xs ys : Values) (k : ℕ) → length xs ≤ k → name_value (xs ++ ys) k ≡ name_value ys (k - length xs)
back_value [] ys k h = ap (name_value ys) (let e : k ≡ k - 0 = omega arith in e)
back_value (x ∷ xs) ys zero h = absurd (omega arith)
back_value (x ∷ xs) ys (suc k) h = back_value xs ys k (omega arith) ∙ ap (name_value ys) (let e : k - length xs ≡ suc k - suc (length xs) = omega arith in e)

map_value : (f : ℚ → ℚ) (xs : Values) (k : ℕ) → k < length xs → name_value (map f xs) k ≡ f (name_value xs k)
map_value f [] k h = absurd (omega arith)
map_value f (x ∷ xs) zero h = refl
map_value f (x ∷ xs) (suc k) h = map_value f xs k (omega arith)

pub have_both : (ss ts : List Sort) (xs ys : Values) → length xs ≡ length ss → HaveSorts ss xs → HaveSorts ts ys → HaveSorts (ss ++ ts) (xs ++ ys)
have_both [] ts [] ys e h k n r f = k n r f
have_both [] ts (x ∷ xs) ys e h k n r f = absurd (omega (arith, e))
have_both (s ∷ ss) ts [] ys e h k n r f = absurd (omega (arith, e))
have_both (s ∷ ss) ts (x ∷ xs) ys e h k zero r f = h zero r f
have_both (s ∷ ss) ts (x ∷ xs) ys e h k (suc n) r f = have_both ss ts xs ys (omega (arith, e)) (λ m q g. h (suc m) q g) k n r f

pub agrees_both : (ws us : List Word) (xs ys : Values) (env : Word → ℚ) → length xs ≡ length ws → Agrees ws xs env → Agrees us ys env → Agrees (ws ++ us) (xs ++ ys) env
agrees_both [] us [] ys env e h k n word f = k n word f
agrees_both [] us (x ∷ xs) ys env e h k n word f = absurd (omega (arith, e))
agrees_both (w ∷ ws) us [] ys env e h k n word f = absurd (omega (arith, e))
agrees_both (w ∷ ws) us (x ∷ xs) ys env e h k zero word f = h zero word f
agrees_both (w ∷ ws) us (x ∷ xs) ys env e h k (suc n) word f = agrees_both ws us xs ys env (omega (arith, e)) (λ m q g. h (suc m) q g) k n word f

-- ---- variables behind names
module _ (f : ℚ → ℚ) (count : ℕ) (front xs : Values) (long : length front ≡ count) where
  -- names keep their values, and variables have those of the function
  pub mapped : (n : Name) → n.0 < count + length xs → name_value (front ++ map f xs) n.0 ≡ cond (is_variable count (Some n)) (f (name_value (front ++ xs) n.0)) (name_value (front ++ xs) n.0)
  mapped n h = by (nat_lt n.0 count) refl
    where
      by : (b : Bool) → nat_lt n.0 count ≡ b → name_value (front ++ map f xs) n.0 ≡ cond (not b) (f (name_value (front ++ xs) n.0)) (name_value (front ++ xs) n.0)
      by true e =
          let less : n.0 < length front = (let l = ltb-true n.0 count e in omega (arith, l, long)) in
          front_value front (map f xs) n.0 less ∙ sym (front_value front xs n.0 less)
      by false e =
          let more : length front ≤ n.0 = (let l = ltb-false n.0 count e in omega (arith, l, long)) in
          back_value front (map f xs) n.0 more ∙ map_value f xs (n.0 - length front) (omega (arith, more, h, long)) ∙ ap f (sym (back_value front xs n.0 more))
