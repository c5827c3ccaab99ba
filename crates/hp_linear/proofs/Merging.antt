-- Two sorted lists of summands, merged step by step.
use Rattle.std.proofs.Common.{◌≡◌, ℕ, ◌<◌, ◌≤◌, Bool, true, false, cond, nat_lt, pos, List, [], ◌∷◌, ◌++◌, length, drop, Ok, Err, refl, sym, ap, ◌∙◌, append-nil, inl, inr, ◌⊎◌, ◌-◌, take, length-drop, arith}
use Rattle.std.proofs.lemmas.Bool.{lt-ltb, le-ltb}
use Rattle.std.proofs.lemmas.List.{drop_all, take_all}
use Rattle.hp_math.specs.Rational.{ℚ, whole, eq_ℚ}
use Rattle.hp_num.specs.Wide.{◌>>=◌}
use Rattle.hp_tree.proofs.Compares.{eq_ℚ-true, eq_ℚ-from}
use Rattle.hp_lit.specs.declared.literal.Name.{Name}
use Rattle.hp_lit.specs.declared.line.LinPart.{LinPart}
use Rattle.hp_lit.specs.declared.refusal.Refusal.{Refusal}
use Rattle.hp_linear.specs.declared.parts.Taken.TheVariants.{Left, Right, Both}
use Rattle.hp_linear.specs.Steps.{Refusable, behind}
use Rattle.hp_linear.specs.Lins.{copies, plus_parts, sum_of, unless_zero}
use Rattle.hp_linear.specs.Answers.{Took}
use Rattle.hp_linear.proofs.Refusals.{behind_behind}

-- ---- a coefficient that is 0, and one that isn't
pub zero_dropped : (name : Name) (coef : ℚ) → coef ≡ whole (pos 0) → unless_zero name coef ≡ []
zero_dropped name coef e = ap (λ t. cond t [] (copies name coef ∷ [])) (eq_ℚ-from coef (whole (pos 0)) e)

is_false : (b : Bool) → (b ≡ true → ⊥) → b ≡ false
is_false true h = absurd (h refl)
is_false false h = refl

pub other_kept : (name : Name) (coef : ℚ) → (coef ≡ whole (pos 0) → ⊥) → unless_zero name coef ≡ copies name coef ∷ []
other_kept name coef h = ap (λ t. cond t [] (copies name coef ∷ [])) (is_false (eq_ℚ coef (whole (pos 0))) (λ t. h (eq_ℚ-true coef (whole (pos 0)) t)))

-- ---- the first summand of a merge
module _ (x y : LinPart) (old new : List LinPart) where
  pub took_left : x.name.0 < y.name.0 → new ≡ old ++ x ∷ [] → Took x y old new (Ok Left)
  took_left h e xs ys =
      let rest = plus_parts xs (y ∷ ys) in
      ap (λ t. behind old (cond t (behind (x ∷ []) rest) (cond (nat_lt y.name.0 x.name.0) (behind (y ∷ []) (plus_parts (x ∷ xs) ys)) (sum_of x.coef y.coef >>= λ coef. behind (unless_zero x.name coef) (plus_parts xs ys)))))
      (lt-ltb x.name.0 y.name.0 h)
      ∙ behind_behind old (x ∷ []) rest ∙ ap (λ zs. behind zs rest) (sym e)

  not_left : y.name.0 ≤ x.name.0 → (xs ys : List LinPart) → plus_parts (x ∷ xs) (y ∷ ys)
      ≡ cond (nat_lt y.name.0 x.name.0) (behind (y ∷ []) (plus_parts (x ∷ xs) ys)) (sum_of x.coef y.coef >>= λ coef. behind (unless_zero x.name coef) (plus_parts xs ys))
  not_left h xs ys =
      ap (λ t. cond t (behind (x ∷ []) (plus_parts xs (y ∷ ys))) (cond (nat_lt y.name.0 x.name.0) (behind (y ∷ []) (plus_parts (x ∷ xs) ys)) (sum_of x.coef y.coef >>= λ coef. behind (unless_zero x.name coef) (plus_parts xs ys))))
      (le-ltb x.name.0 y.name.0 h)

  pub took_right : y.name.0 < x.name.0 → new ≡ old ++ y ∷ [] → Took x y old new (Ok Right)
  took_right h e xs ys =
      let rest = plus_parts (x ∷ xs) ys in
      ap (behind old) (not_left (omega arith) xs ys
      ∙ ap (λ t. cond t (behind (y ∷ []) rest) (sum_of x.coef y.coef >>= λ coef. behind (unless_zero x.name coef) (plus_parts xs ys))) (lt-ltb y.name.0 x.name.0 h))
      ∙ behind_behind old (y ∷ []) rest ∙ ap (λ zs. behind zs rest) (sym e)

  one_name : x.name.0 ≤ y.name.0 → y.name.0 ≤ x.name.0 → (xs ys : List LinPart) → plus_parts (x ∷ xs) (y ∷ ys)
      ≡ (sum_of x.coef y.coef >>= λ coef. behind (unless_zero x.name coef) (plus_parts xs ys))
  one_name h g xs ys =
      not_left g xs ys
      ∙ ap (λ t. cond t (behind (y ∷ []) (plus_parts (x ∷ xs) ys)) (sum_of x.coef y.coef >>= λ coef. behind (unless_zero x.name coef) (plus_parts xs ys))) (le-ltb y.name.0 x.name.0 h)

  pub took_both : x.name.0 ≤ y.name.0 → y.name.0 ≤ x.name.0 → (coef : ℚ) → Ok coef ≡ sum_of x.coef y.coef → new ≡ old ++ unless_zero x.name coef → Took x y old new (Ok Both)
  took_both h g coef is e xs ys =
      let rest = plus_parts xs ys in
      ap (behind old) (one_name h g xs ys ∙ ap (λ (r : Refusable ℚ). r >>= λ c. behind (unless_zero x.name c) rest) (sym is))
      ∙ behind_behind old (unless_zero x.name coef) rest ∙ ap (λ zs. behind zs rest) (sym e)

  pub took_none : x.name.0 ≤ y.name.0 → y.name.0 ≤ x.name.0 → (refusal : Refusal) → Err refusal ≡ sum_of x.coef y.coef → (xs ys : List LinPart)
      → plus_parts (x ∷ xs) (y ∷ ys) ≡ Err refusal
  took_none h g refusal is xs ys = one_name h g xs ys ∙ ap (λ (r : Refusable ℚ). r >>= λ c. behind (unless_zero x.name c) (plus_parts xs ys)) (sym is)

-- ---- a merge under way
pub record IsMerged (left right all : List LinPart) (i j : ℕ) : Type 0 where
  pub left_within : i ≤ length left
  pub right_within : j ≤ length right
  pub rest : plus_parts left right ≡ behind all (plus_parts (drop i left) (drop j right))

nothing_right : (xs : List LinPart) → plus_parts xs [] ≡ Ok xs
nothing_right [] = refl
nothing_right (x ∷ xs) = refl

-- a list from a place on, as a slice
all_of_rest : (xs : List LinPart) (i : ℕ) → take (length xs - i) (drop i xs) ≡ drop i xs
all_of_rest xs i = take_all (length xs - i) (drop i xs) (omega (arith, length-drop i xs))

-- one of the two lists is used up, and the rest of the other is added
pub merged_whole : (left right all mid new : List LinPart) (i j : ℕ) → IsMerged left right all i j → (length left ≤ i) ⊎ (length right ≤ j)
    → mid ≡ all ++ take (length left - i) (drop i left) → new ≡ mid ++ take (length right - j) (drop j right) → plus_parts left right ≡ Ok new
merged_whole left right all mid new i j is over e f = by over (e ∙ ap (λ (xs : List LinPart). all ++ xs) (all_of_rest left i)) (f ∙ ap (λ (xs : List LinPart). mid ++ xs) (all_of_rest right j))
  where
    by : (length left ≤ i) ⊎ (length right ≤ j) → mid ≡ all ++ drop i left → new ≡ mid ++ drop j right → plus_parts left right ≡ Ok new
    by (inl h) e f =
        let none = drop_all i left h in
        let added : new ≡ all ++ drop j right = f ∙ ap (λ (xs : List LinPart). xs ++ drop j right) (e ∙ ap (λ (xs : List LinPart). all ++ xs) none ∙ append-nil all) in
        is.rest ∙ ap (λ (xs : List LinPart). behind all (plus_parts xs (drop j right))) none ∙ ap Ok (sym added)
    by (inr h) e f =
        let none = drop_all j right h in
        let added : new ≡ all ++ drop i left = f ∙ ap (λ (xs : List LinPart). mid ++ xs) none ∙ append-nil mid ∙ e in
        is.rest ∙ ap (λ (xs : List LinPart). behind all (plus_parts (drop i left) xs)) none ∙ ap (behind all) (nothing_right (drop i left)) ∙ ap Ok (sym added)
