-- The literals that say that arguments differ, place by place: what is left to be compared from a place on.
use Rattle.std.proofs.Common.{◌≡◌, ℕ, zero, suc, ◌+◌, ◌≤◌, List, [], ◌∷◌, ◌++◌, length, drop, Ok, Err, refl, sym, ap, ◌∙◌, append-nil, add-one, arith, ◌⊎◌, inl, inr}
use Rattle.hp_num.specs.Wide.{◌>>=◌}
use Rattle.hp_tree.specs.declared.problem.Sort.{Sort}
use Rattle.hp_tree.specs.declared.problem.Cmp.TheVariants.{Ne}
use Rattle.hp_lit.specs.declared.literal.Lit.{Lit}
use Rattle.hp_lit.specs.declared.line.Arg.{Arg}
use Rattle.hp_lit.specs.declared.refusal.Refusal.TheVariants.{Wide}
use Rattle.hp_linear.specs.Steps.{Refusable, behind}
use Rattle.hp_linear.proofs.Refusals.{behind_behind, behind_nothing}
use Rattle.hp_base.specs.Congruence.{apart_literals, arg_literals}

-- ---- lists that end
over : {A : Type 0} (xs : List A) (i : ℕ) → length xs ≤ i → drop i xs ≡ []
over [] zero h = refl
over [] (suc i) h = refl
over (x ∷ xs) zero h = absurd (omega arith)
over (x ∷ xs) (suc i) h = over xs i (omega arith)

no_sorts : (xs ys : List Arg) → apart_literals [] xs ys ≡ Ok []
no_sorts xs ys = refl

no_left : (sorts : List Sort) (ys : List Arg) → apart_literals sorts [] ys ≡ Ok []
no_left [] ys = refl
no_left (s ∷ sorts) ys = refl

no_right : (sorts : List Sort) (xs : List Arg) → apart_literals sorts xs [] ≡ Ok []
no_right [] xs = refl
no_right (s ∷ sorts) [] = refl
no_right (s ∷ sorts) (x ∷ xs) = refl

-- ---- places
module _ (sorts : List Sort) (xs ys : List Arg) where
  -- the literals of the places before i are there
  pub record IsApart (i : ℕ) (lits : List Lit) : Type 0 where
    pub rest : apart_literals sorts xs ys ≡ behind lits (apart_literals (drop i sorts) (drop i xs) (drop i ys))

  pub apart_start : (lits : List Lit) → lits ≡ [] → IsApart 0 lits
  apart_start lits e = record { rest = sym (behind_nothing (apart_literals sorts xs ys)) ∙ ap (λ ls. behind ls (apart_literals sorts xs ys)) (sym e) }

  pub apart_end : (i : ℕ) (lits : List Lit) → (length sorts ≤ i) ⊎ ((length xs ≤ i) ⊎ (length ys ≤ i)) → IsApart i lits → apart_literals sorts xs ys ≡ Ok lits
  apart_end i lits over_one a = a.rest ∙ ap (behind lits) (ended over_one) ∙ ap (λ ls. Ok ls) (append-nil lits)
    where
      ended : (length sorts ≤ i) ⊎ ((length xs ≤ i) ⊎ (length ys ≤ i)) → apart_literals (drop i sorts) (drop i xs) (drop i ys) ≡ Ok []
      ended (inl h) = ap (λ ss. apart_literals ss (drop i xs) (drop i ys)) (over sorts i h) ∙ no_sorts (drop i xs) (drop i ys)
      ended (inr (inl h)) = ap (λ zs. apart_literals (drop i sorts) zs (drop i ys)) (over xs i h) ∙ no_left (drop i sorts) (drop i ys)
      ended (inr (inr h)) = ap (λ zs. apart_literals (drop i sorts) (drop i xs) zs) (over ys i h) ∙ no_right (drop i sorts) (drop i xs)

  -- the arguments at the place i
  module _ (i : ℕ) (s : Sort) (x y : Arg) (lits : List Lit)
      (sort_is : drop i sorts ≡ s ∷ drop (suc i) sorts) (left_is : drop i xs ≡ x ∷ drop (suc i) xs) (right_is : drop i ys ≡ y ∷ drop (suc i) ys) (a : IsApart i lits) where
    next : (r : Refusable (List Lit)) → arg_literals s Ne x y ≡ r
        → apart_literals sorts xs ys ≡ behind lits (r >>= λ more. behind more (apart_literals (drop (suc i) sorts) (drop (suc i) xs) (drop (suc i) ys)))
    next r e =
        a.rest ∙ (λ j. behind lits (apart_literals (sort_is j) (left_is j) (right_is j)))
        ∙ ap (λ q. behind lits (q >>= λ more. behind more (apart_literals (drop (suc i) sorts) (drop (suc i) xs) (drop (suc i) ys)))) e

    pub apart_more : (more new : List Lit) → arg_literals s Ne x y ≡ Ok more → new ≡ lits ++ more → IsApart (i + 1) new
    apart_more more new e is = record {
      rest = next (Ok more) e ∙ behind_behind lits more (apart_literals (drop (suc i) sorts) (drop (suc i) xs) (drop (suc i) ys))
          ∙ (λ j. behind (sym is j) (apart_literals (drop (sym (add-one i) j) sorts) (drop (sym (add-one i) j) xs) (drop (sym (add-one i) j) ys)));
    }

    pub apart_wide : arg_literals s Ne x y ≡ Err Wide → apart_literals sorts xs ys ≡ Err Wide
    apart_wide e = next (Err Wide) e
