-- How much the terms of a list weigh, as a loop goes over them.
use Rattle.std.proofs.Common.{◌≡◌, ℕ, zero, suc, ◌+◌, ◌<◌, ◌≤◌, List, [], ◌∷◌, ◌++◌, map, length, drop, get_or, sym, ap, subst, arith, add-one}
use Rattle.hp_tree.specs.declared.term.Term.{Term}
use Rattle.hp_terms.specs.Weight.{weight, weights}

abbrev pub total : List Term → ℕ
total ts = weights (map weight ts)

total_push : (ts : List Term) (t : Term) → total (ts ++ t ∷ []) ≡ total ts + weight t
total_push [] t = omega arith
total_push (x ∷ ts) t = omega (arith, total_push ts t)

total_next : (ts : List Term) (i : ℕ) (t : Term) → i < length ts → t ≡ get_or ts i t → total (drop i ts) ≡ weight t + total (drop (suc i) ts)
total_next [] i t h e = absurd (omega arith)
total_next (x ∷ ts) zero t h e = ap (λ y. weight y + total ts) (sym e)
total_next (x ∷ ts) (suc i) t h e = total_next ts i t (omega arith) e

-- terms that were made, and those that are left, weigh no more than all
pub light_start : (all ts : List Term) → all ≡ [] → (total all + total ts) ≤ total ts
light_start all ts e = subst (λ xs. (total xs + total ts) ≤ total ts) (sym e) (omega arith)

pub light_more : (ts all more : List Term) (i : ℕ) (t x : Term) → i < length ts → t ≡ get_or ts i t → more ≡ all ++ x ∷ [] → weight x ≤ weight t
    → (total all + total (drop i ts)) ≤ total ts → (total more + total (drop (i + 1) ts)) ≤ total ts
light_more ts all more i t x h e is less so_far =
    subst (λ xs. (total xs + total (drop (i + 1) ts)) ≤ total ts) (sym is)
    (subst (λ k. (total (all ++ x ∷ []) + total (drop k ts)) ≤ total ts) (sym (add-one i))
    (omega (arith, total_push all x, total_next ts i t h e, less, so_far)))
