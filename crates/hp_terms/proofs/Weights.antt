-- The weight of a term from those of its parts, each of which weighs no more.
use Rattle.std.proofs.Common.{ℕ, ◌+◌, ◌≤◌, List, [], ◌∷◌, map, sym, subst, arith}
use Rattle.std.specs.List.{All}
use Rattle.std.proofs.lemmas.List.Elements.{All-nil, All-cons, All-weaker}
use Rattle.hp_tree.specs.declared.term.Term.{Term, fold-roll-Term, map-Term}
use Rattle.hp_tree.specs.declared.term.Term.TheOpen.{Term-F}
use Rattle.hp_terms.specs.Weight.{weight, weight_step, weights}
use Rattle.hp_terms.specs.Laws.{PartsWeighNoMore, parts_of}

-- each term of a list weighs at most as much as all of them
pub each_within : (terms : List Term) → All (λ term. weight term ≤ weights (map weight terms)) terms
each_within [] = All-nil (λ term. weight term ≤ 0)
each_within (t ∷ ts) =
    All-cons (λ term. weight term ≤ (weight t + weights (map weight ts))) t ts (omega arith)
    (All-weaker (λ term. weight term ≤ weights (map weight ts)) (λ term. weight term ≤ (weight t + weights (map weight ts))) (λ x h. omega (arith, h)) ts (each_within ts))

one_within : (part : Term) (most : ℕ) → weight part ≤ most → All (λ p. weight p ≤ most) (part ∷ [])
one_within part most h = All-cons (λ p. weight p ≤ most) part [] h (All-nil (λ p. weight p ≤ most))

both_within : (left right : Term) → All (λ p. weight p ≤ (weight left + weight right)) (left ∷ right ∷ [])
both_within left right =
    All-cons (λ p. weight p ≤ (weight left + weight right)) left (right ∷ []) (omega arith) (one_within right (weight left + weight right) (omega arith))

within_step : (layer : Term-F Term) → All (λ part. weight part ≤ weight_step (map-Term Term ℕ weight layer)) (parts_of layer)
within_step (Term-F.Number q) = All-nil _
within_step Term-F.Null = All-nil _
within_step (Term-F.Name name) = All-nil _
within_step (Term-F.Apply func args) = each_within args
within_step (Term-F.Add left right) = both_within left right
within_step (Term-F.Sub left right) = both_within left right
within_step (Term-F.Neg inner) = one_within inner (weight inner) (omega arith)
within_step (Term-F.Scale q inner) = one_within inner _ (omega arith)

pub parts_weigh_no_more : PartsWeighNoMore
parts_weigh_no_more layer = subst (λ n. All (λ part. weight part ≤ n) (parts_of layer)) (sym (fold-roll-Term ℕ weight_step layer)) (within_step layer)
