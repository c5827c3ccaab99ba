-- The terms of an application at the places of its function, one after the other, how light each is and how deep.
use Rattle.std.proofs.Common.{◌≡◌, ℕ, zero, suc, ◌<◌, ◌≤◌, List, [], ◌∷◌, map, length, drop, get_or, refl, sym, ap, subst, ◌⊎◌, inl, inr, arith}
use denote.Param.Weighed.{at_most, most}
use Rattle.hp_tree.specs.declared.term.Term.{Term, Sub, roll-Term}
use Rattle.hp_tree.specs.declared.term.Term.TheBlock as block
use Rattle.hp_tree.specs.declared.term.Term.TheBlock.{the_depth}
use Rattle.hp_tree.specs.declared.problem.Sort.{Sort}
use Rattle.hp_tree.proofs.term.Term.TheLaws.{the_size}
use Rattle.hp_terms.specs.Weight.{weight, weights}
use Rattle.hp_base.specs.Making.{Maker}
use Rattle.hp_norm.specs.Naming.{placed}

-- the next one
pub placed_next : (g : Term → Maker Term) (ts : List Term) (ss : List Sort) (i : ℕ) (t : Term) (d : Sort) → i < length ts → i < length ss → t ≡ get_or ts i t
    → drop i (placed (map g ts) ss) ≡ record { named = g t; sort = get_or ss i d } ∷ drop (suc i) (placed (map g ts) ss)
placed_next g [] ss i t d h k e = absurd (omega arith)
placed_next g (x ∷ ts) [] i t d h k e = absurd (omega arith)
placed_next g (x ∷ ts) (r ∷ ss) zero t d h k e = (λ j. record { named = g (sym e j); sort = r } ∷ placed (map g ts) ss)
placed_next g (x ∷ ts) (r ∷ ss) (suc i) t d h k e = placed_next g ts ss i t d (omega arith) (omega arith) e

-- and none more
pub placed_over : (g : Term → Maker Term) (ts : List Term) (ss : List Sort) (i : ℕ) → (length ts ≤ i) ⊎ (length ss ≤ i) → drop i (placed (map g ts) ss) ≡ []
placed_over g [] ss zero h = refl
placed_over g [] ss (suc i) h = refl
placed_over g (x ∷ ts) [] zero h = refl
placed_over g (x ∷ ts) [] (suc i) h = refl
placed_over g (x ∷ ts) (s ∷ ss) zero (inl h) = absurd (omega arith)
placed_over g (x ∷ ts) (s ∷ ss) zero (inr h) = absurd (omega arith)
placed_over g (x ∷ ts) (s ∷ ss) (suc i) (inl h) = placed_over g ts ss i (inl (omega arith))
placed_over g (x ∷ ts) (s ∷ ss) (suc i) (inr h) = placed_over g ts ss i (inr (omega arith))

-- a term weighs at most as much as all of them
weight_at : (ts : List Term) (i : ℕ) (t : Term) → i < length ts → t ≡ get_or ts i t → weight t ≤ weights (map weight ts)
weight_at [] i t h e = absurd (omega arith)
weight_at (x ∷ ts) zero t h e = omega (arith, ap weight e)
weight_at (x ∷ ts) (suc i) t h e = omega (arith, weight_at ts i t (omega arith) e)

pub light_at : (ts : List Term) (i : ℕ) (t : Term) (limit : ℕ) → t ≡ get_or ts i t → i < length ts → weights (map weight ts) ≤ limit → weight t ≤ limit
light_at ts i t limit e h light = omega (arith, light, weight_at ts i t h e)

-- and is at most as deep as the deepest of them
pub deep_at : (ts : List Term) (i : ℕ) (t : Term) → t ≡ get_or ts i t → i < length ts → the_size t ≤ most the_size ts
deep_at ts i t e h = subst (λ (x : Term). the_size x ≤ most the_size ts) (sym e) (at_most the_size ts i t h)

-- the right side of a difference is less deep
right_less : (a b : Term) → the_size b < the_size (Sub a b)
unfolding the_depth roll-Term denote.Hole.Rolled.depth denote.Hole.Carrier.fold block.hidden-the_row-Term-1 denote.Hole.Carrier.hidden
right_less a b = omega arith

pub right_falls : (t a b x : Term) → t ≡ Sub a b → x ≡ b → the_size x < the_size t
right_falls t a b x e is = subst (λ (y : Term). the_size y < the_size t) (sym is) (subst (λ (y : Term). the_size b < the_size y) (sym e) (right_less a b))
