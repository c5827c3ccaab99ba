-- How large the numbers of forms and the bounds of literals can become.
use Rattle.std.proofs.Common.{◌≤◌, ℕ, ◌+◌, ℤ, pos, negsuc, neg_ℤ, ◌+ℤ◌, ◌-ℤ◌, unsigned_abs, List, [], ◌∷◌, sym, subst, arith}
use Rattle.std.specs.List.{All}
use Rattle.std.proofs.lemmas.Int.{ints}
use Rattle.std.proofs.lemmas.List.Elements.{All-nil, All-cons}
use Rattle.hp_tree.specs.declared.term.Term.{Term, fold-roll-Term, roll-Term, map-Term}
use Rattle.hp_tree.specs.declared.term.Term.TheOpen.{Term-F}
use Rattle.hp_tree.specs.declared.problem.Cmp.{Cmp}
use Rattle.hp_tree.specs.declared.problem.Cmp.TheVariants.{Le, Lt, Eq, Ne, Ge, Gt}
use Rattle.hp_tree.specs.Value.{Word}
use Rattle.hp_terms.specs.Weight.{IsSmallOffset, IsWithin, largest_offset, weight, weight_step}
use Rattle.hp_lit.specs.declared.literal.Rel.{Rel}
use Rattle.hp_lit.specs.declared.literal.Rel.TheVariants as rel
use Rattle.hp_lit.specs.declared.literal.Lit.TheVariants.{Idx}
use Rattle.hp_lit.specs.Fit.{IsSmallBound}
use Rattle.hp_index.specs.declared.form.IndexForm.{IndexForm}
use Rattle.hp_index.specs.Forms.{index_of, index_step}
use Rattle.hp_index.specs.Fit.{HasSmallBound, IsSmallSide, largest_side}
use Rattle.hp_index.specs.Laws.{OffsetsAreWithinWeights}
use Rattle.hp_index.specs.Literals.{compared, form_literals}
use Rattle.hp_index.proofs.Layers.{Parts, bare, by_layers}

-- ---- magnitudes
within-+ : (a b : ℕ) (x y : ℤ) → IsWithin a x → IsWithin b y → IsWithin (a + b) (x +ℤ y)
within-+ a b x y p q = let g = p.low in let h = p.high in let i = q.low in let j = q.high in record { low = omega (arith, ints); high = omega (arith, ints) }

within-less : (a b : ℕ) (x y : ℤ) → IsWithin a x → IsWithin b y → IsWithin (a + b) (x -ℤ y)
within-less a b x y p q = let g = p.low in let h = p.high in let i = q.low in let j = q.high in record { low = omega (arith, ints); high = omega (arith, ints) }

within-neg : (a : ℕ) (x : ℤ) → IsWithin a x → IsWithin a (neg_ℤ x)
within-neg a x p = let g = p.low in let h = p.high in record { low = omega (arith, ints); high = omega (arith, ints) }

pub within-more : (a b : ℕ) (x : ℤ) → a ≤ b → IsWithin a x → IsWithin b x
within-more a b x m p = let g = p.low in let h = p.high in record { low = omega (arith, ints); high = omega (arith, ints) }

within-own : (n : ℤ) → IsWithin (unsigned_abs n) n
within-own (pos n) = record { low = omega (arith, ints); high = omega (arith, ints) }
within-own (negsuc n) = record { low = omega (arith, ints); high = omega (arith, ints) }

within-zero : (a : ℕ) → IsWithin a (pos 0)
within-zero a = record { low = omega (arith, ints); high = omega (arith, ints) }

-- ---- the number of a form
module _ (words : List Word) where
  abbrev OffsetIsWithin : Term → Type 0
  OffsetIsWithin t = IsWithin (weight t) (index_of words t).offset

  step-within : (y : Term-F (Parts OffsetIsWithin))
      → IsWithin (weight_step (map-Term Term ℕ weight (bare OffsetIsWithin y))) (index_step words (map-Term Term IndexForm (index_of words) (bare OffsetIsWithin y))).offset
  step-within (Term-F.Number q) = within-own q.num
  step-within Term-F.Null = within-zero 0
  step-within (Term-F.Name n) = within-zero 0
  step-within (Term-F.Apply func args) = within-zero _
  step-within (Term-F.Add a b) = within-+ (weight a.0) (weight b.0) (index_of words a.0).offset (index_of words b.0).offset a.1 b.1
  step-within (Term-F.Sub a b) = within-less (weight a.0) (weight b.0) (index_of words a.0).offset (index_of words b.0).offset a.1 b.1
  step-within (Term-F.Neg a) = within-neg (weight a.0) (index_of words a.0).offset a.1
  step-within (Term-F.Scale q a) = within-zero _

  layer-within : (y : Term-F (Parts OffsetIsWithin)) → OffsetIsWithin (roll-Term (bare OffsetIsWithin y))
  layer-within y =
      let z = bare OffsetIsWithin y in
      subst (λ w. IsWithin w (index_of words (roll-Term z)).offset) (sym (fold-roll-Term ℕ weight_step z))
      (subst (λ (g : IndexForm). IsWithin (weight_step (map-Term Term ℕ weight z)) g.offset) (sym (fold-roll-Term IndexForm (index_step words) z)) (step-within y))

  pub offset_within : (t : Term) → OffsetIsWithin t
  offset_within = by_layers OffsetIsWithin layer-within

pub offsets_are_within_weights : OffsetsAreWithinWeights
offsets_are_within_weights words t = offset_within words t

pub small_offset : (words : List Word) (t : Term) → weight t ≤ largest_offset → IsSmallOffset (index_of words t).offset
small_offset words t m = within-more (weight t) largest_offset (index_of words t).offset m (offset_within words t)

pub small_side : (words : List Word) (t : Term) → weight t ≤ largest_side → IsSmallSide (index_of words t).offset
small_side words t m = within-more (weight t) largest_side (index_of words t).offset m (offset_within words t)

-- what may stand beside an index that is an argument may stand on a side of an atom
pub offset_is_side : (x : ℤ) → IsSmallOffset x → IsSmallSide x
offset_is_side x p = let g = p.low in let h = p.high in record { low = omega (arith, ints); high = omega (arith, ints) }

-- ---- the bounds of literals
difference_small : (x y : ℤ) → IsSmallSide x → IsSmallSide y → IsSmallBound (y -ℤ x)
difference_small x y p q = let g = p.low in let h = p.high in let i = q.low in let j = q.high in record { low = omega (arith, ints); high = omega (arith, ints) }

strict_small : (x y : ℤ) → IsSmallSide x → IsSmallSide y → IsSmallBound ((y -ℤ x) -ℤ pos 1)
strict_small x y p q = let g = p.low in let h = p.high in let i = q.low in let j = q.high in record { low = omega (arith, ints); high = omega (arith, ints) }

pub compared_small : (r : Rel) (l m : IndexForm) → IsSmallSide l.offset → IsSmallSide m.offset → IsSmallBound (compared r l m).bound
compared_small rel.Le l m p q = difference_small l.offset m.offset p q
compared_small rel.Lt l m p q = strict_small l.offset m.offset p q
compared_small rel.Eq l m p q = difference_small l.offset m.offset p q

one_small : (r : Rel) (l m : IndexForm) → IsSmallSide l.offset → IsSmallSide m.offset → All HasSmallBound (Idx (compared r l m) ∷ [])
one_small r l m p q = All-cons HasSmallBound (Idx (compared r l m)) [] (compared_small r l m p q) (All-nil HasSmallBound)

pub literals_small : (cmp : Cmp) (l m : IndexForm) → IsSmallSide l.offset → IsSmallSide m.offset → All HasSmallBound (form_literals cmp l m)
literals_small Le l m p q = one_small rel.Le l m p q
literals_small Lt l m p q = one_small rel.Lt l m p q
literals_small Eq l m p q = one_small rel.Eq l m p q
literals_small Ne l m p q = All-cons HasSmallBound (Idx (compared rel.Lt l m)) (Idx (compared rel.Lt m l) ∷ []) (compared_small rel.Lt l m p q) (one_small rel.Lt m l q p)
literals_small Ge l m p q = one_small rel.Le m l q p
literals_small Gt l m p q = one_small rel.Lt m l q p
