-- A term that takes another's place has all the forms that it had.
use Rattle.std.proofs.Common.{◌≡◌, ◌&&◌, Bool, true, false}
use Rattle.std.specs.Prelude.{if◌then◌else◌}
use Rattle.std.proofs.lemmas.Bool.{and_from, and_parts, or_left, or_right}
use Rattle.hp_math.specs.Rational.{ℚ}
use Rattle.hp_tree.specs.declared.problem.Sort.{Sort}
use Rattle.hp_tree.specs.declared.problem.Sort.TheVariants.{Num, Idx, Ptr}
use Rattle.hp_terms.specs.declared.forms.Forms.{Forms}
use Rattle.hp_terms.specs.Sorting.{difference_forms, has_form, multiple_forms, negation_forms, no_forms, number_forms, sort_forms, sum_forms}
use Rattle.hp_terms.proofs.Values.{either_both}

-- each sort stays, and so does a whole number
pub record KeepsForms (f g : Forms) : Type 0 where
  pub sorts : (sort : Sort) → has_form f sort ≡ true → has_form g sort ≡ true
  pub whole : f.whole ≡ true → g.whole ≡ true

pub same_kept : (f : Forms) → KeepsForms f f
same_kept f = record { sorts = λ s e. e; whole = λ e. e }

no_form : (sort : Sort) → has_form no_forms sort ≡ true → ⊥
no_form Num e = cc
no_form Idx e = cc
no_form Ptr e = cc

pub nothing_kept : (g : Forms) → KeepsForms no_forms g
nothing_kept g = record { sorts = λ s e. absurd (no_form s e); whole = λ e. absurd (cc) }

-- a number that stands for a pointer still does
pub number_kept : (one other : ℚ → Bool) (q : ℚ) → (one q ≡ true → other q ≡ true) → KeepsForms (number_forms one q) (number_forms other q)
number_kept one other q more = record { sorts = by; whole = λ e. e }
  where
    by : (sort : Sort) → has_form (number_forms one q) sort ≡ true → has_form (number_forms other q) sort ≡ true
    by Num e = e
    by Idx e = e
    by Ptr e = more e

-- an application whose arguments may not fit gives at most its own sort
pub result_kept : (b : Bool) (sort : Sort) → KeepsForms (if b then sort_forms sort else no_forms) (sort_forms sort)
result_kept true sort = same_kept (sort_forms sort)
result_kept false sort = nothing_kept (sort_forms sort)

pub sum_kept : (f1 f2 g1 g2 : Forms) → KeepsForms f1 g1 → KeepsForms f2 g2 → KeepsForms (sum_forms f1 f2) (sum_forms g1 g2)
sum_kept f1 f2 g1 g2 p q = record { sorts = by; whole = λ e. absurd (cc) }
  where
    by : (sort : Sort) → has_form (sum_forms f1 f2) sort ≡ true → has_form (sum_forms g1 g2) sort ≡ true
    by Num e = let h = and_parts f1.num f2.num e in and_from g1.num g2.num (p.sorts Num h.0) (q.sorts Num h.1)
    by Idx e = either_both f1.idx f2.whole f1.whole f2.idx e
        (λ i w. or_left (g1.idx && g2.whole) (g1.whole && g2.idx) (and_from g1.idx g2.whole (p.sorts Idx i) (q.whole w)))
        (λ w i. or_right (g1.idx && g2.whole) (g1.whole && g2.idx) (and_from g1.whole g2.idx (p.whole w) (q.sorts Idx i)))
    by Ptr e = absurd (cc)

pub difference_kept : (f1 f2 g1 g2 : Forms) → KeepsForms f1 g1 → KeepsForms f2 g2 → KeepsForms (difference_forms f1 f2) (difference_forms g1 g2)
difference_kept f1 f2 g1 g2 p q = record { sorts = by; whole = λ e. absurd (cc) }
  where
    by : (sort : Sort) → has_form (difference_forms f1 f2) sort ≡ true → has_form (difference_forms g1 g2) sort ≡ true
    by Num e = let h = and_parts f1.num f2.num e in and_from g1.num g2.num (p.sorts Num h.0) (q.sorts Num h.1)
    by Idx e = let h = and_parts f1.idx f2.whole e in and_from g1.idx g2.whole (p.sorts Idx h.0) (q.whole h.1)
    by Ptr e = absurd (cc)

pub negation_kept : (f g : Forms) → KeepsForms f g → KeepsForms (negation_forms f) (negation_forms g)
negation_kept f g p = record { sorts = by; whole = λ e. absurd (cc) }
  where
    by : (sort : Sort) → has_form (negation_forms f) sort ≡ true → has_form (negation_forms g) sort ≡ true
    by Num e = p.sorts Num e
    by Idx e = p.whole e
    by Ptr e = absurd (cc)

pub multiple_kept : (f g : Forms) → KeepsForms f g → KeepsForms (multiple_forms f) (multiple_forms g)
multiple_kept f g p = record { sorts = by; whole = λ e. absurd (cc) }
  where
    by : (sort : Sort) → has_form (multiple_forms f) sort ≡ true → has_form (multiple_forms g) sort ≡ true
    by Num e = p.sorts Num e
    by Idx e = absurd (cc)
    by Ptr e = absurd (cc)
