-- Index forms over names of sort idx, and literals whose bounds are not too large.
use Rattle.std.specs.Prelude.{ℕ, ◌*◌, ◌^◌, List, ℤ}
use Rattle.hp_tree.specs.declared.problem.Sort.{Sort}
use Rattle.hp_terms.specs.Weight.{IsWithin}
use Rattle.hp_lit.specs.declared.literal.Lit.{Lit}
use Rattle.hp_lit.specs.declared.literal.Lit.TheVariants.{Num, Idx, Ptr}
use Rattle.hp_lit.specs.Fit.{IsIdxSide, IsSmallBound}
use Rattle.hp_index.specs.declared.form.IndexForm.{IndexForm}

-- the largest number beside the name on a side of an atom: twice as much as beside an index that is an argument, so that a
-- side of an atom has room for one of those and for its own numbers
abbrev pub largest_side : ℕ
largest_side = 4 * 10 ^ 24

abbrev pub IsSmallSide : ℤ → Type 0
IsSmallSide n = IsWithin largest_side n

-- no name, or one of sort idx, plus a whole number of a magnitude of at most 4 * 10^24
pub record IsFormOver (sorts : List Sort) (form : IndexForm) : Type 0 where
  pub base : IsIdxSide sorts form.base
  pub offset : IsSmallSide form.offset

-- a literal over whole numbers with a bound of a magnitude of at most 10^25
abbrev pub HasSmallBound : Lit → Type 0
HasSmallBound (Num l) = ⊥
HasSmallBound (Idx l) = IsSmallBound l.bound
HasSmallBound (Ptr l) = ⊥
