-- What the check of a leaf answers: its form is tested first, and then sums are made in a fixed order.
use Rattle.std.specs.Prelude.{◌≡◌, ℕ, ◌^◌, ◌<◌, List, [], ◌∷◌, ℤ, pos, Bool, true, false, Option, Result, Ok, Err, int_lt, unsigned_abs}
use Rattle.hp_num.specs.declared.wide.Wide.{Wide}
use Rattle.hp_num.specs.Wide.{plus_of, ◌>>=◌}
use Rattle.hp_lit.specs.declared.literal.Name.{Name}
use Rattle.hp_lit.specs.declared.literal.Lit.{Lit}
use Rattle.hp_lit.specs.declared.literal.Lit.TheVariants.{Num, Idx, Ptr}
use Rattle.hp_lit.specs.declared.literal.IdxLit.{IdxLit}
use Rattle.hp_lit.specs.declared.proof.Step.{Step}
use Rattle.hp_lit.specs.Cycle.{AreRowsOf, Leads}
use Rattle.hp_farkas.specs.Check.{IsChecked as IsCheckedCombination}
use Rattle.hp_leaf.specs.declared.tree.LeafProof.{LeafProof}
use Rattle.hp_leaf.specs.declared.tree.LeafProof.TheVariants.{Num as NumLeaf, Idx as IdxLeaf, Ptr as PtrLeaf}
use Rattle.hp_lit.specs.Pointers.{IsValidPtr}

-- the bound of a literal over whole numbers has a magnitude of at most 2^127 - 1
abbrev pub HasNarrowBound : Lit → Type 0
HasNarrowBound (Num l) = Unit {0}
HasNarrowBound (Idx l) = unsigned_abs l.bound < 2 ^ 127
HasNarrowBound (Ptr l) = Unit {0}

-- the steps are rows of the path, and lead from a to b
pub record LinkedFrom (path : List Lit) (a : Option Name) (steps : List Step) (b : Option Name) : Type 0 where
  pub rows : List IdxLit
  pub are_rows : AreRowsOf path steps rows
  pub leads : Leads a rows b

abbrev pub IsCycle : List Lit → List Step → Type 0
IsCycle path steps = (start : Option Name) × LinkedFrom path start steps start

-- the bounds added one by one to a sum, or the first addition that passes 128 bits
abbrev pub sum_from : ℤ → List IdxLit → Result ℤ Wide
sum_from s [] = Ok s
sum_from s (r ∷ rs) = plus_of s r.bound >>= (λ t. sum_from t rs)

abbrev pub is_below : Result ℤ Wide → Result Bool Wide
is_below (Ok s) = Ok (int_lt s (pos 0))
is_below (Err e) = Err e

-- over a cycle the answer is that of its sum, and steps that are none are bad without a sum
pub record IsCheckedCycle (path : List Lit) (steps : List Step) (answer : Result Bool Wide) : Type 0 where
  pub cycle : (rows : List IdxLit) (start : Option Name) → AreRowsOf path steps rows → Leads start rows start → answer ≡ is_below (sum_from (pos 0) rows)
  pub other : (IsCycle path steps → ⊥) → answer ≡ Ok false

-- nothing is added
pub record IsCheckedConflict (path : List Lit) (ne : ℕ) (links : List ℕ) (answer : Result Bool Wide) : Type 0 where
  pub valid : IsValidPtr path ne links → answer ≡ Ok true
  pub other : (IsValidPtr path ne links → ⊥) → answer ≡ Ok false

abbrev pub IsChecked : List Lit → LeafProof → Result Bool Wide → Type 0
IsChecked path (NumLeaf shares) answer = IsCheckedCombination path shares answer
IsChecked path (IdxLeaf steps) answer = IsCheckedCycle path steps answer
IsChecked path (PtrLeaf ne links) answer = IsCheckedConflict path ne links answer
