-- A cycle of difference bounds that adds to less than 0: the evidence against literals over whole numbers.
use Rattle.std.specs.Prelude.{◌≡◌, ℕ, ◌-◌, ◌≤◌, ◌⊎◌, List, [], ◌∷◌, ℤ, pos, neg_ℤ, ◌+ℤ◌, ◌<ℤ◌, Option, Some, slice_get, Bool, true, false}
use Rattle.std.specs.List.{All}
use Rattle.hp_lit.specs.declared.literal.Name.{Name}
use Rattle.hp_lit.specs.declared.literal.IdxLit.{IdxLit}
use Rattle.hp_lit.specs.declared.literal.Lit.{Lit}
use Rattle.hp_lit.specs.declared.literal.Lit.TheVariants.{Idx}
use Rattle.hp_lit.specs.declared.proof.Step.{Step}
use Rattle.hp_lit.specs.Truth.{Values, IsTrueAt}

-- the literal as it stands, or turned about: right minus left with the bound negated
abbrev pub turned : IdxLit → Bool → IdxLit
turned l true = l
turned l false = record { exact = l.exact; left = l.right; right = l.left; bound = neg_ℤ l.bound }

-- the literal of a path with this number, counted from 1
abbrev pub IsLit : List Lit → ℕ → Lit → Type 0
IsLit path n l = (1 ≤ n) × (slice_get path (n - 1) ≡ Some l)

-- the row that a step takes: a literal over whole numbers, turned about only where it is an equality
pub record IsRowOf (path : List Lit) (s : Step) (row : IdxLit) : Type 0 where
  pub lit : IdxLit
  pub at : IsLit path s.lit (Idx lit)
  pub may : (s.forward ≡ true) ⊎ (lit.exact ≡ true)
  pub same : row ≡ turned lit s.forward

abbrev pub AreRowsOf : List Lit → List Step → List IdxLit → Type 0
AreRowsOf path [] [] = Unit {0}
AreRowsOf path (s ∷ ss) (r ∷ rs) = IsRowOf path s r × AreRowsOf path ss rs
AreRowsOf path _ _ = ⊥

-- the rows lead from one name to another: each row's right name is the next one's left name
abbrev pub Leads : Option Name → List IdxLit → Option Name → Type 0
Leads a [] b = a ≡ b
Leads a (r ∷ rs) b = (a ≡ r.left) × Leads r.right rs b

abbrev pub bound_sum : List IdxLit → ℤ
bound_sum [] = pos 0
bound_sum (r ∷ rs) = r.bound +ℤ bound_sum rs

-- the steps are a cycle, and their bounds add to less than 0
pub record IsValidIdx (path : List Lit) (steps : List Step) : Type 0 where
  pub rows : List IdxLit
  pub are_rows : AreRowsOf path steps rows
  pub start : Option Name
  pub cycle : Leads start rows start
  pub below : bound_sum rows <ℤ pos 0

abbrev pub NoIdxLeaf : Type 0
NoIdxLeaf = (path : List Lit) (steps : List Step) → IsValidIdx path steps → (v : Values) → All (IsTrueAt v) path → ⊥
