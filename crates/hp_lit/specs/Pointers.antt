-- Equalities that lead from one side of an inequality to the other: the evidence against literals over pointers.
use Rattle.std.specs.Prelude.{◌≡◌, ℕ, ◌⊎◌, List, [], ◌∷◌, Option, true, false}
use Rattle.hp_lit.specs.declared.literal.Name.{Name}
use Rattle.hp_lit.specs.declared.literal.PtrLit.{PtrLit}
use Rattle.hp_lit.specs.declared.literal.Lit.{Lit}
use Rattle.hp_lit.specs.declared.literal.Lit.TheVariants.{Ptr}
use Rattle.hp_lit.specs.Cycle.{IsLit}

-- the equality with this number has a and b as its sides, in either order
pub record Joins (path : List Lit) (n : ℕ) (a b : Option Name) : Type 0 where
  pub lit : PtrLit
  pub at : IsLit path n (Ptr lit)
  pub same : lit.same ≡ true
  pub ends : ((lit.left ≡ a) × (lit.right ≡ b)) ⊎ ((lit.right ≡ a) × (lit.left ≡ b))

abbrev pub JoinsAll : List Lit → Option Name → List ℕ → Option Name → Type 0
JoinsAll path a [] b = a ≡ b
JoinsAll path a (n ∷ ns) b = (c : Option Name) × Joins path n a c × JoinsAll path c ns b

-- an inequality, and equalities from its left to its right name
pub record IsValidPtr (path : List Lit) (ne : ℕ) (links : List ℕ) : Type 0 where
  pub lit : PtrLit
  pub at : IsLit path ne (Ptr lit)
  pub apart : lit.same ≡ false
  pub joined : JoinsAll path lit.left links lit.right
