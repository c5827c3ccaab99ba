-- The names that occur in the literals taken, in their order.
use Rattle.std.specs.Prelude.{◌≡◌, ℕ, ◌+◌, ◌≤◌, ◌⊎◌, ◌↔◌, List, [], ◌∷◌, nat_lt, if◌then◌else◌}
use Rattle.hp_lit.specs.declared.literal.Part.{Part}
use Rattle.hp_lit.specs.Leaf.{Taken}

-- a number in its place in a rising list, where it stands once
abbrev pub insert : ℕ → List ℕ → List ℕ
insert n [] = n ∷ []
insert n (m ∷ ms) = if nat_lt n m then n ∷ m ∷ ms else (if nat_lt m n then m ∷ insert n ms else m ∷ ms)

abbrev pub with_names : List Part → List ℕ → List ℕ
with_names [] ns = ns
with_names (p ∷ ps) ns = insert p.name.0 (with_names ps ns)

abbrev pub names_of : List Taken → List ℕ
names_of [] = []
names_of (t ∷ ts) = with_names t.lit.parts (names_of ts)

-- one of the parts has the name
abbrev pub HasName : ℕ → List Part → Type 0
HasName n [] = ⊥
HasName n (p ∷ ps) = (p.name.0 ≡ n) ⊎ HasName n ps

-- the name occurs in a literal taken
abbrev pub Occurs : ℕ → List Taken → Type 0
Occurs n [] = ⊥
Occurs n (t ∷ ts) = HasName n t.lit.parts ⊎ Occurs n ts

abbrev pub IsIn : ℕ → List ℕ → Type 0
IsIn n [] = ⊥
IsIn n (m ∷ ms) = (m ≡ n) ⊎ IsIn n ms

-- the numbers rise strictly, from n on
abbrev pub RisesFrom : ℕ → List ℕ → Type 0
RisesFrom n [] = Unit {0}
RisesFrom n (m ∷ ms) = (n ≤ m) × RisesFrom (m + 1) ms

-- the list of names rises strictly, and has the names that occur and no other
pub record NamesInOrder : Type 0 where
  pub rise : (ts : List Taken) → RisesFrom 0 (names_of ts)
  pub occur : (ts : List Taken) (n : ℕ) → IsIn n (names_of ts) ↔ Occurs n ts
