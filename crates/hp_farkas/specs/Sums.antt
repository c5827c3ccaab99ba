-- Running sums within 128 bits: the last sum, or the first operation that passes them.
use Rattle.std.specs.Prelude.{◌≡◌, ℕ, ◌+◌, ◌≤◌, List, [], ◌∷◌, ℤ, Result, Ok, nat_eq, if◌then◌else◌}
use Rattle.hp_num.specs.declared.wide.Wide.{Wide}
use Rattle.hp_num.specs.Wide.{times_of, plus_of, ◌>>=◌}
use Rattle.hp_lit.specs.declared.literal.Part.{Part}
use Rattle.hp_lit.specs.Leaf.{coefficient, Taken}
use Rattle.hp_farkas.specs.Names.{HasName}

-- a product, and then the sum so far with it
abbrev pub add_product : ℤ → ℤ → ℤ → Result ℤ Wide
add_product s a b = times_of a b >>= (λ product. plus_of s product)

-- the multiplied coefficient of a name, where the parts have the name
abbrev pub add_parts : ℕ → ℤ → ℤ → List Part → Result ℤ Wide
add_parts n times s [] = Ok s
add_parts n times s (p ∷ ps) = if nat_eq p.name.0 n then add_product s times p.coef >>= (λ t. add_parts n times t ps) else add_parts n times s ps

-- the multiplied coefficients of a name in all literals taken
abbrev pub sum_from : ℕ → ℤ → List Taken → Result ℤ Wide
sum_from n s [] = Ok s
sum_from n s (t ∷ ts) = add_parts n t.times s t.lit.parts >>= (λ u. sum_from n u ts)

-- the multiplied bounds of all literals taken
abbrev pub bound_from : ℤ → List Taken → Result ℤ Wide
bound_from s [] = Ok s
bound_from s (t ∷ ts) = add_product s t.times t.lit.bound >>= (λ u. bound_from u ts)

-- the names of the parts rise strictly, from n on, as they do in each literal
abbrev pub PartsRiseFrom : ℕ → List Part → Type 0
PartsRiseFrom n [] = Unit {0}
PartsRiseFrom n (p ∷ ps) = (n ≤ p.name.0) × PartsRiseFrom (p.name.0 + 1) ps

-- a literal with the name adds one product to the sum, the multiplier times the name's coefficient, and one without it
-- adds nothing
pub record OneProductEach : Type 0 where
  pub with_name : (n : ℕ) (times s : ℤ) (ps : List Part) → PartsRiseFrom 0 ps → HasName n ps → add_parts n times s ps ≡ add_product s times (coefficient n ps)
  pub without : (n : ℕ) (times s : ℤ) (ps : List Part) → (HasName n ps → ⊥) → add_parts n times s ps ≡ Ok s
