-- A sum in which no operation was refused is the exact one.
use Rattle.std.proofs.Common.{◌≡◌, ℕ, inl, inr, ℤ, pos, ◌+ℤ◌, ◌*ℤ◌, refl, sym, ◌∙◌, ap, arith, List, [], ◌∷◌, Ok, true, false, cond, nat_eq}
use Rattle.std.proofs.lemmas.Bool.{eqb-true}
use Rattle.std.proofs.lemmas.Int.{ints}
use Rattle.hp_math.proofs.Whole.{*ℤ-+ℤ}
use Rattle.hp_num.specs.Wide.{times_of, plus_of, ◌>>=◌}
use Rattle.hp_num.proofs.Bits.{times_gave, plus_gave}
use Rattle.hp_num.proofs.Given.{came}
use Rattle.hp_lit.specs.declared.literal.Part.{Part}
use Rattle.hp_lit.specs.Leaf.{coefficient, Taken, sum_coefficient, sum_bound}
use Rattle.hp_farkas.specs.Sums.{add_product, add_parts, sum_from, bound_from}
use Rattle.hp_farkas.specs.Names.{HasName, Occurs}

product_exact : (s a b r : ℤ) → add_product s a b ≡ Ok r → r ≡ s +ℤ (a *ℤ b)
product_exact s a b r h =
    let w = came (times_of a b) (λ p. plus_of s p) r h in
    (plus_gave s w.value r w.rest).value ∙ ap (λ p. s +ℤ p) (times_gave a b w.value w.first).value

-- ---- a name
joined : (s t r m c d : ℤ) → t ≡ s +ℤ (m *ℤ c) → r ≡ t +ℤ (m *ℤ d) → r ≡ s +ℤ (m *ℤ (c +ℤ d))
joined s t r m c d h k = let e = *ℤ-+ℤ m c d in omega (arith, ints)

skipped : (s r m d : ℤ) → r ≡ s +ℤ (m *ℤ d) → r ≡ s +ℤ (m *ℤ (pos 0 +ℤ d))
skipped s r m d h = let e : pos 0 +ℤ d ≡ d = omega (arith, ints) in h ∙ sym (ap (λ x. s +ℤ (m *ℤ x)) e)

times_zero : (m : ℤ) → m *ℤ pos 0 ≡ pos 0
times_zero m = omega (arith, ints)

parts_exact : (n : ℕ) (m s r : ℤ) (ps : List Part) → add_parts n m s ps ≡ Ok r → r ≡ s +ℤ (m *ℤ coefficient n ps)
parts_exact n m s r [] h = let e : s ≡ r = cc in let z = times_zero m in omega (arith, ints)
parts_exact n m s r (p ∷ ps) h =
    (elim (nat_eq p.name.0 n) as (λ b. cond b (add_product s m p.coef >>= (λ t. add_parts n m t ps)) (add_parts n m s ps) ≡ Ok r → r ≡ s +ℤ (m *ℤ (cond b p.coef (pos 0) +ℤ coefficient n ps))) [
      | true ↦ λ g. (let w = came (add_product s m p.coef) (λ t. add_parts n m t ps) r g in
          joined s w.value r m p.coef (coefficient n ps) (product_exact s m p.coef w.value w.first) (parts_exact n m w.value r ps w.rest))
      | false ↦ λ g. skipped s r m (coefficient n ps) (parts_exact n m s r ps g)
    ]) h

added : (s t r a b : ℤ) → t ≡ s +ℤ a → r ≡ t +ℤ b → r ≡ s +ℤ (a +ℤ b)
added s t r a b h k = omega (arith, ints)

pub sum_exact : (n : ℕ) (s r : ℤ) (ts : List Taken) → sum_from n s ts ≡ Ok r → r ≡ s +ℤ sum_coefficient n ts
sum_exact n s r [] h = let e : s ≡ r = cc in omega (arith, ints)
sum_exact n s r (t ∷ ts) h =
    let w = came (add_parts n t.times s t.lit.parts) (λ u. sum_from n u ts) r h in
    added s w.value r (t.times *ℤ coefficient n t.lit.parts) (sum_coefficient n ts) (parts_exact n t.times s w.value t.lit.parts w.first) (sum_exact n w.value r ts w.rest)

-- a name that does not occur adds nothing
pub no_part : (n : ℕ) (ps : List Part) → (HasName n ps → ⊥) → coefficient n ps ≡ pos 0
no_part n [] h = refl
no_part n (p ∷ ps) h =
    (elim (nat_eq p.name.0 n) as (λ b. nat_eq p.name.0 n ≡ b → cond b p.coef (pos 0) +ℤ coefficient n ps ≡ pos 0) [
      | true ↦ λ e. absurd (h (inl (eqb-true p.name.0 n e)))
      | false ↦ λ e. (let r = no_part n ps (λ q. h (inr q)) in omega (arith, ints))
    ]) refl

pub no_name : (n : ℕ) (ts : List Taken) → (Occurs n ts → ⊥) → sum_coefficient n ts ≡ pos 0
no_name n [] h = refl
no_name n (t ∷ ts) h =
    let a = no_part n t.lit.parts (λ q. h (inl q)) in
    let b = no_name n ts (λ q. h (inr q)) in
    (λ i. (t.times *ℤ a i) +ℤ b i) ∙ nothing (times_zero t.times)
  where
    nothing : t.times *ℤ pos 0 ≡ pos 0 → (t.times *ℤ pos 0) +ℤ pos 0 ≡ pos 0
    nothing e = omega (arith, ints)

-- ---- the bounds
pub bound_exact : (s r : ℤ) (ts : List Taken) → bound_from s ts ≡ Ok r → r ≡ s +ℤ sum_bound ts
bound_exact s r [] h = let e : s ≡ r = cc in omega (arith, ints)
bound_exact s r (t ∷ ts) h =
    let w = came (add_product s t.times t.lit.bound) (λ u. bound_from u ts) r h in
    added s w.value r (t.times *ℤ t.lit.bound) (sum_bound ts) (product_exact s t.times t.lit.bound w.value w.first) (bound_exact w.value r ts w.rest)
