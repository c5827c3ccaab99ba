-- In parts whose names rise strictly a name has one coefficient, and so one product.
use Rattle.std.proofs.Common.{◌≡◌, ℕ, ◌+◌, ◌<◌, ◌⊎◌, inl, inr, ℤ, pos, ◌+ℤ◌, refl, ◌∙◌, ap, arith, List, [], ◌∷◌, Result, Ok, Err, true, false, cond, nat_eq}
use Rattle.std.proofs.lemmas.Bool.{eqb-true, eqb-false}
use Rattle.std.proofs.lemmas.Int.{ints}
use Rattle.hp_num.specs.declared.wide.Wide.{Wide}
use Rattle.hp_num.specs.Wide.{◌>>=◌}
use Rattle.hp_lit.specs.declared.literal.Part.{Part}
use Rattle.hp_lit.specs.Leaf.{coefficient}
use Rattle.hp_farkas.specs.Names.{HasName}
use Rattle.hp_farkas.specs.Sums.{add_product, add_parts, PartsRiseFrom, OneProductEach}
use Rattle.hp_farkas.proofs.Exact.{no_part}

without : (n : ℕ) (m s : ℤ) (ps : List Part) → (HasName n ps → ⊥) → add_parts n m s ps ≡ Ok s
without n m s [] h = refl
without n m s (p ∷ ps) h =
    (elim (nat_eq p.name.0 n) as (λ b. nat_eq p.name.0 n ≡ b → cond b (add_product s m p.coef >>= (λ t. add_parts n m t ps)) (add_parts n m s ps) ≡ Ok s) [
      | true ↦ λ e. absurd (h (inl (eqb-true p.name.0 n e)))
      | false ↦ λ e. without n m s ps (λ q. h (inr q))
    ]) refl

-- a name below those that the parts begin from
below : (n f : ℕ) (ps : List Part) → n < f → PartsRiseFrom f ps → HasName n ps → ⊥
below n f [] l r h = h
below n f (p ∷ ps) l r (inl e) = let a = r.0 in absurd (omega arith)
below n f (p ∷ ps) l r (inr h) = let a = r.0 in below n (p.name.0 + 1) ps (omega arith) r.1 h

ends : (r : Result ℤ Wide) (f : ℤ → Result ℤ Wide) → ((t : ℤ) → f t ≡ Ok t) → (r >>= f) ≡ r
ends (Ok t) f h = h t
ends (Err e) f h = refl

zero_right : (c d : ℤ) → d ≡ pos 0 → c ≡ c +ℤ d
zero_right c d h = omega (arith, ints)

zero_left : (d : ℤ) → d ≡ pos 0 +ℤ d
zero_left d = omega (arith, ints)

with_name : (n f : ℕ) (m s : ℤ) (ps : List Part) → PartsRiseFrom f ps → HasName n ps → add_parts n m s ps ≡ add_product s m (coefficient n ps)
with_name n f m s [] r h = absurd h
with_name n f m s (p ∷ ps) r h =
    (elim (nat_eq p.name.0 n) as (λ b. nat_eq p.name.0 n ≡ b → cond b (add_product s m p.coef >>= (λ t. add_parts n m t ps)) (add_parts n m s ps) ≡ add_product s m (cond b p.coef (pos 0) +ℤ coefficient n ps)) [
      | true ↦ λ e. (let g = eqb-true p.name.0 n e in
          let none : HasName n ps → ⊥ = below n (p.name.0 + 1) ps (omega arith) r.1 in
          ends (add_product s m p.coef) (λ t. add_parts n m t ps) (λ t. without n m t ps none) ∙ ap (add_product s m) (zero_right p.coef (coefficient n ps) (no_part n ps none)))
      | false ↦ λ e. with_name n (p.name.0 + 1) m s ps r.1 (later (eqb-false p.name.0 n e) h) ∙ ap (add_product s m) (zero_left (coefficient n ps))
    ]) refl
  where
    later : (p.name.0 ≡ n → ⊥) → (p.name.0 ≡ n) ⊎ HasName n ps → HasName n ps
    later other (inl e) = absurd (other e)
    later other (inr q) = q

pub one_product_each : OneProductEach
one_product_each = record { with_name = λ n times s ps r h. with_name n 0 times s ps r h; without = without }
