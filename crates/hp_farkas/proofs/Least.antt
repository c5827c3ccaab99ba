-- The search for the next name finds the least one.
use Rattle.std.proofs.Common.{◌≡◌, ℕ, ◌<◌, ◌≤◌, ◌⊎◌, inl, inr, refl, arith, List, [], ◌∷◌, Option, Some, None, true, false, cond, nat_lt, nat_le}
use Rattle.std.proofs.lemmas.Bool.{ltb-true, ltb-false, leb-true, leb-false}
use Rattle.hp_lit.specs.declared.literal.Name.{Name}
use Rattle.hp_lit.specs.declared.literal.Part.{Part}
use Rattle.hp_lit.specs.Leaf.{Taken}
use Rattle.hp_farkas.specs.inner.Next.{lower, lesser, least_part, least_name}
use Rattle.hp_farkas.specs.Names.{HasName, Occurs}

-- the least number of a set from a number on
abbrev pub IsLeast : (P : ℕ → Type 0) → ℕ → Option Name → Type 0
IsLeast P from None = (k : ℕ) → P k → from ≤ k → ⊥
IsLeast P from (Some n) = P n.0 × (from ≤ n.0) × ((k : ℕ) → P k → from ≤ k → n.0 ≤ k)

same_set : (P Q : ℕ → Type 0) (from : ℕ) (o : Option Name) → ((k : ℕ) → P k → Q k) → ((k : ℕ) → Q k → P k) → IsLeast P from o → IsLeast Q from o
same_set P Q from None f g h = λ k q. h k (g k q)
same_set P Q from (Some n) f g h = (f n.0 h.0, h.1, λ k q. h.2 k (g k q))

-- ---- a set with one more number
abbrev With : (P : ℕ → Type 0) → ℕ → ℕ → Type 0
With P n k = P k ⊎ (n ≡ k)

passed : (P : ℕ → Type 0) (from : ℕ) (n : Name) (o : Option Name) → n.0 < from → IsLeast P from o → IsLeast (With P n.0) from o
passed P from n None l h = λ k q g. go k q g
  where
    go : (k : ℕ) → With P n.0 k → from ≤ k → ⊥
    go k (inl p) g = h k p g
    go k (inr e) g = absurd (omega arith)
passed P from n (Some m) l h = (inl h.0, h.1, go)
  where
    go : (k : ℕ) → With P n.0 k → from ≤ k → m.0 ≤ k
    go k (inl p) g = h.2 k p g
    go k (inr e) g = absurd (omega arith)

lower_least : (P : ℕ → Type 0) (from : ℕ) (n : Name) (o : Option Name) → from ≤ n.0 → IsLeast P from o → IsLeast (With P n.0) from (lower o n)
lower_least P from n None l h = (inr refl, l, go)
  where
    go : (k : ℕ) → With P n.0 k → from ≤ k → n.0 ≤ k
    go k (inl p) g = absurd (h k p g)
    go k (inr e) g = omega arith
lower_least P from n (Some m) l h =
    (elim (nat_le m.0 n.0) as (λ b. nat_le m.0 n.0 ≡ b → IsLeast (With P n.0) from (cond b (Some m) (Some n))) [
      | true ↦ λ e. (inl h.0, h.1, kept (leb-true m.0 n.0 e))
      | false ↦ λ e. (inr refl, l, taken (leb-false m.0 n.0 e))
    ]) refl
  where
    kept : m.0 ≤ n.0 → (k : ℕ) → With P n.0 k → from ≤ k → m.0 ≤ k
    kept b k (inl p) g = h.2 k p g
    kept b k (inr e) g = omega arith

    taken : n.0 < m.0 → (k : ℕ) → With P n.0 k → from ≤ k → n.0 ≤ k
    taken b k (inl p) g = let a = h.2 k p g in omega arith
    taken b k (inr e) g = omega arith

lesser_least : (P : ℕ → Type 0) (from : ℕ) (n : Name) (o : Option Name) → IsLeast P from o → IsLeast (With P n.0) from (lesser from o n)
lesser_least P from n o h =
    (elim (nat_lt n.0 from) as (λ b. nat_lt n.0 from ≡ b → IsLeast (With P n.0) from (cond b o (lower o n))) [
      | true ↦ λ e. passed P from n o (ltb-true n.0 from e) h
      | false ↦ λ e. lower_least P from n o (ltb-false n.0 from e) h
    ]) refl

-- ---- a set with the names of parts, and of the literals taken
part_least : (P : ℕ → Type 0) (from : ℕ) (o : Option Name) (ps : List Part) → IsLeast P from o → IsLeast (λ k. P k ⊎ HasName k ps) from (least_part from o ps)
part_least P from o [] h = same_set P (λ k. P k ⊎ HasName k []) from o (λ k p. inl p) go h
  where
    go : (k : ℕ) → P k ⊎ HasName k [] → P k
    go k (inl p) = p
    go k (inr q) = absurd q
part_least P from o (p ∷ ps) h =
    same_set (λ k. With P p.name.0 k ⊎ HasName k ps) (λ k. P k ⊎ HasName k (p ∷ ps)) from (least_part from (lesser from o p.name) ps) out back
    (part_least (With P p.name.0) from (lesser from o p.name) ps (lesser_least P from p.name o h))
  where
    out : (k : ℕ) → With P p.name.0 k ⊎ HasName k ps → P k ⊎ HasName k (p ∷ ps)
    out k (inl (inl x)) = inl x
    out k (inl (inr e)) = inr (inl e)
    out k (inr q) = inr (inr q)

    back : (k : ℕ) → P k ⊎ HasName k (p ∷ ps) → With P p.name.0 k ⊎ HasName k ps
    back k (inl x) = inl (inl x)
    back k (inr (inl e)) = inl (inr e)
    back k (inr (inr q)) = inr q

taken_least : (P : ℕ → Type 0) (from : ℕ) (o : Option Name) (ts : List Taken) → IsLeast P from o → IsLeast (λ k. P k ⊎ Occurs k ts) from (least_name from o ts)
taken_least P from o [] h = same_set P (λ k. P k ⊎ Occurs k []) from o (λ k p. inl p) go h
  where
    go : (k : ℕ) → P k ⊎ Occurs k [] → P k
    go k (inl p) = p
    go k (inr q) = absurd q
taken_least P from o (t ∷ ts) h =
    same_set (λ k. (P k ⊎ HasName k t.lit.parts) ⊎ Occurs k ts) (λ k. P k ⊎ Occurs k (t ∷ ts)) from (least_name from (least_part from o t.lit.parts) ts) out back
    (taken_least (λ k. P k ⊎ HasName k t.lit.parts) from (least_part from o t.lit.parts) ts (part_least P from o t.lit.parts h))
  where
    out : (k : ℕ) → (P k ⊎ HasName k t.lit.parts) ⊎ Occurs k ts → P k ⊎ Occurs k (t ∷ ts)
    out k (inl (inl x)) = inl x
    out k (inl (inr e)) = inr (inl e)
    out k (inr q) = inr (inr q)

    back : (k : ℕ) → P k ⊎ Occurs k (t ∷ ts) → (P k ⊎ HasName k t.lit.parts) ⊎ Occurs k ts
    back k (inl x) = inl (inl x)
    back k (inr (inl e)) = inl (inr e)
    back k (inr (inr q)) = inr q

pub name_least : (from : ℕ) (ts : List Taken) → IsLeast (λ k. Occurs k ts) from (least_name from None ts)
name_least from ts =
    same_set (λ k. ⊥ ⊎ Occurs k ts) (λ k. Occurs k ts) from (least_name from None ts) out (λ k q. inr q)
    (taken_least (λ _. ⊥) from None ts (λ k p _. p))
  where
    out : (k : ℕ) → ⊥ ⊎ Occurs k ts → Occurs k ts
    out k (inl p) = absurd p
    out k (inr q) = q
