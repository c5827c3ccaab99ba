-- The check of a conflict goes along its equalities.
use Rattle.std.proofs.Common.{◌≡◌, ℕ, ◌+◌, ◌<◌, ◌⊎◌, inl, inr, sym, ap, subst, List, ◌∷◌, length, drop, get_or, Option, add-one}
use Rattle.std.proofs.Math.Seq.{drop-cons}
use Rattle.hp_lit.specs.declared.literal.Name.{Name}
use Rattle.hp_lit.specs.declared.literal.PtrLit.{PtrLit}
use Rattle.hp_lit.specs.declared.literal.Lit.{Lit}
use Rattle.hp_lit.specs.Pointers.{Joins, JoinsAll}

-- an equality leads from a side to one other
one_end : (path : List Lit) (n : ℕ) (a c d : Option Name) → Joins path n a c → Joins path n a d → c ≡ d
one_end path n a c d h k =
    let p = h.at.1 in let q = k.at.1 in
    let e : h.lit ≡ k.lit = cc in
    go h.lit k.lit h.ends k.ends (ap (λ l. l.left) e) (ap (λ l. l.right) e)
  where
    go : (l m : PtrLit) → ((l.left ≡ a) × (l.right ≡ c)) ⊎ ((l.right ≡ a) × (l.left ≡ c)) → ((m.left ≡ a) × (m.right ≡ d)) ⊎ ((m.right ≡ a) × (m.left ≡ d))
        → l.left ≡ m.left → l.right ≡ m.right → c ≡ d
    go l m (inl u) (inl w) e f = let u0 = u.0 in let u1 = u.1 in let w0 = w.0 in let w1 = w.1 in cc
    go l m (inl u) (inr w) e f = let u0 = u.0 in let u1 = u.1 in let w0 = w.0 in let w1 = w.1 in cc
    go l m (inr u) (inl w) e f = let u0 = u.0 in let u1 = u.1 in let w0 = w.0 in let w1 = w.1 in cc
    go l m (inr u) (inr w) e f = let u0 = u.0 in let u1 = u.1 in let w0 = w.0 in let w1 = w.1 in cc

drop_at : (links : List ℕ) (i d : ℕ) → i < length links → drop i links ≡ get_or links i d ∷ drop (i + 1) links
drop_at links i d h = rw add-one (drop-cons links i d h)

pub joins_none : (path : List Lit) (links : List ℕ) (i d : ℕ) (a b : Option Name) → i < length links → ((c : Option Name) → Joins path (get_or links i d) a c → ⊥) → JoinsAll path a (drop i links) b → ⊥
joins_none path links i d a b h none k = let w = subst (λ q. JoinsAll path a q b) (drop_at links i d h) k in none w.0 w.1

pub joins_step : (path : List Lit) (links : List ℕ) (i d : ℕ) (a b c : Option Name) → i < length links → Joins path (get_or links i d) a c
    → (JoinsAll path a (drop i links) b → JoinsAll path c (drop (i + 1) links) b) × (JoinsAll path c (drop (i + 1) links) b → JoinsAll path a (drop i links) b)
joins_step path links i d a b c h j = (
  λ k. (let w = subst (λ q. JoinsAll path a q b) (drop_at links i d h) k in subst (λ s. JoinsAll path s (drop (i + 1) links) b) (one_end path (get_or links i d) a w.0 c w.1 j) w.2),
  λ k. subst (λ q. JoinsAll path a q b) (sym (drop_at links i d h)) (c, j, k),
)
