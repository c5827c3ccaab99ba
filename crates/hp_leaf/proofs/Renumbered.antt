-- Evidence over some literals of a path, once each literal has its number along the path, is evidence over the path.
use Rattle.std.proofs.Common.{◌≡◌, ℕ, zero, suc, ◌-◌, ◌+◌, ◌<◌, ◌≤◌, sym, ap, subst, arith, List, [], ◌∷◌, Option, Some, cond, false, nat_eq}
use Rattle.std.specs.Prelude.{slice_get, slice_index_or}
use Rattle.hp_lit.specs.declared.literal.IdxLit.{IdxLit}
use Rattle.hp_lit.specs.declared.literal.Lit.{Lit}
use Rattle.hp_lit.specs.declared.literal.Name.{Name}
use Rattle.hp_lit.specs.declared.literal.Lit.TheVariants.{Num, Idx, Ptr}
use Rattle.hp_lit.specs.declared.proof.Share.{Share}
use Rattle.hp_lit.specs.declared.proof.Step.{Step}
use Rattle.hp_lit.specs.Cycle.{AreRowsOf, IsLit, IsRowOf, IsValidIdx}
use Rattle.hp_lit.specs.Leaf.{AreTaken, IsRising, IsValidNum, Taken}
use Rattle.hp_lit.specs.Pointers.{IsValidPtr, Joins, JoinsAll}
use Rattle.hp_leaf.specs.Renumbered.{RenumberingKeepsLeaves, Stands, StandsFrom, place_at, renumbered_links, renumbered_shares, renumbered_step, renumbered_steps}

-- ---- one literal, counted from 0
-- the k-th literal stands at the k-th place, which is no less than the number that the places rise from
stands_at : (n : ℕ) (path lits : List Lit) (places : List ℕ) (k : ℕ) (l : Lit) → StandsFrom n path lits places → slice_get lits k ≡ Some l
    → (n ≤ slice_index_or places k 0) × IsLit path (slice_index_or places k 0) l
stands_at n path [] [] k l s h = cc
stands_at n path [] (p ∷ ps) k l s h = absurd s
stands_at n path (m ∷ ms) [] k l s h = absurd s
stands_at n path (m ∷ ms) (p ∷ ps) zero l s h =
    let e : m ≡ l = cc in
    (s.0, subst (λ x. IsLit path p x) e s.1)
stands_at n path (m ∷ ms) (p ∷ ps) (suc k) l s h =
    let r = stands_at (p + 1) path ms ps k l s.2 h in
    (omega (arith, s.0, r.0), r.1)

-- of two literals the later one stands at the greater place
rises : (n : ℕ) (path lits : List Lit) (places : List ℕ) (j k : ℕ) (l m : Lit) → StandsFrom n path lits places → slice_get lits j ≡ Some l → slice_get lits k ≡ Some m → j < k
    → slice_index_or places j 0 < slice_index_or places k 0
rises n path [] [] j k l m s g h b = cc
rises n path [] (p ∷ ps) j k l m s g h b = absurd s
rises n path (x ∷ xs) [] j k l m s g h b = absurd s
rises n path (x ∷ xs) (p ∷ ps) j zero l m s g h b = absurd (omega arith)
rises n path (x ∷ xs) (p ∷ ps) zero (suc k) l m s g h b = let r = stands_at (p + 1) path xs ps k m s.2 h in omega (arith, r.0)
rises n path (x ∷ xs) (p ∷ ps) (suc j) (suc k) l m s g h b = rises (p + 1) path xs ps j k l m s.2 g h (omega arith)

-- ---- counted from 1
place_is : (places : List ℕ) (n : ℕ) → 1 ≤ n → place_at places n ≡ slice_index_or places (n - 1) 0
place_is places n b =
    let e : nat_eq n 0 ≡ false = grind arith in
    ap (λ t. cond t 0 (slice_index_or places (n - 1) 0)) e

-- a literal among those that stand in the path is one of the path, with the number of its place
pub lit_placed : (path lits : List Lit) (places : List ℕ) (n : ℕ) (l : Lit) → Stands path lits places → IsLit lits n l → IsLit path (place_at places n) l
lit_placed path lits places n l s at =
    subst (λ p. IsLit path p l) (sym (place_is places n at.0)) (stands_at 0 path lits places (n - 1) l s at.1).1

-- the order of numbers is that of places
pub places_rise : (path lits : List Lit) (places : List ℕ) (j k : ℕ) (l m : Lit) → Stands path lits places → IsLit lits j l → IsLit lits k m → j < k → place_at places j < place_at places k
places_rise path lits places j k l m s at_j at_k b =
    let r = rises 0 path lits places (j - 1) (k - 1) l m s at_j.1 at_k.1 (omega (arith, at_j.0, at_k.0, b)) in
    omega (arith, r, place_is places j at_j.0, place_is places k at_k.0)

-- ---- combinations
taken_placed : (path lits : List Lit) (places : List ℕ) (ss : List Share) (ts : List Taken) → Stands path lits places → AreTaken lits ss ts → AreTaken path (renumbered_shares places ss) ts
taken_placed path lits places [] [] s h = tt
taken_placed path lits places [] (t ∷ ts) s h = absurd h
taken_placed path lits places (c ∷ cs) [] s h = absurd h
taken_placed path lits places (c ∷ cs) (t ∷ ts) s h =
    ((lit_placed path lits places c.lit (Num t.lit) s h.0.0, h.0.1, h.0.2), taken_placed path lits places cs ts s h.1)

rising_placed : (path lits : List Lit) (places : List ℕ) (ss : List Share) (ts : List Taken) → Stands path lits places → AreTaken lits ss ts → IsRising ss → IsRising (renumbered_shares places ss)
rising_placed path lits places [] ts s h r = tt
rising_placed path lits places (c ∷ []) ts s h r = tt
rising_placed path lits places (c ∷ d ∷ cs) [] s h r = absurd h
rising_placed path lits places (c ∷ d ∷ cs) (t ∷ []) s h r = absurd h.1
rising_placed path lits places (c ∷ d ∷ cs) (t ∷ u ∷ ts) s h r =
    (places_rise path lits places c.lit d.lit (Num t.lit) (Num u.lit) s h.0.0 h.1.0.0 r.0, rising_placed path lits places (d ∷ cs) (u ∷ ts) s h.1 r.1)

-- a combination of literals that stand in the path is one of the path
pub num_placed : (path lits : List Lit) (places : List ℕ) (shares : List Share) → Stands path lits places → IsValidNum lits shares → IsValidNum path (renumbered_shares places shares)
num_placed path lits places shares s v = record {
  taken = v.taken;
  are_taken = taken_placed path lits places shares v.taken s v.are_taken;
  rising = rising_placed path lits places shares v.taken s v.are_taken v.rising;
  nothing = v.nothing;
  bound = v.bound;
}

-- ---- cycles
row_placed : (path lits : List Lit) (places : List ℕ) (c : Step) (r : IdxLit) → Stands path lits places → IsRowOf lits c r → IsRowOf path (renumbered_step places c) r
row_placed path lits places c r s h = record {
  lit = h.lit;
  at = lit_placed path lits places c.lit (Idx h.lit) s h.at;
  may = h.may;
  same = h.same;
}

rows_placed : (path lits : List Lit) (places : List ℕ) (ss : List Step) (rs : List IdxLit) → Stands path lits places → AreRowsOf lits ss rs → AreRowsOf path (renumbered_steps places ss) rs
rows_placed path lits places [] [] s h = tt
rows_placed path lits places [] (r ∷ rs) s h = absurd h
rows_placed path lits places (c ∷ cs) [] s h = absurd h
rows_placed path lits places (c ∷ cs) (r ∷ rs) s h = (row_placed path lits places c r s h.0, rows_placed path lits places cs rs s h.1)

-- a cycle over literals that stand in the path is one over the path
pub idx_placed : (path lits : List Lit) (places : List ℕ) (steps : List Step) → Stands path lits places → IsValidIdx lits steps → IsValidIdx path (renumbered_steps places steps)
idx_placed path lits places steps s v = record {
  rows = v.rows;
  are_rows = rows_placed path lits places steps v.rows s v.are_rows;
  start = v.start;
  cycle = v.cycle;
  below = v.below;
}

-- ---- conflicts of pointers
join_placed : (path lits : List Lit) (places : List ℕ) (n : ℕ) (a b : Option Name) → Stands path lits places → Joins lits n a b → Joins path (place_at places n) a b
join_placed path lits places n a b s h = record {
  lit = h.lit;
  at = lit_placed path lits places n (Ptr h.lit) s h.at;
  same = h.same;
  ends = h.ends;
}

joins_placed : (path lits : List Lit) (places : List ℕ) (a b : Option Name) (ns : List ℕ) → Stands path lits places → JoinsAll lits a ns b → JoinsAll path a (renumbered_links places ns) b
joins_placed path lits places a b [] s h = h
joins_placed path lits places a b (n ∷ ns) s h = (h.0, join_placed path lits places n a h.0 s h.1, joins_placed path lits places h.0 b ns s h.2)

-- a conflict over literals that stand in the path is one over the path
pub ptr_placed : (path lits : List Lit) (places : List ℕ) (ne : ℕ) (links : List ℕ) → Stands path lits places → IsValidPtr lits ne links → IsValidPtr path (place_at places ne) (renumbered_links places links)
ptr_placed path lits places ne links s v = record {
  lit = v.lit;
  at = lit_placed path lits places ne (Ptr v.lit) s v.at;
  apart = v.apart;
  joined = joins_placed path lits places v.lit.left v.lit.right links s v.joined;
}

pub renumbering_keeps_leaves : RenumberingKeepsLeaves
renumbering_keeps_leaves = record { num = num_placed; idx = idx_placed; ptr = ptr_placed }
