-- The literals of each sort as they are taken one by one, and that they stand in the path.
use Rattle.std.proofs.Common.{◌≡◌, ℕ, zero, suc, ◌+◌, ◌-◌, ◌<◌, ◌≤◌, ◌++◌, refl, sym, ◌∙◌, subst, arith, List, [], ◌∷◌, length, map, drop, get_or, append_assoc, Some}
use Rattle.std.specs.Prelude.{slice_get}
use Rattle.std.proofs.lemmas.List.{append-nil, drop_all, drop_more}
use Rattle.hp_lit.specs.declared.literal.IdxLit.{IdxLit}
use Rattle.hp_lit.specs.declared.literal.NumLit.{NumLit}
use Rattle.hp_lit.specs.declared.literal.PtrLit.{PtrLit}
use Rattle.hp_lit.specs.declared.literal.Lit.{Lit}
use Rattle.hp_lit.specs.declared.literal.Lit.TheVariants.{Num, Idx, Ptr}
use Rattle.hp_lit.specs.Cycle.{IsLit}
use Rattle.hp_leaf.specs.Renumbered.{Stands, StandsFrom}
use Rattle.hp_path.specs.declared.parting.Parts.{Parts}
use Rattle.hp_path.specs.Kinds.{idx_lits, num_lits, ptr_lits}
use Rattle.hp_path.specs.Parted.{AreParts, idx_places, num_places, ptr_places}

-- the parts so far, with those of the literals from number n + 1 on behind them, are those of all literals
pub record ArePartsTo (lits : List Lit) (n : ℕ) (p : Parts) : Type 0 where
  pub rows : p.rows ++ idx_lits (drop n lits) ≡ idx_lits lits
  pub row_places : p.row_places ++ idx_places (n + 1) (drop n lits) ≡ idx_places 1 lits
  pub nums : p.nums ++ num_lits (drop n lits) ≡ num_lits lits
  pub num_places : p.num_places ++ num_places (n + 1) (drop n lits) ≡ num_places 1 lits
  pub pairs : p.pairs ++ ptr_lits (drop n lits) ≡ ptr_lits lits
  pub pair_places : p.pair_places ++ ptr_places (n + 1) (drop n lits) ≡ ptr_places 1 lits

pub none_yet : (lits : List Lit) → ArePartsTo lits 0 (record { rows = []; row_places = []; nums = []; num_places = []; pairs = []; pair_places = [] })
none_yet lits = record { rows = refl; row_places = refl; nums = refl; num_places = refl; pairs = refl; pair_places = refl }

pub all_taken : (lits : List Lit) (n : ℕ) (p : Parts) → length lits ≤ n → ArePartsTo lits n p → AreParts lits p
all_taken lits n p l h =
    let e = drop_all n lits l in
    record {
      rows = sym (append-nil p.rows) ∙ (λ i. p.rows ++ idx_lits (sym e i)) ∙ h.rows;
      row_places = sym (append-nil p.row_places) ∙ (λ i. p.row_places ++ idx_places (n + 1) (sym e i)) ∙ h.row_places;
      nums = sym (append-nil p.nums) ∙ (λ i. p.nums ++ num_lits (sym e i)) ∙ h.nums;
      num_places = sym (append-nil p.num_places) ∙ (λ i. p.num_places ++ num_places (n + 1) (sym e i)) ∙ h.num_places;
      pairs = sym (append-nil p.pairs) ∙ (λ i. p.pairs ++ ptr_lits (sym e i)) ∙ h.pairs;
      pair_places = sym (append-nil p.pair_places) ∙ (λ i. p.pair_places ++ ptr_places (n + 1) (sym e i)) ∙ h.pair_places;
    }

module _ (lits : List Lit) (n : ℕ) (p : Parts) (l : n < length lits) (h : ArePartsTo lits n p) where
  rest : (x : Lit) → x ≡ get_or lits n x → drop n lits ≡ x ∷ drop (n + 1) lits
  rest x e = drop_more lits n x l ∙ (λ i. sym e i ∷ drop (n + 1) lits)

  pub num_taken : (x : NumLit) (place : ℕ) → Num x ≡ get_or lits n (Num x) → place ≡ n + 1
      → ArePartsTo lits (n + 1) (record { rows = p.rows; row_places = p.row_places; nums = p.nums ++ x ∷ []; num_places = p.num_places ++ place ∷ []; pairs = p.pairs; pair_places = p.pair_places })
  num_taken x place e f =
      let d = rest (Num x) e in
      let ls = drop (n + 1) lits in
      record {
        rows = (λ i. p.rows ++ idx_lits (sym d i)) ∙ h.rows;
        row_places = (λ i. p.row_places ++ idx_places (n + 1) (sym d i)) ∙ h.row_places;
        nums = append_assoc p.nums (x ∷ []) (num_lits ls) ∙ (λ i. p.nums ++ num_lits (sym d i)) ∙ h.nums;
        num_places = append_assoc p.num_places (place ∷ []) (num_places (n + 1 + 1) ls) ∙ (λ i. p.num_places ++ f i ∷ num_places (n + 1 + 1) ls) ∙ (λ i. p.num_places ++ num_places (n + 1) (sym d i)) ∙ h.num_places;
        pairs = (λ i. p.pairs ++ ptr_lits (sym d i)) ∙ h.pairs;
        pair_places = (λ i. p.pair_places ++ ptr_places (n + 1) (sym d i)) ∙ h.pair_places;
      }

  pub row_taken : (x : IdxLit) (place : ℕ) → Idx x ≡ get_or lits n (Idx x) → place ≡ n + 1
      → ArePartsTo lits (n + 1) (record { rows = p.rows ++ x ∷ []; row_places = p.row_places ++ place ∷ []; nums = p.nums; num_places = p.num_places; pairs = p.pairs; pair_places = p.pair_places })
  row_taken x place e f =
      let d = rest (Idx x) e in
      let ls = drop (n + 1) lits in
      record {
        rows = append_assoc p.rows (x ∷ []) (idx_lits ls) ∙ (λ i. p.rows ++ idx_lits (sym d i)) ∙ h.rows;
        row_places = append_assoc p.row_places (place ∷ []) (idx_places (n + 1 + 1) ls) ∙ (λ i. p.row_places ++ f i ∷ idx_places (n + 1 + 1) ls) ∙ (λ i. p.row_places ++ idx_places (n + 1) (sym d i)) ∙ h.row_places;
        nums = (λ i. p.nums ++ num_lits (sym d i)) ∙ h.nums;
        num_places = (λ i. p.num_places ++ num_places (n + 1) (sym d i)) ∙ h.num_places;
        pairs = (λ i. p.pairs ++ ptr_lits (sym d i)) ∙ h.pairs;
        pair_places = (λ i. p.pair_places ++ ptr_places (n + 1) (sym d i)) ∙ h.pair_places;
      }

  pub pair_taken : (x : PtrLit) (place : ℕ) → Ptr x ≡ get_or lits n (Ptr x) → place ≡ n + 1
      → ArePartsTo lits (n + 1) (record { rows = p.rows; row_places = p.row_places; nums = p.nums; num_places = p.num_places; pairs = p.pairs ++ x ∷ []; pair_places = p.pair_places ++ place ∷ [] })
  pair_taken x place e f =
      let d = rest (Ptr x) e in
      let ls = drop (n + 1) lits in
      record {
        rows = (λ i. p.rows ++ idx_lits (sym d i)) ∙ h.rows;
        row_places = (λ i. p.row_places ++ idx_places (n + 1) (sym d i)) ∙ h.row_places;
        nums = (λ i. p.nums ++ num_lits (sym d i)) ∙ h.nums;
        num_places = (λ i. p.num_places ++ num_places (n + 1) (sym d i)) ∙ h.num_places;
        pairs = append_assoc p.pairs (x ∷ []) (ptr_lits ls) ∙ (λ i. p.pairs ++ ptr_lits (sym d i)) ∙ h.pairs;
        pair_places = append_assoc p.pair_places (place ∷ []) (ptr_places (n + 1 + 1) ls) ∙ (λ i. p.pair_places ++ f i ∷ ptr_places (n + 1 + 1) ls) ∙ (λ i. p.pair_places ++ ptr_places (n + 1) (sym d i)) ∙ h.pair_places;
      }

-- ---- where they stand
at_drop : (path : List Lit) (k : ℕ) (l : Lit) (ls : List Lit) → drop k path ≡ l ∷ ls → (slice_get path k ≡ Some l) × (drop (suc k) path ≡ ls)
at_drop [] zero l ls d = absurd (let z : [] ≡ l ∷ ls = d in cc)
at_drop [] (suc k) l ls d = absurd (let z : [] ≡ l ∷ ls = d in cc)
at_drop (x ∷ xs) zero l ls d = (let z : x ∷ xs ≡ l ∷ ls = d in cc, let z : x ∷ xs ≡ l ∷ ls = d in cc)
at_drop (x ∷ xs) (suc k) l ls d = at_drop xs k l ls d

is_lit : (path : List Lit) (k n : ℕ) (l : Lit) → n ≡ suc k → slice_get path k ≡ Some l → IsLit path n l
is_lit path k n l e h = (omega arith, subst (λ j. slice_get path j ≡ Some l) (let z : k ≡ n - 1 = omega arith in z) h)

nums_from : (path : List Lit) (k n m : ℕ) (ls : List Lit) → n ≡ suc k → m ≤ n → drop k path ≡ ls → StandsFrom m path (map Num (num_lits ls)) (num_places n ls)
nums_from path k n m [] e b d = tt
nums_from path k n m (Num l ∷ ls) e b d =
    let g = at_drop path k (Num l) ls d in
    (b, is_lit path k n (Num l) e g.0, nums_from path (suc k) (n + 1) (n + 1) ls (omega arith) (omega arith) g.1)
nums_from path k n m (Idx r ∷ ls) e b d = nums_from path (suc k) (n + 1) m ls (omega arith) (omega arith) (at_drop path k (Idx r) ls d).1
nums_from path k n m (Ptr l ∷ ls) e b d = nums_from path (suc k) (n + 1) m ls (omega arith) (omega arith) (at_drop path k (Ptr l) ls d).1

rows_from : (path : List Lit) (k n m : ℕ) (ls : List Lit) → n ≡ suc k → m ≤ n → drop k path ≡ ls → StandsFrom m path (map Idx (idx_lits ls)) (idx_places n ls)
rows_from path k n m [] e b d = tt
rows_from path k n m (Num l ∷ ls) e b d = rows_from path (suc k) (n + 1) m ls (omega arith) (omega arith) (at_drop path k (Num l) ls d).1
rows_from path k n m (Idx r ∷ ls) e b d =
    let g = at_drop path k (Idx r) ls d in
    (b, is_lit path k n (Idx r) e g.0, rows_from path (suc k) (n + 1) (n + 1) ls (omega arith) (omega arith) g.1)
rows_from path k n m (Ptr l ∷ ls) e b d = rows_from path (suc k) (n + 1) m ls (omega arith) (omega arith) (at_drop path k (Ptr l) ls d).1

pairs_from : (path : List Lit) (k n m : ℕ) (ls : List Lit) → n ≡ suc k → m ≤ n → drop k path ≡ ls → StandsFrom m path (map Ptr (ptr_lits ls)) (ptr_places n ls)
pairs_from path k n m [] e b d = tt
pairs_from path k n m (Num l ∷ ls) e b d = pairs_from path (suc k) (n + 1) m ls (omega arith) (omega arith) (at_drop path k (Num l) ls d).1
pairs_from path k n m (Idx r ∷ ls) e b d = pairs_from path (suc k) (n + 1) m ls (omega arith) (omega arith) (at_drop path k (Idx r) ls d).1
pairs_from path k n m (Ptr l ∷ ls) e b d =
    let g = at_drop path k (Ptr l) ls d in
    (b, is_lit path k n (Ptr l) e g.0, pairs_from path (suc k) (n + 1) (n + 1) ls (omega arith) (omega arith) g.1)

pub nums_stand : (path : List Lit) → Stands path (map Num (num_lits path)) (num_places 1 path)
nums_stand path = nums_from path 0 1 0 path refl (omega arith) refl

pub rows_stand : (path : List Lit) → Stands path (map Idx (idx_lits path)) (idx_places 1 path)
rows_stand path = rows_from path 0 1 0 path refl (omega arith) refl

pub pairs_stand : (path : List Lit) → Stands path (map Ptr (ptr_lits path)) (ptr_places 1 path)
pairs_stand path = pairs_from path 0 1 0 path refl (omega arith) refl
