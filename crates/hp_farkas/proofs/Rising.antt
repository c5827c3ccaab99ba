-- The test of a combination's form goes down its shares.
use Rattle.std.proofs.Common.{◌≡◌, ℕ, ◌+◌, ◌<◌, sym, subst, List, [], ◌∷◌, length, drop, get_or, add-one}
use Rattle.std.proofs.Math.Seq.{drop-cons}
use Rattle.hp_lit.specs.declared.literal.Lit.{Lit}
use Rattle.hp_lit.specs.declared.proof.Share.{Share}
use Rattle.hp_lit.specs.Leaf.{Taken, IsTaken, AreTaken, IsRising}
use Rattle.hp_farkas.specs.Form.{IsCombination}

-- the numbers of the literals rise, and begin above n
abbrev pub RisesAbove : ℕ → List Share → Type 0
RisesAbove n [] = Unit {0}
RisesAbove n (s ∷ ss) = (n < s.lit) × RisesAbove s.lit ss

rising_of : (n : ℕ) (ss : List Share) → RisesAbove n ss → IsRising ss
rising_of n [] h = tt
rising_of n (s ∷ []) h = tt
rising_of n (s ∷ t ∷ ss) h = (h.1.0, rising_of s.lit (t ∷ ss) h.1)

rises_of : (s : Share) (ss : List Share) → IsRising (s ∷ ss) → RisesAbove s.lit ss
rises_of s [] h = tt
rises_of s (t ∷ ss) h = (h.0, rises_of t ss h.1)

pub record IsCombinationAbove (path : List Lit) (n : ℕ) (shares : List Share) : Type 0 where
  pub taken : List Taken
  pub are_taken : AreTaken path shares taken
  pub rises : RisesAbove n shares

-- ---- numbers count from 1
pub from_zero : (path : List Lit) (shares : List Share) → IsCombination path shares → IsCombinationAbove path 0 shares
from_zero path shares h = go shares h.taken h.are_taken h.rising
  where
    go : (shares : List Share) (ts : List Taken) → AreTaken path shares ts → IsRising shares → IsCombinationAbove path 0 shares
    go [] [] a r = record { taken = []; are_taken = tt; rises = tt }
    go [] (t ∷ ts) a r = absurd a
    go (s ∷ ss) [] a r = absurd a
    go (s ∷ ss) (t ∷ ts) a r = record { taken = t ∷ ts; are_taken = a; rises = (a.0.0.0, rises_of s ss r) }

pub to_zero : (path : List Lit) (shares : List Share) → IsCombinationAbove path 0 shares → IsCombination path shares
to_zero path shares h = record { taken = h.taken; are_taken = h.are_taken; rising = rising_of 0 shares h.rises }

-- ---- one share
pub record FirstShare (path : List Lit) (n : ℕ) (s : Share) (ss : List Share) : Type 0 where
  pub above : n < s.lit
  pub first : Taken
  pub is_taken : IsTaken path s first
  pub rest : IsCombinationAbove path s.lit ss

share_in : (path : List Lit) (n : ℕ) (s : Share) (ss : List Share) → IsCombinationAbove path n (s ∷ ss) → FirstShare path n s ss
share_in path n s ss h = go h.taken h.are_taken
  where
    go : (ts : List Taken) → AreTaken path (s ∷ ss) ts → FirstShare path n s ss
    go [] a = absurd a
    go (t ∷ ts) a = record { above = h.rises.0; first = t; is_taken = a.0; rest = record { taken = ts; are_taken = a.1; rises = h.rises.1 } }

share_out : (path : List Lit) (n : ℕ) (s : Share) (ss : List Share) → n < s.lit → (t : Taken) → IsTaken path s t → IsCombinationAbove path s.lit ss → IsCombinationAbove path n (s ∷ ss)
share_out path n s ss l t i h = record { taken = t ∷ h.taken; are_taken = (i, h.are_taken); rises = (l, h.rises) }

-- ---- at a place of a loop over the shares
pub drop_at : (shares : List Share) (i : ℕ) (d : Share) → i < length shares → drop i shares ≡ get_or shares i d ∷ drop (i + 1) shares
drop_at shares i d h = rw add-one (drop-cons shares i d h)

pub loop_in : (path : List Lit) (n : ℕ) (shares : List Share) (i : ℕ) (d : Share) → i < length shares
    → IsCombinationAbove path n (drop i shares) → FirstShare path n (get_or shares i d) (drop (i + 1) shares)
loop_in path n shares i d h k = share_in path n (get_or shares i d) (drop (i + 1) shares) (subst (IsCombinationAbove path n) (drop_at shares i d h) k)

pub loop_out : (path : List Lit) (n : ℕ) (shares : List Share) (i : ℕ) (d : Share) → i < length shares → n < (get_or shares i d).lit
    → (t : Taken) × IsTaken path (get_or shares i d) t → IsCombinationAbove path (get_or shares i d).lit (drop (i + 1) shares) → IsCombinationAbove path n (drop i shares)
loop_out path n shares i d h l t k = subst (IsCombinationAbove path n) (sym (drop_at shares i d h)) (share_out path n (get_or shares i d) (drop (i + 1) shares) l t.0 t.1 k)
