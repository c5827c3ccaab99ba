-- Runs of bytes of one class, and the gap in front of a token.
use Rattle.std.proofs.Common.{◌≡◌, ℕ, ◌+◌, ◌≤◌, Bool, true, false, ◌&&◌, ◌||◌, cond, List, [], ◌∷◌, length, take, refl, arith}
use Rattle.std.specs.Prelude.{if◌then◌else◌, ◌==◌}
use Rattle.std.specs.List.{prefix_len, list_all}
use Rattle.std.proofs.Math.Numerals.{one-add}
use Rattle.hp_text.specs.Bytes.{is_blank}
use Rattle.hp_text.specs.Tokens.{gap, comment}

pub both_true : (a b : Bool) → (a && b) ≡ true → (a ≡ true) × (b ≡ true)
both_true true b e = (refl, e)
both_true false b e = absurd (cc)

pub both : (a b : Bool) → a ≡ true → b ≡ true → (a && b) ≡ true
both true b e f = f
both false b e f = absurd (cc)

pub or_left : (a b : Bool) → a ≡ true → (a || b) ≡ true
or_left true b e = refl
or_left false b e = absurd (cc)

run_at : (p : ℕ → Bool) (x : ℕ) (xs : List ℕ) (v : Bool) → p x ≡ v → list_all p (take (prefix_len p xs) xs) ≡ true → list_all p (take (cond v (1 + prefix_len p xs) 0) (x ∷ xs)) ≡ true
run_at p x xs true e h = rw one-add (both (p x) _ e h)
run_at p x xs false e h = refl

-- the bytes of a run are of its class
pub run_passes : (p : ℕ → Bool) (xs : List ℕ) → list_all p (take (prefix_len p xs) xs) ≡ true
run_passes p [] = refl
run_passes p (x ∷ xs) = run_at p x xs (p x) refl (run_passes p xs)

-- a run whose first byte is of the class
pub run_begins : (p : ℕ → Bool) (x : ℕ) (xs : List ℕ) → p x ≡ true → prefix_len p (x ∷ xs) ≡ 1 + prefix_len p xs
run_begins p x xs e = rw e refl

choice_le : (v : Bool) (a b n : ℕ) → a ≤ n → b ≤ n → (if v then a else b) ≤ n
choice_le true a b n p q = p
choice_le false a b n p q = q

mutual
  pub gap_within : (bytes : List ℕ) → gap bytes ≤ length bytes
  gap_within [] = omega arith
  gap_within (b ∷ bs) = choice_le (b == 35) _ _ _ (omega (arith, comment_within bs)) (choice_le (is_blank b) _ _ _ (omega (arith, gap_within bs)) (omega arith))

  comment_within : (bytes : List ℕ) → comment bytes ≤ length bytes
  comment_within [] = omega arith
  comment_within (b ∷ bs) = let rest = choice_le (b == 10) (gap bs) (comment bs) (length bs) (gap_within bs) (comment_within bs) in omega arith
