-- A text that begins with what stood there, behind pieces that were put at its end.
use Rattle.std.proofs.Common.{◌≡◌, ℕ, List, ◌++◌, Result, Ok, Err, OnErr}
use Rattle.std.specs.Io.{StartsWith}
use Rattle.std.proofs.Transfers.{starts_with_of_append, starts_with_trans}

pub behind_one : (old a one : List ℕ) → one ≡ old ++ a → StartsWith one old
behind_one old a one e = starts_with_of_append one old a e

pub behind_two : (old a b one two : List ℕ) → one ≡ old ++ a → two ≡ one ++ b → StartsWith two old
behind_two old a b one two e f = starts_with_trans two one old (behind_one one b two f) (behind_one old a one e)

pub behind_three : (old a b c one two three : List ℕ) → one ≡ old ++ a → two ≡ one ++ b → three ≡ two ++ c → StartsWith three old
behind_three old a b c one two three e f g = starts_with_trans three two old (behind_one two c three g) (behind_two old a b one two e f)

pub behind_four : (old a b c d one two three four : List ℕ) → one ≡ old ++ a → two ≡ one ++ b → three ≡ two ++ c → four ≡ three ++ d → StartsWith four old
behind_four old a b c d one two three four e f g h = starts_with_trans four three old (behind_one three d four h) (behind_three old a b c one two three e f g)

-- what a call kept that failed, behind pieces before it
pub kept_on : {A E : Type 0} (r : Result A E) (old mid new : List ℕ) → StartsWith mid old → OnErr r (StartsWith new mid) → OnErr r (StartsWith new old)
kept_on (Ok x) old mid new s k = tt
kept_on (Err e) old mid new s k = starts_with_trans new mid old k s

pub kept_at : {A E : Type 0} (r : Result A E) (old mid new : List ℕ) → StartsWith mid old → StartsWith new mid → OnErr r (StartsWith new old)
kept_at (Ok x) old mid new s k = tt
kept_at (Err e) old mid new s k = starts_with_trans new mid old k s
