-- Tokens that are counted from counts within the limits: no limit is passed at any of them.
use Rattle.std.proofs.Common.{◌≡◌, ℕ, ◌+◌, ◌<◌, ◌≤◌, Bool, true, false, List, [], ◌∷◌, ◌++◌, Some, None, refl, subst, arith}
use Rattle.std.specs.Prelude.{if◌then◌else◌, nat_lt}
use Rattle.std.proofs.lemmas.Bool.{ltb-true}
use Rattle.hp_text.specs.declared.token.Kind.{Kind}
use Rattle.hp_text.specs.declared.token.Kind.TheVariants as kinds
use Rattle.hp_grammar.specs.declared.symbol.Symbol.{Symbol as Token}
use Rattle.hp_grammar.specs.declared.symbol.Symbol.TheVariants.{Word as word, Name as name, Numeral as numeral}
use Rattle.hp_grammar.specs.Token.{same}
use Rattle.hp_grammar.specs.declared.counts.Counts.{Counts}
use Rattle.hp_grammar.specs.Counts.{counts_of, one_sign, one_open, one_closed, behind_part, inside, new_atom, ends_atom, count_other, count_sign, count_word, count}
use Rattle.hp_grammar.specs.Runs.{runs}
use Rattle.hp_grammar.proofs.Machines.{bound, runs_split}

-- counts that a text within the limits may have come to
pub record IsBounded (c : Counts) : Type 0 where
  pub parentheses : c.open_round ≤ 64
  pub signs : c.signs ≤ 1023

-- a token behind which as many parentheses are open, and so many signs more are counted at least
pub record Steps (c a : Counts) (signs : ℕ) : Type 0 where
  pub parentheses : a.open_round ≡ c.open_round
  pub more : (c.signs + signs) ≤ a.signs
  pub bounded : IsBounded a

passed : (b : Bool) (x a : Counts) → (if b then Some x else None) ≡ Some a → (b ≡ true) × (x ≡ a)
passed true x a e = (refl, cc)
passed false x a e = absurd (cc)

pub sign_steps : (c a : Counts) → IsBounded c → one_sign c ≡ Some a → Steps c a 1
sign_steps c a b e =
    let p = passed (nat_lt c.signs 1023) (counts_of c.open_round (c.signs + 1) false) a e in
    let less : c.signs < 1023 = ltb-true c.signs 1023 p.0 in
    subst (λ z. Steps c z 1) p.1 (record { parentheses = refl; more = omega arith; bounded = record { parentheses = b.parentheses; signs = omega arith } })

-- one more parenthesis is open, and there is room for it
pub open_steps : (c a : Counts) → IsBounded c → one_open c ≡ Some a → (c.open_round < 64) × (a ≡ counts_of (c.open_round + 1) c.signs false)
open_steps c a b e =
    let p = passed (nat_lt c.open_round 64) (counts_of (c.open_round + 1) c.signs false) a e in
    (ltb-true c.open_round 64 p.0, (let is = p.1 in cc))

pub minus_steps : (b : Bool) (c a : Counts) → IsBounded c → (if b then one_sign c else Some c) ≡ Some a → Steps c a 0
minus_steps true c a h e = let s = sign_steps c a h e in record { parentheses = s.parentheses; more = omega (arith, s.more); bounded = s.bounded }
minus_steps false c a h e = let is : c ≡ a = cc in subst (λ z. Steps c z 0) is (record { parentheses = refl; more = omega arith; bounded = h })

-- ---- no token leads past the limits
open_bounded : (c a : Counts) → IsBounded c → one_open c ≡ Some a → IsBounded a
open_bounded c a b e =
    let o = open_steps c a b e in
    let is : counts_of (c.open_round + 1) c.signs false ≡ a = (let s = o.1 in cc) in
    subst IsBounded is (record { parentheses = omega (arith, o.0); signs = b.signs })

same_bounded : (x a : Counts) → IsBounded x → Some x ≡ Some a → IsBounded a
same_bounded x a b e = let is : x ≡ a = cc in subst IsBounded is b

closed_bounded : (c : Counts) → IsBounded c → IsBounded (one_closed c)
closed_bounded c b = record { parentheses = omega (arith, b.parentheses); signs = b.signs }

word_bounded : (k : Kind) (c a : Counts) → IsBounded c → count_word c k ≡ Some a → IsBounded a
unfolding same count_word count_sign count_other ends_atom
word_bounded kinds.OpenRound c a b e = open_bounded c a b e
word_bounded kinds.CloseRound c a b e = same_bounded (one_closed c) a (closed_bounded c b) e
word_bounded kinds.Plus c a b e = (sign_steps c a b e).bounded
word_bounded kinds.Minus c a b e = (minus_steps c.ended c a b e).bounded
word_bounded kinds.Null c a b e = same_bounded (behind_part c) a (record { parentheses = b.parentheses; signs = b.signs }) e
word_bounded kinds.And c a b e = same_bounded (new_atom c) a (record { parentheses = b.parentheses; signs = omega arith }) e
word_bounded kinds.Or c a b e = same_bounded (new_atom c) a (record { parentheses = b.parentheses; signs = omega arith }) e
word_bounded kinds.Arrow c a b e = same_bounded (new_atom c) a (record { parentheses = b.parentheses; signs = omega arith }) e
word_bounded kinds.Semicolon c a b e = same_bounded (new_atom c) a (record { parentheses = b.parentheses; signs = omega arith }) e
word_bounded k c a b e = same_bounded (inside c) a (record { parentheses = b.parentheses; signs = b.signs }) e

count_bounded : (t : Token) (c a : Counts) → IsBounded c → count c t ≡ Some a → IsBounded a
count_bounded (word k) c a b e = word_bounded k c a b e
count_bounded (name x) c a b e = same_bounded (behind_part c) a (record { parentheses = b.parentheses; signs = b.signs }) e
count_bounded (numeral n) c a b e = same_bounded (behind_part c) a (record { parentheses = b.parentheses; signs = b.signs }) e

pub runs_bounded : (u : List Token) (c d : Counts) → IsBounded c → runs count c u ≡ Some d → IsBounded d
runs_bounded [] c d b e = same_bounded c d b e
runs_bounded (t ∷ u) c d b e =
    let h = bound (count c t) (λ a. runs count a u) d e in
    runs_bounded u h.0 d (count_bounded t c h.0 b h.1) h.2

-- ---- tokens that are counted from somewhere within the limits
pub record IsCounted (u : List Token) : Type 0 where
  pub from : Counts
  pub to : Counts
  pub bounded : IsBounded from
  pub goes : runs count from u ≡ Some to

pub left_counted : (u v : List Token) → IsCounted (u ++ v) → IsCounted u
left_counted u v i =
    let r = runs_split count u v i.from i.to i.goes in
    record { from = i.from; to = r.0; bounded = i.bounded; goes = r.1 }

pub right_counted : (u v : List Token) → IsCounted (u ++ v) → IsCounted v
right_counted u v i =
    let r = runs_split count u v i.from i.to i.goes in
    record { from = r.0; to = i.to; bounded = runs_bounded u i.from r.0 i.bounded r.1; goes = r.2 }

pub rest_counted : (t : Token) (u : List Token) → IsCounted (t ∷ u) → IsCounted u
rest_counted t u i = right_counted (t ∷ []) u i

-- what stands behind a word
pub behind_counted : (k : Kind) (u v : List Token) → IsCounted (u ++ word k ∷ v) → IsCounted v
behind_counted k u v i = rest_counted (word k) v (right_counted u (word k ∷ v) i)
