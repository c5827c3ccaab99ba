-- The tokens of a derived term pass the limits wherever its text does.
use Rattle.std.proofs.Common.{◌≡◌, ℕ, ◌+◌, Bool, true, false, List, [], ◌∷◌, ◌++◌, refl, append-nil, arith}
use Rattle.std.specs.Prelude.{pos}
use Rattle.hp_math.specs.Rational.{ℚ, ratio}
use Rattle.hp_tree.specs.declared.term.Term.{Term}
use Rattle.hp_ast.specs.declared.printing.Place.{Place}
use Rattle.hp_ast.specs.declared.printing.Place.TheVariants.{Whole, Operand, Factor}
use Rattle.hp_text.specs.declared.token.Kind.TheVariants as kinds
use Rattle.hp_grammar.specs.declared.symbol.Symbol.{Symbol as Token}
use Rattle.hp_grammar.specs.declared.symbol.Symbol.TheVariants.{Word as word, Name as name, Numeral as numeral}
use Rattle.hp_grammar.specs.Token.{same}
use Rattle.hp_grammar.specs.Counts.{ends_atom, count_other, count_sign, count_word}
use Rattle.hp_grammar.specs.Tree.{number_of, null, named, apply, add, sub, neg, scale}
use Rattle.hp_grammar.specs.Grammar.{SpellsNumber, SpellsTerm, SpellsPart, SpellsFactor, SpellsTerms, whole, fraction, part, minus, sum, difference, number, product, factor, single, call, nothing, group, first, more}
use Rattle.hp_roundtrip.specs.inner.Printed.{tokens_at, frac_tokens}
use Rattle.hp_roundtrip.proofs.Joined.{join_by-append}
use Rattle.hp_roundtrip.proofs.Lowest.{is_low, low_tokens, tokens-low}
use Rattle.hp_roundtrip.proofs.Trees.{arguments_tokens, tokens-number_of, tokens-null, tokens-named, tokens-apply, tokens-add, tokens-sub, tokens-neg, tokens-scale}
use Rattle.hp_roundtrip.proofs.Deriving.{some_terms}
use Rattle.hp_roundtrip.proofs.Counting.{Follows, weaker, IsPlain, plain_follows, enclosed_follows, group_follows, call_follows, minus_follows, plus_sign, minus_sign, sign_follows, other_follows, star_other, comma_other}

-- how many parentheses the tokens of a tree have more than u, at each place
pub record IsMeasured (i j : ℕ) (u : List Token) (t : Term) : Type 0 where
  pub whole : Follows 0 u (tokens_at t Whole)
  pub operand : Follows i u (tokens_at t Operand)
  pub as_factor : Follows j u (tokens_at t Factor)

open_sum : (u v : List Token) (t : Term) → tokens_at t Whole ≡ v → tokens_at t Operand ≡ word kinds.OpenRound ∷ v ++ word kinds.CloseRound ∷ []
    → tokens_at t Factor ≡ word kinds.OpenRound ∷ v ++ word kinds.CloseRound ∷ [] → Follows 0 u v → IsMeasured 1 1 u t
open_sum u v t w o f h = record { whole = rw w h; operand = rw o (enclosed_follows u v h); as_factor = rw f (enclosed_follows u v h) }

open_product : (u v : List Token) (t : Term) → tokens_at t Whole ≡ v → tokens_at t Operand ≡ v
    → tokens_at t Factor ≡ word kinds.OpenRound ∷ v ++ word kinds.CloseRound ∷ [] → Follows 0 u v → IsMeasured 0 1 u t
open_product u v t w o f h = record { whole = rw w h; operand = rw o h; as_factor = rw f (enclosed_follows u v h) }

closed : (u v : List Token) (t : Term) → ((place : Place) → tokens_at t place ≡ v) → Follows 0 u v → IsMeasured 0 0 u t
closed u v t e h = record { whole = rw (e Whole) h; operand = rw (e Operand) h; as_factor = rw (e Factor) h }

-- ---- parts without parentheses
low_plain : (b : Bool) (m d : ℕ) → IsPlain (low_tokens b m d)
unfolding same count_word count_sign count_other ends_atom
low_plain true m d o s = refl
low_plain false m d o s = refl

number_measured : (u : List Token) (q : ℚ) → SpellsNumber u q → Follows 0 u (frac_tokens q)
number_measured u q (whole n) =
    let l = is_low n 1 (omega arith) in
    rw (tokens-low (ratio (pos n) 1) l.top l.is_top) (plain_follows (numeral n ∷ []) _ (low_plain true n 1) (low_plain _ l.top _))
number_measured u q (fraction n d p) =
    let l = is_low n d p in
    rw (tokens-low (ratio (pos n) d) l.top l.is_top) (plain_follows (numeral n ∷ word kinds.Slash ∷ numeral d ∷ []) _ (low_plain false n d) (low_plain _ l.top _))

name_plain : (x : List ℕ) → IsPlain (name x ∷ [])
name_plain x o s = refl

null_plain : IsPlain (word kinds.Null ∷ [])
unfolding same count_word count_sign count_other
null_plain o s = refl

mutual
  pub term_measured : (u : List Token) (t : Term) → SpellsTerm u t → IsMeasured 1 1 u t
  term_measured u t (part v a h) =
      let s = part_measured v a h in
      record { whole = s.whole; operand = weaker 0 1 v _ (omega arith) s.operand; as_factor = s.as_factor }
  term_measured u t (minus v a h) =
      let s = part_measured v a h in
      open_sum (word kinds.Minus ∷ v) _ (neg a) (tokens-neg a Whole) (tokens-neg a Operand) (tokens-neg a Factor) (minus_follows v _ s.operand)
  term_measured u t (sum v w a b g h) =
      let s = term_measured v a g in
      let r = part_measured w b h in
      open_sum (v ++ word kinds.Plus ∷ w) _ (add a b) (tokens-add a b Whole) (tokens-add a b Operand) (tokens-add a b Factor)
      (sign_follows kinds.Plus plus_sign v w _ _ s.whole r.operand)
  term_measured u t (difference v w a b g h) =
      let s = term_measured v a g in
      let r = part_measured w b h in
      open_sum (v ++ word kinds.Minus ∷ w) _ (sub a b) (tokens-sub a b Whole) (tokens-sub a b Operand) (tokens-sub a b Factor)
      (sign_follows kinds.Minus minus_sign v w _ _ s.whole r.operand)

  part_measured : (u : List Token) (t : Term) → SpellsPart u t → IsMeasured 0 1 u t
  part_measured u t (number v q h) =
      open_product v _ (number_of q) (tokens-number_of q Whole) (tokens-number_of q Operand) (tokens-number_of q Factor) (number_measured v q h)
  part_measured u t (product v w q a g h) =
      let s = factor_measured w a h in
      open_product (v ++ word kinds.Star ∷ w) _ (scale q a) (tokens-scale q a Whole) (tokens-scale q a Operand) (tokens-scale q a Factor)
      (other_follows kinds.Star star_other v w _ _ (number_measured v q g) s.as_factor)
  part_measured u t (factor v a h) =
      let s = factor_measured v a h in
      record { whole = s.whole; operand = s.operand; as_factor = weaker 0 1 v _ (omega arith) s.as_factor }

  factor_measured : (u : List Token) (t : Term) → SpellsFactor u t → IsMeasured 0 0 u t
  factor_measured u t (single n) = closed (name n ∷ []) _ (named n) (tokens-named n) (plain_follows _ _ (name_plain n) (name_plain n))
  factor_measured u t (call n v ts h) =
      closed (name n ∷ word kinds.OpenRound ∷ v ++ word kinds.CloseRound ∷ []) _ (apply n ts) (tokens-apply n ts) (call_follows n v _ (terms_measured v ts h))
  factor_measured u t nothing = closed (word kinds.Null ∷ []) _ null tokens-null (plain_follows _ _ null_plain null_plain)
  factor_measured u t (group v a h) =
      let s = term_measured v a h in
      record {
        whole = group_follows 0 v _ (weaker 0 (0 + 1) v _ (omega arith) s.whole);
        operand = group_follows 0 v _ s.operand;
        as_factor = group_follows 0 v _ s.as_factor;
      }

  terms_measured : (u : List Token) (ts : List Term) → SpellsTerms u ts → Follows 0 u (arguments_tokens ts)
  terms_measured u ts (first v t h) = rw append-nil (term_measured v t h).whole
  terms_measured u ts (more v w bs t g h) =
      rw (join_by-append (λ a. tokens_at a Whole) (word kinds.Comma ∷ []) bs t (some_terms v bs g))
      (other_follows kinds.Comma comma_other v w _ _ (terms_measured v bs g) (term_measured w t h).whole)
