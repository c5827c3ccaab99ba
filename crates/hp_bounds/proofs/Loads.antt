-- The numerals of some tokens, added together, and the terms that weigh at most as much.
use Rattle.std.proofs.Common.{◌≡◌, ℕ, ◌+◌, ◌≤◌, List, [], ◌∷◌, ◌++◌, map, unsigned_abs, arith}
use Rattle.hp_math.specs.Rational.{ℚ}
use Rattle.hp_tree.specs.declared.term.Term.{Term, fold-roll-Term}
use Rattle.hp_tree.specs.declared.term.Term.TheOpen.{Term-F}
use Rattle.hp_text.specs.declared.token.Kind.{Kind}
use Rattle.hp_text.specs.declared.token.Kind.TheVariants as kinds
use Rattle.hp_grammar.specs.declared.symbol.Symbol.{Symbol as Token}
use Rattle.hp_grammar.specs.declared.symbol.Symbol.TheVariants.{Word as word, Name as name, Numeral as numeral}
use Rattle.hp_grammar.specs.Tree.{number_of, null, named, apply, add, sub, neg, scale}
use Rattle.hp_grammar.specs.Grammar.{SpellsNumber, SpellsTerm, SpellsPart, SpellsFactor, SpellsTerms, whole, fraction, part, minus, sum, difference, number, product, factor, single, call, nothing, group, first, more}
use Rattle.hp_terms.specs.Weight.{weight, weight_step, weights}
use Rattle.hp_math.proofs.Lowest.{numerator_most}

-- ---- what tokens carry
abbrev pub value : Token → ℕ
value (word k) = 0
value (name x) = 0
value (numeral n) = n

abbrev pub load : List Token → ℕ
load [] = 0
load (t ∷ ts) = value t + load ts

pub load-append : (u v : List Token) → load (u ++ v) ≡ load u + load v
load-append [] v = omega arith
load-append (t ∷ u) v = omega (arith, load-append u v)

-- a word between them carries nothing
pub load-between : (k : Kind) (u v : List Token) → load (u ++ word k ∷ v) ≡ load u + load v
load-between k u v = omega (arith, load-append u (word k ∷ v))

-- ---- what trees weigh
weight-number_of : (q : ℚ) → weight (number_of q) ≡ unsigned_abs q.num
unfolding number_of
weight-number_of q = fold-roll-Term ℕ weight_step (Term-F.Number q)

weight-null : weight null ≡ 0
unfolding null
weight-null = fold-roll-Term ℕ weight_step Term-F.Null

weight-named : (n : List ℕ) → weight (named n) ≡ 0
unfolding named
weight-named n = fold-roll-Term ℕ weight_step (Term-F.Name n)

weight-apply : (f : List ℕ) (ts : List Term) → weight (apply f ts) ≡ weights (map weight ts)
unfolding apply
weight-apply f ts = fold-roll-Term ℕ weight_step (Term-F.Apply f ts)

weight-add : (a b : Term) → weight (add a b) ≡ weight a + weight b
unfolding add
weight-add a b = fold-roll-Term ℕ weight_step (Term-F.Add a b)

weight-sub : (a b : Term) → weight (sub a b) ≡ weight a + weight b
unfolding sub
weight-sub a b = fold-roll-Term ℕ weight_step (Term-F.Sub a b)

weight-neg : (a : Term) → weight (neg a) ≡ weight a
unfolding neg
weight-neg a = fold-roll-Term ℕ weight_step (Term-F.Neg a)

weight-scale : (q : ℚ) (a : Term) → weight (scale q a) ≡ unsigned_abs q.num + weight a
unfolding scale
weight-scale q a = fold-roll-Term ℕ weight_step (Term-F.Scale q a)

weights_more : (ts : List Term) (t : Term) → weights (map weight (ts ++ t ∷ [])) ≡ weights (map weight ts) + weight t
weights_more [] t = omega arith
weights_more (s ∷ ts) t = omega (arith, weights_more ts t)

-- ---- a term weighs no more than its tokens carry
number_carried : (u : List Token) (q : ℚ) → SpellsNumber u q → unsigned_abs q.num ≤ load u
number_carried u q (whole n) = omega (arith, numerator_most n 1 (omega arith))
number_carried u q (fraction n d p) = omega (arith, numerator_most n d p)

mutual
  pub term_carried : (u : List Token) (t : Term) → SpellsTerm u t → weight t ≤ load u
  term_carried u t (part v s h) = part_carried v s h
  term_carried u t (minus v s h) = omega (arith, weight-neg s, part_carried v s h)
  term_carried u t (sum v w a b g h) = omega (arith, weight-add a b, load-between kinds.Plus v w, term_carried v a g, part_carried w b h)
  term_carried u t (difference v w a b g h) = omega (arith, weight-sub a b, load-between kinds.Minus v w, term_carried v a g, part_carried w b h)

  part_carried : (u : List Token) (t : Term) → SpellsPart u t → weight t ≤ load u
  part_carried u t (number v q h) = omega (arith, weight-number_of q, number_carried v q h)
  part_carried u t (product v w q s g h) = omega (arith, weight-scale q s, load-between kinds.Star v w, number_carried v q g, factor_carried w s h)
  part_carried u t (factor v s h) = factor_carried v s h

  factor_carried : (u : List Token) (t : Term) → SpellsFactor u t → weight t ≤ load u
  factor_carried u t (single n) = omega (arith, weight-named n)
  factor_carried u t (call n v ts h) = omega (arith, weight-apply n ts, load-between kinds.CloseRound v [], terms_carried v ts h)
  factor_carried u t nothing = omega (arith, weight-null)
  factor_carried u t (group v s h) = omega (arith, load-between kinds.CloseRound v [], term_carried v s h)

  terms_carried : (u : List Token) (ts : List Term) → SpellsTerms u ts → weights (map weight ts) ≤ load u
  terms_carried u ts (first v t h) = omega (arith, term_carried v t h)
  terms_carried u ts (more v w ss t g h) = omega (arith, weights_more ss t, load-between kinds.Comma v w, terms_carried v ss g, term_carried w t h)
