-- A term nests no deeper than the signs and the open parentheses of its tokens allow: each sign between two parts makes a term one
-- deeper, and each pair of parentheses at most three, by an application, a factor before it and a sign in front.
use Rattle.std.proofs.Common.{◌≡◌, ℕ, ◌+◌, ◌*◌, ◌<◌, ◌≤◌, true, false, List, [], ◌∷◌, ◌++◌, map, Some, refl, sym, ap, subst, ◌∙◌, arith}
use Rattle.std.specs.Prelude.{max, if◌then◌else◌}
use Rattle.hp_math.specs.Rational.{ℚ}
use Rattle.hp_tree.specs.declared.term.Term.{Term, fold-roll-Term}
use Rattle.hp_tree.specs.declared.term.Term.TheOpen.{Term-F}
use Rattle.hp_text.specs.declared.token.Kind.TheVariants as kinds
use Rattle.hp_grammar.specs.declared.symbol.Symbol.{Symbol as Token}
use Rattle.hp_grammar.specs.declared.symbol.Symbol.TheVariants.{Word as word}
use Rattle.hp_grammar.specs.Token.{same}
use Rattle.hp_grammar.specs.declared.counts.Counts.{Counts}
use Rattle.hp_grammar.specs.Counts.{counts_of, one_sign, one_closed, behind_part, inside, ends_atom, count_other, count_sign, count_word, count}
use Rattle.hp_grammar.specs.Runs.{runs}
use Rattle.hp_grammar.specs.Tree.{number_of, null, named, apply, add, sub, neg, scale}
use Rattle.hp_grammar.specs.Grammar.{SpellsNumber, SpellsTerm, SpellsPart, SpellsFactor, SpellsTerms, whole, fraction, part, minus, sum, difference, number, product, factor, single, call, nothing, group, first, more}
use Rattle.hp_grammar.proofs.Machines.{bound, runs_split}
use Rattle.hp_bounds.specs.Depth.{deepest, depth_step, depth, too_deep}
use Rattle.hp_bounds.proofs.Counted.{IsBounded, Steps, sign_steps, open_steps, minus_steps, runs_bounded, IsCounted}

-- ---- how deep trees are
depth-number_of : (q : ℚ) → depth (number_of q) ≡ 1
unfolding number_of
depth-number_of q = fold-roll-Term ℕ depth_step (Term-F.Number q)

depth-null : depth null ≡ 1
unfolding null
depth-null = fold-roll-Term ℕ depth_step Term-F.Null

depth-named : (n : List ℕ) → depth (named n) ≡ 1
unfolding named
depth-named n = fold-roll-Term ℕ depth_step (Term-F.Name n)

depth-apply : (f : List ℕ) (ts : List Term) → depth (apply f ts) ≡ deepest (map depth ts) + 1
unfolding apply
depth-apply f ts = fold-roll-Term ℕ depth_step (Term-F.Apply f ts)

depth-add : (a b : Term) → depth (add a b) ≡ max (depth a) (depth b) + 1
unfolding add
depth-add a b = fold-roll-Term ℕ depth_step (Term-F.Add a b)

depth-sub : (a b : Term) → depth (sub a b) ≡ max (depth a) (depth b) + 1
unfolding sub
depth-sub a b = fold-roll-Term ℕ depth_step (Term-F.Sub a b)

depth-neg : (a : Term) → depth (neg a) ≡ depth a + 1
unfolding neg
depth-neg a = fold-roll-Term ℕ depth_step (Term-F.Neg a)

depth-scale : (q : ℚ) (a : Term) → depth (scale q a) ≡ depth a + 1
unfolding scale
depth-scale q a = fold-roll-Term ℕ depth_step (Term-F.Scale q a)

deepest_more : (ts : List Term) (t : Term) → deepest (map depth (ts ++ t ∷ [])) ≡ max (deepest (map depth ts)) (depth t)
deepest_more [] t = omega arith
deepest_more (s ∷ ts) t = omega (arith, deepest_more ts t)

-- ---- what tokens measure
-- From counts c to d a tree of this depth is read: as many parentheses are open again, and a part has ended.
-- It is no deeper than the signs that were counted, and `most` for the parentheses that may still be opened.
pub record IsMeasured (c d : Counts) (deep most : ℕ) : Type 0 where
  pub parentheses : d.open_round ≡ c.open_round
  pub ended : d.ended ≡ true
  pub signs : c.signs ≤ d.signs
  pub within : (deep + c.signs + 3 * c.open_round) ≤ d.signs + most

rises : (c d : Counts) (x y m n : ℕ) → (y + m) ≤ x + n → IsMeasured c d x m → IsMeasured c d y n
rises c d x y m n l h = record { parentheses = h.parentheses; ended = h.ended; signs = h.signs; within = omega (arith, h.within) }

-- one token that is a factor of its own, or a number
leaf : (c d : Counts) → IsBounded c → Some (behind_part c) ≡ Some d → IsMeasured c d 1 193
leaf c d b e =
    let is : behind_part c ≡ d = cc in
    subst (λ z. IsMeasured c z 1 193) is (record { parentheses = refl; ended = refl; signs = omega arith; within = omega (arith, b.parentheses) })

number_measured : (u : List Token) (q : ℚ) → SpellsNumber u q → (c d : Counts) → IsBounded c → runs count c u ≡ Some d → IsMeasured c d 1 193
unfolding same count_word count_sign count_other ends_atom
number_measured u q (whole n) c d b e = leaf c d b e
number_measured u q (fraction n k p) c d b e = leaf c d b e

-- ---- parentheses
enclosed : (v : List Token) (c d : Counts) → IsBounded c → runs count c (word kinds.OpenRound ∷ v ++ word kinds.CloseRound ∷ []) ≡ Some d
    → (a : Counts) × (c.open_round < 64) × (runs count (counts_of (c.open_round + 1) c.signs false) v ≡ Some a) × (d ≡ one_closed a)
unfolding same count_word
enclosed v c d b e =
    let h = bound (count_word c kinds.OpenRound) (λ a. runs count a (v ++ word kinds.CloseRound ∷ [])) d e in
    let o = open_steps c h.0 b h.1 in
    let r = runs_split count v (word kinds.CloseRound ∷ []) h.0 d h.2 in
    let z : Some (one_closed r.0) ≡ Some d = r.2 in
    (r.0, o.0, subst (λ a. runs count a v ≡ Some r.0) o.1 r.1, cc)

opened : (c : Counts) → c.open_round < 64 → IsBounded c → IsBounded (counts_of (c.open_round + 1) c.signs false)
opened c l b = record { parentheses = omega arith; signs = b.signs }

-- a tree in parentheses is one deeper at most, and leaves room for three less
in_parentheses : (c a d : Counts) (x y : ℕ) → y ≤ x + 1 → d ≡ one_closed a → IsMeasured (counts_of (c.open_round + 1) c.signs false) a x 195 → IsMeasured c d y 193
in_parentheses c a d x y l e h = subst (λ z. IsMeasured c z y 193) (sym e) (record {
  parentheses = omega (arith, h.parentheses);
  ended = refl;
  signs = h.signs;
  within = omega (arith, h.within);
})

-- ---- signs
plus_step : (c a : Counts) → IsBounded c → count_word c kinds.Plus ≡ Some a → Steps c a 1
unfolding same count_word count_sign
plus_step c a b e = sign_steps c a b e

minus_step : (c a : Counts) → IsBounded c → count_word c kinds.Minus ≡ Some a → Steps c a 0
unfolding same count_word count_sign
minus_step c a b e = minus_steps c.ended c a b e

ended_step : (c a : Counts) → IsBounded c → c.ended ≡ true → count_word c kinds.Minus ≡ Some a → Steps c a 1
unfolding same count_word count_sign
ended_step c a b t e = sign_steps c a b (sym (ap (λ z. if z then one_sign c else Some c) t) ∙ e)

other_step : (c : Counts) → IsBounded c → IsBounded (inside c)
other_step c b = record { parentheses = b.parentheses; signs = b.signs }

-- two operands with a sign between them, which is counted
joined : (c m n d : Counts) (x y z : ℕ) → z ≡ max x y + 1 → IsMeasured c m x 195 → Steps m n 1 → IsMeasured n d y 194 → IsMeasured c d z 195
joined c m n d x y z e g s h = record {
  parentheses = h.parentheses ∙ (s.parentheses ∙ g.parentheses);
  ended = h.ended;
  signs = omega (arith, g.signs, s.more, h.signs);
  within = omega (arith, g.within, g.parentheses, s.more, s.parentheses, h.within, h.signs, g.signs);
}

mutual
  unfolding same count_word count_sign count_other ends_atom

  pub term_measured : (u : List Token) (t : Term) → SpellsTerm u t → (c d : Counts) → IsBounded c → runs count c u ≡ Some d → IsMeasured c d (depth t) 195
  term_measured u t (part v s h) c d b e = rises c d _ _ 194 195 (omega arith) (part_measured v s h c d b e)
  term_measured u t (minus v s h) c d b e =
      let r = bound (count_word c kinds.Minus) (λ a. runs count a v) d e in
      let s1 = minus_step c r.0 b r.1 in
      let p = part_measured v s h r.0 d s1.bounded r.2 in
      record {
        parentheses = p.parentheses ∙ s1.parentheses;
        ended = p.ended;
        signs = omega (arith, s1.more, p.signs);
        within = omega (arith, depth-neg s, s1.more, s1.parentheses, p.within);
      }
  term_measured u t (sum v w a b g h) c d i e =
      let r = runs_split count v (word kinds.Plus ∷ w) c d e in
      let left = term_measured v a g c r.0 i r.1 in
      let q = bound (count_word r.0 kinds.Plus) (λ z. runs count z w) d r.2 in
      let s = plus_step r.0 q.0 (runs_bounded v c r.0 i r.1) q.1 in
      joined c r.0 q.0 d _ _ _ (depth-add a b) left s (part_measured w b h q.0 d s.bounded q.2)
  term_measured u t (difference v w a b g h) c d i e =
      let r = runs_split count v (word kinds.Minus ∷ w) c d e in
      let left = term_measured v a g c r.0 i r.1 in
      let q = bound (count_word r.0 kinds.Minus) (λ z. runs count z w) d r.2 in
      let s = ended_step r.0 q.0 (runs_bounded v c r.0 i r.1) left.ended q.1 in
      joined c r.0 q.0 d _ _ _ (depth-sub a b) left s (part_measured w b h q.0 d s.bounded q.2)

  part_measured : (u : List Token) (t : Term) → SpellsPart u t → (c d : Counts) → IsBounded c → runs count c u ≡ Some d → IsMeasured c d (depth t) 194
  part_measured u t (number v q h) c d b e = rises c d 1 _ 193 194 (omega (arith, depth-number_of q)) (number_measured v q h c d b e)
  part_measured u t (product v w q s g h) c d b e =
      let r = runs_split count v (word kinds.Star ∷ w) c d e in
      let n = number_measured v q g c r.0 b r.1 in
      let f = factor_measured w s h (inside r.0) d (other_step r.0 (runs_bounded v c r.0 b r.1)) r.2 in
      record {
        parentheses = f.parentheses ∙ n.parentheses;
        ended = f.ended;
        signs = omega (arith, n.signs, f.signs);
        within = omega (arith, depth-scale q s, n.signs, n.parentheses, f.within);
      }
  part_measured u t (factor v s h) c d b e = rises c d _ _ 193 194 (omega arith) (factor_measured v s h c d b e)

  factor_measured : (u : List Token) (t : Term) → SpellsFactor u t → (c d : Counts) → IsBounded c → runs count c u ≡ Some d → IsMeasured c d (depth t) 193
  factor_measured u t (single n) c d b e = rises c d 1 _ 193 193 (omega (arith, depth-named n)) (leaf c d b e)
  factor_measured u t (call n v ts h) c d b e =
      let from : IsBounded (behind_part c) = record { parentheses = b.parentheses; signs = b.signs } in
      let i = enclosed v (behind_part c) d from e in
      let m = arguments_measured v ts h _ i.0 (opened (behind_part c) i.1 from) i.2 in
      in_parentheses c i.0 d _ _ (omega (arith, depth-apply n ts)) i.3 m
  factor_measured u t nothing c d b e = rises c d 1 _ 193 193 (omega (arith, depth-null)) (leaf c d b e)
  factor_measured u t (group v s h) c d b e =
      let i = enclosed v c d b e in
      let m = term_measured v s h _ i.0 (opened c i.1 b) i.2 in
      in_parentheses c i.0 d _ _ (omega arith) i.3 m

  arguments_measured : (u : List Token) (ts : List Term) → SpellsTerms u ts → (c d : Counts) → IsBounded c → runs count c u ≡ Some d
      → IsMeasured c d (deepest (map depth ts)) 195
  arguments_measured u ts (first v t h) c d b e = rises c d _ _ 195 195 (omega arith) (term_measured v t h c d b e)
  arguments_measured u ts (more v w ss t g h) c d b e =
      let r = runs_split count v (word kinds.Comma ∷ w) c d e in
      let before = arguments_measured v ss g c r.0 b r.1 in
      let last = term_measured w t h (inside r.0) d (other_step r.0 (runs_bounded v c r.0 b r.1)) r.2 in
      record {
        parentheses = last.parentheses ∙ before.parentheses;
        ended = last.ended;
        signs = omega (arith, before.signs, last.signs);
        within = omega (arith, deepest_more ss t, before.within, before.parentheses, before.signs, last.within, last.signs);
      }

-- 195 for the parentheses and 1,023 for the signs
pub shallow_term : (u : List Token) (t : Term) → SpellsTerm u t → IsCounted u → depth t < too_deep
shallow_term u t h i =
    let m = term_measured u t h i.from i.to i.bounded i.goes in
    let b = runs_bounded u i.from i.to i.bounded i.goes in
    omega (arith, m.within, b.signs)
