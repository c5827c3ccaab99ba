-- What is spelled is read: from each production to the state behind it.
use Rattle.std.proofs.Common.{◌≡◌, ℕ, zero, suc, List, [], ◌∷◌, ◌++◌, Option, Some, None, refl, sym, ap, ◌∙◌, arith}
use Rattle.std.specs.Prelude.{pos}
use Rattle.hp_math.specs.Rational.{ℚ, ratio}
use Rattle.hp_tree.specs.declared.term.Term.{Term}
use Rattle.hp_text.specs.declared.token.Kind.TheVariants as kinds
use Rattle.hp_body.specs.declared.state.Front.{Front}
use Rattle.hp_body.specs.declared.state.Front.TheVariants.{Nothing, Negative, Sum, Difference}
use Rattle.hp_body.specs.declared.state.Mode.{Mode}
use Rattle.hp_body.specs.declared.state.Mode.TheVariants.{Part, Whole, Over, Ratio, Times, Named, Done}
use Rattle.hp_body.specs.declared.state.Frame.{Frame}
use Rattle.hp_body.specs.declared.state.Frame.TheVariants.{Group, Call}
use Rattle.hp_body.proofs.Found.{bound}
use Rattle.hp_grammar.specs.declared.symbol.Symbol.{Symbol as Token}
use Rattle.hp_grammar.specs.declared.symbol.Symbol.TheVariants.{Word as word}
use Rattle.hp_grammar.specs.Token.{same}
use Rattle.hp_grammar.specs.Tree.{number_of, null, apply}
use Rattle.hp_grammar.specs.Grammar.{SpellsNumber, SpellsTerm, SpellsPart, SpellsFactor, SpellsTerms, whole, fraction, part, minus, sum, difference, number, product, factor, single, call, nothing, group, first, more}
use Rattle.hp_grammar.specs.Runs.{◌and_then◌}
use Rattle.hp_body.specs.Machine.{joined, scaled, ended, State, step, run, at_word, at_minus, at_star, at_null, at_name, at_open, close, next_argument, number_goes, factor_goes, end_goes, plus_goes, minus_goes, star_goes, slash_goes, null_goes, open_goes, close_goes, comma_goes}

-- reading u goes from one state to the other
abbrev pub Goes : State → List Token → State → Type 0
Goes s u n = run s u ≡ Some n

pub goes_on : (u v : List Token) (s a n : State) → Goes s u a → Goes a v n → Goes s (u ++ v) n
goes_on [] v s a n g h = let same : s ≡ a = cc in rw same h
goes_on (k ∷ u) v s a n g h =
    let b = bound (step s k) (λ c. run c u) a g in
    ap (λ o. o and_then λ c. run c (u ++ v)) b.1 ∙ goes_on u v b.0 a n b.2 h

-- reading u goes from a state to one with the same frames, where the term t ends
pub record Ends (m : Mode) (fs : List Frame) (u : List Token) (t : Term) : Type 0 where
  pub last : Mode
  pub goes : Goes (m, fs) u (last, fs)
  pub ended : ended last ≡ Some t

-- what wants a factor
abbrev pub wanting : Front → Option ℚ → Mode
wanting f None = Part f
wanting f (Some q) = Times f q

number_ends : (u : List Token) (q : ℚ) → SpellsNumber u q → (f : Front) (fs : List Frame)
    → (m : Mode) × Goes (Part f, fs) u (m, fs) × (ended m ≡ Some (joined f (number_of q))) × (at_star m ≡ Some (Times f q))
unfolding same at_word number_goes factor_goes end_goes plus_goes minus_goes star_goes slash_goes null_goes open_goes close_goes comma_goes
number_ends u q (whole n) f fs = (Whole f n, refl, refl, refl)
number_ends u q (fraction n zero h) f fs = absurd (omega arith)
number_ends u q (fraction n (suc d) h) f fs = (Ratio f (ratio (pos n) (suc d)), refl, refl, refl)

-- the last argument of a call, and those before it
pub record EndsArguments (f : Front) (s : Option ℚ) (x : List ℕ) (fs : List Frame) (u : List Token) (ts : List Term) : Type 0 where
  pub last : Mode
  pub before : List Term
  pub term : Term
  pub goes : Goes (Part Nothing, Call f s x [] ∷ fs) u (last, Call f s x before ∷ fs)
  pub ended : ended last ≡ Some term
  pub all : ts ≡ before ++ term ∷ []

opens : (f : Front) (s : Option ℚ) → at_open (wanting f s) ≡ Some (Group f s)
opens f None = refl
opens f (Some q) = refl

names : (f : Front) (s : Option ℚ) (x : List ℕ) → at_name x (wanting f s) ≡ Some (Named f s x)
names f None x = refl
names f (Some q) x = refl

nulls : (f : Front) (s : Option ℚ) → at_null (wanting f s) ≡ Some (Done f s null)
nulls f None = refl
nulls f (Some q) = refl

minus_at_end : (m : Mode) (t : Term) → ended m ≡ Some t → at_minus m ≡ Some (Part (Difference t))
minus_at_end (Part f) t e = absurd (cc)
minus_at_end (Whole f n) t e = ap (λ o. o and_then λ a. Some (Part (Difference a))) e
minus_at_end (Over f n) t e = absurd (cc)
minus_at_end (Ratio f q) t e = ap (λ o. o and_then λ a. Some (Part (Difference a))) e
minus_at_end (Times f q) t e = absurd (cc)
minus_at_end (Named f s x) t e = ap (λ o. o and_then λ a. Some (Part (Difference a))) e
minus_at_end (Done f s a) t e = ap (λ o. o and_then λ a. Some (Part (Difference a))) e

mutual
  unfolding same at_word number_goes factor_goes end_goes plus_goes minus_goes star_goes slash_goes null_goes open_goes close_goes comma_goes

  pub term_ends : (u : List Token) (t : Term) → SpellsTerm u t → (fs : List Frame) → Ends (Part Nothing) fs u t
  term_ends u t (part v a h) fs = part_ends u t h Nothing fs
  term_ends u t (minus v a h) fs =
      let k = part_ends v a h Negative fs in
      record { last = k.last; goes = k.goes; ended = k.ended }
  term_ends u t (sum v w a b h g) fs =
      let k = term_ends v a h fs in
      let l = part_ends w b g (Sum a) fs in
      record {
        last = l.last;
        ended = l.ended;
        goes = goes_on v (word kinds.Plus ∷ w) (Part Nothing, fs) (k.last, fs) (l.last, fs) k.goes
            (ap (λ o. (o and_then λ c. Some (Part (Sum c), fs)) and_then λ c. run c w) k.ended ∙ l.goes);
      }
  term_ends u t (difference v w a b h g) fs =
      let k = term_ends v a h fs in
      let l = part_ends w b g (Difference a) fs in
      record {
        last = l.last;
        ended = l.ended;
        goes = goes_on v (word kinds.Minus ∷ w) (Part Nothing, fs) (k.last, fs) (l.last, fs) k.goes
            (ap (λ o. (o and_then λ c. Some (c, fs)) and_then λ c. run c w) (minus_at_end k.last a k.ended) ∙ l.goes);
      }

  pub part_ends : (u : List Token) (t : Term) → SpellsPart u t → (f : Front) (fs : List Frame) → Ends (Part f) fs u (joined f t)
  part_ends u t (number v q h) f fs = let k = number_ends v q h f fs in record { last = k.0; goes = k.1; ended = k.2 }
  part_ends u t (product v w q a h g) f fs =
      let k = number_ends v q h f fs in
      let l = factor_ends w a g f (Some q) fs in
      record {
        last = l.last;
        ended = l.ended;
        goes = goes_on v (word kinds.Star ∷ w) (Part f, fs) (k.0, fs) (l.last, fs) k.1
            (ap (λ o. (o and_then λ c. Some (c, fs)) and_then λ c. run c w) k.3 ∙ l.goes);
      }
  part_ends u t (factor v a h) f fs = factor_ends v a h f None fs

  pub factor_ends : (u : List Token) (t : Term) → SpellsFactor u t → (f : Front) (s : Option ℚ) (fs : List Frame) → Ends (wanting f s) fs u (joined f (scaled s t))
  factor_ends u t (single x) f s fs =
      record {
        last = Named f s x;
        ended = refl;
        goes = ap (λ o. (o and_then λ c. Some (c, fs)) and_then λ c. Some c) (names f s x);
      }
  factor_ends u t (call x v ts h) f s fs =
      let k = terms_end v ts h f s x fs in
      record {
        last = Done f s (apply x ts);
        ended = refl;
        goes = ap (λ o. (o and_then λ c. Some (c, fs)) and_then λ c. run c (word kinds.OpenRound ∷ v ++ word kinds.CloseRound ∷ [])) (names f s x)
            ∙ goes_on v (word kinds.CloseRound ∷ []) (Part Nothing, Call f s x [] ∷ fs) (k.last, Call f s x k.before ∷ fs) (Done f s (apply x ts), fs) k.goes
            (ap (λ o. (o and_then λ c. close c (Call f s x k.before ∷ fs)) and_then λ c. Some c) k.ended ∙ ap (λ z. Some (Done f s (apply x z), fs)) (sym k.all));
      }
  factor_ends u t nothing f s fs =
      record {
        last = Done f s null;
        ended = refl;
        goes = ap (λ o. (o and_then λ c. Some (c, fs)) and_then λ c. Some c) (nulls f s);
      }
  factor_ends u t (group v a h) f s fs =
      let k = term_ends v a h (Group f s ∷ fs) in
      record {
        last = Done f s a;
        ended = refl;
        goes = ap (λ o. (o and_then λ c. Some (Part Nothing, c ∷ fs)) and_then λ c. run c (v ++ word kinds.CloseRound ∷ [])) (opens f s)
            ∙ goes_on v (word kinds.CloseRound ∷ []) (Part Nothing, Group f s ∷ fs) (k.last, Group f s ∷ fs) (Done f s a, fs) k.goes
            (ap (λ o. (o and_then λ c. close c (Group f s ∷ fs)) and_then λ c. Some c) k.ended);
      }

  pub terms_end : (u : List Token) (ts : List Term) → SpellsTerms u ts → (f : Front) (s : Option ℚ) (x : List ℕ) (fs : List Frame) → EndsArguments f s x fs u ts
  terms_end u ts (first v t h) f s x fs =
      let k = term_ends v t h (Call f s x [] ∷ fs) in
      record { last = k.last; before = []; term = t; goes = k.goes; ended = k.ended; all = refl }
  terms_end u ts (more v w bs t h g) f s x fs =
      let k = terms_end v bs h f s x fs in
      let l = term_ends w t g (Call f s x bs ∷ fs) in
      record {
        last = l.last;
        before = bs;
        term = t;
        ended = l.ended;
        all = refl;
        goes = goes_on v (word kinds.Comma ∷ w) (Part Nothing, Call f s x [] ∷ fs) (k.last, Call f s x k.before ∷ fs) (l.last, Call f s x bs ∷ fs) k.goes
            (ap (λ o. (o and_then λ c. next_argument c (Call f s x k.before ∷ fs)) and_then λ c. run c w) k.ended
            ∙ (ap (λ z. run (Part Nothing, Call f s x z ∷ fs) w) (sym k.all) ∙ l.goes));
      }
