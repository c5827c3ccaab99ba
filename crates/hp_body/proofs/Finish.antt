-- From each state some tokens lead to the end of a term.
use Rattle.std.proofs.Common.{◌≡◌, List, [], ◌∷◌, ◌++◌, Option, Some, None, refl, ap, ◌∙◌}
use Rattle.std.specs.Prelude.{pos}
use Rattle.hp_math.specs.Rational.{ratio}
use Rattle.hp_tree.specs.declared.term.Term.{Term}
use Rattle.hp_text.specs.declared.token.Kind.TheVariants as kinds
use Rattle.hp_body.specs.declared.state.Mode.{Mode}
use Rattle.hp_body.specs.declared.state.Mode.TheVariants.{Part, Whole, Over, Ratio, Times, Named, Done}
use Rattle.hp_body.specs.declared.state.Frame.{Frame}
use Rattle.hp_body.specs.declared.state.Frame.TheVariants.{Group, Call}
use Rattle.hp_body.specs.declared.state.Front.TheVariants.{Nothing}
use Rattle.hp_grammar.specs.declared.symbol.Symbol.{Symbol as Token}
use Rattle.hp_grammar.specs.declared.symbol.Symbol.TheVariants.{Word as word, Name as name, Numeral as numeral}
use Rattle.hp_grammar.specs.Token.{same, AreTokens}
use Rattle.hp_grammar.specs.Tree.{number_of, named, apply}
use Rattle.hp_grammar.specs.Grammar.{SpellsTerm}
use Rattle.hp_grammar.specs.Runs.{◌and_then◌, runs}
use Rattle.hp_body.specs.Machine.{joined, scaled, ended, State, step, run, close, at_word, number_goes, factor_goes, end_goes, plus_goes, minus_goes, star_goes, slash_goes, null_goes, open_goes, close_goes, comma_goes}
use Rattle.hp_grammar.proofs.Machines.{runs_on, bound, are_both, Reads}
use Rattle.hp_body.proofs.Found.{term_is}
use Rattle.hp_body.proofs.Only.{term_ends}

abbrev pub closers : List Frame → List Token
closers [] = []
closers (f ∷ fs) = word kinds.CloseRound ∷ closers fs

-- some tokens that end the term behind a mode
pub record Finishes (m : Mode) (fs : List Frame) (after : List Frame) : Type 0 where
  pub tokens : List Token
  pub last : Mode
  pub term : Term
  pub goes : run (m, fs) tokens ≡ Some (last, after)
  pub ended : ended last ≡ Some term
  pub real : AreTokens tokens

abbrev pub x : Token
x = name (120 ∷ [])

pub mode_finishes : (m : Mode) (fs : List Frame) → Finishes m fs fs
unfolding same at_word number_goes factor_goes end_goes plus_goes minus_goes star_goes slash_goes null_goes open_goes close_goes comma_goes
mode_finishes (Part f) fs = record { tokens = x ∷ []; real = (refl, tt); last = Named f None (120 ∷ []); term = joined f (named (120 ∷ [])); goes = refl; ended = refl }
mode_finishes (Whole f n) fs = record { tokens = []; real = tt; last = Whole f n; term = joined f (number_of (ratio (pos n) 1)); goes = refl; ended = refl }
mode_finishes (Over f n) fs = record { tokens = numeral 1 ∷ []; real = (refl, tt); last = Ratio f (ratio (pos n) 1); term = joined f (number_of (ratio (pos n) 1)); goes = refl; ended = refl }
mode_finishes (Ratio f q) fs = record { tokens = []; real = tt; last = Ratio f q; term = joined f (number_of q); goes = refl; ended = refl }
mode_finishes (Times f q) fs = record { tokens = x ∷ []; real = (refl, tt); last = Named f (Some q) (120 ∷ []); term = joined f (scaled (Some q) (named (120 ∷ []))); goes = refl; ended = refl }
mode_finishes (Named f s y) fs = record { tokens = []; real = tt; last = Named f s y; term = joined f (scaled s (named y)); goes = refl; ended = refl }
mode_finishes (Done f s t) fs = record { tokens = []; real = tt; last = Done f s t; term = joined f (scaled s t); goes = refl; ended = refl }

frames_finish : (fs : List Frame) (m : Mode) (t : Term) → ended m ≡ Some t → Finishes m fs []
unfolding same at_word number_goes factor_goes end_goes plus_goes minus_goes star_goes slash_goes null_goes open_goes close_goes comma_goes
frames_finish [] m t e = record { tokens = []; real = tt; last = m; term = t; goes = refl; ended = e }
frames_finish (Group f s ∷ fs) m t e =
    let k = frames_finish fs (Done f s t) (joined f (scaled s t)) refl in
    record {
      tokens = word kinds.CloseRound ∷ k.tokens;
      real = (refl, k.real);
      last = k.last;
      term = k.term;
      ended = k.ended;
      goes = ap (λ o. (o and_then λ a. close a (Group f s ∷ fs)) and_then λ n. runs step n k.tokens) e ∙ k.goes;
    }
frames_finish (Call f s y ts ∷ fs) m t e =
    let k = frames_finish fs (Done f s (apply y (ts ++ t ∷ []))) (joined f (scaled s (apply y (ts ++ t ∷ [])))) refl in
    record {
      tokens = word kinds.CloseRound ∷ k.tokens;
      real = (refl, k.real);
      last = k.last;
      term = k.term;
      ended = k.ended;
      goes = ap (λ o. (o and_then λ a. close a (Call f s y ts ∷ fs)) and_then λ n. runs step n k.tokens) e ∙ k.goes;
    }

pub finishes : (m : Mode) (fs : List Frame) → Finishes m fs []
finishes m fs =
    let k = mode_finishes m fs in
    let l = frames_finish fs k.last k.term k.ended in
    record {
      tokens = k.tokens ++ l.tokens;
      real = are_both k.tokens l.tokens k.real l.real;
      last = l.last;
      term = l.term;
      ended = l.ended;
      goes = runs_on step k.tokens l.tokens (m, fs) (k.last, fs) k.goes ∙ l.goes;
    }

-- a term as a whole text
abbrev pub accept : State → Option Term
accept (m, []) = ended m
accept (m, f ∷ fs) = None

accepted : (s : State) (t : Term) → accept s ≡ Some t → (m : Mode) × (s ≡ (m, [])) × (ended m ≡ Some t)
accepted (m, []) t e = (m, refl, e)
accepted (m, f ∷ fs) t e = absurd (cc)

pub terms_read : Reads step accept (Part Nothing, []) SpellsTerm
terms_read = record {
  found = λ u t e.
      let b = bound (runs step (Part Nothing, []) u) accept t e in
      let c = accepted b.0 t b.2 in
      term_is u c.0 t (b.1 ∙ ap (λ s. Some s) c.1) c.2;
  only = λ u t h. let k = term_ends u t h [] in ap (λ o. o and_then accept) k.goes ∙ k.ended;
  ends = λ s. let k = finishes s.0 s.1 in (k.tokens, k.term, k.real, ap (λ o. o and_then accept) k.goes ∙ k.ended);
}
