-- What was read is spelled: the tokens behind a state.
use Rattle.std.proofs.Common.{append-nil, ◌≡◌, ℕ, zero, suc, List, [], ◌∷◌, ◌++◌, Option, Some, None, refl, sym, ap, subst, ◌∙◌, append_assoc, arith, ◌⊎◌, inl, inr}
use Rattle.std.specs.Prelude.{pos}
use Rattle.hp_math.specs.Rational.{ℚ, ratio}
use Rattle.hp_tree.specs.declared.term.Term.{Term}
use Rattle.hp_text.specs.declared.token.Kind.{Kind}
use Rattle.hp_text.specs.declared.token.Kind.TheVariants as kinds
use Rattle.hp_body.specs.declared.state.Front.{Front}
use Rattle.hp_body.specs.declared.state.Front.TheVariants.{Nothing, Negative, Sum, Difference}
use Rattle.hp_body.specs.declared.state.Mode.{Mode}
use Rattle.hp_body.specs.declared.state.Mode.TheVariants.{Part, Whole, Over, Ratio, Times, Named, Done}
use Rattle.hp_body.specs.declared.state.Frame.{Frame}
use Rattle.hp_body.specs.declared.state.Frame.TheVariants.{Group, Call}
use Rattle.hp_grammar.specs.declared.symbol.Symbol.{Symbol as Token}
use Rattle.hp_grammar.specs.declared.symbol.Symbol.TheVariants.{Word as word, Name as name, Numeral as numeral}
use Rattle.hp_grammar.specs.Token.{same}
use Rattle.hp_grammar.specs.Tree.{number_of, null, named, apply}
use Rattle.hp_grammar.specs.Grammar.{SpellsNumber, SpellsTerm, SpellsPart, SpellsFactor, SpellsTerms, whole, fraction, part, minus, sum, difference, number, product, factor, single, call, nothing, group, first, more}
use Rattle.hp_grammar.specs.Runs.{◌and_then◌}
use Rattle.hp_body.specs.Machine.{joined, scaled, ended, State, step, run, at_word, at_minus, at_star, at_slash, at_null, at_name, at_numeral, at_open, close, next_argument, number_goes, factor_goes, end_goes, plus_goes, minus_goes, star_goes, slash_goes, null_goes, open_goes, close_goes, comma_goes}

-- one token at the end
infixl 20 ◌and◌
abbrev pub ◌and◌ : List Token → Token → List Token
u and t = u ++ t ∷ []

abbrev pub FrontIs : Front → List Token → Type 0
FrontIs Nothing u = u ≡ []
FrontIs Negative u = u ≡ word kinds.Minus ∷ []
FrontIs (Sum a) u = (v : List Token) × SpellsTerm v a × (u ≡ v and word kinds.Plus)
FrontIs (Difference a) u = (v : List Token) × SpellsTerm v a × (u ≡ v and word kinds.Minus)

abbrev pub ScaleIs : Option ℚ → List Token → Type 0
ScaleIs None u = u ≡ []
ScaleIs (Some q) u = (v : List Token) × SpellsNumber v q × (u ≡ v and word kinds.Star)

-- a front, and behind it what P says
pub record Behind (f : Front) (P : List Token → Type 0) (u : List Token) : Type 0 where
  pub front_tokens : List Token
  pub tokens : List Token
  pub front : FrontIs f front_tokens
  pub here : P tokens
  pub split : u ≡ front_tokens ++ tokens

abbrev pub NamedIs : Option ℚ → List ℕ → List Token → Type 0
NamedIs s x u = (v : List Token) × ScaleIs s v × (u ≡ v and name x)

abbrev pub DoneIs : Option ℚ → Term → List Token → Type 0
DoneIs s t u = (v : List Token) × (w : List Token) × ScaleIs s v × SpellsFactor w t × (u ≡ v ++ w)

abbrev pub ModeIs : Mode → List Token → Type 0
ModeIs (Part f) u = FrontIs f u
ModeIs (Whole f n) u = Behind f (λ v. v ≡ numeral n ∷ []) u
ModeIs (Over f n) u = Behind f (λ v. v ≡ numeral n ∷ word kinds.Slash ∷ []) u
ModeIs (Ratio f q) u = Behind f (λ v. SpellsNumber v q) u
ModeIs (Times f q) u = Behind f (ScaleIs (Some q)) u
ModeIs (Named f s x) u = Behind f (NamedIs s x) u
ModeIs (Done f s t) u = Behind f (DoneIs s t) u

abbrev pub ArgsAre : List Term → List Token → Type 0
ArgsAre ts u = ((ts ≡ []) × (u ≡ [])) ⊎ ((v : List Token) × SpellsTerms v ts × (u ≡ v and word kinds.Comma))

abbrev pub CallIs : Option ℚ → List ℕ → List Term → List Token → Type 0
CallIs s x ts u = (v : List Token) × (w : List Token) × ScaleIs s v × ArgsAre ts w × (u ≡ v ++ (name x ∷ word kinds.OpenRound ∷ w))

abbrev pub GroupIs : Option ℚ → List Token → Type 0
GroupIs s u = (v : List Token) × ScaleIs s v × (u ≡ v and word kinds.OpenRound)

abbrev pub FrameIs : Frame → List Token → Type 0
FrameIs (Group f s) u = Behind f (GroupIs s) u
FrameIs (Call f s x ts) u = Behind f (CallIs s x ts) u

abbrev pub FramesAre : List Frame → List Token → Type 0
FramesAre [] u = u ≡ []
FramesAre (f ∷ fs) u = (x : List Token) × (y : List Token) × FramesAre fs x × FrameIs f y × (u ≡ x ++ y)

pub record StateIs (s : State) (u : List Token) : Type 0 where
  pub outer : List Token
  pub inner : List Token
  pub frames : FramesAre s.1 outer
  pub mode : ModeIs s.0 inner
  pub split : u ≡ outer ++ inner

scaled_is : (s : Option ℚ) (u v : List Token) (t : Term) → ScaleIs s u → SpellsFactor v t → SpellsPart (u ++ v) (scaled s t)
scaled_is None u v t h k = rw h (factor v t k)
scaled_is (Some q) u v t h k = rw (h.2, append_assoc) (product h.0 v q t h.1 k)

joined_is : (f : Front) (u v : List Token) (t : Term) → FrontIs f u → SpellsPart v t → SpellsTerm (u ++ v) (joined f t)
joined_is Nothing u v t h k = rw h (part v t k)
joined_is Negative u v t h k = rw h (minus v t k)
joined_is (Sum a) u v t h k = rw (h.2, append_assoc) (sum h.0 v a t h.1 k)
joined_is (Difference a) u v t h k = rw (h.2, append_assoc) (difference h.0 v a t h.1 k)

-- where a part may end, the tokens are a term
pub ended_is : (m : Mode) (u : List Token) (t : Term) → ModeIs m u → ended m ≡ Some t → SpellsTerm u t
ended_is (Part f) u t h e = absurd (cc)
ended_is (Whole f n) u t h e = let k : joined f (number_of (ratio (pos n) 1)) ≡ t = cc in
    rw (← k, h.split, h.here) (joined_is f h.front_tokens _ _ h.front (number _ _ (whole n)))
ended_is (Over f n) u t h e = absurd (cc)
ended_is (Ratio f q) u t h e = let k : joined f (number_of q) ≡ t = cc in
    rw (← k, h.split) (joined_is f h.front_tokens _ _ h.front (number _ _ h.here))
ended_is (Times f q) u t h e = absurd (cc)
ended_is (Named f s x) u t h e = let k : joined f (scaled s (named x)) ≡ t = cc in
    rw (← k, h.split, h.here.2) (joined_is f h.front_tokens _ _ h.front (scaled_is s h.here.0 _ _ h.here.1 (single x)))
ended_is (Done f s a) u t h e = let k : joined f (scaled s a) ≡ t = cc in
    rw (← k, h.split, h.here.4) (joined_is f h.front_tokens _ _ h.front (scaled_is s h.here.0 h.here.1 _ h.here.2 h.here.3))

-- one token more behind what stands behind a front
longer : (f : Front) (P Q : List Token → Type 0) (u : List Token) (k : Token) → Behind f P u
    → ((v : List Token) → P v → Q (v and k)) → Behind f Q (u and k)
longer f P Q u k h more_of = record {
  front_tokens = h.front_tokens;
  tokens = h.tokens and k;
  front = h.front;
  here = more_of h.tokens h.here;
  split = ap (λ v. v and k) h.split ∙ append_assoc h.front_tokens h.tokens (k ∷ []);
}

-- the first token behind a front
begun : (f : Front) (Q : List Token → Type 0) (u : List Token) (k : Token) → FrontIs f u → Q (k ∷ []) → Behind f Q (u and k)
begun f Q u k h q = record { front_tokens = u; tokens = k ∷ []; front = h; here = q; split = refl }

minus_is : (m n : Mode) (u : List Token) → ModeIs m u → at_minus m ≡ Some n → ModeIs n (u and word kinds.Minus)
minus_is (Part Nothing) n u h e = let k : Part Negative ≡ n = cc in subst (λ z. ModeIs z (u and word kinds.Minus)) k (rw h refl)
minus_is (Part Negative) n u h e = absurd (cc)
minus_is (Part (Sum a)) n u h e = absurd (cc)
minus_is (Part (Difference a)) n u h e = absurd (cc)
minus_is (Whole f a) n u h e = let k : Part (Difference (joined f (number_of (ratio (pos a) 1)))) ≡ n = cc in
    subst (λ z. ModeIs z (u and word kinds.Minus)) k (u, ended_is (Whole f a) u _ h refl, refl)
minus_is (Over f a) n u h e = absurd (cc)
minus_is (Ratio f q) n u h e = let k : Part (Difference (joined f (number_of q))) ≡ n = cc in
    subst (λ z. ModeIs z (u and word kinds.Minus)) k (u, ended_is (Ratio f q) u _ h refl, refl)
minus_is (Times f q) n u h e = absurd (cc)
minus_is (Named f s x) n u h e = let k : Part (Difference (joined f (scaled s (named x)))) ≡ n = cc in
    subst (λ z. ModeIs z (u and word kinds.Minus)) k (u, ended_is (Named f s x) u _ h refl, refl)
minus_is (Done f s a) n u h e = let k : Part (Difference (joined f (scaled s a))) ≡ n = cc in
    subst (λ z. ModeIs z (u and word kinds.Minus)) k (u, ended_is (Done f s a) u _ h refl, refl)

star_is : (m n : Mode) (u : List Token) → ModeIs m u → at_star m ≡ Some n → ModeIs n (u and word kinds.Star)
star_is (Part f) n u h e = absurd (cc)
star_is (Whole f a) n u h e = let k : Times f (ratio (pos a) 1) ≡ n = cc in
    subst (λ z. ModeIs z (u and word kinds.Star)) k (longer f _ _ u _ h (λ v g. (v, rw g (whole a), refl)))
star_is (Over f a) n u h e = absurd (cc)
star_is (Ratio f q) n u h e = let k : Times f q ≡ n = cc in
    subst (λ z. ModeIs z (u and word kinds.Star)) k (longer f _ _ u _ h (λ v g. (v, g, refl)))
star_is (Times f q) n u h e = absurd (cc)
star_is (Named f s x) n u h e = absurd (cc)
star_is (Done f s a) n u h e = absurd (cc)

slash_is : (m n : Mode) (u : List Token) → ModeIs m u → at_slash m ≡ Some n → ModeIs n (u and word kinds.Slash)
slash_is (Part f) n u h e = absurd (cc)
slash_is (Whole f a) n u h e = let k : Over f a ≡ n = cc in
    subst (λ z. ModeIs z (u and word kinds.Slash)) k (longer f _ _ u _ h (λ v g. rw g refl))
slash_is (Over f a) n u h e = absurd (cc)
slash_is (Ratio f q) n u h e = absurd (cc)
slash_is (Times f q) n u h e = absurd (cc)
slash_is (Named f s x) n u h e = absurd (cc)
slash_is (Done f s a) n u h e = absurd (cc)

null_is : (m n : Mode) (u : List Token) → ModeIs m u → at_null m ≡ Some n → ModeIs n (u and word kinds.Null)
null_is (Part f) n u h e = let k : Done f None null ≡ n = cc in
    subst (λ z. ModeIs z (u and word kinds.Null)) k (begun f _ u _ h ([], word kinds.Null ∷ [], refl, nothing, refl))
null_is (Whole f a) n u h e = absurd (cc)
null_is (Over f a) n u h e = absurd (cc)
null_is (Ratio f q) n u h e = absurd (cc)
null_is (Times f q) n u h e = let k : Done f (Some q) null ≡ n = cc in
    subst (λ z. ModeIs z (u and word kinds.Null)) k (longer f _ _ u _ h (λ v g. (v, word kinds.Null ∷ [], g, nothing, refl)))
null_is (Named f s x) n u h e = absurd (cc)
null_is (Done f s a) n u h e = absurd (cc)

name_is : (x : List ℕ) (m n : Mode) (u : List Token) → ModeIs m u → at_name x m ≡ Some n → ModeIs n (u and name x)
name_is x (Part f) n u h e = let k : Named f None x ≡ n = cc in
    subst (λ z. ModeIs z (u and name x)) k (begun f _ u _ h ([], refl, refl))
name_is x (Whole f a) n u h e = absurd (cc)
name_is x (Over f a) n u h e = absurd (cc)
name_is x (Ratio f q) n u h e = absurd (cc)
name_is x (Times f q) n u h e = let k : Named f (Some q) x ≡ n = cc in
    subst (λ z. ModeIs z (u and name x)) k (longer f _ _ u _ h (λ v g. (v, g, refl)))
name_is x (Named f s y) n u h e = absurd (cc)
name_is x (Done f s a) n u h e = absurd (cc)

numeral_is : (x : ℕ) (m n : Mode) (u : List Token) → ModeIs m u → at_numeral x m ≡ Some n → ModeIs n (u and numeral x)
numeral_is x (Part f) n u h e = let k : Whole f x ≡ n = cc in
    subst (λ z. ModeIs z (u and numeral x)) k (begun f _ u _ h refl)
numeral_is x (Whole f a) n u h e = absurd (cc)
numeral_is zero (Over f a) n u h e = absurd (cc)
numeral_is (suc x) (Over f a) n u h e = let k : Ratio f (ratio (pos a) (suc x)) ≡ n = cc in
    subst (λ z. ModeIs z (u and numeral (suc x))) k (longer f _ _ u _ h (λ v g. rw g (fraction a (suc x) (omega arith))))
numeral_is x (Ratio f q) n u h e = absurd (cc)
numeral_is x (Times f q) n u h e = absurd (cc)
numeral_is x (Named f s y) n u h e = absurd (cc)
numeral_is x (Done f s a) n u h e = absurd (cc)

open_is : (m : Mode) (f : Frame) (u : List Token) → ModeIs m u → at_open m ≡ Some f → FrameIs f (u and word kinds.OpenRound)
open_is (Part f) n u h e = let k : Group f None ≡ n = cc in
    subst (λ z. FrameIs z (u and word kinds.OpenRound)) k (begun f _ u _ h ([], refl, refl))
open_is (Whole f a) n u h e = absurd (cc)
open_is (Over f a) n u h e = absurd (cc)
open_is (Ratio f q) n u h e = absurd (cc)
open_is (Times f q) n u h e = let k : Group f (Some q) ≡ n = cc in
    subst (λ z. FrameIs z (u and word kinds.OpenRound)) k (longer f _ _ u _ h (λ v g. (v, g, refl)))
open_is (Named f s x) n u h e = let k : Call f s x [] ≡ n = cc in
    subst (λ z. FrameIs z (u and word kinds.OpenRound)) k (longer f _ _ u _ h (λ v g. (g.0, [], g.1, inl (refl, refl), rw (g.2, append_assoc) refl)))
open_is (Done f s a) n u h e = absurd (cc)

-- one token more behind the mode
in_mode : (fs : List Frame) (m n : Mode) (u : List Token) (k : Token) → StateIs (m, fs) u
    → ((v : List Token) → ModeIs m v → ModeIs n (v and k)) → StateIs (n, fs) (u and k)
in_mode fs m n u k h next = record {
  outer = h.outer;
  inner = h.inner and k;
  frames = h.frames;
  mode = next h.inner h.mode;
  split = ap (λ v. v and k) h.split ∙ append_assoc h.outer h.inner (k ∷ []);
}

arguments_are : (ts : List Term) (u v : List Token) (t : Term) → ArgsAre ts u → SpellsTerm v t → SpellsTerms (u ++ v) (ts ++ t ∷ [])
arguments_are ts u v t (inl h) k = rw (h.0, h.1) (first v t k)
arguments_are ts u v t (inr h) k = rw (h.2, append_assoc) (more h.0 v ts t h.1 k)

closed_is : (fs : List Frame) (n : State) (x y : List Token) (t : Term) → FramesAre fs x → SpellsTerm y t → close t fs ≡ Some n
    → StateIs n ((x ++ y) and word kinds.CloseRound)
closed_is [] n x y t h k e = absurd (cc)
closed_is (Group f s ∷ fs) n x y t h k e =
    let same : (Done f s t, fs) ≡ n = cc in
    let g = h.3 in
    subst (λ z. StateIs z ((x ++ y) and word kinds.CloseRound)) same (record {
      outer = h.0;
      inner = g.front_tokens ++ (g.here.0 ++ (word kinds.OpenRound ∷ y ++ word kinds.CloseRound ∷ []));
      frames = h.2;
      mode = record {
        front_tokens = g.front_tokens;
        tokens = g.here.0 ++ (word kinds.OpenRound ∷ y ++ word kinds.CloseRound ∷ []);
        front = g.front;
        here = (g.here.0, word kinds.OpenRound ∷ y ++ word kinds.CloseRound ∷ [], g.here.1, group y t k, refl);
        split = refl;
      };
      split = rw (h.4, g.split, g.here.2) (simp append_assoc);
    })
closed_is (Call f s a ts ∷ fs) n x y t h k e =
    let same : (Done f s (apply a (ts ++ t ∷ [])), fs) ≡ n = cc in
    let g = h.3 in
    let w : List Token = name a ∷ word kinds.OpenRound ∷ (g.here.1 ++ y) ++ word kinds.CloseRound ∷ [] in
    subst (λ z. StateIs z ((x ++ y) and word kinds.CloseRound)) same (record {
      outer = h.0;
      inner = g.front_tokens ++ (g.here.0 ++ w);
      frames = h.2;
      mode = record {
        front_tokens = g.front_tokens;
        tokens = g.here.0 ++ w;
        front = g.front;
        here = (g.here.0, w, g.here.2, call a _ _ (arguments_are ts g.here.1 y t g.here.3 k), refl);
        split = refl;
      };
      split = rw (h.4, g.split, g.here.4) (simp append_assoc);
    })

next_is : (fs : List Frame) (n : State) (x y : List Token) (t : Term) → FramesAre fs x → SpellsTerm y t → next_argument t fs ≡ Some n
    → StateIs n ((x ++ y) and word kinds.Comma)
next_is [] n x y t h k e = absurd (cc)
next_is (Group f s ∷ fs) n x y t h k e = absurd (cc)
next_is (Call f s a ts ∷ fs) n x y t h k e =
    let same : (Part Nothing, Call f s a (ts ++ t ∷ []) ∷ fs) ≡ n = cc in
    let g = h.3 in
    let v : List Token = (g.here.1 ++ y) and word kinds.Comma in
    let w : List Token = name a ∷ word kinds.OpenRound ∷ v in
    subst (λ z. StateIs z ((x ++ y) and word kinds.Comma)) same (record {
      outer = h.0 ++ (g.front_tokens ++ (g.here.0 ++ w));
      inner = [];
      frames = (
        h.0,
        g.front_tokens ++ (g.here.0 ++ w),
        h.2,
        record {
          front_tokens = g.front_tokens;
          tokens = g.here.0 ++ w;
          front = g.front;
          here = (g.here.0, v, g.here.2, inr (g.here.1 ++ y, arguments_are ts g.here.1 y t g.here.3 k, refl), refl);
          split = refl;
        },
        refl,
      );
      mode = refl;
      split = rw (h.4, g.split, g.here.4) (simp append_assoc);
    })

pub bound : {A B : Type 0} (o : Option A) (f : A → Option B) (b : B) → (o and_then f) ≡ Some b → (a : A) × (o ≡ Some a) × (f a ≡ Some b)
bound None f b e = absurd (cc)
bound (Some a) f b e = (a, refl, e)

moved : (fs : List Frame) (o : Option Mode) (m : Mode) (n : State) (u : List Token) (k : Token) → StateIs (m, fs) u
    → ((a : Mode) (v : List Token) → o ≡ Some a → ModeIs m v → ModeIs a (v and k)) → (o and_then λ a. Some (a, fs)) ≡ Some n → StateIs n (u and k)
moved fs o m n u k h next e =
    let b = bound o (λ a. Some (a, fs)) n e in
    let same : (b.0, fs) ≡ n = cc (b.2) in
    subst (λ z. StateIs z (u and k)) same (in_mode fs m b.0 u k h (λ v. next b.0 v b.1))

word_is : (k : Kind) (m : Mode) (fs : List Frame) (n : State) (u : List Token) → StateIs (m, fs) u → at_word k m fs ≡ Some n → StateIs n (u and word k)
unfolding same at_word number_goes factor_goes end_goes plus_goes minus_goes star_goes slash_goes null_goes open_goes close_goes comma_goes
word_is kinds.Plus m fs n u h e =
    let b = bound (ended m) (λ t. Some (Part (Sum t), fs)) n e in
    let same : (Part (Sum b.0), fs) ≡ n = cc (b.2) in
    subst (λ z. StateIs z (u and word kinds.Plus)) same
    (in_mode fs m (Part (Sum b.0)) u (word kinds.Plus) h (λ v g. (v, ended_is m v b.0 g b.1, refl)))
word_is kinds.Minus m fs n u h e = moved fs (at_minus m) m n u _ h (λ a v q g. minus_is m a v g q) e
word_is kinds.Star m fs n u h e = moved fs (at_star m) m n u _ h (λ a v q g. star_is m a v g q) e
word_is kinds.Slash m fs n u h e = moved fs (at_slash m) m n u _ h (λ a v q g. slash_is m a v g q) e
word_is kinds.Null m fs n u h e = moved fs (at_null m) m n u _ h (λ a v q g. null_is m a v g q) e
word_is kinds.OpenRound m fs n u h e =
    let b = bound (at_open m) (λ f. Some (Part Nothing, f ∷ fs)) n e in
    let same : (Part Nothing, b.0 ∷ fs) ≡ n = cc (b.2) in
    subst (λ z. StateIs z (u and word kinds.OpenRound)) same (record {
      outer = u and word kinds.OpenRound;
      inner = [];
      frames = (
        h.outer,
        h.inner and word kinds.OpenRound,
        h.frames,
        open_is m b.0 h.inner h.mode b.1,
        ap (λ v. v and word kinds.OpenRound) h.split ∙ append_assoc h.outer h.inner _,
      );
      mode = refl;
      split = sym (append-nil _);
    })
word_is kinds.CloseRound m fs n u h e =
    let b = bound (ended m) (λ t. close t fs) n e in
    rw h.split (closed_is fs n h.outer h.inner b.0 h.frames (ended_is m h.inner b.0 h.mode b.1) b.2)
word_is kinds.Comma m fs n u h e =
    let b = bound (ended m) (λ t. next_argument t fs) n e in
    rw h.split (next_is fs n h.outer h.inner b.0 h.frames (ended_is m h.inner b.0 h.mode b.1) b.2)
word_is k m fs n u h e = absurd (cc)

pub step_is : (s n : State) (k : Token) (u : List Token) → StateIs s u → step s k ≡ Some n → StateIs n (u and k)
step_is (m, fs) n (word k) u h e = word_is k m fs n u h e
step_is (m, fs) n (name x) u h e = moved fs (at_name x m) m n u _ h (λ a v q g. name_is x m a v g q) e
step_is (m, fs) n (numeral x) u h e = moved fs (at_numeral x m) m n u _ h (λ a v q g. numeral_is x m a v g q) e

pub run_is : (v : List Token) (s n : State) (u : List Token) → StateIs s u → run s v ≡ Some n → StateIs n (u ++ v)
run_is [] s n u h e = let same : s ≡ n = cc in subst (λ z. StateIs z (u ++ [])) same (rw append-nil h)
run_is (k ∷ v) s n u h e =
    let b = bound (step s k) (λ a. run a v) n e in
    subst (λ z. StateIs n z) (append_assoc u (k ∷ []) v) (run_is v b.0 n (u and k) (step_is s b.0 k u h b.1) b.2)

-- what was read with nothing open is a term
pub term_is : (u : List Token) (m : Mode) (t : Term) → run (Part Nothing, []) u ≡ Some (m, []) → ended m ≡ Some t → SpellsTerm u t
term_is u m t e q =
    let h = run_is u (Part Nothing, []) (m, []) [] (record { outer = []; inner = []; frames = refl; mode = refl; split = refl }) e in
    rw (h.split, h.frames) (ended_is m h.inner t h.mode q)
