-- Tokens that pass the limits wherever others do, put together as the grammar puts terms together.
use Rattle.std.proofs.Common.{◌≡◌, ℕ, ◌+◌, ◌<◌, ◌≤◌, true, false, List, [], ◌∷◌, ◌++◌, Some, None, refl, sym, ap, subst, ◌∙◌, arith}
use Rattle.std.specs.Prelude.{if◌then◌else◌, nat_lt}
use Rattle.std.proofs.lemmas.Bool.{ltb-true, lt-ltb}
use Rattle.hp_text.specs.declared.token.Kind.{Kind}
use Rattle.hp_text.specs.declared.token.Kind.TheVariants as kinds
use Rattle.hp_grammar.specs.declared.symbol.Symbol.{Symbol as Token}
use Rattle.hp_grammar.specs.declared.symbol.Symbol.TheVariants.{Word as word, Name as name}
use Rattle.hp_grammar.specs.Token.{same}
use Rattle.hp_grammar.specs.declared.counts.Counts.{Counts}
use Rattle.hp_grammar.specs.Counts.{counts_of, one_sign, one_closed, inside, ends_atom, count_other, count_sign, count_word, count}
use Rattle.hp_grammar.specs.Runs.{◌and_then◌, runs}
use Rattle.hp_grammar.proofs.Machines.{runs_on, runs_split, tested}

-- where u is counted from o open parentheses, v is from k fewer and from still fewer, with as many signs
pub record Follows (k : ℕ) (u v : List Token) : Type 0 where
  pub follows : (o s : ℕ) (c : Counts) → o ≤ 64 → runs count (counts_of o s false) u ≡ Some c
      → (n : ℕ) × (c ≡ counts_of o n true) × ((p : ℕ) → p + k ≤ o → runs count (counts_of p s false) v ≡ Some (counts_of p n true))

pub weaker : (k j : ℕ) (u v : List Token) → k ≤ j → Follows k u v → Follows j u v
weaker k j u v l h = record { follows = λ o s c m e. let f = h.follows o s c m e in (f.0, f.1, λ p q. f.2 p (omega arith)) }

-- a part without parentheses and signs
abbrev pub IsPlain : List Token → Type 0
IsPlain u = (o s : ℕ) → runs count (counts_of o s false) u ≡ Some (counts_of o s true)

pub plain_follows : (u v : List Token) → IsPlain u → IsPlain v → Follows 0 u v
plain_follows u v g h = record { follows = λ o s c l e. (s, (let x = g o s in cc), λ p q. h p s) }

-- ---- parentheses
enclosed_runs : (v : List Token) (p s n : ℕ) → p < 64 → runs count (counts_of (p + 1) s false) v ≡ Some (counts_of (p + 1) n true)
    → runs count (counts_of p s false) (word kinds.OpenRound ∷ v ++ word kinds.CloseRound ∷ []) ≡ Some (counts_of p n true)
unfolding same count_word
enclosed_runs v p s n l e =
    ap (λ b. (if b then Some (counts_of (p + 1) s false) else None) and_then λ c. runs count c (v ++ word kinds.CloseRound ∷ [])) (lt-ltb p 64 l)
    ∙ (runs_on count v (word kinds.CloseRound ∷ []) _ _ e ∙ ap (λ z. Some (counts_of z n true)) (omega arith))

enclosed_parts : (u : List Token) (o s : ℕ) (c : Counts) → runs count (counts_of o s false) (word kinds.OpenRound ∷ u ++ word kinds.CloseRound ∷ []) ≡ Some c
    → (a : Counts) × (o < 64) × (runs count (counts_of (o + 1) s false) u ≡ Some a) × (c ≡ one_closed a)
unfolding same count_word
enclosed_parts u o s c e =
    let t = tested (nat_lt o 64) (counts_of (o + 1) s false) (λ a. runs count a (u ++ word kinds.CloseRound ∷ [])) c e in
    let r = runs_split count u (word kinds.CloseRound ∷ []) (counts_of (o + 1) s false) c t.1 in
    let z : Some (one_closed r.0) ≡ Some c = r.2 in
    (r.0, ltb-true o 64 t.0, r.1, cc)

closed_is : (o n : ℕ) (a c : Counts) → c ≡ one_closed a → a ≡ counts_of (o + 1) n true → c ≡ counts_of o n true
closed_is o n a c e h = e ∙ (ap one_closed h ∙ ap (λ z. counts_of z n true) (omega arith))

-- parentheses that the other tokens lack
pub enclosed_follows : (u v : List Token) → Follows 0 u v → Follows 1 u (word kinds.OpenRound ∷ v ++ word kinds.CloseRound ∷ [])
enclosed_follows u v h =
    record { follows = λ o s c l e. let f = h.follows o s c l e in (f.0, f.1, λ p q. enclosed_runs v p s f.0 (omega arith) (f.2 (p + 1) (omega arith))) }

pub group_follows : (k : ℕ) (u v : List Token) → Follows (k + 1) u v → Follows k (word kinds.OpenRound ∷ u ++ word kinds.CloseRound ∷ []) v
group_follows k u v h = record {
  follows = λ o s c l e.
      let a = enclosed_parts u o s c e in
      let f = h.follows (o + 1) s a.0 (omega (arith, a.1)) a.2 in
      (f.0, closed_is o f.0 a.0 c a.3 f.1, λ p q. f.2 p (omega arith));
}

pub call_follows : (x : List ℕ) (u v : List Token) → Follows 0 u v
    → Follows 0 (name x ∷ word kinds.OpenRound ∷ u ++ word kinds.CloseRound ∷ []) (name x ∷ word kinds.OpenRound ∷ v ++ word kinds.CloseRound ∷ [])
unfolding same count_word
call_follows x u v h = record {
  follows = λ o s c l e.
      let a = enclosed_parts u o s c e in
      let f = h.follows (o + 1) s a.0 (omega (arith, a.1)) a.2 in
      (f.0, closed_is o f.0 a.0 c a.3 f.1, λ p q. enclosed_runs v p s f.0 (omega (arith, a.1)) (f.2 (p + 1) (omega arith)));
}

-- ---- signs
-- a sign in front of a term is not counted
pub minus_follows : (u v : List Token) → Follows 0 u v → Follows 0 (word kinds.Minus ∷ u) (word kinds.Minus ∷ v)
unfolding same count_word count_sign
minus_follows u v h = record { follows = λ o s c l e. h.follows o s c l e }

abbrev pub IsSign : Kind → Type 0
IsSign k = (o n : ℕ) → count_word (counts_of o n true) k ≡ one_sign (counts_of o n true)

pub plus_sign : IsSign kinds.Plus
unfolding same count_word count_sign
plus_sign o n = refl

pub minus_sign : IsSign kinds.Minus
unfolding same count_word count_sign
minus_sign o n = refl

sign_passed : (k : Kind) → IsSign k → (v : List Token) (o n : ℕ) (c : Counts) → runs count (counts_of o n true) (word k ∷ v) ≡ Some c
    → (nat_lt n 1023 ≡ true) × (runs count (counts_of o (n + 1) false) v ≡ Some c)
sign_passed k is v o n c e =
    tested (nat_lt n 1023) (counts_of o (n + 1) false) (λ a. runs count a v) c (ap (λ x. x and_then λ a. runs count a v) (sym (is o n)) ∙ e)

sign_runs : (k : Kind) → IsSign k → (v : List Token) (o n : ℕ) → nat_lt n 1023 ≡ true → runs count (counts_of o n true) (word k ∷ v) ≡ runs count (counts_of o (n + 1) false) v
sign_runs k is v o n t =
    ap (λ x. x and_then λ a. runs count a v) (is o n) ∙ ap (λ b. (if b then Some (counts_of o (n + 1) false) else None) and_then λ a. runs count a v) t

pub sign_follows : (k : Kind) → IsSign k → (u v x y : List Token) → Follows 0 u x → Follows 0 v y → Follows 0 (u ++ word k ∷ v) (x ++ word k ∷ y)
sign_follows k is u v x y g h = record {
  follows = λ o s c l e.
      let r = runs_split count u (word k ∷ v) (counts_of o s false) c e in
      let f = g.follows o s r.0 l r.1 in
      let t = sign_passed k is v o f.0 c (subst (λ a. runs count a (word k ∷ v) ≡ Some c) f.1 r.2) in
      let b = h.follows o (f.0 + 1) c l t.1 in
      (b.0, b.1, λ p q. runs_on count x (word k ∷ y) _ _ (f.2 p q) ∙ (sign_runs k is y p f.0 t.0 ∙ b.2 p q));
}

-- ---- other words between two terms
abbrev pub IsOther : Kind → Type 0
IsOther k = (c : Counts) → count_word c k ≡ Some (inside c)

pub other_runs : (k : Kind) → IsOther k → (v : List Token) (c : Counts) → runs count c (word k ∷ v) ≡ runs count (inside c) v
other_runs k is v c = ap (λ x. x and_then λ a. runs count a v) (is c)

pub other_follows : (k : Kind) → IsOther k → (u v x y : List Token) → Follows 0 u x → Follows 0 v y → Follows 0 (u ++ word k ∷ v) (x ++ word k ∷ y)
other_follows k is u v x y g h = record {
  follows = λ o s c l e.
      let r = runs_split count u (word k ∷ v) (counts_of o s false) c e in
      let f = g.follows o s r.0 l r.1 in
      let b = h.follows o f.0 c l (sym (other_runs k is v (counts_of o f.0 true)) ∙ subst (λ a. runs count a (word k ∷ v) ≡ Some c) f.1 r.2) in
      (b.0, b.1, λ p q. runs_on count x (word k ∷ y) _ _ (f.2 p q) ∙ (other_runs k is y (counts_of p f.0 true) ∙ b.2 p q));
}

pub star_other : IsOther kinds.Star
unfolding same count_word count_sign count_other ends_atom
star_other c = refl

pub comma_other : IsOther kinds.Comma
unfolding same count_word count_sign count_other ends_atom
comma_other c = refl
