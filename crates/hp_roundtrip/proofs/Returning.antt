-- Tokens at the top of a text, that end with no parenthesis open and with no sign counted.
use Rattle.std.proofs.Common.{◌≡◌, ℕ, Bool, true, false, List, [], ◌∷◌, ◌++◌, Some, refl, sym, ap, subst, ◌∙◌, arith}
use Rattle.hp_text.specs.declared.token.Kind.{Kind}
use Rattle.hp_text.specs.declared.token.Kind.TheVariants as kinds
use Rattle.hp_grammar.specs.declared.symbol.Symbol.{Symbol as Token}
use Rattle.hp_grammar.specs.declared.symbol.Symbol.TheVariants.{Word as word, Name as name, Numeral as numeral}
use Rattle.hp_grammar.specs.Token.{same}
use Rattle.hp_grammar.specs.declared.counts.Counts.{Counts}
use Rattle.hp_grammar.specs.Counts.{counts_of, nothing_counted, new_atom, ends_atom, count_other, count_sign, count_word, count}
use Rattle.hp_grammar.specs.Runs.{◌and_then◌, runs}
use Rattle.hp_grammar.specs.Bodies.{Separated, one, more}
use Rattle.hp_grammar.proofs.Machines.{runs_on, runs_split}
use Rattle.hp_roundtrip.proofs.Counting.{Follows, IsOther, other_runs, comma_other}

-- ---- words that end an atom
abbrev pub IsEnd : Kind → Type 0
IsEnd k = (c : Counts) → count_word c k ≡ Some (new_atom c)

pub and_end : IsEnd kinds.And
unfolding same count_word count_sign count_other ends_atom
and_end c = refl

pub or_end : IsEnd kinds.Or
unfolding same count_word count_sign count_other ends_atom
or_end c = refl

pub arrow_end : IsEnd kinds.Arrow
unfolding same count_word count_sign count_other ends_atom
arrow_end c = refl

semicolon_end : IsEnd kinds.Semicolon
unfolding same count_word count_sign count_other ends_atom
semicolon_end c = refl

-- behind such a word nothing is counted, where no parenthesis is open
end_runs : (k : Kind) → IsEnd k → (v : List Token) (a : Counts) → a.open_round ≡ 0 → runs count a (word k ∷ v) ≡ runs count nothing_counted v
end_runs k is v a z = ap (λ x. x and_then λ b. runs count b v) (is a) ∙ ap (λ o. runs count (counts_of o 0 false) v) z

-- ---- where u is counted from nothing, v is counted to the same, and leaves no parenthesis open
pub record Agrees (u v : List Token) : Type 0 where
  pub agrees : (c : Counts) → runs count nothing_counted u ≡ Some c → (c.open_round ≡ 0) × (runs count nothing_counted v ≡ Some c)

pub follows_agree : (u v : List Token) → Follows 0 u v → Agrees u v
follows_agree u v h = record {
  agrees = λ c e.
      let f = h.follows 0 0 c (omega arith) e in
      (ap (λ a. a.open_round) f.1, f.2 0 (omega arith) ∙ ap (λ a. Some a) (sym f.1));
}

-- tokens that count nothing
abbrev pub IsIdle : List Token → Type 0
IsIdle u = runs count nothing_counted u ≡ Some nothing_counted

pub idle_agrees : (u : List Token) → IsIdle u → Agrees u u
idle_agrees u h = record { agrees = λ c e. let z : nothing_counted ≡ c = cc in (ap (λ a. a.open_round) (sym z), e) }

pub end_agrees : (k : Kind) → IsEnd k → (u v x y : List Token) → Agrees u x → Agrees v y → Agrees (u ++ word k ∷ v) (x ++ word k ∷ y)
end_agrees k is u v x y g h = record {
  agrees = λ c e.
      let r = runs_split count u (word k ∷ v) nothing_counted c e in
      let f = g.agrees r.0 r.1 in
      let b = h.agrees c (sym (end_runs k is v r.0 f.0) ∙ r.2) in
      (b.0, runs_on count x (word k ∷ y) nothing_counted r.0 f.1 ∙ (end_runs k is y r.0 f.0 ∙ b.1));
}

-- ---- where u is counted from nothing, it and v leave nothing counted
pub record Returns (u v : List Token) : Type 0 where
  pub returns : (c : Counts) → runs count nothing_counted u ≡ Some c → (c ≡ nothing_counted) × (runs count nothing_counted v ≡ Some nothing_counted)

pub append_returns : (u v x y : List Token) → Returns u x → Returns v y → Returns (u ++ v) (x ++ y)
append_returns u v x y g h = record {
  returns = λ c e.
      let r = runs_split count u v nothing_counted c e in
      let f = g.returns r.0 r.1 in
      let b = h.returns c (subst (λ a. runs count a v ≡ Some c) f.0 r.2) in
      (b.0, runs_on count x y nothing_counted nothing_counted f.1 ∙ b.1);
}

pub end_returns : (u x : List Token) → Agrees u x → Returns (u ++ word kinds.Semicolon ∷ []) (x ++ word kinds.Semicolon ∷ [])
end_returns u x h = record {
  returns = λ c e.
      let r = runs_split count u (word kinds.Semicolon ∷ []) nothing_counted c e in
      let f = h.agrees r.0 r.1 in
      let z : Some nothing_counted ≡ Some c = sym (end_runs kinds.Semicolon semicolon_end [] r.0 f.0) ∙ r.2 in
      (cc, runs_on count x (word kinds.Semicolon ∷ []) nothing_counted r.0 f.1 ∙ end_runs kinds.Semicolon semicolon_end [] r.0 f.0);
}

pub idle_returns : (u v : List Token) → IsIdle u → IsIdle v → Returns u v
idle_returns u v g h = record { returns = λ c e. (cc, h) }

pub append_idle : (u v : List Token) → IsIdle u → IsIdle v → IsIdle (u ++ v)
append_idle u v g h = runs_on count u v nothing_counted nothing_counted g ∙ h

-- ---- tokens that leave o parentheses open, and count no sign
abbrev pub IsLoose : ℕ → List Token → Type 0
IsLoose o u = (b : Bool) → (d : Bool) × (runs count (counts_of o 0 b) u ≡ Some (counts_of o 0 d))

pub append_loose : (o : ℕ) (u v : List Token) → IsLoose o u → IsLoose o v → IsLoose o (u ++ v)
append_loose o u v g h b =
    let x = g b in
    let y = h x.0 in
    (y.0, runs_on count u v (counts_of o 0 b) (counts_of o 0 x.0) x.1 ∙ y.1)

pub other_loose : (o : ℕ) (k : Kind) (v : List Token) → IsOther k → IsLoose o v → IsLoose o (word k ∷ v)
other_loose o k v is h b = let y = h false in (y.0, other_runs k is v (counts_of o 0 b) ∙ y.1)

pub name_loose : (o : ℕ) (x : List ℕ) (v : List Token) → IsLoose o v → IsLoose o (name x ∷ v)
name_loose o x v h b = h true

pub numeral_loose : (o n : ℕ) (v : List Token) → IsLoose o v → IsLoose o (numeral n ∷ v)
numeral_loose o n v h b = h true

pub nothing_loose : (o : ℕ) → IsLoose o []
nothing_loose o b = (b, refl)

-- one pair of parentheses
pub round_loose : (u v : List Token) → IsLoose 1 u → IsLoose 0 v → IsLoose 0 (word kinds.OpenRound ∷ u ++ word kinds.CloseRound ∷ v)
unfolding same count_word
round_loose u v g h b =
    let x = g false in
    let y = h true in
    (y.0, runs_on count u (word kinds.CloseRound ∷ v) (counts_of 1 0 false) (counts_of 1 0 x.0) x.1 ∙ y.1)

pub separated_loose : {A : Type 0} (Spells : List Token → A → Type 0) (o : ℕ) → ((v : List Token) (a : A) → Spells v a → IsLoose o v)
    → (u : List Token) (xs : List A) → Separated Spells kinds.Comma u xs → IsLoose o u
separated_loose Spells o each u xs (one v a h) = each v a h
separated_loose Spells o each u xs (more v w ys a g h) =
    append_loose o v (word kinds.Comma ∷ w) (separated_loose Spells o each v ys g) (other_loose o kinds.Comma w comma_other (each w a h))

-- a line without signs and its end
pub line_idle : (u : List Token) → IsLoose 0 u → IsIdle (u ++ word kinds.Semicolon ∷ [])
line_idle u h =
    let x = h false in
    runs_on count u (word kinds.Semicolon ∷ []) nothing_counted (counts_of 0 0 x.0) x.1 ∙ end_runs kinds.Semicolon semicolon_end [] (counts_of 0 0 x.0) refl

-- what stands before a body
pub opening_idle : (k : Kind) (u : List Token) → IsOther k → IsLoose 0 u → IsIdle (u ++ word k ∷ [])
opening_idle k u is h =
    let x = h false in
    runs_on count u (word k ∷ []) nothing_counted (counts_of 0 0 x.0) x.1 ∙ other_runs k is [] (counts_of 0 0 x.0)
