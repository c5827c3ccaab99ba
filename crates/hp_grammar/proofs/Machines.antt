-- What a machine that reads token by token gives, for any grammar that it reads.
use Rattle.std.proofs.Common.{◌≡◌, Bool, true, false, List, [], ◌∷◌, ◌++◌, Option, Some, None, refl, sym, ap, ◌∙◌, append_assoc}
use Rattle.std.specs.Prelude.{if◌then◌else◌}
use Rattle.hp_grammar.specs.Token.{Token, AreTokens}
use Rattle.hp_grammar.specs.Runs.{◌and_then◌, runs}
use Rattle.hp_grammar.specs.declared.counts.Counts.{Counts}
use Rattle.hp_grammar.specs.Counts.{counted, count, nothing_counted}
use Rattle.hp_grammar.specs.Faults.{Begins, IsWithin, IsRefused, IsTooDeep, IsEarlyEnd}

pub bound : {A B : Type 0} (o : Option A) (f : A → Option B) (b : B) → (o and_then f) ≡ Some b → (a : A) × (o ≡ Some a) × (f a ≡ Some b)
bound None f b e = absurd (cc)
bound (Some a) f b e = (a, refl, e)

-- running on
pub runs_on : {S : Type 0} (next : S → Token → Option S) (u v : List Token) (s a : S) → runs next s u ≡ Some a → runs next s (u ++ v) ≡ runs next a v
runs_on next [] v s a e = let same : s ≡ a = cc in ap (λ z. runs next z v) same
runs_on next (k ∷ u) v s a e =
    let b = bound (next s k) (λ c. runs next c u) a e in
    ap (λ o. o and_then λ c. runs next c (u ++ v)) b.1 ∙ runs_on next u v b.0 a b.2

-- and the place where the first of them end
pub runs_split : {S : Type 0} (next : S → Token → Option S) (u v : List Token) (s n : S) → runs next s (u ++ v) ≡ Some n
    → (a : S) × (runs next s u ≡ Some a) × (runs next a v ≡ Some n)
runs_split next [] v s n e = (s, refl, e)
runs_split next (k ∷ u) v s n e =
    let b = bound (next s k) (λ c. runs next c (u ++ v)) n e in
    let r = runs_split next u v b.0 n b.2 in
    (r.0, ap (λ o. o and_then λ c. runs next c u) b.1 ∙ r.1, r.2)

-- a step that a test let through
pub tested : {A B : Type 0} (b : Bool) (a : A) (f : A → Option B) (c : B) → ((if b then Some a else None) and_then f) ≡ Some c → (b ≡ true) × (f a ≡ Some c)
tested true a f c e = (refl, e)
tested false a f c e = absurd (cc)

pub runs_one : {S : Type 0} (next : S → Token → Option S) (s n : S) (k : Token) → next s k ≡ Some n → runs next s (k ∷ []) ≡ Some n
runs_one next s n k e = ap (λ o. o and_then λ c. Some c) e

pub runs_none : {S : Type 0} (next : S → Token → Option S) (s : S) (k : Token) (v : List Token) → next s k ≡ None → runs next s (k ∷ v) ≡ None
runs_none next s k v e = ap (λ o. o and_then λ c. runs next c v) e

-- the text that ends behind a state, if one does
abbrev pub result_of : {S P : Type 0} → (S → Token → Option S) → (S → Option P) → S → List Token → Option P
result_of next accept s u = runs next s u and_then accept

pub are_both : (u v : List Token) → AreTokens u → AreTokens v → AreTokens (u ++ v)
are_both [] v h k = k
are_both (t ∷ u) v h k = (h.0, are_both u v h.1 k)

-- a machine that reads a grammar, and can be led to an end from each of its states
pub record Reads {S P : Type 0} (next : S → Token → Option S) (accept : S → Option P) (start : S) (Spells : List Token → P → Type 0) : Type 0 where
  pub found : (u : List Token) (p : P) → result_of next accept start u ≡ Some p → Spells u p
  pub only : (u : List Token) (p : P) → Spells u p → result_of next accept start u ≡ Some p
  pub ends : (s : S) → (v : List Token) × (p : P) × AreTokens v × (result_of next accept s v ≡ Some p)

module _ {S P : Type 0} (next : S → Token → Option S) (accept : S → Option P) (start : S) (Spells : List Token → P → Type 0) (machine : Reads next accept start Spells) where
  -- no tokens spell two things
  pub one_value : (u : List Token) (p q : P) → Spells u p → Spells u q → p ≡ q
  one_value u p q g h = let a = machine.only u p g in let b = machine.only u q h in cc

  pub begins : (u : List Token) (s : S) → runs next start u ≡ Some s → Begins Spells u
  begins u s e =
      let k = machine.ends s in
      (k.0, k.1, k.2, machine.found (u ++ k.0) k.1 (ap (λ o. o and_then accept) (runs_on next u k.0 start s e) ∙ k.3))

  stuck : (u : List Token) (s : S) (k : Token) → runs next start u ≡ Some s → next s k ≡ None → (v : List Token) (p : P) → Spells ((u ++ k ∷ []) ++ v) p → ⊥
  stuck u s k e g v p h =
      let a = machine.only _ p h in
      let b : runs next start ((u ++ k ∷ []) ++ v) ≡ None =
      ap (runs next start) (append_assoc u (k ∷ []) v) ∙ (runs_on next u (k ∷ v) start s e ∙ runs_none next s k v g) in
      let c : (None and_then accept) ≡ Some p = sym (ap (λ o. o and_then accept) b) ∙ a in
      cc

  within : (u : List Token) (c : Counts) → counted u ≡ Some c → IsWithin u
  within u c e = (c, e)

  -- the three faults at a token or at the end, at the states that the reader has come to
  pub refused_at : (u : List Token) (s : S) (c : Counts) (k : Token) → runs next start u ≡ Some s → counted u ≡ Some c → next s k ≡ None
      → IsRefused Spells u k
  refused_at u s c k e g h = record { within = (c, g); begins = begins u s e; refused = stuck u s k e h }

  pub deep_at : (u : List Token) (s n : S) (c : Counts) (k : Token) → runs next start u ≡ Some s → counted u ≡ Some c → next s k ≡ Some n → count c k ≡ None
      → IsTooDeep Spells u k
  deep_at u s n c k e g h d = record {
    within = (c, g);
    begins = begins (u ++ k ∷ []) n (runs_on next u (k ∷ []) start s e ∙ runs_one next s n k h);
    passed = runs_on count u (k ∷ []) nothing_counted c g ∙ runs_none count c k [] d;
  }

  pub early_at : (u : List Token) (s : S) (c : Counts) → runs next start u ≡ Some s → counted u ≡ Some c → accept s ≡ None → IsEarlyEnd Spells u
  early_at u s c e g h = record {
    within = (c, g);
    begins = begins u s e;
    unspelled = λ p k.
        let a = machine.only u p k in
        let b : (Some s and_then accept) ≡ Some p = sym (ap (λ o. o and_then accept) e) ∙ a in
        cc;
  }
