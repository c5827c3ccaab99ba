-- Machines inside a machine, and what lists with a sign between their items are read as.
use Rattle.std.proofs.Common.{◌≡◌, Bool, true, false, List, [], ◌∷◌, ◌++◌, Option, Some, None, refl, ap, ◌∙◌, append_assoc, ◌⊎◌, inl, inr}
use Rattle.std.specs.Prelude.{if◌then◌else◌}
use Rattle.hp_text.specs.declared.token.Kind.{Kind}
use Rattle.hp_text.specs.declared.token.Kind.TheVariants as kinds
use Rattle.hp_grammar.specs.declared.symbol.Symbol.{Symbol as Token}
use Rattle.hp_grammar.specs.declared.symbol.Symbol.TheVariants.{Word as word, Name as name, Numeral as numeral}
use Rattle.hp_grammar.specs.Token.{same}
use Rattle.hp_grammar.specs.Bodies.{Separated, one, more}
use Rattle.hp_grammar.specs.Runs.{◌and_then◌, runs}
use Rattle.hp_read.specs.Top.{ends_with}
use Rattle.hp_grammar.proofs.Machines.{bound, runs_on}
use Rattle.hp_grammar.proofs.Symbols.{same-is}
use Rattle.hp_body.proofs.Found.{◌and◌}

pub choice : {A : Type 0} (b : Bool) (x y : Option A) (r : A) → (if b then x else y) ≡ Some r → ((b ≡ true) × (x ≡ Some r)) ⊎ ((b ≡ false) × (y ≡ Some r))
choice true x y r e = inl (refl, e)
choice false x y r e = inr (refl, e)

false_unless : (b : Bool) → (b ≡ true → ⊥) → b ≡ false
false_unless true h = absurd (h refl)
false_unless false h = refl

-- a word that a machine refuses doesn't end what it goes on with
pub goes_inside : {S : Type 0} (next : S → Token → Option S) (k : Kind) (s n : S) (t : Token) → next s (word k) ≡ None → next s t ≡ Some n → ends_with k t ≡ false
goes_inside next k s n (word l) g e = false_unless (same l k) (λ q. let z : l ≡ k = same-is l k q in cc)
goes_inside next k s n (name x) g e = refl
goes_inside next k s n (numeral x) g e = refl

pub ends_with-is : (k : Kind) (t : Token) → ends_with k t ≡ true → t ≡ word k
ends_with-is k (word l) e = ap (λ z. word z) (same-is l k e)
ends_with-is k (name x) e = absurd (cc)
ends_with-is k (numeral n) e = absurd (cc)

-- a run inside is one outside
pub lift : {S T : Type 0} (next : S → Token → Option S) (outer : T → Token → Option T) (into : S → T)
    → ((s n : S) (k : Token) → next s k ≡ Some n → outer (into s) k ≡ Some (into n))
    → (u : List Token) (s n : S) → runs next s u ≡ Some n → runs outer (into s) u ≡ Some (into n)
lift next outer into h [] s n e = let z : s ≡ n = cc in ap (λ z. Some (into z)) z
lift next outer into h (k ∷ u) s n e =
    let b = bound (next s k) (λ c. runs next c u) n e in
    ap (λ o. o and_then λ c. runs outer c u) (h s b.0 k b.1) ∙ lift next outer into h u b.0 n b.2

-- items read with commas between them, from `start` or from where one has to follow
pub record Lists {S A : Type 0} (next : S → Token → Option S) (start : S) (wants has : List A → S) (Spells : List Token → A → Type 0) : Type 0 where
  pub starts : (v : List Token) (a : A) → Spells v a → runs next start v ≡ Some (has (a ∷ []))
  pub goes : (xs : List A) (v : List Token) (a : A) → Spells v a → runs next (wants xs) v ≡ Some (has (xs ++ a ∷ []))
  pub comma : (xs : List A) → next (has xs) (word kinds.Comma) ≡ Some (wants xs)

pub list_read : {S A : Type 0} (next : S → Token → Option S) (start : S) (wants has : List A → S) (Spells : List Token → A → Type 0)
    → Lists next start wants has Spells → (u : List Token) (xs : List A) → Separated Spells kinds.Comma u xs → runs next start u ≡ Some (has xs)
list_read next start wants has Spells l u xs (one v a h) = l.starts v a h
list_read next start wants has Spells l u xs (more v w ys a g h) =
    runs_on next v (word kinds.Comma ∷ w) start (has ys) (list_read next start wants has Spells l v ys g)
    ∙ (ap (λ o. o and_then λ c. runs next c w) (l.comma ys) ∙ l.goes ys w a h)

-- items that a comma ends, if there are any
abbrev pub ListIs : {A : Type 0} → (List Token → A → Type 0) → List A → List Token → Type 0
ListIs Spells xs u = ((xs ≡ []) × (u ≡ [])) ⊎ ((v : List Token) × Separated Spells kinds.Comma v xs × (u ≡ v and word kinds.Comma))

pub listed : {A : Type 0} (Spells : List Token → A → Type 0) (xs : List A) (u v : List Token) (a : A) → ListIs Spells xs u → Spells v a
    → Separated Spells kinds.Comma (u ++ v) (xs ++ a ∷ [])
listed Spells xs u v a (inl h) k = rw (h.0, h.1) (one v a k)
listed Spells xs u v a (inr h) k = rw (h.2, append_assoc) (more h.0 v xs a h.1 k)
