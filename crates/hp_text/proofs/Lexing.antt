-- The tokens of a whole text: there is one list of them.
use Rattle.std.proofs.Common.{◌≡◌, ◌≢◌, ℕ, zero, suc, ◌+◌, ◌<◌, ◌≤◌, Bool, true, false, List, [], ◌∷◌, ◌++◌, length, Result, Ok, Err, refl, sym, ap, subst, ◌∙◌, arith}
use Rattle.hp_text.specs.Numeral.{numeral_value}
use Rattle.hp_text.specs.Tokens.{next_from}
use Rattle.hp_text.specs.Placed.{text_of, IsPlaced}
use Rattle.hp_text.specs.Lexes.{Passes, IsLast, HasOneLexing, name, numeral, said}
use Rattle.hp_text.specs.declared.token.Kind.{Kind}
use Rattle.hp_text.specs.declared.token.Kind.TheVariants as kinds
use Rattle.hp_text.specs.declared.token.Token.{Token}
use Rattle.hp_text.specs.declared.token.TokenErr.{TokenErr}
use Rattle.hp_text.proofs.Fronts.{next_placed}

-- tokens, and then others
pub passes_join : (bytes : List ℕ) (from mid to : ℕ) (ts us : List Token) → Passes bytes from ts mid → Passes bytes mid us to → Passes bytes from (ts ++ us) to
passes_join bytes from mid to [] us p q = subst (λ n. Passes bytes n us to) (sym p) q
passes_join bytes from mid to (t ∷ ts) us p q = (p.0, p.1, passes_join bytes t.end mid to ts us p.2 q)

-- one token more
pub passes_more : (bytes : List ℕ) (from to : ℕ) (ts : List Token) (t : Token) → Passes bytes from ts to → next_from bytes to ≡ Ok t → t.kind ≢ kinds.End → Passes bytes from (ts ++ t ∷ []) t.end
passes_more bytes from to ts t p e k = passes_join bytes from to t.end ts (t ∷ []) p (e, k, refl)

pub passes_within : (bytes : List ℕ) (from to : ℕ) (ts : List Token) → from ≤ length bytes → Passes bytes from ts to → (from ≤ to) × (to ≤ length bytes)
passes_within bytes from to [] h p = omega arith
passes_within bytes from to (t ∷ ts) h p =
    let placed : IsPlaced bytes from t = next_placed bytes from (Ok t) h (sym p.0) in
    let rest = passes_within bytes t.end to ts placed.within p.2 in (omega (arith, placed.behind, placed.order, rest.0), rest.1)

-- what is last is no token before the end
last_is_no_token : (l : Result Token TokenErr) (t : Token) → IsLast l → l ≡ Ok t → t.kind ≢ kinds.End → ⊥
last_is_no_token (Ok u) t i e k = k (let same : u ≡ t = cc in ap (λ (x : Token). x.kind) (sym same) ∙ i)
last_is_no_token (Err x) t i e k = absurd (cc)

same_from : (bytes : List ℕ) (from a b : ℕ) (ts us : List Token) (l m : Result Token TokenErr) → Passes bytes from ts a → next_from bytes a ≡ l → IsLast l
    → Passes bytes from us b → next_from bytes b ≡ m → IsLast m → (ts ≡ us) × (l ≡ m)
same_from bytes from a b [] [] l m p n i q o j = (refl, sym n ∙ ap (next_from bytes) (sym p ∙ q) ∙ o)
same_from bytes from a b [] (u ∷ us) l m p n i q o j = absurd (last_is_no_token l u i (sym n ∙ ap (next_from bytes) (sym p) ∙ q.0) q.1)
same_from bytes from a b (t ∷ ts) [] l m p n i q o j = absurd (last_is_no_token m t j (sym o ∙ ap (next_from bytes) (sym q) ∙ p.0) p.1)
same_from bytes from a b (t ∷ ts) (u ∷ us) l m p n i q o j =
    let both : ◌≡◌ {A = Result Token TokenErr} (Ok t) (Ok u) = sym p.0 ∙ q.0 in
    let same : t ≡ u = cc in
    let rest = same_from bytes t.end a b ts us l m p.2 n i (subst (λ (x : Token). Passes bytes x.end us b) (sym same) q.2) o j in
    (let tails = rest.0 in cc, rest.1)

is_end : Kind → Bool
is_end kinds.End = true
is_end k = false

end_is : (k : Kind) → is_end k ≡ true → k ≡ kinds.End
unfolding is_end
end_is kinds.End e = refl
end_is k e = absurd (cc)

no_end : (k : Kind) → is_end k ≡ false → k ≢ kinds.End
unfolding is_end
no_end k e f = let other = ap is_end f in cc

record LexesFrom (bytes : List ℕ) (from : ℕ) : Type 0 where
  pub tokens : List Token
  pub last : Result Token TokenErr
  pub place : ℕ
  pub passes : Passes bytes from tokens place
  pub next : next_from bytes place ≡ last
  pub is_last : IsLast last

found : (n : ℕ) (bytes : List ℕ) (from : ℕ) (t : Token) (v : Bool) → from ≤ length bytes → length bytes ≤ n + from → next_from bytes from ≡ Ok t → is_end t.kind ≡ v
    → ((at : ℕ) → from < at → at ≤ length bytes → LexesFrom bytes at) → LexesFrom bytes from
found n bytes from t true h few e k more = record { tokens = []; last = Ok t; place = from; passes = refl; next = e; is_last = end_is t.kind k }
found n bytes from t false h few e k more =
    let placed : IsPlaced bytes from t = next_placed bytes from (Ok t) h (sym e) in
    let moves = placed.some (no_end t.kind k) in
    let rest = more t.end (omega (arith, placed.behind, moves)) placed.within in
    record { tokens = t ∷ rest.tokens; last = rest.last; place = rest.place; passes = (e, no_end t.kind k, rest.passes); next = rest.next; is_last = rest.is_last }

found_by : (n : ℕ) (bytes : List ℕ) (from : ℕ) (r : Result Token TokenErr) → from ≤ length bytes → length bytes ≤ n + from → next_from bytes from ≡ r
    → ((at : ℕ) → from < at → at ≤ length bytes → LexesFrom bytes at) → LexesFrom bytes from
found_by n bytes from (Err x) h few e more = record { tokens = []; last = Err x; place = from; passes = refl; next = e; is_last = tt }
found_by n bytes from (Ok t) h few e more = found n bytes from t (is_end t.kind) h few e refl more

lexes_from : (n : ℕ) (bytes : List ℕ) (from : ℕ) → from ≤ length bytes → length bytes ≤ n + from → LexesFrom bytes from
lexes_from zero bytes from h few = found_by 0 bytes from (next_from bytes from) h few refl (λ at p q. absurd (omega arith))
lexes_from (suc n) bytes from h few = found_by (suc n) bytes from (next_from bytes from) h few refl (λ at p q. lexes_from n bytes at q (omega arith))

pub one_lexing : (bytes : List ℕ) → HasOneLexing bytes
one_lexing bytes = record {
  some = (let all = lexes_from (length bytes) bytes 0 (omega arith) (omega arith) in
      (all.tokens, all.last, record { place = all.place; passes = all.passes; next = all.next; is_last = all.is_last }));
  one = λ ts us l m p q. same_from bytes 0 p.place q.place ts us l m p.passes p.next p.is_last q.passes q.next q.is_last;
}

-- what a token says, by its kind
pub said_name : (bytes : List ℕ) (t : Token) → t.kind ≡ kinds.Name → said bytes t ≡ name (text_of bytes t)
unfolding said
said_name bytes t e = rw e refl

pub said_numeral : (bytes : List ℕ) (t : Token) → t.kind ≡ kinds.Numeral → said bytes t ≡ numeral (numeral_value (text_of bytes t))
unfolding said
said_numeral bytes t e = rw e refl
