-- Fronts of lists of tokens: of two lists between places of a text one is a front of the other, and what
-- holds of a list of tokens that a problem begins with, or that is within the limits, holds of its fronts.
use Rattle.std.proofs.Common.{◌≡◌, ◌≢◌, ℕ, List, [], ◌∷◌, ◌++◌, Option, Some, Result, Ok, refl, sym, ap, subst, ◌∙◌, append_assoc, ◌⊎◌, inl, inr}
use Rattle.hp_tree.specs.declared.problem.Problem.{Problem}
use Rattle.hp_text.specs.declared.token.Kind.TheVariants as kinds
use Rattle.hp_text.specs.declared.token.Token.{Token as Placed}
use Rattle.hp_text.specs.declared.token.TokenErr.{TokenErr}
use Rattle.hp_text.specs.Tokens.{next_from}
use Rattle.hp_text.specs.Lexes.{Passes}
use Rattle.hp_grammar.specs.declared.symbol.Symbol.{Symbol as Token}
use Rattle.hp_grammar.specs.Runs.{◌and_then◌, runs}
use Rattle.hp_grammar.specs.Counts.{count, nothing_counted}
use Rattle.hp_grammar.specs.Faults.{IsWithin}
use Rattle.hp_grammar.specs.Problems.{SpellsProblem}
use Rattle.hp_grammar.proofs.Machines.{bound}

-- one list goes on where the other ends, at a place
pub record GoesOn (bytes : List ℕ) (ts us : List Placed) (place : ℕ) : Type 0 where
  pub token : Placed
  pub rest : List Placed
  pub all : us ≡ ts ++ token ∷ rest
  pub next : next_from bytes place ≡ Ok token
  pub some : token.kind ≢ kinds.End

-- two lists are one, up to one place, or one of them is a front of the other
abbrev pub Compared : List ℕ → List Placed → List Placed → ℕ → ℕ → Type 0
Compared bytes ts us a b = ((ts ≡ us) × (a ≡ b)) ⊎ (GoesOn bytes ts us a ⊎ GoesOn bytes us ts b)

goes_on_behind : (bytes : List ℕ) (t : Placed) (ts us : List Placed) (a : ℕ) → GoesOn bytes ts us a → GoesOn bytes (t ∷ ts) (t ∷ us) a
goes_on_behind bytes t ts us a g = record { token = g.token; rest = g.rest; all = ap (λ z. t ∷ z) g.all; next = g.next; some = g.some }

compared_behind : (bytes : List ℕ) (t : Placed) (ts us : List Placed) (a b : ℕ) → Compared bytes ts us a b → Compared bytes (t ∷ ts) (t ∷ us) a b
compared_behind bytes t ts us a b (inl e) = inl (ap (λ z. t ∷ z) e.0, e.1)
compared_behind bytes t ts us a b (inr (inl g)) = inr (inl (goes_on_behind bytes t ts us a g))
compared_behind bytes t ts us a b (inr (inr g)) = inr (inr (goes_on_behind bytes t us ts b g))

pub compare : (bytes : List ℕ) (from a b : ℕ) (ts us : List Placed) → Passes bytes from ts a → Passes bytes from us b → Compared bytes ts us a b
compare bytes from a b [] [] p q = inl (refl, sym p ∙ q)
compare bytes from a b [] (u ∷ us) p q = inr (inl (record { token = u; rest = us; all = refl; next = ap (next_from bytes) (sym p) ∙ q.0; some = q.1 }))
compare bytes from a b (t ∷ ts) [] p q = inr (inr (record { token = t; rest = ts; all = refl; next = ap (next_from bytes) (sym q) ∙ p.0; some = p.1 }))
compare bytes from a b (t ∷ ts) (u ∷ us) p q =
    let both : ◌≡◌ {A = Result Placed TokenErr} (Ok t) (Ok u) = sym p.0 ∙ q.0 in
    let same : t ≡ u = cc in
    let rest = compare bytes t.end a b ts us p.2 (subst (λ (x : Placed). Passes bytes x.end us b) (sym same) q.2) in
    subst (λ x. Compared bytes (t ∷ ts) (x ∷ us) a b) same (compared_behind bytes t ts us a b rest)

-- the last of the tokens is the next one behind the others
pub record Parts (bytes : List ℕ) (from : ℕ) (ts : List Placed) (t : Placed) : Type 0 where
  pub place : ℕ
  pub passes : Passes bytes from ts place
  pub next : next_from bytes place ≡ Ok t
  pub some : t.kind ≢ kinds.End

pub parts : (bytes : List ℕ) (from to : ℕ) (ts : List Placed) (t : Placed) → Passes bytes from (ts ++ t ∷ []) to → Parts bytes from ts t
parts bytes from to [] t p = record { place = from; passes = refl; next = p.0; some = p.1 }
parts bytes from to (u ∷ ts) t p =
    let rest = parts bytes u.end to ts t p.2 in
    record { place = rest.place; passes = (p.0, p.1, rest.passes); next = rest.next; some = rest.some }

-- some problem begins with the tokens
abbrev pub Opens : List Token → Type 0
Opens u = (v : List Token) × (p : Problem) × SpellsProblem (u ++ v) p

pub front_opens : (u v : List Token) → Opens (u ++ v) → Opens u
front_opens u v h = (v ++ h.0, h.1, subst (λ z. SpellsProblem z h.1) (append_assoc u v h.0) h.2)

runs_front : {S : Type 0} (next : S → Token → Option S) (u v : List Token) (s a : S) → runs next s (u ++ v) ≡ Some a → (b : S) × (runs next s u ≡ Some b)
runs_front next [] v s a e = (s, refl)
runs_front next (k ∷ u) v s a e =
    let b = bound (next s k) (λ n. runs next n (u ++ v)) a e in
    let rest = runs_front next u v b.0 a b.2 in
    (rest.0, ap (λ o. o and_then λ n. runs next n u) b.1 ∙ rest.1)

pub front_within : (u v : List Token) → IsWithin (u ++ v) → IsWithin u
front_within u v h = runs_front count u v nothing_counted h.0 h.1
