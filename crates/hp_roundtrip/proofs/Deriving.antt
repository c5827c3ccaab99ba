-- The tokens of a derived term derive it, at each place.
use Rattle.std.proofs.Common.{◌≡◌, List, [], ◌∷◌, ◌++◌, append-nil}
use Rattle.hp_tree.specs.declared.term.Term.{Term}
use Rattle.hp_ast.specs.declared.printing.Place.{Place}
use Rattle.hp_ast.specs.declared.printing.Place.TheVariants.{Whole, Operand, Factor}
use Rattle.hp_text.specs.declared.token.Kind.TheVariants as kinds
use Rattle.hp_grammar.specs.declared.symbol.Symbol.{Symbol as Token}
use Rattle.hp_grammar.specs.declared.symbol.Symbol.TheVariants.{Word as word}
use Rattle.hp_grammar.specs.Tree.{number_of, null, named, apply, add, sub, neg, scale}
use Rattle.hp_grammar.specs.Grammar.{SpellsTerm, SpellsPart, SpellsFactor, SpellsTerms, part, minus, sum, difference, number, product, factor, single, call, nothing, group, first, more}
use Rattle.hp_roundtrip.specs.inner.Printed.{tokens_at}
use Rattle.hp_roundtrip.proofs.Joined.{join_by-append, not_empty}
use Rattle.hp_roundtrip.proofs.Lowest.{number_derived}
use Rattle.hp_roundtrip.proofs.Trees.{arguments_tokens, tokens-number_of, tokens-null, tokens-named, tokens-apply, tokens-add, tokens-sub, tokens-neg, tokens-scale}

-- what the tokens of a tree are, at the three places
pub record IsDerived (t : Term) : Type 0 where
  pub whole : SpellsTerm (tokens_at t Whole) t
  pub operand : SpellsPart (tokens_at t Operand) t
  pub as_factor : SpellsFactor (tokens_at t Factor) t

-- a tree that stands in parentheses behind any sign
open_sum : (t : Term) (u : List Token) → tokens_at t Whole ≡ u → tokens_at t Operand ≡ word kinds.OpenRound ∷ u ++ word kinds.CloseRound ∷ []
    → tokens_at t Factor ≡ word kinds.OpenRound ∷ u ++ word kinds.CloseRound ∷ [] → SpellsTerm u t → IsDerived t
open_sum t u w o f h = record { whole = rw w h; operand = rw o (factor _ t (group u t h)); as_factor = rw f (group u t h) }

-- a tree that stands in parentheses behind the sign of a product alone
open_product : (t : Term) (u : List Token) → tokens_at t Whole ≡ u → tokens_at t Operand ≡ u
    → tokens_at t Factor ≡ word kinds.OpenRound ∷ u ++ word kinds.CloseRound ∷ [] → SpellsPart u t → IsDerived t
open_product t u w o f h = record { whole = rw w (part u t h); operand = rw o h; as_factor = rw f (group u t (part u t h)) }

-- a tree that never stands in parentheses
closed : (t : Term) (u : List Token) → ((place : Place) → tokens_at t place ≡ u) → SpellsFactor u t → IsDerived t
closed t u e h = record { whole = rw (e Whole) (part u t (factor u t h)); operand = rw (e Operand) (factor u t h); as_factor = rw (e Factor) h }

pub some_terms : (u : List Token) (ts : List Term) → SpellsTerms u ts → ts ≡ [] → ⊥
some_terms u ts (first v t h) e = absurd (cc)
some_terms u ts (more v w bs t g h) e = not_empty bs t e

mutual
  pub term_derived : (u : List Token) (t : Term) → SpellsTerm u t → IsDerived t
  term_derived u t (part v a h) = part_derived v a h
  term_derived u t (minus v a h) =
      let s = part_derived v a h in
      open_sum (neg a) _ (tokens-neg a Whole) (tokens-neg a Operand) (tokens-neg a Factor) (minus _ a s.operand)
  term_derived u t (sum v w a b g h) =
      let s = term_derived v a g in
      let r = part_derived w b h in
      open_sum (add a b) _ (tokens-add a b Whole) (tokens-add a b Operand) (tokens-add a b Factor) (sum _ _ a b s.whole r.operand)
  term_derived u t (difference v w a b g h) =
      let s = term_derived v a g in
      let r = part_derived w b h in
      open_sum (sub a b) _ (tokens-sub a b Whole) (tokens-sub a b Operand) (tokens-sub a b Factor) (difference _ _ a b s.whole r.operand)

  part_derived : (u : List Token) (t : Term) → SpellsPart u t → IsDerived t
  part_derived u t (number v q h) =
      open_product (number_of q) _ (tokens-number_of q Whole) (tokens-number_of q Operand) (tokens-number_of q Factor) (number _ q (number_derived v q h))
  part_derived u t (product v w q a g h) =
      let s = factor_derived w a h in
      open_product (scale q a) _ (tokens-scale q a Whole) (tokens-scale q a Operand) (tokens-scale q a Factor) (product _ _ q a (number_derived v q g) s.as_factor)
  part_derived u t (factor v a h) = factor_derived v a h

  factor_derived : (u : List Token) (t : Term) → SpellsFactor u t → IsDerived t
  factor_derived u t (single n) = closed (named n) _ (tokens-named n) (single n)
  factor_derived u t (call n v ts h) = closed (apply n ts) _ (tokens-apply n ts) (call n _ ts (terms_derived v ts h))
  factor_derived u t nothing = closed null _ tokens-null nothing
  factor_derived u t (group v a h) = term_derived v a h

  terms_derived : (u : List Token) (ts : List Term) → SpellsTerms u ts → SpellsTerms (arguments_tokens ts) ts
  terms_derived u ts (first v t h) = rw append-nil (first _ t (term_derived v t h).whole)
  terms_derived u ts (more v w bs t g h) =
      rw (join_by-append (λ a. tokens_at a Whole) (word kinds.Comma ∷ []) bs t (some_terms v bs g))
      (more _ _ bs t (terms_derived v bs g) (term_derived w t h).whole)
