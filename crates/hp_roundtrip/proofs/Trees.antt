-- The tokens of a tree of each kind at a place, from the tokens of its parts.
use Rattle.std.proofs.Common.{◌≡◌, ℕ, List, [], ◌∷◌, ◌++◌, ap, ◌∙◌}
use Rattle.std.specs.List.{join_by}
use Rattle.hp_math.specs.Rational.{ℚ}
use Rattle.hp_text.specs.declared.token.Kind.TheVariants as kinds
use Rattle.hp_ast.specs.declared.printing.Place.{Place}
use Rattle.hp_ast.specs.declared.printing.Place.TheVariants.{Whole, Operand, Factor}
use Rattle.hp_tree.specs.declared.term.Term.{Term, fold-roll-Term, roll-Term, map-Term}
use Rattle.hp_tree.specs.declared.term.Term.TheOpen.{Term-F}
use Rattle.hp_ast.specs.Printing.{encloses_sum, encloses_product}
use Rattle.hp_grammar.specs.declared.symbol.Symbol.{Symbol as Token}
use Rattle.hp_grammar.specs.declared.symbol.Symbol.TheVariants.{Word as word, Name as name}
use Rattle.hp_grammar.specs.Tree.{number_of, null, named, apply, add, sub, neg, scale}
use Rattle.hp_roundtrip.specs.inner.Printed.{tokens_at, tokens_step, frac_tokens, enclosed_tokens}
use Rattle.hp_roundtrip.proofs.Joined.{join_by-map}

tokens-roll : (layer : Term-F Term) (place : Place) → tokens_at (roll-Term layer) place ≡ tokens_step (map-Term Term (Place → List Token) tokens_at layer) place
tokens-roll layer place = ap (λ f. f place) (fold-roll-Term (Place → List Token) tokens_step layer)

pub tokens-number_of : (q : ℚ) (place : Place) → tokens_at (number_of q) place ≡ enclosed_tokens (encloses_product place) (frac_tokens q)
unfolding number_of
tokens-number_of q place = tokens-roll (Term-F.Number q) place

pub tokens-null : (place : Place) → tokens_at null place ≡ word kinds.Null ∷ []
unfolding null
tokens-null place = tokens-roll Term-F.Null place

pub tokens-named : (n : List ℕ) (place : Place) → tokens_at (named n) place ≡ name n ∷ []
unfolding named
tokens-named n place = tokens-roll (Term-F.Name n) place

-- the arguments of a call, with commas between them
abbrev pub arguments_tokens : List Term → List Token
arguments_tokens = join_by (λ t. tokens_at t Whole) (word kinds.Comma ∷ [])

pub tokens-apply : (f : List ℕ) (ts : List Term) (place : Place)
    → tokens_at (apply f ts) place ≡ name f ∷ word kinds.OpenRound ∷ arguments_tokens ts ++ word kinds.CloseRound ∷ []
unfolding apply
tokens-apply f ts place =
    tokens-roll (Term-F.Apply f ts) place
    ∙ ap (λ z. name f ∷ word kinds.OpenRound ∷ z ++ word kinds.CloseRound ∷ []) (join_by-map (λ arg. arg Whole) tokens_at (word kinds.Comma ∷ []) ts)

pub tokens-add : (a b : Term) (place : Place)
    → tokens_at (add a b) place ≡ enclosed_tokens (encloses_sum place) (tokens_at a Whole ++ word kinds.Plus ∷ tokens_at b Operand)
unfolding add
tokens-add a b place = tokens-roll (Term-F.Add a b) place

pub tokens-sub : (a b : Term) (place : Place)
    → tokens_at (sub a b) place ≡ enclosed_tokens (encloses_sum place) (tokens_at a Whole ++ word kinds.Minus ∷ tokens_at b Operand)
unfolding sub
tokens-sub a b place = tokens-roll (Term-F.Sub a b) place

pub tokens-neg : (a : Term) (place : Place) → tokens_at (neg a) place ≡ enclosed_tokens (encloses_sum place) (word kinds.Minus ∷ tokens_at a Operand)
unfolding neg
tokens-neg a place = tokens-roll (Term-F.Neg a) place

pub tokens-scale : (q : ℚ) (a : Term) (place : Place)
    → tokens_at (scale q a) place ≡ enclosed_tokens (encloses_product place) (frac_tokens q ++ word kinds.Star ∷ tokens_at a Factor)
unfolding scale
tokens-scale q a place = tokens-roll (Term-F.Scale q a) place
