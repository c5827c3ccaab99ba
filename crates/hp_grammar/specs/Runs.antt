-- Going on token by token, for any kind of state.
use Rattle.std.specs.Prelude.{List, [], ◌∷◌, Option, Some, None}
use Rattle.hp_grammar.specs.Token.{Token}

infixl 10 ◌and_then◌
abbrev pub ◌and_then◌ : {A B : Type 0} → Option A → (A → Option B) → Option B
None and_then f = None
(Some x) and_then f = f x

-- the state behind all the tokens, for any kind of state
abbrev pub runs : {S : Type 0} → (S → Token → Option S) → S → List Token → Option S
runs next s [] = Some s
runs next s (t ∷ ts) = next s t and_then λ n. runs next n ts
