-- Where tokens stop to be the beginning of a text, for any grammar: P are its values, Spells says which tokens spell which.
use Rattle.std.specs.Prelude.{List, [], ◌∷◌, ◌++◌, ◌≡◌, Some, None}
use Rattle.hp_grammar.specs.Token.{Token, AreTokens}
use Rattle.hp_grammar.specs.declared.counts.Counts.{Counts}
use Rattle.hp_grammar.specs.Counts.{counted}

-- some text begins with the tokens
abbrev pub Begins : {P : Type 0} → (List Token → P → Type 0) → List Token → Type 0
Begins {P} Spells u = (v : List Token) × (p : P) × AreTokens v × Spells (u ++ v) p

abbrev pub IsWithin : List Token → Type 0
IsWithin u = (c : Counts) × (counted u ≡ Some c)

-- the tokens up to k, which no text begins with
pub record IsRefused {P : Type 0} (Spells : List Token → P → Type 0) (before : List Token) (k : Token) : Type 0 where
  pub within : IsWithin before
  pub begins : Begins Spells before
  pub refused : (v : List Token) (p : P) → Spells ((before ++ k ∷ []) ++ v) p → ⊥

-- the tokens up to k, which the grammar allows and a limit does not
pub record IsTooDeep {P : Type 0} (Spells : List Token → P → Type 0) (before : List Token) (k : Token) : Type 0 where
  pub within : IsWithin before
  pub begins : Begins Spells (before ++ k ∷ [])
  pub passed : counted (before ++ k ∷ []) ≡ None

-- all tokens stand where they may, and the text is not whole
pub record IsEarlyEnd {P : Type 0} (Spells : List Token → P → Type 0) (all : List Token) : Type 0 where
  pub within : IsWithin all
  pub begins : Begins Spells all
  pub unspelled : (p : P) → Spells all p → ⊥
