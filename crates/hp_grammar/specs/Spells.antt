-- What bytes spell, and what the fault of bytes is that spell nothing.
use Rattle.std.specs.Prelude.{ℕ, List, [], ◌∷◌, ◌++◌, ◌≡◌, ◌≢◌, ◌⊎◌, length, Ok, Err}
use Rattle.hp_tree.specs.declared.problem.Problem.{Problem}
use Rattle.hp_text.specs.declared.token.Token.{Token as Placed}
use Rattle.hp_text.specs.declared.token.TokenErr.{TokenErr}
use Rattle.hp_text.specs.declared.token.TokenErr.TheVariants as faults
use Rattle.hp_text.specs.Tokens.{next_from}
use Rattle.hp_text.specs.Lexes.{Passes, Lexes}
use Rattle.hp_grammar.specs.declared.fault.ReadErr.{ReadErr}
use Rattle.hp_grammar.specs.declared.fault.ReadErr.TheVariants.{Syntax, LongNumeral, Deep, Memory}
use Rattle.hp_grammar.specs.Symbols.{symbol_of, symbols}
use Rattle.hp_grammar.specs.Faults.{Begins, IsWithin, IsRefused, IsTooDeep, IsEarlyEnd}
use Rattle.hp_grammar.specs.Problems.{SpellsProblem}

-- the bytes are the tokens of a problem, with blanks and comments between them, within the limits
pub record Spells (bytes : List ℕ) (p : Problem) : Type 0 where
  pub tokens : List Placed
  pub last : Placed
  pub lexes : Lexes bytes tokens (Ok last)
  pub within : IsWithin (symbols bytes tokens)
  pub spelled : SpellsProblem (symbols bytes tokens) p

-- a token that no problem goes on with stands at the offset
pub record IsMisplaced (bytes : List ℕ) (offset : ℕ) : Type 0 where
  pub before : List Placed
  pub token : Placed
  pub place : ℕ
  pub passes : Passes bytes 0 (before ++ token ∷ []) place
  pub refused : IsRefused SpellsProblem (symbols bytes before) (symbol_of bytes token)
  pub at : token.start ≡ offset

-- a byte that begins no token stands at the offset, or a numeral that is too long
pub record IsNoToken (bytes : List ℕ) (fault : ReadErr) : Type 0 where
  pub before : List Placed
  pub place : ℕ
  pub passes : Passes bytes 0 before place
  pub next : ((offset : ℕ) × (fault ≡ Syntax offset) × (next_from bytes place ≡ Err (faults.Stray offset)))
      ⊎ ((offset : ℕ) × (fault ≡ LongNumeral offset) × (next_from bytes place ≡ Err (faults.LongNumeral offset)))
  pub within : IsWithin (symbols bytes before)
  pub begins : Begins SpellsProblem (symbols bytes before)

-- the text ends before its problem does
pub record IsUnfinished (bytes : List ℕ) (offset : ℕ) : Type 0 where
  pub tokens : List Placed
  pub last : Placed
  pub lexes : Lexes bytes tokens (Ok last)
  pub early : IsEarlyEnd SpellsProblem (symbols bytes tokens)
  pub at : length bytes ≡ offset

-- a token that the grammar allows and a limit does not stands at the offset
pub record IsPastLimit (bytes : List ℕ) (offset : ℕ) : Type 0 where
  pub before : List Placed
  pub token : Placed
  pub place : ℕ
  pub passes : Passes bytes 0 (before ++ token ∷ []) place
  pub deep : IsTooDeep SpellsProblem (symbols bytes before) (symbol_of bytes token)
  pub at : token.start ≡ offset

-- why the bytes spell no problem; want of memory says nothing of them
abbrev pub IsFault : List ℕ → ReadErr → Type 0
IsFault bytes (Syntax o) = IsMisplaced bytes o ⊎ (IsNoToken bytes (Syntax o) ⊎ IsUnfinished bytes o)
IsFault bytes (LongNumeral o) = IsNoToken bytes (LongNumeral o)
IsFault bytes (Deep o) = IsPastLimit bytes o
IsFault bytes Memory = Unit {0}

-- the bytes spell a problem, or have a fault
abbrev pub HasMeaning : List ℕ → Type 0
HasMeaning bytes = ((p : Problem) × Spells bytes p) ⊎ ((e : ReadErr) × IsFault bytes e × (e ≢ Memory))

-- the fault where no token stands
abbrev pub fault_of : TokenErr → ReadErr
fault_of (faults.Stray o) = Syntax o
fault_of (faults.LongNumeral o) = LongNumeral o
