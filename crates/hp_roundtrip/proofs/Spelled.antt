-- What the tokens of a printed problem are, where some text spells the problem.
use Rattle.std.proofs.Common.{◌≡◌, ℕ, ◌^◌, true, List, [], ◌∷◌, Ok, refl}
use Rattle.std.proofs.lemmas.Bool.{lt-ltb}
use Rattle.hp_tree.specs.declared.problem.Problem.{Problem}
use Rattle.hp_text.specs.declared.token.Kind.{Kind}
use Rattle.hp_text.specs.declared.token.Kind.TheVariants as kinds
use Rattle.hp_text.specs.declared.token.Token.{Token as Placed}
use Rattle.hp_text.specs.Lexes.{IsSaid, AreSaid, said_by, said, all_said}
use Rattle.hp_text.specs.Placed.{text_of}
use Rattle.hp_text.proofs.Saying.{all_say}
use Rattle.hp_grammar.specs.Token.{is_token, AreTokens}
use Rattle.hp_grammar.specs.Symbols.{symbol_by, symbol_of, symbols}
use Rattle.hp_grammar.specs.Faults.{IsWithin}
use Rattle.hp_grammar.specs.Problems.{SpellsProblem}
use Rattle.hp_grammar.specs.Spells.{Spells}
use Rattle.hp_roundtrip.specs.inner.Printed.{problem_tokens}
use Rattle.hp_roundtrip.proofs.Derived.{problem_derived}
use Rattle.hp_roundtrip.proofs.Real.{problem_real}
use Rattle.hp_roundtrip.proofs.Within.{problem_within}

-- ---- the tokens of a text
kind_real : (k : Kind) (text : List ℕ) → IsSaid (said_by k text) → is_token (symbol_by k text) ≡ true
kind_real kinds.Name text h = h
kind_real kinds.Numeral text h = lt-ltb _ (10 ^ 18) h
kind_real kinds.End text h = h
kind_real k text h = refl

symbol_real : (bytes : List ℕ) (t : Placed) → IsSaid (said bytes t) → is_token (symbol_of bytes t) ≡ true
unfolding said symbol_of
symbol_real bytes t h = kind_real t.kind (text_of bytes t) h

symbols_real : (bytes : List ℕ) (ts : List Placed) → AreSaid (all_said bytes ts) → AreTokens (symbols bytes ts)
symbols_real bytes [] h = tt
symbols_real bytes (t ∷ ts) h = (symbol_real bytes t h.0, symbols_real bytes ts h.1)

-- ---- the tokens of the printed problem
pub record IsSpelledByTokens (p : Problem) : Type 0 where
  pub derived : SpellsProblem (problem_tokens p) p
  pub real : AreTokens (problem_tokens p)
  pub within : IsWithin (problem_tokens p)

pub spelled_by_tokens : (bytes : List ℕ) (p : Problem) → Spells bytes p → IsSpelledByTokens p
spelled_by_tokens bytes p s = record {
  derived = problem_derived (symbols bytes s.tokens) p s.spelled;
  real = problem_real (symbols bytes s.tokens) p s.spelled (symbols_real bytes s.tokens (all_say bytes s.tokens (Ok s.last) s.lexes));
  within = problem_within (symbols bytes s.tokens) p s.spelled s.within;
}
