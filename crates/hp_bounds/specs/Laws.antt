-- How little a text of some length can spell.
use Rattle.std.specs.Prelude.{◌≡◌, ℕ, ◌+◌, ◌≤◌, List, length, false}
use Rattle.std.specs.List.{All}
use Rattle.hp_tree.specs.Limits.{most_bytes}
use Rattle.hp_tree.specs.declared.problem.Clause.{Clause}
use Rattle.hp_tree.specs.declared.problem.Problem.{Problem}
use Rattle.hp_grammar.specs.Spells.{Spells}
use Rattle.hp_terms.specs.Weight.{IsLight}
use Rattle.hp_terms.specs.Words.{IsPlain, IsPlainWord, declared_word}
use Rattle.hp_names.specs.Names.{is_among}
use Rattle.hp_local.specs.Rows.{argument_words}
use Rattle.hp_bounds.specs.Depth.{IsShallow}

-- no more declarations and clauses than bytes
abbrev pub FewItems : Type 0
FewItems = (bytes : List ℕ) (p : Problem) → Spells bytes p → (length p.decls + length p.clauses) ≤ length bytes

-- where the text has at most 2^20 bytes, the numbers of each atom stay below 2*10^24 together
abbrev pub LightNumbers : Type 0
LightNumbers = (bytes : List ℕ) (p : Problem) → Spells bytes p → length bytes ≤ most_bytes → IsLight p

-- the limits on parentheses and signs leave no room for deeper terms
abbrev pub ShallowTerms : Type 0
ShallowTerms = (bytes : List ℕ) (p : Problem) → Spells bytes p → IsShallow p

-- a declared name begins with a letter, so it is no word of a definition
abbrev pub PlainNames : Type 0
PlainNames = (bytes : List ℕ) (p : Problem) → Spells bytes p → IsPlain p

-- a declared name begins with a letter, so it is no word of an argument in a table (`$1` to `$4`)
abbrev pub PlainArguments : Type 0
PlainArguments = (bytes : List ℕ) (p : Problem) → Spells bytes p → All (λ d. is_among (declared_word d) argument_words ≡ false) p.decls

-- and so does each variable
abbrev pub HasPlainVariables : Clause → Type 0
HasPlainVariables clause = All (λ v. IsPlainWord v.name) clause.vars

abbrev pub PlainVariables : Type 0
PlainVariables = (bytes : List ℕ) (p : Problem) → Spells bytes p → All HasPlainVariables p.clauses
