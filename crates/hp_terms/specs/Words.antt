-- The words of definitions: `_1`, `_2` and so on, which no name of a text is.
use Rattle.std.specs.Prelude.{◌≡◌, ℕ, zero, suc, ◌++◌, ◌&&◌, Bool, false, nat_eq, List, [], ◌∷◌, codes}
use Rattle.std.specs.Fmt.{decimal}
use Rattle.std.specs.Str.{all_ascii_digits}
use Rattle.std.specs.List.{All}
use Rattle.hp_tree.specs.declared.problem.Decl.{Decl}
use Rattle.hp_tree.specs.declared.problem.Decl.TheVariants.{Const, Fun}
use Rattle.hp_tree.specs.declared.problem.Problem.{Problem}
use Rattle.hp_tree.specs.Value.{Word}

-- the word of the definition with this number, counted from 1
abbrev pub made_word : ℕ → Word
made_word n = codes "_" ++ decimal n

-- so many words from this number on
abbrev pub numbered : ℕ → ℕ → List Word
numbered from zero = []
numbered from (suc n) = made_word from ∷ numbered (suc from) n

-- `_` and decimal digits, or `_` alone
abbrev pub is_made_word : Word → Bool
is_made_word [] = false
is_made_word (c ∷ cs) = nat_eq c 95 && all_ascii_digits cs

abbrev pub IsPlainWord : Word → Type 0
IsPlainWord word = is_made_word word ≡ false

abbrev pub declared_word : Decl → Word
declared_word (Const name sort) = name
declared_word (Fun name args result level) = name

-- no declared name is such a word
abbrev pub IsPlain : Problem → Type 0
IsPlain p = All (λ d. IsPlainWord (declared_word d)) p.decls
