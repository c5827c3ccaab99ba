-- Printing after reading.
use Rattle.std.specs.Prelude.{◌≡◌, ℕ, List}
use Rattle.hp_tree.specs.declared.problem.Problem.{Problem}
use Rattle.hp_ast.specs.Printing.{problem_text}
use Rattle.hp_grammar.specs.Spells.{Spells}

-- where some text spells a problem, the printed text of the problem spells it too
abbrev pub PrintedTextSpells : Type 0
PrintedTextSpells = (bytes : List ℕ) (p : Problem) → Spells bytes p → Spells (problem_text p) p

-- the text is the printed text of the problem that the bytes spell, and spells it too
pub record Reprints (bytes text : List ℕ) : Type 0 where
  pub problem : Problem
  pub spelled : Spells bytes problem
  pub printed : text ≡ problem_text problem
  pub respelled : Spells text problem
