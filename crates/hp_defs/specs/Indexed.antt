-- Names, and what finds them again: lists of words, of the cells of bodies, and of places.
use Rattle.std.specs.Prelude.{◌≡◌, ℕ, List, length, map}
use Rattle.hp_tree.specs.Value.{Word}
use Rattle.hp_defs.specs.declared.cell.Cell.{Cell}
use Rattle.hp_defs.specs.Cells.{definition_cells}
use Rattle.hp_defs.specs.Made.{IsMade}
use Rattle.hp_defs.specs.Names.{NameList, function_words, words}
use Rattle.hp_defs.specs.Places.{AreByFunction}

pub record IsIndexed (names : NameList) (word_index function_index : List Word) (definition_index : List (List Cell)) (groups : List (List ℕ)) : Type 0 where
  pub made : IsMade names
  pub by_word : word_index ≡ words names
  pub by_function : function_index ≡ function_words names
  pub by_body : definition_index ≡ map definition_cells names.definitions
  pub by_place : AreByFunction (length names.signatures) names.definitions groups
