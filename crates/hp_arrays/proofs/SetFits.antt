-- The index set of a group of arrays has small indexes over names, and arrays have numbers as values.
use Rattle.std.proofs.Common.{◌≡◌, ℕ, List, Some, true, subst}
use Rattle.std.specs.List.{All}
use Rattle.std.proofs.lemmas.List.Elements.{All-weaker}
use Rattle.hp_tree.specs.declared.problem.Sort.TheVariants.{Num}
use Rattle.hp_tree.specs.Value.{Word}
use Rattle.hp_terms.specs.Scope.{Profile}
use Rattle.hp_defs.specs.Fit.{IsFitNames}
use Rattle.hp_defs.specs.Made.{IsMade}
use Rattle.hp_defs.specs.Names.{NameList}
use Rattle.hp_local.specs.Frame.{is_own}
use Rattle.hp_norm.specs.declared.flat.FlatClause.{FlatClause}
use Rattle.hp_norm.specs.Flat.{IsFlat}
use Rattle.hp_norm.specs.Scopes.{function_profile}
use Rattle.hp_class.specs.Frame.{is_function}
use Rattle.hp_index_set.specs.IndexSet.{index_set}
use Rattle.hp_index_set.specs.Laws.{IsFitIndex}
use Rattle.hp_index_set.proofs.Small.{indexes_are_small}
use Rattle.hp_arrays.specs.Arrays.{IsArrayClause, IsArrayGroup}
use Rattle.hp_arrays.proofs.Own.{array_profile, array_readers, own_word, words_are}

module _ (names : NameList) (own : List ℕ) (words : List Word) (clauses : List FlatClause) (lent : IsArrayGroup names own words clauses) (made : IsMade names) where
  -- own functions give numbers
  pub own_give_numbers : (word : Word) → is_function names own word ≡ true → (p : Profile) → function_profile names word ≡ Some p → p.result ≡ Num
  own_give_numbers word e p f =
      let w = own_word names own words lent.functions word (subst (λ (ws : List Word). is_own ws word ≡ true) (words_are names own words lent.functions) e) in
      array_profile names made w.func word w.array p f

  pub set_fits : IsFitNames names → All (IsFitIndex names) (index_set own clauses names)
  set_fits fit = indexes_are_small own clauses names made fit (array_readers names own words lent.functions) (All-weaker (IsArrayClause names own) (IsFlat names) (λ c h. h.flat) clauses lent.all)
