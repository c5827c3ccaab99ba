-- The words of the arguments have their sorts, by the number of the arguments.
use Rattle.std.proofs.Common.{ℕ, ◌≤◌, List, [], ◌∷◌, length, refl, arith}
use Rattle.hp_tree.specs.declared.problem.Sort.{Sort}
use Rattle.hp_tree.specs.declared.problem.Problem.{Problem}
use Rattle.hp_tree.specs.Limits.{most_arguments}
use Rattle.hp_model.specs.Scopes.{table_scope}
use Rattle.hp_local.specs.Rows.{argument_words}
use Rattle.hp_local.specs.Sorts.{HaveSorts}
use Rattle.hp_local.specs.TableScopes.{TableScopesFit}

arguments_have_sorts : (size : ℕ) (p : Problem) (sorts : List Sort) (level : ℕ) → length sorts ≤ most_arguments → HaveSorts (table_scope size p sorts level) argument_words sorts
arguments_have_sorts size p [] level h = tt
arguments_have_sorts size p (a ∷ []) level h = (refl, tt)
arguments_have_sorts size p (a ∷ b ∷ []) level h = (refl, (refl, tt))
arguments_have_sorts size p (a ∷ b ∷ c ∷ []) level h = (refl, (refl, (refl, tt)))
arguments_have_sorts size p (a ∷ b ∷ c ∷ d ∷ []) level h = (refl, (refl, (refl, (refl, tt))))
arguments_have_sorts size p (a ∷ b ∷ c ∷ d ∷ e ∷ sorts) level h = absurd (omega (arith, h))

pub table_scopes_fit : TableScopesFit
table_scopes_fit size p sorts level h = record { arguments = arguments_have_sorts size p sorts level h; pointers = λ number e. e }
