use Rattle.std.proofs.Common.{◌≡◌, map, drop}
use Rattle.hp_terms.specs.Sorting.{fit, forms_of}
use Rattle.hp_sorts.specs.Scopes.{scope_of}
use Rattle.hp_sorts.proofs.sorting.+forms.Given as goal

abbrev pub invariant-have_sorts-loop-place : goal.invariant-have_sorts-loop-place
invariant-have_sorts-loop-place l =
    fit (map (forms_of (scope_of l.tables l.vars)) l.args) l.sorts ≡ fit (map (forms_of (scope_of l.tables l.vars)) (drop l.place l.args)) (drop l.place l.sorts)
