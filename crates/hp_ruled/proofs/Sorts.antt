-- An atom of num terms has the sort num.
use Rattle.std.proofs.Common.{◌≡◌, List, Bool, true, false, Option, Some, None, refl, sym, ap, ◌∙◌}
use Rattle.std.specs.Prelude.{option_map, unwrap_or, if◌then◌else◌}
use Rattle.std.specs.Option.{option_or}
use Rattle.std.proofs.lemmas.Bool.{and_parts}
use Rattle.hp_tree.specs.declared.term.Term.{Term, fold-roll-Term, map-Term, roll-Term}
use Rattle.hp_tree.specs.declared.term.Term.TheOpen.{Term-F}
use Rattle.hp_tree.specs.declared.problem.Sort.{Sort}
use Rattle.hp_tree.specs.declared.problem.Sort.TheVariants.{Num, Idx, Ptr}
use Rattle.hp_tree.specs.declared.problem.Atom.{Atom}
use Rattle.hp_terms.specs.declared.forms.Forms.{Forms}
use Rattle.hp_terms.specs.Scope.{Profile, Scope}
use Rattle.hp_terms.specs.Sorting.{application_forms, first_sort, first_step, fit, forms_of, forms_step, has_form, is_sorted, no_forms, sort_forms, sort_of}
use Rattle.hp_index.proofs.Layers.{Parts, bare, by_layers}
use Rattle.hp_ruled.proofs.Guards.{num_sides}
use Rattle.hp_ruled.proofs.Numbers.{IsNumIn, at_layer, num_name}

-- none, or num
abbrev IsNumOrNone : Option Sort → Type 0
IsNumOrNone o = unwrap_or o Num ≡ Num

first_of_two : (a b : Option Sort) → IsNumOrNone a → IsNumOrNone b → IsNumOrNone (option_or a b)
first_of_two None b p q = q
first_of_two (Some sort) b p q = p

num_sort : (sort : Sort) → has_form (sort_forms sort) Num ≡ true → sort ≡ Num
num_sort Num h = refl
num_sort Idx h = absurd (cc)
num_sort Ptr h = absurd (cc)

applied : (args : List Forms) (o : Option Profile) → has_form (application_forms args o) Num ≡ true → IsNumOrNone (option_map (λ profile. profile.result) o)
applied args None h = absurd (cc)
applied args (Some profile) h = by (fit args profile.args) h
  where
    by : (b : Bool) → has_form (if b then sort_forms profile.result else no_forms) Num ≡ true → profile.result ≡ Num
    by true h = num_sort profile.result h
    by false h = absurd (cc)

module _ (scope : Scope) where
  abbrev StartsNum : Term → Type 0
  StartsNum t = IsNumIn scope t → IsNumOrNone (first_sort scope t)

  starts_step : (y : Term-F (Parts StartsNum)) → has_form (forms_step scope (map-Term Term Forms (forms_of scope) (bare StartsNum y))) Num ≡ true
      → IsNumOrNone (first_step scope (map-Term Term (Option Sort) (first_sort scope) (bare StartsNum y)))
  starts_step (Term-F.Number q) h = refl
  starts_step Term-F.Null h = absurd (cc)
  starts_step (Term-F.Name w) h = ap (λ o. unwrap_or o Num) (num_name (scope.name w) h)
  starts_step (Term-F.Apply func args) h = applied _ (scope.function func) h
  starts_step (Term-F.Add a b) h =
      let p = and_parts (forms_of scope a.0).num (forms_of scope b.0).num h in
      first_of_two (first_sort scope a.0) (first_sort scope b.0) (a.1 p.0) (b.1 p.1)
  starts_step (Term-F.Sub a b) h =
      let p = and_parts (forms_of scope a.0).num (forms_of scope b.0).num h in
      first_of_two (first_sort scope a.0) (first_sort scope b.0) (a.1 p.0) (b.1 p.1)
  starts_step (Term-F.Neg a) h = a.1 h
  starts_step (Term-F.Scale q a) h = a.1 h

  starts_layer : (y : Term-F (Parts StartsNum)) → StartsNum (roll-Term (bare StartsNum y))
  starts_layer y h =
      ap (λ o. unwrap_or o Num) (fold-roll-Term (Option Sort) (first_step scope) (bare StartsNum y))
      ∙ starts_step y (sym (at_layer scope (bare StartsNum y)) ∙ h)

  starts_num : (t : Term) → StartsNum t
  starts_num t = by_layers StartsNum starts_layer t

  pub num_sorted : (atom : Atom) → is_sorted scope Num atom ≡ true → sort_of scope atom ≡ Num
  num_sorted atom h =
      let sides = num_sides scope atom h in
      first_of_two (first_sort scope atom.left) (first_sort scope atom.right) (starts_num atom.left sides.0) (starts_num atom.right sides.1)
