-- Words that stand for names of sort num, and the forms of 0 and of a name.
use Rattle.std.proofs.Common.{◌≡◌, ℕ, true, ◌&&◌, pos, List, [], ◌∷◌, Option, Some, None, refl, sym, ap, ◌∙◌}
use Rattle.std.specs.Prelude.{option_and_then, option_map, position, slice_get}
use Rattle.std.specs.Str.{bytes_eq}
use Rattle.std.proofs.lemmas.Bool.{and_parts}
use Rattle.hp_math.specs.Rational.{ℚ, ratio, whole}
use Rattle.hp_tree.specs.declared.problem.Sort.{Sort}
use Rattle.hp_tree.specs.declared.problem.Sort.TheVariants.{Num, Idx, Ptr}
use Rattle.hp_tree.specs.declared.problem.Atom.{Atom}
use Rattle.hp_tree.specs.Value.{Word}
use Rattle.hp_terms.specs.Scope.{Scope}
use Rattle.hp_terms.specs.Sorting.{forms_of, has_form, is_sorted, name_forms, relates}
use Rattle.hp_lit.specs.declared.literal.Name.{Name}
use Rattle.hp_lit.specs.declared.line.LinPart.{LinPart}
use Rattle.hp_lit.specs.Words.{number, scope_over}
use Rattle.hp_linear.specs.Lins.{copies, lin_with, named_lin, number_lin, zero_lin}

-- ---- words
-- the word stands for a name of sort num
pub record IsNumWord (words : List Word) (sorts : List Sort) (word : Word) : Type 0 where
  pub name : Name
  pub numbered : number words word ≡ Some name
  pub sort : slice_get sorts name.0 ≡ Some Num

num_sort : (o : Option Sort) → has_form (name_forms o) Num ≡ true → o ≡ Some Num
num_sort None e = absurd (cc)
num_sort (Some Num) e = refl
num_sort (Some Idx) e = absurd (cc)
num_sort (Some Ptr) e = absurd (cc)

-- a word that is a num term
pub num_word : (words : List Word) (sorts : List Sort) (word : Word) → has_form (name_forms ((scope_over words sorts).name word)) Num ≡ true → IsNumWord words sorts word
num_word words sorts word e = by (position (bytes_eq word) words) refl e
  where
    by : (p : Option ℕ) → position (bytes_eq word) words ≡ p → has_form (name_forms (option_and_then (λ at. slice_get sorts at) p)) Num ≡ true → IsNumWord words sorts word
    by None f e = absurd (cc)
    by (Some k) f e = record {
      name = record { 0 = k };
      numbered = ap (option_map (λ at. record { 0 = at })) f;
      sort = num_sort (slice_get sorts k) e;
    }

-- ---- atoms
-- both sides of a num atom are num terms
pub num_sides : (scope : Scope) (atom : Atom) → is_sorted scope Num atom ≡ true → (has_form (forms_of scope atom.left) Num ≡ true) × (has_form (forms_of scope atom.right) Num ≡ true)
num_sides scope atom sorted =
    let left = has_form (forms_of scope atom.left) Num in
    let right = has_form (forms_of scope atom.right) Num in
    and_parts left right (and_parts (left && right) (relates Num atom.cmp) sorted).0

-- ---- forms
pub zero_found : (zero : ℚ) → zero ≡ ratio (pos 0) 1 → number_lin zero ≡ zero_lin
unfolding whole
zero_found zero e = ap number_lin e

pub named_found : (name : Name) (one none : ℚ) (ss : List LinPart) → one ≡ ratio (pos 1) 1 → none ≡ ratio (pos 0) 1 → ss ≡ copies name one ∷ []
    → named_lin name ≡ lin_with ss none
unfolding whole
named_found name one none ss f g h = λ i. lin_with (sym (h ∙ ap (λ q. copies name q ∷ []) f) i) (sym g i)
