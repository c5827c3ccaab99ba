-- The rules on sorts: the sorts whose terms a term is one of, and the sort that an atom has, each by one layer at a time.
use Rattle.std.specs.Prelude.{List, [], ◌∷◌, Bool, true, false, ◌&&◌, ◌||◌, if◌then◌else◌, Option, Some, None, option_map, unwrap_or}
use Rattle.std.specs.Option.{option_or}
use Rattle.hp_math.specs.Rational.{ℚ, is_whole}
use Rattle.hp_tree.specs.declared.term.Term.{Term, fold-Term}
use Rattle.hp_tree.specs.declared.term.Term.TheOpen.{Term-F}
use Rattle.hp_tree.specs.declared.problem.Sort.{Sort}
use Rattle.hp_tree.specs.declared.problem.Sort.TheVariants.{Num, Idx, Ptr}
use Rattle.hp_tree.specs.declared.problem.Cmp.{Cmp}
use Rattle.hp_tree.specs.declared.problem.Cmp.TheVariants.{Le, Lt, Eq, Ne, Ge, Gt}
use Rattle.hp_tree.specs.declared.problem.Atom.{Atom}
use Rattle.hp_terms.specs.declared.forms.Forms.{Forms}
use Rattle.hp_terms.specs.Scope.{Profile, Scope}

-- ---- terms

abbrev pub no_forms : Forms
no_forms = record { num = false; idx = false; ptr = false; whole = false }

abbrev pub sort_forms : Sort → Forms
sort_forms Num = record { num = true; idx = false; ptr = false; whole = false }
sort_forms Idx = record { num = false; idx = true; ptr = false; whole = false }
sort_forms Ptr = record { num = false; idx = false; ptr = true; whole = false }

abbrev pub has_form : Forms → Sort → Bool
has_form forms Num = forms.num
has_form forms Idx = forms.idx
has_form forms Ptr = forms.ptr

abbrev pub name_forms : Option Sort → Forms
name_forms None = no_forms
name_forms (Some sort) = sort_forms sort

-- any number is a num term, a whole number is an idx term too, and some numbers may stand for pointers
abbrev pub number_forms : (ℚ → Bool) → ℚ → Forms
number_forms pointer value = record { num = true; idx = is_whole value; ptr = pointer value; whole = is_whole value }

-- each argument has the sort of its place
abbrev pub fit : List Forms → List Sort → Bool
fit [] [] = true
fit [] (sort ∷ sorts) = false
fit (arg ∷ args) [] = false
fit (arg ∷ args) (sort ∷ sorts) = has_form arg sort && fit args sorts

abbrev pub application_forms : List Forms → Option Profile → Forms
application_forms args None = no_forms
application_forms args (Some profile) = if fit args profile.args then sort_forms profile.result else no_forms

-- num terms are added; to an idx term a whole number is added, on either side
abbrev pub sum_forms : Forms → Forms → Forms
sum_forms left right = record { num = left.num && right.num; idx = (left.idx && right.whole) || (left.whole && right.idx); ptr = false; whole = false }

-- num terms are subtracted; from an idx term a whole number is subtracted
abbrev pub difference_forms : Forms → Forms → Forms
difference_forms left right = record { num = left.num && right.num; idx = left.idx && right.whole; ptr = false; whole = false }

-- of idx terms a whole number alone is negated
abbrev pub negation_forms : Forms → Forms
negation_forms inner = record { num = inner.num; idx = inner.whole; ptr = false; whole = false }

abbrev pub multiple_forms : Forms → Forms
multiple_forms inner = record { num = inner.num; idx = false; ptr = false; whole = false }

abbrev pub forms_step : Scope → Term-F Forms → Forms
forms_step scope (Term-F.Number value) = number_forms scope.pointer value
forms_step scope Term-F.Null = sort_forms Ptr
forms_step scope (Term-F.Name name) = name_forms (scope.name name)
forms_step scope (Term-F.Apply func args) = application_forms args (scope.function func)
forms_step scope (Term-F.Add left right) = sum_forms left right
forms_step scope (Term-F.Sub left right) = difference_forms left right
forms_step scope (Term-F.Neg inner) = negation_forms inner
forms_step scope (Term-F.Scale value inner) = multiple_forms inner

-- the sorts whose terms a term is one of
abbrev pub forms_of : Scope → Term → Forms
forms_of scope = fold-Term Forms (forms_step scope)

-- the sort of the first name, application or null of a term that is no part of an argument
abbrev pub first_step : Scope → Term-F (Option Sort) → Option Sort
first_step scope (Term-F.Number value) = None
first_step scope Term-F.Null = Some Ptr
first_step scope (Term-F.Name name) = scope.name name
first_step scope (Term-F.Apply func args) = option_map (λ profile. profile.result) (scope.function func)
first_step scope (Term-F.Add left right) = option_or left right
first_step scope (Term-F.Sub left right) = option_or left right
first_step scope (Term-F.Neg inner) = inner
first_step scope (Term-F.Scale value inner) = inner

abbrev pub first_sort : Scope → Term → Option Sort
first_sort scope = fold-Term (Option Sort) (first_step scope)

-- ---- atoms

-- an atom without a name, an application or null is one of num terms
abbrev pub sort_of : Scope → Atom → Sort
sort_of scope atom = unwrap_or (option_or (first_sort scope atom.left) (first_sort scope atom.right)) Num

abbrev pub is_equation : Cmp → Bool
is_equation Le = false
is_equation Lt = false
is_equation Eq = true
is_equation Ne = true
is_equation Ge = false
is_equation Gt = false

-- pointers are equal or not, and have no order
abbrev pub relates : Sort → Cmp → Bool
relates Num cmp = true
relates Idx cmp = true
relates Ptr cmp = is_equation cmp

-- both sides have the sort, and the relation is one of that sort
abbrev pub is_sorted : Scope → Sort → Atom → Bool
is_sorted scope sort atom = has_form (forms_of scope atom.left) sort && has_form (forms_of scope atom.right) sort && relates sort atom.cmp

-- the atom has the sort of its own first word
abbrev pub atom_is_sorted : Scope → Atom → Bool
atom_is_sorted scope atom = is_sorted scope (sort_of scope atom) atom
