-- What ties index forms and pointers to the values of terms, and literals to comparisons of forms and to the truth of atoms.
use Rattle.std.specs.Prelude.{◌≡◌, ◌≤◌, ◌↔◌, Bool, List, true}
use Rattle.std.specs.List.{All}
use Rattle.hp_tree.specs.declared.term.Term.{Term}
use Rattle.hp_tree.specs.declared.problem.Atom.{Atom}
use Rattle.hp_tree.specs.declared.problem.Cmp.{Cmp}
use Rattle.hp_tree.specs.declared.problem.Sort.{Sort}
use Rattle.hp_tree.specs.declared.problem.Sort.TheVariants.{Idx, Ptr}
use Rattle.hp_tree.specs.Value.{Word, Environment, Functions, atom_is_true, compares, value}
use Rattle.hp_terms.specs.Sorting.{forms_of, has_form, is_sorted}
use Rattle.hp_terms.specs.Weight.{IsLightAtom, IsWithin, weight}
use Rattle.hp_lit.specs.Truth.{Values, LineIsTrue, optional_value}
use Rattle.hp_lit.specs.Sorts.{HaveSorts}
use Rattle.hp_lit.specs.Words.{Agrees, scope_over}
use Rattle.hp_lit.specs.Fit.{IsFit, IsIdxSide, IsSide}
use Rattle.hp_index.specs.declared.form.IndexForm.{IndexForm}
use Rattle.hp_index.specs.Forms.{index_of}
use Rattle.hp_index.specs.Literals.{form_literals, literals}
use Rattle.hp_index.specs.Pointers.{pointer_of, ptr_literals}
use Rattle.hp_index.specs.Values.{form_value}
use Rattle.hp_index.specs.Fit.{IsFormOver, largest_side}

-- ---- values and truth
-- an idx term has the value of its form, where the words have the values of their names
abbrev pub TermsHaveFormValues : Type 0
TermsHaveFormValues = (words : List Word) (sorts : List Sort) (v : Values) (env : Environment) (functions : Functions) (term : Term) → Agrees words v env
    → has_form (forms_of (scope_over words sorts) term) Idx ≡ true → value env functions term ≡ form_value v (index_of words term)

-- one of the literals that compare two forms over names of sort idx is true exactly where their values stand in the
-- relation, where the names have values of their sorts
abbrev pub FormLiteralsCompare : Type 0
FormLiteralsCompare = (sorts : List Sort) (v : Values) (cmp : Cmp) (left right : IndexForm) → HaveSorts sorts v
    → IsIdxSide sorts left.base → IsIdxSide sorts right.base
    → LineIsTrue v (form_literals cmp left right) ↔ (compares cmp (form_value v left) (form_value v right) ≡ true)

-- one of the literals of an atom of idx terms is true exactly where the atom is, and false for the other sign, where the
-- words have the values of their names, and these are of their sorts
abbrev pub LiteralsAreTrueWithAtoms : Type 0
LiteralsAreTrueWithAtoms = (words : List Word) (sorts : List Sort) (v : Values) (env : Environment) (functions : Functions) (positive : Bool) (atom : Atom)
    → Agrees words v env → HaveSorts sorts v → is_sorted (scope_over words sorts) Idx atom ≡ true
    → LineIsTrue v (literals words positive atom) ↔ (atom_is_true env functions atom ≡ positive)

-- a ptr term has the value of its name, or that of null
abbrev pub TermsHavePointerValues : Type 0
TermsHavePointerValues = (words : List Word) (sorts : List Sort) (v : Values) (env : Environment) (functions : Functions) (term : Term) → Agrees words v env
    → has_form (forms_of (scope_over words sorts) term) Ptr ≡ true → value env functions term ≡ optional_value v (pointer_of words term)

-- the literal of an atom of ptr terms is true exactly where the atom is, and false for the other sign
abbrev pub PtrLiteralsAreTrueWithAtoms : Type 0
PtrLiteralsAreTrueWithAtoms = (words : List Word) (sorts : List Sort) (v : Values) (env : Environment) (functions : Functions) (positive : Bool) (atom : Atom)
    → Agrees words v env → is_sorted (scope_over words sorts) Ptr atom ≡ true
    → LineIsTrue v (ptr_literals words positive atom) ↔ (atom_is_true env functions atom ≡ positive)

-- ---- names, sorts and sizes
-- the number of a form is at most as large as those of its term together
abbrev pub OffsetsAreWithinWeights : Type 0
OffsetsAreWithinWeights = (words : List Word) (term : Term) → IsWithin (weight term) (index_of words term).offset

-- the form of an idx term whose numbers are not too large is over names of sort idx
abbrev pub TermsHaveFitForms : Type 0
TermsHaveFitForms = (words : List Word) (sorts : List Sort) (term : Term)
    → has_form (forms_of (scope_over words sorts) term) Idx ≡ true → weight term ≤ largest_side → IsFormOver sorts (index_of words term)

-- the literals that compare two forms over names of sort idx can be decided
abbrev pub FormLiteralsAreFit : Type 0
FormLiteralsAreFit = (sorts : List Sort) (cmp : Cmp) (left right : IndexForm) → IsFormOver sorts left → IsFormOver sorts right → All (IsFit sorts) (form_literals cmp left right)

-- the literals of an atom of idx terms whose numbers are not too large can be decided
abbrev pub LiteralsAreFit : Type 0
LiteralsAreFit = (words : List Word) (sorts : List Sort) (positive : Bool) (atom : Atom)
    → is_sorted (scope_over words sorts) Idx atom ≡ true → IsLightAtom atom → All (IsFit sorts) (literals words positive atom)

-- the name of a ptr term is one of sort ptr
abbrev pub TermsHaveFitPointers : Type 0
TermsHaveFitPointers = (words : List Word) (sorts : List Sort) (term : Term)
    → has_form (forms_of (scope_over words sorts) term) Ptr ≡ true → IsSide Ptr sorts (pointer_of words term)

-- the literal of an atom of ptr terms can be decided
abbrev pub PtrLiteralsAreFit : Type 0
PtrLiteralsAreFit = (words : List Word) (sorts : List Sort) (positive : Bool) (atom : Atom)
    → is_sorted (scope_over words sorts) Ptr atom ≡ true → All (IsFit sorts) (ptr_literals words positive atom)
