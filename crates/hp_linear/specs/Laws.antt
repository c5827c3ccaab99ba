-- What ties linear forms to the values of terms, and literals to comparisons of forms and to the truth of atoms.
use Rattle.std.specs.Prelude.{◌≡◌, ◌↔◌, Bool, List, true, Ok}
use Rattle.std.specs.List.{All}
use Rattle.hp_tree.specs.declared.term.Term.{Term}
use Rattle.hp_tree.specs.declared.problem.Atom.{Atom}
use Rattle.hp_tree.specs.declared.problem.Cmp.{Cmp}
use Rattle.hp_tree.specs.declared.problem.Sort.{Sort}
use Rattle.hp_tree.specs.declared.problem.Sort.TheVariants.{Num}
use Rattle.hp_tree.specs.Value.{Word, Environment, Functions, value, atom_is_true}
use Rattle.hp_terms.specs.Sorting.{forms_of, has_form, is_sorted}
use Rattle.hp_lit.specs.declared.literal.Lit.{Lit}
use Rattle.hp_lit.specs.declared.line.Lin.{Lin}
use Rattle.hp_lit.specs.Truth.{Values, LineIsTrue}
use Rattle.hp_lit.specs.Words.{Agrees, scope_over}
use Rattle.hp_lit.specs.Fit.{IsFit}
use Rattle.hp_linear.specs.Lins.{lin_of}
use Rattle.hp_linear.specs.Literals.{lin_literals, literals}
use Rattle.hp_linear.specs.Values.{Stands, lin_value}
use Rattle.hp_linear.specs.Fit.{HasNoZeros, IsLinOver, LitHasNoZeros}

-- ---- values and truth
-- a num term has the value of its form, where the words have the values of their names
abbrev pub TermsHaveLinValues : Type 0
TermsHaveLinValues = (words : List Word) (sorts : List Sort) (v : Values) (env : Environment) (functions : Functions) (term : Term) (f : Lin) → Agrees words v env
    → has_form (forms_of (scope_over words sorts) term) Num ≡ true → lin_of words term ≡ Ok f → value env functions term ≡ lin_value v f

-- one of the literals that compare two forms is true exactly where their values stand in the relation
abbrev pub LinLiteralsCompare : Type 0
LinLiteralsCompare = (v : Values) (cmp : Cmp) (left right : Lin) (lits : List Lit) → lin_literals cmp left right ≡ Ok lits
    → LineIsTrue v lits ↔ Stands cmp (lin_value v left) (lin_value v right)

-- one of the literals of an atom of num terms is true exactly where the atom is, and false for the other sign, where the
-- words have the values of their names
abbrev pub LiteralsAreTrueWithAtoms : Type 0
LiteralsAreTrueWithAtoms = (words : List Word) (sorts : List Sort) (v : Values) (env : Environment) (functions : Functions) (positive : Bool) (atom : Atom) (lits : List Lit) → Agrees words v env
    → is_sorted (scope_over words sorts) Num atom ≡ true → literals words positive atom ≡ Ok lits
    → LineIsTrue v lits ↔ (atom_is_true env functions atom ≡ positive)

-- ---- names, sorts and sizes
-- the form of a num term is over names of sort num, and none of its coefficients is 0
abbrev pub TermsHaveFitLins : Type 0
TermsHaveFitLins = (words : List Word) (sorts : List Sort) (term : Term) (f : Lin)
    → has_form (forms_of (scope_over words sorts) term) Num ≡ true → lin_of words term ≡ Ok f → IsLinOver sorts f × HasNoZeros f

-- the literals that compare two forms over names of sort num can be decided
abbrev pub LinLiteralsAreFit : Type 0
LinLiteralsAreFit = (sorts : List Sort) (cmp : Cmp) (left right : Lin) (lits : List Lit) → IsLinOver sorts left → IsLinOver sorts right
    → lin_literals cmp left right ≡ Ok lits → All (IsFit sorts) lits

-- the literals of an atom of num terms can be decided, and none of their coefficients is 0
abbrev pub LiteralsAreFit : Type 0
LiteralsAreFit = (words : List Word) (sorts : List Sort) (positive : Bool) (atom : Atom) (lits : List Lit)
    → is_sorted (scope_over words sorts) Num atom ≡ true → literals words positive atom ≡ Ok lits → All (IsFit sorts) lits × All LitHasNoZeros lits
