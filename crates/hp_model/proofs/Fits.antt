-- What is known of constants and of tables that fit the declarations.
use Rattle.std.proofs.Common.{◌≡◌, ℕ, zero, suc, List, [], ◌∷◌, Bool, true, false, cond, IsTrue, refl, sym, subst, Option, Some}
use Rattle.std.specs.Prelude.{slice_get, slice_index_or, codes, pos}
use Rattle.std.specs.Str.{bytes_eq}
use Rattle.std.proofs.lemmas.Option.{none-some, same_Some}
use Rattle.hp_math.specs.Rational.{ℚ, whole}
use Rattle.hp_tree.specs.declared.problem.Sort.{Sort}
use Rattle.hp_tree.specs.Sorted.{is_of_sort}
use Rattle.hp_tree.specs.Value.{Word, Environment}
use Rattle.hp_terms.specs.Laws.{AreOfSort}
use Rattle.hp_model.specs.declared.structure.ConstValue.{ConstValue}
use Rattle.hp_model.specs.declared.structure.Table.{Table}
use Rattle.hp_model.specs.Declarations.{Declared, DeclaredFunction, constant_sort}
use Rattle.hp_model.specs.Scopes.{argument_sort}
use Rattle.hp_model.specs.Value.{constant, with_arguments}
use Rattle.hp_model.specs.WellFormed.{ConstantsFit, TablesFit}
use Rattle.hp_model.specs.Laws.{NoFunctionsNoTables}

-- of two values with their sorts the one that is chosen has the sort that is chosen
choice_has_sort : (size : ℕ) (b : Bool) (one other : Option Sort) (x y : ℚ) (sort : Sort) → (one ≡ Some sort → IsTrue (is_of_sort size sort x))
    → (other ≡ Some sort → IsTrue (is_of_sort size sort y)) → cond b one other ≡ Some sort → IsTrue (is_of_sort size sort (cond b x y))
choice_has_sort size true one other x y sort h k e = h e
choice_has_sort size false one other x y sort h k e = k e

-- ---- constants
pub constants_have_sorts : (size : ℕ) (ds : List Declared) (cs : List ConstValue) → ConstantsFit size ds cs → (word : Word) (sort : Sort)
    → constant_sort ds word ≡ Some sort → IsTrue (is_of_sort size sort (constant cs word))
constants_have_sorts size [] [] fit word sort e = absurd (none-some sort e)
constants_have_sorts size [] (c ∷ cs) fit word sort e = absurd fit
constants_have_sorts size (d ∷ ds) [] fit word sort e = absurd fit
constants_have_sorts size (d ∷ ds) (c ∷ cs) fit word sort e =
    subst (λ (name : Word). IsTrue (is_of_sort size sort (cond (bytes_eq name word) c.value (constant cs word)))) (sym fit.0)
    (choice_has_sort size (bytes_eq d.name word) (Some d.sort) (constant_sort ds word) c.value (constant cs word) sort
    (λ f. subst (λ (s : Sort). IsTrue (is_of_sort size s c.value)) (same_Some d.sort sort f) fit.1)
    (λ f. constants_have_sorts size ds cs fit.2 word sort f) e)

-- ---- arguments
argument_has_sort : (size : ℕ) (sorts : List Sort) (args : List ℚ) → AreOfSort size sorts args → (i : ℕ) (sort : Sort)
    → slice_get sorts i ≡ Some sort → IsTrue (is_of_sort size sort (slice_index_or args i (whole (pos 0))))
argument_has_sort size [] args fit i sort e = absurd (none-some sort e)
argument_has_sort size (s ∷ ss) [] fit i sort e = absurd fit
argument_has_sort size (s ∷ ss) (x ∷ xs) fit zero sort e = subst (λ (t : Sort). IsTrue (is_of_sort size t x)) (same_Some s sort e) fit.0
argument_has_sort size (s ∷ ss) (x ∷ xs) fit (suc i) sort e = argument_has_sort size ss xs fit.1 i sort e

pub words_have_sorts : (size : ℕ) (sorts : List Sort) (args : List ℚ) (consts : Environment) (other : Option Sort) → AreOfSort size sorts args → (word : Word) (sort : Sort)
    → (other ≡ Some sort → IsTrue (is_of_sort size sort (consts word)))
    → argument_sort sorts other word ≡ Some sort → IsTrue (is_of_sort size sort (with_arguments args consts word))
words_have_sorts size sorts args consts other fit word sort h e =
    let at : ℕ → ℚ = λ i. slice_index_or args i (whole (pos 0)) in
    let has : (i : ℕ) → slice_get sorts i ≡ Some sort → IsTrue (is_of_sort size sort (slice_index_or args i (whole (pos 0)))) = λ i. argument_has_sort size sorts args fit i sort in
    choice_has_sort size (bytes_eq word (codes "$1")) (slice_get sorts 0) _ (at 0) _ sort (has 0)
    (choice_has_sort size (bytes_eq word (codes "$2")) (slice_get sorts 1) _ (at 1) _ sort (has 1)
    (choice_has_sort size (bytes_eq word (codes "$3")) (slice_get sorts 2) _ (at 2) _ sort (has 2)
    (choice_has_sort size (bytes_eq word (codes "$4")) (slice_get sorts 3) other (at 3) (consts word) sort (has 3) h))) e

-- ---- tables
pub no_functions_no_tables : NoFunctionsNoTables
no_functions_no_tables s p e = (
  λ fit. by s.tables (subst (λ (fs : List DeclaredFunction). TablesFit s.universe p fs s.tables) e fit),
  λ f. subst (λ (fs : List DeclaredFunction). TablesFit s.universe p fs s.tables) (sym e) (subst (λ (ts : List Table). TablesFit s.universe p [] ts) (sym f) tt),
)
  where
    by : (ts : List Table) → TablesFit s.universe p [] ts → ts ≡ []
    by [] fit = refl
    by (t ∷ ts) fit = absurd fit
