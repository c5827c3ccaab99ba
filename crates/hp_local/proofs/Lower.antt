-- The rows of points and of steps apply no function.
use Rattle.std.proofs.Common.{◌≡◌, List, [], ◌∷◌, ◌++◌, map, Bool, true, false, ◌&&◌, refl, ap, ◌∙◌, sym, cond, pos}
use Rattle.std.specs.Prelude.{codes}
use Rattle.std.specs.List.{list_all}
use Rattle.hp_math.specs.Rational.{ℚ, whole, lt_ℚ, neg_ℚ}
use Rattle.hp_math.specs.Steps.{Point}
use Rattle.hp_tree.specs.declared.term.Term.{Name, Number, Neg, fold-roll-Term}
use Rattle.hp_tree.specs.declared.term.Term.TheOpen.{Term-F}
use Rattle.hp_tree.specs.declared.term.Term.TheVariants.{rolls-Number, rolls-Name, rolls-Neg}
use Rattle.hp_tree.specs.Value.{Word}
use Rattle.hp_model.specs.declared.structure.Row.{Row}
use Rattle.hp_local.specs.Applied.{applies_step, applies_only, atom_applies, row_applies}
use Rattle.hp_local.specs.Cases.{Case, case_row}
use Rattle.hp_local.specs.Fields.{field_facts}
use Rattle.hp_local.specs.Frame.{Fact}
use Rattle.hp_local.specs.Lower.{FreeTablesApplyNone, StepTablesApplyNone, FieldTablesApplyNone, CaseTablesApplyTheirs}
use Rattle.hp_local.specs.Ordered.{step_rows, last_value}
use Rattle.hp_local.specs.Rows.{number_term, argument_words, point_guard, point_row, own_facts, first_facts}

plain_number : (test : Word → Bool) (n : ℚ) → applies_only test (Number n) ≡ true
plain_number test n = ap (applies_only test) (sym (rolls-Number n)) ∙ fold-roll-Term Bool (applies_step test) (Term-F.Number n)

plain_name : (test : Word → Bool) (word : Word) → applies_only test (Name word) ≡ true
plain_name test word = ap (applies_only test) (sym (rolls-Name word)) ∙ fold-roll-Term Bool (applies_step test) (Term-F.Name word)

plain_negation : (test : Word → Bool) (n : ℚ) → applies_only test (Neg (Number n)) ≡ true
plain_negation test n = ap (applies_only test) (sym (rolls-Neg (Number n))) ∙ fold-roll-Term Bool (applies_step test) (Term-F.Neg (Number n)) ∙ plain_number test n

number_applies : (test : Word → Bool) (n : ℚ) → applies_only test (number_term n) ≡ true
number_applies test n = elim (lt_ℚ n (whole (pos 0))) as (λ b. applies_only test (cond b (Neg (Number (neg_ℚ n))) (Number n)) ≡ true) [ true ↦ plain_negation test (neg_ℚ n) | false ↦ plain_number test n ]

guard_applies : (test : Word → Bool) (words : List Word) (xs : List ℚ) → list_all (atom_applies test) (point_guard words xs) ≡ true
guard_applies test [] xs = refl
guard_applies test (w ∷ words) [] = refl
guard_applies test (w ∷ words) (x ∷ xs) = λ i. (plain_name test w i && number_applies test x i) && guard_applies test words xs i

rows_apply : (test : Word → Bool) (facts : List Fact) (rows : List Row) → list_all (row_applies test) rows ≡ true → list_all (row_applies test) (map point_row facts ++ rows) ≡ true
rows_apply test [] rows h = h
rows_apply test (k ∷ facts) rows h = λ i. (guard_applies test argument_words k.args i && number_applies test k.value i) && rows_apply test facts rows h i

point_rows_apply : (test : Word → Bool) (facts : List Fact) → list_all (row_applies test) (map point_row facts) ≡ true
point_rows_apply test [] = refl
point_rows_apply test (k ∷ facts) = λ i. (guard_applies test argument_words k.args i && number_applies test k.value i) && point_rows_apply test facts i

pub free_tables_apply_none : FreeTablesApplyNone
free_tables_apply_none test func count facts = λ i. point_rows_apply test (first_facts facts) i && plain_number test (whole (pos 0)) i

pub field_tables_apply_none : FieldTablesApplyNone
field_tables_apply_none test size gives func facts = λ i. point_rows_apply test (first_facts (field_facts size (gives func) (own_facts func facts))) i && plain_number test (whole (pos 0)) i

cases_apply : (test : Word → Bool) (cases : List Case) → list_all (row_applies test) (map case_row cases) ≡ list_all (λ case. row_applies test (case_row case)) cases
cases_apply test [] = refl
cases_apply test (case ∷ cases) = ap (λ b. row_applies test (case_row case) && b) (cases_apply test cases)

pub case_tables_apply_theirs : CaseTablesApplyTheirs
case_tables_apply_theirs test func count facts cases h = λ i. rows_apply test (first_facts facts) (map case_row cases) (cases_apply test cases ∙ h) i && plain_number test (whole (pos 0)) i

step_rows_apply : (test : Word → Bool) (points : List Point) → list_all (row_applies test) (step_rows points) ≡ true
step_rows_apply test [] = refl
step_rows_apply test (p ∷ []) = refl
step_rows_apply test (p ∷ q ∷ points) = λ i. (((plain_name test (codes "$1") i && number_applies test q.at i) && true) && number_applies test p.value i) && step_rows_apply test (q ∷ points) i

last_applies : (test : Word → Bool) (points : List Point) → applies_only test (last_value points) ≡ true
last_applies test [] = plain_number test (whole (pos 0))
last_applies test (p ∷ []) = number_applies test p.value
last_applies test (p ∷ q ∷ points) = last_applies test (q ∷ points)

pub step_tables_apply_none : StepTablesApplyNone
step_tables_apply_none test func points = λ i. step_rows_apply test points i && last_applies test points i
