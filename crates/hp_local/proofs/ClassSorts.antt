-- The tables of cases and of fields fit the rules on sorts.
use Rattle.std.proofs.Common.{ℕ, ◌≡◌, ◌≤◌, [], ◌∷◌, map, Bool, true, false, IsTrue, refl, sym, subst, pos}
use Rattle.std.specs.List.{All, filter}
use Rattle.std.proofs.lemmas.List.Elements.{All-append, All-map, All-contains}
use Rattle.hp_math.specs.Rational.{whole, lt_ℚ}
use Rattle.hp_tree.specs.Sorted.{is_of_sort}
use Rattle.hp_tree.specs.declared.problem.Sort.TheVariants.{Ptr}
use Rattle.hp_terms.specs.Laws.{AreOfSort}
use Rattle.hp_local.specs.Frame.{Fact}
use Rattle.hp_local.specs.Cases.{case_row}
use Rattle.hp_local.specs.Fields.{is_pointer, cut_if, IsFieldFact, field_facts}
use Rattle.hp_local.specs.Ordered.{first_argument}
use Rattle.hp_local.specs.Rows.{own_facts, point_rows}
use Rattle.hp_local.specs.Sorts.{IsSortedRow, IsSortedFact, field_sort, CaseTablesAreSorted, FieldTablesAreSorted}
use Rattle.hp_local.proofs.Fields.{cut_in}
use Rattle.hp_local.proofs.FieldTables.{cut_fact, in_universe}
use Rattle.hp_local.proofs.Lists.{All-by, filter_contains}
use Rattle.hp_local.proofs.Sorts.{point_rows_are_sorted, zero_sorted}
use Rattle.hp_local.proofs.Steps.{one_argument}

pub case_tables_are_sorted : CaseTablesAreSorted
case_tables_are_sorted size sorts result scope func count facts cases some table fit sorted = record {
  rows = All-append (IsSortedRow scope result) (point_rows facts) (map case_row cases) (point_rows_are_sorted size sorts result scope facts table fit) (All-map (IsSortedRow scope result) case_row cases sorted);
  otherwise = zero_sorted size sorts scope table some result;
}

-- the points that the table has: the argument is in the universe, and so is the value
cut_sorted : (size : ℕ) (gives : Bool) (k : Fact) → 1 ≤ size → IsFieldFact gives k → IsTrue (lt_ℚ (first_argument k.args) (whole (pos size)))
    → IsSortedFact size (Ptr ∷ []) (field_sort gives) (cut_fact size gives k)
cut_sorted size gives k some h l = record {
  args = subst (AreOfSort size (Ptr ∷ [])) (sym (one_argument k.args h.arguments)) (in_universe size (first_argument k.args) h.argument l, tt);
  value = value gives h.result;
}
  where
    value : (b : Bool) → (b ≡ true → IsTrue (is_pointer k.value)) → IsTrue (is_of_sort size (field_sort b) (cut_if size b k.value))
    value true p = cut_in size k.value some (p refl)
    value false p = refl

pub field_tables_are_sorted : FieldTablesAreSorted
field_tables_are_sorted size gives scope func facts some table fit =
    let own = own_facts func facts in
    let inside = λ (k : Fact). lt_ℚ (first_argument k.args) (whole (pos size)) in
    let sorted : All (IsSortedFact size (Ptr ∷ []) (field_sort (gives func))) (field_facts size (gives func) own) =
    All-map (IsSortedFact size (Ptr ∷ []) (field_sort (gives func))) (cut_fact size (gives func)) (filter inside own)
    (All-by (λ k. IsSortedFact size (Ptr ∷ []) (field_sort (gives func)) (cut_fact size (gives func) k)) (filter inside own) (λ k m.
    let h = filter_contains inside own k m in
    cut_sorted size (gives func) k some (All-contains (IsFieldFact (gives func)) own k fit h.0) h.1)) in
    record {
      rows = point_rows_are_sorted size (Ptr ∷ []) (field_sort (gives func)) scope (field_facts size (gives func) own) table sorted;
      otherwise = zero_sorted size (Ptr ∷ []) scope table some (field_sort (gives func));
    }
