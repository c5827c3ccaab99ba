-- The plan and the tables of a group of arrays.
use Rattle.std.proofs.Common.{◌≡◌, ◌≤◌, ◌<◌, ℕ, zero, suc, List, [], ◌∷◌, length, IsTrue, true, ◌&&◌, refl, sym, ap, subst, arith}
use Rattle.std.specs.List.{All, AllZip, Contains, flat_map, list_all}
use Rattle.std.proofs.lemmas.Bool.{and_parts}
use Rattle.std.proofs.lemmas.List.Elements.{All-append, All-contains, All-cons, All-head, All-map, All-nil, All-tail, All-weaker}
use Rattle.std.proofs.lemmas.Option.{slice_get_within}
use Rattle.hp_math.specs.Rational.{ℚ}
use Rattle.hp_math.specs.Steps as steps
use Rattle.hp_tree.specs.declared.problem.Sort.{Sort}
use Rattle.hp_tree.specs.declared.problem.Sort.TheVariants.{Num, Idx, Ptr}
use Rattle.hp_tree.specs.declared.problem.Var.{Var}
use Rattle.hp_tree.specs.Sorted.{is_of_sort}
use Rattle.hp_tree.specs.Value.{Word}
use Rattle.hp_terms.specs.Laws.{AreOfSort}
use Rattle.hp_lit.specs.declared.line.Arg.{Arg}
use Rattle.hp_lit.specs.Truth.{Values}
use Rattle.hp_local.specs.Ordered.{fact_point, fact_points, first_argument, in_order, step_table}
use Rattle.hp_local.specs.Sorts.{IsSortedFact, IsSortedPoint, IsTableScope}
use Rattle.hp_local.proofs.Lists.{All-by, contains_first, contains_later, map_contains}
use Rattle.hp_local.proofs.Lower.{step_tables_apply_none}
use Rattle.hp_local.proofs.Ordered.{all_in_order}
use Rattle.hp_local.proofs.Sorts.{step_tables_are_sorted}
use Rattle.hp_defs.specs.Fit.{ArgFits, IsFitNames}
use Rattle.hp_defs.specs.Made.{IsMade, IsSmallArg}
use Rattle.hp_defs.specs.Names.{NameList, sorts}
use Rattle.hp_norm.specs.declared.flat.FlatClause.{FlatClause}
use Rattle.hp_instance.specs.declared.tuple.Tuple.{Tuple}
use Rattle.hp_instance.specs.Laws.{TupleFits}
use Rattle.hp_instance.proofs.PlainTuples.{plain_tuples_fit}
use Rattle.hp_class.specs.Frame.{facts_of, is_function}
use Rattle.hp_class.specs.Group.{PlanFits, PlannedFits}
use Rattle.hp_class.specs.Law.{HasSortedPoints, IsTableAt}
use Rattle.hp_index_set.specs.IndexSet.{index_set}
use Rattle.hp_index_set.specs.Rules.{is_guard, is_head}
use Rattle.hp_flatten.specs.Sorts.{is_idx}
use Rattle.hp_index_set.specs.Laws.{IsFitIndex}
use Rattle.hp_tuples.specs.Tuples.{all_tuples, behind}
use Rattle.hp_arrays.specs.Arrays.{IsArray, IsArrayClause, IsArrayGroup, arrays_plan, arrays_tables}
use Rattle.hp_tuple_lines.specs.TupleLines.{FitsOver, shown_tuple, planned_over, tuples_plan}
use Rattle.hp_arrays.proofs.PlainReads.{reads_are_plain}
use Rattle.hp_arrays.proofs.SetFits.{set_fits}

-- ---- tables
first_sorted : (size : ℕ) (xs : List ℚ) → AreOfSort size (Idx ∷ []) xs → IsTrue (is_of_sort size Idx (first_argument xs))
first_sorted size [] h = absurd h
first_sorted size (x ∷ xs) h = h.0

array_fits : (size : ℕ) (names : NameList) (v : Values) (func : ℕ) (word : Word) → IsArray names func word → 1 ≤ size → HasSortedPoints size names v func
    → IsTableAt size names [] func (step_table word (in_order (fact_points (facts_of func word names v))))
array_fits size names v func word array some sorted =
    let s = array.signature in
    let facts = facts_of func s.name names v in
    let points : All (IsSortedFact size (Idx ∷ []) s.result) facts = subst (λ (ss : List Sort). All (IsSortedFact size ss s.result) facts) array.arguments (sorted s array.known) in
    let all : All (IsSortedPoint size Idx s.result) (fact_points facts) =
    All-map (IsSortedPoint size Idx s.result) fact_point facts (λ k d l. (let h = points k d l in record { at = first_sorted size _ h.args; value = h.value })) in
    let ordered = all_in_order (IsSortedPoint size Idx s.result) (fact_points facts) all in
    let ps : List steps.Point = in_order (fact_points facts) in
    let at : IsTableAt size names [] func (step_table s.name ps) = record {
      signature = s;
      known = array.known;
      name = refl;
      arguments = sym (ap (λ (ss : List Sort). length ss) array.arguments);
      applies = step_tables_apply_none (λ w. is_function names [] w) s.name ps;
      sorted = λ scope h. step_tables_are_sorted size Idx s.result scope s.name ps some refl
          (subst (λ (ss : List Sort). IsTableScope size ss scope) array.arguments h.arguments) ordered;
    } in
    subst (λ (w : Word). IsTableAt size names [] func (step_table w (in_order (fact_points (facts_of func w names v))))) array.name at

tables_fit : (size : ℕ) (names : NameList) (v : Values) (own : List ℕ) (words : List Word) → AllZip (IsArray names) own words → 1 ≤ size
    → ((k : ℕ) → Contains own k → HasSortedPoints size names v k) → AllZip (IsTableAt size names []) own (arrays_tables own words names v)
tables_fit size names v [] [] h some sorted = tt
tables_fit size names v [] (w ∷ ws) h some sorted = absurd h
tables_fit size names v (k ∷ ks) [] h some sorted = absurd h
tables_fit size names v (k ∷ ks) (w ∷ ws) h some sorted = (
  array_fits size names v k w h.0 some (sorted k (contains_first k ks)),
  tables_fit size names v ks ws h.1 some (λ j m. sorted j (contains_later k ks j m)),
)

pub arrays_fit : (size : ℕ) (names : NameList) (v : Values) (own : List ℕ) (words : List Word) (clauses : List FlatClause) → IsArrayGroup names own words clauses → 1 ≤ size
    → ((k : ℕ) → Contains own k → HasSortedPoints size names v k) → AllZip (IsTableAt size names []) own (arrays_tables own words names v)
arrays_fit size names v own words clauses lent some sorted = tables_fit size names v own words lent.functions some sorted

-- functions of a group are known
pub arrays_known : (names : NameList) (own : List ℕ) (words : List Word) → AllZip (IsArray names) own words → All (λ func. func < length names.signatures) own
arrays_known names [] [] h = All-nil (λ func. func < length names.signatures)
arrays_known names [] (w ∷ ws) h = absurd h
arrays_known names (k ∷ ks) [] h = absurd h
arrays_known names (k ∷ ks) (w ∷ ws) h =
    All-cons (λ func. func < length names.signatures) k ks (slice_get_within names.signatures k h.0.signature h.0.known) (arrays_known names ks ws h.1)

-- ---- the plan
module _ {X : Type 0} (Q : X → Type 0) where
  -- so many elements of which this holds
  record IsOver (n : ℕ) (t : List X) : Type 0 where
    many : length t ≡ n
    each : All Q t

  behind_over : (n : ℕ) (x : X) (ts : List (List X)) → Q x → All (IsOver n) ts → All (IsOver (suc n)) (behind ts x)
  behind_over n x [] q h = All-nil (IsOver (suc n))
  behind_over n x (t ∷ ts) q h =
      let one = All-head (IsOver n) t ts h in
      All-cons (IsOver (suc n)) (x ∷ t) (behind ts x) (record { many = ap suc one.many; each = All-cons Q x t q one.each }) (behind_over n x ts q (All-tail (IsOver n) t ts h))

  each_over : (n : ℕ) (xs : List X) (ts : List (List X)) → All Q xs → All (IsOver n) ts → All (IsOver (suc n)) (flat_map (behind ts) xs)
  each_over n [] ts q h = All-nil (IsOver (suc n))
  each_over n (x ∷ xs) ts q h =
      All-append (IsOver (suc n)) (behind ts x) (flat_map (behind ts) xs) (behind_over n x ts (All-head Q x xs q) h) (each_over n xs ts (All-tail Q x xs q) h)

  all_over : (xs : List X) → All Q xs → (n : ℕ) → All (IsOver n) (all_tuples xs n)
  all_over xs q zero = All-cons (IsOver 0) [] [] (record { many = refl; each = All-nil Q }) (All-nil (IsOver 0))
  all_over xs q (suc n) = each_over n xs (all_tuples xs n) q (all_over xs q n)

idx_sort : (s : Sort) → is_idx s ≡ true → s ≡ Idx
idx_sort Num e = absurd (cc)
idx_sort Idx e = refl
idx_sort Ptr e = absurd (cc)

-- an index for each variable
for_each : (names : NameList) (vars : List Var) (args : List Arg) → list_all (λ v. is_idx v.sort) vars ≡ true → length args ≡ length vars → All (IsFitIndex names) args
    → AllZip (λ (v : Var) x. ArgFits (sorts names) v.sort x) vars args
for_each names [] [] e many h = tt
for_each names [] (x ∷ args) e many h = absurd (omega (arith, many))
for_each names (v ∷ vars) [] e many h = absurd (omega (arith, many))
for_each names (v ∷ vars) (x ∷ args) e many h =
    let w = and_parts (is_idx v.sort) (list_all (λ (u : Var). is_idx u.sort) vars) e in (
      subst (λ s. ArgFits (sorts names) s x) (sym (idx_sort v.sort w.0)) (All-head (IsFitIndex names) x args h).fits,
      for_each names vars args w.1 (omega (arith, many)) (All-tail (IsFitIndex names) x args h),
    )

module _ (names : NameList) (own : List ℕ) (indexes : List Arg) (small : All (IsFitIndex names) indexes) where
  tuple_fits : (c : FlatClause) → IsArrayClause names own c → (args : List Arg) → IsOver (IsFitIndex names) (length c.vars) args → TupleFits names c args
  tuple_fits c h args over =
      let guards = list_all (is_guard names c) c.guard && list_all (is_head names c) c.head in
      let plain = reads_are_plain names c h.reads in
      plain_tuples_fit names c args h.flat
      (for_each names c.vars args (and_parts (list_all (λ (v : Var). is_idx v.sort) c.vars) guards h.guards).0 over.many over.each)
      (All-weaker (IsFitIndex names) IsSmallArg (λ x k. k.small) args over.each) plain.0 plain.1

  pub clause_fits : (c : FlatClause) → IsArrayClause names own c → FitsOver names indexes c
  clause_fits c h = record {
    flat = h.flat;
    few = h.few;
    tuples = All-map (λ (t : Tuple). TupleFits names c t.args) shown_tuple (all_tuples indexes (length c.vars))
        (All-weaker (IsOver (IsFitIndex names) (length c.vars)) (λ args. TupleFits names c args) (tuple_fits c h) (all_tuples indexes (length c.vars)) (all_over (IsFitIndex names) indexes small (length c.vars)));
  }

pub arrays_clauses_fit : (names : NameList) (own : List ℕ) (words : List Word) (clauses : List FlatClause) → IsArrayGroup names own words clauses → IsMade names → IsFitNames names
    → All (FitsOver names (index_set own clauses names)) clauses
arrays_clauses_fit names own words clauses lent made fit =
    let xs = index_set own clauses names in
    All-weaker (IsArrayClause names own) (FitsOver names xs) (clause_fits names own xs (set_fits names own words clauses lent made fit)) clauses lent.all

pub arrays_plan_fits : (names : NameList) (own : List ℕ) (words : List Word) (clauses : List FlatClause) → IsArrayGroup names own words clauses → IsMade names → IsFitNames names
    → PlanFits names clauses (arrays_plan own clauses names)
arrays_plan_fits names own words clauses lent made fit =
    let xs = index_set own clauses names in
    let all = arrays_clauses_fit names own words clauses lent made fit in
    All-by (PlannedFits names clauses) (tuples_plan xs clauses)
    (λ p m. (let w = map_contains (planned_over xs) clauses p m in
    let h = All-contains (FitsOver names xs) clauses w.0 all w.1 in
    subst (PlannedFits names clauses) w.2 (record { among = w.1; flat = h.flat; tuples = h.tuples })))
