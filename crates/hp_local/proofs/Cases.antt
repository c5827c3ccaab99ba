-- The law of cases.
use Rattle.std.proofs.Common.{ℕ, suc, ◌≡◌, ◌≤◌, ◌⊎◌, inl, inr, List, [], ◌∷◌, map, length, Bool, true, false, ◌||◌, IsTrue, refl, ap, ◌∙◌, sym, subst, cond, pos, arith, Option, Some, None}
use Rattle.std.specs.Prelude.{slice_index_or}
use Rattle.std.specs.Str.{bytes_eq}
use Rattle.std.specs.List.{All, Contains}
use Rattle.std.proofs.lemmas.List.Elements.{All-contains}
use Rattle.std.proofs.lemmas.Slice.Eq.{bytes_eq-Decides}
use Rattle.hp_math.specs.Rational.{ℚ, whole, le_ℚ, eq_ℚ, ◌≤ℚ◌}
use Rattle.hp_math.proofs.Field.{≤ℚ_refl}
use Rattle.hp_tree.specs.Limits.{most_arguments}
use Rattle.hp_tree.specs.declared.term.Term.{Term, Number}
use Rattle.hp_tree.specs.declared.problem.Var.{Var}
use Rattle.hp_tree.specs.Universal.{Universal, AreSorted, HoldsAll, clause_at}
use Rattle.hp_tree.specs.Value.{Word, Environment, Functions, value, all_true}
use Rattle.hp_tree.proofs.Compares.{le_ℚ-from, eq_ℚ-from}
use Rattle.hp_model.specs.Value.{rows_value, with_arguments}
use Rattle.hp_local.specs.Frame.{Fact, same_values, AreCongruent, HasPoint, with_tables, Frame}
use Rattle.hp_local.specs.Cases.{Case, case_term, case_row, case_group, Bound, Low, High, Same, bound_term, bound_is_true, IsBoundOf, bound_applies, IsOfCase, AreApart, AreDisjoint, IsInOrder, PointsAreTrue, CasesComplete}
use Rattle.hp_local.specs.Rows.{own_facts, HaveArguments}
use Rattle.hp_local.proofs.Applied.{all_local, values_are_local}
use Rattle.hp_local.proofs.Lists.{contains_first, contains_later, contains_cases, contains_none}
use Rattle.hp_local.proofs.Points.{same_values-Decides}
use Rattle.hp_local.proofs.Rows.{at_points, at_points_kept, point_rows_value, own_among, own_congruent}
use Rattle.hp_local.proofs.Steps.{same_bytes}
use Rattle.hp_local.proofs.Tests.{guarded}

-- the first true guard is that of the case whose guard is true
cases_value : (consts : Environment) (F : Functions) (cases : List Case) (last : Term) (xs : List ℚ) → AreDisjoint consts cases → (k : Case) → Contains cases k
    → IsTrue (all_true (with_arguments xs consts) F k.guard) → rows_value (with_arguments xs consts) F (map case_row cases) last ≡ value (with_arguments xs consts) F (case_term k)
cases_value consts F [] last xs d k m t = absurd (contains_none k m)
cases_value consts F (j ∷ js) last xs d k m t = by (λ n. cases_value consts F js last xs d.1 k n t) (contains_cases j js k m)
  where
    by : (Contains js k → rows_value (with_arguments xs consts) F (map case_row js) last ≡ value (with_arguments xs consts) F (case_term k))
        → (j ≡ k) ⊎ Contains js k → rows_value (with_arguments xs consts) F (map case_row (j ∷ js)) last ≡ value (with_arguments xs consts) F (case_term k)
    by rest (inl e) =
        (let u : all_true (with_arguments xs consts) F j.guard ≡ true = ap (λ z. all_true (with_arguments xs consts) F z.guard) e ∙ t in
        rw u (ap (λ z. value (with_arguments xs consts) F (case_term z)) e))
    by rest (inr n) =
        (elim (all_true (with_arguments xs consts) F j.guard) as (λ b. all_true (with_arguments xs consts) F j.guard ≡ b
        → cond b (value (with_arguments xs consts) F (case_term j)) (rows_value (with_arguments xs consts) F (map case_row js) last) ≡ value (with_arguments xs consts) F (case_term k)) [
          | true ↦ λ u. absurd (All-contains (AreApart consts j) js k d.0 n F xs u t)
          | false ↦ λ u. rest n
        ]) refl

-- the value of a case meets each of its bounds
bound_met : (N : Environment) (F : Functions) (low high : Option Term) (b : Bound) → IsBoundOf low high b
    → ((s t : Term) → low ≡ Some s → high ≡ Some t → value N F s ≤ℚ value N F t) → bound_is_true N F b (value N F (bound_term low high)) ≡ true
bound_met N F (Some s) high (Low r) e o = (let q : s ≡ r = cc in rw q (le_ℚ-from (value N F r) (value N F r) (≤ℚ_refl (value N F r))))
bound_met N F None high (Low r) e o = cc
bound_met N F (Some s) high (High r) e o = le_ℚ-from (value N F s) (value N F r) (o s r refl e)
bound_met N F None (Some t) (High r) e o = (let q : t ≡ r = cc in rw q (le_ℚ-from (value N F r) (value N F r) (≤ℚ_refl (value N F r))))
bound_met N F None None (High r) e o = cc
bound_met N F (Some s) high (Same r) e o = (let q : s ≡ r = cc in rw q (eq_ℚ-from (value N F r) (value N F r) refl))
bound_met N F None high (Same r) e o = cc

bound_local : (f g : Functions) (test : Word → Bool) (agree : (word : Word) → IsTrue (test word) → (args : List ℚ) → f word args ≡ g word args)
    → (N : Environment) (b : Bound) (v : ℚ) → IsTrue (bound_applies test b) → bound_is_true N f b v ≡ bound_is_true N g b v
bound_local f g test agree N (Low s) v h = ap (λ z. le_ℚ z v) (values_are_local N f g test agree s h)
bound_local f g test agree N (High s) v h = ap (λ z. le_ℚ v z) (values_are_local N f g test agree s h)
bound_local f g test agree N (Same s) v h = ap (λ z. eq_ℚ v z) (values_are_local N f g test agree s h)

pub sorted_length : (size : ℕ) (vs : List Var) (xs : List ℚ) → AreSorted size vs xs → length xs ≡ length vs
sorted_length size [] [] s = refl
sorted_length size [] (x ∷ xs) s = absurd s
sorted_length size (v ∷ vs) [] s = absurd s
sorted_length size (v ∷ vs) (x ∷ xs) s = ap suc (sorted_length size vs xs s.1)

-- whether a point has these arguments
found : (facts : List Fact) (xs : List ℚ) (other : ℚ) → ((k : Fact) × Contains facts k × (xs ≡ k.args)) ⊎ (at_points facts xs other ≡ other)
found [] xs other = inr refl
found (k ∷ facts) xs other =
    (elim (same_values xs k.args) as (λ b. same_values xs k.args ≡ b → ((l : Fact) × Contains (k ∷ facts) l × (xs ≡ l.args)) ⊎ (cond b k.value (at_points facts xs other) ≡ other)) [
      | true ↦ λ t. inl (k, contains_first k facts, (same_values-Decides xs k.args).0 t)
      | false ↦ λ t. later (found facts xs other)
    ]) refl
  where
    later : ((l : Fact) × Contains facts l × (xs ≡ l.args)) ⊎ (at_points facts xs other ≡ other) → ((l : Fact) × Contains (k ∷ facts) l × (xs ≡ l.args)) ⊎ (at_points facts xs other ≡ other)
    later (inl h) = inl (h.0, contains_later k facts h.0 h.1, h.2)
    later (inr h) = inr h

module _ (frame : Frame) (func : Word) (count : ℕ) (applied : Word → Bool) (cases : List Case) (clauses : List Universal)
    (small : count ≤ most_arguments) (arity : HaveArguments count (own_facts func frame.facts)) (congruent : AreCongruent frame.facts)
    (others : (word : Word) → IsTrue (applied word) → bytes_eq func word ≡ false)
    (disjoint : AreDisjoint frame.consts cases) (order : All (IsInOrder frame.consts) cases)
    (lower : Functions) (have : (k : Fact) → Contains frame.facts k → IsTrue (applied k.func) → HasPoint lower k) where
  abbrev F : Functions
  F = with_tables frame.consts lower (case_group frame func count cases clauses).tables

  abbrev zero_term : Term
  zero_term = Number (whole (pos 0))

  at_own : (xs : List ℚ) → length xs ≡ count → F func xs ≡ at_points (own_facts func frame.facts) xs (rows_value (with_arguments xs frame.consts) lower (map case_row cases) zero_term)
  at_own xs e = rw (same_bytes func) (point_rows_value frame.consts lower (own_facts func frame.facts) (map case_row cases) zero_term xs (omega arith) (λ l a. arity l a ∙ sym e))

  at_other : (word : Word) → IsTrue (applied word) → (xs : List ℚ) → F word xs ≡ lower word xs
  at_other word a xs = rw (others word a) refl

  has_own : (k : Fact) → Contains frame.facts k → IsTrue (bytes_eq func k.func) → HasPoint F k
  has_own k m o =
      let own : Contains (own_facts func frame.facts) k = own_among func frame.facts k m o in
      let e : func ≡ k.func = (bytes_eq-Decides func k.func).0 o in
      subst (λ h. F h k.args ≡ k.value) e (at_own k.args (arity k own) ∙ at_points_kept (own_facts func frame.facts) (own_congruent func frame.facts congruent) k own _)

  has_all : (k : Fact) → Contains frame.facts k → IsTrue (bytes_eq func k.func || applied k.func) → HasPoint F k
  has_all k m o =
      (elim (bytes_eq func k.func) as (λ b. bytes_eq func k.func ≡ b → IsTrue (b || applied k.func) → HasPoint F k) [
        | true ↦ λ t o. has_own k m t
        | false ↦ λ t o. at_other k.func o k.args ∙ have k m o
      ]) refl o

  holds : (u : Universal) → IsOfCase frame func count applied cases u → PointsAreTrue frame func applied u → HoldsAll frame.size frame.names F u
  holds u h points xs s =
      let len : length xs ≡ count = sorted_length frame.size u.vars xs s ∙ h.arguments in
      let N = with_arguments xs frame.consts in
      let rest = rows_value N lower (map case_row cases) zero_term in
      elim (found (own_facts func frame.facts) xs rest) [
        | inl k ↦ subst (λ z. IsTrue (clause_at frame.names F u z)) (sym k.2) (points k.0 k.1 F has_all)
        | inr e ↦ h.says F xs len ∙ guarded _ _ (λ t.
            let g : all_true N lower h.case.guard ≡ true = sym (all_local F lower applied at_other N h.case.guard h.guard_applies) ∙ t in
            let v : F func xs ≡ value N lower (case_term h.case) = at_own xs len ∙ e ∙ cases_value frame.consts lower cases zero_term xs disjoint h.case h.among g in
            bound_local F lower applied at_other N h.bound (F func xs) h.bound_applies_lower
            ∙ ap (λ z. bound_is_true N lower h.bound z) v
            ∙ bound_met N lower h.case.low h.case.high h.bound h.of_case (λ s t a b. All-contains (IsInOrder frame.consts) cases h.case order h.among s t a b lower xs g))
      ]

pub cases_complete : CasesComplete
cases_complete frame func count applied cases clauses small arity congruent others disjoint order ofs points lower have = (
  λ k d l. holds frame func count applied cases clauses small arity congruent others disjoint order lower have (slice_index_or clauses k d) (ofs k d l) (points k d l),
  λ k m i o. has_own frame func count applied cases clauses small arity congruent others disjoint order lower have k m o,
)
