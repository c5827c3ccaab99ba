-- A function is by its cases, where no pair of them is met.
use Rattle.std.proofs.Common.{◌≡◌, ◌<◌, ◌≤◌, ℕ, zero, suc, ◌+◌, List, [], ◌∷◌, ◌++◌, map, length, Bool, true, false, Option, Some, None, Ok, refl, sym, ap, subst, ◌∙◌, arith, inl, inr, cond}
use Rattle.std.specs.Prelude.{slice_get, nat_eq, option_map, IsTrue}
use Rattle.std.specs.List.{All, Contains, filter}
use Rattle.std.proofs.lemmas.Bool.{and_from, eq-eqb, eqb-true, true≢false}
use Rattle.std.proofs.lemmas.List.Elements.{All-append, All-cons, All-head, All-map, All-nil, All-tail, All-weaker, Contains-append_right}
use Rattle.hp_math.specs.Rational.{lt_ℚ, ◌≤ℚ◌}
use Rattle.hp_math.proofs.Field.{by_lt_ℚ, ≤ℚ_refl}
use Rattle.hp_tree.specs.declared.problem.Atom.{Atom}
use Rattle.hp_tree.specs.declared.problem.Cmp.TheVariants.{Lt}
use Rattle.hp_tree.specs.declared.problem.Sort.TheVariants.{Num}
use Rattle.hp_tree.specs.declared.term.Term.{Apply}
use Rattle.hp_tree.specs.Value.{Word, Environment, Functions, all_true, value}
use Rattle.hp_terms.specs.Sorting.{sort_of}
use Rattle.hp_lit.specs.declared.literal.NumLit.{NumLit}
use Rattle.hp_lit.specs.Truth.{Values, NumIsTrue}
use Rattle.hp_defs.specs.declared.names.Signature.{Signature}
use Rattle.hp_defs.specs.Names.{NameList}
use Rattle.hp_class.specs.Frame.{is_function}
use Rattle.hp_class.specs.Small.{HasFewArguments}
use Rattle.hp_norm.specs.declared.flat.FlatClause.{FlatClause}
use Rattle.hp_norm.specs.Scopes.{clause_scope}
use Rattle.hp_flatten.specs.Flattening.{argument_names, argument_vars}
use Rattle.hp_flatten.specs.Laws.{AreNum, FlattenedHasOne, FlattenedIsFlat}
use Rattle.hp_cases.specs.declared.case.Bound.{Bound}
use Rattle.hp_cases.specs.declared.case.Case.{Case}
use Rattle.hp_cases.specs.Bounds.{head_bound, head_value}
use Rattle.hp_cases.specs.Cases.{AreApart, AreDisjoint, IsCaseClause, IsInOrder, IsLowerFunction, IsNumAtom, IsNumBound, IsNumCase, bound_term}
use Rattle.hp_cases.proofs.Applied.{Passes, none_lower}
use Rattle.hp_cases.proofs.Heads.{one_application}
use Rattle.hp_pairs.specs.declared.branch.Branch.{Branch}
use Rattle.hp_pairs.specs.declared.branch.Given.{Given}
use Rattle.hp_pairs.specs.Answers.{IsUnmet}
use Rattle.hp_pairs.specs.Branches.{branch_pairs, branches_of, order_pairs, overlap, pairs_behind, pairs_from}
use Rattle.hp_rules.specs.declared.ruled.CaseClause.{CaseClause}
use Rattle.hp_rules.specs.Rules.{first_row, is_num_function, rows_of, rule_words}
use Rattle.hp_ruled.specs.Laws.{FunctionsAreByCases, case_of, cases_of, clause_of, given_term}
use Rattle.hp_ruled.proofs.Applications.{all_get, num_signature}
use Rattle.hp_ruled.proofs.Branches.{BranchSays, ClauseSays, IsOf, all_say, same_signature}
use Rattle.hp_ruled.proofs.Guards.{IsBareTerm, IsRuleAtom, atom_rowed, sides_num, term_rowed}
use Rattle.hp_ruled.proofs.Numbers.{flat_names}
use Rattle.hp_ruled.proofs.Owning.{a_case}
use Rattle.hp_ruled.proofs.Placing.{Any, GapIs, HasGap}
use Rattle.hp_ruled.proofs.Sorts.{num_sorted}
use Rattle.hp_ruled.proofs.Truth.{IsRowed, num_scope, rows_split, rows_true, same_guards, values_of, words_agree}

-- ---- parts of lists
front : {X : Type 0} (P : X → Type 0) (xs ys : List X) → All P (xs ++ ys) → All P xs
front P [] ys h = All-nil P
front P (x ∷ xs) ys h = All-cons P x xs (All-head P x (xs ++ ys) h) (front P xs ys (All-tail P x (xs ++ ys) h))

back : {X : Type 0} (P : X → Type 0) (xs ys : List X) → All P (xs ++ ys) → All P ys
back P [] ys h = h
back P (x ∷ xs) ys h = back P xs ys (All-tail P x (xs ++ ys) h)

unmapped : {X Y : Type 0} (P : Y → Type 0) (f : X → Y) (xs : List X) → All P (map f xs) → All (λ x. P (f x)) xs
unmapped P f [] h = All-nil (λ x. P (f x))
unmapped P f (x ∷ xs) h = All-cons (λ z. P (f z)) x xs (All-head P (f x) (map f xs) h) (unmapped P f xs (All-tail P (f x) (map f xs) h))

filtered : {X : Type 0} (p : X → Bool) (P Q : X → Type 0) → ((x : X) → p x ≡ true → P x → Q x) → (xs : List X) → All P xs → All Q (filter p xs)
filtered p P Q f [] h = All-nil Q
filtered p P Q f (x ∷ xs) h = by (p x) refl (filtered p P Q f xs (All-tail P x xs h))
  where
    by : (b : Bool) → p x ≡ b → All Q (filter p xs) → All Q (cond b (x ∷ filter p xs) (filter p xs))
    by true e rest = All-cons Q x (filter p xs) (f x e (All-head P x xs h)) rest
    by false e rest = rest

paired : {X : Type 0} (P Q : X → Type 0) (xs : List X) → All P xs → All Q xs → All (λ x. P x × Q x) xs
paired P Q [] h g = All-nil (λ x. P x × Q x)
paired P Q (x ∷ xs) h g = All-cons (λ z. P z × Q z) x xs (All-head P x xs h, All-head Q x xs g) (paired P Q xs (All-tail P x xs h) (All-tail Q x xs g))

later : (m n : ℕ) → m ≤ n → (m ≡ n → ⊥) → suc m ≤ n
later zero zero h apart = absurd (apart refl)
later zero (suc n) h apart = omega arith
later (suc m) zero h apart = absurd (omega (arith, h))
later (suc m) (suc n) h apart = let rest = later m n (omega (arith, h)) (λ e. apart (ap suc e)) in omega (arith, rest)

within : {X : Type 0} (xs : List X) (k : ℕ) (x : X) → slice_get xs k ≡ Some x → k < length xs
within [] k x e = absurd (cc)
within (y ∷ xs) zero x e = omega arith
within (y ∷ xs) (suc k) x e = let h = within xs k x e in omega (arith, h)

module _ (names : NameList) where
  abbrev ws : List Word
  ws = rule_words names

  rowed : (n : ℕ) (atoms : List Atom) → All (IsRuleAtom names n) atoms → All (IsRowed ws) atoms
  rowed n atoms h = All-weaker (IsRuleAtom names n) (IsRowed ws) (atom_rowed names n) atoms h

  -- ---- a guard that is true
  rows_hold : (b : Branch) → BranchSays names b → (env : Environment) (functions : Functions) → IsTrue (all_true env functions b.guard) → All (NumIsTrue (values_of env ws)) b.rows
  rows_hold b says env functions t =
      (rows_true ws (values_of env ws) env functions (words_agree env ws) b.guard b.rows (rowed b.args b.guard says.has.guard) says.has.rowed).1 t

  apart : (b earlier : Branch) → BranchSays names b → BranchSays names earlier → IsUnmet (overlap b earlier) → AreApart (case_of earlier) (case_of b)
  apart b earlier says before unmet env functions s t =
      let v = values_of env ws in
      unmet v (All-append (NumIsTrue v) earlier.rows b.rows (rows_hold earlier before env functions s) (rows_hold b says env functions t))

  -- ---- bounds in order
  gap_row : (rows : List NumLit) (atom : Atom) → IsRowed ws atom → rows_of ws (atom ∷ []) ≡ Ok rows → (l : NumLit) × (rows ≡ l ∷ [])
  gap_row rows atom is e =
      let s = rows_split ws atom [] rows is.convex e in
      let none : s.rest ≡ [] = (let both : Ok [] ≡ Ok s.rest = s.more in cc) in
      (s.first, sym s.all ∙ ap (λ rs. s.first ∷ rs) none)

  module _ (b : Branch) (says : BranchSays names b) (unmet : All IsUnmet (order_pairs b b.low b.high b.gap)) where
    gap_order : (l h : Given) → b.low ≡ Some l → b.high ≡ Some h → HasGap ws b l h → (env : Environment) (functions : Functions) → IsTrue (all_true env functions b.guard)
        → value env functions l.term ≤ℚ value env functions h.term
    gap_order l h low high gap env functions t =
        let atom : Atom = record { left = h.term; cmp = Lt; right = l.term } in
        let is : IsRowed ws atom = record {
          sorted = sides_num (num_scope ws) atom (term_rowed names b.args h.term (says.has.high h high)) (term_rowed names b.args l.term (says.has.low l low));
          convex = refl;
        } in
        let r = gap_row gap.rows atom is gap.formed in
        let gap_is : b.gap ≡ Some r.0 = gap.gap ∙ ap first_row r.1 in
        let pairs : order_pairs b b.low b.high b.gap ≡ order_pairs b (Some l) (Some h) (Some r.0) = (λ i. order_pairs b (low i) (high i) (gap_is i)) in
        let never : (v : Values) → All (NumIsTrue v) (b.rows ++ r.0 ∷ []) → ⊥ = All-head IsUnmet _ [] (subst (All IsUnmet) pairs unmet) in
        let v = values_of env ws in
        by_lt_ℚ (value env functions h.term) (value env functions l.term)
        (λ less x. absurd (never v (All-append (NumIsTrue v) b.rows (r.0 ∷ []) (rows_hold b says env functions t)
        ((rows_true ws v env functions (words_agree env ws) (atom ∷ []) (r.0 ∷ []) (All-cons (IsRowed ws) atom [] is (All-nil (IsRowed ws))) (gap.formed ∙ ap (λ rows. Ok rows) r.1)).1 (and_from (lt_ℚ (value env functions h.term) (value env functions l.term)) true less refl)))))
        (λ not_less le. le)

    given_order : (l h : Given) → b.low ≡ Some l → b.high ≡ Some h → GapIs ws b l h → (env : Environment) (functions : Functions) → IsTrue (all_true env functions b.guard)
        → value env functions l.term ≤ℚ value env functions h.term
    given_order l h low high (inl same) env functions t = subst (λ z. value env functions l.term ≤ℚ value env functions z) same (≤ℚ_refl (value env functions l.term))
    given_order l h low high (inr gap) env functions t = gap_order l h low high gap env functions t

    in_order : IsInOrder (case_of b)
    in_order s t e f env functions g = by b.low b.high refl refl e f
      where
        by : (o p : Option Given) → b.low ≡ o → b.high ≡ p → option_map given_term o ≡ Some s → option_map given_term p ≡ Some t → value env functions s ≤ℚ value env functions t
        by None p low high e f = absurd (cc)
        by (Some l) None low high e f = absurd (cc)
        by (Some l) (Some h) low high e f =
            let one : l.term ≡ s = cc in
            let two : h.term ≡ t = cc in
            subst (λ z. z ≤ℚ value env functions t) (ap (value env functions) one) (subst (λ z. value env functions l.term ≤ℚ z) (ap (value env functions) two)
            (given_order l h low high (says.gapped l h low high) env functions g))

  -- ---- all cases of a function
  abbrev IsApartFrom : List Branch → Branch → Type 0
  IsApartFrom bs earlier = All (λ b. AreApart (case_of earlier) (case_of b)) bs

  pub record AreUnmet (earlier bs : List Branch) : Type 0 where
    pub from_earlier : All (IsApartFrom bs) earlier
    pub disjoint : AreDisjoint (map case_of bs)
    pub ordered : All IsInOrder (map case_of bs)

  no_others : (earlier : List Branch) → All (IsApartFrom []) earlier
  no_others [] = All-nil (IsApartFrom [])
  no_others (e ∷ earlier) = All-cons (IsApartFrom []) e earlier (All-nil (λ b. AreApart (case_of e) (case_of b))) (no_others earlier)

  overlapped : (b : Branch) (earlier : List Branch) → BranchSays names b → All (BranchSays names) earlier → All (λ e. IsUnmet (overlap b e)) earlier → All (λ e. AreApart (case_of e) (case_of b)) earlier
  overlapped b earlier says all unmet =
      All-weaker (λ e. BranchSays names e × IsUnmet (overlap b e)) (λ e. AreApart (case_of e) (case_of b)) (λ e h. apart b e says h.0 h.1) earlier
      (paired (BranchSays names) (λ e. IsUnmet (overlap b e)) earlier all unmet)

  pub all_unmet : (earlier bs : List Branch) → All (BranchSays names) earlier → All (BranchSays names) bs → All IsUnmet (pairs_behind earlier bs) → AreUnmet earlier bs
  all_unmet earlier [] before all unmet = record { from_earlier = no_others earlier; disjoint = tt; ordered = All-nil IsInOrder }
  all_unmet earlier (b ∷ bs) before all unmet =
      let says = All-head (BranchSays names) b bs all in
      let more = All-tail (BranchSays names) b bs all in
      let own = front IsUnmet (branch_pairs earlier b) (pairs_behind (earlier ++ b ∷ []) bs) unmet in
      let orders = front IsUnmet (order_pairs b b.low b.high b.gap) (map (overlap b) earlier) own in
      let overlaps = unmapped IsUnmet (overlap b) earlier (back IsUnmet (order_pairs b b.low b.high b.gap) (map (overlap b) earlier) own) in
      let rest = all_unmet (earlier ++ b ∷ []) bs (All-append (BranchSays names) earlier (b ∷ []) before (All-cons (BranchSays names) b [] says (All-nil (BranchSays names)))) more
      (back IsUnmet (branch_pairs earlier b) (pairs_behind (earlier ++ b ∷ []) bs) unmet) in
      record {
        from_earlier = All-weaker (λ e. AreApart (case_of e) (case_of b) × IsApartFrom bs e) (IsApartFrom (b ∷ bs))
            (λ e h. All-cons (λ x. AreApart (case_of e) (case_of x)) b bs h.0 h.1) earlier
            (paired (λ e. AreApart (case_of e) (case_of b)) (IsApartFrom bs) earlier (overlapped b earlier says before overlaps) (front (IsApartFrom bs) earlier (b ∷ []) rest.from_earlier));
        disjoint = (All-map (AreApart (case_of b)) case_of bs (All-head (IsApartFrom bs) b [] (back (IsApartFrom bs) earlier (b ∷ []) rest.from_earlier)), rest.disjoint);
        ordered = All-cons IsInOrder (case_of b) (map case_of bs) (in_order b says orders) rest.ordered;
      }

  pub pairs_at : (branches : List Branch) (from count func : ℕ) → from ≤ func → func < from + count → All IsUnmet (pairs_from branches from count) → All IsUnmet (pairs_behind [] (branches_of func branches))
  pairs_at branches from zero func l h unmet = absurd (omega (arith, l, h))
  pairs_at branches from (suc count) func l h unmet = by (nat_eq from func) refl (λ k. pairs_at branches (suc from) count func k (omega (arith, h)))
    where
      by : (t : Bool) → nat_eq from func ≡ t → (suc from ≤ func → All IsUnmet (pairs_from branches (suc from) count) → All IsUnmet (pairs_behind [] (branches_of func branches)))
          → All IsUnmet (pairs_behind [] (branches_of func branches))
      by true t rest =
          subst (λ f. All IsUnmet (pairs_behind [] (branches_of f branches))) (eqb-true from func t) (front IsUnmet (pairs_behind [] (branches_of from branches)) (pairs_from branches (suc from) count) unmet)
      by false t rest =
          let apart : from ≡ func → ⊥ = λ e. true≢false (sym (eq-eqb from func e) ∙ t) in
          rest (later from func l apart) (back IsUnmet (pairs_behind [] (branches_of from branches)) (pairs_from branches (suc from) count) unmet)

  -- ---- num cases
  num_bound : (n : ℕ) (o : Option Given) → ((g : Given) → o ≡ Some g → IsBareTerm (flat_names names n) g.term) → IsNumBound names [] (flat_names names n) (option_map given_term o)
  num_bound n None h = tt
  num_bound n (Some g) h = (let bare = h g refl in record { sorted = bare.sorted; lower = none_lower (Passes (is_function names [])) g.term bare.free })

  num_case : (b : Branch) → BranchSays names b → IsNumCase names b.args [] (case_of b)
  num_case b says = record {
    guard = All-weaker (IsRuleAtom names b.args) (IsNumAtom (flat_names names b.args)) (λ atom is. is.num) b.guard says.has.guard;
    low = num_bound b.args b.low says.has.low;
    high = num_bound b.args b.high says.has.high;
  }

  -- ---- clauses
  nums : (c : FlatClause) (n : ℕ) → c.vars ≡ argument_vars n → All (IsRuleAtom names n) c.guard → All (λ a. sort_of (clause_scope names c.vars) a ≡ Num) c.guard
  nums c n vars h =
      subst (λ vs. All (λ a. sort_of (clause_scope names vs) a ≡ Num) c.guard) (sym vars)
      (All-weaker (IsRuleAtom names n) (λ a. sort_of (flat_names names n) a ≡ Num) (λ a is. num_sorted (flat_names names n) a is.num.sorted) c.guard h)

  pub record Found (func : ℕ) (rows : List NumLit) (bound : Bound) (bs : List Branch) : Type 0 where
    pub branch : Branch
    pub says : BranchSays names branch
    pub is : IsOf names func rows bound branch
    pub there : Contains (cases_of func bs) (case_of branch)

  found : (func : ℕ) (rows : List NumLit) (bound : Bound) (bs : List Branch) → All (BranchSays names) bs → Any (IsOf names func rows bound) bs → Found func rows bound bs
  found func rows bound [] all any = absurd any
  found func rows bound (b ∷ bs) all (inl is) = record { branch = b; says = All-head (BranchSays names) b bs all; is = is; there = at (nat_eq b.func func) (eq-eqb b.func func is.0) }
    where
      at : (t : Bool) → t ≡ true → Contains (map case_of (cond t (b ∷ branches_of func bs) (branches_of func bs))) (case_of b)
      at true e = (zero, omega arith, refl)
      at false e = absurd (cc)
  found func rows bound (b ∷ bs) all (inr any) =
      let f = found func rows bound bs (All-tail (BranchSays names) b bs all) any in
      record { branch = f.branch; says = f.says; is = f.is; there = at (nat_eq b.func func) (case_of f.branch) f.there }
    where
      at : (t : Bool) (case : Case) → Contains (cases_of func bs) case → Contains (map case_of (cond t (b ∷ branches_of func bs) (branches_of func bs))) case
      at true case h = Contains-append_right (case_of b ∷ []) (cases_of func bs) case h
      at false case h = h

  pub clause_is : (branches : List Branch) → All (BranchSays names) branches → (k : CaseClause) → ClauseSays names branches k → (s : Signature) → slice_get names.signatures k.func ≡ Some s
      → IsCaseClause names s.name (length s.args) (cases_of k.func branches) [] k.clause
  clause_is branches all k h s there =
      let word : h.word ≡ s.name = sym (h.named s there) in
      let count : h.count ≡ length s.args = sym (h.counted s there) in
      let f = found k.func h.rows h.bound branches all h.case in
      let one = one_application h.word h.count k.clause.guard k.clause.head h.bound h.head h.one in
      record {
        flat = h.flat;
        vars = h.vars ∙ ap argument_vars count;
        bound = h.bound;
        head = ap (λ w. head_bound w k.clause.head) (sym word) ∙ h.head;
        value = ap (λ w. head_value w k.clause.head) (sym word) ∙ one.1 ∙ (λ i. Some (Apply (word i) (argument_names (count i))));
        lower = none_lower (Passes (is_function names [])) (bound_term h.bound) h.free;
        nums = nums k.clause h.count h.vars h.guard;
        bare = one.0;
        case = case_of f.branch;
        among = f.there;
        has = f.is.2;
        guard = same_guards ws k.clause.guard f.branch.guard h.rows (rowed h.count k.clause.guard h.guard) (rowed f.branch.args f.branch.guard f.says.has.guard) h.rowed (f.says.has.rowed ∙ ap (λ rows. Ok rows) f.is.1);
      }

pub functions_by_cases : FlattenedIsFlat → FlattenedHasOne → FunctionsAreByCases
functions_by_cases flatten has_one names clauses ruled are unmet func s there some =
    let all = all_say flatten has_one names clauses ruled are in
    let its = branches_of func ruled.branches in
    let num : is_num_function names (Some func) ≡ true = a_case func (λ f. is_num_function names (Some f) ≡ true) ruled.branches
    (All-weaker (BranchSays names) (λ b. is_num_function names (Some b.func) ≡ true) (λ b says. says.has.num) ruled.branches all.branches) some in
    let signature = num_signature names func num in
    let same : signature.signature ≡ s = same_signature names.signatures func signature.signature s signature.there there in
    let inside : func < length names.signatures = within names.signatures func s there in
    let say : All (BranchSays names) its = filtered (λ b. nat_eq b.func func) (BranchSays names) (BranchSays names) (λ b e h. h) ruled.branches all.branches in
    let pairs = all_unmet names [] its (All-nil (BranchSays names)) say (pairs_at names ruled.branches 0 (length names.signatures) func (omega arith) (omega (arith, inside)) unmet) in
    record {
      signature = s;
      known = there;
      name = refl;
      arguments = refl;
      nums = subst (λ (z : Signature). AreNum z.args) same signature.nums;
      result = ap (λ (z : Signature). z.result) (sym same) ∙ signature.result;
      few = all_get HasFewArguments names.signatures func s are.few there;
      constants = are.constants;
      distinct = are.made.functions;
      own = refl;
      lower = All-nil (IsLowerFunction names);
      others = refl;
      all = All-map (IsCaseClause names s.name (length s.args) (cases_of func ruled.branches) []) clause_of (filter (λ k. nat_eq k.func func) ruled.clauses)
          (filtered (λ k. nat_eq k.func func) (ClauseSays names ruled.branches) (λ k. IsCaseClause names s.name (length s.args) (cases_of func ruled.branches) [] k.clause)
          (λ k e h. let is : k.func ≡ func = eqb-true k.func func e in
          subst (λ f. IsCaseClause names s.name (length s.args) (cases_of f ruled.branches) [] k.clause) is
          (clause_is names ruled.branches all.branches k h s (ap (slice_get names.signatures) is ∙ there)))
          ruled.clauses all.clauses);
      sorted = All-map (IsNumCase names (length s.args) []) case_of its
          (filtered (λ b. nat_eq b.func func) (BranchSays names) (λ b. IsNumCase names (length s.args) [] (case_of b))
          (λ b e says. subst (λ n. IsNumCase names n [] (case_of b)) (says.has.args s (ap (slice_get names.signatures) (eqb-true b.func func e) ∙ there)) (num_case names b says))
          ruled.branches all.branches);
      apart = pairs.disjoint;
      ordered = pairs.ordered;
    }
