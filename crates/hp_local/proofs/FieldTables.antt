-- The law of fields.
use Rattle.std.proofs.Common.{ℕ, ◌≡◌, ◌≤◌, inl, inr, List, [], ◌∷◌, map, length, Bool, true, false, ◌&&◌, ◌||◌, IsTrue, refl, ap, ◌∙◌, sym, subst, cond, pos, arith, append-nil}
use Rattle.std.specs.Prelude.{slice_index_or}
use Rattle.std.specs.Str.{bytes_eq}
use Rattle.std.specs.List.{All, Contains, filter}
use Rattle.std.proofs.lemmas.List.Elements.{All-contains, All-head, All-tail}
use Rattle.std.proofs.lemmas.Slice.Eq.{bytes_eq-Decides}
use Rattle.hp_math.specs.Rational.{ℚ, whole, lt_ℚ, le_ℚ, is_whole}
use Rattle.hp_tree.specs.Sorted.{is_of_sort}
use Rattle.hp_tree.specs.declared.term.Term.{Number}
use Rattle.hp_tree.specs.declared.problem.Var.{Var}
use Rattle.hp_tree.specs.declared.problem.Sort.TheVariants.{Ptr}
use Rattle.hp_tree.specs.Universal.{Universal, assign, AreSorted, HoldsAll}
use Rattle.hp_tree.specs.Value.{Word, Environment, Functions}
use Rattle.hp_model.specs.Value.{rows_value, with_arguments}
use Rattle.hp_local.specs.Frame.{is_own, is_variable, Fact, same_values, with_points, AreCongruent, HasPoint, with_tables, Frame}
use Rattle.hp_local.specs.Fields.{cut_if, is_pointer, AreCut, field_facts, field_table, IsFieldPoint, field_scope, IsFieldClause, PointersAreTrue, FieldsComplete}
use Rattle.hp_local.specs.Ordered.{first_argument}
use Rattle.hp_local.specs.Rows.{own_facts, HaveArguments, point_rows}
use Rattle.hp_local.proofs.Tests.{both}
use Rattle.hp_local.proofs.Fields.{in_kept, fields_stay_true}
use Rattle.hp_local.proofs.Lists.{contains_first, contains_later, map_contains, filter_contains}
use Rattle.hp_local.proofs.Points.{same_values-Decides}
use Rattle.hp_local.proofs.Rows.{at_points, at_points_kept, point_rows_value, own_among, own_congruent}
use Rattle.hp_local.proofs.Sorts.{zero_fits}
use Rattle.hp_local.proofs.Steps.{one_argument, same_bytes}
use Rattle.hp_local.proofs.Tables.{own_tables, other_tables}
use Rattle.hp_local.proofs.Terms.{number_value}

-- ---- the rows
cut_zero : (size : ℕ) (gives : Bool) → 1 ≤ size → cut_if size gives (whole (pos 0)) ≡ whole (pos 0)
cut_zero size true h = in_kept size (whole (pos 0)) (zero_fits size Ptr h)
cut_zero size false h = refl

abbrev pub cut_fact : ℕ → Bool → Fact → Fact
cut_fact size gives k = record { func = k.func; args = k.args; value = cut_if size gives k.value }

-- at a pointer of the universe the points that were left out make no difference
field_value : (size : ℕ) (gives : Bool) (facts : List Fact) (x : ℚ) → lt_ℚ x (whole (pos size)) ≡ true → 1 ≤ size
    → at_points (field_facts size gives facts) (x ∷ []) (whole (pos 0)) ≡ cut_if size gives (at_points facts (x ∷ []) (whole (pos 0)))
field_value size gives [] x t s = sym (cut_zero size gives s)
field_value size gives (k ∷ facts) x t s =
    let rest = field_value size gives facts x t s in
    (elim (same_values (x ∷ []) k.args) as (λ b. same_values (x ∷ []) k.args ≡ b
    → at_points (field_facts size gives (k ∷ facts)) (x ∷ []) (whole (pos 0)) ≡ cut_if size gives (cond b k.value (at_points facts (x ∷ []) (whole (pos 0))))) [
      | true ↦ λ u. (
          let e : x ∷ [] ≡ k.args = (same_values-Decides (x ∷ []) k.args).0 u in
          let l : lt_ℚ (first_argument k.args) (whole (pos size)) ≡ true = ap (λ z. lt_ℚ (first_argument z) (whole (pos size))) (sym e) ∙ t in
          rw (l, u) refl)
      | false ↦ λ u. (elim (lt_ℚ (first_argument k.args) (whole (pos size))) as (λ b. at_points (map (cut_fact size gives) (cond b (k ∷ filter (λ k. lt_ℚ (first_argument k.args) (whole (pos size))) facts) (filter (λ k. lt_ℚ (first_argument k.args) (whole (pos size))) facts))) (x ∷ []) (whole (pos 0))
          ≡ cut_if size gives (at_points facts (x ∷ []) (whole (pos 0)))) [
            | true ↦ rw u rest
            | false ↦ rest
          ])
    ]) refl

field_arguments : (size : ℕ) (gives : Bool) (facts : List Fact) → HaveArguments 1 facts → HaveArguments 1 (field_facts size gives facts)
field_arguments size gives facts h k m =
    let j = map_contains (cut_fact size gives) (filter (λ k. lt_ℚ (first_argument k.args) (whole (pos size))) facts) k m in
    ap (λ z. length z.args) (sym j.2) ∙ h j.0 (filter_contains (λ k. lt_ℚ (first_argument k.args) (whole (pos size))) facts j.0 j.1).0

-- ---- the points of the group over the functions below
abbrev group_facts : List Word → List Fact → List Fact
group_facts fs facts = filter (λ k. is_own fs k.func) facts

abbrev without : List Word → Functions → Functions
without fs lower f xs = cond (is_own fs f) (whole (pos 0)) (lower f xs)

-- of an own function: the first of its points
points_own : (base : Functions) (fs : List Word) (facts : List Fact) (f : Word) (xs : List ℚ) → IsTrue (is_own fs f) → with_points base (group_facts fs facts) f xs ≡ at_points (own_facts f facts) xs (base f xs)
points_own base fs [] f xs o = refl
points_own base fs (k ∷ facts) f xs o =
    (elim (bytes_eq k.func f) as (λ b. bytes_eq k.func f ≡ b → with_points base (group_facts fs (k ∷ facts)) f xs ≡ at_points (own_facts f (k ∷ facts)) xs (base f xs)) [
      | true ↦ λ t. (
          let e : k.func ≡ f = (bytes_eq-Decides k.func f).0 t in
          let u : is_own fs k.func ≡ true = ap (is_own fs) e ∙ o in
          let w : bytes_eq f k.func ≡ true = (bytes_eq-Decides f k.func).1 (sym e) in
          rw (u, w, t) (ap (λ z. cond (same_values xs k.args) k.value z) (points_own base fs facts f xs o)))
      | false ↦ λ t. (
          let w : bytes_eq f k.func ≡ false = not_same t in
          rw w (elim (is_own fs k.func) as (λ b. with_points base (cond b (k ∷ group_facts fs facts) (group_facts fs facts)) f xs ≡ at_points (own_facts f facts) xs (base f xs)) [
            | true ↦ rw t (points_own base fs facts f xs o)
            | false ↦ points_own base fs facts f xs o
          ]))
    ]) refl
  where
    not_same : bytes_eq k.func f ≡ false → bytes_eq f k.func ≡ false
    not_same t = (elim (bytes_eq f k.func) as (λ b. bytes_eq f k.func ≡ b → b ≡ false) [
      | true ↦ λ u. (let v : bytes_eq k.func f ≡ true = (bytes_eq-Decides k.func f).1 (sym ((bytes_eq-Decides f k.func).0 u)) in cc)
      | false ↦ λ u. refl
    ]) refl

points_other : (base : Functions) (fs : List Word) (facts : List Fact) (f : Word) (xs : List ℚ) → is_own fs f ≡ false → with_points base (group_facts fs facts) f xs ≡ base f xs
points_other base fs [] f xs o = refl
points_other base fs (k ∷ facts) f xs o =
    (elim (is_own fs k.func) as (λ b. is_own fs k.func ≡ b → with_points base (cond b (k ∷ group_facts fs facts) (group_facts fs facts)) f xs ≡ base f xs) [
      | true ↦ λ t. (
          let w : bytes_eq k.func f ≡ false = apart t in
          rw w (points_other base fs facts f xs o))
      | false ↦ λ t. points_other base fs facts f xs o
    ]) refl
  where
    apart : is_own fs k.func ≡ true → bytes_eq k.func f ≡ false
    apart t = (elim (bytes_eq k.func f) as (λ b. bytes_eq k.func f ≡ b → b ≡ false) [
      | true ↦ λ u. (let v : is_own fs k.func ≡ is_own fs f = ap (is_own fs) ((bytes_eq-Decides k.func f).0 u) in cc)
      | false ↦ λ u. refl
    ]) refl

at_points_is : (Q : ℚ → Type 0) (facts : List Fact) (xs : List ℚ) (other : ℚ) → ((k : Fact) → Contains facts k → Q k.value) → Q other → Q (at_points facts xs other)
at_points_is Q [] xs other h q = q
at_points_is Q (k ∷ facts) xs other h q =
    elim (same_values xs k.args) as (λ b. Q (cond b k.value (at_points facts xs other))) [
      | true ↦ h k (contains_first k facts)
      | false ↦ at_points_is Q facts xs other (λ l m. h l (contains_later k facts l m)) q
    ]

-- ---- pointers of the universe
below_size : (size : ℕ) (x : ℚ) → IsTrue (is_of_sort size Ptr x) → lt_ℚ x (whole (pos size)) ≡ true
below_size size x h = (both (is_whole x && le_ℚ (whole (pos 0)) x) (lt_ℚ x (whole (pos size))) h).1

pub in_universe : (size : ℕ) (x : ℚ) → IsTrue (is_pointer x) → IsTrue (lt_ℚ x (whole (pos size))) → IsTrue (is_of_sort size Ptr x)
in_universe size x h l =
    let k = both (is_whole x) (le_ℚ (whole (pos 0)) x) h in
    let a : is_whole x ≡ true = k.0 in
    let b : le_ℚ (whole (pos 0)) x ≡ true = k.1 in
    let c : lt_ℚ x (whole (pos size)) ≡ true = l in
    rw (a, b, c) refl

null_pointer : (size : ℕ) → 1 ≤ size → IsTrue (is_pointer (whole (pos 0)))
null_pointer size h = (both (is_whole (whole (pos 0)) && le_ℚ (whole (pos 0)) (whole (pos 0))) (lt_ℚ (whole (pos 0)) (whole (pos size))) (zero_fits size Ptr h)).0

assign_in : (size : ℕ) (constant : Word → Bool) (names : Environment) → ((n : Word) → IsTrue (constant n) → IsTrue (is_of_sort size Ptr (names n)))
    → (vs : List Var) (xs : List ℚ) → All (λ v. v.sort ≡ Ptr) vs → AreSorted size vs xs → (n : Word) → IsTrue (is_variable vs n || constant n) → IsTrue (is_of_sort size Ptr (assign vs xs names n))
assign_in size constant names h [] xs p s n t = h n t
assign_in size constant names h (v ∷ vs) [] p s n t = absurd s
assign_in size constant names h (v ∷ vs) (x ∷ xs) p s n t =
    (elim (bytes_eq v.name n) as (λ b. IsTrue ((b || is_variable vs n) || constant n) → IsTrue (is_of_sort size Ptr (cond b x (assign vs xs names n)))) [
      | true ↦ λ t. subst (λ z. IsTrue (is_of_sort size z x)) (All-head (λ (v : Var). v.sort ≡ Ptr) v vs p) s.0
      | false ↦ λ t. assign_in size constant names h vs xs (All-tail (λ (v : Var). v.sort ≡ Ptr) v vs p) s.1 n t
    ]) t

-- ---- the law
module _ (frame : Frame) (gives constant applied : Word → Bool) (fs : List Word) (some : 1 ≤ frame.size) (congruent : AreCongruent frame.facts)
    (fields : (f : Word) → IsTrue (is_own fs f) → All (IsFieldPoint frame (gives f)) (own_facts f frame.facts))
    (others : (word : Word) → IsTrue (applied word) → is_own fs word ≡ false)
    (constants_in : (n : Word) → IsTrue (constant n) → IsTrue (is_of_sort frame.size Ptr (frame.names n)))
    (lower : Functions) (have : (k : Fact) → Contains frame.facts k → IsTrue (applied k.func) → HasPoint lower k) where
  abbrev F : Functions
  F = with_tables frame.consts lower (map (field_table frame.size gives frame.facts) fs)

  abbrev P : Functions
  P = with_points (without fs lower) (group_facts fs frame.facts)

  abbrev own : Word → List Fact
  own f = own_facts f frame.facts

  field : (f : Word) → IsTrue (is_own fs f) → (k : Fact) → Contains (own f) k → IsFieldPoint frame (gives f) k
  field f o k m = All-contains (IsFieldPoint frame (gives f)) (own f) k (fields f o) m

  F_own : (f : Word) → IsTrue (is_own fs f) → (x : ℚ) → lt_ℚ x (whole (pos frame.size)) ≡ true → F f (x ∷ []) ≡ cut_if frame.size (gives f) (at_points (own f) (x ∷ []) (whole (pos 0)))
  F_own f o x t =
      let facts = field_facts frame.size (gives f) (own f) in
      let N = with_arguments (x ∷ []) frame.consts in
      let zero_term = Number (whole (pos 0)) in
      own_tables (field_table frame.size gives frame.facts) (λ f. refl) frame.consts lower fs f (x ∷ []) o
      ∙ ap (λ rs. rows_value N lower rs zero_term) (sym (append-nil (point_rows facts)))
      ∙ point_rows_value frame.consts lower facts [] zero_term (x ∷ []) (omega arith) (field_arguments frame.size (gives f) (own f) (λ k m. (field f o k m).fact.arguments))
      ∙ ap (at_points facts (x ∷ [])) (number_value N lower (whole (pos 0)))
      ∙ field_value frame.size (gives f) (own f) x t some

  F_other : (f : Word) → is_own fs f ≡ false → (xs : List ℚ) → F f xs ≡ lower f xs
  F_other f o xs = other_tables (field_table frame.size gives frame.facts) (λ f. refl) frame.consts lower fs f xs o

  P_own : (f : Word) → IsTrue (is_own fs f) → (xs : List ℚ) → P f xs ≡ at_points (own f) xs (whole (pos 0))
  P_own f o xs =
      let t : is_own fs f ≡ true = o in
      let z : without fs lower f xs ≡ whole (pos 0) = rw t refl in
      points_own (without fs lower) fs frame.facts f xs o ∙ ap (at_points (own f) xs) z

  P_other : (f : Word) → is_own fs f ≡ false → (xs : List ℚ) → P f xs ≡ lower f xs
  P_other f o xs = points_other (without fs lower) fs frame.facts f xs o ∙ rw o refl

  own_cut : (f : Word) → IsTrue (is_own fs f) → (x : ℚ) → IsTrue (is_of_sort frame.size Ptr x) → (b : Bool) → gives f ≡ b → F f (x ∷ []) ≡ cut_if frame.size b (P f (x ∷ []))
  own_cut f o x h b t = F_own f o x (below_size frame.size x h) ∙ (λ i. cut_if frame.size (t i) (sym (P_own f o (x ∷ [])) i))

  cut_tables : (u : Universal) → All (λ v. v.sort ≡ Ptr) u.vars → (xs : List ℚ) → AreSorted frame.size u.vars xs → AreCut (field_scope frame gives constant fs u) (assign u.vars xs frame.names) F P
  cut_tables u p xs s = record {
    some = some;
    pointers = λ f o y x h. own_cut f o x h true y;
    whole_pointers = λ f o y x. subst (λ z. IsTrue (is_pointer z)) (sym (P_own f o (x ∷ [])))
        (at_points_is (λ z. IsTrue (is_pointer z)) (own f) (x ∷ []) (whole (pos 0)) (λ k m. (field f o k m).fact.result y) (null_pointer frame.size some));
    numbers = λ f o t x h. own_cut f o x h false t;
    others = λ f o ys. F_other f o ys ∙ sym (P_other f o ys);
    names_in = λ n t. assign_in frame.size constant frame.names constants_in u.vars xs p s n t;
  }

  P_has : (k : Fact) → Contains frame.facts k → IsTrue (is_own fs k.func || applied k.func) → HasPoint P k
  P_has k m o =
      (elim (is_own fs k.func) as (λ b. is_own fs k.func ≡ b → IsTrue (b || applied k.func) → HasPoint P k) [
        | true ↦ λ t o. P_own k.func t k.args ∙ at_points_kept (own k.func) (own_congruent k.func frame.facts congruent) k (own_among k.func frame.facts k m (same_bytes k.func)) (whole (pos 0))
        | false ↦ λ t o. P_other k.func t k.args ∙ have k m o
      ]) refl o

  cut_inside : (b : Bool) (x : ℚ) → (b ≡ true → IsTrue (is_pointer x)) → (b ≡ true → IsTrue (lt_ℚ x (whole (pos frame.size)))) → cut_if frame.size b x ≡ x
  cut_inside true x p l = in_kept frame.size x (in_universe frame.size x (p refl) (l refl))
  cut_inside false x p l = refl

  has_own : (k : Fact) → Contains frame.facts k → IsTrue (frame.inside k) → IsTrue (is_own fs k.func) → HasPoint F k
  has_own k m i o =
      let among = own_among k.func frame.facts k m (same_bytes k.func) in
      let p = field k.func o k among in
      let x = first_argument k.args in
      let only : k.args ≡ x ∷ [] = one_argument k.args p.fact.arguments in
      let v : at_points (own k.func) k.args (whole (pos 0)) ≡ k.value = at_points_kept (own k.func) (own_congruent k.func frame.facts congruent) k among (whole (pos 0)) in
      ap (F k.func) only
      ∙ F_own k.func o x (p.inside_argument i)
      ∙ ap (cut_if frame.size (gives k.func)) (ap (λ xs. at_points (own k.func) xs (whole (pos 0))) (sym only) ∙ v)
      ∙ cut_inside (gives k.func) k.value p.fact.result (λ t. p.inside_value t i)

  holds : (u : Universal) → IsFieldClause frame gives constant fs u → PointersAreTrue frame (λ word. is_own fs word || applied word) u → HoldsAll frame.size frame.names F u
  holds u h points xs s =
      let cut' = cut_tables u h.vars xs s in
      elim (h.guarded F P xs s cut') [
        | inl t ↦ t
        | inr k ↦ fields_stay_true (field_scope frame gives constant fs u) (assign u.vars xs frame.names) F P cut' u.guard u.head k.0 k.1 (points xs s P P_has)
      ]

pub fields_complete : FieldsComplete
fields_complete frame gives constant applied fs clauses some congruent fields others constants_in shape points lower have = (
  λ k d l. holds frame gives constant applied fs some congruent fields others constants_in lower have (slice_index_or clauses k d) (shape k d l) (points k d l),
  λ k m i o. has_own frame gives constant applied fs some congruent fields others constants_in lower have k m i o,
)
