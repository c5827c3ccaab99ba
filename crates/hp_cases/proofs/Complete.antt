-- Functions by cases complete what is true at their applications.
use Rattle.std.proofs.Common.{◌≡◌, ◌∙◌, ◌≤◌, ◌||◌, ℕ, suc, List, [], ◌∷◌, ◌++◌, Bool, true, false, IsTrue, length, map, Option, Some, None, Ok, refl, sym, ap, subst}
use Rattle.std.specs.Prelude.{slice_get}
use Rattle.std.specs.List.{All, Contains}
use Rattle.std.specs.Str.{bytes_eq}
use Rattle.std.proofs.lemmas.List.Elements.{All-contains, All-map, All-weaker}
use Rattle.hp_math.specs.Rational.{ℚ, ◌≤ℚ◌}
use Rattle.hp_tree.specs.Limits.{most_arguments}
use Rattle.hp_tree.specs.declared.term.Term.{Term}
use Rattle.hp_tree.specs.declared.problem.Atom.{Atom}
use Rattle.hp_tree.specs.Universal.{Universal}
use Rattle.hp_tree.specs.Value.{Word, Environment, Functions, all_true, value}
use Rattle.hp_lit.specs.Truth.{Values}
use Rattle.hp_defs.specs.declared.names.Ground.{Ground}
use Rattle.hp_defs.specs.declared.names.Signature.{Signature}
use Rattle.hp_defs.specs.Fit.{ArgFits, IsFitNames}
use Rattle.hp_defs.specs.Made.{IsMade}
use Rattle.hp_defs.specs.Names.{BeginsNames, NameList, sorts}
use Rattle.hp_model.specs.declared.structure.Table.{Table}
use Rattle.hp_model.specs.Value.{with_arguments}
use Rattle.hp_local.specs.Cases.{AreApart, AreDisjoint, IsInOrder, IsOfCase, PointsAreTrue, case_table}
use Rattle.hp_local.specs.Frame.{Fact, Frame, IsTrueWithPoints}
use Rattle.hp_local.specs.Law.{Completes}
use Rattle.hp_local.specs.Rows.{HaveArguments, own_facts}
use Rattle.hp_local.specs.Substitution.{substitute, substitute_atom}
use Rattle.hp_local.proofs.Cases.{cases_complete}
use Rattle.hp_local.proofs.Folds.{substitutes_have_values, substitutes_keep_guards}
use Rattle.hp_local.proofs.Lists.{All-by, contains_first, contains_map, map_contains}
use Rattle.hp_defs.proofs.Growing.{begins_through}
use Rattle.hp_base.specs.Congruence.{Point}
use Rattle.hp_base.proofs.Making.{begins_names}
use Rattle.hp_base.specs.Values.{arg_value, arg_values}
use Rattle.hp_norm.specs.declared.flat.FlatClause.{FlatClause}
use Rattle.hp_norm.specs.Flat.{universal_of}
use Rattle.hp_instance.specs.declared.tuple.Tuple.{Tuple}
use Rattle.hp_instance.specs.Laws.{ArgumentsComeBack}
use Rattle.hp_class.specs.Frame.{fact_of, facts_of, frame_at, is_function, is_place}
use Rattle.hp_class.specs.Group.{Planned, group_lines}
use Rattle.hp_class.specs.Law.{IsModelled, PlannedIsTrue, group_at}
use Rattle.hp_class.specs.Points.{points}
use Rattle.hp_class.proofs.Facts.{own_facts_are_points}
use Rattle.hp_class.proofs.Points.{are_points}
use Rattle.hp_class.proofs.PointsStay.{points_stay}
use Rattle.hp_cases.specs.declared.case.Case.{Case}
use Rattle.hp_cases.specs.Cases.{AreApart as are_apart, AreDisjoint as are_disjoint, IsByCases, IsCaseClause, IsInOrder as is_in_order, cases_plan, cases_tables, point_tuple, table_bound, table_case, word_term}
use Rattle.hp_cases.proofs.Fitting.{zip_length}
use Rattle.hp_cases.proofs.Functions.{other_word}
use Rattle.hp_cases.proofs.Grows.{cases_grow}
use Rattle.hp_cases.proofs.Laws.{cases_stay, with_own}
use Rattle.hp_cases.proofs.Says.{case_says}

-- ---- one function
alone : (b : Bool) → IsTrue (b || false) → IsTrue b
alone true h = h
alone false h = h

-- the function of a group of one
owned : (names : NameList) (func : ℕ) (s : Signature) → slice_get names.signatures func ≡ Some s → (word : Word) → IsTrue (is_function names (func ∷ []) word) → IsTrue (bytes_eq s.name word)
owned names func s known word h = alone (bytes_eq s.name word) (subst (λ b. IsTrue b) (with_own names func s [] known word) h)

completes_as : (frame : Frame) (clauses : List Universal) (tables : List Table) (applied own other : Word → Bool) → ((word : Word) → IsTrue (other word) → IsTrue (own word))
    → Completes frame applied (record { own = own; clauses = clauses; tables = tables }) → Completes frame applied (record { own = other; clauses = clauses; tables = tables })
completes_as frame clauses tables applied own other h c lower have = (let w = c lower have in (w.0, λ k m i o. w.1 k m i (h k.func o)))

map_length : {A B : Type 0} (f : A → B) (xs : List A) → length (map f xs) ≡ length xs
map_length f [] = refl
map_length f (x ∷ xs) = ap suc (map_length f xs)

-- ---- cases in a table
module _ (names : NameList) (v : Values) (consts : Environment) where
  abbrev r : Word → Term
  r = word_term names v

  -- the values of the words of a case where those of a table are these
  abbrev within : Functions → List ℚ → Environment
  within functions xs word = value (with_arguments xs consts) functions (r word)

  guard_is : (functions : Functions) (xs : List ℚ) (guard : List Atom) → all_true (with_arguments xs consts) functions (map (substitute_atom r) guard) ≡ all_true (within functions xs) functions guard
  guard_is functions xs guard = substitutes_keep_guards (with_arguments xs consts) (within functions xs) functions r (λ word. refl) guard

  term_is : (functions : Functions) (xs : List ℚ) (t : Term) → value (with_arguments xs consts) functions (substitute r t) ≡ value (within functions xs) functions t
  term_is functions xs t = substitutes_have_values (with_arguments xs consts) functions r t

  apart_there : (j k : Case) → are_apart j k → AreApart consts (table_case names v j) (table_case names v k)
  apart_there j k h functions xs t u = h (within functions xs) functions (subst IsTrue (guard_is functions xs j.guard) t) (subst IsTrue (guard_is functions xs k.guard) u)

  disjoint_there : (cases : List Case) → are_disjoint cases → AreDisjoint consts (map (table_case names v) cases)
  disjoint_there [] h = tt
  disjoint_there (k ∷ cases) h = (
    All-map (AreApart consts (table_case names v k)) (table_case names v) cases
        (All-weaker (are_apart k) (λ (j : Case). AreApart consts (table_case names v k) (table_case names v j)) (λ j a. apart_there k j a) cases h.0),
    disjoint_there cases h.1,
  )

  record IsBoundThere (o : Option Term) (t : Term) : Type 0 where
    term : Term
    there : o ≡ Some term
    is : substitute r term ≡ t

  bound_there : (o : Option Term) (t : Term) → table_bound names v o ≡ Some t → IsBoundThere o t
  bound_there None t e = absurd (cc)
  bound_there (Some s) t e = record { term = s; there = refl; is = cc }

  order_there : (k : Case) → is_in_order k → IsInOrder consts (table_case names v k)
  order_there k h s t low high functions xs g =
      let a = bound_there k.low s low in
      let b = bound_there k.high t high in
      let here = h a.term b.term a.there b.there (within functions xs) functions (subst IsTrue (guard_is functions xs k.guard) g) in
      let x = sym (term_is functions xs a.term) ∙ ap (value (with_arguments xs consts) functions) a.is in
      let y = sym (term_is functions xs b.term) ∙ ap (value (with_arguments xs consts) functions) b.is in
      subst (λ z. z ≤ℚ value (with_arguments xs consts) functions t) x (subst (λ z. value (within functions xs) functions a.term ≤ℚ z) y here)

  all_in_order : (cases : List Case) → All is_in_order cases → All (IsInOrder consts) (map (table_case names v) cases)
  all_in_order cases h = All-map (IsInOrder consts) (table_case names v) cases (All-weaker is_in_order (λ (k : Case). IsInOrder consts (table_case names v k)) order_there cases h)

-- ---- points
module _ (names : NameList) (made : IsMade names) (fit : IsFitNames names) (func : ℕ) (s : Signature) (known : slice_get names.signatures func ≡ Some s) (size : ℕ) (v : Values) where
  facts_are : own_facts s.name (frame_at size names v).facts ≡ facts_of func s.name names v
  facts_are = own_facts_are_points names v func s made known

  -- the application of a point
  point_of_fact : (k : Fact) → Contains (own_facts s.name (frame_at size names v).facts) k → (p : Point) × Contains (points func names.definitions) p × (fact_of s.name v p ≡ k)
  point_of_fact k m = map_contains (fact_of s.name v) (points func names.definitions) k (subst (λ (ks : List Fact). Contains ks k) facts_are m)

  arity : HaveArguments (length s.args) (own_facts s.name (frame_at size names v).facts)
  arity k m =
      let w = point_of_fact k m in
      let is = are_points names made fit func s known w.0 w.1 in
      ap (λ (z : Fact). length z.args) (sym w.2) ∙ map_length (arg_value v) w.0.args ∙ zip_length (ArgFits (sorts names)) s.args w.0.args is.args

  module _ (early : NameList) (points_are : points func names.definitions ≡ points func early.definitions) (clauses : List FlatClause) (applied : List ℕ)
      (instances : All (PlannedIsTrue (func ∷ applied) size names v) (cases_plan func clauses early)) where
    abbrev frame : Frame
    frame = frame_at size names v

    abbrev planned : FlatClause → Planned
    planned c = record { clause = c; tuples = map point_tuple (points func early.definitions) }

    abbrev Holds : FlatClause → Tuple → Type 0
    Holds c t = IsTrueWithPoints frame (is_function names (func ∷ applied)) (universal_of c) (arg_values v t.args)

    at_point : (c : FlatClause) → Contains clauses c → (p : Point) → Contains (points func early.definitions) p → IsTrueWithPoints frame (is_function names (func ∷ applied)) (universal_of c) (arg_values v p.args)
    at_point c m p n =
        All-contains (Holds c) (map point_tuple (points func early.definitions)) (point_tuple p)
        (All-contains (PlannedIsTrue (func ∷ applied) size names v) (map planned clauses) (planned c) instances (contains_map planned clauses c m))
        (contains_map point_tuple (points func early.definitions) p n)

    points_are_true : (c : FlatClause) → Contains clauses c → PointsAreTrue frame s.name (is_function names applied) (universal_of c)
    points_are_true c m k n functions have =
        let w = point_of_fact k n in
        let here = at_point c m w.0 (subst (λ (ps : List Point). Contains ps w.0) points_are w.1) in
        let there = subst (λ (xs : List ℚ). IsTrueWithPoints frame (is_function names (func ∷ applied)) (universal_of c) xs) (ap (λ (z : Fact). z.args) w.2) here in
        there functions (λ j i o. have j i (subst (λ b. IsTrue b) (with_own names func s applied known j.func) o))

-- ---- the law
pub cases_complete_at : (back : ArgumentsComeBack) (size : ℕ) (done : Unit {0}) (start next : Ground) (names : NameList) (v : Values)
    (func : ℕ) (word : Word) (count : ℕ) (clauses : List FlatClause) (cases : List Case) (applied own : List ℕ) → IsByCases start.names func word count clauses cases applied own
    → group_lines own (cases_plan func clauses) start ≡ Ok (done, next) → IsModelled own applied (cases_plan func clauses start.names) size start next names v
    → Completes (frame_at size names v) (is_function names applied) (group_at names own clauses (cases_tables func word count cases names v))
cases_complete_at back size done start next names v func word count clauses cases applied own lent e m =
    let grows = cases_grow back start m.sound func word count clauses cases applied own lent done next e in
    let begins : BeginsNames start.names names = begins_through start.names next.names names (begins_names start next grows.begins) m.begins in
    let still = cases_stay start.names names func word count clauses cases applied own lent begins m.made in
    let s = still.signature in
    let known = still.known in
    let among : Contains own func = subst (λ (fs : List ℕ). Contains fs func) (sym lent.own) (contains_first func []) in
    let points_are = m.complete func among ∙ points_stay (is_place applied) func start next grows.begins grows.only lent.others in
    let instances = subst (λ (fs : List ℕ). All (PlannedIsTrue (fs ++ applied) size names v) (cases_plan func clauses start.names)) lent.own m.instances in
    let frame = frame_at size names v in
    let lower = is_function names applied in
    let shown = map (table_case names v) cases in
    let us = map universal_of clauses in
    let few : length s.args ≤ most_arguments = subst (λ n. n ≤ most_arguments) (sym still.arguments) still.few in
    let ofs : All (IsOfCase frame s.name (length s.args) lower shown) us =
    All-map (IsOfCase frame s.name (length s.args) lower shown) universal_of clauses
    (All-weaker (IsCaseClause names word count cases applied) (λ (c : FlatClause). IsOfCase frame s.name (length s.args) lower shown (universal_of c))
    (λ c h.
    let said = case_says size names v word count cases applied c h m.made still.constants still.sorted still.few in
    subst (λ (w : Word). IsOfCase frame w (length s.args) lower shown (universal_of c)) (sym still.name)
    (subst (λ n. IsOfCase frame word n lower shown (universal_of c)) (sym still.arguments) said))
    clauses still.all) in
    let true_there : All (PointsAreTrue frame s.name lower) us =
    All-map (PointsAreTrue frame s.name lower) universal_of clauses
    (All-by (λ (c : FlatClause). PointsAreTrue frame s.name lower (universal_of c)) clauses
    (λ c k. points_are_true names m.made m.fit func s known size v start.names points_are clauses applied instances c k)) in
    let law = cases_complete frame s.name (length s.args) lower shown us few (arity names m.made m.fit func s known size v) m.congruent
    (λ w t. other_word names still.distinct applied still.lower func s known still.others w t)
    (disjoint_there names v frame.consts cases still.apart) (all_in_order names v frame.consts cases still.ordered) ofs true_there in
    let owns = completes_as frame us (case_table s.name (length s.args) (own_facts s.name frame.facts) shown ∷ []) lower (bytes_eq s.name) (λ w. is_function names (func ∷ []) w)
    (owned names func s known) law in
    let here = subst (λ (ks : List Fact). Completes frame lower (record { own = λ w. is_function names (func ∷ []) w; clauses = us; tables = case_table s.name (length s.args) ks shown ∷ [] }))
    (facts_are names m.made m.fit func s known size v) owns in
    let counted = subst (λ n. Completes frame lower (group_at names (func ∷ []) clauses (cases_tables func s.name n cases names v))) still.arguments here in
    let named = subst (λ (w : Word). Completes frame lower (group_at names (func ∷ []) clauses (cases_tables func w count cases names v))) still.name counted in
    subst (λ (fs : List ℕ). Completes frame lower (group_at names fs clauses (cases_tables func word count cases names v))) (sym lent.own) named
