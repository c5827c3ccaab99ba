-- Groups of arrays complete what is true at their index sets.
use Rattle.std.proofs.Common.{◌≡◌, ◌∙◌, ◌||◌, ℕ, List, [], ◌∷◌, map, length, Bool, true, false, IsTrue, Ok, Some, append-nil, refl, sym, ap, subst}
use Rattle.std.specs.List.{All, AllZip, Contains}
use Rattle.std.proofs.lemmas.List.Elements.{All-contains, All-map}
use Rattle.hp_math.specs.Rational.{ℚ, is_whole}
use Rattle.hp_tree.specs.declared.problem.Sort.TheVariants.{Idx, Num}
use Rattle.hp_tree.specs.Universal.{Universal}
use Rattle.hp_tree.specs.Value.{Word}
use Rattle.hp_terms.specs.Scope.{Profile}
use Rattle.hp_lit.specs.declared.line.Arg.{Arg}
use Rattle.hp_lit.specs.Sorts.{HaveSorts}
use Rattle.hp_lit.specs.Truth.{Values}
use Rattle.hp_lit.specs.Words.{Agrees}
use Rattle.hp_lit.proofs.Words.{agrees_front}
use Rattle.hp_defs.specs.declared.names.Ground.{Ground}
use Rattle.hp_defs.specs.Fit.{ArgFits}
use Rattle.hp_defs.specs.Made.{IsMade, IsSmallArg}
use Rattle.hp_defs.specs.Names.{BeginsNames, NameList, sorts, words as all_words}
use Rattle.hp_defs.proofs.Distinct.{words_are_distinct}
use Rattle.hp_defs.proofs.Growing.{begins_get, begins_through, names_begin, sorts_begin}
use Rattle.hp_model.specs.declared.structure.Table.{Table}
use Rattle.hp_local.specs.Arrays.{IsArray as local_array, IsArrayClause as local_clause, TuplesAreTrue, array_group, step_tables as local_tables}
use Rattle.hp_local.specs.Frame.{AreCongruent, Frame, IsTrueWithPoints, is_own}
use Rattle.hp_local.specs.Law.{Completes}
use Rattle.hp_local.specs.Nearest.{nearest}
use Rattle.hp_local.specs.Ordered.{fact_points, in_order, step_table}
use Rattle.hp_local.specs.Rows.{own_facts}
use Rattle.hp_local.proofs.Arrays.{arrays_complete}
use Rattle.hp_local.proofs.Lists.{All-by, contains_map, map_contains}
use Rattle.hp_local.proofs.Nearest.{nearest_among}
use Rattle.hp_base.specs.Values.{arg_value, arg_values}
use Rattle.hp_base.proofs.Making.{begins_names}
use Rattle.hp_norm.specs.declared.flat.FlatClause.{FlatClause}
use Rattle.hp_norm.specs.Flat.{universal_of}
use Rattle.hp_norm.specs.Scopes.{function_profile}
use Rattle.hp_norm.specs.Sound.{IsSound}
use Rattle.hp_instance.specs.declared.tuple.Tuple.{Tuple}
use Rattle.hp_instance.specs.Laws.{ArgumentsComeBack}
use Rattle.hp_class.specs.Frame.{facts_of, frame_at, is_function, words_at}
use Rattle.hp_class.specs.Group.{Planned, group_lines}
use Rattle.hp_class.specs.Law.{IsModelled, PlannedIsTrue, group_at}
use Rattle.hp_class.proofs.Facts.{own_facts_are_points}
use Rattle.hp_class.proofs.Through.{words_agree}
use Rattle.hp_tuples.specs.Tuples.{all_tuples}
use Rattle.hp_index_set.specs.IndexSet.{index_set}
use Rattle.hp_index_set.specs.Laws.{IsFitIndex}
use Rattle.hp_index_set.proofs.Among.{bounds_are_indexes}
use Rattle.hp_arrays.specs.Arrays.{IsArray, IsArrayClause, IsArrayGroup, IsRead, arrays_plan, arrays_tables}
use Rattle.hp_tuple_lines.specs.TupleLines.{shown_tuple, planned_over}
use Rattle.hp_arrays.proofs.AtIndexes.{array_at_indexes}
use Rattle.hp_arrays.proofs.Guards.{clause_over_values, guard_sides, head_sides}
use Rattle.hp_arrays.proofs.Indexes.{index_whole, some_index}
use Rattle.hp_arrays.proofs.InstancesMade.{HasElements, IsPlannedOver, IsTupleOver, TakeIndexes, group_elements}
use Rattle.hp_class.proofs.FunctionWords.{own_is_place, words_same, zip_all}
use Rattle.hp_arrays.proofs.Own.{array_arguments, array_later, arrays_later, own_word, words_are}
use Rattle.hp_arrays.proofs.SetFits.{own_give_numbers, set_fits}
use Rattle.hp_tuple_lines.proofs.Tuples.{of_values, tuple_inside, tuple_length}

-- ---- the law over values for a list that is not empty
complete_over : (frame : Frame) (funcs : List Word) (applied : Word → Bool) (zs : List ℚ) (i : ℚ) (is : List ℚ) (clauses : List Universal) → zs ≡ i ∷ is → AreCongruent frame.facts
    → All (local_array frame zs) funcs → ((word : Word) → IsTrue (applied word) → is_own funcs word ≡ false) → All (local_clause zs frame funcs) clauses
    → All (TuplesAreTrue zs frame (λ word. is_own funcs word || applied word)) clauses → Completes frame applied (array_group frame funcs clauses)
complete_over frame funcs applied zs i is clauses e congruent arrays others guards tuples =
    arrays_complete frame funcs applied i is clauses congruent (subst (λ (z : List ℚ). All (local_array frame z) funcs) e arrays) others (subst (λ (z : List ℚ). All (local_clause z frame funcs) clauses) e guards)
    (subst (λ (z : List ℚ). All (TuplesAreTrue z frame (λ word. is_own funcs word || applied word)) clauses) e tuples)

-- ---- tables
tables_are : (names : NameList) (v : Values) → IsMade names → (size : ℕ) (own : List ℕ) (words : List Word) → AllZip (IsArray names) own words → local_tables (frame_at size names v).facts words ≡ arrays_tables own words names v
tables_are names v made size [] [] h = refl
tables_are names v made size [] (w ∷ words) h = absurd h
tables_are names v made size (func ∷ own) [] h = absurd h
tables_are names v made size (func ∷ own) (w ∷ words) h =
    let a = h.0 in
    let facts : own_facts w (frame_at size names v).facts ≡ facts_of func w names v =
    subst (λ (z : Word). own_facts z (frame_at size names v).facts ≡ facts_of func z names v) a.name (own_facts_are_points names v func a.signature made a.known) in
    (λ i. step_table w (in_order (fact_points (facts i))) ∷ tables_are names v made size own words h.1 i)

module _ (back : ArgumentsComeBack) (start : Ground) (own : List ℕ) (words : List Word) (clauses : List FlatClause) (lent : IsArrayGroup start.names own words clauses) (sound : IsSound start) where
  abbrev set : List Arg
  set = index_set own clauses start.names

  abbrev test : Word → Bool
  test = is_own (words_at start.names own)

  same_words : words_at start.names own ≡ words
  same_words = words_are start.names own words lent.functions

  numbers : (word : Word) → is_function start.names own word ≡ true → (p : Profile) → function_profile start.names word ≡ Some p → p.result ≡ Num
  numbers = own_give_numbers start.names own words clauses lent sound.made

  take_indexes : TakeIndexes test start
  take_indexes word func s e at known =
      let w = own_word start.names own words lent.functions word (subst (λ (ws : List Word). is_own ws word ≡ true) same_words e) in
      array_arguments start.names sound.made w.func word w.array func s at known

  clause_is : (c : FlatClause) → Contains clauses c → IsArrayClause start.names own c
  clause_is c m = All-contains (IsArrayClause start.names own) clauses c lent.all m

  index_is : (x : Arg) → Contains set x → IsFitIndex start.names x
  index_is x m = All-contains (IsFitIndex start.names) set x (set_fits start.names own words clauses lent sound.made sound.names) m

  -- ---- the plan
  abbrev planned : FlatClause → Planned
  planned c = planned_over set c

  tuple_over : (c : FlatClause) (t : Tuple) → Contains (planned c).tuples t → IsTupleOver start set c t
  tuple_over c t k =
      let w = map_contains shown_tuple (all_tuples set (length c.vars)) t k in
      let inside : (x : Arg) → Contains t.args x → Contains set x = λ x n. tuple_inside set (length c.vars) w.0 w.1 x (subst (λ (z : Tuple). Contains z.args x) (sym w.2) n) in
      record {
        fits = All-by (ArgFits (sorts start.names) Idx) t.args (λ x n. (index_is x (inside x n)).fits);
        small = All-by IsSmallArg t.args (λ x n. (index_is x (inside x n)).small);
        long = ap (λ (z : Tuple). length z.args) (sym w.2) ∙ tuple_length set (length c.vars) w.0 w.1;
        inside = inside;
      }

  plan_over : (c : FlatClause) → Contains clauses c → IsPlannedOver test start set (planned c)
  plan_over c m = record {
    guard = guard_sides start.names own c (clause_is c m) sound.made numbers;
    head = head_sides start.names own c (clause_is c m) sound.made numbers;
    tuples = All-by (IsTupleOver start set c) (planned c).tuples (tuple_over c);
  }

  elements : (done : Unit {0}) (next : Ground) → group_lines own (arrays_plan own clauses) start ≡ Ok (done, next) → HasElements start set (arrays_plan own clauses start.names) next
  elements done next e =
      group_elements back test start set take_indexes own (arrays_plan own clauses) done next sound.made
      (All-map (IsPlannedOver test start set) planned clauses (All-by (λ (c : FlatClause). IsPlannedOver test start set (planned c)) clauses plan_over)) e

  -- ---- at values
  module _ (next : Ground) (has : HasElements start set (arrays_plan own clauses start.names) next) (size : ℕ) (names : NameList) (v : Values)
      (m : IsModelled own [] (arrays_plan own clauses start.names) size start next names v) where
    abbrev frame : Frame
    frame = frame_at size names v

    abbrev indexes : List ℚ
    indexes = map (arg_value v) set

    abbrev applied : Word → Bool
    applied = is_function names []

    begins : BeginsNames start.names names
    begins = begins_through start.names next.names names (begins_names start next has.adds.begins) m.begins

    agrees : Agrees (all_words start.names) v frame.names
    agrees =
        let front = (names_begin start.names names begins).words in
        agrees_front (all_words start.names) front.more v frame.names
        (subst (λ (ws : List Word). Agrees ws v frame.names) front.all (words_agree (all_words names) v (words_are_distinct names m.made)))

    have : HaveSorts (sorts start.names) v
    have n s e = m.sorted n s (begins_get (sorts start.names) (sorts names) n s (sorts_begin start.names names begins) e)

    wholes : All (λ x. is_whole x ≡ true) indexes
    wholes = All-map (λ x. is_whole x ≡ true) (arg_value v) set
        (All-by (λ (x : Arg). is_whole (arg_value v x) ≡ true) set (λ x k. index_whole (sorts start.names) v have x (index_is x k).fits))

    abbrev first : ℚ
    first = arg_value v (some_index own clauses start.names).0

    abbrev others : List ℚ
    others = map (arg_value v) (some_index own clauses start.names).1

    some : indexes ≡ first ∷ others
    some = ap (map (arg_value v)) (some_index own clauses start.names).2

    near : (x : ℚ) → Contains indexes (nearest indexes x)
    near x = subst (λ (zs : List ℚ). Contains zs (nearest zs x)) (sym some) (nearest_among first others x)

    -- the clauses over values
    clause_here : (c : FlatClause) → Contains clauses c → local_clause indexes frame words (universal_of c)
    clause_here c k =
        subst (λ (ws : List Word). local_clause indexes frame ws (universal_of c)) same_words
        (clause_over_values start.names own c (clause_is c k) sound.made numbers indexes frame v agrees have near wholes
        (λ x n. contains_map (arg_value v) set x (bounds_are_indexes own clauses start.names c x k n)))

    -- each array
    arrays_here : All (local_array frame indexes) words
    arrays_here = zip_all (IsArray start.names) (local_array frame indexes) own words lent.functions (λ func w k n a.
        array_at_indexes start next names size v own clauses sound m.begins m.made m.fit has func w a (own_is_place own func k) (array_later start.names names func w begins.signatures a)
        (All-contains (IsRead clauses) words w lent.read n) (m.complete func k))

    -- the clauses at tuples
    tuples_here : (c : FlatClause) → Contains clauses c → TuplesAreTrue indexes frame (λ word. is_own words word || applied word) (universal_of c)
    tuples_here c k xs among functions given =
        let t = of_values (arg_value v) set c.vars xs among in
        let all = subst (λ (fs : List ℕ). All (PlannedIsTrue fs size names v) (map planned clauses)) (append-nil own) m.instances in
        let one = All-contains (PlannedIsTrue own size names v) (map planned clauses) (planned c) all (contains_map planned clauses c k) in
        let here = All-contains (λ (z : Tuple). IsTrueWithPoints frame (is_function names own) (universal_of c) (arg_values v z.args)) (planned c).tuples (shown_tuple t.0) one
        (contains_map shown_tuple (all_tuples set (length c.vars)) t.0 t.1) in
        let there = subst (λ (ys : List ℚ). IsTrueWithPoints frame (is_function names own) (universal_of c) ys) t.2 here in
        let words_now : words_at names own ≡ words = words_same start.names names begins.signatures own ∙ same_words in
        there functions (λ j n o. given j n (or_first (is_own words j.func) (applied j.func) (subst (λ (ws : List Word). IsTrue (is_own ws j.func)) words_now o)))
      where
        or_first : (a b : Bool) → IsTrue a → IsTrue (a || b)
        or_first true b h = refl
        or_first false b h = absurd (let no : false ≡ true = h in cc)

    completed : Completes frame applied (group_at names own clauses (arrays_tables own words names v))
    completed =
        let us = map universal_of clauses in
        let law = complete_over frame words applied indexes first others us some m.congruent arrays_here (λ w t. absurd (let no : false ≡ true = t in cc))
        (All-map (local_clause indexes frame words) universal_of clauses (All-by (λ (c : FlatClause). local_clause indexes frame words (universal_of c)) clauses clause_here))
        (All-map (TuplesAreTrue indexes frame (λ word. is_own words word || applied word)) universal_of clauses
        (All-by (λ (c : FlatClause). TuplesAreTrue indexes frame (λ word. is_own words word || applied word) (universal_of c)) clauses tuples_here)) in
        let now : AllZip (IsArray names) own words = arrays_later start.names names begins.signatures own words lent.functions in
        let words_now : words_at names own ≡ words = words_same start.names names begins.signatures own ∙ same_words in
        subst (λ (ws : List Word). Completes frame applied (record { own = λ word. is_own ws word; clauses = us; tables = arrays_tables own words names v })) (sym words_now)
        (subst (λ (ts : List Table). Completes frame applied (record { own = λ word. is_own words word; clauses = us; tables = ts })) (tables_are names v m.made size own words now) law)

-- ---- the law
pub arrays_complete_at : (back : ArgumentsComeBack) (size : ℕ) (done : Unit {0}) (start next : Ground) (names : NameList) (v : Values)
    (own : List ℕ) (words : List Word) (clauses : List FlatClause) → IsArrayGroup start.names own words clauses
    → group_lines own (arrays_plan own clauses) start ≡ Ok (done, next) → IsModelled own [] (arrays_plan own clauses start.names) size start next names v
    → Completes (frame_at size names v) (is_function names []) (group_at names own clauses (arrays_tables own words names v))
arrays_complete_at back size done start next names v own words clauses lent e m =
    completed back start own words clauses lent m.sound next (elements back start own words clauses lent m.sound done next e) size names v m
