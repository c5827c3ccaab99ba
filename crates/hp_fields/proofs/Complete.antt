-- Groups of fields complete what is true at the pointers of the universe.
use Rattle.std.proofs.Common.{◌≡◌, ◌∙◌, ◌≤◌, ◌<◌, ◌||◌, ◌&&◌, ◌++◌, ℕ, pos, List, [], ◌∷◌, map, length, append_assoc, Bool, true, false, IsTrue, Option, Some, None, Ok, slice_get, refl, sym, ap, subst, arith}
use Rattle.std.specs.Prelude.{option_and_then, option_map, position}
use Rattle.std.specs.List.{All, AllZip, Contains, list_all}
use Rattle.std.specs.Str.{bytes_eq}
use Rattle.std.proofs.lemmas.Bool.{and_from, and_parts, or_left, or_parts, or_right}
use Rattle.std.proofs.lemmas.Int.{ints}
use Rattle.std.proofs.lemmas.List.Elements.{All-cons, All-contains, All-head, All-map, All-nil, All-weaker}
use Rattle.hp_math.specs.Rational.{ℚ, is_whole, le_ℚ, lt_ℚ, whole, ◌<ℚ◌}
use Rattle.hp_math.proofs.Laws.{tests_decide, whole-<}
use Rattle.hp_tree.specs.declared.problem.Sort.{Sort}
use Rattle.hp_tree.specs.declared.problem.Sort.TheVariants.{Ptr}
use Rattle.hp_tree.specs.declared.problem.Var.{Var}
use Rattle.hp_tree.specs.Sorted.{is_of_sort}
use Rattle.hp_tree.specs.Universal.{AreSorted, Universal}
use Rattle.hp_tree.specs.Value.{Word, Functions}
use Rattle.hp_lit.specs.declared.line.Arg.{Arg}
use Rattle.hp_lit.specs.declared.line.Arg.TheVariants.{Null}
use Rattle.hp_lit.specs.Truth.{Values}
use Rattle.hp_rank.specs.Ranks.{pointer}
use Rattle.hp_rank.proofs.Pointers.{is_pointer as pointer_is}
use Rattle.hp_local.specs.Arrays.{AreAmong}
use Rattle.hp_local.specs.Fields.{IsFieldClause as local_clause, IsFieldFact, IsFieldPoint, PointersAreTrue, field_group, field_scope, field_table}
use Rattle.hp_local.specs.Frame.{Fact, Frame, IsTrueWithPoints, is_own}
use Rattle.hp_local.specs.Law.{Completes}
use Rattle.hp_local.specs.NullGuards.{sides_are_good}
use Rattle.hp_local.specs.Ordered.{first_argument}
use Rattle.hp_local.specs.Rows.{own_facts}
use Rattle.hp_local.proofs.FieldTables.{fields_complete}
use Rattle.hp_local.proofs.NullGuards.{null_guards_suffice}
use Rattle.hp_local.proofs.Lists.{All-by, contains_first, contains_map, filter_contains}
use Rattle.hp_defs.specs.declared.names.Ground.{Ground}
use Rattle.hp_defs.specs.declared.names.Signature.{Signature}
use Rattle.hp_defs.specs.Names.{NameList, profile_of, signature_name, sorts}
use Rattle.hp_defs.proofs.Growing.{begins_through}
use Rattle.hp_names.proofs.Texts.{same_text}
use Rattle.hp_model.specs.declared.structure.Table.{Table}
use Rattle.hp_terms.specs.Scope.{Profile}
use Rattle.hp_base.proofs.Making.{begins_names}
use Rattle.hp_base.specs.Values.{arg_value, arg_values}
use Rattle.hp_norm.specs.declared.flat.FlatClause.{FlatClause}
use Rattle.hp_norm.specs.Flat.{universal_of}
use Rattle.hp_norm.specs.Scopes.{function_profile}
use Rattle.hp_instance.specs.declared.tuple.Tuple.{Tuple}
use Rattle.hp_class.specs.Frame.{all_below, below, fact_below, frame_at, is_function, signature_word, words_at}
use Rattle.hp_class.specs.Group.{group_lines}
use Rattle.hp_class.specs.Law.{IsModelled, PlannedIsTrue, group_at}
use Rattle.hp_class.proofs.FunctionWords.{words_same}
use Rattle.hp_class.proofs.Group.{group_says}
use Rattle.hp_flatten.specs.declared.application.Application.{Application}
use Rattle.hp_flatten.specs.Applications.{clause_applications}
use Rattle.hp_flatten.specs.Sorts.{is_ptr}
use Rattle.hp_tuples.specs.Tuples.{all_tuples}
use Rattle.hp_tuple_lines.specs.TupleLines.{planned_over, shown_tuple, tuples_plan}
use Rattle.hp_tuple_lines.proofs.Tuples.{of_values}
use Rattle.hp_null_guards.specs.Laws.{IsFieldRead}
use Rattle.hp_null_guards.specs.Rules.{gives_pointer, has_null_guard, is_no_index}
use Rattle.hp_null_guards.proofs.Guarded.{guarded_sides_are_good, null_guards_are_found}
use Rattle.hp_fields.specs.Fields.{IsField, IsFieldClause, IsFieldGroup, IsUniverse, fields_plan, fields_tables, gives, pointer_terms, pointers_from}
use Rattle.hp_fields.proofs.Constants.{constant_inside, is_constant, is_pointer_sort}
use Rattle.hp_fields.proofs.Fits.{fields_plan_fits, ptr_sort}
use Rattle.hp_fields.proofs.Stays.{fields_stay}
use Rattle.hp_fields.proofs.Pointers.{IsOwnField, field_facts, field_gives, field_profile, fields_later, own_field, words_are}

-- ---- values
-- a pointer of the universe is one of the numbers below its size
universe_number : (size : ℕ) (x : ℚ) → IsTrue (is_of_sort size Ptr x) → (pointer x < size) × (whole (pos (pointer x)) ≡ x)
universe_number size x h =
    let w = and_parts (is_whole x && le_ℚ (whole (pos 0)) x) (lt_ℚ x (whole (pos size))) h in
    let u = and_parts (is_whole x) (le_ℚ (whole (pos 0)) x) w.0 in
    let same : x ≡ whole (pos (pointer x)) = pointer_is x (u.0, (tests_decide.le (whole (pos 0)) x).0 u.1) in
    let less : whole (pos (pointer x)) <ℚ whole (pos size) = subst (λ (y : ℚ). y <ℚ whole (pos size)) same ((tests_decide.lt x (whole (pos size))).0 w.1) in
    let below = (whole-< (pos (pointer x)) (pos size)).0 less in
    (omega (arith, ints, below), sym same)

all_among : (size : ℕ) (values : List ℚ) → ((n : ℕ) → n < size → Contains values (whole (pos n))) → (vars : List Var) → list_all (λ v. is_ptr v.sort) vars ≡ true → (xs : List ℚ) → AreSorted size vars xs
    → AreAmong values vars xs
all_among size values all [] pointers [] h = tt
all_among size values all [] pointers (x ∷ xs) h = absurd h
all_among size values all (v ∷ vars) pointers [] h = absurd h
all_among size values all (v ∷ vars) pointers (x ∷ xs) h =
    let w = and_parts (is_ptr v.sort) (list_all (λ (u : Var). is_ptr u.sort) vars) pointers in
    let n = universe_number size x (subst (λ (s : Sort). IsTrue (is_of_sort size s x)) (ptr_sort v.sort w.0) h.0) in
    (subst (λ (y : ℚ). Contains values y) n.1 (all (pointer x) n.0), all_among size values all vars w.1 xs h.1)

-- each element passes a test that all pass
all_pass : {X : Type 0} (test : X → Bool) (xs : List X) → list_all test xs ≡ true → All (λ x. test x ≡ true) xs
all_pass test [] e = All-nil (λ x. test x ≡ true)
all_pass test (x ∷ xs) e = (let p = and_parts (test x) (list_all test xs) e in All-cons (λ x. test x ≡ true) x xs p.0 (all_pass test xs p.1))

all_pointers : (vars : List Var) → list_all (λ v. is_ptr v.sort) vars ≡ true → All (λ (v : Var). v.sort ≡ Ptr) vars
all_pointers vars e = All-weaker (λ (v : Var). is_ptr v.sort ≡ true) (λ (v : Var). v.sort ≡ Ptr) (λ v h. ptr_sort v.sort h) vars (all_pass (λ (v : Var). is_ptr v.sort) vars e)

-- ---- words
words_joined : (names : NameList) (xs ys : List ℕ) → words_at names (xs ++ ys) ≡ words_at names xs ++ words_at names ys
words_joined names [] ys = refl
words_joined names (x ∷ xs) ys =
    let word = signature_word (slice_get names.signatures x) in
    ap (λ (ws : List Word). word ++ ws) (words_joined names xs ys) ∙ sym (append_assoc word (words_at names xs) (words_at names ys))

own_either : (xs ys : List Word) (word : Word) → is_own (xs ++ ys) word ≡ (is_own xs word || is_own ys word)
own_either [] ys word = refl
own_either (x ∷ xs) ys word = by (bytes_eq x word) (own_either xs ys word)
  where
    by : (b : Bool) → is_own (xs ++ ys) word ≡ (is_own xs word || is_own ys word) → (b || is_own (xs ++ ys) word) ≡ ((b || is_own xs word) || is_own ys word)
    by true e = refl
    by false e = e

profiles_same : (old new : NameList) (word : Word) → new.signatures ≡ old.signatures → function_profile old word ≡ function_profile new word
profiles_same old new word e =
    ap (λ (ss : List Signature). option_map profile_of (option_and_then (λ at. slice_get ss at) (position (bytes_eq word) (map signature_name ss)))) (sym e)

module _ (names : NameList) (own : List ℕ) (words : List Word) (applied : List ℕ) (clauses : List FlatClause) (terms : List Arg) (lent : IsFieldGroup names own words applied clauses terms)
    (start next : Ground) (size : ℕ) (v : Values) (m : IsModelled own applied (fields_plan clauses terms start.names) size start next names v) (placed : IsUniverse size v terms) where
  abbrev old : NameList
  old = lent.front

  abbrev frame : Frame
  frame = frame_at size names v

  abbrev lower : Word → Bool
  lower = is_function names applied

  abbrev constant : Word → Bool
  constant = is_constant old

  words_old : words_at old own ≡ words
  words_old = words_are old own words lent.is.functions

  words_now : words_at names own ≡ words
  words_now = words_same old names lent.begins.signatures own ∙ words_old

  now : AllZip (IsField names) own words
  now = fields_later old names lent.begins.signatures own words lent.is.functions

  placed_old : IsUniverse size v (pointer_terms old)
  placed_old = subst (IsUniverse size v) lent.terms_are placed

  -- null is in the universe
  some : 1 ≤ size
  some =
      let null = All-head (λ x. IsTrue (is_of_sort size Ptr (arg_value v x))) Null (pointers_from 0 (sorts old)) placed_old.inside in
      let n = (universe_number size (whole (pos 0)) null).0 in
      omega (arith, n)

  gives_same : (λ word. gives_pointer (function_profile old word)) ≡ gives names
  gives_same = λ i word. gives_pointer (profiles_same old names word lent.begins.signatures i)

  -- ---- points
  inside_args : (k : Fact) (word : Word) (func : ℕ) (f : IsField names func word) → k.func ≡ word → length k.args ≡ 1 → IsTrue (frame.inside k)
      → IsTrue (lt_ℚ (first_argument k.args) (whole (pos size))) × (is_ptr f.signature.result ≡ true → IsTrue (lt_ℚ k.value (whole (pos size))))
  inside_args k word func f is one h =
      let known : function_profile names k.func ≡ Some (profile_of f.signature) = ap (function_profile names) is ∙ field_profile names m.made func word f in
      let all : all_below size f.signature.args k.args && below size f.signature.result k.value ≡ true = sym (ap (λ (o : Option Profile). fact_below size o k) known) ∙ h in
      let w = and_parts (all_below size f.signature.args k.args) (below size f.signature.result k.value) all in
      (first k.args one (subst (λ (ss : List Sort). all_below size ss k.args ≡ true) f.arguments w.0), λ e. subst (λ (s : Sort). below size s k.value ≡ true) (ptr_sort f.signature.result e) w.1)
    where
      first : (args : List ℚ) → length args ≡ 1 → all_below size (Ptr ∷ []) args ≡ true → IsTrue (lt_ℚ (first_argument args) (whole (pos size)))
      first [] n e = absurd (omega (arith, n))
      first (x ∷ xs) n e = (and_parts (lt_ℚ x (whole (pos size))) (all_below size [] xs) e).0

  points : (word : Word) → IsTrue (is_own words word) → All (IsFieldPoint frame (gives names word)) (own_facts word frame.facts)
  points word o =
      let own_is = own_field names own words now word o in
      let facts = field_facts names m.made v m.sorted m.fit own_is.func word own_is.field in
      All-by (IsFieldPoint frame (gives names word)) (own_facts word frame.facts) (λ k n. (
      let fact = All-contains (IsFieldFact (gives names word)) (own_facts word frame.facts) k facts n in
      let named : bytes_eq word k.func ≡ true = (filter_contains (λ (l : Fact). bytes_eq word l.func) frame.facts k n).1 in
      let at = inside_args k word own_is.func own_is.field (sym (same_text word k.func named)) fact.arguments in
      record {
        fact = fact;
        inside_argument = λ h. (at h).0;
        inside_value = λ g h. (at h).1 (sym (field_gives names m.made own_is.func word own_is.field) ∙ g);
      }))

  -- ---- clauses
  clause_is : (c : FlatClause) → Contains clauses c → IsFieldClause old own applied c
  clause_is c n = All-contains (IsFieldClause old own applied) clauses c lent.is.all n

  pointers_of : (c : FlatClause) → IsFieldClause old own applied c → list_all (λ v. is_ptr v.sort) c.vars ≡ true
  pointers_of c h = (and_parts (list_all (λ v. is_ptr v.sort) c.vars) (list_all (is_no_index old c) c.guard && list_all (is_no_index old c) c.head) h.over).0

  clause_here : (c : FlatClause) → Contains clauses c → local_clause frame (gives names) constant words (universal_of c)
  clause_here c n =
      let h = clause_is c n in
      let reads = subst (λ (ws : List Word). All (IsFieldRead old (is_own ws) c.vars) (clause_applications c)) words_old h.reads in
      let good = guarded_sides_are_good old c frame constant words h.flat h.over h.guards reads (λ word e. ap is_pointer_sort e) in
      record {
        vars = all_pointers c.vars (pointers_of c h);
        guarded = null_guards_suffice frame (gives names) constant words (universal_of c) (has_null_guard c) (null_guards_are_found c)
            (subst (λ (g : Word → Bool). IsTrue (sides_are_good (field_scope frame g constant words (universal_of c)) (has_null_guard c) (universal_of c))) gives_same good);
      }

  or_either : (word : Word) → is_function names (own ++ applied) word ≡ true → is_own words word || lower word ≡ true
  or_either word e =
      subst (λ (ws : List Word). is_own ws word || lower word ≡ true) words_now
      (sym (own_either (words_at names own) (words_at names applied) word) ∙ ap (λ (ws : List Word). is_own ws word) (sym (words_joined names own applied)) ∙ e)

  tuples_here : (c : FlatClause) → Contains clauses c → PointersAreTrue frame (λ word. is_own words word || lower word) (universal_of c)
  tuples_here c n xs sorted functions given =
      let h = clause_is c n in
      let t = of_values (arg_value v) terms c.vars xs (all_among size (map (arg_value v) terms) placed.all c.vars (pointers_of c h) xs sorted) in
      let one = All-contains (PlannedIsTrue (own ++ applied) size names v) (tuples_plan terms clauses) (planned_over terms c) m.instances (contains_map (planned_over terms) clauses c n) in
      let here = All-contains (λ (z : Tuple). IsTrueWithPoints frame (is_function names (own ++ applied)) (universal_of c) (arg_values v z.args)) (planned_over terms c).tuples (shown_tuple t.0) one
      (contains_map shown_tuple (all_tuples terms (length c.vars)) t.0 t.1) in
      let there = subst (λ (ys : List ℚ). IsTrueWithPoints frame (is_function names (own ++ applied)) (universal_of c) ys) t.2 here in
      there functions (λ k j o. given k j (or_either k.func o))

  apart : (word : Word) → IsTrue (lower word) → is_own words word ≡ false
  apart word e =
      subst (λ (ws : List Word). is_own ws word ≡ false) words_old
      (lent.is.apart word (subst (λ (ws : List Word). is_own ws word ≡ true) (words_same old names lent.begins.signatures applied) e))

  completed : Completes frame lower (group_at names own clauses (fields_tables size words names v))
  completed =
      let us = map universal_of clauses in
      let law = fields_complete frame (gives names) constant lower words us some m.congruent points apart (constant_inside old names lent.begins m.made size v placed_old)
      (All-map (local_clause frame (gives names) constant words) universal_of clauses
      (All-by (λ (c : FlatClause). local_clause frame (gives names) constant words (universal_of c)) clauses clause_here))
      (All-map (PointersAreTrue frame (λ word. is_own words word || lower word)) universal_of clauses
      (All-by (λ (c : FlatClause). PointersAreTrue frame (λ word. is_own words word || lower word) (universal_of c)) clauses tuples_here)) in
      subst (λ (ws : List Word). Completes frame lower (record { own = λ word. is_own ws word; clauses = us; tables = fields_tables size words names v })) (sym words_now) law

pub fields_complete_at : (size : ℕ) (done : Unit {0}) (start next : Ground) (names : NameList) (v : Values) (own : List ℕ) (words : List Word) (applied : List ℕ) (clauses : List FlatClause) (terms : List Arg)
    → IsFieldGroup start.names own words applied clauses terms → group_lines own (fields_plan clauses terms) start ≡ Ok (done, next)
    → IsModelled own applied (fields_plan clauses terms start.names) size start next names v → IsUniverse size v terms
    → Completes (frame_at size names v) (is_function names applied) (group_at names own clauses (fields_tables size words names v))
fields_complete_at size done start next names v own words applied clauses terms lent e m placed =
    let grouped = group_says own clauses (fields_plan clauses terms) done start next m.sound (fields_plan_fits start.names own words applied clauses terms lent m.sound.made) e in
    let begins = begins_through start.names next.names names (begins_names start next grouped.begins) m.begins in
    completed names own words applied clauses terms (fields_stay start.names names own words applied clauses terms lent begins) start next size v m placed
