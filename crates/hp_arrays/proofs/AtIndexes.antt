-- Each array of a group has a point at each index of the set, and at no other.
use Rattle.std.proofs.Common.{◌≡◌, ◌∙◌, inl, inr, ℕ, List, [], ◌∷◌, map, length, true, cond, Some, slice_get, refl, sym, ap, subst}
use Rattle.std.specs.Prelude.{position}
use Rattle.std.specs.List.{AllZip, Contains}
use Rattle.std.specs.Str.{bytes_eq}
use Rattle.std.proofs.lemmas.List.Elements.{All-contains}
use Rattle.hp_math.specs.Rational.{ℚ}
use Rattle.hp_tree.specs.declared.problem.Sort.{Sort}
use Rattle.hp_tree.specs.Value.{Word}
use Rattle.hp_lit.specs.declared.line.Arg.{Arg}
use Rattle.hp_lit.specs.declared.line.Body.{Body}
use Rattle.hp_lit.specs.declared.line.Body.TheVariants.{Apply}
use Rattle.hp_lit.specs.declared.line.Def.{Def}
use Rattle.hp_lit.specs.Truth.{Values}
use Rattle.hp_defs.specs.declared.names.Ground.{Ground}
use Rattle.hp_defs.specs.Fit.{ArgFits, IsFitNames}
use Rattle.hp_defs.specs.Made.{IsMade}
use Rattle.hp_defs.specs.Names.{BeginsNames, NameList, function_words, sorts}
use Rattle.hp_defs.proofs.Growing.{begins_get}
use Rattle.hp_local.specs.Arrays.{IsArray as local_array}
use Rattle.hp_local.specs.Frame.{Fact, Frame}
use Rattle.hp_local.specs.Ordered.{HasAt as has_at, fact_point, fact_points, first_argument}
use Rattle.hp_local.specs.Rows.{HaveArguments, own_facts}
use Rattle.hp_local.proofs.Lists.{contains_first, contains_map, map_contains}
use Rattle.hp_base.specs.Congruence.{Point}
use Rattle.hp_base.specs.Values.{arg_value, arg_values}
use Rattle.hp_base.proofs.Making.{begins_names}
use Rattle.hp_norm.specs.declared.flat.FlatClause.{FlatClause}
use Rattle.hp_norm.specs.Sound.{IsSound}
use Rattle.hp_class.specs.Frame.{fact_of, facts_of, frame_at, is_place}
use Rattle.hp_class.specs.Group.{Planned}
use Rattle.hp_class.specs.Points.{points}
use Rattle.hp_class.proofs.Facts.{own_facts_are_points}
use Rattle.hp_class.proofs.Points.{applied, are_points, is_among_points}
use Rattle.hp_flatten.specs.Applications.{clause_applications}
use Rattle.hp_tuples.specs.Tuples.{all_tuples}
use Rattle.hp_index_set.specs.IndexSet.{applied_at, body_indexes, index_set}
use Rattle.hp_index_set.proofs.Among.{applied_are_indexes}
use Rattle.hp_arrays.specs.Arrays.{IsArray, IsRead, arrays_plan}
use Rattle.hp_tuple_lines.specs.TupleLines.{shown_tuple}
use Rattle.hp_arrays.proofs.ElementsMade.{HasAt, reaches}
use Rattle.hp_arrays.proofs.Indexes.{HasValue, one_index, value_there}
use Rattle.hp_arrays.proofs.InstancesMade.{HasElements}
use Rattle.hp_arrays.proofs.Own.{array_position}
use Rattle.hp_tuple_lines.proofs.Tuples.{contains_flat_map, get_contains, of_one}

module _ (start next : Ground) (names : NameList) (size : ℕ) (v : Values) (own : List ℕ) (clauses : List FlatClause) (sound : IsSound start) (begins : BeginsNames next.names names)
    (made : IsMade names) (fit : IsFitNames names) (has : HasElements start (index_set own clauses start.names) (arrays_plan own clauses start.names) next) where
  abbrev set : List Arg
  set = index_set own clauses start.names

  abbrev frame : Frame
  frame = frame_at size names v

  abbrev indexes : List ℚ
  indexes = map (arg_value v) set

  module _ (func : ℕ) (word : Word) (a : IsArray start.names func word) (place : is_place own func ≡ true) (now : IsArray names func word) (read : IsRead clauses word)
      (complete : points func names.definitions ≡ points func next.names.definitions) where
    facts_are : own_facts word frame.facts ≡ facts_of func word names v
    facts_are = subst (λ (w : Word). own_facts w frame.facts ≡ facts_of func w names v) now.name (own_facts_are_points names v func now.signature made now.known)

    -- the application of a point
    point_of_fact : (k : Fact) → Contains (own_facts word frame.facts) k → (p : Point) × Contains (points func names.definitions) p × (fact_of word v p ≡ k)
    point_of_fact k m = map_contains (fact_of word v) (points func names.definitions) k (subst (λ (ks : List Fact). Contains ks k) facts_are m)

    arity : HaveArguments 1 (own_facts word frame.facts)
    arity k m =
        let w = point_of_fact k m in
        let is = are_points names made fit func now.signature now.known w.0 w.1 in
        let one = one_index (sorts names) w.0.args (subst (λ (ss : List Sort). AllZip (ArgFits (sorts names)) ss w.0.args) now.arguments is.args) in
        ap (λ (z : Fact). length z.args) (sym w.2) ∙ ap (λ (xs : List Arg). length (arg_values v xs)) one.1

    -- an application that was there first
    old_inside : (at : ℕ) (d : Def) (p : Point) → slice_get start.names.definitions at ≡ Some d → d.body ≡ Apply func p.args → HasValue v set (first_argument (arg_values v p.args))
    old_inside at d p there body =
        let point = is_among_points func start.names.definitions at d p.args there body in
        let is = are_points start.names sound.made sound.names func a.signature a.known (record { name = d.name; args = p.args }) point in
        let one = one_index (sorts start.names) p.args (subst (λ (ss : List Sort). AllZip (ArgFits (sorts start.names)) ss p.args) a.arguments is.args) in
        let x = one.0 in
        let here : Contains (body_indexes own (Apply func p.args)) x =
        subst (λ b. Contains (cond b p.args []) x) (sym place) (subst (λ (xs : List Arg). Contains xs x) (sym one.1) (contains_first x [])) in
        let among : Contains (applied_at own start.names.definitions) x =
        contains_flat_map (λ (z : Def). body_indexes own z.body) start.names.definitions d x (get_contains start.names.definitions at d there)
        (subst (λ (b : Body). Contains (body_indexes own b) x) (sym body) here) in
        subst (λ (xs : List Arg). HasValue v set (first_argument (arg_values v xs))) (sym one.1) (x, applied_are_indexes own clauses start.names x among, refl)

    at_no_other : (k : Fact) → Contains (own_facts word frame.facts) k → Contains indexes (first_argument k.args)
    at_no_other k m =
        let w = point_of_fact k m in
        let p = w.0 in
        let is = applied func next.names.definitions p (subst (λ (ps : List Point). Contains ps p) complete w.1) in
        let inside : HasValue v set (first_argument (arg_values v p.args)) = elim (reaches start.names.definitions is.place) [
          | inl h ↦
              let front = (begins_names start next has.adds.begins).definitions in
              let same : h.0 ≡ is.definition = (let both = sym (begins_get start.names.definitions next.names.definitions is.place h.0 front h.1) ∙ is.there in cc) in
              old_inside is.place h.0 p h.1 (ap (λ (z : Def). z.body) same ∙ is.body)
          | inr far ↦
              let x = has.adds.only is.place is.definition func p.args far is.there is.body in
              subst (λ (xs : List Arg). HasValue v set (first_argument (arg_values v xs))) (sym x.2) (x.0, x.1, refl)
        ] in
        subst (λ (z : Fact). Contains indexes (first_argument z.args)) w.2 (value_there v set (first_argument (arg_values v p.args)) inside)

    at_each : (q : ℚ) → Contains indexes q → has_at (fact_points (own_facts word frame.facts)) q
    at_each q m =
        let w = map_contains (arg_value v) set q m in
        let c = read.clause in
        let t = of_one set (length c.vars) w.0 w.1 in
        let planned : FlatClause → Planned = λ (z : FlatClause). record { clause = z; tuples = map shown_tuple (all_tuples set (length z.vars)) } in
        let all = has.there (planned c) (contains_map planned clauses c read.among) (shown_tuple t.0) (contains_map shown_tuple (all_tuples set (length c.vars)) t.0 t.1) in
        let at : position (bytes_eq read.application.func) (function_words start.names) ≡ Some func =
        ap (λ (z : Word). position (bytes_eq z) (function_words start.names)) read.function ∙ array_position start.names sound.made func word a in
        let here = All-contains (HasAt (function_words start.names) t.0 next) (clause_applications c) read.application all read.applied func at in
        let x = here.0 in
        let i = here.2 in
        let there = begins_get next.names.definitions names.definitions i.at i.definition begins.definitions i.there in
        let p : Point = record { name = i.definition.name; args = x ∷ [] } in
        let among = is_among_points func names.definitions i.at i.definition (x ∷ []) there i.body in
        let fact : Contains (own_facts word frame.facts) (fact_of word v p) =
        subst (λ (ks : List Fact). Contains ks (fact_of word v p)) (sym facts_are) (contains_map (fact_of word v) (points func names.definitions) p among) in
        (fact_point (fact_of word v p), contains_map fact_point (own_facts word frame.facts) (fact_of word v p) fact, ap (arg_value v) (t.2 x here.1) ∙ w.2)

    pub array_at_indexes : local_array frame indexes word
    array_at_indexes = record { arguments = arity; at_each = at_each; at_no_other = at_no_other }
