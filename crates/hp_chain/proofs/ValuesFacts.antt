-- The points of a frame: each is that of an application and inside the universe, and functions that have them all give definitions
-- the values of their bodies.
use Rattle.std.proofs.Common.{◌≡◌, ◌∙◌, ◌+◌, ◌≤◌, ◌&&◌, inl, inr, ℕ, pos, IsTrue, List, [], ◌∷◌, length, Option, Some, None, refl, sym, ap, subst}
use Rattle.std.specs.Prelude.{option_map, option_and_then, slice_get}
use Rattle.std.specs.List.{Contains}
use Rattle.std.specs.Str.{bytes_eq}
use Rattle.std.proofs.lemmas.Bool.{and_parts}
use Rattle.std.proofs.lemmas.List.Elements.{Contains-append_cases, Contains-append_right}
use Rattle.hp_math.specs.Rational.{ℚ, is_whole, le_ℚ, lt_ℚ, whole}
use Rattle.hp_tree.specs.declared.problem.Sort.{Sort}
use Rattle.hp_tree.specs.declared.problem.Sort.TheVariants.{Num, Idx, Ptr}
use Rattle.hp_tree.specs.Sorted.{is_of_sort}
use Rattle.hp_tree.specs.Value.{Functions}
use Rattle.hp_terms.specs.Laws.{AreOfSort}
use Rattle.hp_lit.specs.declared.literal.Name.{Name}
use Rattle.hp_lit.specs.declared.line.Body.{Body}
use Rattle.hp_lit.specs.declared.line.Body.TheVariants.{Apply, Sum}
use Rattle.hp_lit.specs.declared.line.Def.{Def}
use Rattle.hp_lit.specs.Truth.{Values, name_value}
use Rattle.hp_local.specs.Frame.{Fact, HasPoint}
use Rattle.hp_local.proofs.Lists.{contains_cases, contains_map, contains_none, filter_contains}
use Rattle.hp_local.proofs.Tests.{and_true}
use Rattle.hp_defs.specs.declared.names.Signature.{Signature}
use Rattle.hp_defs.specs.Fit.{BodyFits, IsFitNames}
use Rattle.hp_defs.specs.Made.{IsMade}
use Rattle.hp_defs.specs.Names.{NameList, first_names, function_words, profile_of, sorts}
use Rattle.hp_defs.proofs.Distinct.{position_of}
use Rattle.hp_base.specs.Congruence.{Point}
use Rattle.hp_base.specs.Values.{Extends, SumsHold, arg_values, body_value, signature_function}
use Rattle.hp_norm.specs.Scopes.{function_profile}
use Rattle.hp_class.specs.Frame.{all_below, below, body_facts, definition_facts, fact_below, fact_of, frame_at, signature_facts}
use Rattle.hp_class.specs.Groups.{AreInside}
use Rattle.hp_class.specs.Law.{HasSortedPoints}
use Rattle.hp_class.specs.Points.{body_point, points}
use Rattle.hp_class.proofs.Facts.{own_facts_are_points, word_there}
use Rattle.hp_class.proofs.Inside.{point_inside, points_inside}
use Rattle.hp_class.proofs.Points.{are_points, is_among_points}

-- ---- points and applications
-- the application that a point is
pub record IsFactOf (names : NameList) (v : Values) (ds : List Def) (k : Fact) : Type 0 where
  pub func : ℕ
  pub signature : Signature
  pub known : slice_get names.signatures func ≡ Some signature
  pub point : Point
  pub among : Contains (points func ds) point
  pub same : fact_of signature.name v point ≡ k

module _ (names : NameList) (v : Values) where
  signature_known : (ds : List Def) (func : ℕ) (p : Point) (o : Option Signature) (k : Fact) → Contains (points func ds) p → slice_get names.signatures func ≡ o → Contains (signature_facts v p o) k → IsFactOf names v ds k
  signature_known ds func p None k among e m = absurd (contains_none k m)
  signature_known ds func p (Some s) k among e m = elim (contains_cases (fact_of s.name v p) [] k m) [
    | inl same ↦ record { func = func; signature = s; known = e; point = p; among = among; same = same }
    | inr none ↦ absurd (contains_none k none)
  ]

  body_known : (d : Def) (ds : List Def) (body : Body) (k : Fact) → d.body ≡ body → Contains (body_facts names.signatures v d body) k → IsFactOf names v (d ∷ ds) k
  body_known d ds (Apply func args) k e m =
      signature_known (d ∷ ds) func (record { name = d.name; args = args }) (slice_get names.signatures func) k (is_among_points func (d ∷ ds) 0 d args refl e) refl m
  body_known d ds (Sum lin) k e m = absurd (contains_none k m)

  pub fact_known : (ds : List Def) (k : Fact) → Contains (definition_facts names.signatures v ds) k → IsFactOf names v ds k
  fact_known [] k m = absurd (contains_none k m)
  fact_known (d ∷ ds) k m = elim (Contains-append_cases (body_facts names.signatures v d d.body) (definition_facts names.signatures v ds) k m) [
    | inl h ↦ body_known d ds d.body k refl h
    | inr l ↦ (
        let w = fact_known ds k l in
        record {
          func = w.func;
          signature = w.signature;
          known = w.known;
          point = w.point;
          among = Contains-append_right (body_point w.func d d.body) (points w.func ds) w.point w.among;
          same = w.same;
        })
  ]

  -- each application is a point
  pub fact_there : IsMade names → (func : ℕ) (s : Signature) (p : Point) → slice_get names.signatures func ≡ Some s → Contains (points func names.definitions) p
      → Contains (definition_facts names.signatures v names.definitions) (fact_of s.name v p)
  fact_there made func s p known m =
      let all = definition_facts names.signatures v names.definitions in
      let own = own_facts_are_points names v func s made known in
      (filter_contains (λ (k : Fact). bytes_eq s.name k.func) all (fact_of s.name v p)
      (subst (λ (fs : List Fact). Contains fs (fact_of s.name v p)) (sym own) (contains_map (fact_of s.name v) (points func names.definitions) p m))).0

  -- functions that have each point give definitions the values of their bodies
  pub points_extend : (f : Functions) → IsMade names → IsFitNames names → SumsHold names v → ((k : Fact) → Contains (definition_facts names.signatures v names.definitions) k → HasPoint f k) → Extends f names v
  points_extend f made fit sums has k d there = by d.body refl
    where
      by : (b : Body) → d.body ≡ b → name_value v (length names.constants + k) ≡ body_value f names v b
      by (Sum lin) e = sums k d lin there e
      by (Apply func args) e =
          let body : BodyFits (first_names k names) (Apply func args) = subst (λ (b : Body). BodyFits (first_names k names) b) e (fit k d there) in
          let p : Point = record { name = d.name; args = args } in
          let value = has (fact_of body.known.name v p) (fact_there made func body.known p body.found (is_among_points func names.definitions k d args there e)) in
          ap (λ (x : Name). name_value v x.0) (sym (made.named k d there)) ∙ sym value
          ∙ ap (λ (o : Option Signature). signature_function f o (arg_values v args)) (sym body.found)

-- ---- the universe
value_below : (size : ℕ) (sort : Sort) (x : ℚ) → IsTrue (is_of_sort size sort x) → IsTrue (below size sort x)
value_below size Num x h = refl
value_below size Idx x h = refl
value_below size Ptr x h = (and_parts (is_whole x && le_ℚ (whole (pos 0)) x) (lt_ℚ x (whole (pos size))) h).1

values_below : (size : ℕ) (ss : List Sort) (xs : List ℚ) → AreOfSort size ss xs → IsTrue (all_below size ss xs)
values_below size [] [] h = refl
values_below size [] (x ∷ xs) h = absurd h
values_below size (s ∷ ss) [] h = absurd h
values_below size (s ∷ ss) (x ∷ xs) h = and_true (below size s x) (all_below size ss xs) (value_below size s x h.0) (values_below size ss xs h.1)

-- the profile of a function by its word
profile_there : (names : NameList) → IsMade names → (func : ℕ) (s : Signature) → slice_get names.signatures func ≡ Some s → function_profile names s.name ≡ Some (profile_of s)
profile_there names made func s known =
    ap (λ (o : Option ℕ). option_map profile_of (option_and_then (λ at. slice_get names.signatures at) o)) (position_of (function_words names) func s.name made.functions (word_there names.signatures func s known))
    ∙ ap (λ (o : Option Signature). option_map profile_of o) known

module _ (size : ℕ) (names : NameList) (v : Values) (made : IsMade names) (fit : IsFitNames names) (some : 1 ≤ size) (inside : AreInside size (sorts names) v) where
  -- the points of each function have their sorts in the universe
  pub sorted_points : (func : ℕ) → HasSortedPoints size names v func
  sorted_points func s known = points_inside size (sorts names) v some inside s s.name (points func names.definitions) (are_points names made fit func s known)

  -- and each point of the frame is inside
  pub facts_inside : (k : Fact) → Contains (frame_at size names v).facts k → IsTrue ((frame_at size names v).inside k)
  facts_inside k m =
      let w = fact_known names v names.definitions k m in
      let sorted = point_inside size (sorts names) v some inside w.signature w.signature.name w.point (are_points names made fit w.func w.signature w.known w.point w.among) in
      let fact = fact_of w.signature.name v w.point in
      let within = and_true (all_below size w.signature.args fact.args) (below size w.signature.result fact.value) (values_below size w.signature.args fact.args sorted.args) (value_below size w.signature.result fact.value sorted.value) in
      subst (λ (l : Fact). IsTrue (fact_below size (function_profile names l.func) l)) w.same
      (subst (λ o. IsTrue (fact_below size o fact)) (sym (profile_there names made w.func w.signature w.known)) within)
