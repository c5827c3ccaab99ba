-- The lines of the applications of functions: they are true where definitions have the values of their bodies, and where they
-- are true equal arguments have equal values.
use Rattle.std.proofs.Common.{◌≡◌, ◌∙◌, ◌⊎◌, inl, inr, ℕ, List, [], ◌∷◌, Option, Some, None, Ok, slice_get, refl, sym, ap, subst}
use Rattle.std.specs.List.{Contains}
use Rattle.std.proofs.lemmas.List.Elements.{All-contains, All-push}
use Rattle.std.proofs.lemmas.Option.{none-some}
use Rattle.hp_tree.specs.Value.{Functions}
use Rattle.hp_lit.specs.declared.line.Body.{Body}
use Rattle.hp_lit.specs.declared.line.Body.TheVariants.{Apply}
use Rattle.hp_lit.specs.declared.line.Line.{Line}
use Rattle.hp_lit.specs.declared.line.Origin.TheVariants.{Equal}
use Rattle.hp_lit.specs.declared.literal.Name.{Name}
use Rattle.hp_lit.specs.Sorts.{HaveSorts}
use Rattle.hp_lit.specs.Truth.{Values, LineIsTrue, name_value}
use Rattle.hp_local.proofs.Lists.{contains_first, contains_later}
use Rattle.hp_defs.specs.declared.names.Ground.{Ground}
use Rattle.hp_defs.specs.declared.names.Signature.{Signature}
use Rattle.hp_defs.specs.Fit.{BodyFits, IsFitNames}
use Rattle.hp_defs.specs.Made.{IsMade}
use Rattle.hp_defs.specs.Names.{NameList, first_names, sorts}
use Rattle.hp_base.specs.Congruence.{Point}
use Rattle.hp_base.specs.Laws.{IsPoint}
use Rattle.hp_base.specs.Making.{Maker, in_turn}
use Rattle.hp_base.specs.Values.{Extends, arg_values, body_value, signature_function}
use Rattle.hp_base.proofs.ArgsSteps.{gave}
use Rattle.hp_base.proofs.Congruent.{congruence_says}
use Rattle.hp_base.proofs.CongruentLine.{congruence_is_added}
use Rattle.hp_base.proofs.Growing.{came}
use Rattle.hp_norm.specs.Sound.{AreTrue}
use Rattle.hp_class.specs.Frame.{AreCongruentPoints}
use Rattle.hp_class.specs.Points.{function_lines, pair_line, pairs, points, signature_lines}
use Rattle.hp_class.proofs.Points.{applied, are_points, pairs_all, pairs_among}
use Rattle.hp_class.proofs.Turns.{HasLines}

-- ---- lines that are added are true
-- what is so before a maker is so after it
abbrev Keeps : (Ground → Type 0) → Maker (Unit {0}) → Type 0
Keeps P m = (done : Unit {0}) (before after : Ground) → m before ≡ Ok (done, after) → P before → P after

turns_keep : {X : Type 0} (P : Ground → Type 0) (f : X → Maker (Unit {0})) (xs : List X) → ((x : X) → Contains xs x → Keeps P (f x)) → Keeps P (in_turn f xs)
turns_keep P f [] keep done before after e h = subst P (gave tt done before after e).ground h
turns_keep P f (x ∷ xs) keep done before after e h =
    let c = came (f x before) (λ u. in_turn f xs) done after e in
    turns_keep P f xs (λ y m. keep y (contains_later x xs y m)) done c.mid after c.rest (keep x (contains_first x xs) c.value before c.mid c.first h)

-- an application of a function whose name has the function's value at the values of the arguments
record IsValued (functions : Functions) (names : NameList) (v : Values) (signature : Signature) (p : Point) : Type 0 where
  point : IsPoint (sorts names) signature p
  value : name_value v p.name.0 ≡ functions signature.name (arg_values v p.args)

module _ (functions : Functions) (names : NameList) (v : Values) (made : IsMade names) (fit : IsFitNames names) (have : HaveSorts (sorts names) v) (extends : Extends functions names v) where
  valued : (func : ℕ) (signature : Signature) → slice_get names.signatures func ≡ Some signature → (p : Point) → Contains (points func names.definitions) p
      → IsValued functions names v signature p
  valued func signature known p m =
      let w = applied func names.definitions p m in
      record {
        point = are_points names made fit func signature known p m;
        value = ap (λ (n : Name). name_value v n.0) (sym w.name ∙ made.named w.place w.definition w.there)
            ∙ extends w.place w.definition w.there
            ∙ ap (λ (b : Body). body_value functions names v b) w.body
            ∙ ap (λ (o : Option Signature). signature_function functions o (arg_values v p.args)) known;
      }

  -- the names are these, and all lines are true
  abbrev AllTrue : Ground → Type 0
  AllTrue g = (g.names ≡ names) × AreTrue v g.lines

  pair_keeps : (signature : Signature) (p q : Point) → IsValued functions names v signature p → IsValued functions names v signature q → Keeps AllTrue (pair_line signature (p, q))
  pair_keeps signature p q of_p of_q done before after e h =
      let added = congruence_is_added signature p q done before after e in
      let line : Line = record { lits = added.lits; origin = Equal p.name q.name } in
      let is : LineIsTrue v line.lits = (congruence_says (sorts names) signature p q added.lits v have of_p.point of_q.point added.says).1
      (λ same. of_p.value ∙ ap (functions signature.name) same ∙ sym of_q.value) in (
        ap (λ (g : Ground). g.names) added.same ∙ h.0,
        subst (λ (g : Ground). AreTrue v g.lines) (sym added.same) (All-push (λ (l : Line). LineIsTrue v l.lits) before.lines line h.1 is),
      )

  function_keeps : (func : ℕ) → Keeps AllTrue (function_lines func)
  function_keeps func done before after e h = by (slice_get before.names.signatures func) refl e
    where
      by : (o : Option Signature) → slice_get before.names.signatures func ≡ o → signature_lines func o before ≡ Ok (done, after) → AllTrue after
      by None is e = subst AllTrue (gave tt done before after e).ground h
      by (Some signature) is e =
          let known : slice_get names.signatures func ≡ Some signature = subst (λ (n : NameList). slice_get n.signatures func ≡ Some signature) h.0 is in
          let ps = points func before.names.definitions in
          let value_of : (p : Point) → Contains ps p → IsValued functions names v signature p =
          subst (λ (n : NameList). (p : Point) → Contains (points func n.definitions) p → IsValued functions names v signature p) (sym h.0) (valued func signature known) in
          let each = λ (pair : Point × Point) (m : Contains (pairs ps) pair).
          let w = pairs_among ps pair m in pair_keeps signature pair.0 pair.1 (value_of pair.0 w.0) (value_of pair.1 w.1) in
          turns_keep AllTrue (pair_line signature) (pairs ps) each done before after e h

  pub functions_keep : (funcs : List ℕ) (done : Unit {0}) (before after : Ground) → in_turn function_lines funcs before ≡ Ok (done, after) → before.names ≡ names
      → AreTrue v before.lines → AreTrue v after.lines
  functions_keep funcs done before after e same lines = (turns_keep AllTrue function_lines funcs (λ func m. function_keeps func) done before after e (same, lines)).1

-- ---- equal arguments have equal values
-- one of true lines is true
true_line : (v : Values) (lines : List Line) (line : Line) → AreTrue v lines → Contains lines line → LineIsTrue v line.lits
true_line v lines line all m = All-contains (λ (l : Line). LineIsTrue v l.lits) lines line all m

module _ (names : NameList) (v : Values) (made : IsMade names) (fit : IsFitNames names) (have : HaveSorts (sorts names) v) (lines : List Line) (all : AreTrue v lines) where
  module _ (func : ℕ) (signature : Signature) (known : slice_get names.signatures func ≡ Some signature) (has : HasLines names func lines) where
    is : (q : Point) → Contains (points func names.definitions) q → IsPoint (sorts names) signature q
    is = are_points names made fit func signature known

    pair_congruent : (q r : Point) → Contains (points func names.definitions) q → Contains (points func names.definitions) r
        → Contains {X = Point × Point} (pairs (points func names.definitions)) (q, r) → arg_values v q.args ≡ arg_values v r.args → name_value v q.name.0 ≡ name_value v r.name.0
    pair_congruent q r a b m =
        let h = has signature known (q, r) m in
        (congruence_says (sorts names) signature q r h.line.lits v have (is q a) (is r b) h.says).0 (true_line v lines h.line all h.there)

    known_congruent : AreCongruentPoints v (points func names.definitions)
    known_congruent q r a b = by (pairs_all (points func names.definitions) q r a b)
      where
        by : (q ≡ r) ⊎ (Contains {X = Point × Point} (pairs (points func names.definitions)) (q, r) ⊎ Contains {X = Point × Point} (pairs (points func names.definitions)) (r, q))
            → arg_values v q.args ≡ arg_values v r.args → name_value v q.name.0 ≡ name_value v r.name.0
        by (inl e) same = ap (λ (x : Point). name_value v x.name.0) e
        by (inr (inl m)) same = pair_congruent q r a b m same
        by (inr (inr m)) same = sym (pair_congruent r q b a m (sym same))

  -- an application is one of a function that there is
  no_point : (func : ℕ) (q : Point) → slice_get names.signatures func ≡ None → Contains (points func names.definitions) q → ⊥
  no_point func q none m =
      let w = applied func names.definitions q m in
      let body : BodyFits (first_names w.place names) (Apply func q.args) = subst (λ (b : Body). BodyFits (first_names w.place names) b) w.body (fit w.place w.definition w.there) in
      none-some body.known (sym none ∙ body.found)

  pub functions_congruent : (func : ℕ) → HasLines names func lines → AreCongruentPoints v (points func names.definitions)
  functions_congruent func has q r a b same = by (slice_get names.signatures func) refl
    where
      by : (o : Option Signature) → slice_get names.signatures func ≡ o → name_value v q.name.0 ≡ name_value v r.name.0
      by None e = absurd (no_point func q e a)
      by (Some signature) e = known_congruent func signature e has q r a b same
