-- The definitions of sums: a sum that is made has its line, and what stays.
use Rattle.std.proofs.Common.{◌≡◌, ◌∙◌, ◌++◌, ◌↔◌, ◌⊎◌, ℕ, List, [], ◌∷◌, length, Option, Some, None, Ok, slice_get, refl, sym, ap, subst, inl, inr}
use Rattle.std.specs.List.{All}
use Rattle.std.proofs.lemmas.List.Elements.{All-nil, All-cons, All-head, All-push, All-tail}
use Rattle.hp_tree.specs.declared.problem.Sort.TheVariants.{Num}
use Rattle.hp_tree.specs.declared.problem.Cmp.TheVariants.{Eq}
use Rattle.hp_lit.specs.declared.literal.Name.{Name}
use Rattle.hp_lit.specs.declared.literal.Lit.{Lit}
use Rattle.hp_lit.specs.declared.line.Body.{Body}
use Rattle.hp_lit.specs.declared.line.Body.TheVariants.{Sum}
use Rattle.hp_lit.specs.declared.line.Lin.{Lin}
use Rattle.hp_lit.specs.declared.line.Line.{Line}
use Rattle.hp_lit.specs.declared.line.Origin.TheVariants.{SumOf}
use Rattle.hp_lit.specs.Truth.{Values, LineIsTrue, name_value}
use Rattle.hp_linear.specs.Fit.{IsLinOver}
use Rattle.hp_linear.specs.Lins.{named_lin}
use Rattle.hp_linear.specs.Values.{lin_value}
use Rattle.hp_linear.proofs.FitRows as rows
use Rattle.hp_linear.proofs.Fits.{named_lin-over}
use Rattle.hp_defs.specs.declared.names.Ground.{Ground}
use Rattle.hp_defs.specs.Fit.{BodyFits, IsFitNames}
use Rattle.hp_defs.specs.Made.{IsMade}
use Rattle.hp_defs.specs.Names.{definition_name, next, sorts, with_definition}
use Rattle.hp_defs.specs.Same.{place}
use Rattle.hp_defs.proofs.Fitting.{bodies_stay_fit}
use Rattle.hp_base.specs.Making.{Begins, ◌then◌, computed, keep}
use Rattle.hp_base.specs.Lines.{add_line, with_line}
use Rattle.hp_base.specs.Defining.{add_sum_line, found_or_made_sum, made, made_sum, sum_literals, sum_of}
use Rattle.hp_base.specs.Laws.{HasSums, IsDefined, IsFitLine}
use Rattle.hp_base.specs.Values.{SumsHold}
use Rattle.hp_base.proofs.Making.{begins_names}
use Rattle.hp_base.proofs.Growing.{came, sum_grows}
use Rattle.hp_base.proofs.ArgsSteps.{computed_gave, gave, line_added}
use Rattle.hp_base.proofs.SumsHold.{sums_say}
use Rattle.hp_base.proofs.ArgsDefined.{IsNew, IsOld, IsSumLined, defined_sort, defined_stays, found_is_old, last_get, lines_fit, made_there, new_defined, new_fits, new_made, new_sums, old_defined, sum_has_value}

abbrev sum_line : Name → List Lit → Line
sum_line name lits = record { lits = lits; origin = SumOf name }

-- ---- the line of a sum
-- the literals were not refused, and are those of the line that was added
record IsLined (lin : Lin) (name : Name) (before after : Ground) : Type 0 where
  lits : List Lit
  says : sum_literals name lin ≡ Ok lits
  same : with_line before (sum_line name lits) ≡ after

sum_lined : (item : ℕ) (lin : Lin) (name : Name) (done : Unit {0}) (before after : Ground) → add_sum_line item lin name before ≡ Ok (done, after) → IsLined lin name before after
sum_lined item lin name done before after e =
    let one = came (computed item (sum_literals name lin) before) (λ lits. add_line (sum_line name lits)) done after e in
    let c = computed_gave item (sum_literals name lin) one.value before one.mid one.first in
    record { lits = one.value; says = c.value; same = ap (λ (g : Ground). with_line g (sum_line name one.value)) c.ground ∙ line_added (sum_line name one.value) done one.mid after one.rest }

-- ---- found or made
-- a sum that was added, with its line
record IsNewSum (lin : Lin) (before after : Ground) (name : Name) : Type 0 where
  lits : List Lit
  says : sum_literals name lin ≡ Ok lits
  is : IsNew (Sum lin) before after name (sum_line name lits ∷ [])

new_sum : (item : ℕ) (lin : Lin) (name : Name) (before after : Ground) → place (Sum lin) before.names.definitions ≡ None → made_sum item lin before ≡ Ok (name, after) → IsNewSum lin before after name
new_sum item lin name before after fresh e =
    let one = came (made (Sum lin) before) (λ n. λ mid. add_sum_line item lin n mid then λ done. keep n) name after e in
    let m = made_there (Sum lin) one.value before one.mid one.first in
    let two = came (add_sum_line item lin one.value one.mid) (λ done. keep one.value) name after one.rest in
    let l = sum_lined item lin one.value two.value one.mid two.mid two.first in
    let g = gave one.value name two.mid after two.rest in
    let whole : with_line (record { names = with_definition before.names (Sum lin); lines = before.lines }) (sum_line name l.lits) ≡ after =
    (λ i. with_line (m.same i) (sum_line (sym g.value i) l.lits)) ∙ l.same ∙ g.ground in
    record {
      lits = l.lits;
      says = ap (λ n. sum_literals n lin) (sym g.value) ∙ l.says;
      is = record {
        room = m.room;
        fresh = fresh;
        has_name = m.has_name ∙ g.value;
        names = ap (λ (x : Ground). x.names) (sym whole);
        lines = ap (λ (x : Ground). x.lines) (sym whole);
      };
    }

abbrev IsTrueLine : Values → Line → Type 0
IsTrueLine v line = LineIsTrue v line.lits

-- what holds of all of two lists holds of all of the first
all_front : {A : Type 0} (P : A → Type 0) (xs ys : List A) → All P (xs ++ ys) → All P xs
all_front P [] ys all = All-nil P
all_front P (x ∷ xs) ys all = All-cons P x xs (All-head P x (xs ++ ys) all) (all_front P xs ys (All-tail P x (xs ++ ys) all))

module _ (item : ℕ) (lin : Lin) (name : Name) (before after : Ground) where
  abbrev body : Body
  body = Sum lin

  abbrev Outcome : Type 0
  Outcome = IsOld body before after name ⊎ IsNewSum lin before after name

  sum_outcome : sum_of item lin before ≡ Ok (name, after) → Outcome
  sum_outcome = by (place body before.names.definitions) refl
    where
      by : (p : Option ℕ) → place body before.names.definitions ≡ p → found_or_made_sum item lin p before ≡ Ok (name, after) → Outcome
      by None f e = inr (new_sum item lin name before after f e)
      by (Some k) f e = let g = gave (definition_name before.names k) name before after e in inl (found_is_old body k name before after f g.value g.ground)

  module _ (e : sum_of item lin before ≡ Ok (name, after)) where
    sum_begins : Begins before after
    sum_begins = sum_grows item lin before after name e

    pub sum_defined : IsDefined after.names name body
    sum_defined = elim (sum_outcome e) [ inl o ↦ old_defined body before after name o | inr n ↦ new_defined body before after name (sum_line name n.lits ∷ []) n.is ]

    pub sum_sort : slice_get (sorts after.names) name.0 ≡ Some Num
    sum_sort = defined_sort after.names name body sum_defined

    pub sum_value : (end : Ground) (v : Values) → Begins after end → SumsHold end.names v → name_value v name.0 ≡ lin_value v lin
    sum_value end v b hold = sum_has_value end.names v name lin (defined_stays after end name body b sum_defined) hold

    pub sum_fits : IsLinOver (sorts before.names) lin → IsFitNames before.names → IsFitNames after.names
    sum_fits over fit = elim (sum_outcome e) [
      | inl o ↦ subst (λ (g : Ground). IsFitNames g.names) o.same fit
      | inr n ↦ new_fits body before after name (sum_line name n.lits ∷ []) n.is (record { rising = over.rising; names = over.names }) fit
    ]

    pub sum_made : IsMade before.names → IsMade after.names
    sum_made is = elim (sum_outcome e) [
      | inl o ↦ subst (λ (g : Ground). IsMade g.names) o.same is
      | inr n ↦ new_made body before after name (sum_line name n.lits ∷ []) n.is tt is
    ]

    -- the line of the sum that was added is the last one
    last_line : (n : IsNewSum lin before after name) → IsSumLined body (next before.names) (before.lines ++ sum_line name n.lits ∷ [])
    last_line n other same =
        let equal : lin ≡ other = cc in
        record {
          at = length before.lines;
          line = sum_line name n.lits;
          there = last_get before.lines (sum_line name n.lits);
          says = (λ i. sum_literals (n.is.has_name i) (sym equal i)) ∙ n.says;
        }

    pub sum_keeps_sums : HasSums before → HasSums after
    sum_keeps_sums has = elim (sum_outcome e) [
      | inl o ↦ subst HasSums o.same has
      | inr n ↦ new_sums body before after name (sum_line name n.lits ∷ []) n.is (last_line n) has
    ]

    over_after : IsLinOver (sorts before.names) lin → IsLinOver (sorts after.names) lin
    over_after over =
        let h : BodyFits after.names body = bodies_stay_fit body before.names after.names (begins_names before after sum_begins) (record { rising = over.rising; names = over.names }) in
        record { rising = h.rising; names = h.names }

    pub sum_keeps_fit : IsLinOver (sorts before.names) lin → All (IsFitLine before.names) before.lines → All (IsFitLine after.names) after.lines
    sum_keeps_fit over all = elim (sum_outcome e) [
      | inl o ↦ subst (λ (g : Ground). All (IsFitLine g.names) g.lines) o.same all
      | inr n ↦
          let fit = rows.lin_literals_are_fit (sorts after.names) Eq (named_lin name) lin n.lits (named_lin-over (sorts after.names) name sum_sort) (over_after over) n.says in
          lines_fit before after (sum_line name n.lits ∷ []) sum_begins n.is.lines all
          (All-cons (IsFitLine after.names) (sum_line name n.lits) [] fit (All-nil (IsFitLine after.names)))
    ]

    pub sum_keeps_truth : (end : Ground) (v : Values) → Begins after end → SumsHold end.names v
        → All (λ line. LineIsTrue v line.lits) before.lines ↔ All (λ line. LineIsTrue v line.lits) after.lines
    sum_keeps_truth end v b hold = elim (sum_outcome e) [
      | inl o ↦ (λ all. subst (λ (g : Ground). All (IsTrueLine v) g.lines) o.same all, λ all. subst (λ (g : Ground). All (IsTrueLine v) g.lines) (sym o.same) all)
      | inr n ↦
          let line = sum_line name n.lits in
          let true_line = (sums_say name lin n.lits v n.says).1 (sum_value end v b hold) in (
            λ all. subst (λ (ls : List Line). All (IsTrueLine v) ls) (sym n.is.lines) (All-push (IsTrueLine v) before.lines line all true_line),
            λ all. all_front (IsTrueLine v) before.lines (line ∷ []) (subst (λ (ls : List Line). All (IsTrueLine v) ls) n.is.lines all),
          )
    ]
