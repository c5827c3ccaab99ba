-- What the lines of a group say.
use Rattle.std.proofs.Common.{◌≡◌, ◌↔◌, ◌∙◌, ◌++◌, ◌+◌, ℕ, List, [], ◌∷◌, Ok, true, length, refl, sym, ap, subst, append-nil}
use Rattle.std.specs.List.{All, Contains}
use Rattle.std.proofs.lemmas.List.Elements.{All-append, All-cons, All-head, All-nil, All-tail, All-weaker}
use Rattle.hp_tree.specs.Universal.{clause_at}
use Rattle.hp_tree.specs.Value.{Environment, Functions}
use Rattle.hp_lit.specs.declared.line.Line.{Line}
use Rattle.hp_lit.specs.Sorts.{HaveSorts}
use Rattle.hp_lit.specs.Truth.{LineIsTrue, Values, name_value}
use Rattle.hp_defs.specs.declared.names.Constant.{Constant}
use Rattle.hp_defs.specs.declared.names.Ground.{Ground}
use Rattle.hp_defs.specs.declared.names.Signature.{Signature}
use Rattle.hp_defs.specs.Names.{NameList, definition_name, sorts}
use Rattle.hp_defs.proofs.Growing.{begins_get, sorts_begin}
use Rattle.hp_base.specs.Laws.{HasSums, IsFitLine}
use Rattle.hp_base.specs.Making.{Begins, in_turn}
use Rattle.hp_base.specs.Values.{Extends, arg_values, body_value}
use Rattle.hp_base.proofs.ArgsDefined.{sum_line_stays}
use Rattle.hp_base.proofs.Growing.{came}
use Rattle.hp_base.proofs.Making.{begins_names, begins_trans}
use Rattle.hp_norm.specs.declared.flat.FlatClause.{FlatClause}
use Rattle.hp_norm.specs.Sound.{AreTrue, AreValues, IsLater, IsSound}
use Rattle.hp_instance.specs.declared.tuple.Tuple.{Tuple}
use Rattle.hp_norm.specs.Flat.{IsFlat, universal_of}
use Rattle.hp_instance.specs.Instances.{instance}
use Rattle.hp_instance.specs.Laws.{TupleFits}
use Rattle.hp_instance.proofs.InstancesSay.{instances_say}
use Rattle.hp_class.specs.Frame.{AreCongruentPoints}
use Rattle.hp_class.specs.Group.{PlanFits, Planned, PlannedFits, plan_lines, planned_lines}
use Rattle.hp_class.specs.Laws.{GroupSays, PlannedHolds}
use Rattle.hp_class.specs.Points.{function_lines, points}
use Rattle.hp_class.proofs.Adding.{Adds, adds_turns, later_than}
use Rattle.hp_class.proofs.Congruent.{functions_congruent, functions_keep}
use Rattle.hp_class.proofs.FewLines.{group_few}
use Rattle.hp_class.proofs.Points.{are_points}
use Rattle.hp_class.proofs.Stays.{flat_stays, planned_stays, tuple_stays}
use Rattle.hp_class.proofs.Turns.{AddsLines, HasLines, all_turned}

-- ---- instances
abbrev InstanceFits : FlatClause → NameList → Tuple → Type 0
InstanceFits c names t = IsFlat names c × TupleFits names c t.args

abbrev InstanceHolds : FlatClause → Tuple → Environment → Functions → Values → Type 0
InstanceHolds c t env functions v = clause_at env functions (universal_of c) (arg_values v t.args) ≡ true

instance_adds : (c : FlatClause) (t : Tuple) (done : Unit {0}) (before after : Ground) → IsSound before → InstanceFits c before.names t → instance c t before ≡ Ok (done, after)
    → Adds (InstanceHolds c t) before after
instance_adds c t done before after sound fit e =
    let is = instances_say c t done before after sound fit.0 fit.1 e in
    record { begins = is.grew; sound = is.sound; says = is.says }

planned_adds : (clauses : List FlatClause) (p : Planned) (done : Unit {0}) (before after : Ground) → IsSound before → PlannedFits before.names clauses p → planned_lines p before ≡ Ok (done, after)
    → Adds (λ env functions v. PlannedHolds env functions v p) before after
planned_adds clauses p done before after sound fit e =
    adds_turns (instance p.clause) (InstanceFits p.clause) (InstanceHolds p.clause)
    (λ t old new b made h. (flat_stays old new p.clause b made h.0, tuple_stays old new p.clause t.args b made h.0 h.1))
    (instance_adds p.clause) p.tuples done before after sound
    (All-weaker (λ (t : Tuple). TupleFits before.names p.clause t.args) (InstanceFits p.clause before.names) (λ t h. (fit.flat, h)) p.tuples fit.tuples) e

pub plan_adds : (clauses : List FlatClause) (plan : List Planned) (done : Unit {0}) (before after : Ground) → IsSound before → PlanFits before.names clauses plan → plan_lines plan before ≡ Ok (done, after)
    → Adds (λ env functions v. All (PlannedHolds env functions v) plan) before after
plan_adds clauses plan done before after sound fit e =
    adds_turns planned_lines (λ names p. PlannedFits names clauses p) (λ p env functions v. PlannedHolds env functions v p)
    (λ p old new b made h. planned_stays clauses old new b made p h) (planned_adds clauses) plan done before after sound fit e

-- ---- values at fewer names
extends_before : (old new : Ground) (v : Values) (functions : Functions) → Begins old new → Extends functions new.names v → Extends functions old.names v
extends_before old new v functions b h k d there =
    let at = begins_get old.names.definitions new.names.definitions k d (begins_names old new b).definitions there in
    ap (λ (cs : List Constant). name_value v (length cs + k)) (sym b.constants) ∙ h k d at
    ∙ ap (λ (ss : List Signature). body_value functions (record { constants = new.names.constants; signatures = ss; definitions = new.names.definitions }) v d.body) b.signatures

sorts_before : (old new : Ground) (v : Values) → Begins old new → HaveSorts (sorts new.names) v → HaveSorts (sorts old.names) v
sorts_before old new v b have n s e = have n s (begins_get (sorts old.names) (sorts new.names) n s (sorts_begin old.names new.names (begins_names old new b)) e)

-- ---- lines of applications
pub All-front : {X : Type 0} (P : X → Type 0) (xs ys : List X) → All P (xs ++ ys) → All P xs
All-front P [] ys h = All-nil P
All-front P (x ∷ xs) ys h = All-cons P x xs (All-head P x (xs ++ ys) h) (All-front P xs ys (All-tail P x (xs ++ ys) h))

added_begin : (old new : Ground) → AddsLines old.names old new → Begins old new
added_begin old new a = record {
  constants = ap (λ (n : NameList). n.constants) a.kept;
  signatures = ap (λ (n : NameList). n.signatures) a.kept;
  made = [];
  definitions = ap (λ (n : NameList). n.definitions) a.kept ∙ sym (append-nil old.names.definitions);
  added = a.added;
  lines = a.lines;
}

added_sums : (names : NameList) (lines more : List Line) → HasSums (record { names = names; lines = lines }) → HasSums (record { names = names; lines = lines ++ more })
added_sums names lines more has k d lin there is = sum_line_stays lines more (definition_name names k) lin (has k d lin there is)

added_sound : (old new : Ground) → IsSound old → AddsLines old.names old new → IsSound new
added_sound old new s a = subst IsSound (sym same) (record {
  made = s.made;
  names = s.names;
  lines = All-append (IsFitLine old.names) old.lines a.added s.lines a.fit;
  sums = added_sums old.names old.lines a.added s.sums;
})
  where
    same : new ≡ record { names = old.names; lines = old.lines ++ a.added }
    same = (λ i. record { names = a.kept i; lines = a.lines i })

module _ (own : List ℕ) (done : Unit {0}) (mid after : Ground) (sound : IsSound mid) (e : in_turn function_lines own mid ≡ Ok (done, after)) where
  turned : AddsLines mid.names mid after × ((func : ℕ) → Contains own func → HasLines mid.names func after.lines)
  turned = all_turned mid.names own (λ func. are_points mid.names sound.made sound.names func) done mid after refl e

  pub own_begins : Begins mid after
  own_begins = added_begin mid after turned.0

  pub own_sound : IsSound after
  own_sound = added_sound mid after sound turned.0

  pub own_says : (end : Ground) (v : Values) (env : Environment) (functions : Functions) → IsLater after end → AreValues end v env functions → HaveSorts (sorts end.names) v
      → AreTrue v after.lines ↔ AreTrue v mid.lines
  own_says end v env functions later values have =
      let b = begins_trans mid after end own_begins later.begins in (
        λ h. All-front (λ (l : Line). LineIsTrue v l.lits) mid.lines turned.0.added (subst (AreTrue v) turned.0.lines h),
        functions_keep functions mid.names v sound.made sound.names (sorts_before mid end v b have) (extends_before mid end v functions b values.extends) own done mid after e refl,
      )

  pub own_congruent : (end : Ground) (v : Values) → IsLater after end → HaveSorts (sorts end.names) v → AreTrue v after.lines → (func : ℕ) → Contains own func
      → AreCongruentPoints v (points func after.names.definitions)
  own_congruent end v later have all func m =
      subst (λ (n : NameList). AreCongruentPoints v (points func n.definitions)) (sym turned.0.kept)
      (functions_congruent mid.names v sound.made sound.names (sorts_before mid end v (begins_trans mid after end own_begins later.begins) have) after.lines all func (turned.1 func m))

-- ---- the group
pub group_says : GroupSays
group_says own clauses plan done before after sound fit e =
    let c = came (plan_lines (plan before.names) before) (λ u. in_turn function_lines own) done after e in
    let one = plan_adds clauses (plan before.names) c.value before c.mid sound fit c.first in
    let more = own_begins own done c.mid after one.sound c.rest in
    record {
      begins = begins_trans before c.mid after one.begins more;
      sound = own_sound own done c.mid after one.sound c.rest;
      few = λ h. group_few own plan before after done e h;
      says = λ end v env functions later values have.
          let first = one.says end v env functions (later_than c.mid after end more later) values have in
          let rest = own_says own done c.mid after one.sound c.rest end v env functions later values have in
          (λ h. first.0 (rest.0 h), λ h. rest.1 (first.1 h));
      congruent = own_congruent own done c.mid after one.sound c.rest;
    }
