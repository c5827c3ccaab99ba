-- What groups of one class have made, where all lines are true: congruent functions, and what the law of the class asks for.
use Rattle.std.proofs.Common.{◌++◌, ℕ, List, IsTrue, sym, subst}
use Rattle.std.specs.List.{All, Contains}
use Rattle.std.proofs.lemmas.List.Elements.{All-contains, All-weaker}
use Rattle.hp_lit.specs.declared.line.Line.{Line}
use Rattle.hp_lit.specs.Sorts.{HaveSorts}
use Rattle.hp_lit.specs.Truth.{LineIsTrue, Values}
use Rattle.hp_defs.specs.declared.names.Ground.{Ground}
use Rattle.hp_defs.specs.Names.{NameList, sorts}
use Rattle.hp_local.specs.Applied.{clause_applies}
use Rattle.hp_local.specs.Frame.{AreCongruent}
use Rattle.hp_base.specs.Making.{Begins, Maker}
use Rattle.hp_base.proofs.Making.{begins_names, begins_trans}
use Rattle.hp_norm.specs.declared.flat.FlatClause.{FlatClause}
use Rattle.hp_norm.specs.Flat.{universal_of}
use Rattle.hp_norm.specs.Sound.{AreTrue, IsSound}
use Rattle.hp_class.specs.Frame.{AreCongruentPoints, frame_at, is_function}
use Rattle.hp_class.specs.Group.{Planned, PlannedFits}
use Rattle.hp_class.specs.Groups.{GroupsAreCongruent, GroupsAreModelled, HaveDescended, IsClass, IsModelledTurn}
use Rattle.hp_class.specs.Laws.{HasWholeTurn}
use Rattle.hp_class.specs.Points.{points}
use Rattle.hp_class.proofs.Group.{All-front}
use Rattle.hp_class.proofs.Modelled.{turns_are_modelled}
use Rattle.hp_class.proofs.Whole.{all_whole}

-- lines in front of true ones are true
lines_before : (next end : Ground) (v : Values) → Begins next end → AreTrue v end.lines → AreTrue v next.lines
lines_before next end v b lines = All-front (λ (l : Line). LineIsTrue v l.lits) next.lines b.added (subst (AreTrue v) b.lines lines)

module _ {C : Type 0} (grow : C → Maker (Unit {0})) (own applied : C → List ℕ) (clauses : C → List FlatClause) (plan : C → NameList → List Planned) (IsLent : C → NameList → Type 0)
    (groups : List C) (start end : Ground) (h : HaveDescended grow own applied clauses plan IsLent groups start end) where
  abbrev Whole : C → Type 0
  Whole c = HasWholeTurn own applied plan IsLent start end c

  abbrev law : IsClass grow own applied clauses plan IsLent
  law = h.law

  whole_turns : All Whole groups × IsSound end
  whole_turns =
      let w = all_whole grow own applied clauses plan IsLent law.stays law.grows law.fits law.applies groups tt start end h.sound h.lent h.apart h.made in (w.turns, w.sound)

  module _ (v : Values) (have : HaveSorts (sorts end.names) v) (lines : AreTrue v end.lines) where
    turn_congruent : (c : C) → Whole c → (func : ℕ) → Contains (own c) func → AreCongruentPoints v (points func end.names.definitions)
    turn_congruent c w func m = let t = w.turn in
        subst (AreCongruentPoints v) (sym (w.complete func m))
        (t.grouped.congruent end v (record { begins = t.rest; made = whole_turns.1.made }) have (lines_before t.next end v t.rest lines) func m)

    -- the clauses of a plan apply functions of the group and those that it applies alone, by the names in the end
    plan_applies : (c : C) → (mid : Ground) → Begins mid end → IsLent c mid.names → IsSound mid
        → All (λ (p : Planned). IsTrue (clause_applies (is_function end.names (own c ++ applied c)) (universal_of p.clause))) (plan c mid.names)
    plan_applies c mid b lent sound =
        let Applies : FlatClause → Type 0 = λ k. IsTrue (clause_applies (is_function end.names (own c ++ applied c)) (universal_of k)) in
        let all : All Applies (clauses c) = law.applies c end.names (law.stays c mid.names end.names lent (begins_names mid end b) whole_turns.1.made) in
        All-weaker (PlannedFits mid.names (clauses c)) (λ (p : Planned). Applies p.clause) (λ p f. All-contains Applies (clauses c) p.clause all f.among) (plan c mid.names)
        (law.fits c mid.names lent sound.made sound.names)

    turn_modelled : (size : ℕ) → AreCongruent (frame_at size end.names v).facts → (c : C) → Whole c → IsModelledTurn own applied plan IsLent size end.names v c
    turn_modelled size congruent c w = let t = w.turn in record {
      mid = t.mid;
      next = t.next;
      lent = t.lent;
      made = t.made;
      modelled = turns_are_modelled (own c) (applied c) (plan c t.mid.names) t.mid t.next end size v t.sound t.grouped whole_turns.1 t.rest have congruent lines
          (plan_applies c t.mid (begins_trans t.mid t.next end t.grouped.begins t.rest) t.lent t.sound) w.complete;
    }

-- ---- the laws
pub groups_are_congruent : GroupsAreCongruent
groups_are_congruent C grow own applied clauses plan IsLent groups start end v h have lines c func among m =
    turn_congruent grow own applied clauses plan IsLent groups start end h v have lines c
    (All-contains (HasWholeTurn own applied plan IsLent start end) groups c (whole_turns grow own applied clauses plan IsLent groups start end h).0 among) func m

pub groups_are_modelled : GroupsAreModelled
groups_are_modelled C grow own applied clauses plan IsLent groups start end size v h have congruent lines =
    All-weaker (HasWholeTurn own applied plan IsLent start end) (IsModelledTurn own applied plan IsLent size end.names v)
    (turn_modelled grow own applied clauses plan IsLent groups start end h v have lines size congruent) groups (whole_turns grow own applied clauses plan IsLent groups start end h).0
