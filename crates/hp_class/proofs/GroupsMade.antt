-- Groups of one class that make a ground set one after the other: it can be decided, and lines that were true stay so.
use Rattle.std.proofs.Common.{◌≡◌, ◌≤◌, ◌++◌, ℕ, List, [], ◌∷◌, Ok, true, subst}
use Rattle.std.specs.List.{All}
use Rattle.std.proofs.lemmas.List.Elements.{All-contains, All-head, All-tail, All-weaker}
use Rattle.hp_tree.specs.Universal.{HoldsAll, clause_at}
use Rattle.hp_tree.specs.Value.{Environment, Functions}
use Rattle.hp_lit.specs.Sorts.{HaveSorts}
use Rattle.hp_lit.specs.Truth.{Values}
use Rattle.hp_defs.specs.declared.names.Ground.{Ground}
use Rattle.hp_defs.specs.Names.{NameList, sorts}
use Rattle.hp_base.specs.Making.{Begins, Maker, in_turn}
use Rattle.hp_base.specs.Values.{arg_values}
use Rattle.hp_base.proofs.ArgsSteps.{gave}
use Rattle.hp_base.proofs.Growing.{came}
use Rattle.hp_base.proofs.Making.{begins_names, begins_same, begins_trans}
use Rattle.hp_base.proofs.SumsHold.{sums_hold_by_bodies}
use Rattle.hp_norm.specs.declared.flat.FlatClause.{FlatClause}
use Rattle.hp_norm.specs.Flat.{universal_of}
use Rattle.hp_norm.specs.Sound.{AreTrue, AreValues, IsLater, IsSound}
use Rattle.hp_instance.specs.declared.tuple.Tuple.{Tuple}
use Rattle.hp_instance.specs.Laws.{TupleFits}
use Rattle.hp_class.specs.Group.{PlanFits, Planned, PlannedFits, class_step, group_lines}
use Rattle.hp_class.specs.Groups.{AreInside, GroupsAreSound, GroupsKeepTruth, HasBeenMade, IsClass}
use Rattle.hp_class.specs.Law.{HasGrown}
use Rattle.hp_class.specs.Laws.{IsGrouped, PlannedHolds}
use Rattle.hp_class.proofs.Group.{group_says}
use Rattle.hp_class.proofs.Inside.{tuple_inside}
use Rattle.hp_class.proofs.Stays.{tuple_stays}

-- ---- values at which clauses hold
-- values and functions at which what was made is read, later on
record IsRead (size : ℕ) (last : Ground) (v : Values) (env : Environment) (functions : Functions) : Type 0 where
  values : AreValues last v env functions
  sorted : HaveSorts (sorts last.names) v
  some : 1 ≤ size
  inside : AreInside size (sorts last.names) v

abbrev AllHold : ℕ → Environment → Functions → List FlatClause → Type 0
AllHold size env functions clauses = All (λ (k : FlatClause). HoldsAll size env functions (universal_of k)) clauses

module _ (mid last : Ground) (later : IsLater mid last) (size : ℕ) (v : Values) (env : Environment) (functions : Functions) (read : IsRead size last v env functions)
    (clauses : List FlatClause) (hold : AllHold size env functions clauses) where
  -- a clause that holds is true at the values of a tuple that fits
  planned_holds : (p : Planned) → PlannedFits mid.names clauses p → PlannedHolds env functions v p
  planned_holds p fit =
      All-weaker (λ (t : Tuple). TupleFits mid.names p.clause t.args) (λ (t : Tuple). clause_at env functions (universal_of p.clause) (arg_values v t.args) ≡ true)
      (λ t h. holds (arg_values v t.args) (tuple_inside size (sorts last.names) v read.some read.inside p.clause.vars t.args
      (tuple_stays mid.names last.names p.clause t.args (begins_names mid last later.begins) later.made fit.flat h).sorted)) p.tuples fit.tuples
    where
      holds : HoldsAll size env functions (universal_of p.clause)
      holds = All-contains (λ (k : FlatClause). HoldsAll size env functions (universal_of k)) clauses p.clause hold fit.among

  plan_holds : (plan : List Planned) → PlanFits mid.names clauses plan → All (PlannedHolds env functions v) plan
  plan_holds plan fit = All-weaker (PlannedFits mid.names clauses) (PlannedHolds env functions v) planned_holds plan fit

-- ---- one group
module _ {C : Type 0} (grow : C → Maker (Unit {0})) (own applied : C → List ℕ) (clauses : C → List FlatClause) (plan : C → NameList → List Planned) (IsLent : C → NameList → Type 0)
    (law : IsClass grow own applied clauses plan IsLent) where
  abbrev step : C → Maker (Unit {0})
  step = class_step grow own plan

  -- what a group made first, and its lines
  record IsOneTurn (start end : Ground) (c : C) : Type 0 where
    mid : Ground
    grown : HasGrown (own c ++ applied c) start mid
    fit : PlanFits mid.names (clauses c) (plan c mid.names)
    grouped : IsGrouped (own c) (plan c mid.names) mid end

  one_turn : (c : C) (done : Unit {0}) (start end : Ground) → IsSound start → IsLent c start.names → step c start ≡ Ok (done, end) → IsOneTurn start end c
  one_turn c done start end sound lent e =
      let two = came (grow c start) (λ u. group_lines (own c) (plan c)) done end e in
      let grown = law.grows c two.value start two.mid lent sound two.first in
      let still = law.stays c start.names two.mid.names lent (begins_names start two.mid grown.grew.begins) grown.sound.made in
      let fit = law.fits c two.mid.names still grown.sound.made grown.sound.names in
      record {
        mid = two.mid;
        grown = grown;
        fit = fit;
        grouped = group_says (own c) (clauses c) (plan c) done two.mid end grown.sound fit two.rest;
      }

  one_begins : (c : C) (start end : Ground) → IsOneTurn start end c → Begins start end
  one_begins c start end one = begins_trans start one.mid end one.grown.grew.begins one.grouped.begins

  one_keeps : (c : C) (start end last : Ground) → IsOneTurn start end c → IsLater end last → (size : ℕ) (v : Values) (env : Environment) (functions : Functions) → IsRead size last v env functions
      → AllHold size env functions (clauses c) → AreTrue v start.lines → AreTrue v end.lines
  one_keeps c start end last one later size v env functions read hold lines =
      let begins = begins_trans one.mid end last one.grouped.begins later.begins in
      let grown = one.grown.grew.truth last v begins (sums_hold_by_bodies functions last.names v read.values.extends) in
      (one.grouped.says last v env functions later read.values read.sorted).1
      (grown.0 lines, plan_holds one.mid last (record { begins = begins; made = later.made }) size v env functions read (clauses c) hold (plan c one.mid.names) one.fit)

  -- ---- all groups
  -- what they made can be decided, and it is true where their clauses hold
  record AreMade (start end : Ground) (groups : List C) : Type 0 where
    been : HasBeenMade start end
    keeps : (last : Ground) (size : ℕ) (v : Values) (env : Environment) (functions : Functions) → IsLater end last → IsRead size last v env functions
        → All (λ c. AllHold size env functions (clauses c)) groups → AreTrue v start.lines → AreTrue v end.lines

  none_made : (start : Ground) → IsSound start → AreMade start start []
  none_made start sound = record {
    been = record { begins = begins_same start; sound = sound; few = λ h. h };
    keeps = λ last size v env functions later read hold lines. lines;
  }

  more_made : (c : C) (cs : List C) (start next end : Ground) → IsOneTurn start next c → AreMade next end cs → AreMade start end (c ∷ cs)
  more_made c cs start next end one rest = record {
    been = record {
      begins = begins_trans start next end (one_begins c start next one) rest.been.begins;
      sound = rest.been.sound;
      few = λ h. rest.been.few (one.grouped.few (one.grown.few h));
    };
    keeps = λ last size v env functions later read hold lines.
        let Hold : C → Type 0 = λ d. AllHold size env functions (clauses d) in
        let after : IsLater next last = record { begins = begins_trans next end last rest.been.begins later.begins; made = later.made } in
        rest.keeps last size v env functions later read (All-tail Hold c cs hold) (one_keeps c start next last one after size v env functions read (All-head Hold c cs hold) lines);
  }

  all_made : (groups : List C) (done : Unit {0}) (start end : Ground) → IsSound start → All (λ c. IsLent c start.names) groups → in_turn step groups start ≡ Ok (done, end) → AreMade start end groups
  all_made [] done start end sound lent e = subst (λ (g : Ground). AreMade start g []) (gave tt done start end e).ground (none_made start sound)
  all_made (c ∷ cs) done start end sound lent e =
      let two = came (step c start) (λ u. in_turn step cs) done end e in
      let one = one_turn c two.value start two.mid sound (All-head (λ x. IsLent x start.names) c cs lent) two.first in
      let b = begins_names start two.mid (one_begins c start two.mid one) in
      let later = All-weaker (λ x. IsLent x start.names) (λ x. IsLent x two.mid.names) (λ x h. law.stays x start.names two.mid.names h b one.grouped.sound.made) cs
      (All-tail (λ x. IsLent x start.names) c cs lent) in
      more_made c cs start two.mid end one (all_made cs done two.mid end one.grouped.sound later two.rest)

-- ---- the laws
pub groups_are_sound : GroupsAreSound
groups_are_sound C grow own applied clauses plan IsLent groups start end h = (all_made grow own applied clauses plan IsLent h.law groups tt start end h.sound h.lent h.made).been

pub groups_keep_truth : GroupsKeepTruth
groups_keep_truth C grow own applied clauses plan IsLent groups start end last size v env functions h later values sorted some inside hold lines =
    (all_made grow own applied clauses plan IsLent h.law groups tt start end h.sound h.lent h.made).keeps last size v env functions later
    (record { values = values; sorted = sorted; some = some; inside = inside }) hold lines
