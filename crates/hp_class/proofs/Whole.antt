-- Groups that are apart: no application of a function of a group is made after its turn.
use Rattle.std.proofs.Common.{◌≡◌, ◌∙◌, ◌++◌, ℕ, List, [], ◌∷◌, Ok, IsTrue, false, refl, sym, ap, subst}
use Rattle.std.specs.List.{All, Contains}
use Rattle.std.proofs.lemmas.List.Elements.{All-cons, All-contains, All-head, All-nil, All-tail, All-weaker}
use Rattle.hp_local.specs.Applied.{clause_applies}
use Rattle.hp_defs.specs.declared.names.Ground.{Ground}
use Rattle.hp_defs.specs.Fit.{IsFitNames}
use Rattle.hp_defs.specs.Made.{IsMade}
use Rattle.hp_defs.specs.Names.{BeginsNames, NameList, function_words}
use Rattle.hp_base.specs.Making.{Begins, Maker, in_turn}
use Rattle.hp_base.proofs.ArgsSteps.{gave}
use Rattle.hp_base.proofs.Growing.{came}
use Rattle.hp_base.proofs.Making.{begins_names, begins_same, begins_trans}
use Rattle.hp_norm.specs.declared.flat.FlatClause.{FlatClause}
use Rattle.hp_norm.specs.Sound.{IsSound}
use Rattle.hp_norm.proofs.MakingOnly.{GrowsOnly, only_through}
use Rattle.hp_norm.specs.Flat.{universal_of}
use Rattle.hp_class.specs.Frame.{is_function, is_place}
use Rattle.hp_class.specs.Group.{PlanFits, Planned, PlannedFits, class_step, group_lines}
use Rattle.hp_class.specs.Law.{HasGrown}
use Rattle.hp_class.specs.Laws.{AreApart, ClausePasses, HasTurn, HasWholeTurn}
use Rattle.hp_class.specs.Points.{points}
use Rattle.hp_class.proofs.Group.{group_says}
use Rattle.hp_class.proofs.OnlyLines.{group_makes_only}
use Rattle.hp_class.proofs.Passing.{clauses_pass}
use Rattle.hp_class.proofs.PointsStay.{points_stay}

module _ {C : Type 0} (grow : C → Maker (Unit {0})) (own applied : C → List ℕ) (clauses : C → List FlatClause) (plan : C → NameList → List Planned) (IsLent : C → NameList → Type 0)
    (stays : (c : C) (old new : NameList) → IsLent c old → BeginsNames old new → IsMade new → IsLent c new)
    (grows : (c : C) (done : Unit {0}) (before after : Ground) → IsLent c before.names → IsSound before → grow c before ≡ Ok (done, after) → HasGrown (own c ++ applied c) before after)
    (fits : (c : C) (names : NameList) → IsLent c names → IsMade names → IsFitNames names → PlanFits names (clauses c) (plan c names))
    (applies : (c : C) (names : NameList) → IsLent c names → All (λ k. IsTrue (clause_applies (is_function names (own c ++ applied c)) (universal_of k))) (clauses c)) where
  abbrev step : C → Maker (Unit {0})
  step = class_step grow own plan

  -- the turn of a group, with the functions that its new definitions apply
  record OneTurn (start end : Ground) (c : C) : Type 0 where
    turn : HasTurn own applied plan IsLent start end c
    ends : turn.next ≡ end
    sound : IsSound end
    grows_only : GrowsOnly (is_place (own c ++ applied c)) start end

  one : (c : C) (done : Unit {0}) (start end : Ground) → IsSound start → IsLent c start.names → step c start ≡ Ok (done, end) → OneTurn start end c
  one c done start end sound lent e =
      let two = came (grow c start) (λ u. group_lines (own c) (plan c)) done end e in
      let grown = grows c two.value start two.mid lent sound two.first in
      let still = stays c start.names two.mid.names lent (begins_names start two.mid grown.grew.begins) grown.sound.made in
      let fit = fits c two.mid.names still grown.sound.made grown.sound.names in
      let grouped = group_says (own c) (clauses c) (plan c) done two.mid end grown.sound fit two.rest in
      let passes : All (λ (p : Planned). ClausePasses (is_place (own c ++ applied c)) (function_words two.mid.names) p.clause) (plan c two.mid.names) =
      All-weaker (PlannedFits two.mid.names (clauses c)) (λ (p : Planned). ClausePasses (is_place (own c ++ applied c)) (function_words two.mid.names) p.clause)
      (λ p f. clauses_pass two.mid.names (own c ++ applied c) p.clause grown.sound.made
      (All-contains (λ (k : FlatClause). IsTrue (clause_applies (is_function two.mid.names (own c ++ applied c)) (universal_of k))) (clauses c) p.clause (applies c two.mid.names still) f.among)) (plan c two.mid.names) fit in
      let only = group_makes_only (is_place (own c ++ applied c)) (own c) (plan c) done two.mid end passes two.rest in
      record {
        turn = record {
          before = start;
          mid = two.mid;
          next = end;
          begins = begins_same start;
          grown = grown;
          lent = still;
          sound = grown.sound;
          made = two.rest;
          grouped = grouped;
          rest = begins_same end;
        };
        ends = refl;
        sound = grouped.sound;
        grows_only = only_through (is_place (own c ++ applied c)) start two.mid end (record { begins = grown.grew.begins; only = grown.only }) (record { begins = grouped.begins; only = only });
      }

  -- the applications of a function that is none of groups stay through their turns
  stay : (func : ℕ) (cs : List C) (done : Unit {0}) (start end : Ground) → IsSound start → All (λ c. IsLent c start.names) cs → in_turn step cs start ≡ Ok (done, end)
      → All (λ d. is_place (own d ++ applied d) func ≡ false) cs → points func end.names.definitions ≡ points func start.names.definitions
  stay func [] done start end sound lent e apart = ap (λ (g : Ground). points func g.names.definitions) (sym (gave tt done start end e).ground)
  stay func (c ∷ cs) done start end sound lent e apart =
      let Apart : C → Type 0 = λ d. is_place (own d ++ applied d) func ≡ false in
      let two = came (step c start) (λ u. in_turn step cs) done end e in
      let first = one c two.value start two.mid sound (All-head (λ x. IsLent x start.names) c cs lent) two.first in
      let b = first.grows_only.begins in
      let later = All-weaker (λ x. IsLent x start.names) (λ x. IsLent x two.mid.names) (λ x h. stays x start.names two.mid.names h (begins_names start two.mid b) first.sound.made)
      cs (All-tail (λ x. IsLent x start.names) c cs lent) in
      stay func cs done two.mid end first.sound later two.rest (All-tail Apart c cs apart)
      ∙ points_stay (is_place (own c ++ applied c)) func start two.mid b first.grows_only.only (All-head Apart c cs apart)

  abbrev Whole : Ground → Ground → C → Type 0
  Whole start end c = HasWholeTurn own applied plan IsLent start end c

  sooner : (start mid end : Ground) → Begins start mid → (c : C) → Whole mid end c → Whole start end c
  sooner start mid end b c w = let t = w.turn in record {
    turn = record {
      before = t.before;
      mid = t.mid;
      next = t.next;
      grown = t.grown;
      lent = t.lent;
      sound = t.sound;
      made = t.made;
      grouped = t.grouped;
      rest = t.rest;
      begins = begins_trans start mid t.before b t.begins;
    };
    complete = w.complete;
  }

  whole : (start mid end : Ground) (c : C) → OneTurn start mid c → Begins mid end → ((func : ℕ) → Contains (own c) func → points func end.names.definitions ≡ points func mid.names.definitions) → Whole start end c
  whole start mid end c w b complete = let t = w.turn in record {
    turn = record {
      before = t.before;
      mid = t.mid;
      next = t.next;
      begins = t.begins;
      grown = t.grown;
      lent = t.lent;
      sound = t.sound;
      made = t.made;
      grouped = t.grouped;
      rest = begins_trans t.next mid end t.rest b;
    };
    complete = λ func m. complete func m ∙ ap (λ (g : Ground). points func g.names.definitions) (sym w.ends);
  }

  -- all have whole turns
  pub record AreWhole (start end : Ground) (groups : List C) : Type 0 where
    pub turns : All (Whole start end) groups
    pub sound : IsSound end
    pub begins : Begins start end

  pub all_whole : (groups : List C) (done : Unit {0}) (start end : Ground) → IsSound start → All (λ c. IsLent c start.names) groups → AreApart own applied groups
      → in_turn step groups start ≡ Ok (done, end) → AreWhole start end groups
  all_whole [] done start end sound lent apart e =
      subst (λ (g : Ground). AreWhole start g []) (gave tt done start end e).ground (record { turns = All-nil (Whole start start); sound = sound; begins = begins_same start })
  all_whole (c ∷ cs) done start end sound lent apart e =
      let two = came (step c start) (λ u. in_turn step cs) done end e in
      let first = one c two.value start two.mid sound (All-head (λ x. IsLent x start.names) c cs lent) two.first in
      let b = first.grows_only.begins in
      let later = All-weaker (λ x. IsLent x start.names) (λ x. IsLent x two.mid.names) (λ x h. stays x start.names two.mid.names h (begins_names start two.mid b) first.sound.made)
      cs (All-tail (λ x. IsLent x start.names) c cs lent) in
      let rest = all_whole cs done two.mid end first.sound later apart.1 two.rest in
      let mine = whole start two.mid end c first rest.begins (λ func m. stay func cs done two.mid end first.sound later two.rest (apart.0 func m)) in
      record {
        turns = All-cons (Whole start end) c cs mine (All-weaker (Whole two.mid end) (Whole start end) (sooner start two.mid end b) cs rest.turns);
        sound = rest.sound;
        begins = begins_trans start two.mid end b rest.begins;
      }
