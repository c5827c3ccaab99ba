-- Groups that take their turn one after the other.
use Rattle.std.proofs.Common.{◌≡◌, ◌∙◌, ◌+◌, ◌<◌, ◌≤◌, ◌++◌, ℕ, List, [], ◌∷◌, drop, get_or, length, Result, Ok, Err, OnOk, sym, ap, subst}
use Rattle.std.specs.List.{All}
use Rattle.std.specs.Result.{IsErrAnd}
use Rattle.std.proofs.lemmas.List.{drop_more}
use Rattle.std.proofs.lemmas.List.Elements.{All-cons, All-head, All-nil, All-tail, All-weaker}
use Rattle.hp_lit.specs.declared.refusal.GroundErr.{GroundErr}
use Rattle.hp_defs.specs.declared.names.Ground.{Ground}
use Rattle.hp_defs.specs.Fit.{IsFitNames}
use Rattle.hp_defs.specs.Made.{IsMade}
use Rattle.hp_defs.specs.Names.{BeginsNames, NameList}
use Rattle.hp_base.specs.Making.{Begins, Maker, Makes, ◌then◌, in_turn}
use Rattle.hp_base.proofs.ArgsSteps.{gave}
use Rattle.hp_base.proofs.Growing.{came}
use Rattle.hp_base.proofs.Making.{begins_names, begins_same, begins_trans, makes_same_err, makes_stopped}
use Rattle.hp_norm.specs.declared.flat.FlatClause.{FlatClause}
use Rattle.hp_norm.specs.Sound.{IsSound}
use Rattle.hp_class.specs.Group.{PlanFits, Planned, class_step, group_lines}
use Rattle.hp_class.specs.Law.{HasGrown}
use Rattle.hp_class.specs.Laws.{HasTurn}
use Rattle.hp_class.proofs.Group.{group_says}
use Rattle.hp_class.proofs.Places.{over}

-- ---- one group
-- the lines of a group leave the ground set such that all of it can be decided
pub group_sound : (own : List ℕ) (clauses : List FlatClause) (plan : NameList → List Planned) (old new : Ground) (r : Result (Unit {0}) GroundErr) → IsSound old
    → PlanFits old.names clauses (plan old.names) → Makes (group_lines own plan) old new r → OnOk r (IsSound new)
group_sound own clauses plan old new (Ok done) sound fit made = (group_says own clauses plan done old new sound fit made).sound
group_sound own clauses plan old new (Err e) sound fit made = tt

-- ---- a loop over groups, of which those from a place on are left
module _ {X : Type 0} (f : X → Maker (Unit {0})) (xs : List X) (i : ℕ) (x : X) (h : i < length xs) (is : x ≡ get_or xs i x)
    (start now : Ground) (rest : in_turn f xs start ≡ in_turn f (drop i xs) now) where
  turn : in_turn f xs start ≡ (f x now then λ done. in_turn f (drop (i + 1) xs))
  turn = rest ∙ ap (λ zs. in_turn f zs now) (drop_more xs i x h) ∙ ap (λ z. f z now then λ done. in_turn f (drop (i + 1) xs)) (sym is)

  pub turn_made : (next : Ground) → f x now ≡ Ok (tt, next) → in_turn f xs start ≡ in_turn f (drop (i + 1) xs) next
  turn_made next e = turn ∙ ap (λ r. r then λ done. in_turn f (drop (i + 1) xs)) e

  pub turn_refused : (next : Ground) (e : GroundErr) (r : Result (Unit {0}) GroundErr) → Makes (f x) now next (Err e) → IsErrAnd r (λ y. y ≡ e) → Makes (in_turn f xs) start next r
  turn_refused next e r m s =
      makes_same_err (in_turn f xs) start next r e s
      (makes_stopped (f x) (in_turn f xs) now next start next e (λ l k. turn ∙ ap (λ q. q then λ done. in_turn f (drop (i + 1) xs)) k) m)

pub groups_end : {X : Type 0} (f : X → Maker (Unit {0})) (xs : List X) (i : ℕ) (start now : Ground) → length xs ≤ i → in_turn f xs start ≡ in_turn f (drop i xs) now → in_turn f xs start ≡ Ok (tt, now)
groups_end f xs i start now h rest = rest ∙ ap (λ zs. in_turn f zs now) (over xs i h)

-- ---- groups of any class, by what the class says of itself
module _ {C : Type 0} (grow : C → Maker (Unit {0})) (own applied : C → List ℕ) (clauses : C → List FlatClause) (plan : C → NameList → List Planned) (IsLent : C → NameList → Type 0)
    (stays : (c : C) (old new : NameList) → IsLent c old → BeginsNames old new → IsMade new → IsLent c new)
    (grows : (c : C) (done : Unit {0}) (before after : Ground) → IsLent c before.names → IsSound before → grow c before ≡ Ok (done, after) → HasGrown (own c ++ applied c) before after)
    (fits : (c : C) (names : NameList) → IsLent c names → IsMade names → IsFitNames names → PlanFits names (clauses c) (plan c names)) where
  abbrev Turn : Ground → Ground → C → Type 0
  Turn start end c = HasTurn own applied plan IsLent start end c

  abbrev step : C → Maker (Unit {0})
  step = class_step grow own plan

  one_turn : (c : C) (done : Unit {0}) (start end : Ground) → IsSound start → IsLent c start.names → step c start ≡ Ok (done, end) → Turn start end c
  one_turn c done start end sound lent e =
      let two = came (grow c start) (λ u. group_lines (own c) (plan c)) done end e in
      let grown = grows c two.value start two.mid lent sound two.first in
      let still = stays c start.names two.mid.names lent (begins_names start two.mid grown.grew.begins) grown.sound.made in
      let fit = fits c two.mid.names still grown.sound.made grown.sound.names in
      record {
        before = start;
        mid = two.mid;
        next = end;
        begins = begins_same start;
        grown = grown;
        lent = still;
        sound = grown.sound;
        made = two.rest;
        grouped = group_says (own c) (clauses c) (plan c) done two.mid end grown.sound fit two.rest;
        rest = begins_same end;
      }

  longer : (start mid end : Ground) → Begins mid end → (c : C) → Turn start mid c → Turn start end c
  longer start mid end b c t = record {
    before = t.before;
    mid = t.mid;
    next = t.next;
    begins = t.begins;
    grown = t.grown;
    lent = t.lent;
    sound = t.sound;
    made = t.made;
    grouped = t.grouped;
    rest = begins_trans t.next mid end t.rest b;
  }

  sooner : (start mid end : Ground) → Begins start mid → (c : C) → Turn mid end c → Turn start end c
  sooner start mid end b c t = record {
    before = t.before;
    mid = t.mid;
    next = t.next;
    grown = t.grown;
    lent = t.lent;
    sound = t.sound;
    made = t.made;
    grouped = t.grouped;
    rest = t.rest;
    begins = begins_trans start mid t.before b t.begins;
  }

  -- all have their turns, and then the ground set can be decided
  pub record AreDone (start end : Ground) (groups : List C) : Type 0 where
    pub turns : All (Turn start end) groups
    pub sound : IsSound end
    pub begins : Begins start end

  pub all_done : (groups : List C) (done : Unit {0}) (start end : Ground) → IsSound start → All (λ c. IsLent c start.names) groups → in_turn step groups start ≡ Ok (done, end)
      → AreDone start end groups
  unfolding one_turn
  all_done [] done start end sound lent e =
      subst (λ (g : Ground). AreDone start g []) (gave tt done start end e).ground (record { turns = All-nil (Turn start start); sound = sound; begins = begins_same start })
  all_done (c ∷ cs) done start end sound lent e =
      let two = came (step c start) (λ u. in_turn step cs) done end e in
      let one = one_turn c two.value start two.mid sound (All-head (λ x. IsLent x start.names) c cs lent) two.first in
      let b = begins_trans start one.mid two.mid one.grown.grew.begins one.grouped.begins in
      let later = All-weaker (λ x. IsLent x start.names) (λ x. IsLent x two.mid.names) (λ x h. stays x start.names two.mid.names h (begins_names start two.mid b) one.grouped.sound.made)
      cs (All-tail (λ x. IsLent x start.names) c cs lent) in
      let rest = all_done cs done two.mid end one.grouped.sound later two.rest in
      record {
        turns = All-cons (Turn start end) c cs (longer start two.mid end rest.begins c one) (All-weaker (Turn two.mid end) (Turn start end) (sooner start two.mid end b) cs rest.turns);
        sound = rest.sound;
        begins = begins_trans start two.mid end b rest.begins;
      }
