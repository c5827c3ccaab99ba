-- The instances at pairs, pair by pair, while definitions are only added.
use Rattle.std.proofs.Common.{◌≡◌, ℕ, suc, ◌+◌, ◌<◌, ◌≤◌, List, [], ◌∷◌, ◌++◌, Bool, true, false, cond, map, length, length-append, drop, drop-cons, get_or, nat_eq, Option, Some, None, Result, Ok, Err, refl, sym, ap, ◌∙◌, add-one, arith}
use Rattle.std.specs.Prelude.{slice_get}
use Rattle.std.specs.List.{All}
use Rattle.std.specs.Result.{IsErrAnd}
use Rattle.std.proofs.lemmas.Bool.{false_from_ne_true}
use Rattle.std.proofs.Common.{eq-eqb, eqb-true}
use Rattle.std.proofs.lemmas.List.Elements.{All-head, All-tail}
use Rattle.hp_tree.specs.declared.limit.Limit.{Limit}
use Rattle.hp_lit.specs.declared.line.Def.{Def}
use Rattle.hp_lit.specs.declared.literal.Name as literal
use Rattle.hp_lit.specs.declared.refusal.GroundErr.{GroundErr}
use Rattle.hp_defs.specs.declared.names.Ground.{Ground}
use Rattle.hp_defs.specs.Made.{IsMade}
use Rattle.hp_defs.proofs.Lists.{get_front}
use Rattle.hp_base.specs.Congruence.{Point, point_of}
use Rattle.hp_base.specs.Making.{Begins, Maker, Makes, ◌then◌, in_turn}
use Rattle.hp_base.proofs.Making.{begins_same, begins_trans, makes_same_err, makes_stopped}
use Rattle.hp_norm.specs.declared.flat.FlatClause.{FlatClause}
use Rattle.hp_norm.specs.Sound.{IsSound}
use Rattle.hp_instance.specs.Instances.{instance}
use Rattle.hp_class.specs.Group.{plan_lines}
use Rattle.hp_defs.specs.Places.{places}
use Rattle.hp_class.specs.Places.{point_at, points_at}
use Rattle.hp_class.specs.Points.{points}
use Rattle.hp_class.proofs.Places.{got_one, over, points_there}
use Rattle.hp_tables.specs.Pairs.{lines_below, ordered_from, ordered_pairs, pair_at, pair_between, pair_instance, pair_tuple, pairs_below, pairs_plan, with_others}

-- ---- turns
then_same : {A B : Type 0} (r : Result (A × Ground) Limit) (f h : A → Maker B) → ((x : A) (mid : Ground) → f x mid ≡ h x mid) → (r then f) ≡ (r then h)
then_same (Ok x) f h same = same x.0 x.1
then_same (Err l) f h same = refl

then_then : {A B C : Type 0} (r : Result (A × Ground) Limit) (f : A → Maker B) (h : B → Maker C) → (r then (λ x mid. f x mid then h)) ≡ ((r then f) then h)
then_then (Ok x) f h = refl
then_then (Err l) f h = refl

then_nothing : (r : Result (Unit {0} × Ground) Limit) → (r then λ done. λ g. Ok (tt, g)) ≡ r
then_nothing (Ok x) = refl
then_nothing (Err l) = refl

turns_both : {N : Type 0} (f : N → Maker (Unit {0})) (ms ns : List N) (g : Ground) → in_turn f (ms ++ ns) g ≡ (in_turn f ms g then λ done. in_turn f ns)
turns_both f [] ns g = refl
turns_both f (m ∷ ms) ns g =
    then_same (f m g) (λ done. in_turn f (ms ++ ns)) (λ done mid. in_turn f ms mid then λ end. in_turn f ns) (λ x mid. turns_both f ms ns mid)
    ∙ then_then (f m g) (λ done. in_turn f ms) (λ done. in_turn f ns)

turns_map : {M N : Type 0} (f : N → Maker (Unit {0})) (h : M → N) (ms : List M) (g : Ground) → in_turn f (map h ms) g ≡ in_turn (λ m. f (h m)) ms g
turns_map f h [] g = refl
turns_map f h (m ∷ ms) g = then_same (f (h m) g) (λ done. in_turn f (map h ms)) (λ done. in_turn (λ n. f (h n)) ms) (λ x mid. turns_map f h ms mid)

-- ---- definitions that are there stay at their places
there_still : (old now : Ground) (k : ℕ) (d : Def) → Begins old now → slice_get old.names.definitions k ≡ Some d → slice_get now.names.definitions k ≡ Some d
there_still old now k d b e = ap (λ (ds : List Def). slice_get ds k) b.definitions ∙ get_front old.names.definitions b.made k d e

pub points_still : (old now : Ground) (ks : List ℕ) → Begins old now → All (λ k. k < length old.names.definitions) ks → points_at now.names.definitions ks ≡ points_at old.names.definitions ks
points_still old now [] b h = refl
points_still old now (k ∷ ks) b h =
    let w = got_one old.names.definitions k (All-head (λ j. j < length old.names.definitions) k ks h) in
    let e = there_still old now k w.0 b w.1 ∙ sym w.1 in
    (λ j. point_at (e j) ++ points_still old now ks b (All-tail (λ i. i < length old.names.definitions) k ks h) j)

pub inside_still : (old now : Ground) (ks : List ℕ) → Begins old now → All (λ k. k < length old.names.definitions) ks → All (λ k. k < length now.names.definitions) ks
inside_still old now ks b h i d l =
    let long = ap (λ (ds : List Def). length ds) b.definitions ∙ length-append old.names.definitions b.made in
    let one = h i d l in omega (arith, long, one)

first_point : (ds : List Def) (k : ℕ) (ks : List ℕ) (d : Def) → slice_get ds k ≡ Some d → points_at ds (k ∷ ks) ≡ point_of d ∷ points_at ds ks
first_point ds k ks d e = ap (λ o. point_at o ++ points_at ds ks) e

-- ---- an application with others
module _ (c : FlatClause) (first_lower : Bool) where
  abbrev f : Point × Point → Maker (Unit {0})
  f = pair_instance c first_lower

  -- a loop over the others at a place
  pub record IsBelow (lower : ℕ) (ks : List ℕ) (i : ℕ) (old now : Ground) : Type 0 where
    pub rest : lines_below c first_lower lower ks old ≡ in_turn f (pairs_below (slice_get old.names.definitions lower) (points_at old.names.definitions (drop i ks))) now
    pub begins : Begins old now
    pub sound : IsSound now

  pub below_start : (lower : ℕ) (ks : List ℕ) (g : Ground) → IsSound g → IsBelow lower ks 0 g g
  below_start lower ks g sound = record { rest = refl; begins = begins_same g; sound = sound }

  module _ (lower : ℕ) (ks : List ℕ) (i : ℕ) (h : i < length ks) (old now : Ground) (made : IsMade old.names) (low : lower < length old.names.definitions)
      (inside : All (λ k. k < length old.names.definitions) ks) (t : IsBelow lower ks i old now) where
    abbrev ds : List Def
    ds = old.names.definitions

    abbrev upper : ℕ
    upper = get_or ks i 0

    d : (x : Def) × (slice_get ds lower ≡ Some x)
    d = got_one ds lower low

    e : (x : Def) × (slice_get ds upper ≡ Some x)
    e = got_one ds upper (inside i 0 h)

    abbrev left : List ℕ
    left = drop (suc i) ks

    next_is : lines_below c first_lower lower ks old
        ≡ in_turn f (cond (nat_eq d.0.name.0 e.0.name.0) (with_others (point_of d.0) (points_at ds left)) ((point_of d.0, point_of e.0) ∷ with_others (point_of d.0) (points_at ds left))) now
    next_is =
        t.rest ∙ ap (λ zs. in_turn f (pairs_below (slice_get ds lower) (points_at ds zs)) now) (drop-cons ks i 0 h)
        ∙ ap (λ ps. in_turn f (pairs_below (slice_get ds lower) ps) now) (first_point ds upper left e.0 e.1)
        ∙ ap (λ o. in_turn f (pairs_below o (point_of e.0 ∷ points_at ds left)) now) d.1

    left_is : in_turn f (with_others (point_of d.0) (points_at ds left)) ≡ in_turn f (pairs_below (slice_get ds lower) (points_at ds left))
    left_is = ap (λ o. in_turn f (pairs_below o (points_at ds left))) (sym d.1)

    named : (k : ℕ) (x : Def) → slice_get ds k ≡ Some x → x.name.0 ≡ length old.names.constants + k
    named k x g = ap (λ (n : literal.Name). n.0) (made.named k x g)

    -- itself is left out
    pub below_itself : upper ≡ lower → IsBelow lower ks (i + 1) old now
    below_itself same =
        let one = named lower d.0 d.1 in
        let two = named upper e.0 e.1 in
        let yes : nat_eq d.0.name.0 e.0.name.0 ≡ true = eq-eqb d.0.name.0 e.0.name.0 (omega (arith, one, two, same)) in
        record {
          rest = next_is
              ∙ ap (λ b. in_turn f (cond b (with_others (point_of d.0) (points_at ds left)) ((point_of d.0, point_of e.0) ∷ with_others (point_of d.0) (points_at ds left))) now) yes
              ∙ ap (λ (m : Maker (Unit {0})). m now) left_is
              ∙ ap (λ j. in_turn f (pairs_below (slice_get ds lower) (points_at ds (drop j ks))) now) (sym (add-one i));
          begins = t.begins;
          sound = t.sound;
        }

    turned : (upper ≡ lower → ⊥) → (r : Result (Unit {0} × Ground) Limit) → pair_at c first_lower lower upper now ≡ r
        → lines_below c first_lower lower ks old ≡ (r then λ done. in_turn f (pairs_below (slice_get ds lower) (points_at ds left)))
    turned apart r is =
        let one = named lower d.0 d.1 in
        let two = named upper e.0 e.1 in
        let no : nat_eq d.0.name.0 e.0.name.0 ≡ false = false_from_ne_true (nat_eq d.0.name.0 e.0.name.0)
        (λ y. (let same = eqb-true d.0.name.0 e.0.name.0 y in let sum : upper ≡ lower = omega (arith, one, two, same) in apart sum)) in
        let here : f (point_of d.0, point_of e.0) now ≡ r =
        (λ j. pair_between c first_lower (sym (there_still old now lower d.0 t.begins d.1) j) (sym (there_still old now upper e.0 t.begins e.1) j) now) ∙ is in
        next_is
        ∙ ap (λ b. in_turn f (cond b (with_others (point_of d.0) (points_at ds left)) ((point_of d.0, point_of e.0) ∷ with_others (point_of d.0) (points_at ds left))) now) no
        ∙ ap (λ q. q then λ done. in_turn f (with_others (point_of d.0) (points_at ds left))) here
        ∙ ap (λ (m : Maker (Unit {0})). r then λ done. m) left_is

    pub below_more : (upper ≡ lower → ⊥) → (next : Ground) → pair_at c first_lower lower upper now ≡ Ok (tt, next) → Begins now next → IsSound next → IsBelow lower ks (i + 1) old next
    below_more apart next is b sound = record {
      rest = turned apart (Ok (tt, next)) is ∙ ap (λ j. in_turn f (pairs_below (slice_get ds lower) (points_at ds (drop j ks))) next) (sym (add-one i));
      begins = begins_trans old now next t.begins b;
      sound = sound;
    }

    pub below_err : (upper ≡ lower → ⊥) → (next : Ground) (w : GroundErr) (r : Result (Unit {0}) GroundErr) → Makes (pair_at c first_lower lower upper) now next (Err w) → IsErrAnd r (λ x. x ≡ w)
        → Makes (lines_below c first_lower lower ks) old next r
    below_err apart next w r m s =
        makes_same_err (lines_below c first_lower lower ks) old next r w s
        (makes_stopped (pair_at c first_lower lower upper) (lines_below c first_lower lower ks) now next old next w (λ l k. turned apart (Err l) k) m)

  none_below : (o : Option Def) → pairs_below o [] ≡ []
  none_below None = refl
  none_below (Some d) = refl

  pub below_end : (lower : ℕ) (ks : List ℕ) (i : ℕ) (old now : Ground) → length ks ≤ i → IsBelow lower ks i old now → lines_below c first_lower lower ks old ≡ Ok (tt, now)
  below_end lower ks i old now h t =
      t.rest ∙ ap (λ zs. in_turn f (pairs_below (slice_get old.names.definitions lower) (points_at old.names.definitions zs)) now) (over ks i h)
      ∙ ap (λ ps. in_turn f ps now) (none_below (slice_get old.names.definitions lower))

  -- ---- each application
  abbrev all : List ℕ → Ground → List Point
  all ks old = points_at old.names.definitions ks

  pub record IsPlanned (ks : List ℕ) (i : ℕ) (old now : Ground) : Type 0 where
    pub rest : in_turn f (ordered_pairs (all ks old)) old ≡ in_turn f (ordered_from (points_at old.names.definitions (drop i ks)) (all ks old)) now
    pub begins : Begins old now
    pub sound : IsSound now

  pub planned_start : (ks : List ℕ) (g : Ground) → IsSound g → IsPlanned ks 0 g g
  planned_start ks g sound = record { rest = refl; begins = begins_same g; sound = sound }

  module _ (ks : List ℕ) (i : ℕ) (h : i < length ks) (old now : Ground) (inside : All (λ k. k < length old.names.definitions) ks) (t : IsPlanned ks i old now) where
    planned : (r : Result (Unit {0} × Ground) Limit) → lines_below c first_lower (get_or ks i 0) ks now ≡ r
        → in_turn f (ordered_pairs (all ks old)) old ≡ (r then λ done. in_turn f (ordered_from (points_at old.names.definitions (drop (suc i) ks)) (all ks old)))
    planned r is =
        let ds = old.names.definitions in
        let k = get_or ks i 0 in
        let w = got_one ds k (inside i 0 h) in
        let rest = ordered_from (points_at ds (drop (suc i) ks)) (all ks old) in
        let here : in_turn f (with_others (point_of w.0) (all ks old)) now ≡ r =
        (λ j. in_turn f (pairs_below (sym (there_still old now k w.0 t.begins w.1) j) (sym (points_still old now ks t.begins inside) j)) now) ∙ is in
        t.rest ∙ ap (λ zs. in_turn f (ordered_from (points_at ds zs) (all ks old)) now) (drop-cons ks i 0 h)
        ∙ ap (λ ps. in_turn f (ordered_from ps (all ks old)) now) (first_point ds k (drop (suc i) ks) w.0 w.1)
        ∙ turns_both f (with_others (point_of w.0) (all ks old)) rest now
        ∙ ap (λ q. q then λ done. in_turn f rest) here

    pub planned_more : (next : Ground) → lines_below c first_lower (get_or ks i 0) ks now ≡ Ok (tt, next) → Begins now next → IsSound next → IsPlanned ks (i + 1) old next
    planned_more next is b sound = record {
      rest = planned (Ok (tt, next)) is ∙ ap (λ j. in_turn f (ordered_from (points_at old.names.definitions (drop j ks)) (all ks old)) next) (sym (add-one i));
      begins = begins_trans old now next t.begins b;
      sound = sound;
    }

    pub planned_err : (next : Ground) (w : GroundErr) (r : Result (Unit {0}) GroundErr) → Makes (lines_below c first_lower (get_or ks i 0) ks) now next (Err w) → IsErrAnd r (λ x. x ≡ w)
        → Makes (λ g. in_turn f (ordered_pairs (all ks g)) g) old next r
    planned_err next w r m s =
        makes_same_err (λ g. in_turn f (ordered_pairs (all ks g)) g) old next r w s
        (makes_stopped (lines_below c first_lower (get_or ks i 0) ks) (λ g. in_turn f (ordered_pairs (all ks g)) g) now next old next w (λ l k. planned (Err l) k) m)

  pub planned_end : (ks : List ℕ) (i : ℕ) (old now : Ground) → length ks ≤ i → IsPlanned ks i old now → in_turn f (ordered_pairs (all ks old)) old ≡ Ok (tt, now)
  planned_end ks i old now h t = t.rest ∙ ap (λ zs. in_turn f (ordered_from (points_at old.names.definitions zs) (all ks old)) now) (over ks i h)

  -- ---- the plan
  pub plan_is : (func : ℕ) (ks : List ℕ) (g : Ground) → ks ≡ places func g.names.definitions
      → in_turn f (ordered_pairs (all ks g)) g ≡ plan_lines (pairs_plan func first_lower c g.names) g
  plan_is func ks g is =
      ap (λ js. in_turn f (ordered_pairs (points_at g.names.definitions js)) g) is
      ∙ ap (λ ps. in_turn f (ordered_pairs ps) g) (sym (points_there func g.names.definitions))
      ∙ sym (turns_map (instance c) (pair_tuple first_lower) (ordered_pairs (points func g.names.definitions)) g)
      ∙ sym (then_nothing (in_turn (instance c) (map (pair_tuple first_lower) (ordered_pairs (points func g.names.definitions))) g))
