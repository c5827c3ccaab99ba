-- A clause at tuples over a list of arguments, one after the other.
use Rattle.std.proofs.Common.{◌≡◌, ◌∙◌, ◌<◌, ℕ, List, [], ◌∷◌, map, length, replicate, Bool, true, false, Result, Ok, Err, refl, sym, ap, subst, arith}
use Rattle.std.specs.List.{All}
use Rattle.std.specs.Result.{IsErrAnd}
use Rattle.std.proofs.lemmas.List.Elements.{All-contains, All-head, All-tail, All-weaker}
use Rattle.hp_tree.specs.declared.limit.Limit.{Limit}
use Rattle.hp_lit.specs.declared.line.Arg.{Arg}
use Rattle.hp_lit.specs.declared.line.Arg.TheVariants.{Null}
use Rattle.hp_lit.specs.declared.refusal.GroundErr.{GroundErr}
use Rattle.hp_local.proofs.Lists.{All-by, contains_map}
use Rattle.hp_defs.specs.declared.names.Ground.{Ground}
use Rattle.hp_defs.specs.Made.{IsMade}
use Rattle.hp_base.specs.Making.{Begins, Maker, Makes, ◌then◌, in_turn}
use Rattle.hp_base.proofs.Making.{begins_names, begins_same, begins_trans, makes_same_err, makes_stopped}
use Rattle.hp_norm.specs.declared.flat.FlatClause.{FlatClause}
use Rattle.hp_norm.specs.Flat.{IsFlat}
use Rattle.hp_norm.specs.Sound.{IsSound}
use Rattle.hp_instance.specs.declared.tuple.Tuple.{Tuple}
use Rattle.hp_instance.specs.Instances.{instance}
use Rattle.hp_instance.specs.Laws.{TupleFits}
use Rattle.hp_instance.proofs.InstancesSay.{instances_say}
use Rattle.hp_class.specs.Group.{plan_lines, planned_lines}
use Rattle.hp_class.proofs.Stays.{flat_stays, tuple_stays}
use Rattle.hp_tuples.specs.Tuples.{IsNext, all_tuples, places, tuples_from}
use Rattle.hp_tuples.proofs.Counting.{first_itself, zeros_below}
use Rattle.hp_tuples.proofs.Mapped.{tuples_at}
use Rattle.hp_tuple_lines.specs.TupleLines.{FitsOver, shown_tuple, tuples_over, args_at, planned_over, tuples_plan}

-- the tuples of places that are left
abbrev pub left : Bool → ℕ → List ℕ → List (List ℕ)
left true size ks = tuples_from size ks
left false size ks = []

abbrev pub tuple_at : List Arg → List ℕ → Tuple
tuple_at xs ks = shown_tuple (args_at xs ks)

-- the lines of the tuples that are left are to be added
pub record IsStepping (c : FlatClause) (xs : List Arg) (more : Bool) (ks : List ℕ) (start now : Ground) : Type 0 where
  pub below : All (λ k. k < length xs) ks
  pub flat : IsFlat now.names c
  pub fit : All (λ js. TupleFits now.names c (args_at xs js)) (left more (length xs) ks)
  pub sound : IsSound now
  pub rest : in_turn (instance c) (tuples_over xs (length c.vars)) start ≡ in_turn (instance c) (map (tuple_at xs) (left more (length xs) ks)) now
  pub begins : Begins start now

map_map : {X Y Z : Type 0} (f : X → Y) (h : Y → Z) (xs : List X) → map h (map f xs) ≡ map (λ x. h (f x)) xs
map_map f h [] = refl
map_map f h (x ∷ xs) = ap (λ ys. h (f x) ∷ ys) (map_map f h xs)

-- all tuples, by places
module _ (xs : List Arg) (n : ℕ) (ks : List ℕ) (first : tuples_from (length xs) ks ≡ all_tuples (places (length xs)) n) where
  all_at : tuples_over xs n ≡ map (tuple_at xs) (tuples_from (length xs) ks)
  all_at =
      ap (map shown_tuple) (tuples_at xs Null n) ∙ map_map (args_at xs) shown_tuple (all_tuples (places (length xs)) n)
      ∙ ap (map (tuple_at xs)) (sym first)

pub stepping_start : (c : FlatClause) (xs : List Arg) (ks : List ℕ) (g : Ground) → 0 < length xs → ks ≡ replicate (length c.vars) 0 → tuples_from (length xs) ks ≡ all_tuples (places (length xs)) (length c.vars)
    → FitsOver g.names xs c → IsSound g → IsStepping c xs true ks g g
stepping_start c xs ks g some zeros first fit sound =
    let n = length c.vars in
    let all = all_at xs n ks first in
    record {
      below = subst (All (λ k. k < length xs)) (sym zeros) (zeros_below (length xs) n some);
      flat = fit.flat;
      fit = All-by (λ js. TupleFits g.names c (args_at xs js)) (tuples_from (length xs) ks)
          (λ js m. All-contains (λ (t : Tuple). TupleFits g.names c t.args) (map (tuple_at xs) (tuples_from (length xs) ks)) (tuple_at xs js)
          (subst (All (λ (t : Tuple). TupleFits g.names c t.args)) all fit.tuples) (contains_map (tuple_at xs) (tuples_from (length xs) ks) js m));
      sound = sound;
      rest = ap (λ ts. in_turn (instance c) ts g) all;
      begins = begins_same g;
    }

next_left : (size : ℕ) (ks js : List ℕ) (more : Bool) → IsNext size ks js more → tuples_from size ks ≡ ks ∷ left more size js
next_left size ks js true h = h
next_left size ks js false h = h.0

-- ---- one more tuple
module _ (c : FlatClause) (xs : List Arg) (ks : List ℕ) (start now : Ground) (s : IsStepping c xs true ks start now) (args shown : List Arg) (is : args ≡ args_at xs ks) (shown_is : shown ≡ args_at xs ks) where
  abbrev own : Tuple
  own = record { args = args; shown = shown }

  abbrev later : List (List ℕ) → Maker (Unit {0})
  later all = in_turn (instance c) (map (tuple_at xs) all)

  turn : (all : List (List ℕ)) → tuples_from (length xs) ks ≡ ks ∷ all → in_turn (instance c) (tuples_over xs (length c.vars)) start ≡ (instance c own now then λ done. later all)
  turn all e =
      s.rest ∙ ap (λ zs. in_turn (instance c) (map (tuple_at xs) zs) now) e
      ∙ (λ i. instance c (record { args = sym is i; shown = sym shown_is i }) now then λ done. later all)

  -- it fits
  pub stepping_fits : TupleFits now.names c args
  stepping_fits =
      let h = first_itself (length xs) ks in
      subst (TupleFits now.names c) (sym is) (All-head (λ zs. TupleFits now.names c (args_at xs zs)) ks h.0 (subst (All (λ zs. TupleFits now.names c (args_at xs zs))) h.1 s.fit))

  pub stepping_refused : (next : Ground) (e : GroundErr) (r : Result (Unit {0}) GroundErr) → Makes (instance c own) now next (Err e) → IsErrAnd r (λ y. y ≡ e)
      → Makes (planned_lines (planned_over xs c)) start next r
  stepping_refused next e r m same =
      let h = first_itself (length xs) ks in
      makes_same_err (planned_lines (planned_over xs c)) start next r e same
      (makes_stopped (instance c own) (planned_lines (planned_over xs c)) now next start next e (λ l k. turn h.0 h.1 ∙ ap (λ q. q then λ done. later h.0) k) m)

  module _ (js : List ℕ) (more : Bool) (next : IsNext (length xs) ks js more) where
    abbrev all : List (List ℕ)
    all = left more (length xs) js

    fits : All (λ zs. TupleFits now.names c (args_at xs zs)) (ks ∷ all)
    fits = subst (All (λ zs. TupleFits now.names c (args_at xs zs))) (next_left (length xs) ks js more next) s.fit

    pub stepping_more : (new : Ground) → instance c own now ≡ Ok (tt, new) → Begins now new → All (λ k. k < length xs) js → IsStepping c xs more js start new
    stepping_more new e kept below =
        let sound = (instances_say c own tt now new s.sound s.flat stepping_fits e).sound in
        let b = begins_names now new kept in
        record {
          below = below;
          flat = flat_stays now.names new.names c b sound.made s.flat;
          fit = All-weaker (λ zs. TupleFits now.names c (args_at xs zs)) (λ zs. TupleFits new.names c (args_at xs zs))
              (λ zs h. tuple_stays now.names new.names c (args_at xs zs) b sound.made s.flat h) all (All-tail (λ zs. TupleFits now.names c (args_at xs zs)) ks all fits);
          sound = sound;
          rest = turn all (next_left (length xs) ks js more next) ∙ ap (λ r. r then λ done. later all) e;
          begins = begins_trans start now new s.begins kept;
        }

    pub left_less : length all < length (tuples_from (length xs) ks)
    left_less = (let e = ap (λ (zs : List (List ℕ)). length zs) (next_left (length xs) ks js more next) in omega (arith, e))

pub stepping_end : (c : FlatClause) (xs : List Arg) (more : Bool) (ks : List ℕ) (start now : Ground) → more ≡ false → IsStepping c xs more ks start now → planned_lines (planned_over xs c) start ≡ Ok (tt, now)
stepping_end c xs more ks start now e s = s.rest ∙ ap (λ b. in_turn (instance c) (map (tuple_at xs) (left b (length xs) ks)) now) e

-- ---- clauses, one after the other
pub all_fit_still : (old new : Ground) (xs : List Arg) (clauses : List FlatClause) → Begins old new → IsMade new.names → All (FitsOver old.names xs) clauses → All (FitsOver new.names xs) clauses
all_fit_still old new xs clauses b made h =
    All-weaker (FitsOver old.names xs) (FitsOver new.names xs)
    (λ c k. record {
      flat = flat_stays old.names new.names c (begins_names old new b) made k.flat;
      few = k.few;
      tuples = All-weaker (λ (t : Tuple). TupleFits old.names c t.args) (λ (t : Tuple). TupleFits new.names c t.args)
          (λ t m. tuple_stays old.names new.names c t.args (begins_names old new b) made k.flat m) (tuples_over xs (length c.vars)) k.tuples;
    }) clauses h

then_same : (r : Result (Unit {0} × Ground) Limit) (f g : Unit {0} → Maker (Unit {0})) → ((x : Unit {0}) (mid : Ground) → f x mid ≡ g x mid) → (r then f) ≡ (r then g)
then_same (Ok x) f g same = same x.0 x.1
then_same (Err l) f g same = refl

-- the lines of a clause at all tuples
abbrev pub clause_lines : List Arg → FlatClause → Maker (Unit {0})
clause_lines xs c = planned_lines (planned_over xs c)

-- the plan, clause by clause
pub plan_by_clauses : (xs : List Arg) (clauses : List FlatClause) (g : Ground) → plan_lines (tuples_plan xs clauses) g ≡ in_turn (clause_lines xs) clauses g
plan_by_clauses xs [] g = refl
plan_by_clauses xs (c ∷ clauses) g =
    then_same (planned_lines (planned_over xs c) g) (λ done. plan_lines (tuples_plan xs clauses)) (λ done. in_turn (clause_lines xs) clauses) (λ x mid. plan_by_clauses xs clauses mid)
