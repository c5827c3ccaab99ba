-- The lines of a function by cases make definitions by applications of lower functions alone.
use Rattle.std.proofs.Common.{◌≡◌, ◌∙◌, ℕ, List, [], ◌∷◌, map, Ok, refl, sym, ap, subst}
use Rattle.std.specs.Prelude.{slice_get}
use Rattle.std.specs.List.{Contains}
use Rattle.std.proofs.lemmas.List.Elements.{All-contains, All-nil}
use Rattle.hp_tree.specs.Value.{Word}
use Rattle.hp_defs.specs.declared.names.Ground.{Ground}
use Rattle.hp_defs.specs.declared.names.Signature.{Signature}
use Rattle.hp_defs.specs.Fit.{ArgFits}
use Rattle.hp_defs.specs.Names.{function_words, sorts}
use Rattle.hp_local.proofs.Lists.{contains_first, contains_later, contains_map, map_contains}
use Rattle.hp_base.specs.Congruence.{Point}
use Rattle.hp_base.specs.Making.{Begins, Maker, in_turn}
use Rattle.hp_base.proofs.ArgsSteps.{gave}
use Rattle.hp_base.proofs.Growing.{came}
use Rattle.hp_base.proofs.Making.{begins_names, begins_same, begins_trans}
use Rattle.hp_norm.specs.declared.flat.FlatClause.{FlatClause}
use Rattle.hp_norm.specs.Sound.{IsSound}
use Rattle.hp_norm.proofs.MakingOnly.{GrowsOnly, only_same, only_through}
use Rattle.hp_instance.specs.declared.tuple.Tuple.{Tuple}
use Rattle.hp_instance.specs.Instances.{instance}
use Rattle.hp_instance.specs.Laws.{ArgumentsComeBack, TupleFits}
use Rattle.hp_instance.proofs.InstancesSay.{instances_say}
use Rattle.hp_class.specs.Frame.{is_place}
use Rattle.hp_class.specs.Group.{Planned, PlannedFits, group_lines, plan_lines, planned_lines}
use Rattle.hp_class.specs.Laws.{ClausePasses}
use Rattle.hp_class.specs.Points.{function_lines, points}
use Rattle.hp_class.proofs.OnlyLines.{group_made}
use Rattle.hp_class.proofs.Points.{applied as applied_there, are_points}
use Rattle.hp_class.proofs.Stays.{tuple_stays}
use Rattle.hp_cases.specs.declared.case.Case.{Case}
use Rattle.hp_cases.specs.Cases.{IsByCases, IsCaseClause, cases_plan, point_tuple}
use Rattle.hp_cases.proofs.Fitting.{num_args, zip_length}
use Rattle.hp_cases.proofs.Laws.{cases_plan_fits, clause_stays}
use Rattle.hp_cases.proofs.Making.{instance_grows}
use Rattle.hp_cases.proofs.Still.{IsThere, there_later}

-- ---- entries in turn
module _ (applied : List ℕ) where
  -- it grew by such definitions, and is sound
  pub record Adds (old new : Ground) : Type 0 where
    pub grows : GrowsOnly (is_place applied) old new
    pub sound : IsSound new

  abbrev pub Step : {X : Type 0} → (X → Maker (Unit {0})) → Ground → X → Type 0
  Step f start x = (done : Unit {0}) (old new : Ground) → Begins start old → IsSound old → f x old ≡ Ok (done, new) → Adds old new

  pub turns_add : {X : Type 0} (f : X → Maker (Unit {0})) (start : Ground) (xs : List X) → ((x : X) → Contains xs x → Step f start x)
      → (done : Unit {0}) (old new : Ground) → Begins start old → IsSound old → in_turn f xs old ≡ Ok (done, new) → Adds old new
  turns_add f start [] h done old new b sound e =
      subst (Adds old) (gave tt done old new e).ground (record { grows = only_same (is_place applied) old; sound = sound })
  turns_add f start (x ∷ xs) h done old new b sound e =
      let c = came (f x old) (λ u. in_turn f xs) done new e in
      let one = h x (contains_first x xs) c.value old c.mid b sound c.first in
      let more = turns_add f start xs (λ y m. h y (contains_later x xs y m)) done c.mid new (begins_trans start old c.mid b one.grows.begins) one.sound c.rest in
      record { grows = only_through (is_place applied) old c.mid new one.grows more.grows; sound = more.sound }

-- ---- at applications
module _ (back : ArgumentsComeBack) (start : Ground) (sound : IsSound start) (func : ℕ) (word : Word) (count : ℕ) (clauses : List FlatClause) (cases : List Case) (applied own : List ℕ)
    (lent : IsByCases start.names func word count clauses cases applied own) where
  abbrev s : Signature
  s = lent.signature

  abbrev ps : List Point
  ps = points func start.names.definitions

  is_there : (p : Point) → Contains ps p → IsThere start func s p.args
  is_there p m =
      let w = applied_there func start.names.definitions p m in
      let is = are_points start.names sound.made sound.names func s lent.known p m in
      record {
        fits = num_args (sorts start.names) s.args p.args lent.nums is.args;
        places = is.args;
        at = w.place;
        definition = w.definition;
        there = w.there;
        body = w.body;
      }

  abbrev planned : FlatClause → Planned
  planned c = record { clause = c; tuples = map point_tuple ps }

  module _ (c : FlatClause) (m : Contains clauses c) where
    point_adds : (p : Point) → Contains ps p → Step applied (instance c) start (point_tuple p)
    point_adds p n done old new b good e =
        let names = begins_names start old b in
        let first = subst (λ (w : Word). IsCaseClause start.names w count cases applied c) (sym lent.name) (All-contains (IsCaseClause start.names word count cases applied) clauses c lent.all m) in
        let of = clause_stays start.names old.names s.name count cases applied c names good.made first in
        let plan = All-contains (PlannedFits start.names clauses) (map planned clauses) (planned c)
        (cases_plan_fits start.names func word count clauses cases applied own lent sound.made sound.names) (contains_map planned clauses c m) in
        let fits = tuple_stays start.names old.names c p.args names good.made first.flat
        (All-contains (λ (t : Tuple). TupleFits start.names c t.args) (map point_tuple ps) (point_tuple p) plan.tuples (contains_map point_tuple ps p n)) in
        let known = ap (λ (ss : List Signature). slice_get ss func) b.signatures ∙ lent.known in
        let counted = zip_length (ArgFits (sorts start.names)) s.args p.args (are_points start.names sound.made sound.names func s lent.known p n).args ∙ lent.arguments in
        record {
          grows = instance_grows back applied func s lent.nums count lent.few cases c p.args counted old good known of fits (there_later start old func s p.args b lent.nums (is_there p n)) (point_tuple p).shown done new e;
          sound = (instances_say c (point_tuple p) done old new good of.flat fits e).sound;
        }

    clause_adds : Step applied planned_lines start (planned c)
    clause_adds done old new b good e =
        turns_add applied (instance c) start (map point_tuple ps)
        (λ t k. (let w = map_contains point_tuple ps t k in subst (Step applied (instance c) start) w.2 (point_adds w.0 w.1))) done old new b good e

  plan_adds : (done : Unit {0}) (new : Ground) → plan_lines (cases_plan func clauses start.names) start ≡ Ok (done, new) → Adds applied start new
  plan_adds done new e =
      turns_add applied planned_lines start (map planned clauses)
      (λ p k. (let w = map_contains planned clauses p k in subst (Step applied planned_lines start) w.2 (clause_adds w.0 w.1))) done start new (begins_same start) sound e

  -- ---- the group
  pub cases_grow : (done : Unit {0}) (next : Ground) → group_lines own (cases_plan func clauses) start ≡ Ok (done, next) → GrowsOnly (is_place applied) start next
  cases_grow done next e =
      let c = came (plan_lines (cases_plan func clauses start.names) start) (λ d. in_turn function_lines own) done next e in
      let words = function_words c.mid.names in
      only_through (is_place applied) start c.mid next (plan_adds c.value c.mid c.first).grows
      (group_made (is_place applied) words own [] (All-nil (λ (p : Planned). ClausePasses (is_place applied) words p.clause)) c.mid next done refl c.rest)
