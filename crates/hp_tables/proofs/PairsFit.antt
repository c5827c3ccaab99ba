-- Arguments of two applications still fit while definitions are added.
use Rattle.std.proofs.Common.{◌≡◌, ℕ, ◌<◌, List, [], ◌∷◌, Bool, length, get_or, Option, Some, None, Result, Ok, Err, OnOk, refl, sym, ap, subst, ◌∙◌, inl, inr}
use Rattle.std.specs.Prelude.{slice_get}
use Rattle.std.specs.List.{All, Contains}
use Rattle.std.proofs.lemmas.List.Elements.{Contains-append_cases, Contains-append_left, Contains-append_right}
use Rattle.hp_lit.specs.declared.line.Arg.{Arg}
use Rattle.hp_lit.specs.declared.line.Arg.TheVariants.{Named}
use Rattle.hp_lit.specs.declared.line.Def.{Def}
use Rattle.hp_lit.specs.declared.refusal.GroundErr.{GroundErr}
use Rattle.hp_defs.specs.declared.names.Ground.{Ground}
use Rattle.hp_defs.specs.Made.{IsMade}
use Rattle.hp_base.specs.Congruence.{Point, body_args, point_of}
use Rattle.hp_base.specs.Making.{Begins, Maker, Makes}
use Rattle.hp_base.proofs.Making.{begins_names}
use Rattle.hp_base.proofs.Places.{got}
use Rattle.hp_local.proofs.Lists.{contains_cases, contains_first, contains_later, contains_none}
use Rattle.hp_norm.specs.declared.flat.FlatClause.{FlatClause}
use Rattle.hp_norm.specs.Sound.{IsSound}
use Rattle.hp_norm.specs.Flat.{IsFlat}
use Rattle.hp_instance.specs.Instances.{instance}
use Rattle.hp_instance.specs.Laws.{TupleFits}
use Rattle.hp_instance.proofs.InstancesSay.{instances_say}
use Rattle.hp_defs.specs.Places.{places}
use Rattle.hp_class.specs.Places.{point_at, points_at}
use Rattle.hp_class.specs.Points.{points}
use Rattle.hp_class.proofs.Places.{points_there}
use Rattle.hp_class.proofs.Stays.{tuple_stays}
use Rattle.hp_tables.specs.Pairs.{PairsFit, first_arg, pair_args, pair_at, pair_between, pair_tuple}
use Rattle.hp_tables.proofs.PairLoops.{points_still}

-- ---- applications at places
pub record IsAt (ds : List Def) (ks : List ℕ) (p : Point) : Type 0 where
  pub place : ℕ
  pub among : Contains ks place
  pub definition : Def
  pub there : slice_get ds place ≡ Some definition
  pub is : point_of definition ≡ p

one_at : (ds : List Def) (k : ℕ) (p : Point) (o : Option Def) → slice_get ds k ≡ o → Contains (point_at o) p → IsAt ds (k ∷ []) p
one_at ds k p None e m = absurd (contains_none p m)
one_at ds k p (Some d) e m = elim (contains_cases (point_of d) [] p m) [
  | inl h ↦ record { place = k; among = contains_first k []; definition = d; there = e; is = h }
  | inr n ↦ absurd (contains_none p n)
]

pub is_at : (ds : List Def) (ks : List ℕ) (p : Point) → Contains (points_at ds ks) p → IsAt ds ks p
is_at ds [] p m = absurd (contains_none p m)
is_at ds (k ∷ ks) p m = elim (Contains-append_cases (point_at (slice_get ds k)) (points_at ds ks) p m) [
  | inl h ↦ (let w = one_at ds k p (slice_get ds k) refl h in
      record {
        place = w.place;
        among = elim (contains_cases k [] w.place w.among) [ inl e ↦ subst (λ j. Contains (k ∷ ks) j) e (contains_first k ks) | inr n ↦ absurd (contains_none w.place n) ];
        definition = w.definition;
        there = w.there;
        is = w.is;
      })
  | inr n ↦ (let w = is_at ds ks p n in record { place = w.place; among = contains_later k ks w.place w.among; definition = w.definition; there = w.there; is = w.is })
]

pub at_among : (ds : List Def) (ks : List ℕ) (k : ℕ) (d : Def) → Contains ks k → slice_get ds k ≡ Some d → Contains (points_at ds ks) (point_of d)
at_among ds [] k d m e = absurd (contains_none k m)
at_among ds (j ∷ ks) k d m e = elim (contains_cases j ks k m) [
  | inl same ↦ (let here : slice_get ds j ≡ Some d = ap (λ i. slice_get ds i) same ∙ e in
      Contains-append_left (point_at (slice_get ds j)) (points_at ds ks) (point_of d) (subst (λ o. Contains (point_at o) (point_of d)) (sym here) (contains_first (point_of d) [])))
  | inr n ↦ Contains-append_right (point_at (slice_get ds j)) (points_at ds ks) (point_of d) (at_among ds ks k d n e)
]

-- ---- they still fit
pub fit_still : (old now : Ground) (c : FlatClause) (first_lower : Bool) (ks : List ℕ) → Begins old now → IsMade now.names → IsFlat old.names c → All (λ k. k < length old.names.definitions) ks
    → PairsFit old.names c first_lower (points_at old.names.definitions ks) → PairsFit now.names c first_lower (points_at now.names.definitions ks)
fit_still old now c first_lower ks b made flat inside fit p q m n =
    let same = points_still old now ks b inside in
    tuple_stays old.names now.names c (pair_tuple first_lower (p, q)).args (begins_names old now b) made flat
    (fit p q (subst (λ (ps : List Point). Contains ps p) same m) (subst (λ (ps : List Point). Contains ps q) same n))

two_among : (ks : List ℕ) (j k i : ℕ) → Contains ks j → Contains ks k → Contains (j ∷ k ∷ []) i → Contains ks i
two_among ks j k i m n h = elim (contains_cases j (k ∷ []) i h) [
  | inl e ↦ subst (λ z. Contains ks z) e m
  | inr l ↦ elim (contains_cases k [] i l) [ inl e ↦ subst (λ z. Contains ks z) e n | inr x ↦ absurd (contains_none i x) ]
]

-- two of them
pub two_fit : (g : Ground) (c : FlatClause) (first_lower : Bool) (ks : List ℕ) (j k : ℕ) → Contains ks j → Contains ks k → PairsFit g.names c first_lower (points_at g.names.definitions ks)
    → PairsFit g.names c first_lower (points_at g.names.definitions (j ∷ k ∷ []))
two_fit g c first_lower ks j k m n fit p q a b =
    let ds = g.names.definitions in
    let v = is_at ds (j ∷ k ∷ []) p a in
    let w = is_at ds (j ∷ k ∷ []) q b in
    fit p q (subst (λ (x : Point). Contains (points_at ds ks) x) v.is (at_among ds ks v.place v.definition (two_among ks j k v.place m n v.among) v.there))
    (subst (λ (x : Point). Contains (points_at ds ks) x) w.is (at_among ds ks w.place w.definition (two_among ks j k w.place m n w.among) w.there))

-- all of a function
pub function_fit : (func : ℕ) (g : Ground) (c : FlatClause) (first_lower : Bool) (ks : List ℕ) → ks ≡ places func g.names.definitions → PairsFit g.names c first_lower (points func g.names.definitions)
    → PairsFit g.names c first_lower (points_at g.names.definitions ks)
function_fit func g c first_lower ks is fit =
    subst (λ (ps : List Point). PairsFit g.names c first_lower ps) (points_there func g.names.definitions ∙ ap (λ (js : List ℕ). points_at g.names.definitions js) (sym is)) fit

-- what a step made is sound
pub sound_then : (m : Maker (Unit {0})) (old new : Ground) (r : Result (Unit {0}) GroundErr) → Makes m old new r → ((done : Unit {0}) (next : Ground) → m old ≡ Ok (done, next) → IsSound next)
    → OnOk r (IsSound new)
sound_then m old new (Ok x) e h = h x new e
sound_then m old new (Err w) e h = tt

-- ---- one pair
module _ (g : Ground) (c : FlatClause) (first_lower : Bool) (lower upper : ℕ) (es : List Def) (d e : Def) (args shown : List Arg) (same : es ≡ g.names.definitions)
    (l : lower < length g.names.definitions) (u : upper < length g.names.definitions) (below : d ≡ get_or es lower d) (above : e ≡ get_or es upper e)
    (args_are : args ≡ pair_args first_lower (first_arg (body_args d.body)) (first_arg (body_args e.body))) (shown_are : shown ≡ Named d.name ∷ Named e.name ∷ []) where
  abbrev ds : List Def
  ds = g.names.definitions

  first : slice_get ds lower ≡ Some d
  first = got ds lower d l (below ∙ ap (λ (fs : List Def). get_or fs lower d) same)

  second : slice_get ds upper ≡ Some e
  second = got ds upper e u (above ∙ ap (λ (fs : List Def). get_or fs upper e) same)

  pub pair_fits : PairsFit g.names c first_lower (points_at ds (lower ∷ upper ∷ [])) → TupleFits g.names c args
  pair_fits fit =
      let ks = lower ∷ upper ∷ [] in
      subst (λ (xs : List Arg). TupleFits g.names c xs) (sym args_are)
      (fit (point_of d) (point_of e) (at_among ds ks lower d (contains_first lower (upper ∷ [])) first) (at_among ds ks upper e (contains_later lower (upper ∷ []) upper (contains_first upper [])) second))

  pub pair_sound : IsSound g → IsFlat g.names c → PairsFit g.names c first_lower (points_at ds (lower ∷ upper ∷ [])) → (done : Unit {0}) (next : Ground)
      → instance c (record { args = args; shown = shown }) g ≡ Ok (done, next) → IsSound next
  pair_sound sound flat fit done next m = (instances_say c (record { args = args; shown = shown }) done g next sound flat (pair_fits fit) m).sound

  pub pair_is : instance c (record { args = args; shown = shown }) g ≡ pair_at c first_lower lower upper g
  pair_is =
      (λ j. instance c (record { args = args_are j; shown = shown_are j }) g)
      ∙ (λ j. pair_between c first_lower (sym first j) (sym second j) g)
