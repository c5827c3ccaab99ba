-- Lines of clauses at tuples, one after the other, while definitions are only added.
use Rattle.std.proofs.Common.{◌≡◌, ◌∙◌, ℕ, zero, suc, ◌+◌, ◌<◌, List, [], ◌∷◌, ◌++◌, map, length, take, get_or, Result, Ok, Err, refl, sym, ap, subst, add-one, append_assoc, arith}
use Rattle.std.specs.Prelude.{slice_get}
use Rattle.std.specs.List.{All, Contains}
use Rattle.std.proofs.lemmas.List.{map-append}
use Rattle.std.proofs.lemmas.List.Elements.{All-contains, All-weaker, Contains-get_or}
use Rattle.hp_tree.specs.declared.limit.Limit.{Limit}
use Rattle.hp_lit.specs.declared.line.Arg.{Arg}
use Rattle.hp_lit.specs.declared.line.Def.{Def}
use Rattle.hp_local.proofs.Lists.{All-by, contains_map}
use Rattle.hp_defs.specs.declared.names.Ground.{Ground}
use Rattle.hp_defs.specs.Made.{IsMade}
use Rattle.hp_defs.specs.Names.{NameList}
use Rattle.hp_base.specs.Congruence.{point_of}
use Rattle.hp_base.specs.Making.{Begins, Maker, ◌then◌, in_turn}
use Rattle.hp_base.proofs.Making.{begins_names}
use Rattle.hp_base.proofs.Places.{got}
use Rattle.hp_norm.specs.declared.flat.FlatClause.{FlatClause}
use Rattle.hp_instance.specs.declared.tuple.Tuple.{Tuple}
use Rattle.hp_instance.specs.Instances.{instance}
use Rattle.hp_instance.specs.Laws.{TupleFits}
use Rattle.hp_class.specs.Group.{PlanFits, Planned, PlannedFits, plan_lines, planned_lines}
use Rattle.hp_class.specs.Places.{point_at, points_at}
use Rattle.hp_class.specs.Points.{points}
use Rattle.hp_class.proofs.Stays.{flat_stays, tuple_stays}
use Rattle.hp_cases.specs.Cases.{FitsTuples, cases_plan, clause_lines, point_tuple}

-- ---- tuples still fit
pub fits_still : (old new : Ground) (tuples : List Tuple) (c : FlatClause) → Begins old new → IsMade new.names → FitsTuples old.names tuples c → FitsTuples new.names tuples c
fits_still old new tuples c b made h = record {
  flat = flat_stays old.names new.names c (begins_names old new b) made h.flat;
  tuples_fit = All-weaker (λ (t : Tuple). TupleFits old.names c t.args) (λ (t : Tuple). TupleFits new.names c t.args)
      (λ t k. tuple_stays old.names new.names c t.args (begins_names old new b) made h.flat k) tuples h.tuples_fit;
}

pub all_fit_still : (old new : Ground) (tuples : List Tuple) (clauses : List FlatClause) → Begins old new → IsMade new.names → All (FitsTuples old.names tuples) clauses
    → All (FitsTuples new.names tuples) clauses
all_fit_still old new tuples clauses b made h = All-weaker (FitsTuples old.names tuples) (FitsTuples new.names tuples) (λ c k. fits_still old new tuples c b made k) clauses h

-- the tuple of an item, with its arguments and what it shows
pub tuple_fits : (names : NameList) (tuples : List Tuple) (c : FlatClause) (i : ℕ) (t : Tuple) (args : List Arg) → i < length tuples → t ≡ get_or tuples i t → args ≡ t.args → FitsTuples names tuples c → TupleFits names c args
tuple_fits names tuples c i t args l e is h =
    subst (λ (xs : List Arg). TupleFits names c xs) (sym is)
    (All-contains (λ (z : Tuple). TupleFits names c z.args) tuples t h.tuples_fit (subst (λ (z : Tuple). Contains tuples z) (sym e) (Contains-get_or tuples i t l)))

pub same_instance : (c : FlatClause) (t : Tuple) (args shown : List Arg) (g : Ground) → args ≡ t.args → shown ≡ t.shown → instance c t g ≡ instance c (record { args = args; shown = shown }) g
same_instance c t args shown g a s = λ j. instance c (record { args = sym a j; shown = sym s j }) g

-- ---- the plan
pub plan_all_fit : (names : NameList) (func : ℕ) (clauses : List FlatClause) (tuples : List Tuple) → tuples ≡ map point_tuple (points func names.definitions)
    → PlanFits names clauses (cases_plan func clauses names) → All (FitsTuples names tuples) clauses
plan_all_fit names func clauses tuples is h =
    let all = map point_tuple (points func names.definitions) in
    let planned : FlatClause → Planned = λ c. record { clause = c; tuples = all } in
    subst (λ (ts : List Tuple). All (FitsTuples names ts) clauses) (sym is)
    (All-by (FitsTuples names all) clauses
    (λ c m. (let p = All-contains (PlannedFits names clauses) (map planned clauses) (planned c) h (contains_map planned clauses c m) in record { flat = p.flat; tuples_fit = p.tuples })))

then_same : {A B : Type 0} (r : Result (A × Ground) Limit) (f h : A → Maker B) → ((x : A) (mid : Ground) → f x mid ≡ h x mid) → (r then f) ≡ (r then h)
then_same (Ok x) f h same = same x.0 x.1
then_same (Err l) f h same = refl

turns_map : {M N : Type 0} (f : N → Maker (Unit {0})) (h : M → N) (ms : List M) (g : Ground) → in_turn f (map h ms) g ≡ in_turn (λ m. f (h m)) ms g
turns_map f h [] g = refl
turns_map f h (m ∷ ms) g = then_same (f (h m) g) (λ done. in_turn f (map h ms)) (λ done. in_turn (λ n. f (h n)) ms) (λ x mid. turns_map f h ms mid)

pub plan_is : (func : ℕ) (clauses : List FlatClause) (tuples : List Tuple) (g : Ground) → tuples ≡ map point_tuple (points func g.names.definitions)
    → plan_lines (cases_plan func clauses g.names) g ≡ in_turn (clause_lines tuples) clauses g
plan_is func clauses tuples g is =
    let all = map point_tuple (points func g.names.definitions) in
    let planned : FlatClause → Planned = λ c. record { clause = c; tuples = all } in
    turns_map planned_lines planned clauses g ∙ ap (λ (ts : List Tuple). in_turn (clause_lines ts) clauses g) (sym is)

-- ---- the applications at places
take_next : {A : Type 0} (xs : List A) (i : ℕ) (x d : A) → i < length xs → x ≡ get_or xs i d → take (suc i) xs ≡ take i xs ++ x ∷ []
take_next [] i x d h e = absurd (omega arith)
take_next (y ∷ xs) zero x d h e = ap (λ z. z ∷ []) (sym e)
take_next (y ∷ xs) (suc i) x d h e = ap (λ zs. y ∷ zs) (take_next xs i x d (omega arith) e)

points_both : (ds : List Def) (ks ls : List ℕ) → points_at ds (ks ++ ls) ≡ points_at ds ks ++ points_at ds ls
points_both ds [] ls = refl
points_both ds (k ∷ ks) ls = ap (λ ps. point_at (slice_get ds k) ++ ps) (points_both ds ks ls) ∙ sym (append_assoc (point_at (slice_get ds k)) (points_at ds ks) (points_at ds ls))

pub tuples_next : (ds : List Def) (ks : List ℕ) (i k : ℕ) (d : Def) → i < length ks → k ≡ get_or ks i 0 → k < length ds → d ≡ get_or ds k d
    → map point_tuple (points_at ds (take (i + 1) ks)) ≡ map point_tuple (points_at ds (take i ks)) ++ point_tuple (point_of d) ∷ []
tuples_next ds ks i k d h e l g =
    let one : points_at ds (k ∷ []) ≡ point_of d ∷ [] = ap (λ o. point_at o ++ []) (got ds k d l g) in
    ap (λ n. map point_tuple (points_at ds (take n ks))) (add-one i)
    ∙ ap (λ ls. map point_tuple (points_at ds ls)) (take_next ks i k 0 h e)
    ∙ ap (λ ps. map point_tuple ps) (points_both ds (take i ks) (k ∷ []) ∙ ap (λ ps. points_at ds (take i ks) ++ ps) one)
    ∙ map-append point_tuple (points_at ds (take i ks)) (point_of d ∷ [])
