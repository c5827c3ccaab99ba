-- What the trait of classes asks of free and monotone functions.
use Rattle.std.proofs.Common.{◌≡◌, ◌≤◌, ◌<◌, ℕ, List, [], ◌∷◌, IsTrue, length, Result, Ok, Err, Some, refl, sym, ap, subst, ◌∙◌, arith}
use Rattle.std.specs.Prelude.{slice_get}
use Rattle.std.specs.List.{All, AllZip, Contains}
use Rattle.std.specs.Result.{IsErrAnd}
use Rattle.std.proofs.lemmas.List.Elements.{All-cons, All-map, All-nil}
use Rattle.std.proofs.lemmas.Option.{slice_get_within}
use Rattle.hp_math.specs.Rational.{ℚ}
use Rattle.hp_math.specs.Steps as steps
use Rattle.hp_tree.specs.declared.problem.Sort.{Sort}
use Rattle.hp_tree.specs.declared.problem.Sort.TheVariants.{Num}
use Rattle.hp_tree.specs.Value.{Word}
use Rattle.hp_tree.specs.Sorted.{is_of_sort}
use Rattle.hp_terms.specs.Laws.{AreOfSort}
use Rattle.hp_tree.specs.declared.limit.Limit.{Limit}
use Rattle.hp_lit.specs.declared.refusal.GroundErr.{GroundErr}
use Rattle.hp_lit.specs.declared.refusal.GroundErr.TheVariants as stopped
use Rattle.hp_lit.specs.Truth.{Values}
use Rattle.hp_defs.specs.declared.names.Ground.{Ground}
use Rattle.hp_defs.specs.declared.names.Signature.{Signature}
use Rattle.hp_defs.specs.Made.{IsMade}
use Rattle.hp_defs.specs.Names.{BeginsNames, NameList}
use Rattle.hp_model.specs.declared.structure.Table.{Table}
use Rattle.hp_local.specs.Free.{free_table}
use Rattle.hp_local.specs.Law.{Completes}
use Rattle.hp_local.specs.Ordered.{fact_point, fact_points, first_argument, in_order, step_table}
use Rattle.hp_local.specs.Sorts.{IsSortedFact, IsSortedPoint, IsTableScope}
use Rattle.hp_local.proofs.Lists.{contains_first}
use Rattle.hp_local.proofs.Lower.{free_tables_apply_none, step_tables_apply_none}
use Rattle.hp_local.proofs.Ordered.{all_in_order}
use Rattle.hp_local.proofs.Sorts.{free_tables_are_sorted, step_tables_are_sorted}
use Rattle.hp_base.specs.Making.{Makes, ◌then◌, in_turn, keep}
use Rattle.hp_base.proofs.ArgsSteps.{gave}
use Rattle.hp_base.proofs.Making.{begins_same, makes_same_err, makes_stopped}
use Rattle.hp_norm.specs.declared.flat.FlatClause.{FlatClause}
use Rattle.hp_norm.specs.Sound.{Grew, IsSound}
use Rattle.hp_class.specs.Frame.{facts_of, frame_at, is_function}
use Rattle.hp_class.specs.Group.{PlanFits, Planned, PlannedFits, group_lines, plan_lines}
use Rattle.hp_class.specs.Points.{function_lines}
use Rattle.hp_class.specs.Law.{HasGrown, HasSortedPoints, IsModelled, IsTableAt, group_at}
use Rattle.hp_class.proofs.Stays.{flat_stays}
use Rattle.hp_shapes.specs.declared.shape.Form.{Form}
use Rattle.hp_tables.specs.Classes.{IsFree, IsMonotone, free_tables, step_tables}
use Rattle.hp_tables.proofs.Complete.{free_completes_at}
use Rattle.hp_tables.proofs.Kept.{group_kept}

-- ---- nothing is made first
grew_same : (g : Ground) → Grew g g
grew_same g = record { begins = begins_same g; truth = λ end v b s. (λ h. h, λ h. h) }

grown_same : (funcs : List ℕ) (g : Ground) → IsSound g → HasGrown funcs g g
grown_same funcs g sound = record {
  grew = grew_same g;
  sound = sound;
  few = λ h. h;
  only = λ k d func args h e is. absurd (let w = slice_get_within g.names.definitions k d e in omega (arith, w, h));
}

pub nothing_grows : (funcs : List ℕ) (done : Unit {0}) (before after : Ground) → IsSound before → keep tt before ≡ Ok (done, after) → HasGrown funcs before after
nothing_grows funcs done before after sound e = subst (λ (g : Ground). HasGrown funcs before g) (gave tt done before after e).ground (grown_same funcs before sound)

pub no_plan_fits : (names : NameList) → PlanFits names [] []
no_plan_fits names = All-nil (PlannedFits names [])

-- ---- the lines of a group
-- a function that is known is one of the functions
pub own_known : (names : NameList) (func : ℕ) (s : Signature) (funcs : List ℕ) → slice_get names.signatures func ≡ Some s → funcs ≡ func ∷ [] → All (λ k. k < length names.signatures) funcs
own_known names func s funcs known own =
    subst (λ (ks : List ℕ). All (λ k. k < length names.signatures) ks) (sym own)
    (All-cons (λ k. k < length names.signatures) func [] (slice_get_within names.signatures func s known) (All-nil (λ k. k < length names.signatures)))

pub group_made : (funcs : List ℕ) (plan : NameList → List Planned) (old mid new : Ground) (r : Result (Unit {0}) GroundErr) → plan_lines (plan old.names) old ≡ Ok (tt, mid)
    → Makes (in_turn function_lines funcs) mid new r → Makes (group_lines funcs plan) old new r
group_made funcs plan old mid new (Ok x) e m = ap (λ (q : Result (Unit {0} × Ground) Limit). q then λ done. in_turn function_lines funcs) e ∙ m
group_made funcs plan old mid new (Err (stopped.Limit l)) e m = ap (λ (q : Result (Unit {0} × Ground) Limit). q then λ done. in_turn function_lines funcs) e ∙ m
group_made funcs plan old mid new (Err stopped.Memory) e m = tt

pub group_stopped : (funcs : List ℕ) (plan : NameList → List Planned) (old next : Ground) (w : GroundErr) (r : Result (Unit {0}) GroundErr) → Makes (plan_lines (plan old.names)) old next (Err w)
    → IsErrAnd r (λ x. x ≡ w) → Makes (group_lines funcs plan) old next r
group_stopped funcs plan old next w r m s =
    makes_same_err (group_lines funcs plan) old next r w s
    (makes_stopped (plan_lines (plan old.names)) (group_lines funcs plan) old next old next w (λ l k. ap (λ (q : Result (Unit {0} × Ground) Limit). q then λ done. in_turn function_lines funcs) k) m)

-- ---- names that grow
pub free_stays : (old new : NameList) (func : ℕ) (word : Word) (count : ℕ) (funcs : List ℕ) → IsFree old func word count funcs → BeginsNames old new → IsFree new func word count funcs
free_stays old new func word count funcs free b = record {
  signature = free.signature;
  known = ap (λ (ss : List Signature). slice_get ss func) b.signatures ∙ free.known;
  name = free.name;
  arguments = free.arguments;
  few = free.few;
  own = free.own;
}

pub monotone_stays : (old new : NameList) (func : ℕ) (word : Word) (c : FlatClause) (form : Form) (funcs : List ℕ) → IsMonotone old func word c form funcs → BeginsNames old new → IsMade new
    → IsMonotone new func word c form funcs
monotone_stays old new func word c form funcs lent b made = record {
  signature = lent.signature;
  known = ap (λ (ss : List Signature). slice_get ss func) b.signatures ∙ lent.known;
  name = lent.name;
  arguments = lent.arguments;
  result = lent.result;
  shape = lent.shape;
  flat = flat_stays old new c b made lent.flat;
  own = lent.own;
}

-- ---- the law of free functions

pub free_law : (size : ℕ) (done : Unit {0}) (start next : Ground) (names : NameList) (v : Values) (func : ℕ) (word : Word) (count : ℕ) (funcs : List ℕ)
    → IsFree start.names func word count funcs → group_lines funcs (λ n. []) start ≡ Ok (done, next) → IsModelled funcs [] [] size start next names v
    → Completes (frame_at size names v) (is_function names []) (group_at names funcs [] (free_tables func word count names v))
free_law size done start next names v func word count funcs free e m =
    let kept : next.names ≡ start.names = group_kept funcs (λ n. []) done start next m.sound (λ d mid f. ap (λ (g : Ground). g.names) (sym (gave tt d start mid f).ground)) e in
    let known : slice_get names.signatures func ≡ Some free.signature =
    ap (λ (ss : List Signature). slice_get ss func) (m.begins.signatures ∙ ap (λ (n : NameList). n.signatures) kept) ∙ free.known in
    let now : IsFree names func word count funcs =
    record { signature = free.signature; known = known; name = free.name; arguments = free.arguments; few = free.few; own = free.own } in
    free_completes_at names func word count funcs now m.made m.fit size v m.congruent

-- ---- tables
pub free_fits : (size : ℕ) (names : NameList) (v : Values) (func : ℕ) (word : Word) (count : ℕ) (funcs : List ℕ) → IsFree names func word count funcs → 1 ≤ size
    → ((k : ℕ) → Contains funcs k → HasSortedPoints size names v k) → AllZip (IsTableAt size names []) funcs (free_tables func word count names v)
free_fits size names v func word count funcs free some sorted =
    let s = free.signature in
    let facts = facts_of func s.name names v in
    let among : Contains funcs func = subst (λ (fs : List ℕ). Contains fs func) (sym free.own) (contains_first func []) in
    let points = sorted func among s free.known in
    let table : Table = free_table s.name (length s.args) facts in
    let at : IsTableAt size names [] func table = record {
      signature = s;
      known = free.known;
      name = refl;
      arguments = refl;
      applies = free_tables_apply_none (λ word. is_function names [] word) s.name (length s.args) facts;
      sorted = λ scope h. free_tables_are_sorted size s.args s.result scope s.name (length s.args) facts some h.arguments points;
    } in
    let one : AllZip (IsTableAt size names []) (func ∷ []) (free_tables func s.name (length s.args) names v) = (at, tt) in
    subst (λ (fs : List ℕ). AllZip (IsTableAt size names []) fs (free_tables func word count names v)) (sym free.own)
    (subst (λ n. AllZip (IsTableAt size names []) (func ∷ []) (free_tables func word n names v)) free.arguments
    (subst (λ (w : Word). AllZip (IsTableAt size names []) (func ∷ []) (free_tables func w (length s.args) names v)) free.name one))

first_sorted : (size : ℕ) (xs : List ℚ) → AreOfSort size (Num ∷ []) xs → IsTrue (is_of_sort size Num (first_argument xs))
first_sorted size [] h = absurd h
first_sorted size (x ∷ xs) h = h.0

pub steps_fit : (size : ℕ) (names : NameList) (v : Values) (func : ℕ) (word : Word) (c : FlatClause) (form : Form) (funcs : List ℕ) → IsMonotone names func word c form funcs → 1 ≤ size
    → ((k : ℕ) → Contains funcs k → HasSortedPoints size names v k) → AllZip (IsTableAt size names []) funcs (step_tables func word names v)
steps_fit size names v func word c form funcs lent some sorted =
    let s = lent.signature in
    let facts = facts_of func s.name names v in
    let among : Contains funcs func = subst (λ (fs : List ℕ). Contains fs func) (sym lent.own) (contains_first func []) in
    let points : All (IsSortedFact size (Num ∷ []) s.result) facts = subst (λ (ss : List Sort). All (IsSortedFact size ss s.result) facts) lent.arguments (sorted func among s lent.known) in
    let all : All (IsSortedPoint size Num s.result) (fact_points facts) =
    All-map (IsSortedPoint size Num s.result) fact_point facts (λ k d l. (let h = points k d l in record { at = first_sorted size _ h.args; value = h.value })) in
    let ordered = all_in_order (IsSortedPoint size Num s.result) (fact_points facts) all in
    let ps : List steps.Point = in_order (fact_points facts) in
    let at : IsTableAt size names [] func (step_table s.name ps) = record {
      signature = s;
      known = lent.known;
      name = refl;
      arguments = sym (ap (λ (ss : List Sort). length ss) lent.arguments);
      applies = step_tables_apply_none (λ word. is_function names [] word) s.name ps;
      sorted = λ scope h. step_tables_are_sorted size Num s.result scope s.name ps some refl
          (subst (λ (ss : List Sort). IsTableScope size ss scope) lent.arguments h.arguments) ordered;
    } in
    let one : AllZip (IsTableAt size names []) (func ∷ []) (step_tables func s.name names v) = (at, tt) in
    subst (λ (fs : List ℕ). AllZip (IsTableAt size names []) fs (step_tables func word names v)) (sym lent.own)
    (subst (λ (w : Word). AllZip (IsTableAt size names []) (func ∷ []) (step_tables func w names v)) lent.name one)
