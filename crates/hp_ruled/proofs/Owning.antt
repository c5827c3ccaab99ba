-- The own functions of clauses that were read: what holds of the functions with clauses of monotone shape, and of those with cases.
use Rattle.std.proofs.Common.{◌≡◌, ◌<◌, ℕ, zero, suc, List, [], ◌∷◌, ◌++◌, length, Bool, true, false, Option, Some, None, Ok, refl, sym, ap, subst, ◌∙◌, arith, ◌⊎◌, inl, inr, cond}
use Rattle.std.specs.Prelude.{slice_get, nat_eq}
use Rattle.std.specs.List.{All, Contains}
use Rattle.std.specs.Str.{bytes_eq}
use Rattle.std.proofs.lemmas.Bool.{and_from, eq-eqb, eqb-true, or_left, or_right, true≢false}
use Rattle.std.proofs.lemmas.List.Elements.{All-append, All-cons, All-contains, All-filter, All-head, All-nil, All-weaker, Contains-push_cases, filter_passes}
use Rattle.std.proofs.lemmas.List.Quantifiers.{position-Some}
use Rattle.std.proofs.lemmas.List.{length-map}
use Rattle.hp_num.proofs.Given as given
use Rattle.hp_defs.specs.Names.{NameList, function_words, signature_name}
use Rattle.hp_norm.specs.declared.flat.FlatClause.{FlatClause}
use Rattle.hp_class.specs.Frame.{is_place}
use Rattle.hp_flatten.specs.Flattening.{flattened}
use Rattle.hp_pairs.specs.declared.branch.Branch.{Branch}
use Rattle.hp_pairs.specs.Branches.{branches_of}
use Rattle.hp_rules.specs.declared.ruled.Ruled.{Ruled}
use Rattle.hp_rules.specs.Rules.{array_clause, is_taken, monotone_place, monotone_places, nothing_ruled, read_clause, read_clauses, rule_words, with_array, with_branches, with_monotone, with_place}
use Rattle.hp_ruled.specs.Laws.{AreRuled, CasesAreOwn, MonotoneClausesAreOnce}
use Rattle.hp_ruled.proofs.Reading.{ArrayRead, CaseRead, Read, all_keep, clause_read}
use Rattle.hp_ruled.proofs.Placing.{Any, all_placed, any_placed, one_placed}

-- ---- places
same_place : (func : ℕ) (funcs : List ℕ) → is_place (func ∷ funcs) func ≡ true
same_place func funcs = or_left (nat_eq func func) (is_place funcs func) (eq-eqb func func refl)

more_place : (f func : ℕ) (funcs : List ℕ) → is_place funcs func ≡ true → is_place (f ∷ funcs) func ≡ true
more_place f func funcs h = or_right (nat_eq f func) (is_place funcs func) h

with_more : (o : Option ℕ) (func : ℕ) (funcs : List ℕ) → is_place funcs func ≡ true → is_place (with_place o funcs) func ≡ true
with_more None func funcs h = h
with_more (Some f) func funcs h = more_place f func funcs h

pub place_there : (names : NameList) (clauses : List FlatClause) (k : ℕ) (c : FlatClause) (func : ℕ) → slice_get clauses k ≡ Some c → monotone_place names c ≡ Some func → is_place (monotone_places names clauses) func ≡ true
place_there names [] k c func e m = absurd (cc)
place_there names (d ∷ clauses) zero c func e m =
    let is : d ≡ c = cc in
    subst (λ o. is_place (with_place o (monotone_places names clauses)) func ≡ true) (sym m ∙ ap (monotone_place names) (sym is)) (same_place func (monotone_places names clauses))
place_there names (d ∷ clauses) (suc k) c func e m =
    with_more (monotone_place names d) func (monotone_places names clauses) (place_there names clauses k c func e m)

place_among : (names : NameList) (clauses : List FlatClause) → All (λ c. (func : ℕ) → monotone_place names c ≡ Some func → is_place (monotone_places names clauses) func ≡ true) clauses
place_among names [] = All-nil (λ c. (func : ℕ) → monotone_place names c ≡ Some func → is_place [] func ≡ true)
place_among names (d ∷ clauses) =
    All-cons (λ c. (func : ℕ) → monotone_place names c ≡ Some func → is_place (monotone_places names (d ∷ clauses)) func ≡ true) d clauses
    (λ func m. place_there names (d ∷ clauses) zero d func refl m)
    (All-weaker (λ c. (func : ℕ) → monotone_place names c ≡ Some func → is_place (monotone_places names clauses) func ≡ true)
    (λ c. (func : ℕ) → monotone_place names c ≡ Some func → is_place (monotone_places names (d ∷ clauses)) func ≡ true)
    (λ c h func m. with_more (monotone_place names d) func (monotone_places names clauses) (h func m)) clauses (place_among names clauses))

not_taken : (monotone owned : List ℕ) (func : ℕ) → is_taken monotone owned (Some func) ≡ false → is_place monotone func ≡ true → is_place owned func ≡ true → ⊥
not_taken monotone owned func free m o = true≢false (sym (and_from (is_place monotone func) (is_place owned func) m o) ∙ free)

some_place : (x y : ℕ) → Some x ≡ Some y → x ≡ y
some_place x y e = cc

-- ---- what is own
module _ (names : NameList) (monotone : List ℕ) where
  pub record OwnsAll (done : List FlatClause) (r : Ruled) : Type 0 where
    pub of_monotone : (c : FlatClause) (func : ℕ) → Contains done c → monotone_place names c ≡ Some func → is_place r.owned func ≡ true
    pub of_cases : All (λ b. is_place r.owned b.func ≡ true) r.branches
    pub apart : (c : FlatClause) (func : ℕ) → is_place monotone func ≡ true → Contains done c → monotone_place names c ≡ Some func → All (λ b. b.func ≡ func → ⊥) r.branches
    pub known : All (λ b. b.func < length names.signatures) r.branches
    pub have : All (λ k. Any (λ b. b.func ≡ k.func) r.branches) r.clauses

  abbrev Own : List ℕ → Branch → Type 0
  Own owned b = is_place owned b.func ≡ true

  nothing_owned : OwnsAll [] nothing_ruled
  nothing_owned = record {
    of_monotone = λ c func h m. absurd (let l = h.1 in omega (arith, l));
    of_cases = All-nil (Own []);
    apart = λ c func p h m. All-nil (λ b. b.func ≡ func → ⊥);
    known = All-nil (λ b. b.func < length names.signatures);
    have = All-nil (λ k. Any (λ b. b.func ≡ k.func) []);
  }

  module _ (done : List FlatClause) (before : Ruled) (d : FlatClause) (after : Ruled) (owns : OwnsAll done before) where
    -- a clause of monotone shape
    more_monotone : (f : ℕ) → monotone_place names d ≡ Some f → is_taken monotone before.owned (Some f) ≡ false
        → OwnsAll (done ++ d ∷ []) (with_monotone before f)
    more_monotone f place free = record {
      of_monotone = λ c func h m. elim (Contains-push_cases done d c h) [
        | inl there ↦ more_place f func before.owned (owns.of_monotone c func there m)
        | inr is ↦ (let same : f ≡ func = some_place f func (sym place ∙ ap (monotone_place names) is ∙ m) in subst (λ z. is_place (f ∷ before.owned) z ≡ true) same (same_place f before.owned))
      ];
      of_cases = All-weaker (Own before.owned) (Own (f ∷ before.owned)) (λ b h. more_place f b.func before.owned h) before.branches owns.of_cases;
      apart = λ c func p h m. elim (Contains-push_cases done d c h) [
        | inl there ↦ owns.apart c func p there m
        | inr is ↦ (let same : f ≡ func = some_place f func (sym place ∙ ap (monotone_place names) is ∙ m) in
            All-weaker (Own before.owned) (λ b. b.func ≡ func → ⊥)
            (λ b o e. not_taken monotone before.owned func (subst (λ z. is_taken monotone before.owned (Some z) ≡ false) same free) p (subst (λ z. is_place before.owned z ≡ true) e o)) before.branches owns.of_cases)
      ];
      known = owns.known;
      have = owns.have;
    }

    -- a clause of a case
    more_cases : (r : CaseRead names monotone before d after) → OwnsAll (done ++ d ∷ []) (with_branches before r.func (flattened r.application d) r.branches)
    more_cases r =
        let f = r.func in
        let k = flattened r.application d in
        let n = length r.application.args in
        let ws = rule_words names in
        let no_place : (func : ℕ) (c : FlatClause) → d ≡ c → monotone_place names c ≡ Some func → ⊥ = λ func c is m. (let both : None ≡ Some func = sym r.none ∙ ap (monotone_place names) is ∙ m in cc) in
        let inside : f < length names.signatures =
        subst (λ z. f < z) (length-map names.signatures signature_name) (position-Some (bytes_eq r.application.func) (function_words names) f [] r.place).0 in
        record {
          of_monotone = λ c func h m. elim (Contains-push_cases done d c h) [
            | inl there ↦ more_place f func before.owned (owns.of_monotone c func there m)
            | inr is ↦ absurd (no_place func c is m)
          ];
          of_cases = all_placed ws f n k r.rows r.bound (Own (f ∷ before.owned))
              (λ now b. subst (λ z. is_place (f ∷ before.owned) z ≡ true) (sym b.func) (same_place f before.owned))
              (λ old now e s p b. subst (λ z. is_place (f ∷ before.owned) z ≡ true) (sym b.func) p) before.branches r.branches r.cased
              (All-weaker (Own before.owned) (Own (f ∷ before.owned)) (λ b h. more_place f b.func before.owned h) before.branches owns.of_cases);
          apart = λ c func p h m. elim (Contains-push_cases done d c h) [
            | inl there ↦ all_placed ws f n k r.rows r.bound (λ b. b.func ≡ func → ⊥)
                (λ now b e. (let same : f ≡ func = sym b.func ∙ e in not_taken monotone before.owned func (subst (λ z. is_taken monotone before.owned (Some z) ≡ false) same r.free) p (owns.of_monotone c func there m)))
                (λ old now e s q b g. q (sym b.func ∙ g)) before.branches r.branches r.cased (owns.apart c func p there m)
            | inr is ↦ absurd (no_place func c is m)
          ];
          known = all_placed ws f n k r.rows r.bound (λ b. b.func < length names.signatures)
              (λ now b. subst (λ z. z < length names.signatures) (sym b.func) inside)
              (λ old now e s p b. subst (λ z. z < length names.signatures) (sym b.func) p) before.branches r.branches r.cased owns.known;
          have = All-append (λ j. Any (λ b. b.func ≡ j.func) r.branches) before.clauses (record { func = f; clause = k } ∷ [])
              (All-weaker (λ j. Any (λ b. b.func ≡ j.func) before.branches) (λ j. Any (λ b. b.func ≡ j.func) r.branches)
              (λ j any. any_placed ws f n k r.rows r.bound (λ b. b.func ≡ j.func) (λ old now e b. b.func ∙ e) before.branches r.branches r.cased any) before.clauses owns.have)
              (All-cons (λ j. Any (λ b. b.func ≡ j.func) r.branches) (record { func = f; clause = k }) []
              (one_placed ws f n k r.rows r.bound (λ b. b.func ≡ f) (λ now b. b.func) (λ old now e s b. b.func ∙ e) before.branches r.branches r.cased)
              (All-nil (λ j. Any (λ b. b.func ≡ j.func) r.branches)));
        }

    -- a clause over arrays
    more_arrays : (r : ArrayRead names before d after) → OwnsAll (done ++ d ∷ []) (with_array before (array_clause names r.level d (r.first ∷ r.more)))
    more_arrays r =
        let no_place : (func : ℕ) (c : FlatClause) → d ≡ c → monotone_place names c ≡ Some func → ⊥ = λ func c is m. (let both : None ≡ Some func = sym r.none ∙ ap (monotone_place names) is ∙ m in cc) in
        record {
          of_monotone = λ c func h m. elim (Contains-push_cases done d c h) [
            | inl there ↦ owns.of_monotone c func there m
            | inr is ↦ absurd (no_place func c is m)
          ];
          of_cases = owns.of_cases;
          apart = λ c func p h m. elim (Contains-push_cases done d c h) [
            | inl there ↦ owns.apart c func p there m
            | inr is ↦ absurd (no_place func c is m)
          ];
          known = owns.known;
          have = owns.have;
        }

    owns_more : Read names monotone before d after → OwnsAll (done ++ d ∷ []) after
    owns_more (inl r) = subst (OwnsAll (done ++ d ∷ [])) r.is (more_monotone r.func r.place r.free)
    owns_more (inr (inl r)) = subst (OwnsAll (done ++ d ∷ [])) r.is (more_cases r)
    owns_more (inr (inr r)) = subst (OwnsAll (done ++ d ∷ [])) r.is (more_arrays r)

-- ---- all clauses
pub all_owned : (names : NameList) (clauses : List FlatClause) (ruled : Ruled) → AreRuled names clauses ruled → OwnsAll names (monotone_places names clauses) clauses ruled
all_owned names clauses ruled are =
    let monotone = monotone_places names clauses in
    all_keep names monotone (λ c. Unit {0}) (OwnsAll names monotone) (λ done before c after among owns read. owns_more names monotone done before c after owns read)
    [] clauses nothing_ruled ruled (λ k d h. tt) (nothing_owned names monotone) are.ruled_is

-- the cases of a function
module _ (func : ℕ) where
  pub no_cases : (bs : List Branch) → All (λ b. b.func ≡ func → ⊥) bs → branches_of func bs ≡ []
  no_cases bs h = by (branches_of func bs) refl
    where
      by : (l : List Branch) → branches_of func bs ≡ l → branches_of func bs ≡ []
      by [] e = e
      by (b ∷ l) e = absurd (
          All-head (λ x. x.func ≡ func → ⊥) b l (subst (All (λ x. x.func ≡ func → ⊥)) e (All-filter (λ x. nat_eq x.func func) (λ x. x.func ≡ func → ⊥) bs h))
          (eqb-true b.func func (All-head (λ x. nat_eq x.func func ≡ true) b l (subst (All (λ x. nat_eq x.func func ≡ true)) e (filter_passes (λ x. nat_eq x.func func) bs)))))

  pub a_case : (P : ℕ → Type 0) (bs : List Branch) → All (λ b. P b.func) bs → (branches_of func bs ≡ [] → ⊥) → P func
  a_case P bs h some = by (branches_of func bs) refl
    where
      by : (l : List Branch) → branches_of func bs ≡ l → P func
      by [] e = absurd (some e)
      by (b ∷ l) e =
          subst P (eqb-true b.func func (All-head (λ x. nat_eq x.func func ≡ true) b l (subst (All (λ x. nat_eq x.func func ≡ true)) e (filter_passes (λ x. nat_eq x.func func) bs))))
          (All-head (λ x. P x.func) b l (subst (All (λ x. P x.func)) e (All-filter (λ x. nat_eq x.func func) (λ x. P x.func) bs h)))

  pub some_cases : (bs : List Branch) → Any (λ b. b.func ≡ func) bs → branches_of func bs ≡ [] → ⊥
  some_cases [] any e = any
  some_cases (b ∷ bs) any e = by any (nat_eq b.func func) refl e (λ q f. some_cases bs q f)
    where
      by : (b.func ≡ func) ⊎ Any (λ x. x.func ≡ func) bs → (t : Bool) → nat_eq b.func func ≡ t → cond t (b ∷ branches_of func bs) (branches_of func bs) ≡ [] → (Any (λ x. x.func ≡ func) bs → branches_of func bs ≡ [] → ⊥) → ⊥
      by any true t e rest = (cc)
      by (inl is) false t e rest = true≢false (sym (eq-eqb b.func func is) ∙ t)
      by (inr q) false t e rest = rest q e

pub cases_own : CasesAreOwn
cases_own names clauses ruled are func =
    let owns = all_owned names clauses ruled are in
    record {
      clauses_have = λ k there is none.
          some_cases func ruled.branches (subst (λ z. Any (λ b. b.func ≡ z) ruled.branches) is (All-contains (λ j. Any (λ b. b.func ≡ j.func) ruled.branches) ruled.clauses k owns.have there)) none;
      no_monotone = λ c there m.
          let place = All-contains (λ d. (f : ℕ) → monotone_place names d ≡ Some f → is_place (monotone_places names clauses) f ≡ true) clauses c (place_among names clauses) there func m in
          no_cases func ruled.branches (owns.apart c func place there m);
      within = λ some. a_case func (λ z. z < length names.signatures) ruled.branches owns.known some;
    }

-- ---- once
module _ (names : NameList) (monotone : List ℕ) where
  stays : (before : Ruled) (d : FlatClause) (after : Ruled) (func : ℕ) → is_place before.owned func ≡ true → Read names monotone before d after → is_place after.owned func ≡ true
  stays before d after func own (inl r) = subst (λ (x : Ruled). is_place x.owned func ≡ true) r.is (more_place r.func func before.owned own)
  stays before d after func own (inr (inl r)) = subst (λ (x : Ruled). is_place x.owned func ≡ true) r.is (more_place r.func func before.owned own)
  stays before d after func own (inr (inr r)) = subst (λ (x : Ruled). is_place x.owned func ≡ true) r.is own

  -- the function of the clause is own
  owned_now : (before : Ruled) (d : FlatClause) (after : Ruled) (func : ℕ) → monotone_place names d ≡ Some func → Read names monotone before d after → is_place after.owned func ≡ true
  owned_now before d after func m (inl r) =
      let same : r.func ≡ func = some_place r.func func (sym r.place ∙ m) in
      subst (λ (x : Ruled). is_place x.owned func ≡ true) r.is (subst (λ z. is_place (r.func ∷ before.owned) z ≡ true) same (same_place r.func before.owned))
  owned_now before d after func m (inr (inl r)) = absurd (let both : None ≡ Some func = sym r.none ∙ m in cc)
  owned_now before d after func m (inr (inr r)) = absurd (let both : None ≡ Some func = sym r.none ∙ m in cc)

  -- a function that is own has no further clause of monotone shape
  none_left : (func : ℕ) → is_place monotone func ≡ true → (clauses : List FlatClause) (before ruled : Ruled) → read_clauses names monotone before clauses ≡ Ok ruled → is_place before.owned func ≡ true
      → (k : ℕ) (c : FlatClause) → slice_get clauses k ≡ Some c → monotone_place names c ≡ Some func → ⊥
  none_left func p [] before ruled e own k c at m = (cc)
  none_left func p (d ∷ clauses) before ruled e own zero c at m =
      let s = given.came (read_clause names monotone before d) (λ next. read_clauses names monotone next clauses) ruled e in
      let is : d ≡ c = cc in
      refuted (ap (monotone_place names) is ∙ m) (clause_read names monotone before d s.value s.first)
    where
      refuted : {mid : Ruled} → monotone_place names d ≡ Some func → Read names monotone before d mid → ⊥
      refuted f (inl r) = not_taken monotone before.owned func (subst (λ z. is_taken monotone before.owned (Some z) ≡ false) (some_place r.func func (sym r.place ∙ f)) r.free) p own
      refuted f (inr (inl r)) = (let both : None ≡ Some func = sym r.none ∙ f in cc)
      refuted f (inr (inr r)) = (let both : None ≡ Some func = sym r.none ∙ f in cc)
  none_left func p (d ∷ clauses) before ruled e own (suc k) c at m =
      let s = given.came (read_clause names monotone before d) (λ next. read_clauses names monotone next clauses) ruled e in
      none_left func p clauses s.value ruled s.rest (stays before d s.value func own (clause_read names monotone before d s.value s.first)) k c at m

  once : (func : ℕ) → is_place monotone func ≡ true → (clauses : List FlatClause) (before ruled : Ruled) → read_clauses names monotone before clauses ≡ Ok ruled
      → (i j : ℕ) (c d : FlatClause) → slice_get clauses i ≡ Some c → slice_get clauses j ≡ Some d → monotone_place names c ≡ Some func → monotone_place names d ≡ Some func → i ≡ j
  once func p [] before ruled e i j c d at there m n = absurd (cc)
  once func p (x ∷ clauses) before ruled e zero zero c d at there m n = refl
  once func p (x ∷ clauses) before ruled e zero (suc j) c d at there m n =
      let s = given.came (read_clause names monotone before x) (λ next. read_clauses names monotone next clauses) ruled e in
      let is : x ≡ c = cc in
      absurd (none_left func p clauses s.value ruled s.rest (owned_now before x s.value func (ap (monotone_place names) is ∙ m) (clause_read names monotone before x s.value s.first)) j d there n)
  once func p (x ∷ clauses) before ruled e (suc i) zero c d at there m n =
      let s = given.came (read_clause names monotone before x) (λ next. read_clauses names monotone next clauses) ruled e in
      let is : x ≡ d = cc in
      absurd (none_left func p clauses s.value ruled s.rest (owned_now before x s.value func (ap (monotone_place names) is ∙ n) (clause_read names monotone before x s.value s.first)) i c at m)
  once func p (x ∷ clauses) before ruled e (suc i) (suc j) c d at there m n =
      let s = given.came (read_clause names monotone before x) (λ next. read_clauses names monotone next clauses) ruled e in
      ap suc (once func p clauses s.value ruled s.rest i j c d at there m n)

pub monotone_once : MonotoneClausesAreOnce
monotone_once names clauses ruled are i j func c d at there m n =
    once names (monotone_places names clauses) func (place_there names clauses i c func at m) clauses nothing_ruled ruled are.ruled_is i j c d at there m n
