-- Each clause is read, and each clause of a case comes from one.
use Rattle.std.proofs.Common.{◌≡◌, ℕ, List, [], ◌∷◌, ◌++◌, Some, refl, ap, subst, ◌⊎◌, inl, inr}
use Rattle.std.specs.List.{All, Contains}
use Rattle.std.proofs.lemmas.List.Elements.{All-append, All-cons, All-contains, All-contains_itself, All-nil, All-weaker, Contains-append_left, Contains-push}
use Rattle.hp_defs.specs.Names.{NameList}
use Rattle.hp_norm.specs.declared.flat.FlatClause.{FlatClause}
use Rattle.hp_norm.specs.Flat.{IsFlat}
use Rattle.hp_flatten.specs.Flattening.{flattened}
use Rattle.hp_rules.specs.declared.ruled.ArrayClause.{ArrayClause}
use Rattle.hp_rules.specs.declared.ruled.CaseClause.{CaseClause}
use Rattle.hp_rules.specs.declared.ruled.Ruled.{Ruled}
use Rattle.hp_rules.specs.Rules.{array_clause, monotone_place, monotone_places, nothing_ruled}
use Rattle.hp_ruled.specs.Laws.{AreRuled, CasesAreFromClauses, ClausesAreRead, IsFromClause, IsOfCases, IsOverArrays}
use Rattle.hp_ruled.proofs.Applications.{case_able}
use Rattle.hp_ruled.proofs.Reading.{Read, all_keep}

module _ (names : NameList) (clauses : List FlatClause) (ruled : Ruled) (are : AreRuled names clauses ruled) where
  abbrev monotone : List ℕ
  monotone = monotone_places names clauses

  -- ---- clauses of cases
  from_more : (done : List FlatClause) (before : Ruled) (c : FlatClause) (after : Ruled) → Contains clauses c → All (IsFromClause names clauses) before.clauses → Read names monotone before c after
      → All (IsFromClause names clauses) after.clauses
  from_more done before c after among all (inl r) = subst (λ (x : Ruled). All (IsFromClause names clauses) x.clauses) r.is all
  from_more done before c after among all (inr (inr r)) = subst (λ (x : Ruled). All (IsFromClause names clauses) x.clauses) r.is all
  from_more done before c after among all (inr (inl r)) =
      let able = case_able names monotone before c after r are.constants are.few (All-contains (IsFlat names) clauses c are.flat among) in
      let k : CaseClause = record { func = r.func; clause = flattened r.application c } in
      subst (λ (x : Ruled). All (IsFromClause names clauses) x.clauses) r.is
      (All-append (IsFromClause names clauses) before.clauses (k ∷ []) all
      (All-cons (IsFromClause names clauses) k [] (record { source = c; among = among; application = r.application; able = able.able; place = r.place; is = refl }) (All-nil (IsFromClause names clauses))))

  pub all_from : All (IsFromClause names clauses) ruled.clauses
  all_from =
      all_keep names monotone (Contains clauses) (λ done r. All (IsFromClause names clauses) r.clauses) from_more [] clauses nothing_ruled ruled (All-contains_itself clauses) (All-nil (IsFromClause names clauses)) are.ruled_is

  -- ---- all clauses
  abbrev IsRead : Ruled → FlatClause → Type 0
  IsRead r c = ((func : ℕ) × (monotone_place names c ≡ Some func)) ⊎ (IsOfCases names r c ⊎ IsOverArrays r c)

  later : (before after : Ruled) → ((k : CaseClause) → Contains before.clauses k → Contains after.clauses k) → ((k : ArrayClause) → Contains before.arrays k → Contains after.arrays k)
      → (c : FlatClause) → IsRead before c → IsRead after c
  later before after keep over c (inl m) = inl m
  later before after keep over c (inr (inr h)) = inr (inr (record { read = h.read; there = over h.read h.there; is = h.is }))
  later before after keep over c (inr (inl h)) = inr (inl (record { application = h.application; able = h.able; func = h.func; place = h.place; there = keep (record { func = h.func; clause = flattened h.application c }) h.there }))

  read_more : (done : List FlatClause) (before : Ruled) (c : FlatClause) (after : Ruled) → Contains clauses c → All (IsRead before) done → Read names monotone before c after → All (IsRead after) (done ++ c ∷ [])
  read_more done before c after among all (inl r) =
      let same : before.clauses ≡ after.clauses = ap (λ (x : Ruled). x.clauses) r.is in
      let over : before.arrays ≡ after.arrays = ap (λ (x : Ruled). x.arrays) r.is in
      All-append (IsRead after) done (c ∷ [])
      (All-weaker (IsRead before) (IsRead after) (later before after (λ k h. subst (λ ks. Contains ks k) same h) (λ k h. subst (λ ks. Contains ks k) over h)) done all)
      (All-cons (IsRead after) c [] (inl (r.func, r.place)) (All-nil (IsRead after)))
  read_more done before c after among all (inr (inr r)) =
      let k : ArrayClause = array_clause names r.level c (r.first ∷ r.more) in
      let same : before.clauses ≡ after.clauses = ap (λ (x : Ruled). x.clauses) r.is in
      let over : before.arrays ++ k ∷ [] ≡ after.arrays = ap (λ (x : Ruled). x.arrays) r.is in
      All-append (IsRead after) done (c ∷ [])
      (All-weaker (IsRead before) (IsRead after) (later before after (λ j h. subst (λ ks. Contains ks j) same h)
      (λ j h. subst (λ ks. Contains ks j) over (Contains-append_left before.arrays (k ∷ []) j h))) done all)
      (All-cons (IsRead after) c [] (inr (inr (record { read = k; there = subst (λ ks. Contains ks k) over (Contains-push before.arrays k); is = refl }))) (All-nil (IsRead after)))
  read_more done before c after among all (inr (inl r)) =
      let able = case_able names monotone before c after r are.constants are.few (All-contains (IsFlat names) clauses c are.flat among) in
      let k : CaseClause = record { func = r.func; clause = flattened r.application c } in
      let same : before.clauses ++ k ∷ [] ≡ after.clauses = ap (λ (x : Ruled). x.clauses) r.is in
      let over : before.arrays ≡ after.arrays = ap (λ (x : Ruled). x.arrays) r.is in
      All-append (IsRead after) done (c ∷ [])
      (All-weaker (IsRead before) (IsRead after) (later before after (λ j h. subst (λ ks. Contains ks j) same (Contains-append_left before.clauses (k ∷ []) j h)) (λ j h. subst (λ ks. Contains ks j) over h)) done all)
      (All-cons (IsRead after) c [] (inr (inl (record { application = r.application; able = able.able; func = r.func; place = r.place; there = subst (λ ks. Contains ks k) same (Contains-push before.clauses k) }))) (All-nil (IsRead after)))

  pub all_read : All (IsRead ruled) clauses
  all_read = all_keep names monotone (Contains clauses) (λ done r. All (IsRead r) done) read_more [] clauses nothing_ruled ruled (All-contains_itself clauses) (All-nil (IsRead nothing_ruled)) are.ruled_is

pub cases_from : CasesAreFromClauses
cases_from names clauses ruled are = all_from names clauses ruled are

pub clauses_read : ClausesAreRead
clauses_read names clauses ruled are = all_read names clauses ruled are
