-- The first pair that some values meet, or over which a number passes, among pairs in their order.
use Rattle.std.proofs.Common.{◌≡◌, ◌∙◌, ℕ, zero, suc, ◌+◌, ◌-◌, ◌<◌, List, [], ◌∷◌, ◌++◌, length, map, get_or, take, drop, refl, sym, ap, subst, arith, nat_eq, cond, Result, Ok, Err}
use Rattle.std.specs.List.{All, filter}
use Rattle.std.proofs.lemmas.Bool.{eq-eqb, ne_eqb}
use Rattle.std.proofs.lemmas.List.{append_assoc, append-nil, drop_more, map-append, take-append-drop}
use Rattle.std.proofs.lemmas.List.Elements.{All-append, All-cons, All-nil, filter-append, filter_more}
use Rattle.hp_tree.specs.Value.{Word}
use Rattle.hp_pairs.specs.declared.branch.Branch.{Branch}
use Rattle.hp_pairs.specs.declared.answer.PairErr.{PairErr}
use Rattle.hp_pairs.specs.declared.answer.PairErr.TheVariants as refusal
use Rattle.hp_pairs.specs.Branches.{Pair, branch_pairs, branches_of, overlap, pairs_behind, pairs_from}
use Rattle.hp_pairs.specs.Answers.{IsFirst, IsMet, IsStrainedPair, IsUnmet, Separates}
use Rattle.hp_pairs.specs.Shown.{Tells}

-- ---- one among many
first_in : (P : Pair → Type 0) (done xs rest : List Pair) → All IsUnmet done → IsFirst xs P → IsFirst (done ++ (xs ++ rest)) P
first_in P done xs rest d f = record {
  before = done ++ f.before;
  pair = f.pair;
  after = f.after ++ rest;
  split = ap (λ zs. done ++ (zs ++ rest)) f.split ∙ ap (λ zs. done ++ zs) (append_assoc f.before (f.pair ∷ f.after) rest)
      ∙ sym (append_assoc done f.before (f.pair ∷ (f.after ++ rest)));
  unmet = All-append IsUnmet done f.before d f.unmet;
  holds = f.holds;
}

alone : (P : Pair → Type 0) (p : Pair) → P p → IsFirst (p ∷ []) P
alone P p h = record { before = []; pair = p; after = []; split = refl; unmet = All-nil IsUnmet; holds = h }

module _ (words : List Word) (others : ℕ) where
  -- what is said of one pair is said of a list of it
  pub single : (p : Pair) (r : Result (Unit {0}) PairErr) → Tells words others p r → Separates words others (p ∷ []) r
  single p (Ok done) h = All-cons IsUnmet p [] h (All-nil IsUnmet)
  single p (Err (refusal.Outside o)) h = alone (λ q. IsMet words others q o) p h
  single p (Err (refusal.Strain s)) h = alone (λ q. IsStrainedPair q s) p h
  single p (Err refusal.Memory) h = tt

  -- what ends the test of some pairs ends that of all, where those before them are not met
  pub ends : (done xs rest whole : List Pair) (e : PairErr) → whole ≡ done ++ (xs ++ rest) → All IsUnmet done → Separates words others xs (Err e) → Separates words others whole (Err e)
  ends done xs rest whole (refusal.Outside o) is d h = subst (λ ps. IsFirst ps (λ p. IsMet words others p o)) (sym is) (first_in (λ p. IsMet words others p o) done xs rest d h)
  ends done xs rest whole (refusal.Strain s) is d h = subst (λ ps. IsFirst ps (λ p. IsStrainedPair p s)) (sym is) (first_in (λ p. IsStrainedPair p s) done xs rest d h)
  ends done xs rest whole refusal.Memory is d h = tt

  -- pairs behind others that are not met
  pub follows : (done xs : List Pair) (r : Result (Unit {0}) PairErr) → All IsUnmet done → Separates words others xs r → Separates words others (done ++ xs) r
  follows done xs (Ok u) d h = All-append IsUnmet done xs d h
  follows done xs (Err e) d h = ends done xs [] (done ++ xs) e (ap (λ ps. done ++ ps) (sym (append-nil xs))) d h

-- ---- the cases of a function among others
own_case : (func : ℕ) (bs : List Branch) (k : ℕ) (d : Branch) → k < length bs → (get_or bs k d).func ≡ func
    → branches_of func bs ≡ branches_of func (take k bs) ++ get_or bs k d ∷ branches_of func (drop (k + 1) bs)
own_case func bs k d l e =
    let p = λ (b : Branch). nat_eq b.func func in
    ap (filter p) (sym (take-append-drop k bs)) ∙ filter-append p (take k bs) (drop k bs)
    ∙ ap (λ cs. filter p (take k bs) ++ filter p cs) (drop_more bs k d l)
    ∙ ap (λ b. filter p (take k bs) ++ cond b (get_or bs k d ∷ filter p (drop (k + 1) bs)) (filter p (drop (k + 1) bs))) (eq-eqb (get_or bs k d).func func e)

own_more : (func : ℕ) (bs : List Branch) (k : ℕ) (d : Branch) → k < length bs → (get_or bs k d).func ≡ func
    → branches_of func (take (k + 1) bs) ≡ branches_of func (take k bs) ++ get_or bs k d ∷ []
own_more func bs k d l e =
    let p = λ (b : Branch). nat_eq b.func func in
    filter_more p bs k d l ∙ ap (λ b. filter p (take k bs) ++ cond b (get_or bs k d ∷ []) []) (eq-eqb (get_or bs k d).func func e)

pub other_more : (func : ℕ) (bs : List Branch) (k : ℕ) (d : Branch) → k < length bs → ((get_or bs k d).func ≡ func → ⊥) → branches_of func (take (k + 1) bs) ≡ branches_of func (take k bs)
other_more func bs k d l ne =
    let p = λ (b : Branch). nat_eq b.func func in
    filter_more p bs k d l ∙ ap (λ b. filter p (take k bs) ++ cond b (get_or bs k d ∷ []) []) (ne_eqb (get_or bs k d).func func ne) ∙ append-nil (filter p (take k bs))

-- ---- the pairs of a case with the earlier ones
pub overlap_more : (b : Branch) (func : ℕ) (bs : List Branch) (k : ℕ) (d : Branch) → k < length bs → (get_or bs k d).func ≡ func
    → map (overlap b) (branches_of func (take (k + 1) bs)) ≡ map (overlap b) (branches_of func (take k bs)) ++ overlap b (get_or bs k d) ∷ []
overlap_more b func bs k d l e = ap (map (overlap b)) (own_more func bs k d l e) ∙ map-append (overlap b) (branches_of func (take k bs)) (get_or bs k d ∷ [])

pub overlap_split : (b : Branch) (func : ℕ) (bs : List Branch) (k : ℕ) (d : Branch) → k < length bs → (get_or bs k d).func ≡ func
    → map (overlap b) (branches_of func bs) ≡ map (overlap b) (branches_of func (take k bs)) ++ ((overlap b (get_or bs k d) ∷ []) ++ map (overlap b) (branches_of func (drop (k + 1) bs)))
overlap_split b func bs k d l e =
    ap (map (overlap b)) (own_case func bs k d l e) ∙ map-append (overlap b) (branches_of func (take k bs)) (get_or bs k d ∷ branches_of func (drop (k + 1) bs))

-- ---- the pairs of a function
pairs_append : (earlier xs ys : List Branch) → pairs_behind earlier (xs ++ ys) ≡ pairs_behind earlier xs ++ pairs_behind (earlier ++ xs) ys
pairs_append earlier [] ys = ap (λ bs. pairs_behind bs ys) (sym (append-nil earlier))
pairs_append earlier (x ∷ xs) ys =
    ap (λ ps. branch_pairs earlier x ++ ps) (pairs_append (earlier ++ x ∷ []) xs ys)
    ∙ ap (λ bs. branch_pairs earlier x ++ (pairs_behind (earlier ++ x ∷ []) xs ++ pairs_behind bs ys)) (append_assoc earlier (x ∷ []) xs)
    ∙ sym (append_assoc (branch_pairs earlier x) (pairs_behind (earlier ++ x ∷ []) xs) (pairs_behind (earlier ++ x ∷ xs) ys))

module _ (func : ℕ) (bs : List Branch) (k : ℕ) (d : Branch) (l : k < length bs) (e : (get_or bs k d).func ≡ func) where
  pub function_more : pairs_behind [] (branches_of func (take (k + 1) bs)) ≡ pairs_behind [] (branches_of func (take k bs)) ++ branch_pairs (branches_of func (take k bs)) (get_or bs k d)
  function_more =
      ap (pairs_behind []) (own_more func bs k d l e) ∙ pairs_append [] (branches_of func (take k bs)) (get_or bs k d ∷ [])
      ∙ ap (λ ps. pairs_behind [] (branches_of func (take k bs)) ++ ps) (append-nil (branch_pairs (branches_of func (take k bs)) (get_or bs k d)))

  pub function_split : pairs_behind [] (branches_of func bs) ≡ pairs_behind [] (branches_of func (take k bs))
      ++ (branch_pairs (branches_of func (take k bs)) (get_or bs k d) ++ pairs_behind (branches_of func (take k bs) ++ get_or bs k d ∷ []) (branches_of func (drop (k + 1) bs)))
  function_split = ap (pairs_behind []) (own_case func bs k d l e) ∙ pairs_append [] (branches_of func (take k bs)) (get_or bs k d ∷ branches_of func (drop (k + 1) bs))

-- ---- the pairs of all functions
from_append : (bs : List Branch) (func m n : ℕ) → pairs_from bs func (m + n) ≡ pairs_from bs func m ++ pairs_from bs (func + m) n
from_append bs func zero n =
    ap (pairs_from bs func) (let e : zero + n ≡ n = omega arith in e) ∙ ap (λ f. pairs_from bs f n) (let e : func ≡ func + 0 = omega arith in e)
from_append bs func (suc m) n =
    let own = pairs_behind [] (branches_of func bs) in
    ap (pairs_from bs func) (let e : suc m + n ≡ suc (m + n) = omega arith in e)
    ∙ ap (λ ps. own ++ ps) (from_append bs (suc func) m n ∙ ap (λ f. pairs_from bs (suc func) m ++ pairs_from bs f n) (let e : suc func + m ≡ func + suc m = omega arith in e))
    ∙ sym (append_assoc own (pairs_from bs (suc func) m) (pairs_from bs (func + suc m) n))

pub from_more : (bs : List Branch) (k : ℕ) → pairs_from bs 0 (k + 1) ≡ pairs_from bs 0 k ++ pairs_behind [] (branches_of k bs)
from_more bs k =
    from_append bs 0 k 1 ∙ ap (λ ps. pairs_from bs 0 k ++ ps) (append-nil (pairs_behind [] (branches_of (0 + k) bs)))
    ∙ ap (λ f. pairs_from bs 0 k ++ pairs_behind [] (branches_of f bs)) (let e : 0 + k ≡ k = omega arith in e)

pub from_split : (bs : List Branch) (k n : ℕ) → k < n
    → pairs_from bs 0 n ≡ pairs_from bs 0 k ++ (pairs_behind [] (branches_of k bs) ++ pairs_from bs (suc k) (n - (k + 1)))
from_split bs k n l =
    ap (pairs_from bs 0) (let e : n ≡ k + suc (n - (k + 1)) = omega arith in e) ∙ from_append bs 0 k (suc (n - (k + 1)))
    ∙ ap (λ f. pairs_from bs 0 k ++ (pairs_behind [] (branches_of f bs) ++ pairs_from bs (suc f) (n - (k + 1)))) (let e : 0 + k ≡ k = omega arith in e)

-- ---- one step on, from what is said of an item
module _ (words : List Word) (others : ℕ) (func : ℕ) (bs : List Branch) (k : ℕ) (d : Branch) (l : k < length bs) (is : d ≡ get_or bs k d) where
  pub guard_ends : (b : Branch) (e : PairErr) (r : Result (Unit {0}) PairErr) → d.func ≡ func → r ≡ Err e → All IsUnmet (map (overlap b) (branches_of func (take k bs)))
      → Tells words others (overlap b d) (Err e) → Separates words others (map (overlap b) (branches_of func bs)) r
  guard_ends b e r own same before h =
      subst (Separates words others (map (overlap b) (branches_of func bs))) (sym same)
      (ends words others (map (overlap b) (branches_of func (take k bs))) (overlap b (get_or bs k d) ∷ []) (map (overlap b) (branches_of func (drop (k + 1) bs))) (map (overlap b) (branches_of func bs)) e
      (overlap_split b func bs k d l (ap (λ (c : Branch). c.func) (sym is) ∙ own)) before
      (subst (λ c. Separates words others (overlap b c ∷ []) (Err e)) is (single words others (overlap b d) (Err e) h)))

  pub guard_passes : (b : Branch) → d.func ≡ func → All IsUnmet (map (overlap b) (branches_of func (take k bs))) → IsUnmet (overlap b d)
      → All IsUnmet (map (overlap b) (branches_of func (take (k + 1) bs)))
  guard_passes b own before h =
      subst (All IsUnmet) (sym (overlap_more b func bs k d l (ap (λ (c : Branch). c.func) (sym is) ∙ own)))
      (All-append IsUnmet (map (overlap b) (branches_of func (take k bs))) (overlap b (get_or bs k d) ∷ []) before
      (All-cons IsUnmet (overlap b (get_or bs k d)) [] (subst (λ c. IsUnmet (overlap b c)) is h) (All-nil IsUnmet)))

  pub others_stay : (d.func ≡ func → ⊥) → branches_of func (take (k + 1) bs) ≡ branches_of func (take k bs)
  others_stay ne = other_more func bs k d l (λ own. ne (ap (λ (c : Branch). c.func) is ∙ own))

  pub case_ends : (e : PairErr) (r : Result (Unit {0}) PairErr) → d.func ≡ func → r ≡ Err e → All IsUnmet (pairs_behind [] (branches_of func (take k bs)))
      → Separates words others (branch_pairs (branches_of func (take k bs)) d) (Err e) → Separates words others (pairs_behind [] (branches_of func bs)) r
  case_ends e r own same before h =
      let mine = ap (λ (c : Branch). c.func) (sym is) ∙ own in
      let earlier = branches_of func (take k bs) in
      subst (Separates words others (pairs_behind [] (branches_of func bs))) (sym same)
      (ends words others (pairs_behind [] earlier) (branch_pairs earlier (get_or bs k d)) (pairs_behind (earlier ++ get_or bs k d ∷ []) (branches_of func (drop (k + 1) bs))) (pairs_behind [] (branches_of func bs)) e
      (function_split func bs k d l mine) before (subst (λ c. Separates words others (branch_pairs earlier c) (Err e)) is h))

  pub case_passes : d.func ≡ func → All IsUnmet (pairs_behind [] (branches_of func (take k bs))) → All IsUnmet (branch_pairs (branches_of func (take k bs)) d)
      → All IsUnmet (pairs_behind [] (branches_of func (take (k + 1) bs)))
  case_passes own before h =
      let mine = ap (λ (c : Branch). c.func) (sym is) ∙ own in
      let earlier = branches_of func (take k bs) in
      subst (All IsUnmet) (sym (function_more func bs k d l mine))
      (All-append IsUnmet (pairs_behind [] earlier) (branch_pairs earlier (get_or bs k d)) before (subst (λ c. All IsUnmet (branch_pairs earlier c)) is h))

module _ (words : List Word) (others : ℕ) (bs : List Branch) (k : ℕ) where
  pub function_ends : (n : ℕ) (e : PairErr) (r : Result (Unit {0}) PairErr) → k < n → r ≡ Err e → All IsUnmet (pairs_from bs 0 k)
      → Separates words others (pairs_behind [] (branches_of k bs)) (Err e) → Separates words others (pairs_from bs 0 n) r
  function_ends n e r l same before h =
      subst (Separates words others (pairs_from bs 0 n)) (sym same)
      (ends words others (pairs_from bs 0 k) (pairs_behind [] (branches_of k bs)) (pairs_from bs (suc k) (n - (k + 1))) (pairs_from bs 0 n) e (from_split bs k n l) before h)

pub function_passes : (bs : List Branch) (k : ℕ) → All IsUnmet (pairs_from bs 0 k) → All IsUnmet (pairs_behind [] (branches_of k bs)) → All IsUnmet (pairs_from bs 0 (k + 1))
function_passes bs k before h = subst (All IsUnmet) (sym (from_more bs k)) (All-append IsUnmet (pairs_from bs 0 k) (pairs_behind [] (branches_of k bs)) before h)
