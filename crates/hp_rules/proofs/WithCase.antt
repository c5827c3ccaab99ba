-- A further bound changes the first case of its function with the same rows, or adds one behind the others.
use Rattle.std.proofs.Common.{◌≡◌, ◌∙◌, ℕ, zero, suc, ◌+◌, arith, nat_eq, nat_lt, Bool, true, false, ◌&&◌, not, cond, List, [], ◌∷◌, ◌++◌, length, Option, Some, None, refl, sym, ap}
use Rattle.std.specs.Prelude.{if◌then◌else◌, option_map, position, slice_get, slice_set}
use Rattle.std.specs.List.{position_or_len}
use Rattle.std.proofs.lemmas.Bool.{le-ltb, lt-ltb, ltb-false, ltb-true}
use Rattle.std.proofs.lemmas.Option.{none-some, same_Some}
use Rattle.hp_tree.specs.Value.{Word}
use Rattle.hp_lit.specs.declared.literal.NumLit.{NumLit}
use Rattle.hp_norm.specs.declared.flat.FlatClause.{FlatClause}
use Rattle.hp_cases.specs.declared.case.Bound.{Bound}
use Rattle.hp_pairs.specs.declared.branch.Branch.{Branch}
use Rattle.hp_rules.specs.Rules.{behind_branch, new_branch, same_rows, with_bound, with_case}

-- ---- the first place
place_behind : (t : Bool) (m : ℕ) → cond t (Some (suc m)) None ≡ option_map suc (cond t (Some m) None)
place_behind true m = refl
place_behind false m = refl

less_behind : (m n : ℕ) → nat_lt (suc m) (suc n) ≡ nat_lt m n
less_behind m n = by (nat_lt m n) refl
  where
    by : (t : Bool) → nat_lt m n ≡ t → nat_lt (suc m) (suc n) ≡ nat_lt m n
    by true is = lt-ltb (suc m) (suc n) (omega (arith, ltb-true m n is)) ∙ sym is
    by false is = le-ltb (suc m) (suc n) (omega (arith, ltb-false m n is)) ∙ sym is

place_step : {X : Type 0} (p : X → Bool) (x : X) (xs : List X) (t : Bool) → p x ≡ t → position p (x ∷ xs) ≡ cond t (Some 0) (option_map suc (position p xs))
place_step p x xs true e =
    ap (λ (b : Bool). cond (nat_lt (cond (not b) (1 + position_or_len p xs) 0) (suc (length xs))) (Some (cond (not b) (1 + position_or_len p xs) 0)) None) e
    ∙ ap (λ (t : Bool). cond t (Some 0) None) (lt-ltb 0 (suc (length xs)) (omega arith))
place_step p x xs false e =
    let next : 1 + position_or_len p xs ≡ suc (position_or_len p xs) = omega arith in
    ap (λ (b : Bool). cond (nat_lt (cond (not b) (1 + position_or_len p xs) 0) (suc (length xs))) (Some (cond (not b) (1 + position_or_len p xs) 0)) None) e
    ∙ ap (λ (m : ℕ). cond (nat_lt m (suc (length xs))) (Some m) None) next
    ∙ ap (λ (t : Bool). cond t (Some (suc (position_or_len p xs))) None) (less_behind (position_or_len p xs) (length xs))
    ∙ place_behind (nat_lt (position_or_len p xs) (length xs)) (position_or_len p xs)

none_before : (o : Option ℕ) → option_map suc o ≡ None → o ≡ None
none_before None e = refl
none_before (Some k) e = absurd (none-some (suc k) (sym e))

not_first : {A : Type 0} (o : Option ℕ) → option_map suc o ≡ Some 0 → A
not_first None e = absurd (none-some 0 e)
not_first (Some k) e = absurd (omega (arith, same_Some (suc k) 0 e))

one_before : (o : Option ℕ) (k : ℕ) → option_map suc o ≡ Some (suc k) → o ≡ Some k
one_before None k e = absurd (none-some (suc k) e)
one_before (Some j) k e = ap (λ (n : ℕ). Some n) (omega (arith, same_Some (suc j) (suc k) e))

-- ---- cases
added_behind : (b : Branch) (bs : List Branch) (o : Option Branch) → behind_branch b (option_map (λ x. bs ++ x ∷ []) o) ≡ option_map (λ x. (b ∷ bs) ++ x ∷ []) o
added_behind b bs None = refl
added_behind b bs (Some x) = refl

set_behind : (b : Branch) (bs : List Branch) (k : ℕ) (o : Option Branch) → behind_branch b (option_map (slice_set bs k) o) ≡ option_map (slice_set (b ∷ bs) (suc k)) o
set_behind b bs k None = refl
set_behind b bs k (Some x) = refl

module _ (words : List Word) (func args : ℕ) (c : FlatClause) (rows : List NumLit) (bound : Bound) where
  abbrev is_one : Branch → Bool
  is_one b = nat_eq b.func func && same_rows b.rows rows

  abbrev more : List Branch → Option (List Branch)
  more bs = with_case words func args c rows bound bs

  abbrev decided : Branch → List Branch → Bool → Option (List Branch)
  decided b bs t = if t then option_map (λ x. x ∷ bs) (with_bound words c.clause bound b) else behind_branch b (more bs)

  abbrev added : List Branch → Option (List Branch)
  added bs = option_map (λ x. bs ++ x ∷ []) (with_bound words c.clause bound (new_branch func args c rows))

  abbrev changed : List Branch → ℕ → Branch → Option (List Branch)
  changed bs k b = option_map (slice_set bs k) (with_bound words c.clause bound b)

  -- where no case is such a one
  case_none : (bs : List Branch) → position is_one bs ≡ None → more bs ≡ added bs
  case_none [] e = refl
  case_none (b ∷ bs) e = by (is_one b) refl (case_none bs)
    where
      by : (t : Bool) → is_one b ≡ t → (position is_one bs ≡ None → more bs ≡ added bs) → more (b ∷ bs) ≡ added (b ∷ bs)
      by true is later = absurd (none-some 0 (sym e ∙ place_step is_one b bs true is))
      by false is later =
          ap (decided b bs) is
          ∙ ap (behind_branch b) (later (none_before (position is_one bs) (sym (place_step is_one b bs false is) ∙ e)))
          ∙ added_behind b bs (with_bound words c.clause bound (new_branch func args c rows))

  -- where one is
  case_some : (bs : List Branch) (k : ℕ) (b : Branch) → position is_one bs ≡ Some k → slice_get bs k ≡ Some b → more bs ≡ changed bs k b
  case_some [] k b e at = absurd (none-some k e)
  case_some (d ∷ ds) k b e at = by (is_one d) refl k e at (λ j. case_some ds j b)
    where
      by : (t : Bool) → is_one d ≡ t → (k : ℕ) → position is_one (d ∷ ds) ≡ Some k → slice_get (d ∷ ds) k ≡ Some b
          → ((j : ℕ) → position is_one ds ≡ Some j → slice_get ds j ≡ Some b → more ds ≡ changed ds j b) → more (d ∷ ds) ≡ changed (d ∷ ds) k b
      by true is zero e at later = ap (decided d ds) is ∙ ap (λ (x : Branch). option_map (λ y. y ∷ ds) (with_bound words c.clause bound x)) (same_Some d b at)
      by true is (suc k) e at later = absurd (omega (arith, same_Some 0 (suc k) (sym (place_step is_one d ds true is) ∙ e)))
      by false is zero e at later = not_first (position is_one ds) (sym (place_step is_one d ds false is) ∙ e)
      by false is (suc k) e at later =
          ap (decided d ds) is
          ∙ ap (behind_branch d) (later k (one_before (position is_one ds) k (sym (place_step is_one d ds false is) ∙ e)) at)
          ∙ set_behind d ds k (with_bound words c.clause bound b)

  module _ (seen_rows : List NumLit) (seen bs : List Branch) (place : Option ℕ) (same_lits : seen_rows ≡ rows) (same : seen ≡ bs)
      (at : place ≡ position (λ (b : Branch). nat_eq b.func func && same_rows b.rows seen_rows) seen) where
    at_place : place ≡ position is_one bs
    at_place = at ∙ (λ i. position (λ (b : Branch). nat_eq b.func func && same_rows b.rows (same_lits i)) (same i))

    -- a new case with its bound, behind the others
    pub case_added : (all : List Branch) (b x : Branch) (bounded : Option Branch) → place ≡ None → b ≡ new_branch func args c rows → bounded ≡ with_bound words c.clause bound b → bounded ≡ Some x
        → all ≡ bs ++ x ∷ [] → more bs ≡ Some all
    case_added all b x bounded none new is some grown =
        case_none bs (sym at_place ∙ none)
        ∙ ap (λ (y : Branch). option_map (λ z. bs ++ z ∷ []) (with_bound words c.clause bound y)) (sym new)
        ∙ ap (option_map (λ (z : Branch). bs ++ z ∷ [])) (sym is ∙ some)
        ∙ ap (λ (l : List Branch). Some l) (sym grown)

    -- a case with its further bound, in its place
    pub case_changed : (all : List Branch) (k : ℕ) (b x : Branch) (bounded : Option Branch) → place ≡ Some k → slice_get bs k ≡ Some b → bounded ≡ with_bound words c.clause bound b → bounded ≡ Some x
        → all ≡ slice_set bs k x → more bs ≡ Some all
    case_changed all k b x bounded found there is some set = case_some bs k b (sym at_place ∙ found) there ∙ ap (option_map (slice_set bs k)) (sym is ∙ some) ∙ ap (λ (l : List Branch). Some l) (sym set)

    -- a case that can't have a further bound
    pub case_full : (k : ℕ) (b : Branch) (bounded : Option Branch) → place ≡ Some k → slice_get bs k ≡ Some b → bounded ≡ with_bound words c.clause bound b → bounded ≡ None → more bs ≡ None
    case_full k b bounded found there is none = case_some bs k b (sym at_place ∙ found) there ∙ ap (option_map (slice_set bs k)) (sym is ∙ none)
