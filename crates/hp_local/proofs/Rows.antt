-- Rows of points give a function its points.
use Rattle.std.proofs.Common.{◌≡◌, ◌≤◌, ◌⊎◌, inl, inr, List, [], ◌∷◌, ◌++◌, map, length, true, false, ◌&&◌, ◌||◌, append-nil, not, IsTrue, refl, ap, ◌∙◌, sym, subst, cond, arith}
use Rattle.std.specs.Str.{bytes_eq}
use Rattle.std.specs.List.{Contains, filter}
use Rattle.std.proofs.lemmas.List.Elements.{filter-append}
use Rattle.std.proofs.lemmas.Slice.Eq.{bytes_eq-Decides}
use Rattle.hp_math.specs.Rational.{ℚ, eq_ℚ}
use Rattle.hp_tree.specs.declared.term.Term.{Term}
use Rattle.hp_tree.specs.Value.{Word, Environment, Functions, all_true}
use Rattle.hp_model.specs.declared.structure.Row.{Row}
use Rattle.hp_model.specs.Value.{rows_value, with_arguments}
use Rattle.hp_local.specs.Frame.{Fact, same_values, AreCongruent}
use Rattle.hp_local.specs.Rows.{argument_words, point_guard, point_row, point_rows, own_facts, first_facts, has_arguments, FactsAreAddedOnce, HaveArguments}
use Rattle.hp_local.proofs.Lists.{contains_first, contains_later, contains_cases, contains_none, contains_filter, filter_contains}
use Rattle.hp_local.proofs.Points.{same_values-Decides}
use Rattle.hp_local.proofs.Terms.{name_value, numbers_are_terms}

-- ---- guards
-- the words have these values
abbrev pub Reads : Environment → List Word → List ℚ → Type 0
Reads names words [] = Unit {0}
Reads names [] (a ∷ args) = ⊥
Reads names (word ∷ words) (a ∷ args) = (names word ≡ a) × Reads names words args

pub guard_truth : (names : Environment) (f : Functions) (words : List Word) (args xs : List ℚ) → Reads names words args → length args ≡ length xs
    → all_true names f (point_guard words xs) ≡ same_values args xs
guard_truth names f words [] [] r e = elim words as (λ words. all_true names f (point_guard words []) ≡ true) [ [] ↦ refl | w ∷ words ↦ refl ]
guard_truth names f words [] (x ∷ xs) r e = absurd (omega arith)
guard_truth names f [] (a ∷ args) xs r e = absurd r
guard_truth names f (w ∷ words) (a ∷ args) [] r e = absurd (omega arith)
guard_truth names f (w ∷ words) (a ∷ args) (x ∷ xs) r e =
    λ i. eq_ℚ ((name_value names f w ∙ r.0) i) (numbers_are_terms names f x i) && guard_truth names f words args xs r.1 (let k : length args ≡ length xs = omega arith in k) i

pub reads_arguments : (args : List ℚ) (consts : Environment) → length args ≤ 4 → Reads (with_arguments args consts) argument_words args
reads_arguments [] consts h = tt
reads_arguments (a ∷ []) consts h = (refl, tt)
reads_arguments (a ∷ b ∷ []) consts h = (refl, (refl, tt))
reads_arguments (a ∷ b ∷ c ∷ []) consts h = (refl, (refl, (refl, tt)))
reads_arguments (a ∷ b ∷ c ∷ d ∷ []) consts h = (refl, (refl, (refl, (refl, tt))))
reads_arguments (a ∷ b ∷ c ∷ d ∷ e ∷ xs) consts h = absurd (omega arith)

-- ---- values
-- the value at the first point with these arguments
abbrev pub at_points : List Fact → List ℚ → ℚ → ℚ
at_points [] args other = other
at_points (k ∷ facts) args other = cond (same_values args k.args) k.value (at_points facts args other)

rows_at_points : (consts : Environment) (f : Functions) (facts : List Fact) (rows : List Row) (last : Term) (args : List ℚ) → length args ≤ 4 → HaveArguments (length args) facts
    → rows_value (with_arguments args consts) f (map point_row facts ++ rows) last ≡ at_points facts args (rows_value (with_arguments args consts) f rows last)
rows_at_points consts f [] rows last args h n = refl
rows_at_points consts f (k ∷ facts) rows last args h n =
    λ i. cond (guard_truth (with_arguments args consts) f argument_words args k.args (reads_arguments args consts h) (sym (n k (contains_first k facts))) i)
    (numbers_are_terms (with_arguments args consts) f k.value i) (rows_at_points consts f facts rows last args h (λ l m. n l (contains_later k facts l m)) i)

-- ---- equal points once
abbrev unlike : List ℚ → List Fact → List Fact
unlike xs facts = filter (λ l. not (same_values l.args xs)) facts

-- points with other arguments change nothing
at_unlike : (xs : List ℚ) (facts : List Fact) (args : List ℚ) (other : ℚ) → same_values args xs ≡ false → at_points (unlike xs facts) args other ≡ at_points facts args other
at_unlike xs [] args other t = refl
at_unlike xs (k ∷ facts) args other t =
    (elim (same_values k.args xs) as (λ b. same_values k.args xs ≡ b
    → at_points (cond (not b) (k ∷ unlike xs facts) (unlike xs facts)) args other ≡ cond (same_values args k.args) k.value (at_points facts args other)) [
      | true ↦ λ e. (
          let same : k.args ≡ xs = (same_values-Decides k.args xs).0 e in
          let u : same_values args k.args ≡ false = ap (same_values args) same ∙ t in
          rw u (at_unlike xs facts args other t))
      | false ↦ λ e. ap (cond (same_values args k.args) k.value) (at_unlike xs facts args other t)
    ]) refl

at_first : (facts : List Fact) (args : List ℚ) (other : ℚ) → at_points (first_facts facts) args other ≡ at_points facts args other
at_first [] args other = refl
at_first (k ∷ facts) args other =
    (elim (same_values args k.args) as (λ b. same_values args k.args ≡ b → cond b k.value (at_points (unlike k.args (first_facts facts)) args other) ≡ cond b k.value (at_points facts args other)) [
      | true ↦ λ t. refl
      | false ↦ λ t. at_unlike k.args (first_facts facts) args other t ∙ at_first facts args other
    ]) refl

pub first_among : (facts : List Fact) (k : Fact) → Contains (first_facts facts) k → Contains facts k
first_among [] k m = absurd (contains_none k m)
first_among (l ∷ facts) k m = by (λ n. first_among facts k n) (contains_cases l (unlike l.args (first_facts facts)) k m)
  where
    by : (Contains (first_facts facts) k → Contains facts k) → (l ≡ k) ⊎ Contains (unlike l.args (first_facts facts)) k → Contains (l ∷ facts) k
    by rest (inl e) = subst (λ z. Contains (l ∷ facts) z) e (contains_first l facts)
    by rest (inr n) = contains_later l facts k (rest (filter_contains (λ j. not (same_values j.args l.args)) (first_facts facts) k n).0)

-- whether a point has other arguments than these is the same without the points at these
has_unlike : (args xs : List ℚ) (facts : List Fact) → same_values args xs ≡ false → has_arguments args (unlike xs facts) ≡ has_arguments args facts
has_unlike args xs [] t = refl
has_unlike args xs (k ∷ facts) t =
    (elim (same_values k.args xs) as (λ b. same_values k.args xs ≡ b
    → has_arguments args (cond (not b) (k ∷ unlike xs facts) (unlike xs facts)) ≡ (same_values args k.args || has_arguments args facts)) [
      | true ↦ λ e. (
          let same : k.args ≡ xs = (same_values-Decides k.args xs).0 e in
          let u : same_values args k.args ≡ false = ap (same_values args) same ∙ t in
          rw u (has_unlike args xs facts t))
      | false ↦ λ e. ap (λ b. same_values args k.args || b) (has_unlike args xs facts t)
    ]) refl

pub facts_are_added_once : FactsAreAddedOnce
facts_are_added_once [] k = refl
facts_are_added_once (l ∷ facts) k =
    let F = first_facts facts in
    let U = unlike l.args F in
    ap (λ z. l ∷ unlike l.args z) (facts_are_added_once facts k)
    ∙ (elim (has_arguments k.args F) as (λ a. has_arguments k.args F ≡ a
    → (l ∷ unlike l.args (cond a F (F ++ k ∷ []))) ≡ cond (same_values k.args l.args || has_arguments k.args U) (l ∷ U) (l ∷ U ++ k ∷ [])) [
      | true ↦ λ t. (elim (same_values k.args l.args) as (λ b. same_values k.args l.args ≡ b → (l ∷ U) ≡ cond (b || has_arguments k.args U) (l ∷ U) (l ∷ U ++ k ∷ [])) [
        | true ↦ λ s. refl
        | false ↦ λ s. (let h : has_arguments k.args U ≡ true = has_unlike k.args l.args F s ∙ t in rw h refl)
      ]) refl
      | false ↦ λ t. ap (λ z. l ∷ z) (filter-append (λ j. not (same_values j.args l.args)) F (k ∷ []))
          ∙ (elim (same_values k.args l.args) as (λ b. same_values k.args l.args ≡ b
          → (l ∷ U ++ cond (not b) (k ∷ []) []) ≡ cond (b || has_arguments k.args U) (l ∷ U) (l ∷ U ++ k ∷ [])) [
            | true ↦ λ s. ap (λ z. l ∷ z) (append-nil U)
            | false ↦ λ s. (let h : has_arguments k.args U ≡ false = has_unlike k.args l.args F s ∙ t in rw h refl)
          ]) refl
    ]) refl

-- a table that begins with the rows of points
pub point_rows_value : (consts : Environment) (f : Functions) (facts : List Fact) (rows : List Row) (last : Term) (args : List ℚ) → length args ≤ 4 → HaveArguments (length args) facts
    → rows_value (with_arguments args consts) f (point_rows facts ++ rows) last ≡ at_points facts args (rows_value (with_arguments args consts) f rows last)
point_rows_value consts f facts rows last args h n =
    rows_at_points consts f (first_facts facts) rows last args h (λ k m. n k (first_among facts k m)) ∙ at_first facts args (rows_value (with_arguments args consts) f rows last)

pub at_points_kept : (facts : List Fact) → ((k l : Fact) → Contains facts k → Contains facts l → k.args ≡ l.args → k.value ≡ l.value)
    → (k : Fact) → Contains facts k → (other : ℚ) → at_points facts k.args other ≡ k.value
at_points_kept [] c k m other = absurd (contains_none k m)
at_points_kept (l ∷ facts) c k m other =
    (elim (same_values k.args l.args) as (λ b. same_values k.args l.args ≡ b → cond b l.value (at_points facts k.args other) ≡ k.value) [
      | true ↦ λ t. c l k (contains_first l facts) m (sym ((same_values-Decides k.args l.args).0 t))
      | false ↦ λ t. rest (λ n. at_points_kept facts (λ p q a b. c p q (contains_later l facts p a) (contains_later l facts q b)) k n other) (contains_cases l facts k m) t
    ]) refl
  where
    rest : (Contains facts k → at_points facts k.args other ≡ k.value) → (l ≡ k) ⊎ Contains facts k → same_values k.args l.args ≡ false → at_points facts k.args other ≡ k.value
    rest h (inl e) t = (let y : same_values k.args l.args ≡ true = (same_values-Decides k.args l.args).1 (sym (ap (λ z. z.args) e)) in cc)
    rest h (inr n) t = h n

-- ---- the points of a function among all points
pub own_among : (func : Word) (facts : List Fact) (k : Fact) → Contains facts k → IsTrue (bytes_eq func k.func) → Contains (own_facts func facts) k
own_among func facts k m o = contains_filter (λ z. bytes_eq func z.func) facts k m o

pub among_own : (func : Word) (facts : List Fact) (k : Fact) → Contains (own_facts func facts) k → Contains facts k × (func ≡ k.func)
among_own func facts k m = let h = filter_contains (λ z. bytes_eq func z.func) facts k m in (h.0, (bytes_eq-Decides func k.func).0 h.1)

pub own_congruent : (func : Word) (facts : List Fact) → AreCongruent facts
    → (k l : Fact) → Contains (own_facts func facts) k → Contains (own_facts func facts) l → k.args ≡ l.args → k.value ≡ l.value
own_congruent func facts c k l m n e =
    let a = among_own func facts k m in
    let b = among_own func facts l n in
    c k l a.0 b.0 (sym a.1 ∙ b.1) e
