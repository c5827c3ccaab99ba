-- What the literals of a line and the lines make of the verdict, one after another.
use Rattle.std.proofs.Common.{◌≡◌, ℕ, ◌+◌, ◌-◌, ◌<◌, ◌≤◌, inl, inr, refl, sym, ◌∙◌, ap, subst, arith, List, ◌∷◌, length, take, drop, get_or, Option, Some, None, IfSome, IsSome}
use Rattle.std.specs.Prelude.{slice_get}
use Rattle.std.specs.List.{All}
use Rattle.std.proofs.lemmas.Option.{get_or_from_slice_get, slice_get-get_or}
use Rattle.std.proofs.lemmas.List.{drop_all, drop_more, take_all}
use Rattle.std.proofs.lemmas.List.Elements.{All-more, All-nil}
use Rattle.hp_num.specs.declared.wide.Wide.{Wide}
use Rattle.hp_lit.specs.declared.literal.Lit.{Lit}
use Rattle.hp_lit.specs.declared.line.Line.{Line}
use Rattle.hp_lit.specs.declared.proof.Choice.{Choice}
use Rattle.hp_lit.specs.Truth.{Values, IsTrueAt, LineIsTrue}
use Rattle.hp_leaf.specs.Tree.{lits_of, lits_at, nothing, IsLine}
use Rattle.hp_leaf.proofs.Counting.{some_true}
use Rattle.hp_search.specs.declared.truth.Candidate.{Candidate}
use Rattle.hp_search.specs.declared.truth.WideSum.{WideSum}
use Rattle.hp_search.specs.declared.truth.LineTruth.{LineTruth}
use Rattle.hp_search.specs.declared.truth.LineTruth.TheVariants as line_truth
use Rattle.hp_search.specs.Lines.{HasWideLit, IsFalseLine, IsWideChoice, IsWideLit, Judges, JudgesLine, verdict_of}

-- ---- the literals of a line
-- what the first i literals make of the line, none of which is true
abbrev pub JudgesSoFar : Values → List Lit → ℕ → LineTruth → Type 0
JudgesSoFar v lits i line_truth.True = ⊥
JudgesSoFar v lits i line_truth.False = LineIsTrue v lits → LineIsTrue v (drop i lits)
JudgesSoFar v lits i (line_truth.Wide lit wide) = HasWideLit v lits lit wide

-- one true literal makes its line true
pub line_some : (v : Values) (lits items : List Lit) (i : ℕ) (x : Lit) → items ≡ lits → i < length items → x ≡ get_or items i x → IsTrueAt v x → LineIsTrue v lits
line_some v lits items i x s b e h =
    let same : get_or items i nothing ≡ x = get_or_from_slice_get items i (get_or items i x) nothing (slice_get-get_or items i x b) ∙ sym e in
    subst (LineIsTrue v) s (some_true v items i b (subst (IsTrueAt v) (sym same) h))

other_true : (v : Values) (l : Lit) (ls : List Lit) → ¬ (IsTrueAt v l) → LineIsTrue v (l ∷ ls) → LineIsTrue v ls
other_true v l ls fails (inl h) = absurd (fails h)
other_true v l ls fails (inr h) = h

rest_true : (v : Values) (lits items : List Lit) (i : ℕ) (x : Lit) → items ≡ lits → i < length items → x ≡ get_or items i x → ¬ (IsTrueAt v x) → LineIsTrue v (drop i lits) → LineIsTrue v (drop (i + 1) lits)
rest_true v lits items i x s b e fails h =
    let bound : i < length lits = subst (λ q. i < length q) s b in
    let at : x ≡ get_or lits i x = subst (λ q. x ≡ get_or q i x) s e in
    other_true v x (drop (i + 1) lits) fails (subst (LineIsTrue v) (drop_more lits i x bound ∙ ap (λ y. y ∷ drop (i + 1) lits) (sym at)) h)

pub false_more : (v : Values) (lits items : List Lit) (i : ℕ) (x : Lit) (old more : LineTruth) → items ≡ lits → i < length items → x ≡ get_or items i x → ¬ (IsTrueAt v x) → more ≡ old
    → JudgesSoFar v lits i old → JudgesSoFar v lits (i + 1) more
false_more v lits items i x old more s b e fails m h = subst (JudgesSoFar v lits (i + 1)) (sym m) (step old h)
  where
    step : (t : LineTruth) → JudgesSoFar v lits i t → JudgesSoFar v lits (i + 1) t
    step line_truth.True h = h
    step line_truth.False h = λ t. rest_true v lits items i x s b e fails (h t)
    step (line_truth.Wide lit wide) h = h

pub wide_more : (v : Values) (lits items : List Lit) (i n : ℕ) (x : Lit) (wide : Wide) (more : LineTruth) → items ≡ lits → i < length items → x ≡ get_or items i x → IsWideLit v x wide → n ≡ i + 1
    → more ≡ line_truth.Wide n wide → JudgesSoFar v lits (i + 1) more
wide_more v lits items i n x wide more s b e w k m =
    let p : n - 1 ≡ i = omega (arith, k) in
    let at : slice_get lits (n - 1) ≡ Some x = ap (slice_get lits) p ∙ subst (λ q. slice_get q i ≡ Some x) s (slice_get-get_or items i x b ∙ ap Some (sym e)) in
    let has : HasWideLit v lits n wide = record { from = omega (arith, k); lit = x; at = at; strained = w } in
    subst (JudgesSoFar v lits (i + 1)) (sym m) has

pub judged : (v : Values) (lits : List Lit) (i : ℕ) (t : LineTruth) → length lits ≤ i → JudgesSoFar v lits i t → JudgesLine v lits t
judged v lits i line_truth.True b h = absurd h
judged v lits i line_truth.False b h = λ t. subst (LineIsTrue v) (drop_all i lits b) (h t)
judged v lits i (line_truth.Wide lit wide) b h = h

-- ---- the lines
-- what the first i lines made of the best line and of the sum that is too wide
pub record IsBestSoFar (lines : List Line) (v : Values) (i : ℕ) (best : Option Candidate) (sum : Option WideSum) : Type 0 where
  pub best_false : IfSome best (λ b. IsFalseLine lines v b.line)
  pub sum_wide : IfSome sum (λ s. IsWideChoice lines v s.choice s.wide)
  pub all : best ≡ None → sum ≡ None → All (λ line. LineIsTrue v line.lits) (take i lines)

pub none_yet : (lines : List Line) (v : Values) → IsBestSoFar lines v 0 None None
none_yet lines v = record { best_false = tt; sum_wide = tt; all = λ a b. All-nil (λ line. LineIsTrue v line.lits) }

lits_here : (lines items : List Line) (i n : ℕ) (line : Line) → items ≡ lines → i < length items → line ≡ get_or items i line → n ≡ i + 1 → (IsLine lines n) × (lits_at lines n ≡ line.lits)
lits_here lines items i n line s b e k =
    let bound : i < length lines = subst (λ q. i < length q) s b in
    let p : n - 1 ≡ i = omega (arith, k) in
    let at : slice_get lines (n - 1) ≡ Some line = ap (slice_get lines) p ∙ subst (λ q. slice_get q i ≡ Some line) s (slice_get-get_or items i line b ∙ ap Some (sym e)) in
    ((omega (arith, k), omega (arith, k, bound)), ap lits_of at)

module _ (lines items : List Line) (v : Values) (i : ℕ) (line : Line) (s : items ≡ lines) (b : i < length items) (e : line ≡ get_or items i line) (old_best : Option Candidate) (old_sum : Option WideSum) (h : IsBestSoFar lines v i old_best old_sum) where
  pub best_skipped : (best : Option Candidate) (sum : Option WideSum) → best ≡ old_best → sum ≡ old_sum → IsSome old_best → IsBestSoFar lines v (i + 1) best sum
  best_skipped best sum x y some = record {
    best_false = subst (λ o. IfSome o (λ q. IsFalseLine lines v q.line)) (sym x) h.best_false;
    sum_wide = subst (λ o. IfSome o (λ q. IsWideChoice lines v q.choice q.wide)) (sym y) h.sum_wide;
    all = λ a c. (let never = subst IsSome (sym x ∙ a) some in cc);
  }

  pub best_true : (best : Option Candidate) (sum : Option WideSum) → best ≡ old_best → sum ≡ old_sum → LineIsTrue v line.lits → IsBestSoFar lines v (i + 1) best sum
  best_true best sum x y t =
      let bound : i < length lines = subst (λ q. i < length q) s b in
      let at : line ≡ get_or lines i line = subst (λ q. line ≡ get_or q i line) s e in record {
        best_false = subst (λ o. IfSome o (λ q. IsFalseLine lines v q.line)) (sym x) h.best_false;
        sum_wide = subst (λ o. IfSome o (λ q. IsWideChoice lines v q.choice q.wide)) (sym y) h.sum_wide;
        all = λ a c. All-more (λ l. LineIsTrue v l.lits) lines i line bound (h.all (sym x ∙ a) (sym y ∙ c)) (subst (λ l. LineIsTrue v l.lits) at t);
      }

  pub best_found : (n count : ℕ) (best : Option Candidate) (sum : Option WideSum) → n ≡ i + 1 → best ≡ Some (record { line = n; count = count }) → sum ≡ old_sum → ¬ (LineIsTrue v line.lits) → IsBestSoFar lines v (i + 1) best sum
  best_found n count best sum k x y fails =
      let here = lits_here lines items i n line s b e k in
      let false : IsFalseLine lines v n = record { within = here.0; fails = λ t. fails (subst (LineIsTrue v) here.1 t) } in record {
        best_false = subst (λ o. IfSome o (λ q. IsFalseLine lines v q.line)) (sym x) false;
        sum_wide = subst (λ o. IfSome o (λ q. IsWideChoice lines v q.choice q.wide)) (sym y) h.sum_wide;
        all = λ a c. absurd (let f = sym x ∙ a in cc);
      }

  pub sum_found : (n lit : ℕ) (wide : Wide) (best : Option Candidate) (sum : Option WideSum) → n ≡ i + 1 → best ≡ old_best → sum ≡ Some (record { choice = record { line = n; lit = lit }; wide = wide }) → HasWideLit v line.lits lit wide
      → IsBestSoFar lines v (i + 1) best sum
  sum_found n lit wide best sum k x y w =
      let here = lits_here lines items i n line s b e k in
      let c : Choice = record { line = n; lit = lit } in
      let found : IsWideChoice lines v c wide = record { within = here.0; sum = subst (λ q. HasWideLit v q lit wide) (sym here.1) w } in record {
        best_false = subst (λ o. IfSome o (λ q. IsFalseLine lines v q.line)) (sym x) h.best_false;
        sum_wide = subst (λ o. IfSome o (λ q. IsWideChoice lines v q.choice q.wide)) (sym y) found;
        all = λ a c. absurd (let f = sym y ∙ c in cc);
      }

pub judges : (lines : List Line) (v : Values) (i : ℕ) (best : Option Candidate) (sum : Option WideSum) → length lines ≤ i → IsBestSoFar lines v i best sum → Judges lines v (verdict_of best sum)
judges lines v i (Some best) sum b h = h.best_false
judges lines v i None (Some sum) b h = h.sum_wide
judges lines v i None None b h = subst (All (λ line. LineIsTrue v line.lits)) (take_all i lines b) (h.all refl refl)

-- a line of this number, counted from 1
pub number_false : (lines : List Line) (v : Values) (n : ℕ) (line : Line) → 1 ≤ n → n ≤ length lines → slice_get lines (n - 1) ≡ Some line → ¬ (LineIsTrue v line.lits) → IsFalseLine lines v n
number_false lines v n line p q at fails = record { within = (p, q); fails = λ t. fails (subst (LineIsTrue v) (ap lits_of at) t) }
