-- Cases with a lower and an upper bound, which two clauses give.
use Rattle.std.proofs.Common.{◌≡◌, ◌∙◌, ℕ, List, Option, Some, None, Result, refl, sym, ap, subst, false}
use Rattle.std.specs.Prelude.{is_some, IfOk}
use Rattle.hp_tree.specs.Value.{Word}
use Rattle.hp_tree.specs.declared.term.Term.{Term}
use Rattle.hp_lit.specs.declared.literal.NumLit.{NumLit}
use Rattle.hp_linear.specs.Answers.{Answers}
use Rattle.hp_linear.specs.Steps.{Refusable}
use Rattle.hp_pairs.specs.declared.branch.Branch.{Branch}
use Rattle.hp_pairs.specs.declared.branch.Given.{Given}
use Rattle.hp_rules.specs.Rules.{bounded, gap_of, given, with_gap, with_high, with_low}

none_of : {A : Type 0} (o : Option A) → is_some o ≡ false → o ≡ None
none_of None e = refl
none_of (Some x) e = absurd (cc)

pub low_gap : {E : Type 0} (words : List Word) (clause : ℕ) (t : Term) (b : Branch) (r : Result (Option Branch) E) (rows : Refusable (List NumLit)) (high copy : Given) (more : Branch)
    → is_some b.low ≡ false → b.high ≡ Some high → copy ≡ high → more ≡ bounded b (Some (given clause t)) (Some copy)
    → ((wanted : Refusable (List NumLit)) → Answers wanted rows → IfOk r (λ m. m ≡ with_gap more wanted)) → Answers (gap_of words t high.term) rows
    → IfOk r (λ m. m ≡ with_low words clause t b b.low b.high)
low_gap words clause t b r rows high copy more none some same is gives h =
    let whole : with_low words clause t b b.low b.high ≡ with_gap more (gap_of words t high.term) =
    (λ i. with_low words clause t b (none_of b.low none i) (some i))
    ∙ (λ i. with_gap (bounded b (Some (given clause t)) (Some (sym same i))) (gap_of words t high.term))
    ∙ ap (λ m. with_gap m (gap_of words t high.term)) (sym is) in
    subst (λ (o : Option Branch). IfOk r (λ m. m ≡ o)) (sym whole) (gives (gap_of words t high.term) h)

pub high_gap : {E : Type 0} (words : List Word) (clause : ℕ) (t : Term) (b : Branch) (r : Result (Option Branch) E) (rows : Refusable (List NumLit)) (low copy : Given) (more : Branch)
    → is_some b.high ≡ false → b.low ≡ Some low → copy ≡ low → more ≡ bounded b (Some copy) (Some (given clause t))
    → ((wanted : Refusable (List NumLit)) → Answers wanted rows → IfOk r (λ m. m ≡ with_gap more wanted)) → Answers (gap_of words low.term t) rows
    → IfOk r (λ m. m ≡ with_high words clause t b b.low b.high)
high_gap words clause t b r rows low copy more none some same is gives h =
    let whole : with_high words clause t b b.low b.high ≡ with_gap more (gap_of words low.term t) =
    (λ i. with_high words clause t b (some i) (none_of b.high none i))
    ∙ (λ i. with_gap (bounded b (Some (sym same i)) (Some (given clause t))) (gap_of words low.term t))
    ∙ ap (λ m. with_gap m (gap_of words low.term t)) (sym is) in
    subst (λ (o : Option Branch). IfOk r (λ m. m ≡ o)) (sym whole) (gives (gap_of words low.term t) h)
