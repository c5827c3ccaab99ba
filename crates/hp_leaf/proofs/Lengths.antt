-- No line is split twice on an honest path, so a path is no longer than the list of lines.
use Rattle.std.proofs.Common.{◌≡◌, ℕ, zero, suc, ◌+◌, ◌-◌, ◌<◌, ◌≤◌, ◌≢◌, refl, sym, ◌∙◌, ap, subst, arith, List, [], ◌∷◌, ◌++◌, length, Bool, true, false, cond, nat_eq, append_assoc, append-nil}
use Rattle.std.proofs.lemmas.Bool.{eq-eqb}
use Rattle.hp_lit.specs.declared.line.Line.{Line}
use Rattle.hp_lit.specs.declared.proof.Choice.{Choice}
use Rattle.hp_tree.specs.declared.problem.Sort.{Sort}
use Rattle.hp_leaf.specs.Tree.{IsLine, Place}
use Rattle.hp_leaf.specs.Path.{AreIn, HonestFrom, IsHonestPath}
use Rattle.hp_leaf.proofs.Counting.{on, below, on-push, or_false, or_true, not_eq, in-push, split_once}

-- how many lines a test leaves
left : ℕ → (ℕ → Bool) → List Line → ℕ
left n t [] = 0
left n t (l ∷ ls) = cond (t n) 0 1 + left (suc n) t ls

left_same : (n : ℕ) (t u : ℕ → Bool) (ls : List Line) → ((k : ℕ) → n ≤ k → t k ≡ u k) → left n t ls ≡ left n u ls
unfolding left
left_same n t u [] h = refl
left_same n t u (l ∷ ls) h =
    let a = h n (omega arith) in
    let b = left_same (suc n) t u ls (λ k q. h k (omega arith)) in
    (λ i. cond (a i) 0 1 + b i)

-- one line more that the test takes away
left_less : (n j : ℕ) (t u : ℕ → Bool) (ls : List Line) → ((k : ℕ) → k ≢ n + j → t k ≡ u k) → t (n + j) ≡ false → u (n + j) ≡ true → j < length ls → left n t ls ≡ suc (left n u ls)
unfolding left
left_less n j t u [] same free taken high = absurd (omega arith)
left_less n zero t u (l ∷ ls) same free taken high =
    let e : n + 0 ≡ n = omega arith in
    let tn : t n ≡ false = subst (λ k. t k ≡ false) e free in
    let un : u n ≡ true = subst (λ k. u k ≡ true) e taken in
    let r = left_same (suc n) t u ls (λ k q. same k (omega arith)) in
    rw (tn, un, r) (omega arith)
left_less n (suc j) t u (l ∷ ls) same free taken high =
    let e : n + suc j ≡ suc n + j = omega arith in
    let r = left_less (suc n) j t u ls (λ k q. same k (omega arith)) (subst (λ k. t k ≡ false) e free) (subst (λ k. u k ≡ true) e taken) (omega arith) in
    let tn = same n (omega arith) in
    rw (tn, r) (omega arith)

left_all : (n : ℕ) (ls : List Line) → left n (on []) ls ≡ length ls
unfolding left on
left_all n [] = refl
left_all n (l ∷ ls) = omega (arith, left_all (suc n) ls)

left-push : (lines : List Line) (p : Place) (c : Choice) → IsLine lines c.line → on p c.line ≡ false → left 1 (on p) lines ≡ suc (left 1 (on (p ++ c ∷ [])) lines)
unfolding below
left-push lines p c within free =
    let n = c.line in
    let e : 1 + (n - 1) ≡ n = omega (arith, within.0) in
    left_less 1 (n - 1) (on p) (below p n) lines
    (λ k q. or_false (on p k) (nat_eq n k) (not_eq n k (omega arith)))
    (subst (λ k. on p k ≡ false) (sym e) free)
    (subst (λ k. below p n k ≡ true) (sym e) (or_true (on p n) (nat_eq n n) (eq-eqb n n refl)))
    (omega (arith, within.0, within.1))
    ∙ ap suc (left_same 1 (below p n) (on (p ++ c ∷ [])) lines (λ k q. sym (on-push p c k)))

shorter : (sorts : List Sort) (lines : List Line) (before p : Place) → AreIn lines before → HonestFrom sorts lines before p → length p + left 1 (on (before ++ p)) lines ≡ left 1 (on before) lines
shorter sorts lines before [] i h = let e = ap (λ q. left 1 (on q) lines) (append-nil before) in omega (arith, e)
shorter sorts lines before (c ∷ cs) i h =
    let one = left-push lines before c h.0 (split_once sorts lines before c.line i h.2) in
    let more = shorter sorts lines (before ++ c ∷ []) cs (in-push lines before c i h.1) h.3 in
    let e = ap (λ q. left 1 (on q) lines) (append_assoc before (c ∷ []) cs) in
    omega (arith, one, more, e)

pub path_short : (sorts : List Sort) (lines : List Line) (p : Place) → IsHonestPath sorts lines p → length p ≤ length lines
path_short sorts lines p h = omega (arith, shorter sorts lines [] p tt h, left_all 1 lines)
