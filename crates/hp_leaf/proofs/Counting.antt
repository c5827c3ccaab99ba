-- No line is split twice on an honest path, which bounds the nodes of an honest tree.
use Rattle.std.proofs.Common.{◌≡◌, ℕ, zero, suc, ◌+◌, ◌-◌, ◌*◌, ◌<◌, ◌≤◌, ◌≢◌, inl, inr, refl, sym, ◌∙◌, ap, subst, arith, List, [], ◌∷◌, ◌++◌, length, get_or, Bool, true, false, cond, nat_eq, ◌||◌}
use Rattle.std.specs.Prelude.{slice_get}
use Rattle.std.specs.List.{All}
use Rattle.std.proofs.lemmas.Bool.{eqb-true, eq-eqb}
use Rattle.std.proofs.lemmas.List.Elements.{All-head, All-tail}
use Rattle.hp_lit.specs.declared.literal.Lit.{Lit}
use Rattle.hp_lit.specs.declared.line.Line.{Line}
use Rattle.hp_lit.specs.declared.proof.Choice.{Choice}
use Rattle.hp_tree.specs.declared.problem.Sort.{Sort}
use Rattle.hp_lit.specs.Truth.{Values, IsTrueAt, LineIsTrue}
use Rattle.hp_leaf.specs.declared.tree.Node.{Node}
use Rattle.hp_leaf.specs.declared.tree.Node.TheVariants.{Split, Leaf, Unopened}
use Rattle.hp_leaf.specs.Tree.{lits_of, lits_at, IsLine, nothing, lit_at, Place, place_lits, children, IsOpenAt, Reads, limit}
use Rattle.hp_leaf.specs.Path.{InRange, AreIn}
use Rattle.hp_leaf.specs.Laws.{SpentTreesAreSmall}

-- ---- the product over the lines that a test leaves
rest_of : ℕ → (ℕ → Bool) → List Line → ℕ
rest_of n t [] = 1
rest_of n t (l ∷ ls) = cond (t n) 1 (suc (length l.lits)) * rest_of (suc n) t ls

rest_pos : (n : ℕ) (t : ℕ → Bool) (ls : List Line) → 1 ≤ rest_of n t ls
unfolding rest_of
rest_pos n t [] = omega arith
rest_pos n t (l ∷ ls) = pos_times (cond (t n) 1 (suc (length l.lits))) (rest_of (suc n) t ls) (elim (t n) as (λ b. 1 ≤ cond b 1 (suc (length l.lits))) [ true ↦ omega arith | false ↦ omega arith ]) (rest_pos (suc n) t ls)
  where
    pos_times : (a b : ℕ) → 1 ≤ a → 1 ≤ b → 1 ≤ a * b
    pos_times zero b p q = absurd (omega arith)
    pos_times (suc a) b p q = omega arith

-- where the tests agree from n on, the products do
rest_same : (n : ℕ) (t u : ℕ → Bool) (ls : List Line) → ((k : ℕ) → n ≤ k → t k ≡ u k) → rest_of n t ls ≡ rest_of n u ls
unfolding rest_of
rest_same n t u [] h = refl
rest_same n t u (l ∷ ls) h =
    let a = h n (omega arith) in
    let b = rest_same (suc n) t u ls (λ k q. h k (omega arith)) in
    (λ i. cond (a i) 1 (suc (length l.lits)) * b i)

swap : (a b c : ℕ) → a * (b * c) ≡ b * (a * c)
swap a b c = grind arith

-- one line more that the test takes away
rest_less : (n j : ℕ) (t u : ℕ → Bool) (ls : List Line) → ((k : ℕ) → k ≢ n + j → t k ≡ u k) → t (n + j) ≡ false → u (n + j) ≡ true
    → j < length ls → rest_of n t ls ≡ suc (length (lits_of (slice_get ls j))) * rest_of n u ls
unfolding rest_of
rest_less n j t u [] same free taken high = absurd (omega arith)
rest_less n zero t u (l ∷ ls) same free taken high =
    let e : n + 0 ≡ n = omega arith in
    let tn : t n ≡ false = subst (λ k. t k ≡ false) e free in
    let un : u n ≡ true = subst (λ k. u k ≡ true) e taken in
    let r = rest_same (suc n) t u ls (λ k q. same k (omega arith)) in
    rw (tn, un, r) (omega arith)
rest_less n (suc j) t u (l ∷ ls) same free taken high =
    let e : n + suc j ≡ suc n + j = omega arith in
    let r = rest_less (suc n) j t u ls (λ k q. same k (omega arith)) (subst (λ k. t k ≡ false) e free) (subst (λ k. u k ≡ true) e taken) (omega arith) in
    let tn = same n (omega arith) in
    rw (tn, r) (swap (cond (u n) 1 (suc (length l.lits))) (suc (length (lits_of (slice_get ls j)))) (rest_of (suc n) u ls))

-- ---- the lines on a path
unfoldable pub on : Place → ℕ → Bool
on [] k = false
on (c ∷ cs) k = nat_eq c.line k || on cs k

-- with one line more
unfoldable pub below : Place → ℕ → ℕ → Bool
below p n k = on p k || nat_eq n k

pub or_false : (a b : Bool) → b ≡ false → a ≡ (a || b)
or_false true b h = refl
or_false false b h = sym h

pub or_true : (a b : Bool) → b ≡ true → (a || b) ≡ true
or_true true b h = refl
or_true false b h = h

or_assoc : (a b c : Bool) → (a || (b || c)) ≡ ((a || b) || c)
or_assoc true b c = refl
or_assoc false b c = refl

or_comm_false : (a : Bool) → (a || false) ≡ a
or_comm_false true = refl
or_comm_false false = refl

pub on-push : (p : Place) (c : Choice) (k : ℕ) → on (p ++ c ∷ []) k ≡ below p c.line k
unfolding on below
on-push [] c k = or_comm_false (nat_eq c.line k)
on-push (d ∷ p) c k = ap (λ b. nat_eq d.line k || b) (on-push p c k) ∙ or_assoc (nat_eq d.line k) (on p k) (nat_eq c.line k)

pub not_eq : (n k : ℕ) → k ≢ n → nat_eq n k ≡ false
not_eq n k h = (elim (nat_eq n k) as (λ b. nat_eq n k ≡ b → nat_eq n k ≡ false) [ true ↦ λ t. absurd (h (sym (eqb-true n k t))) | false ↦ λ t. t ]) refl

pub weight : List Line → Place → ℕ
weight lines p = rest_of 1 (on p) lines

pub total : List Line → List Place → ℕ
total lines [] = 0
total lines (p ∷ ps) = weight lines p + total lines ps

total-append : (lines : List Line) (ps qs : List Place) → total lines (ps ++ qs) ≡ total lines ps + total lines qs
unfolding total
total-append lines [] qs = omega arith
total-append lines (p ∷ ps) qs = omega (arith, total-append lines ps qs)

weight-push : (lines : List Line) (p : Place) (c : Choice) → weight lines (p ++ c ∷ []) ≡ rest_of 1 (below p c.line) lines
unfolding weight
weight-push lines p c = rest_same 1 (on (p ++ c ∷ [])) (below p c.line) lines (λ k q. on-push p c k)

total_children : (lines : List Line) (p : Place) (n done left : ℕ) → total lines (children p n done left) ≡ left * rest_of 1 (below p n) lines
unfolding total
total_children lines p n done zero = omega arith
total_children lines p n done (suc left) = omega (arith, weight-push lines p (record { line = n; lit = suc done }), total_children lines p n (suc done) left)

weight_split : (lines : List Line) (p : Place) (n : ℕ) → IsLine lines n → on p n ≡ false → weight lines p ≡ suc (length (lits_at lines n)) * rest_of 1 (below p n) lines
unfolding weight below
weight_split lines p n within free =
    let e : 1 + (n - 1) ≡ n = omega (arith, within.0) in
    rest_less 1 (n - 1) (on p) (below p n) lines
    (λ k q. or_false (on p k) (nat_eq n k) (not_eq n k (omega arith)))
    (subst (λ k. on p k ≡ false) (sym e) free)
    (subst (λ k. below p n k ≡ true) (sym e) (or_true (on p n) (nat_eq n n) (eq-eqb n n refl)))
    (omega (arith, within.0, within.1))

-- ---- choices that name literals
abbrev pub AllIn : List Line → List Place → Type 0
AllIn lines [] = Unit {0}
AllIn lines (p ∷ ps) = AreIn lines p × AllIn lines ps

pub in-push : (lines : List Line) (p : Place) (c : Choice) → AreIn lines p → InRange lines c → AreIn lines (p ++ c ∷ [])
in-push lines [] c h k = (k, tt)
in-push lines (d ∷ p) c h k = (h.0, in-push lines p c h.1 k)

in-append : (lines : List Line) (ps qs : List Place) → AllIn lines ps → AllIn lines qs → AllIn lines (ps ++ qs)
in-append lines [] qs h k = k
in-append lines (p ∷ ps) qs h k = (h.0, in-append lines ps qs h.1 k)

in_children : (lines : List Line) (p : Place) (n done left : ℕ) → AreIn lines p → done + left ≤ length (lits_at lines n) → AllIn lines (children p n done left)
in_children lines p n done zero h b = tt
in_children lines p n done (suc left) h b =
    (in-push lines p (record { line = n; lit = suc done }) h (omega arith, omega arith), in_children lines p n (suc done) left h (omega arith))

-- ---- a line of the path is true where the path is
pub some_true : (v : Values) (ls : List Lit) (k : ℕ) → k < length ls → IsTrueAt v (get_or ls k nothing) → LineIsTrue v ls
some_true v [] k b h = absurd (omega arith)
some_true v (l ∷ ls) zero b h = inl h
some_true v (l ∷ ls) (suc k) b h = inr (some_true v ls k (omega arith) h)

chosen_true : (v : Values) (lines : List Line) (p : Place) (n : ℕ) → AreIn lines p → All (IsTrueAt v) (place_lits lines p) → on p n ≡ true → LineIsTrue v (lits_at lines n)
unfolding on
chosen_true v lines [] n i all h = cc
chosen_true v lines (c ∷ cs) n i all h =
    (elim (nat_eq c.line n) as (λ b. nat_eq c.line n ≡ b → (b || on cs n) ≡ true → LineIsTrue v (lits_at lines n)) [
      | true ↦ λ t g. (let e : c.line ≡ n = eqb-true c.line n t in
          subst (λ k. LineIsTrue v (lits_at lines k)) e (some_true v (lits_at lines c.line) (c.lit - 1) (omega (arith, i.0.0, i.0.1)) (All-head (IsTrueAt v) (lit_at lines c) (place_lits lines cs) all)))
      | false ↦ λ t g. chosen_true v lines cs n i.1 (All-tail (IsTrueAt v) (lit_at lines c) (place_lits lines cs) all) g
    ]) refl h

-- no line is split twice
pub split_once : (sorts : List Sort) (lines : List Line) (p : Place) (n : ℕ) → AreIn lines p → IsOpenAt sorts lines p n → on p n ≡ false
split_once sorts lines p n i h =
    (elim (on p n) as (λ b. on p n ≡ b → b ≡ false) [ true ↦ λ t. absurd (h.fails (chosen_true h.values lines p n i h.holds t)) | false ↦ λ t. refl ]) refl

pub reads_in : (May : Place → ℕ → Type 0) (lines : List Line) (nodes : List Node) (places rest : List Place) → AllIn lines places → Reads May lines nodes places rest → AllIn lines rest
reads_in May lines [] places rest i h = subst (AllIn lines) h i
reads_in May lines (node ∷ nodes) [] rest i h = absurd h
reads_in May lines (Split n ∷ nodes) (p ∷ ps) rest i h =
    reads_in May lines nodes (children p n 0 (length (lits_at lines n)) ++ ps) rest (in-append lines (children p n 0 (length (lits_at lines n))) ps (in_children lines p n 0 (length (lits_at lines n)) i.0 (omega arith)) i.1) h.2
reads_in May lines (Leaf proof ∷ nodes) (p ∷ ps) rest i h = reads_in May lines nodes ps rest i.1 h.1
reads_in May lines (Unopened ∷ nodes) (p ∷ ps) rest i h = absurd h

weight_pos : (lines : List Line) (p : Place) → 1 ≤ weight lines p
unfolding weight
weight_pos lines p = rest_pos 1 (on p) lines

-- each node takes at least one from the total
step_split : (s a b c k w r t : ℕ) → s + t ≤ a → a ≡ b + c → b ≡ k * w → r ≡ suc k * w → 1 ≤ w → suc s + t ≤ r + c
step_split s a b c k w r t h e f g q = omega arith

pub counted : (sorts : List Sort) (lines : List Line) (nodes : List Node) (places rest : List Place) → AllIn lines places → Reads (IsOpenAt sorts lines) lines nodes places rest
    → length nodes + total lines rest ≤ total lines places
unfolding total
counted sorts lines [] places rest i h = let e = ap (total lines) h in omega arith
counted sorts lines (node ∷ nodes) [] rest i h = absurd h
counted sorts lines (Split n ∷ nodes) (p ∷ ps) rest i h =
    let count = length (lits_at lines n) in
    let kids = children p n 0 count in
    let more = counted sorts lines nodes (kids ++ ps) rest (in-append lines kids ps (in_children lines p n 0 count i.0 (omega arith)) i.1) h.2 in
    step_split (length nodes) (total lines (kids ++ ps)) (total lines kids) (total lines ps) count (rest_of 1 (below p n) lines) (weight lines p) (total lines rest)
    more (total-append lines kids ps) (total_children lines p n 0 count) (weight_split lines p n h.0 (split_once sorts lines p n i.0 h.1)) (rest_pos 1 (below p n) lines)
counted sorts lines (Leaf proof ∷ nodes) (p ∷ ps) rest i h =
    let more = counted sorts lines nodes ps rest i.1 h.1 in
    let w = weight_pos lines p in omega arith
counted sorts lines (Unopened ∷ nodes) (p ∷ ps) rest i h = absurd h

all_free : (n : ℕ) (ls : List Line) → rest_of n (on []) ls ≡ limit ls
unfolding rest_of on
all_free n [] = refl
all_free n (l ∷ ls) = ap (λ r. suc (length l.lits) * r) (all_free (suc n) ls)

some_total : (lines : List Line) (ps : List Place) → 0 < length ps → 1 ≤ total lines ps
unfolding total weight
some_total lines [] h = absurd (omega arith)
some_total lines (p ∷ ps) h = omega (arith, rest_pos 1 (on p) lines)

whole_weight : (lines : List Line) → total lines ([] ∷ []) ≡ limit lines
unfolding total weight
whole_weight lines = omega (arith, all_free 1 lines)

pub spent_trees_are_small : SpentTreesAreSmall
spent_trees_are_small sorts lines tree most h =
    omega (arith, counted sorts lines h.made ([] ∷ []) h.waiting (tt, tt) h.honest, whole_weight lines, some_total lines h.waiting h.some, h.count)
