-- The check of a cycle goes down its steps.
use Rattle.std.proofs.Common.{◌≡◌, ℕ, ◌+◌, ◌<◌, ℤ, pos, ◌+ℤ◌, ◌<ℤ◌, refl, sym, ◌∙◌, ap, subst, arith, List, [], ◌∷◌, length, drop, get_or, Option, Result, Ok, Err, Bool, true, false, cond, add-one}
use Rattle.std.proofs.lemmas.Int.{ints}
use Rattle.std.proofs.Math.Seq.{drop-cons}
use Rattle.hp_num.specs.declared.wide.Wide.{Wide}
use Rattle.hp_num.specs.declared.wide.Op.TheVariants.{Plus}
use lib.Signed.{lt_z}
use Rattle.hp_num.specs.Wide.{plus_of, is_narrow, ◌>>=◌}
use Rattle.hp_lit.specs.declared.literal.Name.{Name}
use Rattle.hp_lit.specs.declared.literal.Lit.{Lit}
use Rattle.hp_lit.specs.declared.proof.Step.{Step}
use Rattle.hp_lit.specs.declared.literal.IdxLit.{IdxLit}
use Rattle.hp_lit.specs.Cycle.{turned, IsRowOf, AreRowsOf, Leads, bound_sum, IsValidIdx}
use Rattle.hp_leaf.specs.Check.{LinkedFrom, IsCycle, sum_from}

-- a step has one row
pub one_row : (path : List Lit) (s : Step) (p q : IdxLit) → IsRowOf path s p → IsRowOf path s q → p ≡ q
one_row path s p q h k =
    let a = h.at.1 in let b = k.at.1 in
    let e : h.lit ≡ k.lit = cc in
    h.same ∙ ap (λ l. turned l s.forward) e ∙ sym k.same

pub step_in : (path : List Lit) (a b : Option Name) (s : Step) (ss : List Step) (row : IdxLit) → IsRowOf path s row → LinkedFrom path a (s ∷ ss) b → (a ≡ row.left) × LinkedFrom path row.right ss b
step_in path a b s ss row h k = go k.rows k.are_rows k.leads
  where
    go : (rows : List IdxLit) → AreRowsOf path (s ∷ ss) rows → Leads a rows b → (a ≡ row.left) × LinkedFrom path row.right ss b
    go [] r l = absurd r
    go (p ∷ ps) r l =
        let e = one_row path s p row r.0 h in
        (l.0 ∙ ap (λ x. x.left) e, record { rows = ps; are_rows = r.1; leads = subst (λ x. Leads x ps b) (ap (λ x. x.right) e) l.1 })

pub step_out : (path : List Lit) (a b : Option Name) (s : Step) (ss : List Step) (row : IdxLit) → IsRowOf path s row → a ≡ row.left → LinkedFrom path row.right ss b → LinkedFrom path a (s ∷ ss) b
step_out path a b s ss row h e k = record { rows = row ∷ k.rows; are_rows = (h, k.are_rows); leads = (e, k.leads) }

pub step_none : (path : List Lit) (a b : Option Name) (s : Step) (ss : List Step) → ((row : IdxLit) → IsRowOf path s row → ⊥) → LinkedFrom path a (s ∷ ss) b → ⊥
step_none path a b s ss none k = go k.rows k.are_rows
  where
    go : (rows : List IdxLit) → AreRowsOf path (s ∷ ss) rows → ⊥
    go [] r = r
    go (p ∷ ps) r = none p r.0

-- ---- the sum
narrow_sum : (s b t : ℤ) → plus_of s b ≡ Ok t → t ≡ s +ℤ b
narrow_sum s b t h =
    let w : Wide = record { left = s; op = Plus; right = b } in
    (elim (is_narrow (s +ℤ b)) as (λ c. cond c (Ok (s +ℤ b)) (Err w) ≡ Ok t → t ≡ s +ℤ b) [ true ↦ λ e. cc | false ↦ λ e. cc ]) h

pub sum_exact : (s t : ℤ) (rows : List IdxLit) → sum_from s rows ≡ Ok t → t ≡ s +ℤ bound_sum rows
sum_exact s t [] h = let e : s ≡ t = cc in omega (arith, ints)
sum_exact s t (r ∷ rs) h =
    (elim (plus_of s r.bound) as (λ p. plus_of s r.bound ≡ p → (p >>= (λ u. sum_from u rs)) ≡ Ok t → t ≡ s +ℤ (r.bound +ℤ bound_sum rs)) [
      | Ok u ↦ λ e g. (let a = narrow_sum s r.bound u e in let b = sum_exact u t rs g in omega (arith, ints))
      | Err w ↦ λ e g. cc
    ]) refl h

-- ---- at a place of a loop over the steps
drop_at : (steps : List Step) (i : ℕ) (d : Step) → i < length steps → drop i steps ≡ get_or steps i d ∷ drop (i + 1) steps
drop_at steps i d h = rw add-one (drop-cons steps i d h)

pub loop_none : (path : List Lit) (steps : List Step) (i : ℕ) (d : Step) (a b : Option Name) → i < length steps → ((row : IdxLit) → IsRowOf path (get_or steps i d) row → ⊥) → LinkedFrom path a (drop i steps) b → ⊥
loop_none path steps i d a b h none k = step_none path a b (get_or steps i d) (drop (i + 1) steps) none (subst (λ q. LinkedFrom path a q b) (drop_at steps i d h) k)

pub loop_step : (path : List Lit) (steps : List Step) (i : ℕ) (d : Step) (a b : Option Name) (row : IdxLit) → i < length steps → IsRowOf path (get_or steps i d) row → a ≡ row.left
    → (LinkedFrom path a (drop i steps) b → LinkedFrom path row.right (drop (i + 1) steps) b) × (LinkedFrom path row.right (drop (i + 1) steps) b → LinkedFrom path a (drop i steps) b)
loop_step path steps i d a b row h r e =
    let s = get_or steps i d in
    let ss = drop (i + 1) steps in (
      λ k. (step_in path a b s ss row r (subst (λ q. LinkedFrom path a q b) (drop_at steps i d h) k)).1,
      λ k. subst (λ q. LinkedFrom path a q b) (sym (drop_at steps i d h)) (step_out path a b s ss row r e k),
    )

-- a cycle begins at the left name of its first row
pub loop_start : (path : List Lit) (steps : List Step) (d : Step) (row : IdxLit) → 0 < length steps → IsRowOf path (get_or steps 0 d) row → (LinkedFrom path row.left steps row.left → ⊥) → IsCycle path steps → ⊥
loop_start path steps d row h r never k =
    let e = (step_in path k.0 k.0 (get_or steps 0 d) (drop (0 + 1) steps) row r (subst (λ q. LinkedFrom path k.0 q k.0) (drop_at steps 0 d h) k.1)).0 in
    never (subst (λ a. LinkedFrom path a steps a) e k.1)

pub sum_none : (path : List Lit) (steps : List Step) (i : ℕ) (d : Step) → i < length steps → ((row : IdxLit) → IsRowOf path (get_or steps i d) row → ⊥) → (rest : List IdxLit) → AreRowsOf path (drop i steps) rest → ⊥
sum_none path steps i d h none rest r = go rest (subst (λ q. AreRowsOf path q rest) (drop_at steps i d h) r)
  where
    go : (rest : List IdxLit) → AreRowsOf path (get_or steps i d ∷ drop (i + 1) steps) rest → ⊥
    go [] r = r
    go (p ∷ ps) r = none p r.0

pub sum_step : (path : List Lit) (steps : List Step) (i : ℕ) (d : Step) (total next : ℤ) (row : IdxLit) (z : Result ℤ Wide) → i < length steps → IsRowOf path (get_or steps i d) row → plus_of total row.bound ≡ Ok next
    → (rest : List IdxLit) → AreRowsOf path (drop i steps) rest → z ≡ sum_from total rest → (more : List IdxLit) × AreRowsOf path (drop (i + 1) steps) more × (z ≡ sum_from next more)
sum_step path steps i d total next row z h r p rest k e = go rest (subst (λ q. AreRowsOf path q rest) (drop_at steps i d h) k) e
  where
    go : (rest : List IdxLit) → AreRowsOf path (get_or steps i d ∷ drop (i + 1) steps) rest → z ≡ sum_from total rest → (more : List IdxLit) × AreRowsOf path (drop (i + 1) steps) more × (z ≡ sum_from next more)
    go [] k e = absurd k
    go (q ∷ qs) k e =
        let s = one_row path (get_or steps i d) q row k.0 r in
        let t : plus_of total q.bound ≡ Ok next = ap (λ x. plus_of total x.bound) s ∙ p in
        (qs, k.1, e ∙ ap (λ o. o >>= (λ u. sum_from u qs)) t)

-- ---- the verdict
pub valid_of : (path : List Lit) (steps : List Step) (sum bits : ℤ) → IsCycle path steps → ((rows : List IdxLit) → AreRowsOf path steps rows → Ok sum ≡ sum_from (pos 0) rows) → bits ≡ sum → ◌≡◌ {A = Result Bool Wide} (Ok (lt_z bits (pos 0))) (Ok true) → IsValidIdx path steps
valid_of path steps sum bits cycle sums b e =
    let k = cycle.1 in
    let s = sum_exact (pos 0) sum k.rows (sym (sums k.rows k.are_rows)) in
    let t : lt_z bits (pos 0) ≡ true = cc in
    record { rows = k.rows; are_rows = k.are_rows; start = cycle.0; cycle = k.leads; below = below_zero bits sum (bound_sum k.rows) t b s }
  where
    below_zero : (bits sum all : ℤ) → lt_z bits (pos 0) ≡ true → bits ≡ sum → sum ≡ pos 0 +ℤ all → all <ℤ pos 0
    below_zero bits sum all t b s = grind (arith, ints)

pub invalid_of : (path : List Lit) (steps : List Step) (sum bits : ℤ) → ((rows : List IdxLit) → AreRowsOf path steps rows → Ok sum ≡ sum_from (pos 0) rows) → bits ≡ sum → ◌≡◌ {A = Result Bool Wide} (Ok (lt_z bits (pos 0))) (Ok false) → IsValidIdx path steps → ⊥
invalid_of path steps sum bits sums b e h =
    let s = sum_exact (pos 0) sum h.rows (sym (sums h.rows h.are_rows)) in
    let t : lt_z bits (pos 0) ≡ false = cc in
    not_below bits sum (bound_sum h.rows) t b s h.below
  where
    not_below : (bits sum all : ℤ) → lt_z bits (pos 0) ≡ false → bits ≡ sum → sum ≡ pos 0 +ℤ all → all <ℤ pos 0 → ⊥
    not_below bits sum all t b s h = grind (arith, ints)
