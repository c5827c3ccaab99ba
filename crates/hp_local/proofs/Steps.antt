-- The step function through the points of a function of one argument.
use Rattle.std.proofs.Common.{◌≡◌, List, [], ◌∷◌, map, length, Bool, true, false, IsTrue, refl, ap, ◌∙◌, sym, subst, cond, arith, pos}
use Rattle.std.specs.Str.{bytes_eq}
use Rattle.std.specs.List.{Contains}
use Rattle.std.proofs.lemmas.List.Elements.{All-head}
use Rattle.std.proofs.lemmas.Slice.Eq.{bytes_eq-Decides}
use Rattle.hp_math.specs.Rational.{ℚ, lt_ℚ, neg_ℚ, ◌≤ℚ◌, ◌<ℚ◌}
use Rattle.hp_math.specs.Steps.{Point, steps, AreRising}
use Rattle.hp_math.proofs.Laws.{neg_ℚ_anti, neg_ℚ-neg_ℚ, whole-neg}
use Rattle.hp_math.proofs.Steps.{steps_are_monotone}
use Rattle.hp_tree.specs.Value.{Word, Environment, Functions}
use Rattle.hp_local.specs.Frame.{Fact, AreCongruent, HasPoint, with_tables}
use Rattle.hp_local.specs.Ordered.{in_order, AreOrdered, AreFunctional, first_argument, fact_point, fact_points, step_table}
use Rattle.hp_local.specs.Rows.{own_facts, HaveArguments}
use Rattle.hp_local.proofs.Lists.{contains_first, contains_later, contains_map, map_contains}
use Rattle.hp_local.proofs.Ordered.{rising, steps_have_points, tables_are_steps}
use Rattle.hp_local.proofs.Rows.{own_among, own_congruent}

-- ---- values that rise or fall
abbrev mirrored : Point → Point
mirrored p = record { at = p.at; value = neg_ℚ p.value }

steps-mirrored : (ps : List Point) (x : ℚ) → steps (map mirrored ps) x ≡ neg_ℚ (steps ps x)
steps-mirrored [] x = sym (whole-neg (pos 0))
steps-mirrored (p ∷ []) x = refl
steps-mirrored (p ∷ q ∷ ps) x =
    (λ i. cond (lt_ℚ x q.at) (neg_ℚ p.value) (steps-mirrored (q ∷ ps) x i))
    ∙ (elim (lt_ℚ x q.at) as (λ b. cond b (neg_ℚ p.value) (neg_ℚ (steps (q ∷ ps) x)) ≡ neg_ℚ (cond b p.value (steps (q ∷ ps) x))) [ true ↦ refl | false ↦ refl ])

falling : (ps : List Point) → AreOrdered ps → ((p q : Point) → Contains ps p → Contains ps q → p.at <ℚ q.at → q.value ≤ℚ p.value) → AreRising (map mirrored ps)
falling [] o h = tt
falling (p ∷ []) o h = tt
falling (p ∷ q ∷ ps) o h =
    let l : p.at <ℚ q.at = All-head (λ (s : Point). p.at <ℚ s.at) q ps o.0 in
    (l, neg_ℚ_anti _ _ (h p q (contains_first p (q ∷ ps)) (contains_later p (q ∷ ps) q (contains_first q ps)) l), falling (q ∷ ps) o.1 (λ r s m n. h r s (contains_later p (q ∷ ps) r m) (contains_later p (q ∷ ps) s n)))

steps_fall : (ps : List Point) → AreRising (map mirrored ps) → (x y : ℚ) → x ≤ℚ y → steps ps y ≤ℚ steps ps x
steps_fall ps r x y h =
    let k : neg_ℚ (steps ps x) ≤ℚ neg_ℚ (steps ps y) = subst (λ z. z ≤ℚ neg_ℚ (steps ps y)) (steps-mirrored ps x) (subst (λ z. steps (map mirrored ps) x ≤ℚ z) (steps-mirrored ps y) (steps_are_monotone (map mirrored ps) r x y h)) in
    subst (λ z. z ≤ℚ steps ps x) (neg_ℚ-neg_ℚ (steps ps y)) (subst (λ z. neg_ℚ (neg_ℚ (steps ps y)) ≤ℚ z) (neg_ℚ-neg_ℚ (steps ps x)) (neg_ℚ_anti _ _ k))

-- the step function goes the way of the points
pub steps_go : (up : Bool) (ps : List Point) → AreOrdered ps → ((p q : Point) → Contains ps p → Contains ps q → p.at <ℚ q.at → cond up p.value q.value ≤ℚ cond up q.value p.value)
    → (x y : ℚ) → x ≤ℚ y → cond up (steps ps x) (steps ps y) ≤ℚ cond up (steps ps y) (steps ps x)
steps_go true ps o h x y l = steps_are_monotone ps (rising ps o h) x y l
steps_go false ps o h x y l = steps_fall ps (falling ps o h) x y l

-- ---- the points of a function
pub fact_among : (facts : List Fact) (k : Fact) → Contains facts k → Contains (fact_points facts) (fact_point k)
fact_among facts k m = contains_map fact_point facts k m

pub among_facts : (facts : List Fact) (p : Point) → Contains (fact_points facts) p → (k : Fact) × Contains facts k × (first_argument k.args ≡ p.at) × (k.value ≡ p.value)
among_facts facts p m = let h = map_contains fact_point facts p m in (h.0, h.1, ap (λ z. z.at) h.2, ap (λ z. z.value) h.2)

pub one_argument : (xs : List ℚ) → length xs ≡ 1 → xs ≡ first_argument xs ∷ []
one_argument [] h = absurd (omega arith)
one_argument (x ∷ []) h = refl
one_argument (x ∷ y ∷ xs) h = absurd (omega arith)

facts_functional : (func : Word) (facts : List Fact) → AreCongruent facts → HaveArguments 1 (own_facts func facts) → AreFunctional (fact_points (own_facts func facts))
facts_functional func facts c n p q a b e =
    let k = among_facts (own_facts func facts) p a in
    let l = among_facts (own_facts func facts) q b in
    let same : k.0.args ≡ l.0.args = one_argument k.0.args (n k.0 k.1) ∙ ap (λ z. z ∷ []) (k.2 ∙ e ∙ sym l.2) ∙ sym (one_argument l.0.args (n l.0 l.1)) in
    sym k.3 ∙ own_congruent func facts c k.0 l.0 k.1 l.1 same ∙ l.3

pub same_bytes : (word : Word) → bytes_eq word word ≡ true
same_bytes word = (bytes_eq-Decides word word).1 refl

-- ---- the table
pub step_table_value : (consts : Environment) (lower : Functions) (func : Word) (ps : List Point) (x : ℚ) → with_tables consts lower (step_table func ps ∷ []) func (x ∷ []) ≡ steps ps x
step_table_value consts lower func ps x = rw (same_bytes func) (tables_are_steps consts lower ps x)

pub step_table_has : (consts : Environment) (func : Word) (facts : List Fact) → AreCongruent facts → HaveArguments 1 (own_facts func facts)
    → (lower : Functions) → (k : Fact) → Contains facts k → IsTrue (bytes_eq func k.func)
    → HasPoint (with_tables consts lower (step_table func (in_order (fact_points (own_facts func facts))) ∷ [])) k
step_table_has consts func facts c n lower k m o =
    let own : Contains (own_facts func facts) k = own_among func facts k m o in
    let ps = fact_points (own_facts func facts) in
    let e : func ≡ k.func = (bytes_eq-Decides func k.func).0 o in
    subst (λ h. with_tables consts lower (step_table func (in_order ps) ∷ []) h k.args ≡ k.value) e
    (ap (λ xs. with_tables consts lower (step_table func (in_order ps) ∷ []) func xs) (one_argument k.args (n k own))
    ∙ step_table_value consts lower func (in_order ps) (first_argument k.args)
    ∙ steps_have_points ps (facts_functional func facts c n) (fact_point k) (fact_among (own_facts func facts) k own))
