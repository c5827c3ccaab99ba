-- The law of a monotone function.
use Rattle.std.proofs.Common.{ℕ, ◌≡◌, List, [], ◌∷◌, Bool, true, false, ◌&&◌, ◌||◌, not, IsTrue, refl, ap, ◌∙◌, sym, subst, cond}
use Rattle.std.specs.Str.{bytes_eq}
use Rattle.std.specs.List.{Contains}
use Rattle.std.proofs.lemmas.List.Elements.{All-nil, All-cons}
use Rattle.hp_math.specs.Rational.{ℚ, le_ℚ, ◌≤ℚ◌, ◌<ℚ◌}
use Rattle.hp_math.specs.Steps.{Point}
use Rattle.hp_math.proofs.Field.{<ℚ_irrefl, le_ℚ-true}
use Rattle.hp_math.proofs.Laws.{≤ℚ_of_<ℚ}
use Rattle.hp_tree.specs.declared.term.Term.{Term, Name}
use Rattle.hp_tree.specs.declared.problem.Var.{Var}
use Rattle.hp_tree.specs.declared.problem.Sort.TheVariants.{Num}
use Rattle.hp_tree.specs.Universal.{assign, AreSorted, HoldsAll, clause_at}
use Rattle.hp_tree.specs.Value.{Word, Environment, Functions, value, atom_is_true}
use Rattle.hp_tree.proofs.Compares.{le_ℚ-from}
use Rattle.hp_local.specs.Frame.{Fact, AreCongruent, HasPoint, with_tables, Frame}
use Rattle.hp_local.specs.Monotone.{at_most, Shape, lower_term, upper_term, shape_clause, goes, ShapesSay, step_group, PairsAreTrue, MonotoneCompletes}
use Rattle.hp_local.specs.Ordered.{in_order, first_argument, fact_points}
use Rattle.hp_local.specs.Rows.{own_facts, HaveArguments}
use Rattle.hp_local.proofs.Ordered.{≤ℚ_of_≡, in_order_ordered, among_in_order}
use Rattle.hp_local.proofs.Rows.{among_own}
use Rattle.hp_local.proofs.Steps.{steps_go, among_facts, one_argument, same_bytes, step_table_value, step_table_has}
use Rattle.hp_local.proofs.Tests.{guarded, implied}
use Rattle.hp_local.proofs.Terms.{name_value, apply_value}

-- ---- what a shape says
at_most_true : (names : Environment) (f : Functions) (turned : Bool) (s t : Term) (a b : ℚ) → value names f s ≡ a → value names f t ≡ b → atom_is_true names f (at_most turned s t) ≡ le_ℚ a b
at_most_true names f false s t a b p q = λ i. le_ℚ (p i) (q i)
at_most_true names f true s t a b p q = λ i. le_ℚ (p i) (q i)

choice_value : (names : Environment) (f : Functions) (test : Bool) (s t : Term) (a b : ℚ) → value names f s ≡ a → value names f t ≡ b → value names f (cond test s t) ≡ cond test a b
choice_value names f true s t a b p q = p
choice_value names f false s t a b p q = q

one_each : (p q : Bool) → (not (p && true) || (q || false)) ≡ (not p || q)
one_each true true = refl
one_each true false = refl
one_each false q = refl

pub shapes_say : ShapesSay
shapes_say func shape different names F a b =
    let vars : List Var = record { name = shape.first; sort = Num } ∷ record { name = shape.second; sort = Num } ∷ [] in
    let N : Environment = assign vars (a ∷ b ∷ []) names in
    let first : N shape.first ≡ a = rw (same_bytes shape.first) refl in
    let second : N shape.second ≡ b = rw (different, same_bytes shape.second) refl in
    let x : value N F (Name shape.first) ≡ a = name_value N F shape.first ∙ first in
    let y : value N F (Name shape.second) ≡ b = name_value N F shape.second ∙ second in
    let low : value N F (lower_term shape) ≡ cond shape.first_lower a b = choice_value N F shape.first_lower _ _ a b x y in
    let high : value N F (upper_term shape) ≡ cond shape.first_lower b a = choice_value N F shape.first_lower _ _ b a y x in
    let at_low = apply_value N F func (lower_term shape ∷ []) ∙ ap (λ z. F func (z ∷ [])) low in
    let at_high = apply_value N F func (upper_term shape ∷ []) ∙ ap (λ z. F func (z ∷ [])) high in
    let guard = at_most_true N F shape.guard_turned _ _ _ _ low high in
    let head = at_most_true N F shape.head_turned _ _ _ _ (choice_value N F shape.rising _ _ _ _ at_low at_high) (choice_value N F shape.rising _ _ _ _ at_high at_low) in
    (λ i. not (guard i && true) || (head i || false)) ∙ one_each _ _

-- ---- the law
-- two numbers for two variables
two_values : (size : ℕ) (u v : Var) (P : List ℚ → Type 0) → ((a b : ℚ) → P (a ∷ b ∷ [])) → (xs : List ℚ) → AreSorted size (u ∷ v ∷ []) xs → P xs
two_values size u v P h [] s = absurd s
two_values size u v P h (a ∷ []) s = absurd s.1
two_values size u v P h (a ∷ b ∷ []) s = h a b
two_values size u v P h (a ∷ b ∷ c ∷ xs) s = absurd s.1.1

module _ (frame : Frame) (func : Word) (shape : Shape) (different : bytes_eq shape.first shape.second ≡ false) (n : HaveArguments 1 (own_facts func frame.facts))
    (congruent : AreCongruent frame.facts) (pairs : PairsAreTrue frame func (shape_clause func shape)) (lower : Functions) where
  abbrev points : List Point
  points = in_order (fact_points (own_facts func frame.facts))

  abbrev F : Functions
  F = with_tables frame.consts lower (step_group frame func (shape_clause func shape ∷ [])).tables

  has : (k : Fact) → Contains frame.facts k → IsTrue (bytes_eq func k.func) → HasPoint F k
  has k m o = step_table_has frame.consts func frame.facts congruent n lower k m o

  own_value : (k : Fact) → Contains (own_facts func frame.facts) k → F func (first_argument k.args ∷ []) ≡ k.value
  own_value k m =
      let a = among_own func frame.facts k m in
      (λ i. F (a.1 i) (sym (one_argument k.args (n k m)) i)) ∙ has k a.0 (subst (λ z. IsTrue (bytes_eq func z)) a.1 (same_bytes func))

  -- the clause at two numbers, the one that its guard calls the lower being the lesser
  says : (x y low high : ℚ) → cond shape.first_lower x y ≡ low → cond shape.first_lower y x ≡ high → low <ℚ high
      → IsTrue (clause_at frame.names F (shape_clause func shape) (x ∷ y ∷ [])) → goes shape.rising (F func (low ∷ [])) (F func (high ∷ [])) ≡ true
  says x y low high p q h t =
      let u = shapes_say func shape different frame.names F x y ∙ (λ i. not (le_ℚ (p i) (q i)) || goes shape.rising (F func (p i ∷ [])) (F func (q i ∷ []))) in
      implied (le_ℚ low high) (goes shape.rising (F func (low ∷ [])) (F func (high ∷ []))) (sym u ∙ t) (le_ℚ-from _ _ (≤ℚ_of_<ℚ _ _ h))

  at_points : (k l : Fact) → Contains (own_facts func frame.facts) k → Contains (own_facts func frame.facts) l → first_argument k.args <ℚ first_argument l.args
      → goes shape.rising (F func (first_argument k.args ∷ [])) (F func (first_argument l.args ∷ [])) ≡ true
  at_points k l a b h =
      let x = first_argument k.args in
      let y = first_argument l.args in
      let apart = λ (s : x ≡ y). <ℚ_irrefl x y h (≤ℚ_of_≡ y x (sym s)) in
      (elim shape.first_lower as (λ t. shape.first_lower ≡ t → goes shape.rising (F func (x ∷ [])) (F func (y ∷ [])) ≡ true) [
        | true ↦ λ e. says x y x y (ap (λ t. cond t x y) e) (ap (λ t. cond t y x) e) h (pairs k l a b (λ s. apart (ap first_argument s)) F has)
        | false ↦ λ e. says y x x y (ap (λ t. cond t y x) e) (ap (λ t. cond t x y) e) h (pairs l k b a (λ s. apart (sym (ap first_argument s))) F has)
      ]) refl

  values_go : (p q : Point) → Contains points p → Contains points q → p.at <ℚ q.at → cond shape.rising p.value q.value ≤ℚ cond shape.rising q.value p.value
  values_go p q a b h =
      let k = among_facts (own_facts func frame.facts) p (among_in_order _ p a) in
      let l = among_facts (own_facts func frame.facts) q (among_in_order _ q b) in
      let less : first_argument k.0.args <ℚ first_argument l.0.args = subst (λ z. z <ℚ first_argument l.0.args) (sym k.2) (subst (λ z. p.at <ℚ z) (sym l.2) h) in
      let x : F func (first_argument k.0.args ∷ []) ≡ p.value = own_value k.0 k.1 ∙ k.3 in
      let y : F func (first_argument l.0.args ∷ []) ≡ q.value = own_value l.0 l.1 ∙ l.3 in
      le_ℚ-true _ _ (sym (λ i. goes shape.rising (x i) (y i)) ∙ at_points k.0 l.0 k.1 l.1 less)

  goes_on : (x y : ℚ) → x ≤ℚ y → goes shape.rising (F func (x ∷ [])) (F func (y ∷ [])) ≡ true
  goes_on x y h =
      (λ i. goes shape.rising (step_table_value frame.consts lower func points x i) (step_table_value frame.consts lower func points y i))
      ∙ le_ℚ-from _ _ (steps_go shape.rising points (in_order_ordered (fact_points (own_facts func frame.facts))) values_go x y h)

  holds : HoldsAll frame.size frame.names F (shape_clause func shape)
  holds xs s =
      two_values frame.size (record { name = shape.first; sort = Num }) (record { name = shape.second; sort = Num })
      (λ xs. IsTrue (clause_at frame.names F (shape_clause func shape) xs))
      (λ a b.
      let low = cond shape.first_lower a b in
      let high = cond shape.first_lower b a in
      shapes_say func shape different frame.names F a b
      ∙ guarded (le_ℚ low high) (goes shape.rising (F func (low ∷ [])) (F func (high ∷ []))) (λ t. goes_on low high (le_ℚ-true low high t)))
      xs s

pub monotone_completes : MonotoneCompletes
monotone_completes frame func shape different n congruent pairs lower have =
    let F = with_tables frame.consts lower (step_group frame func (shape_clause func shape ∷ [])).tables in (
      All-cons (HoldsAll frame.size frame.names F) (shape_clause func shape) [] (holds frame func shape different n congruent pairs lower) (All-nil (HoldsAll frame.size frame.names F)),
      λ k m i o. has frame func shape different n congruent pairs lower k m o,
    )
