-- The induction over levels: the functions of a structure at each level have the points of that level and below.
use Rattle.std.proofs.Common.{ℕ, zero, suc, ◌≡◌, ◌<◌, ◌≤◌, inl, inr, List, arith, true, false, ◌||◌, IsTrue, refl, ap, ◌∙◌, sym, subst}
use Rattle.std.specs.Prelude.{slice_index_or}
use Rattle.std.specs.List.{All, Contains}
use Rattle.std.proofs.lemmas.Bool.{ltb-true, cases_lt}
use Rattle.std.proofs.lemmas.List.Elements.{All-contains, All-weaker}
use Rattle.hp_math.specs.Rational.{ℚ}
use Rattle.hp_tree.specs.Universal.{HoldsAll}
use Rattle.hp_tree.specs.Value.{Word}
use Rattle.hp_model.specs.declared.structure.Structure.{Structure}
use Rattle.hp_model.specs.Value.{constant, tables_value, functions_below, functions_of}
use Rattle.hp_local.specs.Fuel.{is_lower, TablesAreLower}
use Rattle.hp_local.specs.Frame.{Fact, HasPoint, with_tables, Frame}
use Rattle.hp_local.specs.Law.{Group, Stands, IsCovered, LevelsComplete}
use Rattle.hp_local.proofs.Tests.{both}
use Rattle.hp_local.proofs.Applied.{holds_local}
use Rattle.hp_local.proofs.Fuel.{fuel_is_enough}

lower_is : (level : Word → ℕ) (at : ℕ) (func : Word) → IsTrue (is_lower level at func) → (1 ≤ level func) × (level func < at)
lower_is level at func t =
    let k = both _ _ t in
    let low : 0 < level func = ltb-true 0 (level func) k.0 in
    let high : level func < at = ltb-true (level func) at k.1 in
    (omega arith, high)

module _ (s : Structure) (level : Word → ℕ) (frame : Frame) (groups : ℕ → List Group)
    (lower : TablesAreLower level s.tables)
    (consts : frame.consts ≡ constant s.consts)
    (stand : (at : ℕ) → All (Stands s level frame at) (groups at))
    (cover : (k : Fact) → Contains frame.facts k → IsCovered level groups k) where
  -- one level more: the table of an own function
  own_value : (n : ℕ) (group : Group) → Stands s level frame (suc n) group → (func : Word) → IsTrue (group.own func) → (args : List ℚ)
      → with_tables frame.consts (functions_below n s) group.tables func args ≡ functions_below (suc n) s func args
  own_value n group h func o args = h.own_tables (functions_below n s) func o args ∙ ap (λ c. tables_value c (functions_below n s) s.tables func args) consts

  abbrev Agreed : ℕ → Type 0
  Agreed n = (k : Fact) → Contains frame.facts k → IsTrue (frame.inside k) → level k.func ≤ n → HasPoint (functions_below n s) k

  applied_points : (n : ℕ) → Agreed n → (group : Group) → (h : Stands s level frame (suc n) group)
      → (k : Fact) → Contains frame.facts k → IsTrue (h.applied k.func) → HasPoint (functions_below n s) k
  applied_points n agreed group h k m t =
      let l = lower_is level (suc n) k.func (h.applied_level k.func t) in
      agreed k m (h.applied_inside k m t) (omega arith)

  agreed : (n : ℕ) → Agreed n
  agreed zero k m i l = absurd (omega (arith, (cover k m).low))
  agreed (suc n) k m i l = elim (cases_lt n (level k.func)) [
    | inr small ↦ fuel_is_enough s level lower (suc n) n k.func (cover k m).low l small k.args ∙ agreed n k m i small
    | inl big ↦ (
        let same : level k.func ≡ suc n = omega arith in
        let c = cover k m in
        let h : Stands s level frame (suc n) c.group = All-contains (Stands s level frame (suc n)) (groups (suc n)) c.group (stand (suc n)) (subst (λ x. Contains (groups x) c.group) same c.among) in
        sym (own_value n c.group h k.func c.owned k.args) ∙ (h.law (functions_below n s) (applied_points n (agreed n) c.group h)).1 k m i c.owned)
  ]

  -- the functions that the clauses of a group apply have the same values at the end
  final : (n : ℕ) → n < 16 → (group : Group) → (h : Stands s level frame (suc n) group) → (func : Word) → IsTrue (group.own func || h.applied func) → (args : List ℚ)
      → with_tables frame.consts (functions_below n s) group.tables func args ≡ functions_below 16 s func args
  final n q group h func t args =
      (elim (group.own func) as (λ b. group.own func ≡ b → IsTrue (b || h.applied func) → with_tables frame.consts (functions_below n s) group.tables func args ≡ functions_below 16 s func args) [
        | true ↦ λ o t. (
            let e : level func ≡ suc n = h.own_level func o in
            own_value n group h func o args ∙ fuel_is_enough s level lower (suc n) 16 func (omega arith) (omega arith) (omega arith) args)
        | false ↦ λ o t. (
            let l = lower_is level (suc n) func (h.applied_level func t) in
            h.other_tables (functions_below n s) func o args ∙ fuel_is_enough s level lower n 16 func l.0 (omega arith) (omega arith) args)
      ]) refl t

  clauses_hold : (n : ℕ) → n < 16 → (group : Group) → Stands s level frame (suc n) group → All (HoldsAll frame.size frame.names (functions_below 16 s)) group.clauses
  clauses_hold n q group h k d l =
      holds_local (with_tables frame.consts (functions_below n s) group.tables) (functions_below 16 s) (λ func. group.own func || h.applied func) (final n q group h)
      frame.size frame.names (slice_index_or group.clauses k d) (h.applies k d l)
      ((h.law (functions_below n s) (applied_points n (agreed n) group h)).0 k d l)

pub levels_complete : LevelsComplete
unfolding functions_of
levels_complete s level frame groups same lower stand cover =
    let consts : frame.consts ≡ constant s.consts = λ i word. same word i in (
      λ at q. All-weaker (Stands s level frame (suc at)) (λ group. All (HoldsAll frame.size frame.names (functions_below 16 s)) group.clauses)
          (λ group h. clauses_hold s level frame groups lower consts stand cover at q group h) (groups (suc at)) (stand (suc at)),
      λ k m i. agreed s level frame groups lower consts stand cover 16 k m i (cover k m).high,
    )
