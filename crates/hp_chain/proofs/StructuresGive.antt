-- A structure that satisfies a problem gives values of the names at which all lines of the ground set are true.
use Rattle.std.proofs.Common.{◌≡◌, ◌∙◌, ◌&&◌, ℕ, IsTrue, pos, List, [], ◌∷◌, length, map, refl, suc}
use Rattle.std.proofs.lemmas.Bool.{and_parts}
use Rattle.hp_math.specs.Rational.{ℚ, is_whole, le_ℚ, lt_ℚ, whole}
use Rattle.hp_math.proofs.Laws.{tests_decide}
use Rattle.hp_tree.specs.declared.problem.Sort.{Sort}
use Rattle.hp_tree.specs.declared.problem.Sort.TheVariants.{Num, Idx, Ptr}
use Rattle.hp_tree.specs.Sorted.{is_of_sort}
use Rattle.hp_lit.specs.Sorts.{AreOfSorts, HaveSorts, IsOfSort}
use Rattle.hp_lit.specs.Truth.{Values, name_value}
use Rattle.hp_sorts.proofs.Faultless.{faultless_problems_are_well_sorted}
use Rattle.hp_defs.specs.Names.{sorts, words}
use Rattle.hp_defs.proofs.Distinct.{words_are_distinct}
use Rattle.hp_base.proofs.Making.{begins_same}
use Rattle.hp_model.specs.Value.{constant, entry_value, functions_of}
use Rattle.hp_norm.specs.Sound.{AreValues, IsLater}
use Rattle.hp_norm.proofs.ConstantsAlone.{clauses_need_constants_alone}
use Rattle.hp_norm.proofs.HoldsAtOnce.{clauses_hold_at_once}
use Rattle.hp_class.specs.Frame.{environment}
use Rattle.hp_class.specs.Groups.{AreInside}
use Rattle.hp_class.proofs.GroupsMade.{groups_are_sound, groups_keep_truth}
use Rattle.hp_class.proofs.Through.{words_agree}
use Rattle.hp_groups.specs.declared.group.Group.{Group}
use Rattle.hp_groups.specs.contracts.group.GroupLocalClass.TheImpl.{ghosts}
use Rattle.hp_chain.specs.Ground.{chain_of}
use Rattle.hp_chain.specs.Laws.{StructuresGiveValues}
use Rattle.hp_chain.specs.Order.{function_order}
use Rattle.hp_chain.proofs.Chained.{readable}
use Rattle.hp_groups.proofs.Held.{groups_hold}
use Rattle.hp_chain.proofs.StructuresClauses.{flat_clauses_hold, lines_are_true}
use Rattle.hp_chain.proofs.StructuresFilled.{extended}
use Rattle.hp_chain.proofs.StructuresWords.{functions_keep, given_again, given_count, given_inside}
use Rattle.hp_chain.proofs.ValuesDescended.{descended, flattened}

-- ---- sorts
-- a value in a universe of so many pointers
fits_sort : (size : ℕ) (s : Sort) (x : ℚ) → IsTrue (is_of_sort size s x) → IsOfSort s x
fits_sort size Num x h = tt
fits_sort size Idx x h = h
fits_sort size Ptr x h =
    let outer = and_parts (is_whole x && le_ℚ (whole (pos 0)) x) (lt_ℚ x (whole (pos size))) h in
    let inner = and_parts (is_whole x) (le_ℚ (whole (pos 0)) x) outer.0 in
    (inner.0, (tests_decide.le (whole (pos 0)) x).0 inner.1)

have_sorts : (size : ℕ) (ss : List Sort) (v : Values) → AreInside size ss v → HaveSorts ss v
have_sorts size ss v inside n s e = fits_sort size s (name_value v n) (inside n s e)

all_of_sorts : (ss : List Sort) (v : Values) → length v ≡ length ss → HaveSorts ss v → AreOfSorts ss v
all_of_sorts [] [] count have = tt
all_of_sorts [] (x ∷ xs) count have = absurd (cc)
all_of_sorts (s ∷ ss) [] count have = absurd (cc)
all_of_sorts (s ∷ ss) (x ∷ xs) count have = (have 0 s refl, all_of_sorts ss xs (let same : length xs ≡ length ss = cc in same) (λ n t e. have (suc n) t e))

-- ---- the law
pub structures_give_values : StructuresGiveValues
structures_give_values p g is s satisfied =
    let base = is.read.1 in
    let said = flattened p g is in
    let down = descended p g is in
    let made = groups_are_sound Group ghosts.grow_of ghosts.own ghosts.applied ghosts.clauses ghosts.plan_of ghosts.IsLent (chain_of p is.read) base g down in
    let names = g.names in
    let size = s.universe in
    let functions = functions_of s in
    let well = satisfied.well_formed in
    let constants = made.begins.constants ∙ said.constants in
    let signatures = made.begins.signatures ∙ said.signatures in
    let levels = (faultless_problems_are_well_sorted p is.able.sorted).levels in
    let keep = functions_keep s p well names constants signatures levels made.sound.made.functions in
    let last = extended size well.universe functions names made.sound.names keep (map entry_value s.consts) (given_count s p well names constants signatures)
    (given_inside s p well names constants signatures) in
    let v = last.0 in
    let env = environment (words names) v in
    let have = have_sorts size (sorts names) v last.1.inside in
    let agree = given_again s p well names constants signatures v last.1.begins in
    let values : AreValues g v env functions = record { agrees = words_agree (words names) v (words_are_distinct names made.sound.made); extends = last.1.extends } in
    let later : IsLater base g = record { begins = made.begins; made = made.sound.made } in
    let here : IsLater g g = record { begins = begins_same g; made = made.sound.made } in
    let flats = flat_clauses_hold size base g v env functions later values clauses_need_constants_alone clauses_hold_at_once p is.read.0.flats (constant s.consts) is.able said agree satisfied.holds in
    let lines = lines_are_true size base g v env functions later values clauses_need_constants_alone clauses_hold_at_once p is.read.0.flats (constant s.consts) is.able said agree satisfied.holds have in
    let groups = groups_hold base.names is.read.0 (readable p is.read.0 is.read.1 is.able is.limits is.taken is.plain) size env functions flats base.names.signatures (function_order p.decls) in (
      v,
      record {
        sorted = all_of_sorts (sorts names) v last.1.count have;
        lines = groups_keep_truth Group ghosts.grow_of ghosts.own ghosts.applied ghosts.clauses ghosts.plan_of ghosts.IsLent (chain_of p is.read) base g g size v env functions down here values have
            well.universe last.1.inside groups lines;
      },
    )
