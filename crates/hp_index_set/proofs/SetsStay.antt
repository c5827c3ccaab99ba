-- The index set stays while own functions are applied along it.
use Rattle.std.proofs.Common.{◌≡◌, List, [], ◌∷◌, ◌++◌, refl, sym}
use Rattle.std.specs.List.{All, flat_map}
use Rattle.std.proofs.lemmas.List.Elements.{All-head, All-tail}
use Rattle.hp_lit.specs.declared.line.Arg.{Arg}
use Rattle.hp_defs.specs.Made.{IsMade}
use Rattle.hp_defs.specs.Names.{BeginsNames, NameList}
use Rattle.hp_norm.specs.declared.flat.FlatClause.{FlatClause}
use Rattle.hp_norm.specs.Flat.{IsFlat}
use Rattle.hp_class.proofs.Stays.{clause_scopes_widen, flat_stays}
use Rattle.hp_index_set.specs.IndexSet.{guard_bounds}
use Rattle.hp_index_set.specs.Laws.{IndexSetsStay}
use Rattle.hp_index_set.proofs.Kept.{kept_with_bounds}
use Rattle.hp_index_set.proofs.Stay.{guard_bounds_same}

-- the bounds of guards stay while definitions are added
pub bounds_stay : (clauses : List FlatClause) (before after : NameList) → IsMade before → IsMade after → BeginsNames before after → All (IsFlat before) clauses
    → flat_map (guard_bounds after) clauses ≡ flat_map (guard_bounds before) clauses
bounds_stay [] before after made after_made begins flat = refl
bounds_stay (c ∷ clauses) before after made after_made begins flat =
    let is_flat = All-head (IsFlat before) c clauses flat in
    let first = guard_bounds_same before after c made after_made begins is_flat (flat_stays before after c begins after_made is_flat) (clause_scopes_widen c.vars before after begins after_made) in
    let rest = bounds_stay clauses before after made after_made begins (All-tail (IsFlat before) c clauses flat) in
    λ i. sym first i ++ rest i

pub index_sets_stay : IndexSetsStay
index_sets_stay own clauses before after made after_made begins flat front =
    kept_with_bounds own clauses before after begins (bounds_stay clauses before after made after_made begins flat) front
