-- What the calls answer.
use Rattle.std.specs.Prelude.{◌≡◌, ℕ, List, ◌++◌, Result, Ok, Err}
use Rattle.hp_tree.specs.declared.problem.Decl.{Decl}
use Rattle.hp_tree.specs.declared.problem.Decl.TheVariants.{Const, Fun}
use Rattle.hp_tree.specs.declared.problem.Problem.{Problem}
use Rattle.hp_lit.specs.declared.literal.Lit.{Lit}
use Rattle.hp_lit.specs.declared.refusal.GroundErr.{GroundErr}
use Rattle.hp_lit.specs.declared.refusal.GroundErr.TheVariants as ground
use Rattle.hp_lit.specs.declared.refusal.Refusal.{Refusal}
use Rattle.hp_lit.specs.declared.refusal.Refusal.TheVariants as refused
use Rattle.hp_linear.specs.Steps.{Refusable}
use Rattle.hp_defs.specs.declared.names.Ground.{Ground}
use Rattle.hp_defs.specs.Names.{NameList, with_constant, with_signature}
use Rattle.hp_base.specs.Making.{Maker}
use Rattle.hp_norm.specs.declared.flat.Flat.{Flat}
use Rattle.hp_norm.specs.declared.flat.FlatClause.{FlatClause}
use Rattle.hp_norm.specs.Flat.{flat_of}

-- ---- literals
-- those of a list behind those that are there, or why they are refused
abbrev pub Added : Refusable (List Lit) → List Lit → List Lit → Result (Unit {0}) Refusal → Type 0
Added wanted old new (Ok done) = (more : List Lit) × (wanted ≡ Ok more) × (new ≡ old ++ more)
Added wanted old new (Err refused.Wide) = wanted ≡ Err refused.Wide
Added wanted old new (Err refused.Memory) = Unit {0}

-- ---- names
-- with what the declaration of this item declares
abbrev pub with_declared : ℕ → Decl → NameList → NameList
with_declared item (Const name sort) names = with_constant names (record { name = name; sort = sort })
with_declared item (Fun name args result level) names = with_signature names (record { name = name; args = args; result = result; level = level; item = item })

-- ---- flat clauses
-- those that are made behind those that are there, or the limit that is passed
abbrev pub MakesMore : Maker (List FlatClause) → Ground → Ground → List FlatClause → List FlatClause → Result (Unit {0}) GroundErr → Type 0
MakesMore m old new flats longer (Ok done) = (more : List FlatClause) × (m old ≡ Ok (more, new)) × (longer ≡ flats ++ more)
MakesMore m old new flats longer (Err (ground.Limit l)) = m old ≡ Err l
MakesMore m old new flats longer (Err ground.Memory) = Unit {0}

-- the flat clauses and the ground set that the problem has, or the first limit that it passes
abbrev pub FlatFound : Problem → Result Flat GroundErr → Type 0
FlatFound p (Ok flat) = flat_of p ≡ Ok (flat.clauses, flat.ground)
FlatFound p (Err (ground.Limit l)) = flat_of p ≡ Err l
FlatFound p (Err ground.Memory) = Unit {0}
