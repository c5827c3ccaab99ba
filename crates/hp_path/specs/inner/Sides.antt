-- What is answered of the literals of one sort, in the numbers that literals have along the path.
use Rattle.std.specs.Prelude.{◌≡◌, ℕ, List, map}
use Rattle.std.specs.List.{All, filter}
use Rattle.hp_tree.specs.declared.problem.Sort.{Sort}
use Rattle.hp_lit.specs.declared.literal.Lit.{Lit}
use Rattle.hp_lit.specs.declared.literal.Lit.TheVariants.{Num}
use Rattle.hp_lit.specs.declared.literal.NumLit.{NumLit}
use Rattle.hp_lit.specs.Leaf.{IsValidNum}
use Rattle.hp_lit.specs.Cycle.{IsValidIdx}
use Rattle.hp_diff.specs.declared.answer.DiffAnswer.{DiffAnswer}
use Rattle.hp_diff.specs.declared.answer.DiffAnswer.TheVariants as diff
use Rattle.hp_diff.specs.Rows.{IsPoint}
use Rattle.hp_lit.specs.Pointers.{IsValidPtr}
use Rattle.hp_ptreq.specs.declared.answer.PtrAnswer.{PtrAnswer}
use Rattle.hp_ptreq.specs.declared.answer.PtrAnswer.TheVariants as ptr
use Rattle.hp_ptreq.specs.Rows.{ArePointers}
use Rattle.hp_descent.specs.Answers.{IsSolution}
use Rattle.hp_simplex.specs.declared.checks.Attempt.{Attempt}
use Rattle.hp_simplex.specs.declared.checks.Attempt.TheVariants as attempt
use Rattle.hp_path.specs.declared.components.Apart.{Apart}
use Rattle.hp_path.specs.declared.components.Apart.TheVariants as apart
use Rattle.hp_path.specs.declared.components.Pace.{Pace}
use Rattle.hp_path.specs.declared.components.Side.{Side}
use Rattle.hp_path.specs.declared.components.Side.TheVariants as side
use Rattle.hp_path.specs.declared.parting.Parts.{Parts}
use Rattle.hp_path.specs.Kinds.{idx_lits, ptr_lits}
use Rattle.hp_path.specs.Placed.{AreSolving}
use Rattle.hp_path.specs.Components.{AreGivenUp, IsGivenUp, has_label, label_at, places_with}

-- of the literals over pointers
abbrev pub DecidesPairs : List Lit → PtrAnswer → Type 0
DecidesPairs lits (ptr.Classes values) = ArePointers (ptr_lits lits) values
DecidesPairs lits (ptr.Conflict ne links) = IsValidPtr lits ne links

-- of the literals over whole numbers
abbrev pub DecidesRows : List Lit → DiffAnswer → Type 0
DecidesRows lits (diff.Point values) = IsPoint (idx_lits lits) values
DecidesRows lits (diff.Cycle steps) = IsValidIdx lits steps

-- of literals over fractions, by their decision at this pace
abbrev pub Tells : Pace → List NumLit → Attempt → Type 0
Tells p nums (attempt.Point values) = IsSolution nums values
Tells p nums (attempt.Farkas shares) = IsValidNum (map Num nums) shares
Tells p nums attempt.Unknown = AreGivenUp p nums

-- of the literals over fractions of one label
abbrev pub DecidesPart : List Sort → Pace → List Lit → Parts → List ℕ → ℕ → Side → Type 0
DecidesPart sorts p lits parts labels label (side.Point values) = AreSolving sorts (filter (has_label labels label) parts.nums) values
DecidesPart sorts p lits parts labels label (side.Farkas shares) = IsValidNum lits shares
DecidesPart sorts p lits parts labels label (side.Unknown component) =
    (component ≡ places_with labels label parts.nums parts.num_places) × AreGivenUp p (filter (has_label labels label) parts.nums)

-- values of names of one label
abbrev pub AreOfLabel : List ℕ → ℕ → Side → Type 0
AreOfLabel labels label (side.Point values) = All (λ nv. label_at labels nv.name.0 ≡ label) values
AreOfLabel labels label (side.Farkas shares) = Unit {0}
AreOfLabel labels label (side.Unknown component) = Unit {0}

-- of all literals over fractions
abbrev pub DecidesNums : List Sort → Pace → List Lit → List NumLit → List ℕ → Apart → Type 0
DecidesNums sorts p lits nums places (apart.Point values) = AreSolving sorts nums values
DecidesNums sorts p lits nums places (apart.Farkas shares) = IsValidNum lits shares
DecidesNums sorts p lits nums places (apart.Unknown components) = All (IsGivenUp p nums places) components
