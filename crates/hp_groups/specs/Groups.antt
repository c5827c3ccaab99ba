-- The groups of a problem: each function with its class, and the arrays of a level together.
use Rattle.std.specs.Prelude.{ℕ, List, [], ◌∷◌, ◌++◌, map, if◌then◌else◌, Option, Some, None, slice_get}
use Rattle.hp_lit.specs.Truth.{Values}
use Rattle.hp_defs.specs.declared.names.Signature.{Signature}
use Rattle.hp_defs.specs.Names.{NameList}
use Rattle.hp_model.specs.declared.structure.Table.{Table}
use Rattle.hp_base.specs.Making.{Maker, in_turn}
use Rattle.hp_norm.specs.declared.flat.FlatClause.{FlatClause}
use Rattle.hp_shapes.specs.declared.shape.Form.{Form}
use Rattle.hp_shapes.specs.Shapes.{form_of}
use Rattle.hp_class.specs.Frame.{is_place}
use Rattle.hp_class.specs.Group.{class_step}
use Rattle.hp_tables.specs.Classes.{step_tables}
use Rattle.hp_pairs.specs.declared.branch.Branch.{Branch}
use Rattle.hp_pairs.specs.Branches.{branches_of}
use Rattle.hp_points.specs.Made.{free_at, monotone_at}
use Rattle.hp_by_cases.specs.Made.{cases_at}
use Rattle.hp_array.specs.Made.{arrays_at}
use Rattle.hp_rules.specs.declared.ruled.Ruled.{Ruled}
use Rattle.hp_rules.specs.Rules.{is_array}
use Rattle.hp_ruled.specs.Laws.{array_clauses, case_of, clauses_of, own_arrays, place_words}
use Rattle.hp_groups.specs.declared.group.Group.{Group}
use Rattle.hp_groups.specs.declared.group.Group.TheVariants.{Free, Monotone, Cases, Arrays}
use Rattle.hp_groups.specs.contracts.group.GroupLocalClass.TheImpl.{ghosts}

-- flat clauses, and what they are by the rules
pub record Reading : Type 0 where
  pub flats : List FlatClause
  pub ruled : Ruled

-- ---- the group of a function
-- free without cases; the bounds of cases apply no function
abbrev pub by_branches : ℕ → Signature → Ruled → List Branch → Group
by_branches func s ruled [] = Free (free_at func s)
by_branches func s ruled (b ∷ bs) = Cases (cases_at func s (clauses_of func ruled.clauses) (map case_of (b ∷ bs)) [])

abbrev pub group_with : ℕ → Signature → FlatClause → Option Form → Group → Group
group_with func s c None other = other
group_with func s c (Some form) other = Monotone (monotone_at func s c form)

-- monotone by the first of these clauses with monotone shape over it, and else by its cases
abbrev pub group_among : ℕ → Signature → Ruled → List FlatClause → Group
group_among func s ruled [] = by_branches func s ruled (branches_of func ruled.branches)
group_among func s ruled (c ∷ cs) = group_with func s c (form_of s.name c.vars c.guard c.head) (group_among func s ruled cs)

abbrev pub group_from : ℕ → Signature → Reading → Group
group_from func s read = group_among func s read.ruled read.flats

-- the arrays of a level among functions in this order, with the clauses over them
abbrev pub array_group : Reading → List Signature → List ℕ → ℕ → Group
array_group read signatures order level =
    Arrays (arrays_at (own_arrays read.ruled signatures order level) (place_words signatures (own_arrays read.ruled signatures order level)) (array_clauses level read.ruled.arrays))

-- the group in which a function is
abbrev pub group_with_arrays : Reading → List Signature → List ℕ → ℕ → Signature → Group
group_with_arrays read signatures order func s = if is_array read.ruled func then array_group read signatures order s.level else group_from func s read

-- ---- all groups
-- the arrays of a level are a group once
abbrev pub arrays_once : Reading → List Signature → List ℕ → List ℕ → ℕ → List Group
arrays_once read signatures order levels level = if is_place levels level then [] else array_group read signatures order level ∷ []

abbrev pub with_level : List ℕ → ℕ → List ℕ
with_level levels level = if is_place levels level then levels else levels ++ level ∷ []

-- the group of the function at a place, where the arrays of these levels stand before
abbrev pub group_at : Reading → List Signature → List ℕ → List ℕ → ℕ → Option Signature → List Group
group_at read signatures order levels func None = []
group_at read signatures order levels func (Some s) = if is_array read.ruled func then arrays_once read signatures order levels s.level else group_from func s read ∷ []

abbrev pub levels_after : Reading → List ℕ → ℕ → Option Signature → List ℕ
levels_after read levels func None = levels
levels_after read levels func (Some s) = if is_array read.ruled func then with_level levels s.level else levels

-- those of functions at these places, one after the other
abbrev pub groups_from : Reading → List Signature → List ℕ → List ℕ → List ℕ → List Group
groups_from read signatures order levels [] = []
groups_from read signatures order levels (func ∷ funcs) =
    group_at read signatures order levels func (slice_get signatures func)
    ++ groups_from read signatures order (levels_after read levels func (slice_get signatures func)) funcs

-- each function alone, but the arrays of a level together, at the place of the first of them
abbrev pub groups_of : Reading → List Signature → List ℕ → List Group
groups_of read signatures order = groups_from read signatures order [] order

-- ---- tables
-- the table of a function: an array has a step function
abbrev pub function_tables : Reading → ℕ → Signature → ℕ → NameList → Values → List Table
function_tables read func s size names v = if is_array read.ruled func then step_tables func s.name names v else ghosts.tables_of (group_from func s read) size names v

-- what groups make, in their order
abbrev pub groups_made : List Group → Maker (Unit {0})
groups_made = in_turn (class_step ghosts.grow_of ghosts.own ghosts.plan_of)
