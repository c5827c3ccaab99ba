-- The completion of a monotone function: the step function through its points.
use Rattle.std.specs.Prelude.{◌≡◌, List, [], ◌∷◌, Bool, true, false, ◌||◌, not, if◌then◌else◌}
use Rattle.std.specs.Str.{bytes_eq}
use Rattle.std.specs.List.{Contains}
use Rattle.hp_math.specs.Rational.{ℚ, le_ℚ}
use Rattle.hp_tree.specs.declared.term.Term.{Term, Name, Apply}
use Rattle.hp_tree.specs.declared.problem.Atom.{Atom}
use Rattle.hp_tree.specs.declared.problem.Cmp.TheVariants.{Le, Ge}
use Rattle.hp_tree.specs.declared.problem.Sort.TheVariants.{Num}
use Rattle.hp_tree.specs.Universal.{Universal, clause_at}
use Rattle.hp_tree.specs.Value.{Word, Environment, Functions}
use Rattle.hp_local.specs.Frame.{Fact, AreCongruent, Frame, IsTrueWithPoints}
use Rattle.hp_local.specs.Law.{Group, Completes}
use Rattle.hp_local.specs.Ordered.{first_argument, fact_points, in_order, step_table}
use Rattle.hp_local.specs.Rows.{own_facts, HaveArguments}

-- ---- clauses of monotone shape
-- `s <= t`, or `t >= s` where it is turned
abbrev pub at_most : Bool → Term → Term → Atom
at_most false s t = record { left = s; cmp = Le; right = t }
at_most true s t = record { left = t; cmp = Ge; right = s }

-- the two variables in their order; whether the guard calls the first one the lower; whether the function rises; and whether
-- the guard and the head are turned
pub record Shape : Type 0 where
  pub first : Word
  pub second : Word
  pub first_lower : Bool
  pub rising : Bool
  pub guard_turned : Bool
  pub head_turned : Bool

abbrev pub lower_term : Shape → Term
lower_term shape = if shape.first_lower then Name shape.first else Name shape.second

abbrev pub upper_term : Shape → Term
upper_term shape = if shape.first_lower then Name shape.second else Name shape.first

abbrev pub shape_head : Word → Shape → Atom
shape_head func shape =
    let lower = Apply func (lower_term shape ∷ []) in
    let upper = Apply func (upper_term shape ∷ []) in
    at_most shape.head_turned (if shape.rising then lower else upper) (if shape.rising then upper else lower)

abbrev pub shape_clause : Word → Shape → Universal
shape_clause func shape =
    record {
      vars = record { name = shape.first; sort = Num } ∷ record { name = shape.second; sort = Num } ∷ [];
      guard = at_most shape.guard_turned (lower_term shape) (upper_term shape) ∷ [];
      head = shape_head func shape ∷ [];
    }

-- the second number is at least the first one where the function rises, and at most that where it falls
abbrev pub goes : Bool → ℚ → ℚ → Bool
goes rising a b = le_ℚ (if rising then a else b) (if rising then b else a)

-- what such a clause says of two numbers
abbrev pub ShapesSay : Type 0
ShapesSay = (func : Word) (shape : Shape) → bytes_eq shape.first shape.second ≡ false → (names : Environment) (functions : Functions) (a b : ℚ)
    → let lower = if shape.first_lower then a else b in
    let upper = if shape.first_lower then b else a in
    clause_at names functions (shape_clause func shape) (a ∷ b ∷ []) ≡ (not (le_ℚ lower upper) || goes shape.rising (functions func (lower ∷ [])) (functions func (upper ∷ [])))

-- ---- the completion
abbrev pub step_group : Frame → Word → List Universal → Group
step_group frame func clauses = record { own = bytes_eq func; clauses = clauses; tables = step_table func (in_order (fact_points (own_facts func frame.facts))) ∷ [] }

-- the clause is true at each two points with different arguments
abbrev pub PairsAreTrue : Frame → Word → Universal → Type 0
PairsAreTrue frame func u = (k l : Fact) → Contains (own_facts func frame.facts) k → Contains (own_facts func frame.facts) l → (k.args ≡ l.args → ⊥)
    → IsTrueWithPoints frame (bytes_eq func) u (first_argument k.args ∷ first_argument l.args ∷ [])

abbrev pub MonotoneCompletes : Type 0
MonotoneCompletes = (frame : Frame) (func : Word) (shape : Shape) → bytes_eq shape.first shape.second ≡ false → HaveArguments 1 (own_facts func frame.facts)
    → AreCongruent frame.facts → PairsAreTrue frame func (shape_clause func shape) → Completes frame (λ word. false) (step_group frame func (shape_clause func shape ∷ []))
