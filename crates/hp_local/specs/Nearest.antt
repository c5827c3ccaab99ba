-- The nearest of a list of numbers: the last one at or below a number, else the least.
use Rattle.std.specs.Prelude.{◌≡◌, List, map, IsTrue, Bool, true, false, pos}
use Rattle.std.specs.List.{Contains}
use Rattle.hp_math.specs.Rational.{ℚ, ◌≤ℚ◌, ◌+ℚ◌, ◌-ℚ◌, whole, is_whole}
use Rattle.hp_math.specs.Steps.{Point, steps}
use Rattle.hp_tree.specs.declared.problem.Cmp.{Cmp}
use Rattle.hp_tree.specs.declared.problem.Cmp.TheVariants.{Le, Lt, Eq, Ne, Ge, Gt}
use Rattle.hp_tree.specs.Value.{compares}
use Rattle.hp_local.specs.Ordered.{in_order, HasAt}

-- a number as a point of its own
abbrev pub itself : ℚ → Point
itself x = record { at = x; value = x }

abbrev pub nearest : List ℚ → ℚ → ℚ
nearest numbers x = steps (in_order (map itself numbers)) x

-- ---- the map to the nearest number keeps the order and each of the numbers
abbrev pub NearestKeepsOrder : Type 0
NearestKeepsOrder = (numbers : List ℚ) (x y : ℚ) → x ≤ℚ y → nearest numbers x ≤ℚ nearest numbers y

abbrev pub NearestKeepsNumbers : Type 0
NearestKeepsNumbers = (numbers : List ℚ) (x : ℚ) → Contains numbers x → nearest numbers x ≡ x

-- a step function through points at these numbers has at each number its value at the nearest one
abbrev pub StepsAreNearest : Type 0
StepsAreNearest = (numbers : List ℚ) (points : List Point) → ((i : ℚ) → Contains numbers i → HasAt points i) → ((p : Point) → Contains points p → Contains numbers p.at)
    → (x : ℚ) → steps (in_order points) x ≡ steps (in_order points) (nearest numbers x)

-- ---- guards over indexes
-- the index that a guard puts among the numbers: for `x < c` the one below c, for `x > c` the one above
abbrev pub bound_of : Cmp → ℚ → ℚ
bound_of Le c = c
bound_of Lt c = c -ℚ whole (pos 1)
bound_of Eq c = c
bound_of Ne c = c
bound_of Ge c = c
bound_of Gt c = c +ℚ whole (pos 1)

abbrev pub is_allowed : Cmp → Bool
is_allowed Le = true
is_allowed Lt = true
is_allowed Eq = true
is_allowed Ne = false
is_allowed Ge = true
is_allowed Gt = true

-- a guard between an index and a bound stays true at the nearest number
abbrev pub GuardsAreKept : Type 0
GuardsAreKept = (numbers : List ℚ) (cmp : Cmp) (x c : ℚ) → IsTrue (is_allowed cmp) → IsTrue (is_whole x) → IsTrue (is_whole c) → Contains numbers (bound_of cmp c)
    → IsTrue (compares cmp x c) → IsTrue (compares cmp (nearest numbers x) c)

-- and so does a guard between two indexes
abbrev pub is_loose : Cmp → Bool
is_loose Le = true
is_loose Lt = false
is_loose Eq = true
is_loose Ne = false
is_loose Ge = true
is_loose Gt = false

abbrev pub OrdersAreKept : Type 0
OrdersAreKept = (numbers : List ℚ) (cmp : Cmp) (x y : ℚ) → IsTrue (is_loose cmp) → IsTrue (compares cmp x y) → IsTrue (compares cmp (nearest numbers x) (nearest numbers y))
