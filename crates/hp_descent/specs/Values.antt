-- The values of names that the point of a chain gives, and how the left side of a literal stands to its bound there.
use Rattle.std.specs.Prelude.{◌≡◌, ◌⊎◌, ℕ, suc, ℤ, pos, Bool, true, false, nat_eq, if◌then◌else◌, List, [], ◌∷◌, map, length, reverse, Result, Ok, Err}
use Rattle.std.specs.List.{All}
use Rattle.std.specs.declared.cmp.Ordering.{Ordering}
use Rattle.std.specs.declared.cmp.Ordering.TheVariants.{Less, Equal, Greater}
use Rattle.hp_math.specs.Rational.{ℚ, whole, ◌+ℚ◌, ◌*ℚ◌, ◌<ℚ◌}
use Rattle.hp_num.specs.declared.wide.Wide.{Wide}
use Rattle.hp_num.specs.Wide.{◌>>=◌, mul_of, add_of}
use Rattle.hp_lit.specs.declared.literal.Rel.{Rel}
use Rattle.hp_lit.specs.declared.literal.Rel.TheVariants.{Le, Lt, Eq}
use Rattle.hp_lit.specs.declared.literal.Part.{Part}
use Rattle.hp_lit.specs.declared.literal.NumLit.{NumLit}
use Rattle.hp_lit.specs.declared.valuation.NameValue.{NameValue}
use Rattle.hp_lit.specs.Truth.{Values, name_value, NumIsTrue}
use Rattle.hp_rows.specs.Rows.{IsChain, HoldsBelow}
use Rattle.hp_rows.specs.Points.{at_point}
use Rattle.hp_rows.specs.Exact.{exact_point}
use Rattle.hp_descent.specs.declared.answer.At.TheVariants as at
use Rattle.hp_descent.specs.declared.answer.Form.TheVariants as form
use Rattle.hp_descent.specs.declared.answer.RowStrain.{RowStrain}
use Rattle.hp_descent.specs.declared.answer.DescentErr.{DescentErr}
use Rattle.hp_descent.specs.declared.answer.DescentErr.TheVariants as failure
use Rattle.hp_descent.specs.LiteralRows.{rows_of, width_of}
use Rattle.hp_descent.specs.Answers.{IsChainSolution, IsStrained, IsCause}

-- the value of a name among these, 0 for any other name
abbrev pub value_in : List NameValue → ℕ → ℚ
value_in [] n = whole (pos 0)
value_in (nv ∷ nvs) n = if nat_eq nv.name.0 n then nv.value else value_in nvs n

-- the product of coefficient and value, added to a sum
abbrev pub add_product : ℚ → ℤ → ℚ → Result ℚ Wide
add_product sum coef value = mul_of (whole coef) value >>= λ y. add_of sum y

-- a sum to which the products of coefficient and value are added in the order of the parts
abbrev pub sum_at : (ℕ → ℚ) → ℚ → List Part → Result ℚ Wide
sum_at v sum [] = Ok sum
sum_at v sum (p ∷ ps) = add_product sum p.coef (v p.name.0) >>= λ a. sum_at v a ps

-- the exact sum of the products
abbrev pub exact_sum : (ℕ → ℚ) → List Part → ℚ
exact_sum v [] = whole (pos 0)
exact_sum v (p ∷ ps) = (whole p.coef *ℚ v p.name.0) +ℚ exact_sum v ps

-- a number stands to another one as the ordering says
abbrev pub Stands : Ordering → ℚ → ℚ → Type 0
Stands Less a b = a <ℚ b
Stands Equal a b = a ≡ b
Stands Greater a b = b <ℚ a

-- whether a literal of this relation is true where its left side stands so to its bound
abbrev pub is_met : Rel → Ordering → Bool
is_met Le Less = true
is_met Le Equal = true
is_met Le Greater = false
is_met Lt Less = true
is_met Lt Equal = false
is_met Lt Greater = false
is_met Eq Less = false
is_met Eq Equal = true
is_met Eq Greater = false

-- the names of these parts have these values, or 0 where they have none among them
abbrev pub GivesAmong : List NameValue → List Part → Values → Type 0
GivesAmong values parts v = All (λ p. name_value v p.name.0 ≡ value_in values p.name.0) parts

-- wherever the names of a literal have these values, it is true, or it is false
abbrev pub IsTrueAmong : List NameValue → NumLit → Type 0
IsTrueAmong values l = (v : Values) → GivesAmong values l.parts v → NumIsTrue v l

abbrev pub IsFalseAmong : List NameValue → NumLit → Type 0
IsFalseAmong values l = (v : Values) → GivesAmong values l.parts v → NumIsTrue v l → ⊥

-- rows of the literals, which count from 1, as a chain at whose exact point every row holds
pub record HoldsAtChain (lits : List NumLit) (chain : List ℕ) : Type 0 where
  pub rows : List ℕ
  pub numbers : chain ≡ map suc rows
  pub is_chain : IsChain (rows_of lits) (reverse rows)
  pub holds : HoldsBelow (rows_of lits) (length (rows_of lits)) (at_point (exact_point (width_of lits) (rows_of lits) (reverse rows)))

-- the values that the point of this chain gives, or why they are not computed
abbrev pub GivesValues : List NumLit → List ℕ → Result (List NameValue) DescentErr → Type 0
GivesValues lits chain (Ok values) = IsChainSolution lits chain values
GivesValues lits chain (Err e) = IsCause lits e

-- the sum of a literal's left side is strained at the values that the point of a chain gives, where every row holds
pub record IsSumStrained (lits : List NumLit) (other : NumLit) (s : RowStrain) : Type 0 where
  pub values : List NameValue
  pub solution : IsChainSolution lits s.chain values
  pub form : s.form ≡ form.Sum
  pub strained : sum_at (value_in values) (whole (pos 0)) other.parts ≡ Err s.wide

-- the same over a chain that was given, with the place that stands for the literal that was asked about
pub record IsAskedStrained (lits : List NumLit) (chain : List ℕ) (other : NumLit) (s : RowStrain) : Type 0 where
  pub numbers : s.chain ≡ chain
  pub at : s.at ≡ at.Literal 0 0
  pub sum : IsSumStrained lits other s

-- how a literal's left side stands to its bound at the values that the point of a chain gives
pub record IsCompared (lits : List NumLit) (chain : List ℕ) (other : NumLit) (o : Ordering) : Type 0 where
  pub values : List NameValue
  pub solution : IsChainSolution lits chain values
  pub stands : Stands o (exact_sum (value_in values) other.parts) (whole other.bound)

-- the comparison, or the first number that passes on the way to the values or in the sum; want of memory claims nothing
abbrev pub ComparesAt : List NumLit → List ℕ → NumLit → Result Ordering DescentErr → Type 0
ComparesAt lits chain other (Ok o) = IsCompared lits chain other o
ComparesAt lits chain other (Err (failure.Strain s)) = IsStrained lits s ⊎ IsAskedStrained lits chain other s
ComparesAt lits chain other (Err failure.Memory) = Unit {0}
