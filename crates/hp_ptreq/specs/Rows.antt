-- Rows: equalities and inequalities of pointers, and values that make them true.
use Rattle.std.specs.Prelude.{◌≡◌, ℕ, List, map}
use Rattle.std.specs.List.{All, Contains}
use Rattle.std.specs.List.Sorted.{IsStrictlyIncreasing}
use Rattle.hp_tree.specs.declared.problem.Sort.TheVariants as sort
use Rattle.hp_lit.specs.declared.literal.PtrLit.{PtrLit}
use Rattle.hp_lit.specs.declared.literal.Lit.TheVariants.{Ptr}
use Rattle.hp_lit.specs.declared.valuation.NameValue.{NameValue}
use Rattle.hp_lit.specs.Sorts.{IsOfSort}
use Rattle.hp_lit.specs.Truth.{Values, name_value, PtrIsTrue}
use Rattle.hp_lit.specs.Pointers.{IsValidPtr}
use Rattle.hp_nodes.specs.Nodes.{mentioned_by, names_of}
use Rattle.hp_ptreq.specs.declared.answer.PtrAnswer.{PtrAnswer}
use Rattle.hp_ptreq.specs.declared.answer.PtrAnswer.TheVariants.{Classes, Conflict}

-- the names that the rows mention, each as often as it stands in them
abbrev pub mentioned : List PtrLit → List ℕ
mentioned rows = mentioned_by (λ row. row.left) (λ row. row.right) rows

-- Each name of the rows has one value, no other name has one, the values are whole numbers from 0, and every row is true
-- wherever the names have these values and null is 0.
pub record ArePointers (rows : List PtrLit) (values : List NameValue) : Type 0 where
  pub named : All (Contains (names_of values)) (mentioned rows)
  pub only : All (Contains (mentioned rows)) (names_of values)
  pub rising : IsStrictlyIncreasing (names_of values)
  pub sort : All (λ nv. IsOfSort sort.Ptr nv.value) values
  pub keeps : (v : Values) → All (λ nv. name_value v nv.name.0 ≡ nv.value) values → All (PtrIsTrue v) rows

-- values of the names that make all rows true, or an inequality whose sides are joined by equalities
abbrev pub IsPtrAnswer : List PtrLit → PtrAnswer → Type 0
IsPtrAnswer rows (Classes values) = ArePointers rows values
IsPtrAnswer rows (Conflict ne path) = IsValidPtr (map Ptr rows) ne path
