-- Truth of literals and lines at a valuation.
use Rattle.std.specs.Prelude.{◌≡◌, ℕ, List, [], ◌∷◌, ◌⊎◌, pos, Option, Some, None, slice_index_or, true, false, ◌↔◌}
use Rattle.hp_math.specs.Rational.{ℚ, whole, ◌+ℚ◌, ◌-ℚ◌, ◌*ℚ◌, ◌≤ℚ◌, ◌<ℚ◌}
use Rattle.hp_lit.specs.declared.literal.Name.{Name}
use Rattle.hp_lit.specs.declared.literal.Rel.{Rel}
use Rattle.hp_lit.specs.declared.literal.Rel.TheVariants.{Le, Lt, Eq}
use Rattle.hp_lit.specs.declared.literal.Part.{Part}
use Rattle.hp_lit.specs.declared.literal.NumLit.{NumLit}
use Rattle.hp_lit.specs.declared.literal.IdxLit.{IdxLit}
use Rattle.hp_lit.specs.declared.literal.PtrLit.{PtrLit}
use Rattle.hp_lit.specs.declared.literal.Lit.{Lit}
use Rattle.hp_lit.specs.declared.literal.Lit.TheVariants.{Num, Idx, Ptr}

-- the values of the names, in their order; a name past the end has 0
abbrev pub Values : Type 0
Values = List ℚ

abbrev pub name_value : Values → ℕ → ℚ
name_value v n = slice_index_or v n (whole (pos 0))

abbrev pub optional_value : Values → Option Name → ℚ
optional_value v None = whole (pos 0)
optional_value v (Some n) = name_value v n.0

abbrev pub parts_value : Values → List Part → ℚ
parts_value v [] = whole (pos 0)
parts_value v (p ∷ ps) = whole p.coef *ℚ name_value v p.name.0 +ℚ parts_value v ps

abbrev pub Compares : Rel → ℚ → ℚ → Type 0
Compares Le a b = a ≤ℚ b
Compares Lt a b = a <ℚ b
Compares Eq a b = a ≡ b

abbrev pub NumIsTrue : Values → NumLit → Type 0
NumIsTrue v l = Compares l.rel (parts_value v l.parts) (whole l.bound)

abbrev pub IdxIsTrue : Values → IdxLit → Type 0
IdxIsTrue v l = let d = optional_value v l.left -ℚ optional_value v l.right in ((l.exact ≡ false) × (d ≤ℚ whole l.bound)) ⊎ (d ≡ whole l.bound)

abbrev pub PtrIsTrue : Values → PtrLit → Type 0
PtrIsTrue v l = l.same ≡ true ↔ (optional_value v l.left ≡ optional_value v l.right)

abbrev pub IsTrueAt : Values → Lit → Type 0
IsTrueAt v (Num l) = NumIsTrue v l
IsTrueAt v (Idx l) = IdxIsTrue v l
IsTrueAt v (Ptr l) = PtrIsTrue v l

-- one of the literals is true
abbrev pub LineIsTrue : Values → List Lit → Type 0
LineIsTrue v [] = ⊥
LineIsTrue v (l ∷ ls) = IsTrueAt v l ⊎ LineIsTrue v ls
