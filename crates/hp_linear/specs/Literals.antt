-- The literals that compare two linear forms, and those of an atom over linear terms.
use Rattle.std.specs.Prelude.{Bool, true, false, List, [], ◌∷◌, neg_ℤ, Ok}
use Rattle.hp_num.specs.Wide.{◌>>=◌}
use Rattle.hp_tree.specs.declared.problem.Cmp.{Cmp}
use Rattle.hp_tree.specs.declared.problem.Cmp.TheVariants.{Le, Lt, Eq, Ne, Ge, Gt}
use Rattle.hp_tree.specs.declared.problem.Atom.{Atom}
use Rattle.hp_tree.specs.Sides.{signed}
use Rattle.hp_tree.specs.Value.{Word}
use Rattle.hp_lit.specs.declared.literal.Rel.{Rel}
use Rattle.hp_lit.specs.declared.literal.Rel.TheVariants as rel
use Rattle.hp_lit.specs.declared.literal.Lit.{Lit}
use Rattle.hp_lit.specs.declared.literal.Lit.TheVariants.{Num}
use Rattle.hp_lit.specs.declared.line.Lin.{Lin}
use Rattle.hp_linear.specs.declared.wholes.Row.{Row}
use Rattle.hp_linear.specs.Steps.{Refusable}
use Rattle.hp_linear.specs.Lins.{lin_of, minus_lin}
use Rattle.hp_linear.specs.Wholes.{row_of}

-- ---- forms
-- a row in a relation to 0: the constant goes to the right with its sign changed
abbrev pub row_literal : Rel → Row → Lit
row_literal r w = Num (record { rel = r; parts = w.parts; bound = neg_ℤ w.constant })

-- left minus right, in a relation to 0
abbrev pub compared : Rel → Lin → Lin → Refusable Lit
compared r left right = minus_lin left right >>= λ f. row_of f >>= λ w. Ok (row_literal r w)

abbrev pub one_literal : Rel → Lin → Lin → Refusable (List Lit)
one_literal r left right = compared r left right >>= λ l. Ok (l ∷ [])

-- each of the two is less than the other
abbrev pub apart_literals : Lin → Lin → Refusable (List Lit)
apart_literals left right = compared rel.Lt left right >>= λ l. compared rel.Lt right left >>= λ m. Ok (l ∷ m ∷ [])

-- the literals of which one is true where two forms stand in a relation
abbrev pub lin_literals : Cmp → Lin → Lin → Refusable (List Lit)
lin_literals Le left right = one_literal rel.Le left right
lin_literals Lt left right = one_literal rel.Lt left right
lin_literals Eq left right = one_literal rel.Eq left right
lin_literals Ne left right = apart_literals left right
lin_literals Ge left right = one_literal rel.Le right left
lin_literals Gt left right = one_literal rel.Lt right left

-- ---- atoms
-- the literals over these words of an atom that is to be true, or, of the other sign, false
abbrev pub literals : List Word → Bool → Atom → Refusable (List Lit)
literals words positive atom =
    lin_of words atom.left >>= λ left.
    lin_of words atom.right >>= λ right.
    lin_literals (signed positive atom.cmp) left right
