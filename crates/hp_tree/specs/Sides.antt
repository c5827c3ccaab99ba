-- The relations of atoms that are to be true or false.
use Rattle.std.specs.Prelude.{Bool, true, false}
use Rattle.hp_tree.specs.declared.problem.Cmp.{Cmp}
use Rattle.hp_tree.specs.declared.problem.Cmp.TheVariants.{Le, Lt, Eq, Ne, Ge, Gt}

-- the relation that holds where this one does not
abbrev pub negated : Cmp → Cmp
negated Le = Gt
negated Lt = Ge
negated Eq = Ne
negated Ne = Eq
negated Ge = Lt
negated Gt = Le

-- the relation that holds where an atom is true, or, of the other sign, false
abbrev pub signed : Bool → Cmp → Cmp
signed true cmp = cmp
signed false cmp = negated cmp
