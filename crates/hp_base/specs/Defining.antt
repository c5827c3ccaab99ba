-- Definitions, found or made, and the lines that say what sums are.
use Rattle.std.specs.Prelude.{ℕ, List, Option, Some, None, Ok, Err, nat_lt, if◌then◌else◌}
use Rattle.hp_tree.specs.Limits.{most_names}
use Rattle.hp_tree.specs.declared.problem.Cmp.TheVariants.{Eq}
use Rattle.hp_lit.specs.declared.literal.Name.{Name}
use Rattle.hp_lit.specs.declared.literal.Lit.{Lit}
use Rattle.hp_lit.specs.declared.line.Arg.{Arg}
use Rattle.hp_lit.specs.declared.line.Lin.{Lin}
use Rattle.hp_lit.specs.declared.line.Body.{Body}
use Rattle.hp_lit.specs.declared.line.Body.TheVariants.{Apply, Sum}
use Rattle.hp_lit.specs.declared.line.Origin.TheVariants.{SumOf}
use Rattle.hp_lit.specs.Limited.{many_names}
use Rattle.hp_linear.specs.Steps.{Refusable}
use Rattle.hp_linear.specs.Lins.{named_lin}
use Rattle.hp_linear.specs.Literals.{lin_literals}
use Rattle.hp_defs.specs.Names.{count, definition_name, next, with_definition}
use Rattle.hp_defs.specs.Same.{place}
use Rattle.hp_base.specs.Making.{Maker, ◌then◌, computed, keep}
use Rattle.hp_base.specs.Lines.{add_line}

-- a new definition, where there may be one more name
abbrev pub made : Body → Maker Name
made body g = if nat_lt (count g.names) most_names then Ok (next g.names, record { names = with_definition g.names body; lines = g.lines }) else Err many_names

-- ---- applications
abbrev pub found_or_made : Body → Option ℕ → Maker Name
found_or_made body None g = made body g
found_or_made body (Some k) g = Ok (definition_name g.names k, g)

-- the definition of a function at arguments
abbrev pub definition_of : ℕ → List Arg → Maker Name
definition_of func args g = found_or_made (Apply func args) (place (Apply func args) g.names.definitions) g

-- ---- sums
-- that a name is a sum
abbrev pub sum_literals : Name → Lin → Refusable (List Lit)
sum_literals name lin = lin_literals Eq (named_lin name) lin

abbrev pub add_sum_line : ℕ → Lin → Name → Maker (Unit {0})
add_sum_line item lin name g = computed item (sum_literals name lin) g then λ lits. add_line (record { lits = lits; origin = SumOf name })

-- a new sum has its line at once
abbrev pub made_sum : ℕ → Lin → Maker Name
made_sum item lin g = made (Sum lin) g then λ name. λ mid. add_sum_line item lin name mid then λ done. keep name

abbrev pub found_or_made_sum : ℕ → Lin → Option ℕ → Maker Name
found_or_made_sum item lin None g = made_sum item lin g
found_or_made_sum item lin (Some k) g = Ok (definition_name g.names k, g)

-- the definition of a sum
abbrev pub sum_of : ℕ → Lin → Maker Name
sum_of item lin g = found_or_made_sum item lin (place (Sum lin) g.names.definitions) g
