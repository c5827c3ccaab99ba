-- Lines that are added, among them those of congruence.
use Rattle.std.proofs.Common.{◌∙◌, List, [], ◌∷◌, sym, ap}
use Rattle.hp_lit.specs.declared.literal.Lit.{Lit}
use Rattle.hp_lit.specs.declared.line.Line.{Line}
use Rattle.hp_lit.specs.declared.line.Origin.TheVariants.{Equal}
use Rattle.hp_defs.specs.declared.names.Ground.{Ground}
use Rattle.hp_defs.specs.Names.{definition_name}
use Rattle.hp_base.specs.Making.{computed}
use Rattle.hp_base.specs.Lines.{add_line, with_line}
use Rattle.hp_base.specs.Congruence.{Point, congruence_literals}
use Rattle.hp_base.specs.Laws.{AddedLinesAreLast, CongruenceIsAdded, LinesKeepSums}
use Rattle.hp_base.proofs.Growing.{came}
use Rattle.hp_base.proofs.ArgsSteps.{computed_gave, line_added}
use Rattle.hp_base.proofs.ArgsDefined.{sum_line_stays}

pub added_lines_are_last : AddedLinesAreLast
added_lines_are_last line done before after e = sym (line_added line done before after e)

pub lines_keep_sums : LinesKeepSums
lines_keep_sums line g has k d lin there is = sum_line_stays g.lines (line ∷ []) (definition_name g.names k) lin (has k d lin there is)

abbrev pair_line : Point → Point → List Lit → Line
pair_line p q lits = record { lits = lits; origin = Equal p.name q.name }

pub congruence_is_added : CongruenceIsAdded
congruence_is_added signature p q done before after e =
    let one = came (computed signature.item (congruence_literals signature p q) before) (λ lits. add_line (pair_line p q lits)) done after e in
    let c = computed_gave signature.item (congruence_literals signature p q) one.value before one.mid one.first in
    record {
      lits = one.value;
      says = c.value;
      same = added_lines_are_last (pair_line p q one.value) done one.mid after one.rest ∙ ap (λ (g : Ground). with_line g (pair_line p q one.value)) (sym c.ground);
    }
