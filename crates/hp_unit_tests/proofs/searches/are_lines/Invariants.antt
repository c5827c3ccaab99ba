use Rattle.std.proofs.Common.{take}
use Rattle.std.specs.List.{All}
use Rattle.hp_lit.specs.declared.line.Line.{Line}
use Rattle.hp_search.specs.Lines.{AreFit}
use Rattle.hp_unit_tests.proofs.searches.are_lines.Given as goal

abbrev pub invariant-loop-line : goal.invariant-loop-line
invariant-loop-line l = All (λ (line : Line). AreFit l.sorts line.lits) (take l.line-index l.lines)
