-- Places whose choices name literals, and honest paths.
use Rattle.std.specs.Prelude.{◌≤◌, List, [], ◌∷◌, ◌++◌, length}
use Rattle.hp_lit.specs.declared.line.Line.{Line}
use Rattle.hp_lit.specs.declared.proof.Choice.{Choice}
use Rattle.hp_tree.specs.declared.problem.Sort.{Sort}
use Rattle.hp_leaf.specs.Tree.{lits_at, IsLine, Place, IsOpenAt}

abbrev pub InRange : List Line → Choice → Type 0
InRange lines c = (1 ≤ c.lit) × (c.lit ≤ length (lits_at lines c.line))

abbrev pub AreIn : List Line → Place → Type 0
AreIn lines [] = Unit {0}
AreIn lines (c ∷ cs) = InRange lines c × AreIn lines cs

-- before each choice some values make all choices so far true and the line of the choice false
abbrev pub HonestFrom : List Sort → List Line → Place → Place → Type 0
HonestFrom sorts lines before [] = Unit {0}
HonestFrom sorts lines before (c ∷ cs) = IsLine lines c.line × InRange lines c × IsOpenAt sorts lines before c.line × HonestFrom sorts lines (before ++ c ∷ []) cs

abbrev pub IsHonestPath : List Sort → List Line → Place → Type 0
IsHonestPath sorts lines place = HonestFrom sorts lines [] place
