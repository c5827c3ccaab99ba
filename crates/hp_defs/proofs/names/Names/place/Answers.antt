use Rattle.std.proofs.Common.{◌∙◌, ap, map, Some, None}
use Rattle.hp_defs.specs.Cells.{definition_cells}
use Rattle.hp_defs.specs.Names.{NameList}
use Rattle.hp_defs.proofs.Adding.{place_by_first}
use Rattle.hp_defs.proofs.names.Names.place.Goals as goal

pub returns-in-Some-clause-first : goal.returns-in-Some-clause-first
returns-in-Some-clause-first c = λ body e.
    let made = ap (λ (n : NameList). map definition_cells n.definitions) c.self.view_is in
    place_by_first c.args.cells.now c.self.inside.definition_index body c.args.self.now.definitions (c.self.invariant.by_body ∙ made) e (Some c.in-Some.at) c.in-Some.ensures.first

pub returns-in-None-clause-first : goal.returns-in-None-clause-first
returns-in-None-clause-first c = λ body e.
    let made = ap (λ (n : NameList). map definition_cells n.definitions) c.self.view_is in
    place_by_first c.args.cells.now c.self.inside.definition_index body c.args.self.now.definitions (c.self.invariant.by_body ∙ made) e None c.in-None.ensures.first
