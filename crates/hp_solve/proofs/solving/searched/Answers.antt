use Rattle.std.proofs.Common.{◌∙◌, List, length, ap, subst, sym, arith}
use Rattle.std.specs.List.{All}
use Rattle.hp_tree.specs.declared.problem.Sort.{Sort}
use Rattle.hp_lit.specs.declared.line.Line.{Line}
use Rattle.hp_lit.specs.Fit.{IsFit}
use Rattle.hp_defs.specs.Names.{sorts}
use Rattle.hp_chain.proofs.FitGround.{ground_sets_are_fit}
use Rattle.hp_solve.proofs.solving.searched.Goals as goal

pub search-requires-clause-lines : goal.search-requires-clause-lines
search-requires-clause-lines c =
    omega (arith, ap length c.as_slice-in-Ok.ensures, (ground_sets_are_fit c.args.p.now c.args.g.now c.requires.chain.ground).few)

pub search-requires-clause-fit : goal.search-requires-clause-fit
search-requires-clause-fit c =
    let fit = (ground_sets_are_fit c.args.p.now c.args.g.now c.requires.chain.ground).lines in
    subst (λ (ss : List Sort). All (λ (line : Line). All (IsFit ss) line.lits) c.as_slice-in-Ok.result.now) (sym (c.as_slice.ensures ∙ c.in-Ok.ensures))
    (subst (λ (ls : List Line). All (λ (line : Line). All (IsFit (sorts c.args.g.now.names)) line.lits) ls) (sym c.as_slice-in-Ok.ensures) fit)

pub returns : goal.returns
returns c = c.unfinished.ensures c.args.most
