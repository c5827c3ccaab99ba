use Rattle.std.proofs.Common.{sym, subst}
use Rattle.std.proofs.lemmas.List.Elements.{All-get_or}
use Rattle.hp_terms.specs.Weight.{IsLightClause}
use Rattle.hp_base.proofs.Each.{item_next}
use Rattle.hp_norm.proofs.FlatSteps.{flattened_err, flattened_more, flattened_start}
use Rattle.hp_norm.proofs.flattening.clauses_made.Goals as goal

pub loop-at-init : goal.loop-at-init
loop-at-init c = flattened_start c.args.before c.args.clauses.now c.new-flats.result c.args.ground.now c.new-flats.ensures

pub add_clause-requires : goal.add_clause-requires
add_clause-requires c =
    subst IsLightClause (sym c.index-clauses-at.is) (All-get_or IsLightClause c.args.clauses.now c.loop-at.at c.index-clauses-at.result c.loop-at-test.true c.requires.light)

pub returns-in_err-add_clause-clause-made : goal.returns-in_err-add_clause-clause-made
returns-in_err-add_clause-clause-made c =
    flattened_err c.args.before c.args.clauses.now c.loop-at.at c.index-clauses-at.result (item_next _ _ _ c.loop-at-test.true c.index-clauses-at.is) _ _ _ c.loop-at.invariant _ c.add_clause.new.flats _ _
    c.in_err-add_clause.ensures.made c.from_residual.ensures.1

pub loop-at-preserved : goal.loop-at-preserved
loop-at-preserved c =
    flattened_more c.args.before c.args.clauses.now c.loop-at.at c.index-clauses-at.result (item_next _ _ _ c.loop-at-test.true c.index-clauses-at.is) _ _ _ c.loop-at.invariant _ _ _
    c.in_ok-add_clause.ensures.made c.in_ok-add_clause.ensures.kept
