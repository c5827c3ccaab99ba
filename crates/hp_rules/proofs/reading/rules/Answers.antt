use Rattle.std.proofs.Common.{◌∙◌}
use Rattle.hp_rules.proofs.ClausesRead.{behind_end, behind_more, behind_refused, behind_start}
use Rattle.hp_rules.proofs.reading.rules.Goals as goal

pub loop-clause-init : goal.loop-clause-init
loop-clause-init c = record { behind = behind_start c.args.names.now c.args.clauses.now _ (λ i. record { owned = c.new.ensures i; branches = c.new-2.ensures i; clauses = c.new-3.ensures i; arrays = c.new-4.ensures i }) }

pub loop-clause-preserved : goal.loop-clause-preserved
loop-clause-preserved c = record {
  behind = behind_more c.args.names.now c.args.clauses.now c.loop-clause.clause-index c.loop-clause.ruled c.read_clause.new.ruled c.clause-item.result c.as_slice.result.now c.loop-clause-test.true
      c.clause-item.is (c.as_slice.ensures ∙ c.in_ok-monotone.ensures) c.loop-clause.invariant.behind c.in_ok-read_clause.ensures;
}

pub returns-in_err-read_clause : goal.returns-in_err-read_clause
returns-in_err-read_clause c =
    behind_refused c.args.names.now c.args.clauses.now c.loop-clause.clause-index c.loop-clause.ruled c.read_clause.new.ruled c.clause-item.result c.as_slice.result.now c.loop-clause-test.true
    c.clause-item.is (c.as_slice.ensures ∙ c.in_ok-monotone.ensures) c.loop-clause.invariant.behind c.in_err-read_clause.field-0.0 _ c.in_err-read_clause.ensures
    c.from_residual-in_err-read_clause.ensures.1

pub returns : goal.returns
returns c = behind_end c.args.names.now c.args.clauses.now c.loop-clause.clause-index c.loop-clause.ruled c.loop-clause-test.false c.loop-clause.invariant.behind
