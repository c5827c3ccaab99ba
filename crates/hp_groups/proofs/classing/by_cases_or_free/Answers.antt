use Rattle.std.proofs.Common.{◌∙◌, ap}
use Rattle.hp_ruled.specs.Laws.{cases_of, clauses_of}
use Rattle.hp_groups.proofs.Grouping.{by_these}
use Rattle.hp_groups.proofs.classing.by_cases_or_free.Goals as goal

pub new-requires-else-len-eq0-clause-by_cases : goal.new-requires-else-len-eq0-clause-by_cases
new-requires-else-len-eq0-clause-by_cases c =
    by_these c.args.names.now c.args.clauses.now c.args.ruled.now c.args.func c.in_ok-own.own c.in_ok-cases.cases c.new-lower.result c.requires.ruled c.requires.unmet
    (c.in_ok-own.ensures ∙ ap (clauses_of c.args.func) c.as_slice-else-len-eq0.ensures) (c.in_ok-cases.ensures ∙ ap (cases_of c.args.func) c.as_slice.ensures) c.new-lower.ensures
    (λ none. c.if-len-eq0.false (c.len.ensures ∙ none))
