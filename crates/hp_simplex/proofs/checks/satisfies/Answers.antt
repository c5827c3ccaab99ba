use Rattle.std.proofs.Common.{arith, ap, subst, ◌∙◌, Ok}
use Rattle.std.proofs.lemmas.List.{take_all}
use Rattle.hp_descent.specs.Values.{IsTrueAmong}
use Rattle.hp_descent.proofs.Lookup.{rising_names}
use Rattle.hp_simplex.specs.Checks.{MeetAll}
use Rattle.hp_simplex.proofs.Given.{more_are_true}
use Rattle.hp_simplex.proofs.checks.satisfies.Goals as goal

pub holds_among-requires-clause-values : goal.holds_among-requires-clause-values
holds_among-requires-clause-values c = rising_names c.args.lits.now c.args.values.now c.requires

pub loop-at-preserved : goal.loop-at-preserved
loop-at-preserved c =
    more_are_true c.args.values.now c.args.lits.now c.loop-at.at c.index-lits-at.result c.requires (omega (arith, c.loop-at-test.true)) c.loop-at.invariant
    (subst (IsTrueAmong c.args.values.now) c.index-lits-at.is (c.holds_among.ensures.yes (c.in-Ok-true.is ∙ ap Ok c.in-Ok-true.field-0-test)))

pub returns : goal.returns
returns c told = subst (MeetAll c.args.values.now) (take_all c.loop-at.at c.args.lits.now (omega (arith, c.loop-at-test.false))) c.loop-at.invariant
