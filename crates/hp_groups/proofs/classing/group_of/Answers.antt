use Rattle.std.proofs.Common.{◌≡◌, subst, sym}
use Rattle.std.specs.Prelude.{IfOk}
use Rattle.hp_groups.specs.declared.group.Group.{Group}
use Rattle.hp_groups.proofs.Grouping.{from_found, known_for}
use Rattle.hp_groups.proofs.classing.group_of.Goals as goal

pub monotone-requires-clause-known : goal.monotone-requires-clause-known
monotone-requires-clause-known c =
    known_for c.args.names.now c.args.ruled.now c.args.clauses.now c.args.func c.loop-i.i c.index-clauses-i.result c.own_form-form.result c.in-Some.form c.requires.ruled c.requires.known
    c.loop-i-test.true c.index-clauses-i.is c.in-Some.is c.own_form-form.ensures

pub returns-in-Some : goal.returns-in-Some
returns-in-Some c = record {
  made = λ s known. (
      let found = from_found c.args.names.now c.args.ruled.now c.args.clauses.now c.args.func c.loop-i.i c.index-clauses-i.result c.own_form-form.result c.in-Some.form c.loop-i-test.true
      c.index-clauses-i.is c.in-Some.is c.own_form-form.ensures c.loop-i.invariant.group s known in
      subst (λ (group : Group). IfOk c.monotone.result (λ made. made ≡ group)) (sym found) (c.monotone.ensures.made s known)
      );
}
