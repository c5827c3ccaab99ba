use Rattle.std.proofs.Common.{List, Err, subst, sym}
use Rattle.std.specs.List.{All}
use Rattle.hp_norm.specs.declared.flat.FlatClause.{FlatClause}
use Rattle.hp_norm.specs.Flat.{IsFlat}
use Rattle.hp_rules.specs.Answers.{RuledAs}
use Rattle.hp_chain.specs.declared.answer.ChainErr.{ChainErr}
use Rattle.hp_chain.specs.Answers.{ClassifiedAs}
use Rattle.hp_chain.proofs.Chained.{by_rules, flats_are_flat, plain_constants}
use Rattle.hp_chain.proofs.chain.by_rules.Goals as goal

pub rules-requires-clause-constants : goal.rules-requires-clause-constants
rules-requires-clause-constants c = plain_constants c.args.p.now c.args.flat.clauses c.args.flat.ground c.requires.able c.requires.limits c.requires.named c.requires.plain

pub rules-requires-clause-flat : goal.rules-requires-clause-flat
rules-requires-clause-flat c =
    let flat = c.args.flat in
    subst (λ (cs : List FlatClause). All (IsFlat flat.ground.names) cs) (sym c.as_slice.ensures)
    (flats_are_flat c.args.p.now flat.clauses flat.ground c.requires.able c.requires.limits c.requires.named)

pub returns-in-Err : goal.returns-in-Err
returns-in-Err c =
    let flat = c.args.flat in
    let says = subst (λ (cs : List FlatClause). RuledAs flat.ground.names cs (Err c.in-Err.error)) c.as_slice.ensures c.in-Err.ensures in
    subst (λ (e : ChainErr). ClassifiedAs c.args.p.now (Err e)) (sym c.from.ensures) (by_rules c.args.p.now flat.clauses flat.ground c.requires.named c.in-Err.error says)
