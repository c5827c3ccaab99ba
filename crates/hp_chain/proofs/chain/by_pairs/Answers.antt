use Rattle.std.proofs.Common.{◌∙◌, List, Err, length, ap, arith, subst, sym}
use Rattle.std.specs.List.{All}
use Rattle.hp_defs.specs.Names.{count}
use Rattle.hp_pairs.specs.declared.branch.Branch.{Branch}
use Rattle.hp_pairs.specs.Answers.{BranchIsFit, IsUnmet, Separates}
use Rattle.hp_pairs.specs.Branches.{Pair, pairs_from}
use Rattle.hp_rules.specs.Rules.{rule_words}
use Rattle.hp_chain.specs.declared.answer.ChainErr.{ChainErr}
use Rattle.hp_chain.specs.Answers.{ClassifiedAs}
use Rattle.hp_chain.specs.Order.{levels_of}
use Rattle.hp_chain.proofs.Chained.{by_pairs, functions_many, rows_fit}
use Rattle.hp_chain.proofs.Levels.{levels_few}
use Rattle.hp_chain.proofs.chain.by_pairs.Goals as goal

pub overflow_cast-functions : goal.overflow_cast-functions
overflow_cast-functions c =
    let many = c.len-functions.ensures ∙ ap length (c.in_ok-levels.ensures ∙ ap (λ ds. levels_of ds) c.as_slice.ensures) in
    omega (arith, many, levels_few c.args.p.now.decls, c.requires.items)

pub separate-requires : goal.separate-requires
separate-requires c = record {
  fit = subst (λ (bs : List Branch). All BranchIsFit bs) (sym c.as_slice-2.ensures)
      (rows_fit c.args.p.now c.args.flat.clauses c.args.flat.ground c.args.ruled.now c.requires.able c.requires.limits c.requires.named c.requires.plain c.requires.ruled);
}

pub returns-in-Err : goal.returns-in-Err
returns-in-Err c =
    let flat = c.args.flat in
    let many = c.len-functions.ensures ∙ ap length (c.in_ok-levels.ensures ∙ ap (λ ds. levels_of ds) c.as_slice.ensures)
    ∙ functions_many c.args.p.now flat.clauses flat.ground c.requires.able c.requires.limits c.requires.named in
    let says = subst (λ (ps : List Pair). Separates (rule_words flat.ground.names) (count flat.ground.names) ps (Err c.in-Err.error)) (λ i. pairs_from (c.as_slice-2.ensures i) 0 (many i)) c.in-Err.ensures in
    subst (λ (e : ChainErr). ClassifiedAs c.args.p.now (Err e)) (sym c.from.ensures) (by_pairs c.args.p.now flat.clauses flat.ground c.requires.named c.args.ruled.now c.requires.ruled c.in-Err.error says)

pub groups_in_turn-requires-clause-taken : goal.groups_in_turn-requires-clause-taken
groups_in_turn-requires-clause-taken c =
    let flat = c.args.flat in
    let many = c.len-functions.ensures ∙ ap length (c.in_ok-levels.ensures ∙ ap (λ ds. levels_of ds) c.as_slice.ensures)
    ∙ functions_many c.args.p.now flat.clauses flat.ground c.requires.able c.requires.limits c.requires.named in
    record {
      named = c.requires.named;
      rules_give = c.requires.ruled;
      apart = subst (λ (ps : List Pair). All IsUnmet ps) (λ i. pairs_from (c.as_slice-2.ensures i) 0 (many i)) c.in-Ok.ensures;
    }

pub returns-in_ok-groups-in-Ok : goal.returns-in_ok-groups-in-Ok
returns-in_ok-groups-in-Ok c =
    let flat = c.args.flat in
    let many = c.len-functions.ensures ∙ ap length (c.in_ok-levels.ensures ∙ ap (λ ds. levels_of ds) c.as_slice.ensures)
    ∙ functions_many c.args.p.now flat.clauses flat.ground c.requires.able c.requires.limits c.requires.named in
    record {
      read = record { flats = flat.clauses; ruled = c.args.ruled.now };
      taken = record {
        named = c.requires.named;
        rules_give = c.requires.ruled;
        apart = subst (λ (ps : List Pair). All IsUnmet ps) (λ i. pairs_from (c.as_slice-2.ensures i) 0 (many i)) c.in-Ok.ensures;
      };
      groups = c.in_ok-groups-in-Ok.ensures;
    }
