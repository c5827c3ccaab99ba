use Rattle.std.proofs.Common.{List, map, sym, subst, arith}
use Rattle.std.specs.List.{All}
use Rattle.hp_names.specs.Names.{AreDistinct}
use Rattle.hp_tree.specs.declared.problem.Decl.{Decl}
use Rattle.hp_terms.specs.Weight.{IsLightClause}
use Rattle.hp_terms.specs.Words.{declared_word}
use Rattle.hp_sorts.proofs.Faultless.{faultless_problems_are_well_sorted}
use Rattle.hp_norm.proofs.FlatSteps.{flats_found, flats_refused}
use Rattle.hp_norm.proofs.flattening.name_clauses.Goals as goal

pub declared_names-requires-clause-distinct : goal.declared_names-requires-clause-distinct
declared_names-requires-clause-distinct c =
    subst (λ (ds : List Decl). AreDistinct (map declared_word ds)) (sym c.as_slice-decls.ensures) (faultless_problems_are_well_sorted c.args.p.now c.requires.sorted).distinct

pub clauses_made-requires-clause-light : goal.clauses_made-requires-clause-light
clauses_made-requires-clause-light c = subst (All IsLightClause) (sym c.as_slice.ensures) c.requires.light

pub returns-in_err-clauses : goal.returns-in_err-clauses
returns-in_err-clauses c =
    flats_refused c.args.p.now c.as_slice-decls.result.now c.as_slice.result.now (record { names = c.in_ok-names.names; lines = c.new.result }) c.clauses_made.new.ground c.as_slice-decls.ensures c.as_slice.ensures
    (λ i. record { names = c.in_ok-names.ensures i; lines = c.new.ensures i }) (omega arith) _ _ c.in_err-clauses.ensures.made c.from_residual-in_err-clauses.ensures.1

pub returns : goal.returns
returns c =
    flats_found c.args.p.now c.as_slice-decls.result.now c.as_slice.result.now (record { names = c.in_ok-names.names; lines = c.new.result }) c.clauses_made.new.ground c.as_slice-decls.ensures c.as_slice.ensures
    (λ i. record { names = c.in_ok-names.ensures i; lines = c.new.ensures i }) (omega arith) _ c.in_ok-clauses.ensures.made
