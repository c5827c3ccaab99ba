use Rattle.std.proofs.Common.{◌≡◌, [], map, take, drop}
use Rattle.hp_sorts.specs.Faults.{vars_fault}
use Rattle.hp_sorts.proofs.clauses.variables.Given as goal

abbrev pub invariant-loop-var : goal.invariant-loop-var
invariant-loop-var l = record {
  fault : vars_fault l.tables l.item [] l.vars ≡ vars_fault l.tables l.item l.table.names (drop l.var-index l.vars);
  names : l.table.names ≡ map (λ v. v.name) (take l.var-index l.vars);
  sorts : l.table.sorts ≡ map (λ v. v.sort) (take l.var-index l.vars);
}
