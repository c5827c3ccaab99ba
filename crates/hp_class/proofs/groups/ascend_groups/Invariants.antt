use Rattle.std.proofs.Common.{◌≡◌, take}
use Rattle.std.specs.List.{All, flat_map}
use Rattle.hp_class.proofs.groups.ascend_groups.Given as goal

abbrev pub invariant-loop-group : goal.invariant-loop-group
invariant-loop-group g l = record {
  tables : l.tables ≡ flat_map (λ c. g.C.LocalClass.tables_of c l.size l.names l.values) (take l.group-index l.groups);
  ready : All (λ c. g.C.LocalClass.Ready c l.names l.values) (take l.group-index l.groups);
}
