use Rattle.std.proofs.Common.{◌≡◌, drop}
use Rattle.std.specs.List.{All}
use Rattle.hp_base.specs.Making.{Begins, in_turn}
use Rattle.hp_norm.specs.Sound.{IsSound}
use Rattle.hp_class.specs.Group.{class_step}
use Rattle.hp_class.proofs.groups.descend_groups.Given as goal

abbrev pub invariant-loop-group : goal.invariant-loop-group
invariant-loop-group g l =
    let step = class_step g.C.LocalClass.grow_of g.C.LocalClass.own g.C.LocalClass.plan_of in
    record {
      lent : All (λ c. g.C.LocalClass.IsLent c l.g.names) l.groups;
      sound : IsSound l.g;
      rest : in_turn step l.groups l.initial.g ≡ in_turn step (drop l.group-index l.groups) l.g;
      begins : Begins l.initial.g l.g;
    }
