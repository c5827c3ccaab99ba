-- What a group has made, once all groups had their turn.
use Rattle.std.proofs.Common.{◌++◌, subst}
use Rattle.hp_lit.specs.declared.line.Line.{Line}
use Rattle.hp_lit.specs.Truth.{LineIsTrue}
use Rattle.hp_base.proofs.Making.{begins_names}
use Rattle.hp_base.proofs.SumsHold.{sums_hold_by_lines}
use Rattle.hp_norm.specs.Sound.{AreTrue}
use Rattle.hp_class.specs.Laws.{TurnsAreModelled}
use Rattle.hp_class.proofs.Group.{All-front}
use Rattle.hp_class.proofs.Through.{clauses_hold_with_points}

pub turns_are_modelled : TurnsAreModelled
turns_are_modelled own applied plan mid next end size v sound grouped ends b have congruent lines applies complete =
    let before = All-front (λ (l : Line). LineIsTrue v l.lits) next.lines b.added (subst (AreTrue v) b.lines lines) in
    record {
      sound = sound;
      begins = begins_names next end b;
      made = ends.made;
      fit = ends.names;
      sorted = have;
      congruent = congruent;
      instances = clauses_hold_with_points own (own ++ applied) plan mid next end size v grouped (record { begins = b; made = ends.made }) ends.names have
          (sums_hold_by_lines end v ends.sums lines) congruent before applies;
      complete = complete;
    }
