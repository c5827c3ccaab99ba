use Rattle.hp_base.specs.Congruence.{congruence_at, congruence_literals, congruence_of, point_of}
use Rattle.hp_base.proofs.Making.{computed_first, computed_second, makes_other}
use Rattle.hp_base.proofs.Places.{congruence_there, got_there, small_there}
use Rattle.hp_base.proofs.congruence.add_congruence.Goals as goal

pub congruence_literals-requires-clause-left : goal.congruence_literals-requires-clause-left
congruence_literals-requires-clause-left c =
    let all = c.definitions-definitions.ensures in
    small_there c.definitions-definitions.result.now c.args.g.now.names.definitions c.args.left c.index-definitions-left.result all.definitions c.requires.left c.index-definitions-left.is all.made.small

pub congruence_literals-requires-clause-right : goal.congruence_literals-requires-clause-right
congruence_literals-requires-clause-right c =
    let all = c.definitions-definitions.ensures in
    small_there c.definitions-definitions.result.now c.args.g.now.names.definitions c.args.right c.index-definitions-right.result all.definitions c.requires.right c.index-definitions-right.is all.made.small

pub returns-in_err-lits-clause-made : goal.returns-in_err-lits-clause-made
returns-in_err-lits-clause-made c =
    let g = c.args.g.now in
    let all = c.definitions-definitions.result.now in
    let same = c.definitions-definitions.ensures.definitions in
    let signature = c.signature-signature.result.now in
    let first = c.index-definitions-left.result in
    let second = c.index-definitions-right.result in
    let wanted = congruence_literals signature (point_of first) (point_of second) in
    let left_is = got_there all g.names.definitions c.args.left first same c.requires.left c.index-definitions-left.is in
    let right_is = got_there all g.names.definitions c.args.right second same c.requires.right c.index-definitions-right.is in
    makes_other (congruence_of signature (point_of first) (point_of second)) (congruence_at c.args.func c.args.left c.args.right) g g c.from_residual.result
    (congruence_there c.args.func c.args.left c.args.right signature first second g c.signature-signature.ensures left_is right_is)
    (computed_first signature.item wanted _ g c.in_err-lits.field-0.0 c.from_residual.result (c.in_err-lits.ensures wanted g c.congruence_literals.ensures) c.from_residual.ensures.1)

pub returns-clause-made : goal.returns-clause-made
returns-clause-made c =
    let g = c.args.g.now in
    let all = c.definitions-definitions.result.now in
    let same = c.definitions-definitions.ensures.definitions in
    let signature = c.signature-signature.result.now in
    let first = c.index-definitions-left.result in
    let second = c.index-definitions-right.result in
    let wanted = congruence_literals signature (point_of first) (point_of second) in
    let left_is = got_there all g.names.definitions c.args.left first same c.requires.left c.index-definitions-left.is in
    let right_is = got_there all g.names.definitions c.args.right second same c.requires.right c.index-definitions-right.is in
    makes_other (congruence_of signature (point_of first) (point_of second)) (congruence_at c.args.func c.args.left c.args.right) g c.add_line.new.g c.add_line.result
    (congruence_there c.args.func c.args.left c.args.right signature first second g c.signature-signature.ensures left_is right_is)
    (computed_second signature.item wanted _ c.in_ok-lits.lits g c.add_line.new.g c.add_line.result (c.in_ok-lits.ensures wanted g c.congruence_literals.ensures) c.add_line.ensures.made)
