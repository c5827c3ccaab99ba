use Rattle.std.proofs.Common.{◌<◌, ◌∙◌, List, ap, length, slice_get, subst, sym}
use Rattle.std.specs.List.{All}
use Rattle.std.proofs.lemmas.Option.{slice_get_within}
use Rattle.hp_defs.specs.declared.names.Signature.{Signature}
use Rattle.hp_tables.proofs.ClassLaws.{own_known}
use Rattle.hp_tables.proofs.Fits.{monotone_pairs_fit}
use Rattle.hp_points.proofs.monotone.MonotoneLocalClass.lines.Goals as goal

pub add_pair_lines-requires-clause-known : goal.add_pair_lines-requires-clause-known
add_pair_lines-requires-clause-known c = let lent = c.requires.lent in slice_get_within c.args.g.now.names.signatures c.args.self.now.func lent.signature lent.known

pub add_pair_lines-requires-clause-fit : goal.add_pair_lines-requires-clause-fit
add_pair_lines-requires-clause-fit c =
    let group = c.args.self.now in
    monotone_pairs_fit c.args.g.now.names group.func group.word group.clause group.form group.own c.requires.lent c.requires.sound.made c.requires.sound.names

pub add_function_lines-requires : goal.add_function_lines-requires
add_function_lines-requires c =
    let group = c.args.self.now in
    let now = c.add_pair_lines.new.g in
    let known = ap (λ (ss : List Signature). slice_get ss group.func) c.add_pair_lines.ensures.kept.signatures ∙ c.requires.lent.known in
    subst (All (λ k. k < length now.names.signatures)) (sym c.as_slice.ensures) (own_known now.names group.func c.requires.lent.signature group.own known c.requires.lent.own)
