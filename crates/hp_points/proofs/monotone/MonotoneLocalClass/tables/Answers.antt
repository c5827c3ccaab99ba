use Rattle.std.proofs.lemmas.Option.{slice_get_within}
use Rattle.hp_points.proofs.monotone.MonotoneLocalClass.tables.Goals as goal

pub step_table-requires-clause-known : goal.step_table-requires-clause-known
step_table-requires-clause-known c = let lent = c.requires.lent in slice_get_within c.args.names.now.signatures c.args.self.now.func lent.signature lent.known
