use Rattle.std.proofs.lemmas.Option.{slice_get_within}
use Rattle.hp_points.proofs.free.FreeLocalClass.tables.Goals as goal

pub free_table-requires-clause-known : goal.free_table-requires-clause-known
free_table-requires-clause-known c = let free = c.requires.lent in slice_get_within c.args.names.now.signatures c.args.self.now.func free.signature free.known
