use Rattle.std.proofs.lemmas.Option.{slice_get_within}
use Rattle.hp_by_cases.proofs.cases.CasesLocalClass.tables.Goals as goal

pub case_table-requires-clause-known : goal.case_table-requires-clause-known
case_table-requires-clause-known c = let lent = c.requires.lent in slice_get_within c.args.names.now.signatures c.args.self.now.func lent.signature lent.known
