use Rattle.std.proofs.Common.{◌<◌, length, subst, sym}
use Rattle.std.specs.List.{All}
use Rattle.hp_arrays.proofs.Fits.{arrays_known}
use Rattle.hp_array.proofs.arrays.ArraysLocalClass.tables.Goals as goal

pub array_tables-requires-clause-known : goal.array_tables-requires-clause-known
array_tables-requires-clause-known c =
    let group = c.args.self.now in
    let names = c.args.names.now in
    subst (All (λ k. k < length names.signatures)) (sym c.as_slice.ensures) (arrays_known names group.own group.words c.requires.lent.functions)
