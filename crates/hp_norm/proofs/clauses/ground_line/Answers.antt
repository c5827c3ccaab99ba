use Rattle.std.proofs.Common.{subst, sym}
use Rattle.std.specs.List.{All}
use Rattle.hp_norm.specs.Loads.{IsLightWithin}
use Rattle.hp_norm.specs.Scopes.{term_scope}
use Rattle.hp_norm.proofs.Loads.{light_within}
use Rattle.hp_norm.proofs.clauses.ground_line.Goals as goal

pub named_atoms-requires : goal.named_atoms-requires
named_atoms-requires c =
    let scope = term_scope c.args.ground.now.names in
    subst (All (IsLightWithin scope)) (sym c.as_slice.ensures) (light_within scope c.args.clause.now.guard c.requires.guard)

pub named_atoms-requires-2 : goal.named_atoms-requires-2
named_atoms-requires-2 c =
    let scope = term_scope c.named_atoms.new.ground.names in
    subst (All (IsLightWithin scope)) (sym c.as_slice-2.ensures) (light_within scope c.args.clause.now.head c.requires.head)
