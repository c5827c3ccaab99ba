use Rattle.std.proofs.Common.{refl}
use Rattle.hp_diff.proofs.Linking.{is_cut}
use Rattle.hp_diff.proofs.net.cut.Goals as goal

pub returns-in-Some-pop : goal.returns-in-Some-pop
returns-in-Some-pop c = is_cut _ _ _ _ _ c.requires.fit c.requires.linked c.in-Some.ensures _ c.in-Some-pop.ensures refl c.set.ensures
