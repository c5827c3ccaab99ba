use Rattle.hp_instance.proofs.InstancesSay.{instances_say}
use Rattle.hp_instance.proofs.laws.instances_say.Goals as goal

pub returns : goal.returns
returns c = instances_say
