use Rattle.std.proofs.Common.{◌∙◌, refl}
use Rattle.hp_base.proofs.Making.{begins_same, begins_trans}
use Rattle.hp_instance.specs.Instances.{instance}
use Rattle.hp_instance.proofs.InstancesSay.{instances_say}
use Rattle.hp_class.proofs.Descending.{turn_made}
use Rattle.hp_cases.proofs.Adding.{fits_still, same_instance, tuple_fits}
use Rattle.hp_cases.proofs.instances.add_instances_of.Goals as goal

pub loop-tuple-init : goal.loop-tuple-init
loop-tuple-init c = record { fit = c.requires.fit; sound = c.requires.sound; rest = refl; begins = begins_same c.args.g.now }

pub loop-tuple-preserved : goal.loop-tuple-preserved
loop-tuple-preserved c =
    let clause = c.args.clause.now in
    let tuples = c.args.tuples.now in
    let i = c.loop-tuple.tuple-index in
    let t = c.tuple-item.result in
    let old = c.loop-tuple.g in
    let new = c.instantiate.new.ground in
    let v = c.loop-tuple.invariant in
    let made = same_instance clause t c.as_slice.result.now c.as_slice-in-loop-tuple.result.now old c.as_slice.ensures c.as_slice-in-loop-tuple.ensures ∙ c.in_ok-instantiate.ensures.made in
    let sound = (instances_say clause t tt old new v.sound v.fit.flat (tuple_fits old.names tuples clause i t t.args c.loop-tuple-test.true c.tuple-item.is refl v.fit) made).sound in
    record {
      fit = fits_still old new tuples clause c.instantiate.ensures.kept sound.made v.fit;
      sound = sound;
      rest = turn_made (instance clause) tuples i t c.loop-tuple-test.true c.tuple-item.is c.args.g.now old v.rest new made;
      begins = begins_trans c.args.g.now old new v.begins c.instantiate.ensures.kept;
    }
