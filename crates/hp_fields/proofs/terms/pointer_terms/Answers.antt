use Rattle.std.proofs.Common.{◌≡◌, ◌∙◌, ap, sym}
use Rattle.hp_defs.specs.Names.{sorts}
use Rattle.hp_lit.specs.declared.line.Arg.TheVariants.{Null}
use Rattle.hp_fields.proofs.Tables.{pointers_step}
use Rattle.hp_fields.proofs.terms.pointer_terms.Goals as goal

pub loop-at-preserved : goal.loop-at-preserved
loop-at-preserved c =
    pointers_step (sorts c.args.names.now) c.loop-at.at c.sort.result c.loop-at.terms c.add_pointer.new.terms Null c.sort.ensures c.loop-at.invariant c.in_ok-add_pointer.ensures
