use Rattle.std.proofs.Common.{◌∙◌, sym}
use Rattle.hp_rules.proofs.ReadArrays.{as_arrays}
use Rattle.hp_rules.proofs.reading.read_applications.Goals as goal

pub returns-then-are_array_applications : goal.returns-then-are_array_applications
returns-then-are_array_applications c =
    as_arrays c.args.names.now c.args.monotone.now c.args.ruled.now c.read_level.new.ruled c.args.clause.now c.args.apps.now c.index-apps-0.result c.read_level.result
    c.if-apps-eq0.false c.index-apps-0.is (sym c.are_num_functions.ensures ∙ c.if-are_num_functions.false) (sym c.are_array_applications.ensures ∙ c.if-are_array_applications.true)
    c.read_level.ensures
