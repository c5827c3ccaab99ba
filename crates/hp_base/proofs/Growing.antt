-- What is made begins with what was there.
use Rattle.std.proofs.Common.{ℕ, List, [], ◌∷◌, ◌++◌, refl}
use Rattle.hp_tree.specs.declared.problem.Sort.{Sort}
use Rattle.hp_tree.specs.declared.term.Term.{Term}
use Rattle.hp_lit.specs.declared.line.Arg.{Arg}
use Rattle.hp_lit.specs.declared.line.Lin.{Lin}
use Rattle.hp_defs.specs.Names.{with_definition}
use Rattle.hp_base.specs.Making.{Begins}
use Rattle.hp_base.specs.Defining.{definition_of, sum_of}
use Rattle.hp_base.specs.Arguments.{argument_of}
use Rattle.hp_base.proofs.Making.{begins_definition, begins_line, begins_same, begins_trans}
use Rattle.hp_base.proofs.Carried.{Carried, Carries, argument_carried, definition_carried, sum_carried}
pub use Rattle.hp_base.proofs.Carried.{came}

begins_carried : Carries Begins
begins_carried = record {
  same = begins_same;
  through = begins_trans;
  line = λ line g room. begins_line g line (g.lines ++ line ∷ []) refl;
  definition = λ body g. begins_definition g (with_definition g.names body) body refl;
}

pub definition_grows : (func : ℕ) (args : List Arg) → Carried Begins (definition_of func args)
definition_grows = definition_carried Begins begins_carried

pub sum_grows : (item : ℕ) (lin : Lin) → Carried Begins (sum_of item lin)
sum_grows = sum_carried Begins begins_carried

pub argument_grows : (item : ℕ) (sort : Sort) (term : Term) → Carried Begins (argument_of item sort term)
argument_grows = argument_carried Begins begins_carried
