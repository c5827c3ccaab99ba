-- The lines of a group stay few.
use Rattle.std.proofs.Common.{ℕ, List, Option, Some, None, slice_get}
use Rattle.hp_tree.specs.declared.problem.Atom.{Atom}
use Rattle.hp_defs.specs.declared.names.Signature.{Signature}
use Rattle.hp_defs.specs.Names.{NameList}
use Rattle.hp_base.specs.Lines.{add_line}
use Rattle.hp_base.specs.Making.{◌then◌, computed, in_turn}
use Rattle.hp_lit.specs.declared.line.Arg.{Arg}
use Rattle.hp_norm.specs.declared.flat.FlatClause.{FlatClause}
use Rattle.hp_norm.specs.Naming.{named_atoms}
use Rattle.hp_norm.specs.Scopes.{clause_scope}
use Rattle.hp_instance.specs.declared.tuple.Tuple.{Tuple}
use Rattle.hp_instance.specs.Instances.{at_clause, atom_sorts, instance, instance_line, sorted_literals}
use Rattle.hp_instance.specs.Replacing.{replaced_atoms}
use Rattle.hp_class.specs.Group.{Planned, group_lines, plan_lines, planned_lines}
use Rattle.hp_class.specs.Points.{function_lines, pair_line, pairs, points, signature_lines}
use Rattle.hp_class.proofs.FewMade.{StaysFew, computed_few, congruence_few, in_turn_few, line_few, then_few, value_few}
use Rattle.hp_class.proofs.FewNamed.{atoms_few}

-- ---- instances
instance_line_few : (c : FlatClause) (shown : List Arg) (names : NameList) (guard head : List Atom) → StaysFew (instance_line c shown names guard head)
instance_line_few c shown names guard head old new y e few =
    let lits = sorted_literals old.names (atom_sorts (clause_scope names c.vars) c.guard) guard (atom_sorts (clause_scope names c.vars) c.head) head in
    then_few (computed c.item lits) (λ ls. add_line (at_clause c.clause shown ls)) (computed_few c.item lits) (λ ls. line_few (at_clause c.clause shown ls)) old new y e few

instance_few : (c : FlatClause) (t : Tuple) → StaysFew (instance c t)
instance_few c t old new y e few =
    let guard_atoms = replaced_atoms old.names c.vars t.args c.guard in
    let head_atoms = replaced_atoms old.names c.vars t.args c.head in
    then_few (named_atoms c.item guard_atoms) (λ guard. λ mid. named_atoms c.item head_atoms mid then λ head. instance_line c t.shown old.names guard head) (atoms_few c.item guard_atoms)
    (λ guard. then_few (named_atoms c.item head_atoms) (λ head. instance_line c t.shown old.names guard head) (atoms_few c.item head_atoms) (λ head. instance_line_few c t.shown old.names guard head))
    old new y e few

planned_few : (p : Planned) → StaysFew (planned_lines p)
planned_few p = in_turn_few (instance p.clause) p.tuples (instance_few p.clause)

-- ---- functions
signature_few : (func : ℕ) (signature : Option Signature) → StaysFew (signature_lines func signature)
signature_few func None old new y e few = value_few tt old new y e few
signature_few func (Some signature) old new y e few =
    in_turn_few (pair_line signature) (pairs (points func old.names.definitions)) (λ pair. congruence_few signature pair.0 pair.1) old new y e few

pub function_few : (func : ℕ) → StaysFew (function_lines func)
function_few func old new y e few = signature_few func (slice_get old.names.signatures func) old new y e few

-- ---- the group
pub group_few : (own : List ℕ) (plan : NameList → List Planned) → StaysFew (group_lines own plan)
group_few own plan old new y e few =
    then_few (plan_lines (plan old.names)) (λ done. in_turn function_lines own) (in_turn_few planned_lines (plan old.names) planned_few) (λ done. in_turn_few function_lines own function_few)
    old new y e few
