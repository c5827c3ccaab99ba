-- The literals of an atom of any sort say what the atom says, and can be decided.
use Rattle.std.proofs.Common.{◌≡◌, ◌↔◌, List, subst}
use Rattle.std.specs.List.{All}
use Rattle.hp_tree.specs.declared.problem.Sort.TheVariants.{Num, Idx, Ptr}
use Rattle.hp_tree.specs.Value.{atom_is_true}
use Rattle.hp_lit.specs.declared.literal.Lit.{Lit}
use Rattle.hp_lit.specs.Fit.{IsFit}
use Rattle.hp_lit.specs.Truth.{LineIsTrue}
use Rattle.hp_linear.proofs.FitRows as num_fit
use Rattle.hp_linear.proofs.Refusals.{ok_same}
use Rattle.hp_linear.proofs.Truth as num_truth
use Rattle.hp_index.proofs.Fits as idx_fit
use Rattle.hp_index.proofs.Truth as idx_truth
use Rattle.hp_index.specs.Literals.{literals as idx_literals}
use Rattle.hp_index.specs.Pointers.{ptr_literals}
use Rattle.hp_base.specs.Laws.{LiteralsFit, LiteralsSay}

pub literals_say : LiteralsSay
literals_say ws sorts v env functions Num positive atom lits agrees have sorted e = num_truth.literals_are_true_with_atoms ws sorts v env functions positive atom lits agrees sorted e
literals_say ws sorts v env functions Idx positive atom lits agrees have sorted e =
    subst (λ (ls : List Lit). LineIsTrue v ls ↔ (atom_is_true env functions atom ≡ positive)) (ok_same (idx_literals ws positive atom) lits e)
    (idx_truth.literals_are_true_with_atoms ws sorts v env functions positive atom agrees have sorted)
literals_say ws sorts v env functions Ptr positive atom lits agrees have sorted e =
    subst (λ (ls : List Lit). LineIsTrue v ls ↔ (atom_is_true env functions atom ≡ positive)) (ok_same (ptr_literals ws positive atom) lits e)
    (idx_truth.ptr_literals_are_true_with_atoms ws sorts v env functions positive atom agrees sorted)

pub literals_fit : LiteralsFit
literals_fit ws sorts Num positive atom lits sorted light e = (num_fit.literals_are_fit ws sorts positive atom lits sorted e).0
literals_fit ws sorts Idx positive atom lits sorted light e =
    subst (λ (ls : List Lit). All (IsFit sorts) ls) (ok_same (idx_literals ws positive atom) lits e) (idx_fit.literals_are_fit ws sorts positive atom sorted light)
literals_fit ws sorts Ptr positive atom lits sorted light e =
    subst (λ (ls : List Lit). All (IsFit sorts) ls) (ok_same (ptr_literals ws positive atom) lits e) (idx_fit.ptr_literals_are_fit ws sorts positive atom sorted)
