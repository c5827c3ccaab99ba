-- The clauses of a group of arrays apply functions of the group alone.
use Rattle.std.proofs.Common.{◌≡◌, ◌∙◌, ◌&&◌, ◌++◌, ℕ, List, [], ◌∷◌, map, append-nil, Bool, true, IsTrue, refl, sym, subst}
use Rattle.std.specs.List.{All, list_all}
use Rattle.std.proofs.lemmas.Bool.{and_from}
use Rattle.std.proofs.lemmas.List.Elements.{All-head, All-tail, All-weaker}
use Rattle.hp_tree.specs.declared.term.Term.{Term, fold-roll-Term, ind-Term, map-Term, roll-Term}
use Rattle.hp_tree.specs.declared.term.Term.TheOpen.{Term-F}
use Rattle.hp_tree.specs.declared.problem.Atom.{Atom}
use Rattle.hp_tree.specs.Value.{Word}
use Rattle.hp_terms.specs.Occurring.{joined}
use Rattle.hp_local.specs.Applied.{applies_only, applies_step, atom_applies, clause_applies}
use Rattle.hp_defs.specs.Names.{NameList}
use Rattle.hp_norm.specs.declared.flat.FlatClause.{FlatClause}
use Rattle.hp_norm.specs.Flat.{universal_of}
use Rattle.hp_class.specs.Frame.{is_function}
use Rattle.hp_flatten.specs.declared.application.Application.{Application}
use Rattle.hp_flatten.specs.Applications.{applications, atoms_applications, clause_applications}
use Rattle.hp_flatten.proofs.HoldsTerms.{applications_apply, applications_at, back, front}
use Rattle.hp_arrays.specs.Arrays.{IsArrayClause, IsArrayGroup}
use Rattle.hp_flatten.proofs.ClausesApply.{clause_only}

pub arrays_apply : (names : NameList) (own : List ℕ) (words : List Word) (clauses : List FlatClause) → IsArrayGroup names own words clauses
    → All (λ k. IsTrue (clause_applies (is_function names (own ++ [])) (universal_of k))) clauses
arrays_apply names own words clauses lent =
    All-weaker (IsArrayClause names own) (λ k. IsTrue (clause_applies (is_function names (own ++ [])) (universal_of k)))
    (λ k h. subst (λ (fs : List ℕ). IsTrue (clause_applies (is_function names fs) (universal_of k))) (sym (append-nil own)) (clause_only (is_function names own) k h.owned)) clauses lent.all
