-- The clauses of a group of fields apply functions of the group and lower ones alone.
use Rattle.std.proofs.Common.{◌≡◌, ◌∙◌, ◌++◌, ℕ, List, true, IsTrue, sym}
use Rattle.std.specs.List.{All}
use Rattle.std.proofs.lemmas.List.Elements.{All-weaker}
use Rattle.hp_tree.specs.Value.{Word}
use Rattle.hp_lit.specs.declared.line.Arg.{Arg}
use Rattle.hp_local.specs.Applied.{clause_applies}
use Rattle.hp_defs.specs.Names.{NameList}
use Rattle.hp_norm.specs.declared.flat.FlatClause.{FlatClause}
use Rattle.hp_norm.specs.Flat.{universal_of}
use Rattle.hp_class.specs.Frame.{is_function}
use Rattle.hp_class.proofs.FunctionWords.{function_stays}
use Rattle.hp_flatten.specs.declared.application.Application.{Application}
use Rattle.hp_flatten.specs.Applications.{clause_applications}
use Rattle.hp_flatten.proofs.ClausesApply.{clause_only}
use Rattle.hp_fields.specs.Fields.{IsFieldClause, IsFieldGroup}

pub fields_apply : (names : NameList) (own : List ℕ) (words : List Word) (applied : List ℕ) (clauses : List FlatClause) (terms : List Arg) → IsFieldGroup names own words applied clauses terms
    → All (λ k. IsTrue (clause_applies (is_function names (own ++ applied)) (universal_of k))) clauses
fields_apply names own words applied clauses terms lent =
    let old = lent.front in
    All-weaker (IsFieldClause old own applied) (λ k. IsTrue (clause_applies (is_function names (own ++ applied)) (universal_of k)))
    (λ k h. clause_only (is_function names (own ++ applied)) k
    (All-weaker (λ (a : Application). is_function old (own ++ applied) a.func ≡ true) (λ (a : Application). is_function names (own ++ applied) a.func ≡ true)
    (λ a e. sym (function_stays old names (own ++ applied) a.func lent.begins.signatures) ∙ e) (clause_applications k) h.owned)) clauses lent.is.all
