-- Functions of well-formed structures have values of their sorts: by the number of levels that are counted.
use Rattle.std.proofs.Common.{◌≡◌, ℕ, ◌≤◌, zero, suc, List, [], ◌∷◌, Bool, true, false, cond, IsTrue, refl, sym, subst, Option, Some, None}
use Rattle.std.specs.Prelude.{nat_lt, option_map, pos}
use Rattle.std.specs.Str.{bytes_eq}
use Rattle.std.specs.List.{All}
use Rattle.std.proofs.lemmas.List.Elements.{All-head, All-tail}
use Rattle.std.proofs.lemmas.Option.{none-some, same_Some}
use Rattle.hp_math.specs.Rational.{ℚ, whole}
use Rattle.hp_tree.specs.declared.term.Term.{Term}
use Rattle.hp_tree.specs.declared.problem.Sort.{Sort}
use Rattle.hp_tree.specs.declared.problem.Sort.TheVariants.{Num, Idx, Ptr}
use Rattle.hp_tree.specs.declared.problem.Problem.{Problem}
use Rattle.hp_tree.specs.Sorted.{is_of_sort}
use Rattle.hp_tree.specs.Value.{Word, Environment, Functions, value, all_true}
use Rattle.hp_terms.specs.Scope.{Profile, Scope}
use Rattle.hp_terms.specs.Laws.{AreOfSort, KeepsSorts}
use Rattle.hp_terms.proofs.Values.{sorted_terms_have_sorted_values}
use Rattle.hp_terms.proofs.Whole.{null_pointer, whole-whole}
use Rattle.hp_model.specs.declared.structure.Row.{Row}
use Rattle.hp_model.specs.declared.structure.Table.{Table}
use Rattle.hp_model.specs.declared.structure.Structure.{Structure}
use Rattle.hp_model.specs.Declarations.{DeclaredFunction, constants, functions, function_named}
use Rattle.hp_model.specs.Scopes.{profile_below, table_scope}
use Rattle.hp_model.specs.Value.{constant, functions_below, functions_of, rows_value, tables_value, with_arguments}
use Rattle.hp_model.specs.WellFormed.{IsSortedRow, IsTableOf, TablesFit, WellFormed}
use Rattle.hp_model.specs.Laws.{DeclaredScopesKeepSorts, FunctionsHaveSorts, TableScopesKeepSorts}
use Rattle.hp_model.proofs.Fits.{constants_have_sorts, words_have_sorts}

zero_has_sort : (size : ℕ) → 1 ≤ size → (sort : Sort) → IsTrue (is_of_sort size sort (whole (pos 0)))
zero_has_sort size some Num = refl
zero_has_sort size some Idx = whole-whole (pos 0)
zero_has_sort size some Ptr = null_pointer size some

rows_have_sort : (size : ℕ) (scope : Scope) (names : Environment) (lower : Functions) (sort : Sort) (otherwise : Term) → 1 ≤ size → KeepsSorts size scope names lower
    → (rows : List Row) → All (IsSortedRow scope sort) rows → IsTrue (is_of_sort size sort (value names lower otherwise))
    → IsTrue (is_of_sort size sort (rows_value names lower rows otherwise))
rows_have_sort size scope names lower sort otherwise some keeps [] fit last = last
rows_have_sort size scope names lower sort otherwise some keeps (row ∷ rows) fit last =
    by (all_true names lower row.guard) (rows_have_sort size scope names lower sort otherwise some keeps rows (All-tail (IsSortedRow scope sort) row rows fit) last)
  where
    by : (b : Bool) → IsTrue (is_of_sort size sort (rows_value names lower rows otherwise))
        → IsTrue (is_of_sort size sort (cond b (value names lower row.value) (rows_value names lower rows otherwise)))
    by true rest = sorted_terms_have_sorted_values size scope names lower row.value sort some keeps (All-head (IsSortedRow scope sort) row rows fit).value
    by false rest = rest

module _ (s : Structure) (p : Problem) (fits : WellFormed s p) where
  abbrev HaveSorts : Functions → Type 0
  HaveSorts values = (word : Word) (f : DeclaredFunction) (args : List ℚ) → function_named (functions p.decls) word ≡ Some f → AreOfSort s.universe f.profile.args args
      → IsTrue (is_of_sort s.universe f.profile.result (values word args))

  table_keeps : (lower : Functions) → HaveSorts lower → (sorts : List Sort) (level : ℕ) (args : List ℚ) → AreOfSort s.universe sorts args
      → KeepsSorts s.universe (table_scope s.universe p sorts level) (with_arguments args (constant s.consts)) lower
  table_keeps lower h sorts level args fit = record {
    names = λ word sort e. words_have_sorts s.universe sorts args (constant s.consts) _ fit word sort (constants_have_sorts s.universe (constants p.decls) s.consts fits.constants_fit word sort) e;
    functions_keep = λ word profile xs e k. by word profile xs (function_named (functions p.decls) word) refl e k;
    pointers = λ number e. e;
  }
    where
      within : (word : Word) (profile : Profile) (xs : List ℚ) (f : DeclaredFunction) → function_named (functions p.decls) word ≡ Some f → (b : Bool)
          → cond b (Some f.profile) None ≡ Some profile → AreOfSort s.universe profile.args xs → IsTrue (is_of_sort s.universe profile.result (lower word xs))
      within word profile xs f is true e k =
          let same : f.profile ≡ profile = same_Some f.profile profile e in
          subst (λ (q : Profile). AreOfSort s.universe q.args xs → IsTrue (is_of_sort s.universe q.result (lower word xs))) same (h word f xs is) k
      within word profile xs f is false e k = absurd (none-some profile e)

      by : (word : Word) (profile : Profile) (xs : List ℚ) (o : Option DeclaredFunction) → function_named (functions p.decls) word ≡ o
          → profile_below level o ≡ Some profile → AreOfSort s.universe profile.args xs → IsTrue (is_of_sort s.universe profile.result (lower word xs))
      by word profile xs None is e k = absurd (none-some profile e)
      by word profile xs (Some f) is e k = within word profile xs f is (nat_lt f.level level) e k

  table_has_sort : (lower : Functions) → HaveSorts lower → (f : DeclaredFunction) (table : Table) → IsTableOf s.universe p f table → (args : List ℚ)
      → AreOfSort s.universe f.profile.args args
      → IsTrue (is_of_sort s.universe f.profile.result (rows_value (with_arguments args (constant s.consts)) lower table.rows table.otherwise))
  table_has_sort lower h f table fit args k =
      let keeps = table_keeps lower h f.profile.args f.level args k in
      let scope = table_scope s.universe p f.profile.args f.level in
      rows_have_sort s.universe scope (with_arguments args (constant s.consts)) lower f.profile.result table.otherwise fits.universe keeps table.rows fit.sorted.rows
      (sorted_terms_have_sorted_values s.universe scope (with_arguments args (constant s.consts)) lower table.otherwise f.profile.result fits.universe keeps fit.sorted.otherwise)

  tables_have_sorts : (lower : Functions) → HaveSorts lower → (fs : List DeclaredFunction) (tables : List Table) → TablesFit s.universe p fs tables
      → (word : Word) (f : DeclaredFunction) (args : List ℚ) → function_named fs word ≡ Some f → AreOfSort s.universe f.profile.args args
      → IsTrue (is_of_sort s.universe f.profile.result (tables_value (constant s.consts) lower tables word args))
  tables_have_sorts lower h [] tables fit word f args e k = absurd (none-some f e)
  tables_have_sorts lower h (g ∷ fs) [] fit word f args e k = absurd fit
  tables_have_sorts lower h (g ∷ fs) (table ∷ tables) fit word f args e k =
      subst (λ (name : Word). IsTrue (is_of_sort s.universe f.profile.result
      (cond (bytes_eq name word) (rows_value (with_arguments args (constant s.consts)) lower table.rows table.otherwise) (tables_value (constant s.consts) lower tables word args))))
      (sym fit.0.name) (by (λ i. tables_have_sorts lower h fs tables fit.1 word f args i k) (bytes_eq g.name word) e)
    where
      by : (function_named fs word ≡ Some f → IsTrue (is_of_sort s.universe f.profile.result (tables_value (constant s.consts) lower tables word args)))
          → (b : Bool) → cond b (Some g) (function_named fs word) ≡ Some f
          → IsTrue (is_of_sort s.universe f.profile.result
          (cond b (rows_value (with_arguments args (constant s.consts)) lower table.rows table.otherwise) (tables_value (constant s.consts) lower tables word args)))
      by rest true e =
          subst (λ (i : DeclaredFunction). AreOfSort s.universe i.profile.args args
          → IsTrue (is_of_sort s.universe i.profile.result (rows_value (with_arguments args (constant s.consts)) lower table.rows table.otherwise)))
          (same_Some g f e) (table_has_sort lower h g table fit.0 args) k
      by rest false e = rest e

  below : (levels : ℕ) → HaveSorts (functions_below levels s)
  below zero word f args e k = zero_has_sort s.universe fits.universe f.profile.result
  below (suc levels) word f args e k = tables_have_sorts (functions_below levels s) (below levels) (functions p.decls) s.tables fits.tables_fit word f args e k

pub functions_have_sorts : FunctionsHaveSorts
functions_have_sorts s p fits levels word f args e k = below s p fits levels word f args e k

pub table_scopes_keep_sorts : TableScopesKeepSorts
table_scopes_keep_sorts s p sorts level args fits fit levels = table_keeps s p fits (functions_below levels s) (below s p fits levels) sorts level args fit

pub declared_scopes_keep_sorts : DeclaredScopesKeepSorts
unfolding functions_of
declared_scopes_keep_sorts s p fits = record {
  names = λ word sort e. constants_have_sorts s.universe (constants p.decls) s.consts fits.constants_fit word sort e;
  functions_keep = λ word profile args e k. by word profile args (function_named (functions p.decls) word) refl e k;
  pointers = λ number e. absurd (cc);
}
  where
    by : (word : Word) (profile : Profile) (args : List ℚ) (o : Option DeclaredFunction) → function_named (functions p.decls) word ≡ o
        → option_map (λ f. f.profile) o ≡ Some profile → AreOfSort s.universe profile.args args → IsTrue (is_of_sort s.universe profile.result (functions_of s word args))
    by word profile args None is e k = absurd (none-some profile e)
    by word profile args (Some f) is e k =
        subst (λ (q : Profile). AreOfSort s.universe q.args args → IsTrue (is_of_sort s.universe q.result (functions_below 16 s word args))) (same_Some f.profile profile e)
        (below s p fits 16 word f args is) k
