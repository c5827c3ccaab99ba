-- Sorted terms apply functions that their scope knows, so the tables of well-formed structures apply functions of lower levels.
use Rattle.std.proofs.Common.{ℕ, ◌≡◌, ◌≤◌, ◌<◌, List, [], ◌∷◌, map, Bool, true, false, ◌&&◌, refl, sym, ap, subst, cond, arith, Option, Some, None}
use Rattle.std.specs.Prelude.{nat_lt}
use Rattle.std.specs.Str.{bytes_eq}
use Rattle.std.specs.List.{All, list_all}
use Rattle.std.proofs.lemmas.Bool.{and_from, and_parts, ltb-true, lt-ltb}
use Rattle.std.proofs.lemmas.List.Elements.{All-nil, All-cons, All-head, All-tail}
use Rattle.std.proofs.lemmas.Option.{none-some, same_Some}
use Rattle.hp_tree.specs.declared.term.Term.{Term, fold-roll-Term, ind-Term, roll-Term, map-Term}
use Rattle.hp_tree.specs.declared.term.Term.TheOpen.{Term-F}
use Rattle.hp_tree.specs.declared.problem.Sort.{Sort}
use Rattle.hp_tree.specs.declared.problem.Atom.{Atom}
use Rattle.hp_tree.specs.declared.problem.Problem.{Problem}
use Rattle.hp_tree.specs.Value.{Word}
use Rattle.hp_terms.specs.Scope.{Profile, Scope}
use Rattle.hp_terms.specs.Sorting.{atom_is_sorted, forms_of, has_form, relates, sort_of}
use Rattle.hp_terms.specs.Laws.{HasSort}
use Rattle.hp_terms.proofs.Parts.{applications_follow_profiles, parts_of_sorted_terms_are_sorted}
use Rattle.hp_model.specs.declared.structure.Row.{Row}
use Rattle.hp_model.specs.declared.structure.Table.{Table}
use Rattle.hp_model.specs.Declarations.{DeclaredFunction, functions, function_named}
use Rattle.hp_model.specs.Scopes.{profile_below, table_scope}
use Rattle.hp_model.specs.Value.{constant, functions_below, functions_of}
use Rattle.hp_model.specs.WellFormed.{IsSortedRow, IsSortedTable, IsTableOf, TablesFit}
use Rattle.hp_local.specs.Applied.{applies_only, atom_applies, row_applies, table_applies}
use Rattle.hp_local.specs.Fuel.{is_lower}
use Rattle.hp_local.specs.Structures.{AreLevelled, declared_level, FunctionsFollowTables, IsLevelled, level_of, WellFormedTablesAreLower}
use Rattle.hp_local.proofs.Fuel.{fuel_is_enough, tables_local}

-- ---- sorted terms
module _ (scope : Scope) (test : Word → Bool) (known : (word : Word) (profile : Profile) → scope.function word ≡ Some profile → test word ≡ true) where
  abbrev Applies : Term → Type 0
  Applies t = HasSort scope t → applies_only test t ≡ true

  arguments : (ts : List ((t : Term) × Applies t)) → All (HasSort scope) (map (λ e. e.0) ts) → list_all (λ b. b) (map (applies_only test) (map (λ e. e.0) ts)) ≡ true
  arguments [] h = refl
  arguments (t ∷ ts) h =
      and_from (applies_only test t.0) (list_all (λ b. b) (map (applies_only test) (map (λ e. e.0) ts))) (t.1 (All-head (HasSort scope) t.0 (map (λ e. e.0) ts) h))
      (arguments ts (All-tail (HasSort scope) t.0 (map (λ e. e.0) ts) h))

  both_apply : (a b : (t : Term) × Applies t) → All (HasSort scope) (a.0 ∷ b.0 ∷ []) → (applies_only test a.0 && applies_only test b.0) ≡ true
  both_apply a b h =
      and_from (applies_only test a.0) (applies_only test b.0) (a.1 (All-head (HasSort scope) a.0 (b.0 ∷ []) h))
      (b.1 (All-head (HasSort scope) b.0 [] (All-tail (HasSort scope) a.0 (b.0 ∷ []) h)))

  layer : (y : Term-F ((t : Term) × Applies t)) → Applies (roll-Term (map-Term ((t : Term) × Applies t) Term (λ e. e.0) y))
  layer (Term-F.Number n) h = simp fold-roll-Term
  layer Term-F.Null h = simp fold-roll-Term
  layer (Term-F.Name n) h = simp fold-roll-Term
  layer (Term-F.Apply func args) h =
      let ts : List Term = map (λ e. e.0) args in
      let follows = applications_follow_profiles scope func ts h.sort h.is in
      simp fold-roll-Term (and_from (test func) (list_all (λ b. b) (map (applies_only test) ts)) (known func follows.profile follows.known)
      (arguments args (parts_of_sorted_terms_are_sorted scope (Term-F.Apply func ts) h)))
  layer (Term-F.Add a b) h = simp fold-roll-Term (both_apply a b (parts_of_sorted_terms_are_sorted scope (Term-F.Add a.0 b.0) h))
  layer (Term-F.Sub a b) h = simp fold-roll-Term (both_apply a b (parts_of_sorted_terms_are_sorted scope (Term-F.Sub a.0 b.0) h))
  layer (Term-F.Neg a) h = simp fold-roll-Term (a.1 (All-head (HasSort scope) a.0 [] (parts_of_sorted_terms_are_sorted scope (Term-F.Neg a.0) h)))
  layer (Term-F.Scale n a) h = simp fold-roll-Term (a.1 (All-head (HasSort scope) a.0 [] (parts_of_sorted_terms_are_sorted scope (Term-F.Scale n a.0) h)))

  term_applies : (t : Term) (sort : Sort) → has_form (forms_of scope t) sort ≡ true → applies_only test t ≡ true
  term_applies t sort e = ind-Term Applies (λ x y is. subst (λ z. Applies (roll-Term z)) is (layer y)) t (record { sort = sort; is = e })

  sorted_atom_applies : (atom : Atom) → atom_is_sorted scope atom ≡ true → atom_applies test atom ≡ true
  sorted_atom_applies atom e =
      let sort = sort_of scope atom in
      let parts = and_parts (has_form (forms_of scope atom.left) sort && has_form (forms_of scope atom.right) sort) (relates sort atom.cmp) e in
      let sides = and_parts (has_form (forms_of scope atom.left) sort) (has_form (forms_of scope atom.right) sort) parts.0 in
      and_from (applies_only test atom.left) (applies_only test atom.right) (term_applies atom.left sort sides.0) (term_applies atom.right sort sides.1)

  abbrev IsSortedAtom : Atom → Type 0
  IsSortedAtom atom = atom_is_sorted scope atom ≡ true

  guard_applies : (atoms : List Atom) → All IsSortedAtom atoms → list_all (atom_applies test) atoms ≡ true
  guard_applies [] h = refl
  guard_applies (atom ∷ atoms) h =
      and_from (atom_applies test atom) (list_all (atom_applies test) atoms) (sorted_atom_applies atom (All-head IsSortedAtom atom atoms h))
      (guard_applies atoms (All-tail IsSortedAtom atom atoms h))

  rows_apply : (sort : Sort) (rows : List Row) → All (IsSortedRow scope sort) rows → list_all (row_applies test) rows ≡ true
  rows_apply sort [] h = refl
  rows_apply sort (row ∷ rows) h =
      let this = All-head (IsSortedRow scope sort) row rows h in
      and_from (row_applies test row) (list_all (row_applies test) rows)
      (and_from (list_all (atom_applies test) row.guard) (applies_only test row.value) (guard_applies row.guard this.guard) (term_applies row.value sort this.value))
      (rows_apply sort rows (All-tail (IsSortedRow scope sort) row rows h))

  sorted_table_applies : (sort : Sort) (table : Table) → IsSortedTable scope sort table → table_applies test table ≡ true
  sorted_table_applies sort table h =
      and_from (list_all (row_applies test) table.rows) (applies_only test table.otherwise) (rows_apply sort table.rows h.rows) (term_applies table.otherwise sort h.otherwise)

-- ---- levels
-- what is found is one of the functions
found_holds : (P : DeclaredFunction → Type 0) (fs : List DeclaredFunction) (word : Word) (f : DeclaredFunction) → All P fs → function_named fs word ≡ Some f → P f
found_holds P [] word f h e = absurd (none-some f e)
found_holds P (g ∷ fs) word f h e = by (λ i. found_holds P fs word f (All-tail P g fs h) i) (bytes_eq g.name word) e
  where
    by : (function_named fs word ≡ Some f → P f) → (b : Bool) → cond b (Some g) (function_named fs word) ≡ Some f → P f
    by rest true e = subst P (same_Some g f e) (All-head P g fs h)
    by rest false e = rest e

module _ (p : Problem) (levelled : AreLevelled p) where
  -- a function that is known in a table of this level has a lower one
  known_is_lower : (level : ℕ) (word : Word) (profile : Profile) → profile_below level (function_named (functions p.decls) word) ≡ Some profile
      → is_lower (declared_level p) level word ≡ true
  known_is_lower level word profile e = by (function_named (functions p.decls) word) refl e
    where
      within : (f : DeclaredFunction) → 1 ≤ f.level → (b : Bool) → nat_lt f.level level ≡ b → cond b (Some f.profile) None ≡ Some profile → (nat_lt 0 f.level && nat_lt f.level level) ≡ true
      within f low true is e = and_from (nat_lt 0 f.level) (nat_lt f.level level) (lt-ltb 0 f.level low) is
      within f low false is e = absurd (none-some profile e)

      by : (o : Option DeclaredFunction) → function_named (functions p.decls) word ≡ o → profile_below level o ≡ Some profile → (nat_lt 0 (level_of o) && nat_lt (level_of o) level) ≡ true
      by None is e = absurd (none-some profile e)
      by (Some f) is e = within f (found_holds (IsLevelled p) (functions p.decls) word f levelled is).low (nat_lt f.level level) refl e

  level_is_high : (word : Word) → declared_level p word ≤ 16
  level_is_high word = by (function_named (functions p.decls) word) refl
    where
      by : (o : Option DeclaredFunction) → function_named (functions p.decls) word ≡ o → level_of o ≤ 16
      by None is = omega arith
      by (Some f) is = (found_holds (IsLevelled p) (functions p.decls) word f levelled is).high

  abbrev IsLowerTable : Table → Type 0
  IsLowerTable table = table_applies (is_lower (declared_level p) (declared_level p table.func)) table ≡ true

  table_is_lower : (size : ℕ) (f : DeclaredFunction) (table : Table) → IsLevelled p f → IsTableOf size p f table → IsLowerTable table
  table_is_lower size f table is fit =
      let same : declared_level p table.func ≡ f.level = subst (λ (name : Word). level_of (function_named (functions p.decls) name) ≡ f.level) (sym fit.name) (ap level_of is.first) in
      subst (λ (level : ℕ). table_applies (is_lower (declared_level p) level) table ≡ true) (sym same)
      (sorted_table_applies (table_scope size p f.profile.args f.level) (is_lower (declared_level p) f.level) (known_is_lower f.level) f.profile.result table fit.sorted)

  tables_are_lower : (size : ℕ) (fs : List DeclaredFunction) (tables : List Table) → All (IsLevelled p) fs → TablesFit size p fs tables → All IsLowerTable tables
  tables_are_lower size [] [] is fit = All-nil IsLowerTable
  tables_are_lower size [] (table ∷ tables) is fit = absurd fit
  tables_are_lower size (f ∷ fs) [] is fit = absurd fit
  tables_are_lower size (f ∷ fs) (table ∷ tables) is fit =
      All-cons IsLowerTable table tables (table_is_lower size f table (All-head (IsLevelled p) f fs is) fit.0) (tables_are_lower size fs tables (All-tail (IsLevelled p) f fs is) fit.1)

pub well_formed_tables_are_lower : WellFormedTablesAreLower
well_formed_tables_are_lower s p fits levelled = tables_are_lower p levelled s.universe (functions p.decls) s.tables levelled fits.tables_fit

pub functions_follow_tables : FunctionsFollowTables
unfolding functions_of
functions_follow_tables s p fits levelled func args =
    let lower = well_formed_tables_are_lower s p fits levelled in
    tables_local (declared_level p) (constant s.consts) func args (functions_below 15 s) (functions_below 16 s)
    (λ word is xs.
    let parts = and_parts (nat_lt 0 (declared_level p word)) (nat_lt (declared_level p word) (declared_level p func)) is in
    let low : 0 < declared_level p word = ltb-true 0 (declared_level p word) parts.0 in
    let high : declared_level p word < declared_level p func = ltb-true (declared_level p word) (declared_level p func) parts.1 in
    let most : declared_level p func ≤ 16 = level_is_high p levelled func in
    fuel_is_enough s (declared_level p) lower 15 16 word (omega arith) (omega arith) (omega arith) xs)
    s.tables lower
