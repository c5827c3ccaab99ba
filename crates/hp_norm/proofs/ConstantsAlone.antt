-- Sorted terms have the same values where the words that have a sort have; and so clauses need the declared constants alone.
use Rattle.std.proofs.Common.{◌≡◌, ◌&&◌, ◌||◌, not, Bool, true, false, List, [], ◌∷◌, map, Option, Some, None, refl, sym, ap, subst, ◌∙◌}
use Rattle.std.specs.Prelude.{ℕ, if◌then◌else◌}
use Rattle.std.specs.List.{All}
use Rattle.std.specs.Option.{option_or}
use Rattle.std.specs.Str.{bytes_eq}
use Rattle.std.proofs.lemmas.Bool.{or_from}
use Rattle.std.proofs.lemmas.List.Elements.{All-head, All-tail, All-weaker}
use Rattle.hp_math.specs.Rational.{ℚ, ◌+ℚ◌, ◌-ℚ◌, ◌*ℚ◌, neg_ℚ}
use Rattle.hp_tree.specs.declared.term.Term.{Term, fold-roll-Term, roll-Term, map-Term}
use Rattle.hp_tree.specs.declared.term.Term.TheOpen.{Term-F}
use Rattle.hp_tree.specs.declared.problem.Sort.{Sort}
use Rattle.hp_tree.specs.declared.problem.Var.{Var}
use Rattle.hp_tree.specs.declared.problem.Atom.{Atom}
use Rattle.hp_tree.specs.declared.problem.Clause.{Clause}
use Rattle.hp_tree.specs.declared.problem.Problem.{Problem}
use Rattle.hp_tree.specs.Universal.{AreSorted, assign, clause_at, universal}
use Rattle.hp_tree.specs.Value.{Environment, Functions, Word, all_true, atom_is_true, compares, one_true, value, value_step}
use Rattle.hp_terms.specs.Scope.{Scope}
use Rattle.hp_terms.specs.Sorting.{sort_of}
use Rattle.hp_terms.specs.Laws.{HasSort, parts_of}
use Rattle.hp_terms.proofs.Parts.{parts_of_sorted_terms_are_sorted}
use Rattle.hp_index.proofs.Layers.{Parts, bare, by_layers}
use Rattle.hp_defs.specs.declared.names.Constant.{Constant}
use Rattle.hp_base.proofs.SumsHold.{all_get}
use Rattle.hp_sorts.specs.Laws.{IsWellSortedAtom, IsWellSortedClause}
use Rattle.hp_sorts.specs.Numbered.{named}
use Rattle.hp_sorts.specs.Scopes.{problem_scope}
use Rattle.hp_sorts.specs.Symbols.{constant_names, constant_sorts}
use Rattle.hp_sorts.proofs.Faultless.{faultless_problems_are_well_sorted}
use Rattle.hp_norm.specs.Laws.{AgreeOnConstants, ClausesNeedConstantsAlone}
use Rattle.hp_norm.specs.Lines.{constants_of}
use Rattle.hp_norm.specs.Opening.{is_variable}
use Rattle.hp_norm.proofs.AtomsNamed.{IsSortedIn, has_sides}
use Rattle.hp_norm.proofs.ClauseScopes.{no_sort}
use Rattle.hp_norm.proofs.DeclaredWords.{word_is_constant}
use Rattle.hp_norm.proofs.FlatNamed.{variable_has_sort}
use Rattle.hp_norm.proofs.TermsNamed.{word_has_sort}

-- ---- over any scope
-- each word that has a sort has the same value in both environments
abbrev pub AgreeIn : Scope → Environment → Environment → Type 0
AgreeIn scope env other = (word : Word) (sort : Sort) → scope.name word ≡ Some sort → env word ≡ other word

module _ (scope : Scope) (env other : Environment) (functions : Functions) (agree : AgreeIn scope env other) where
  abbrev Same : Term → Type 0
  Same term = HasSort scope term → value env functions term ≡ value other functions term

  abbrev terms : List (Parts Same) → List Term
  terms args = map (λ (e : Parts Same). e.0) args

  word_same : (word : Word) → HasSort scope (roll-Term (Term-F.Name word)) → env word ≡ other word
  word_same word sorted = let own = word_has_sort scope word sorted in agree word own.0 own.1

  args_same : (args : List (Parts Same)) → All (HasSort scope) (terms args) → map (value env functions) (terms args) ≡ map (value other functions) (terms args)
  args_same [] sorted = refl
  args_same (arg ∷ args) sorted =
      let first = arg.1 (All-head (HasSort scope) arg.0 (terms args) sorted) in
      let rest = args_same args (All-tail (HasSort scope) arg.0 (terms args) sorted) in
      λ i. first i ∷ rest i

  -- one layer, its parts having the same values
  abbrev value_at : Environment → Term-F Term → ℚ
  value_at names z = value_step names functions (map-Term Term ℚ (value names functions) z)

  one_same : (a : Parts Same) → All (HasSort scope) (a.0 ∷ []) → value env functions a.0 ≡ value other functions a.0
  one_same a sorted = a.1 (All-head (HasSort scope) a.0 [] sorted)

  two_same : (a b : Parts Same) → All (HasSort scope) (a.0 ∷ b.0 ∷ []) → (value env functions a.0 ≡ value other functions a.0) × (value env functions b.0 ≡ value other functions b.0)
  two_same a b sorted = (a.1 (All-head (HasSort scope) a.0 (b.0 ∷ []) sorted), one_same b (All-tail (HasSort scope) a.0 (b.0 ∷ []) sorted))

  layer_same : (y : Term-F (Parts Same)) → HasSort scope (roll-Term (bare Same y)) → All (HasSort scope) (parts_of (bare Same y)) → value_at env (bare Same y) ≡ value_at other (bare Same y)
  layer_same (Term-F.Number q) own sorted = refl
  layer_same Term-F.Null own sorted = refl
  layer_same (Term-F.Name word) own sorted = word_same word own
  layer_same (Term-F.Apply func args) own sorted = ap (functions func) (args_same args sorted)
  layer_same (Term-F.Add a b) own sorted = let h = two_same a b sorted in (λ i. h.0 i +ℚ h.1 i)
  layer_same (Term-F.Sub a b) own sorted = let h = two_same a b sorted in (λ i. h.0 i -ℚ h.1 i)
  layer_same (Term-F.Neg a) own sorted = ap neg_ℚ (one_same a sorted)
  layer_same (Term-F.Scale q a) own sorted = ap (λ x. q *ℚ x) (one_same a sorted)

  term_same : (term : Term) → Same term
  term_same term = by_layers Same (λ y own.
      fold-roll-Term ℚ (value_step env functions) (bare Same y)
      ∙ layer_same y own (parts_of_sorted_terms_are_sorted scope (bare Same y) own)
      ∙ sym (fold-roll-Term ℚ (value_step other functions) (bare Same y))) term

  atom_same : (atom : Atom) → IsSortedIn scope atom → atom_is_true env functions atom ≡ atom_is_true other functions atom
  atom_same atom sorted =
      let sides = has_sides scope (sort_of scope atom) atom sorted in
      let left = term_same atom.left (record { sort = sort_of scope atom; is = sides.left }) in
      let right = term_same atom.right (record { sort = sort_of scope atom; is = sides.right }) in
      λ i. compares atom.cmp (left i) (right i)

  all_same : (atoms : List Atom) → All (IsSortedIn scope) atoms → all_true env functions atoms ≡ all_true other functions atoms
  all_same [] sorted = refl
  all_same (atom ∷ atoms) sorted =
      let first = atom_same atom (All-head (IsSortedIn scope) atom atoms sorted) in
      let rest = all_same atoms (All-tail (IsSortedIn scope) atom atoms sorted) in
      λ i. first i && rest i

  one_true_same : (atoms : List Atom) → All (IsSortedIn scope) atoms → one_true env functions atoms ≡ one_true other functions atoms
  one_true_same [] sorted = refl
  one_true_same (atom ∷ atoms) sorted =
      let first = atom_same atom (All-head (IsSortedIn scope) atom atoms sorted) in
      let rest = one_true_same atoms (All-tail (IsSortedIn scope) atom atoms sorted) in
      λ i. first i || rest i

-- ---- in a clause
-- variables have their values, and every other word the value that it had
values_same : (size : ℕ) (vars : List Var) (values : List ℚ) (env other : Environment) (word : Word) → AreSorted size vars values → (is_variable vars word ≡ false → env word ≡ other word)
    → assign vars values env word ≡ assign vars values other word
values_same size [] [] env other word sorted same = same refl
values_same size [] (x ∷ values) env other word sorted same = absurd sorted
values_same size (v ∷ vars) [] env other word sorted same = absurd sorted
values_same size (v ∷ vars) (x ∷ values) env other word sorted same = by (bytes_eq v.name word) refl (values_same size vars values env other word sorted.1)
  where
    by : (b : Bool) → bytes_eq v.name word ≡ b → ((is_variable vars word ≡ false → env word ≡ other word) → assign vars values env word ≡ assign vars values other word)
        → (if b then x else assign vars values env word) ≡ (if b then x else assign vars values other word)
    by true e rest = refl
    by false e rest = rest (λ none. same (or_from (bytes_eq v.name word) (is_variable vars word) e none))

module _ (p : Problem) (env other : Environment) (agree : AgreeOnConstants p env other) where
  -- a word with a sort that is no variable's is that of a constant
  constant_same : (vars : List Var) (word : Word) (sort : Sort) → (problem_scope p vars).name word ≡ Some sort → is_variable vars word ≡ false → env word ≡ other word
  constant_same vars word sort e none =
      let no_variable : named word (map (λ (v : Var). v.name) vars) (map (λ (v : Var). v.sort) vars) ≡ None = variable_has_sort vars word ∙ no_sort vars word none in
      let own = sym (ap (λ (o : Option Sort). option_or o (named word (constant_names p.decls) (constant_sorts p.decls))) no_variable) ∙ e in
      let c = word_is_constant p word sort own in
      subst (λ (w : Word). env w ≡ other w) c.name (all_get (λ (x : Constant). env x.name ≡ other x.name) (constants_of p.decls) c.at c.constant agree c.there)

  -- so environments with the same values of the variables agree in the clause
  agree_with : (size : ℕ) (vars : List Var) (values : List ℚ) → AreSorted size vars values → AgreeIn (problem_scope p vars) (assign vars values env) (assign vars values other)
  agree_with size vars values sorted word sort e = values_same size vars values env other word sorted (constant_same vars word sort e)

  sorted_in : (vars : List Var) (atoms : List Atom) → All (IsWellSortedAtom p vars) atoms → All (IsSortedIn (problem_scope p vars)) atoms
  sorted_in vars atoms all = All-weaker (IsWellSortedAtom p vars) (IsSortedIn (problem_scope p vars)) (λ atom h. h.sorted) atoms all

  clause_same : (functions : Functions) (clause : Clause) → IsWellSortedClause p clause → (size : ℕ) (values : List ℚ) → AreSorted size clause.vars values
      → clause_at env functions (universal clause) values ≡ clause_at other functions (universal clause) values
  clause_same functions clause well size values sorted =
      let vars = clause.vars in
      let agreed = agree_with size vars values sorted in
      let guard = all_same (problem_scope p vars) (assign vars values env) (assign vars values other) functions agreed clause.guard (sorted_in vars clause.guard well.guard) in
      let head = one_true_same (problem_scope p vars) (assign vars values env) (assign vars values other) functions agreed clause.head (sorted_in vars clause.head well.head) in
      λ i. not (guard i) || head i

pub clauses_need_constants_alone : ClausesNeedConstantsAlone
clauses_need_constants_alone p env other functions agree sorted = λ k d within. clause_same p env other agree functions _ ((faultless_problems_are_well_sorted p sorted).clauses k d within)
