-- The plan and the tables of a group of fields.
use Rattle.std.proofs.Common.{◌≡◌, ◌∙◌, ◌≤◌, ◌<◌, inl, inr, ◌⊎◌, ℕ, List, [], ◌∷◌, ◌++◌, map, length, append-nil, Bool, true, false, ◌&&◌, ◌||◌, not, IsTrue, Option, Some, None, refl, sym, ap, subst, arith}
use Rattle.std.specs.List.{All, AllZip, Contains, list_all}
use Rattle.std.proofs.lemmas.Bool.{and_from, and_parts, or_right}
use Rattle.std.proofs.lemmas.List.Elements.{All-cons, All-contains, All-head, All-map, All-nil, All-tail}
use Rattle.std.proofs.lemmas.Option.{slice_get_within}
use Rattle.hp_tree.specs.declared.term.Term.{Term, ind-Term, map-Term, out-Term, out-roll-Term, roll-Term}
use Rattle.hp_tree.specs.declared.term.Term.TheOpen.{Term-F}
use Rattle.hp_tree.specs.declared.problem.Atom.{Atom}
use Rattle.hp_tree.specs.declared.problem.Sort.{Sort}
use Rattle.hp_tree.specs.declared.problem.Sort.TheVariants.{Num, Idx, Ptr}
use Rattle.hp_tree.specs.declared.problem.Var.{Var}
use Rattle.hp_tree.specs.Value.{Word}
use Rattle.hp_terms.specs.Occurring.{joined}
use Rattle.hp_terms.specs.Scope.{Profile}
use Rattle.hp_lit.specs.declared.line.Arg.{Arg}
use Rattle.hp_lit.specs.Sorts.{HaveSorts}
use Rattle.hp_lit.specs.Truth.{Values}
use Rattle.hp_local.specs.Fields.{field_table}
use Rattle.hp_local.specs.Sorts.{IsTableScope, field_sort}
use Rattle.hp_local.proofs.ClassSorts.{field_tables_are_sorted}
use Rattle.hp_local.proofs.Lists.{All-by, contains_first, contains_later, map_contains}
use Rattle.hp_local.proofs.Lower.{field_tables_apply_none}
use Rattle.hp_defs.specs.Fit.{ArgFits, IsFitNames}
use Rattle.hp_defs.specs.Made.{IsMade, IsSmallArg}
use Rattle.hp_defs.specs.Names.{BeginsNames, NameList, sorts}
use Rattle.hp_model.specs.declared.structure.Table.{Table}
use Rattle.hp_model.specs.WellFormed.{IsSortedTable}
use Rattle.hp_norm.specs.declared.flat.FlatClause.{FlatClause}
use Rattle.hp_norm.specs.Loads.{places_of}
use Rattle.hp_norm.specs.Opening.{mentions}
use Rattle.hp_norm.specs.Plain.{is_lone_variable, is_plain_argument}
use Rattle.hp_norm.specs.Scopes.{clause_scope, function_profile}
use Rattle.hp_norm.proofs.Seeing.{by_term_roll}
use Rattle.hp_instance.specs.declared.tuple.Tuple.{Tuple}
use Rattle.hp_instance.specs.Laws.{TupleFits}
use Rattle.hp_instance.specs.Plain.{HasPlainIndexes, are_plain_at, arguments_in, has_plain_indexes, is_plain_at, plain_step}
use Rattle.hp_instance.proofs.PlainTuples.{plain_tuples_fit}
use Rattle.hp_class.specs.Frame.{definition_facts, is_function}
use Rattle.hp_class.specs.Group.{PlanFits, PlannedFits}
use Rattle.hp_class.specs.Law.{IsTableAt}
use Rattle.hp_class.proofs.Stays.{flat_stays, tuple_stays}
use Rattle.hp_flatten.specs.declared.application.Application.{Application}
use Rattle.hp_flatten.specs.Applications.{applications, atoms_applications, clause_applications}
use Rattle.hp_flatten.specs.Sorts.{is_ptr}
use Rattle.hp_flatten.proofs.HoldsTerms.{applications_apply, applications_at, back, front}
use Rattle.hp_tuple_lines.specs.TupleLines.{FitsOver, planned_over, shown_tuple, tuples_over, tuples_plan}
use Rattle.hp_tuple_lines.proofs.Tuples.{tuple_inside, tuple_length}
use Rattle.hp_tuples.specs.Tuples.{all_tuples}
use Rattle.hp_null_guards.specs.Laws.{IsFieldProfile, IsFieldRead, IsFieldSort, IsLowerArgument}
use Rattle.hp_null_guards.specs.Rules.{is_over_pointers, is_no_index}
use Rattle.hp_fields.specs.Fields.{IsField, IsFieldClause, IsFieldGroup, fields_plan, fields_tables, gives, pointer_terms}
use Rattle.hp_fields.proofs.Pointers.{field_facts, field_gives, fields_later, terms_fit}

-- ---- tables
result_is : (s : Sort) → IsFieldSort s → field_sort (is_ptr s) ≡ s
result_is Num h = refl
result_is Idx h = absurd h
result_is Ptr h = refl

field_fits : (size : ℕ) (names : NameList) (v : Values) (applied : List ℕ) (func : ℕ) (word : Word) → IsMade names → IsFitNames names → HaveSorts (sorts names) v → IsField names func word → 1 ≤ size
    → IsTableAt size names applied func (field_table size (gives names) (definition_facts names.signatures v names.definitions) word)
field_fits size names v applied func word made fit have f some =
    let facts = definition_facts names.signatures v names.definitions in
    let result : field_sort (gives names word) ≡ f.signature.result = ap field_sort (field_gives names made func word f) ∙ result_is f.signature.result f.result in
    record {
      signature = f.signature;
      known = f.known;
      name = sym f.name;
      arguments = sym (ap (λ (ss : List Sort). length ss) f.arguments);
      applies = field_tables_apply_none (λ w. is_function names applied w) size (gives names) word facts;
      sorted = λ scope h. subst (λ (s : Sort). IsSortedTable scope s (field_table size (gives names) facts word)) result
          (field_tables_are_sorted size (gives names) scope word facts some (subst (λ (ss : List Sort). IsTableScope size ss scope) f.arguments h.arguments)
          (field_facts names made v have fit func word f));
    }

tables_fit : (size : ℕ) (names : NameList) (v : Values) (applied : List ℕ) → IsMade names → IsFitNames names → HaveSorts (sorts names) v → (own : List ℕ) (words : List Word)
    → AllZip (IsField names) own words → 1 ≤ size → AllZip (IsTableAt size names applied) own (fields_tables size words names v)
tables_fit size names v applied made fit have [] [] h some = tt
tables_fit size names v applied made fit have [] (w ∷ ws) h some = absurd h
tables_fit size names v applied made fit have (k ∷ ks) [] h some = absurd h
tables_fit size names v applied made fit have (k ∷ ks) (w ∷ ws) h some = (field_fits size names v applied k w made fit have h.0 some, tables_fit size names v applied made fit have ks ws h.1 some)

pub fields_fit : (size : ℕ) (names : NameList) (v : Values) (own : List ℕ) (words : List Word) (applied : List ℕ) (clauses : List FlatClause) (terms : List Arg)
    → IsFieldGroup names own words applied clauses terms → IsMade names → IsFitNames names → HaveSorts (sorts names) v → 1 ≤ size → AllZip (IsTableAt size names applied) own (fields_tables size words names v)
fields_fit size names v own words applied clauses terms lent made fit have some =
    tables_fit size names v applied made fit have own words (fields_later lent.front names lent.begins.signatures own words lent.is.functions) some

-- ---- clauses with pointers as arguments
module _ (names : NameList) (own : Word → Bool) (c : FlatClause) where
  abbrev vars : List Var
  vars = c.vars

  abbrev Reads : Application → Type 0
  Reads = IsFieldRead names own vars

  abbrev places : Word → List Sort
  places = places_of (clause_scope names vars)

  abbrev plain : Term → Bool
  plain = has_plain_indexes places vars

  abbrev Claim : Term → Type 0
  Claim t = All Reads (applications t) → plain t ≡ true

  abbrev Part : Type 0
  Part = (t : Term) × Claim t

  rolled : (z : Term-F Term) → plain (roll-Term z) ≡ plain_step places vars (roll-Term z) (map-Term Term Bool plain z)
  rolled z = by_term_roll (plain_step places vars) z

  pointer_plain : (args : List Term) → are_plain_at vars (Ptr ∷ []) args ≡ true
  pointer_plain [] = refl
  pointer_plain (t ∷ []) = refl
  pointer_plain (t ∷ u ∷ args) = refl

  lower_at : (s : Sort) (t : Term) → IsLowerArgument vars s t → is_plain_at vars s t ≡ true
  lower_at Num t h = refl
  lower_at Idx t (inl e) = absurd (let no : Idx ≡ Num = e in cc)
  lower_at Idx t (inr h) = or_right (is_lone_variable vars t) (not (mentions vars t)) (ap not h.0)
  lower_at Ptr t h = refl

  lowers_at : (ss : List Sort) (args : List Term) → AllZip (IsLowerArgument vars) ss args → are_plain_at vars ss args ≡ true
  lowers_at [] [] h = refl
  lowers_at [] (t ∷ args) h = refl
  lowers_at (s ∷ ss) [] h = refl
  lowers_at (s ∷ ss) (t ∷ args) h = and_from (is_plain_at vars s t) (are_plain_at vars ss args) (lower_at s t h.0) (lowers_at ss args h.1)

  args_plain : (a : Application) → Reads a → are_plain_at vars (places a.func) a.args ≡ true
  args_plain a r = ap (λ (o : Option Profile). are_plain_at vars (sorts_in o) a.args) r.known ∙ by (own a.func) refl
    where
      sorts_in : Option Profile → List Sort
      sorts_in None = []
      sorts_in (Some p) = p.args

      by : (b : Bool) → own a.func ≡ b → are_plain_at vars r.profile.args a.args ≡ true
      by true e = subst (λ (ss : List Sort). are_plain_at vars ss a.args ≡ true) (sym (r.field e).arguments) (pointer_plain a.args)
      by false e = lowers_at r.profile.args a.args (r.lower e).arguments

  parts_plain : (args : List Part) → All Reads (joined (map applications (map (λ (e : Part). e.0) args))) → list_all (λ b. b) (map plain (map (λ (e : Part). e.0) args)) ≡ true
  parts_plain [] h = refl
  parts_plain (e ∷ args) h =
      let rest = joined (map applications (map (λ (x : Part). x.0) args)) in
      and_from (plain e.0) (list_all (λ b. b) (map plain (map (λ (x : Part). x.0) args))) (e.1 (front Reads (applications e.0) rest h)) (parts_plain args (back Reads (applications e.0) rest h))

  two_plain : (a b : Part) → All Reads (applications a.0 ++ applications b.0) → plain a.0 && plain b.0 ≡ true
  two_plain a b h = and_from (plain a.0) (plain b.0) (a.1 (front Reads (applications a.0) (applications b.0) h)) (b.1 (back Reads (applications a.0) (applications b.0) h))

  layer_plain : (y : Term-F Part) → Claim (roll-Term (map-Term Part Term (λ e. e.0) y))
  layer_plain (Term-F.Number q) h = rolled (Term-F.Number q)
  layer_plain Term-F.Null h = rolled Term-F.Null
  layer_plain (Term-F.Name word) h = rolled (Term-F.Name word)
  layer_plain (Term-F.Apply func args) h =
      let terms = map (λ (e : Part). e.0) args in
      let this : Application = record { func = func; args = terms } in
      let all = subst (All Reads) (applications_apply func terms) h in
      rolled (Term-F.Apply func terms)
      ∙ and_from (are_plain_at vars (places func) (arguments_in (out-Term (roll-Term (Term-F.Apply func terms))))) (list_all (λ b. b) (map plain terms))
      (ap (λ (z : Term-F Term). are_plain_at vars (places func) (arguments_in z)) (out-roll-Term (Term-F.Apply func terms)) ∙ args_plain this (All-head Reads this (joined (map applications terms)) all))
      (parts_plain args (All-tail Reads this (joined (map applications terms)) all))
  layer_plain (Term-F.Add a b) h = rolled (Term-F.Add a.0 b.0) ∙ two_plain a b (subst (All Reads) (applications_at (Term-F.Add a.0 b.0)) h)
  layer_plain (Term-F.Sub a b) h = rolled (Term-F.Sub a.0 b.0) ∙ two_plain a b (subst (All Reads) (applications_at (Term-F.Sub a.0 b.0)) h)
  layer_plain (Term-F.Neg a) h = rolled (Term-F.Neg a.0) ∙ a.1 (subst (All Reads) (applications_at (Term-F.Neg a.0)) h)
  layer_plain (Term-F.Scale q a) h = rolled (Term-F.Scale q a.0) ∙ a.1 (subst (All Reads) (applications_at (Term-F.Scale q a.0)) h)

  term_plain : (t : Term) → Claim t
  term_plain t = ind-Term Claim (λ x y is. subst (λ z. Claim (roll-Term z)) is (layer_plain y)) t

  pub atoms_plain : (atoms : List Atom) → All Reads (atoms_applications atoms) → All (HasPlainIndexes names c) atoms
  atoms_plain [] h = All-nil (HasPlainIndexes names c)
  atoms_plain (a ∷ atoms) h =
      let sides = front Reads (applications a.left ++ applications a.right) (atoms_applications atoms) h in
      All-cons (HasPlainIndexes names c) a atoms
      (record { left = term_plain a.left (front Reads (applications a.left) (applications a.right) sides); right = term_plain a.right (back Reads (applications a.left) (applications a.right) sides) })
      (atoms_plain atoms (back Reads (applications a.left ++ applications a.right) (atoms_applications atoms) h))

-- ---- the plan
pub ptr_sort : (s : Sort) → is_ptr s ≡ true → s ≡ Ptr
ptr_sort Num e = absurd (let no : false ≡ true = e in cc)
ptr_sort Idx e = absurd (let no : false ≡ true = e in cc)
ptr_sort Ptr e = refl

pub begins_itself : (names : NameList) → BeginsNames names names
begins_itself names = record { constants = refl; signatures = refl; definitions = record { more = []; all = sym (append-nil names.definitions) } }

-- a pointer for each variable
for_each : (ss : List Sort) (vars : List Var) (args : List Arg) → list_all (λ v. is_ptr v.sort) vars ≡ true → length args ≡ length vars → ((x : Arg) → Contains args x → ArgFits ss Ptr x)
    → AllZip (λ (v : Var) x. ArgFits ss v.sort x) vars args
for_each ss [] [] e many h = tt
for_each ss [] (x ∷ args) e many h = absurd (omega (arith, many))
for_each ss (v ∷ vars) [] e many h = absurd (omega (arith, many))
for_each ss (v ∷ vars) (x ∷ args) e many h =
    let w = and_parts (is_ptr v.sort) (list_all (λ (u : Var). is_ptr u.sort) vars) e in (
      subst (λ s. ArgFits ss s x) (sym (ptr_sort v.sort w.0)) (h x (contains_first x args)),
      for_each ss vars args w.1 (omega (arith, many)) (λ y m. h y (contains_later x args y m)),
    )

module _ (names : NameList) (own : List ℕ) (words : List Word) (applied : List ℕ) (clauses : List FlatClause) (terms : List Arg) (lent : IsFieldGroup names own words applied clauses terms) (made : IsMade names) where
  abbrev old : NameList
  old = lent.front

  term_fits : (x : Arg) → Contains terms x → ArgFits (sorts old) Ptr x × IsSmallArg x
  term_fits x m = terms_fit old old (begins_itself old) x (subst (λ (xs : List Arg). Contains xs x) lent.terms_are m)

  tuple_fits : (c : FlatClause) → IsFieldClause old own applied c → (args : List Arg) → Contains (all_tuples terms (length c.vars)) args → TupleFits names c args
  tuple_fits c h args m =
      let inside : (x : Arg) → Contains args x → Contains terms x = tuple_inside terms (length c.vars) args m in
      let guard = list_all (is_no_index old c) c.guard in
      let head = list_all (is_no_index old c) c.head in
      let pointers = (and_parts (list_all (λ v. is_ptr v.sort) c.vars) (guard && head) h.over).0 in
      let test = λ (word : Word). is_function old own word in
      let Reads = IsFieldRead old test c.vars in
      tuple_stays old names c args lent.begins made h.flat
      (plain_tuples_fit old c args h.flat (for_each (sorts old) c.vars args pointers (tuple_length terms (length c.vars) args m) (λ x n. (term_fits x (inside x n)).0))
      (All-by IsSmallArg args (λ x n. (term_fits x (inside x n)).1))
      (atoms_plain old test c c.guard (front Reads (atoms_applications c.guard) (atoms_applications c.head) h.reads))
      (atoms_plain old test c c.head (back Reads (atoms_applications c.guard) (atoms_applications c.head) h.reads)))

  pub clause_fits : (c : FlatClause) → Contains clauses c → FitsOver names terms c
  clause_fits c m =
      let h = All-contains (IsFieldClause old own applied) clauses c lent.is.all m in
      record {
        flat = flat_stays old names c lent.begins made h.flat;
        few = h.few;
        tuples = All-map (λ (t : Tuple). TupleFits names c t.args) shown_tuple (all_tuples terms (length c.vars))
            (All-by (λ args. TupleFits names c args) (all_tuples terms (length c.vars)) (tuple_fits c h));
      }

  pub fields_clauses_fit : All (FitsOver names terms) clauses
  fields_clauses_fit = All-by (FitsOver names terms) clauses clause_fits

  pub fields_plan_fits : PlanFits names clauses (fields_plan clauses terms names)
  fields_plan_fits =
      All-by (PlannedFits names clauses) (tuples_plan terms clauses)
      (λ p m. (let w = map_contains (planned_over terms) clauses p m in
      let h = clause_fits w.0 w.1 in
      subst (PlannedFits names clauses) w.2 (record { among = w.1; flat = h.flat; tuples = h.tuples })))

-- functions of a group are known
pub fields_known : (names : NameList) (own : List ℕ) (words : List Word) → AllZip (IsField names) own words → All (λ func. func < length names.signatures) own
fields_known names [] [] h = All-nil (λ func. func < length names.signatures)
fields_known names [] (w ∷ ws) h = absurd h
fields_known names (k ∷ ks) [] h = absurd h
fields_known names (k ∷ ks) (w ∷ ws) h =
    All-cons (λ func. func < length names.signatures) k ks (slice_get_within names.signatures k h.0.signature h.0.known) (fields_known names ks ws h.1)
