-- One step of a walk along a list, seen from what is left of the list.
use Rattle.std.proofs.Common.{◌≡◌, ℕ, ◌+◌, ◌<◌, ◌≤◌, ◌&&◌, List, [], ◌∷◌, ◌++◌, ◌||◌, suc, Bool, true, false, map, length, get_or, drop, Option, Some, None, Result, refl, sym, ap, subst, ◌∙◌, arith, add-one, drop-cons, append_assoc, append-nil, if◌then◌else◌}
use Rattle.std.specs.List.{list_all}
use Rattle.std.specs.Option.{option_or}
use Rattle.hp_tree.specs.declared.problem.Sort.{Sort}
use Rattle.hp_tree.specs.declared.problem.Var.{Var}
use Rattle.hp_tree.specs.declared.problem.Clause.{Clause}
use Rattle.hp_tree.specs.declared.problem.Decl.{Decl}
use Rattle.hp_tree.specs.declared.problem.Decl.TheVariants.{Const, Fun}
use Rattle.hp_terms.specs.declared.forms.Forms.{Forms}
use Rattle.hp_terms.specs.Sorting.{fit, has_form}
use Rattle.hp_sorts.specs.declared.fault.SortErr.{SortErr}
use Rattle.hp_sorts.specs.declared.fault.SortErr.TheVariants.{Twice, Level, Unknown, Arity, Mismatch, Memory}
use Rattle.hp_sorts.specs.declared.tables.SortTable.{SortTable}
use Rattle.hp_sorts.specs.declared.tables.Tables.{Tables}
use Rattle.hp_sorts.specs.declared.tables.Signature.{Signature}
use Rattle.hp_sorts.specs.Numbered.{Name, is_among}
use Rattle.hp_sorts.specs.Symbols.{declare, variables, joined, is_declared, constant_names, constant_sorts, function_names, signatures}
use Rattle.hp_sorts.specs.Faults.{decl_fault, decls_fault, clause_fault, clauses_fault, vars_fault, atoms_fault, IsCause, Answers}

-- the rest from a place on begins with what stands there
rest : {X : Type 0} (xs : List X) (i : ℕ) (d : X) → i < length xs → drop i xs ≡ get_or xs i d ∷ drop (i + 1) xs
rest xs i d h = rw add-one (drop-cons xs i d h)

and-false : (b : Bool) → (b && false) ≡ false
and-false true = refl
and-false false = refl

pub all_rest : {X : Type 0} (p : X → Bool) (xs : List X) (i : ℕ) (d : X) → i < length xs
    → list_all (λ b. b) (map p (drop i xs)) ≡ (p (get_or xs i d) && list_all (λ b. b) (map p (drop (i + 1) xs)))
all_rest p xs i d h = ap (λ ys. list_all (λ b. b) (map p ys)) (rest xs i d h)

pub fit_rest : {X : Type 0} (f : X → Forms) (xs : List X) (sorts : List Sort) (i : ℕ) (d : X) (e : Sort) → i < length xs → i < length sorts
    → fit (map f (drop i xs)) (drop i sorts) ≡ (has_form (f (get_or xs i d)) (get_or sorts i e) && fit (map f (drop (i + 1) xs)) (drop (i + 1) sorts))
fit_rest f xs sorts i d e h k = λ j. fit (map f (rest xs i d h j)) (rest sorts i e k j)

pub fit_lengths : {X : Type 0} (f : X → Forms) (xs : List X) (sorts : List Sort) → (length xs ≡ length sorts → ⊥) → fit (map f xs) sorts ≡ false
fit_lengths f [] [] h = absurd (h refl)
fit_lengths f [] (sort ∷ sorts) h = refl
fit_lengths f (x ∷ xs) [] h = refl
fit_lengths f (x ∷ xs) (sort ∷ sorts) h = ap (λ b. has_form (f x) sort && b) (fit_lengths f xs sorts (λ e. h (ap suc e))) ∙ and-false (has_form (f x) sort)

pub decls_fault_rest : (s : Tables) (before : ℕ) (decls : List Decl) (i : ℕ) (d : Decl) → i < length decls
    → decls_fault s before (drop i decls) ≡ option_or (decl_fault s (before + 1) (get_or decls i d)) (decls_fault (declare s (get_or decls i d)) (before + 1) (drop (i + 1) decls))
decls_fault_rest s before decls i d h = ap (decls_fault s before) (rest decls i d h)

pub clauses_fault_rest : (s : Tables) (before : ℕ) (clauses : List Clause) (i : ℕ) (d : Clause) → i < length clauses
    → clauses_fault s before (drop i clauses) ≡ option_or (clause_fault s (before + 1) (get_or clauses i d)) (clauses_fault s (before + 1) (drop (i + 1) clauses))
clauses_fault_rest s before clauses i d h = ap (clauses_fault s before) (rest clauses i d h)

pub vars_fault_rest : (s : Tables) (item : ℕ) (earlier : List Name) (vars : List Var) (i : ℕ) (d : Var) → i < length vars
    → vars_fault s item earlier (drop i vars) ≡ (if is_declared s (get_or vars i d).name || is_among (get_or vars i d).name earlier
    then Some (Twice item) else vars_fault s item (earlier ++ (get_or vars i d).name ∷ []) (drop (i + 1) vars))
vars_fault_rest s item earlier vars i d h = ap (vars_fault s item earlier) (rest vars i d h)

-- what is declared before a declaration and by it
joined-cons : (s : Tables) (decl : Decl) (decls : List Decl) → joined s (decl ∷ decls) ≡ joined (declare s decl) decls
joined-cons s (Const name sort) decls = λ i. record {
  constants = record {
    names = sym (append_assoc s.constants.names (name ∷ []) (constant_names decls)) i;
    sorts = sym (append_assoc s.constants.sorts (sort ∷ []) (constant_sorts decls)) i;
  };
  functions = s.functions ++ function_names decls;
  signatures = s.signatures ++ signatures decls;
}
joined-cons s (Fun name args value level) decls =
    let signature : Signature = record { args = args; result = value; level = level } in
    λ i. record {
      constants = record { names = s.constants.names ++ constant_names decls; sorts = s.constants.sorts ++ constant_sorts decls };
      functions = sym (append_assoc s.functions (name ∷ []) (function_names decls)) i;
      signatures = sym (append_assoc s.signatures (signature ∷ []) (signatures decls)) i;
    }

pub joined_rest : (s : Tables) (decls : List Decl) (i : ℕ) (d : Decl) → i < length decls
    → joined s (drop i decls) ≡ joined (declare s (get_or decls i d)) (drop (i + 1) decls)
joined_rest s decls i d h = ap (joined s) (rest decls i d h) ∙ joined-cons s (get_or decls i d) (drop (i + 1) decls)

-- an error that names the first of two faults names what comes first
pub fails_first : (first next whole : Option SortErr) (err : SortErr) → whole ≡ option_or first next → IsCause first err → IsCause whole err
fails_first first next whole (Twice item) is h = is ∙ ap (λ f. option_or f next) h
fails_first first next whole (Level item) is h = is ∙ ap (λ f. option_or f next) h
fails_first first next whole (Unknown item) is h = is ∙ ap (λ f. option_or f next) h
fails_first first next whole (Arity item) is h = is ∙ ap (λ f. option_or f next) h
fails_first first next whole (Mismatch item) is h = is ∙ ap (λ f. option_or f next) h
fails_first first next whole Memory is h = tt

pub joined_nil : (s : Tables) → joined s [] ≡ s
joined_nil s = λ i. record {
  constants = record { names = append-nil s.constants.names i; sorts = append-nil s.constants.sorts i };
  functions = append-nil s.functions i;
  signatures = append-nil s.signatures i;
}

-- where the first of two faults is none, the second one is the fault
pub next_fault : (first next whole : Option SortErr) → whole ≡ option_or first next → first ≡ None → next ≡ whole
next_fault first next whole is none = sym (is ∙ ap (λ f. option_or f next) none)

-- a clause whose variables are right has the faults of its atoms
pub clause_answers : {X : Type 0} (P : X → Type 0) (found : Result X SortErr) (s : Tables) (table : SortTable) (item : ℕ) (clause : Clause) (vars : List Var)
    → vars ≡ clause.vars → vars_fault s item [] vars ≡ None → table ≡ variables vars
    → Answers (atoms_fault s table item clause) P found → Answers (clause_fault s item clause) P found
clause_answers P found s table item clause vars same none made h =
    let atoms = ap (λ t. atoms_fault s t item clause) (made ∙ ap variables same) in
    let next = next_fault (vars_fault s item [] clause.vars) (atoms_fault s (variables clause.vars) item clause) (clause_fault s item clause) refl
    (ap (vars_fault s item []) (sym same) ∙ none) in
    subst (λ fault. Answers fault P found) (atoms ∙ next) h

-- there are no more symbols than declarations
pub count_constants : (decls : List Decl) → length (constant_names decls) ≤ length decls
count_constants [] = omega arith
count_constants (Const name sort ∷ decls) = omega (arith, count_constants decls)
count_constants (Fun name args value level ∷ decls) = omega (arith, count_constants decls)

pub count_functions : (decls : List Decl) → length (function_names decls) ≤ length decls
count_functions [] = omega arith
count_functions (Const name sort ∷ decls) = omega (arith, count_functions decls)
count_functions (Fun name args value level ∷ decls) = omega (arith, count_functions decls)

-- an error of a clause is one of all clauses, where those before it have none
pub clause_fails : (s : Tables) (before item : ℕ) (clauses : List Clause) (i : ℕ) (clause : Clause) (err : SortErr) → i < length clauses
    → clause ≡ get_or clauses i clause → clauses_fault s before clauses ≡ clauses_fault s item (drop i clauses)
    → IsCause (clause_fault s (item + 1) clause) err → IsCause (clauses_fault s before clauses) err
clause_fails s before item clauses i clause err h here fault names =
    let next = clauses_fault s (item + 1) (drop (i + 1) clauses) in
    fails_first (clause_fault s (item + 1) clause) next (clauses_fault s before clauses) err
    (fault ∙ clauses_fault_rest s item clauses i clause h ∙ ap (λ c. option_or (clause_fault s (item + 1) c) next) (sym here)) names
