-- What is wrong with a problem: the first of its items that breaks a rule on names and sorts, and the first rule that
-- this item breaks. Items are numbered from 1, the declarations before the clauses.
use Rattle.std.specs.Prelude.{◌≡◌, ℕ, ◌+◌, List, [], ◌∷◌, ◌++◌, Bool, ◌&&◌, ◌||◌, not, if◌then◌else◌, Option, Some, None, Result, Ok, Err, length, nat_lt}
use Rattle.std.specs.List.{list_all}
use Rattle.std.specs.Option.{option_or}
use Rattle.hp_tree.specs.declared.problem.Var.{Var}
use Rattle.hp_tree.specs.declared.problem.Clause.{Clause}
use Rattle.hp_tree.specs.declared.problem.Decl.{Decl}
use Rattle.hp_tree.specs.declared.problem.Decl.TheVariants.{Const, Fun}
use Rattle.hp_tree.specs.declared.problem.Problem.{Problem}
use Rattle.hp_terms.specs.Sorting.{atom_is_sorted}
use Rattle.hp_sorts.specs.declared.fault.SortErr.{SortErr}
use Rattle.hp_sorts.specs.declared.fault.SortErr.TheVariants.{Twice, Level, Unknown, Arity, Mismatch, Memory}
use Rattle.hp_sorts.specs.declared.tables.SortTable.{SortTable}
use Rattle.hp_sorts.specs.declared.tables.Tables.{Tables}
use Rattle.hp_sorts.specs.declared.naming.NameRule.{NameRule}
use Rattle.hp_sorts.specs.declared.naming.NameRule.TheVariants.{Known, Counted}
use Rattle.hp_sorts.specs.Numbered.{Name, is_among}
use Rattle.hp_sorts.specs.Symbols.{no_symbols, symbols, declare, is_declared, variables}
use Rattle.hp_sorts.specs.Naming.{atom_passes}
use Rattle.hp_sorts.specs.Scopes.{scope_of}

-- ---- declarations

-- a level is 1 to 16
abbrev pub is_level : ℕ → Bool
is_level level = nat_lt 0 level && nat_lt level 17

-- a name is declared once, and a function has a level
abbrev pub decl_fault : Tables → ℕ → Decl → Option SortErr
decl_fault earlier item (Const name sort) = if is_declared earlier name then Some (Twice item) else None
decl_fault earlier item (Fun name args value level) =
    if is_declared earlier name then Some (Twice item) else (if is_level level then None else Some (Level item))

-- the first fault of declarations, behind so many items that declare `earlier`
abbrev pub decls_fault : Tables → ℕ → List Decl → Option SortErr
decls_fault earlier before [] = None
decls_fault earlier before (decl ∷ decls) = option_or (decl_fault earlier (before + 1) decl) (decls_fault (declare earlier decl) (before + 1) decls)

-- ---- clauses

-- a variable has neither a declared name nor that of an earlier variable
abbrev pub vars_fault : Tables → ℕ → List Name → List Var → Option SortErr
vars_fault s item earlier [] = None
vars_fault s item earlier (var ∷ vars) =
    if is_declared s var.name || is_among var.name earlier then Some (Twice item) else vars_fault s item (earlier ++ var.name ∷ []) vars

abbrev pub clause_passes : Tables → SortTable → NameRule → Clause → Bool
clause_passes s vars rule clause = list_all (atom_passes s vars rule) clause.guard && list_all (atom_passes s vars rule) clause.head

abbrev pub clause_is_sorted : Tables → SortTable → Clause → Bool
clause_is_sorted s vars clause = list_all (atom_is_sorted (scope_of s vars)) clause.guard && list_all (atom_is_sorted (scope_of s vars)) clause.head

-- the names of a clause are known, then its functions have as many arguments as declared, then its terms have their sorts
abbrev pub atoms_fault : Tables → SortTable → ℕ → Clause → Option SortErr
atoms_fault s vars item clause =
    if not (clause_passes s vars Known clause) then Some (Unknown item)
    else (if not (clause_passes s vars Counted clause) then Some (Arity item)
    else (if not (clause_is_sorted s vars clause) then Some (Mismatch item) else None))

abbrev pub clause_fault : Tables → ℕ → Clause → Option SortErr
clause_fault s item clause = option_or (vars_fault s item [] clause.vars) (atoms_fault s (variables clause.vars) item clause)

-- the first fault of clauses behind so many items
abbrev pub clauses_fault : Tables → ℕ → List Clause → Option SortErr
clauses_fault s before [] = None
clauses_fault s before (clause ∷ clauses) = option_or (clause_fault s (before + 1) clause) (clauses_fault s (before + 1) clauses)

-- ---- problems

abbrev pub sort_fault : Problem → Option SortErr
sort_fault p = option_or (decls_fault no_symbols 0 p.decls) (clauses_fault (symbols p.decls) (length p.decls) p.clauses)

-- an error says what the fault is, or that memory is short
abbrev pub IsCause : Option SortErr → SortErr → Type 0
IsCause fault (Twice item) = fault ≡ Some (Twice item)
IsCause fault (Level item) = fault ≡ Some (Level item)
IsCause fault (Unknown item) = fault ≡ Some (Unknown item)
IsCause fault (Arity item) = fault ≡ Some (Arity item)
IsCause fault (Mismatch item) = fault ≡ Some (Mismatch item)
IsCause fault Memory = Unit {0}

-- a value comes only where there is no fault, and an error only where it is the fault
abbrev pub Answers : {X : Type 0} → Option SortErr → (X → Type 0) → Result X SortErr → Type 0
Answers fault P (Ok value) = (fault ≡ None) × P value
Answers fault P (Err err) = IsCause fault err
