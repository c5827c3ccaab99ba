-- What is known where no item breaks a rule.
use Rattle.std.proofs.Common.{◌≡◌, ℕ, ◌+◌, ◌<◌, ◌≤◌, ◌&&◌, ◌||◌, List, [], ◌∷◌, ◌++◌, Bool, true, false, not, map, length, nat_lt, Option, Some, None, refl, sym, ◌∙◌, arith, if◌then◌else◌}
use Rattle.std.specs.List.{All, list_all}
use Rattle.std.specs.Option.{option_or}
use Rattle.std.specs.Str.{bytes_eq}
use Rattle.std.proofs.lemmas.Bool.{and_parts, ltb-true, or_from, or_parts}
use Rattle.std.proofs.lemmas.List.Elements.{All-nil, All-cons, All-head, All-tail, All-weaker}
use Rattle.std.proofs.lemmas.List.Folds.{list_any-append}
use Rattle.std.proofs.lemmas.List.Sums.{AllPass-from_list_all}
use Rattle.hp_names.specs.Names.{AreDistinct}
use Rattle.hp_names.proofs.Texts.{apart_back}
use Rattle.hp_tree.specs.declared.problem.Var.{Var}
use Rattle.hp_tree.specs.declared.problem.Atom.{Atom}
use Rattle.hp_tree.specs.declared.problem.Clause.{Clause}
use Rattle.hp_tree.specs.declared.problem.Decl.{Decl}
use Rattle.hp_tree.specs.declared.problem.Decl.TheVariants.{Const, Fun}
use Rattle.hp_tree.specs.declared.problem.Problem.{Problem}
use Rattle.hp_terms.specs.Sorting.{atom_is_sorted}
use Rattle.hp_terms.specs.Words.{declared_word}
use Rattle.hp_sorts.specs.declared.fault.SortErr.{SortErr}
use Rattle.hp_sorts.specs.declared.fault.SortErr.TheVariants.{Twice, Level, Unknown, Arity, Mismatch}
use Rattle.hp_sorts.specs.declared.tables.Tables.{Tables}
use Rattle.hp_sorts.specs.declared.naming.NameRule.TheVariants.{Known, Counted}
use Rattle.hp_sorts.specs.Numbered.{Name, is_among}
use Rattle.hp_sorts.specs.Symbols.{declare, is_declared, no_symbols, symbols, variables}
use Rattle.hp_sorts.specs.Naming.{atom_passes}
use Rattle.hp_sorts.specs.Scopes.{problem_scope, scope_of}
use Rattle.hp_sorts.specs.Faults.{atoms_fault, clause_fault, clause_is_sorted, clause_passes, clauses_fault, decl_fault, decls_fault, is_level, vars_fault}
use Rattle.hp_sorts.specs.Laws.{FaultlessProblemsAreWellSorted, HasLevel, IsWellSortedAtom, IsWellSortedClause}

-- ---- faults
none_both : (a b : Option SortErr) → option_or a b ≡ None → (a ≡ None) × (b ≡ None)
none_both None b e = (refl, e)
none_both (Some a) b e = absurd (cc)

none_else : (b : Bool) (err : SortErr) (rest : Option SortErr) → (if b then Some err else rest) ≡ None → (b ≡ false) × (rest ≡ None)
none_else true err rest e = absurd (cc)
none_else false err rest e = (refl, e)

is_true : (b : Bool) → not b ≡ false → b ≡ true
is_true true e = refl
is_true false e = absurd (cc)

none_unless : (b : Bool) (err : SortErr) → (if b then None else Some err) ≡ None → b ≡ true
none_unless true err e = refl
none_unless false err e = absurd (cc)

-- ---- names that were not among some names and one more
unlike_last : (n last : Name) (names : List Name) → is_among n (names ++ last ∷ []) ≡ false → (is_among n names ≡ false) × (bytes_eq n last ≡ false)
unlike_last n last names e =
    let parts = or_parts (is_among n names) (bytes_eq n last || false) (sym (list_any-append (bytes_eq n) names (last ∷ [])) ∙ e) in
    (parts.0, (or_parts (bytes_eq n last) false parts.1).0)

undeclared_before : (s : Tables) (decl : Decl) (n : Name) → is_declared (declare s decl) n ≡ false → (is_declared s n ≡ false) × (bytes_eq n (declared_word decl) ≡ false)
undeclared_before s (Const name sort) n e =
    let parts = or_parts (is_among n (s.constants.names ++ name ∷ [])) (is_among n s.functions) e in
    let last = unlike_last n name s.constants.names parts.0 in
    (or_from (is_among n s.constants.names) (is_among n s.functions) last.0 parts.1, last.1)
undeclared_before s (Fun name args value level) n e =
    let parts = or_parts (is_among n s.constants.names) (is_among n (s.functions ++ name ∷ [])) e in
    let last = unlike_last n name s.functions parts.1 in
    (or_from (is_among n s.constants.names) (is_among n s.functions) parts.0 last.0, last.1)

-- ---- declarations
pub record AreSound (s : Tables) (decls : List Decl) : Type 0 where
  pub fresh : All (λ d. is_declared s (declared_word d) ≡ false) decls
  pub distinct : AreDistinct (map declared_word decls)
  pub levels : All HasLevel decls

level_within : (level : ℕ) → is_level level ≡ true → (1 ≤ level) × (level ≤ 16)
level_within level e =
    let parts = and_parts (nat_lt 0 level) (nat_lt level 17) e in
    let low : 0 < level = ltb-true 0 level parts.0 in
    let high : level < 17 = ltb-true level 17 parts.1 in
    (omega arith, omega arith)

decl_sound : (s : Tables) (item : ℕ) (decl : Decl) → decl_fault s item decl ≡ None → (is_declared s (declared_word decl) ≡ false) × HasLevel decl
decl_sound s item (Const name sort) e = ((none_else (is_declared s name) (Twice item) None e).0, tt)
decl_sound s item (Fun name args value level) e =
    let parts = none_else (is_declared s name) (Twice item) (if is_level level then None else Some (Level item)) e in
    (parts.0, level_within level (none_unless (is_level level) (Level item) parts.1))

unlike_all : (n : Name) (decls : List Decl) → All (λ d. bytes_eq (declared_word d) n ≡ false) decls → is_among n (map declared_word decls) ≡ false
unlike_all n [] all = refl
unlike_all n (d ∷ ds) all =
    or_from (bytes_eq n (declared_word d)) (is_among n (map declared_word ds))
    (apart_back (declared_word d) n (All-head (λ d. bytes_eq (declared_word d) n ≡ false) d ds all)) (unlike_all n ds (All-tail (λ d. bytes_eq (declared_word d) n ≡ false) d ds all))

decls_sound : (s : Tables) (before : ℕ) (decls : List Decl) → decls_fault s before decls ≡ None → AreSound s decls
decls_sound s before [] e = record { fresh = All-nil _; distinct = tt; levels = All-nil HasLevel }
decls_sound s before (decl ∷ decls) e =
    let parts = none_both (decl_fault s (before + 1) decl) (decls_fault (declare s decl) (before + 1) decls) e in
    let first = decl_sound s (before + 1) decl parts.0 in
    let rest = decls_sound (declare s decl) (before + 1) decls parts.1 in
    let word = declared_word decl in
    let unlike : All (λ d. bytes_eq (declared_word d) word ≡ false) decls =
    All-weaker (λ d. is_declared (declare s decl) (declared_word d) ≡ false) (λ d. bytes_eq (declared_word d) word ≡ false)
    (λ d h. (undeclared_before s decl (declared_word d) h).1) decls rest.fresh in
    record {
      fresh = All-cons (λ d. is_declared s (declared_word d) ≡ false) decl decls first.0
          (All-weaker (λ d. is_declared (declare s decl) (declared_word d) ≡ false) (λ d. is_declared s (declared_word d) ≡ false)
          (λ d h. (undeclared_before s decl (declared_word d) h).0) decls rest.fresh);
      distinct = (unlike_all word decls unlike, rest.distinct);
      levels = All-cons HasLevel decl decls first.1 rest.levels;
    }

-- ---- variables
pub record AreVars (s : Tables) (earlier : List Name) (vars : List Var) : Type 0 where
  pub undeclared : All (λ v. is_declared s v.name ≡ false) vars
  pub unlike : All (λ v. is_among v.name earlier ≡ false) vars
  pub distinct : AreDistinct (map (λ v. v.name) vars)

unlike_vars : (n : Name) (vars : List Var) → All (λ v. bytes_eq v.name n ≡ false) vars → is_among n (map (λ v. v.name) vars) ≡ false
unlike_vars n [] all = refl
unlike_vars n (v ∷ vs) all =
    or_from (bytes_eq n v.name) (is_among n (map (λ w. w.name) vs))
    (apart_back v.name n (All-head (λ w. bytes_eq w.name n ≡ false) v vs all)) (unlike_vars n vs (All-tail (λ w. bytes_eq w.name n ≡ false) v vs all))

vars_sound : (s : Tables) (item : ℕ) (earlier : List Name) (vars : List Var) → vars_fault s item earlier vars ≡ None → AreVars s earlier vars
vars_sound s item earlier [] e = record { undeclared = All-nil _; unlike = All-nil _; distinct = tt }
vars_sound s item earlier (var ∷ vars) e =
    let next = earlier ++ var.name ∷ [] in
    let parts = none_else (is_declared s var.name || is_among var.name earlier) (Twice item) (vars_fault s item next vars) e in
    let both = or_parts (is_declared s var.name) (is_among var.name earlier) parts.0 in
    let rest = vars_sound s item next vars parts.1 in
    record {
      undeclared = All-cons (λ v. is_declared s v.name ≡ false) var vars both.0 rest.undeclared;
      unlike = All-cons (λ v. is_among v.name earlier ≡ false) var vars both.1
          (All-weaker (λ v. is_among v.name next ≡ false) (λ v. is_among v.name earlier ≡ false) (λ v h. (unlike_last v.name var.name earlier h).0) vars rest.unlike);
      distinct = (
        unlike_vars var.name vars
            (All-weaker (λ v. is_among v.name next ≡ false) (λ v. bytes_eq v.name var.name ≡ false) (λ v h. (unlike_last v.name var.name earlier h).1) vars rest.unlike),
        rest.distinct,
      );
    }

-- ---- clauses
both_sides : (f : Atom → Bool) (guard head : List Atom) → (list_all f guard && list_all f head) ≡ true → All (λ a. f a ≡ true) guard × All (λ a. f a ≡ true) head
both_sides f guard head e =
    let parts = and_parts (list_all f guard) (list_all f head) e in (AllPass-from_list_all f guard parts.0, AllPass-from_list_all f head parts.1)

module _ (p : Problem) where
  atoms_sound : (vars : List Var) (atoms : List Atom) → All (λ a. atom_passes (symbols p.decls) (variables vars) Known a ≡ true) atoms
      → All (λ a. atom_passes (symbols p.decls) (variables vars) Counted a ≡ true) atoms → All (λ a. atom_is_sorted (problem_scope p vars) a ≡ true) atoms
      → All (IsWellSortedAtom p vars) atoms
  atoms_sound vars atoms known counted sorted k d h = record { known = known k d h; counted = counted k d h; sorted = sorted k d h }

  clause_sound : (item : ℕ) (clause : Clause) → clause_fault (symbols p.decls) item clause ≡ None → IsWellSortedClause p clause
  clause_sound item clause e =
      let s = symbols p.decls in
      let vars = variables clause.vars in
      let parts = none_both (vars_fault s item [] clause.vars) (atoms_fault s vars item clause) e in
      let fresh = vars_sound s item [] clause.vars parts.0 in
      let known = none_else (not (clause_passes s vars Known clause)) (Unknown item) _ parts.1 in
      let counted = none_else (not (clause_passes s vars Counted clause)) (Arity item) _ known.1 in
      let sorted = none_else (not (clause_is_sorted s vars clause)) (Mismatch item) _ counted.1 in
      let k = both_sides (atom_passes s vars Known) clause.guard clause.head (is_true _ known.0) in
      let c = both_sides (atom_passes s vars Counted) clause.guard clause.head (is_true _ counted.0) in
      let o = both_sides (atom_is_sorted (scope_of s vars)) clause.guard clause.head (is_true _ sorted.0) in
      record {
        vars = record { distinct = fresh.distinct; undeclared = fresh.undeclared };
        guard = atoms_sound clause.vars clause.guard k.0 c.0 o.0;
        head = atoms_sound clause.vars clause.head k.1 c.1 o.1;
      }

  clauses_sound : (before : ℕ) (clauses : List Clause) → clauses_fault (symbols p.decls) before clauses ≡ None → All (IsWellSortedClause p) clauses
  clauses_sound before [] e = All-nil (IsWellSortedClause p)
  clauses_sound before (clause ∷ clauses) e =
      let parts = none_both (clause_fault (symbols p.decls) (before + 1) clause) (clauses_fault (symbols p.decls) (before + 1) clauses) e in
      All-cons (IsWellSortedClause p) clause clauses (clause_sound (before + 1) clause parts.0) (clauses_sound (before + 1) clauses parts.1)

pub faultless_problems_are_well_sorted : FaultlessProblemsAreWellSorted
faultless_problems_are_well_sorted p e =
    let parts = none_both (decls_fault no_symbols 0 p.decls) (clauses_fault (symbols p.decls) (length p.decls) p.clauses) e in
    let decls = decls_sound no_symbols 0 p.decls parts.0 in
    record { distinct = decls.distinct; levels = decls.levels; clauses = clauses_sound p (length p.decls) p.clauses parts.1 }
