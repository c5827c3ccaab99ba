-- Flat clauses: clauses with variables whose applications without variables are names; and the ground set and the flat clauses
-- of a problem.
use Rattle.std.specs.Prelude.{◌≡◌, ◌↔◌, ℕ, ◌+◌, ◌<◌, ◌^◌, List, [], ◌∷◌, ◌++◌, length, map, Bool, true, false, not, None, Result, Ok}
use Rattle.std.specs.List.{All, AllZip}
use Rattle.hp_math.specs.Rational.{ℚ}
use Rattle.hp_num.specs.Wide.{◌>>=◌}
use Rattle.hp_tree.specs.declared.limit.Limit.{Limit}
use Rattle.hp_tree.specs.declared.problem.Var.{Var}
use Rattle.hp_tree.specs.declared.problem.Clause.{Clause}
use Rattle.hp_tree.specs.declared.problem.Problem.{Problem}
use Rattle.hp_tree.specs.Universal.{Universal, clause_at, universal}
use Rattle.hp_tree.specs.Value.{Environment, Functions}
use Rattle.hp_names.specs.Names.{AreDistinct, is_among}
use Rattle.hp_terms.specs.Sorting.{atom_is_sorted}
use Rattle.hp_terms.specs.Weight.{IsLight, IsLightAtom}
use Rattle.hp_terms.specs.Words.{IsPlain, IsPlainWord}
use Rattle.hp_lit.specs.Sorts.{HaveSorts}
use Rattle.hp_lit.specs.Truth.{Values}
use Rattle.hp_sorts.specs.Faults.{sort_fault}
use Rattle.hp_defs.specs.declared.names.Ground.{Ground}
use Rattle.hp_defs.specs.Names.{NameList, constant_words, sorts}
use Rattle.hp_base.specs.Making.{Maker, ◌then◌, computed, keep}
use Rattle.hp_norm.specs.declared.flat.FlatClause.{FlatClause}
use Rattle.hp_norm.specs.Lines.{constants_of, ground_line, signatures_from, start}
use Rattle.hp_norm.specs.Opening.{opened_atoms}
use Rattle.hp_norm.specs.Scopes.{clause_scope}
use Rattle.hp_norm.specs.Sound.{AreTrue, AreValues, IsLater, IsSound}
use Rattle.hp_norm.specs.Testing.{tested}

-- ---- variables
abbrev pub are_some : List Var → Bool
are_some [] = false
are_some (var ∷ vars) = true

abbrev pub has_variables : Clause → Bool
has_variables clause = are_some clause.vars

-- ---- clauses
-- a clause whose numbers can be formed
abbrev pub tested_clause : FlatClause → Maker FlatClause
tested_clause c g = computed c.item (tested g.names c) g then λ done. keep c

-- the flat clause of the clause with this number, which is this item: the names of the guard, then of the head, and the test
abbrev pub flat_clause : ℕ → ℕ → Clause → Maker FlatClause
flat_clause item number clause g =
    opened_atoms clause.vars item clause.guard g then λ guard. λ mid.
    opened_atoms clause.vars item clause.head mid then λ head.
    tested_clause (record { clause = number; item = item; vars = clause.vars; guard = guard; head = head })

-- what a flat clause says
abbrev pub universal_of : FlatClause → Universal
universal_of c = record { vars = c.vars; guard = c.guard; head = c.head }

-- variables with words of their own, none of which a constant or a definition has, and sorted atoms whose numbers are small together
pub record IsFlat (names : NameList) (c : FlatClause) : Type 0 where
  pub distinct : AreDistinct (map (λ v. v.name) c.vars)
  pub plain : All (λ v. IsPlainWord v.name) c.vars
  pub fresh : All (λ v. is_among v.name (constant_words names) ≡ false) c.vars
  pub guard : All (λ a. atom_is_sorted (clause_scope names c.vars) a ≡ true) c.guard
  pub head : All (λ a. atom_is_sorted (clause_scope names c.vars) a ≡ true) c.head
  pub guard_light : All IsLightAtom c.guard
  pub head_light : All IsLightAtom c.head

-- ---- problems
-- a clause with variables is made flat, and one without has its line
abbrev pub clause_made : ℕ → ℕ → Bool → Clause → Maker (List FlatClause)
clause_made item number true clause g = flat_clause item number clause g then λ flat. keep (flat ∷ [])
clause_made item number false clause g = ground_line item number clause g then λ done. keep []

-- the clauses in their order, the first of which has this number; items are the declarations and then the clauses
abbrev pub clauses_made : ℕ → ℕ → List Clause → Maker (List FlatClause)
clauses_made before number [] g = keep [] g
clauses_made before number (clause ∷ clauses) g =
    clause_made (before + number) number (has_variables clause) clause g then λ flats. λ mid.
    clauses_made before (number + 1) clauses mid then λ more.
    keep (flats ++ more)

-- the flat clauses of a problem and its ground set, or the first limit that is passed
abbrev pub flat_of : Problem → Result (List FlatClause × Ground) Limit
flat_of p = start p.decls >>= λ g. clauses_made (length p.decls) 1 p.clauses g

-- ---- what they say
-- the clauses with variables, and those without, in their order
abbrev pub chosen : Bool → Clause → List Clause → List Clause
chosen true clause clauses = clause ∷ clauses
chosen false clause clauses = clauses

abbrev pub with_variables : List Clause → List Clause
with_variables [] = []
with_variables (clause ∷ clauses) = chosen (has_variables clause) clause (with_variables clauses)

abbrev pub without_variables : List Clause → List Clause
without_variables [] = []
without_variables (clause ∷ clauses) = chosen (not (has_variables clause)) clause (without_variables clauses)

-- sorted, its numbers small together, with no word of a definition, no variable with one, and with fewer than 2^32 declarations
pub record IsFlattenable (p : Problem) : Type 0 where
  pub sorted : sort_fault p ≡ None
  pub light : IsLight p
  pub plain : IsPlain p
  pub plain_variables : All (λ clause. All (λ v. IsPlainWord v.name) clause.vars) p.clauses
  pub few : length p.decls < 2 ^ 32

-- a clause and its flat clause are true at the same values of the variables, where definitions have the values of their bodies
pub record IsFlatOf (g : Ground) (clause : Clause) (c : FlatClause) : Type 0 where
  pub vars : c.vars ≡ clause.vars
  pub flat : (end : Ground) → IsLater g end → IsFlat end.names c
  pub says : (end : Ground) (v : Values) (env : Environment) (functions : Functions) (values : List ℚ) → IsLater g end → AreValues end v env functions
      → clause_at env functions (universal_of c) values ≡ clause_at env functions (universal clause) values

-- the declared names, a sound ground set whose lines are true exactly where the clauses without variables are, and a flat clause for each other clause
pub record IsFlattened (p : Problem) (flats : List FlatClause) (g : Ground) : Type 0 where
  pub constants : g.names.constants ≡ constants_of p.decls
  pub signatures : g.names.signatures ≡ signatures_from 1 p.decls
  pub sound : IsSound g
  pub lines : (end : Ground) (v : Values) (env : Environment) (functions : Functions) → IsLater g end → AreValues end v env functions → HaveSorts (sorts end.names) v
      → AreTrue v g.lines ↔ All (λ clause. clause_at env functions (universal clause) [] ≡ true) (without_variables p.clauses)
  pub clauses : AllZip (IsFlatOf g) (with_variables p.clauses) flats

abbrev pub FlatteningSays : Type 0
FlatteningSays = (p : Problem) (flats : List FlatClause) (g : Ground) → IsFlattenable p → flat_of p ≡ Ok (flats, g) → IsFlattened p flats g
