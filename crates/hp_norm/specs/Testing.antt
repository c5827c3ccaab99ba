-- What is tested of a clause with variables: that literals can be formed of its num atoms, with the applications that are left
-- in it as names after all others, and of the num arguments of these applications.
use Rattle.std.specs.Prelude.{ℕ, suc, ◌+◌, ◌<◌, ◌^◌, List, [], ◌∷◌, ◌++◌, map, length, Bool, true, false, if◌then◌else◌, Option, Some, None, Ok}
use Rattle.std.specs.List.{position_or_len}
use Rattle.hp_num.specs.Wide.{◌>>=◌}
use Rattle.hp_names.specs.Names.{is_among}
use Rattle.hp_tree.specs.declared.term.Term.{Term, Number, Null, Name, Add, Sub, Neg, Scale, out-Term}
use Rattle.hp_tree.specs.declared.term.Term.TheOpen.{Term-F}
use Rattle.hp_tree.specs.declared.problem.Atom.{Atom}
use Rattle.hp_tree.specs.declared.problem.Cmp.TheVariants.{Eq}
use Rattle.hp_tree.specs.declared.problem.Sort.{Sort}
use Rattle.hp_tree.specs.declared.problem.Sort.TheVariants.{Num, Idx, Ptr}
use Rattle.hp_tree.specs.declared.problem.Var.{Var}
use Rattle.hp_tree.specs.Value.{Word}
use Rattle.hp_terms.specs.Scope.{Scope}
use Rattle.hp_terms.specs.Sorting.{sort_of}
use Rattle.hp_terms.specs.Words.{made_word, numbered}
use Rattle.hp_linear.specs.Steps.{Refusable}
use Rattle.hp_linear.specs.Literals.{literals}
use Rattle.hp_defs.specs.declared.names.Signature.{Signature}
use Rattle.hp_defs.specs.Names.{NameList, constant_words}
use Rattle.hp_norm.specs.declared.flat.FlatClause.{FlatClause}
use Rattle.hp_norm.specs.declared.standing.Standing.{Standing}
use Rattle.hp_norm.specs.Scopes.{clause_scope, signature_named}
use Rattle.hp_norm.specs.Trees.{by_term, gathered, same_term}

-- ---- words
-- behind those that are there, unless it is one of them
abbrev pub with_word : List Word → Word → List Word
with_word words word = if is_among word words then words else words ++ word ∷ []

abbrev pub with_words : List Word → List Word → List Word
with_words words [] = words
with_words words (word ∷ more) = with_words (with_word words word) more

abbrev pub variable_words : List Var → List Word
variable_words vars = map (λ v. v.name) vars

-- constants, variables, definitions, and so many definitions that are yet to come
abbrev pub clause_words : NameList → List Var → ℕ → List Word
clause_words names vars more = with_words (with_words (with_words [] (constant_words names)) (variable_words vars)) (numbered 1 (length names.definitions + more))

-- ---- stand-ins
abbrev pub gathered_atoms : List Atom → List Term → List Term
gathered_atoms [] apps = apps
gathered_atoms (atom ∷ atoms) apps = gathered_atoms atoms (gathered atom.right (gathered atom.left apps))

-- the different applications that are left in a clause, those in arguments too
abbrev pub left_in : FlatClause → List Term
left_in c = gathered_atoms c.head (gathered_atoms c.guard [])

-- a definition that is yet to come stands in for each of them, and there is one more
abbrev pub standing_of : NameList → FlatClause → Standing
standing_of names c = record {
  made = length names.definitions;
  apps = left_in c;
  words = clause_words names c.vars (suc (length (left_in c)));
}

-- fewer than 2^28 words, and numbers below 2^32 for all stand-ins
pub record HasRoom (s : Standing) : Type 0 where
  pub words : length s.words < 2 ^ 28
  pub numbers : s.made + length s.apps < 2 ^ 32

abbrev pub stand_in : Standing → ℕ → Word
stand_in s at = made_word (suc (s.made + at))

abbrev pub hide_step : Standing → Term → Term-F Term → Term
hide_step s term (Term-F.Number q) = Number q
hide_step s term Term-F.Null = Null
hide_step s term (Term-F.Name word) = Name word
hide_step s term (Term-F.Apply func args) = Name (stand_in s (position_or_len (same_term term) s.apps))
hide_step s term (Term-F.Add a b) = Add a b
hide_step s term (Term-F.Sub a b) = Sub a b
hide_step s term (Term-F.Neg a) = Neg a
hide_step s term (Term-F.Scale q a) = Scale q a

-- a term with the stand-ins of its applications, one for equal trees
abbrev pub hidden : Standing → Term → Term
hidden s = by_term (hide_step s)

abbrev pub hidden_atom : Standing → Atom → Atom
hidden_atom s atom = record { left = hidden s atom.left; cmp = atom.cmp; right = hidden s atom.right }

-- ---- atoms
-- the literals of a num atom that is to be true, or, of the other sign, false, can be formed
abbrev pub tested_as : Sort → Standing → Bool → Atom → Refusable (Unit {0})
tested_as Num s positive atom = literals s.words positive (hidden_atom s atom) >>= λ lits. Ok tt
tested_as Idx s positive atom = Ok tt
tested_as Ptr s positive atom = Ok tt

abbrev pub tested_atoms : Scope → Standing → Bool → List Atom → Refusable (Unit {0})
tested_atoms scope s positive [] = Ok tt
tested_atoms scope s positive (atom ∷ atoms) = tested_as (sort_of scope atom) s positive atom >>= λ done. tested_atoms scope s positive atoms

-- ---- arguments
-- that one more name is equal to an argument
abbrev pub argument_atom : Standing → Term → Atom
argument_atom s arg = record { left = Name (stand_in s (length s.apps)); cmp = Eq; right = arg }

abbrev pub tested_args : Standing → List Sort → List Term → Refusable (Unit {0})
tested_args s (sort ∷ sorts) (arg ∷ args) = tested_as sort s true (argument_atom s arg) >>= λ done. tested_args s sorts args
tested_args s _ _ = Ok tt

-- the sorts of the places of a function
abbrev pub places : Option Signature → List Sort
places None = []
places (Some signature) = signature.args

abbrev pub tested_layer : NameList → Standing → Term-F Term → Refusable (Unit {0})
tested_layer names s (Term-F.Apply func args) = tested_args s (places (signature_named names func)) args
tested_layer names s _ = Ok tt

abbrev pub tested_apps : NameList → Standing → List Term → Refusable (Unit {0})
tested_apps names s [] = Ok tt
tested_apps names s (app ∷ apps) = tested_layer names s (out-Term app) >>= λ done. tested_apps names s apps

-- ---- clauses
-- the guard, whose atoms are to be false, then the head, and then the num arguments of the applications that are left
abbrev pub tested_over : NameList → FlatClause → Standing → Refusable (Unit {0})
tested_over names c s =
    tested_atoms (clause_scope names c.vars) s false c.guard >>= λ done.
    tested_atoms (clause_scope names c.vars) s true c.head >>= λ done.
    tested_apps names s s.apps

abbrev pub tested : NameList → FlatClause → Refusable (Unit {0})
tested names c = tested_over names c (standing_of names c)
