-- The names of a ground problem with their words and sorts: the constants first, and then the definitions.
use Rattle.std.specs.Prelude.{◌≡◌, ℕ, ◌+◌, List, [], ◌∷◌, ◌++◌, length, map, take, Option, Some, None, slice_get}
use Rattle.hp_tree.specs.declared.problem.Sort.{Sort}
use Rattle.hp_tree.specs.declared.problem.Sort.TheVariants.{Num}
use Rattle.hp_tree.specs.Value.{Word}
use Rattle.hp_terms.specs.Scope.{Profile}
use Rattle.hp_terms.specs.Words.{numbered}
use Rattle.hp_lit.specs.Growing.{Begins}
use Rattle.hp_lit.specs.declared.literal.Name.{Name}
use Rattle.hp_lit.specs.declared.line.Body.{Body}
use Rattle.hp_lit.specs.declared.line.Body.TheVariants.{Apply, Sum}
use Rattle.hp_lit.specs.declared.line.Def.{Def}
use Rattle.hp_defs.specs.declared.names.Constant.{Constant}
use Rattle.hp_defs.specs.declared.names.Signature.{Signature}

-- constants and signatures in the order of declarations, definitions in the order of their making
pub record NameList : Type 0 where
  pub constants : List Constant
  pub signatures : List Signature
  pub definitions : List Def

-- ---- names
-- how many names there are
abbrev pub count : NameList → ℕ
count names = length names.constants + length names.definitions

-- the name of the definition at this place, counted from 0
abbrev pub definition_name : NameList → ℕ → Name
definition_name names k = record { 0 = length names.constants + k }

-- the name of the next definition
abbrev pub next : NameList → Name
next names = definition_name names (length names.definitions)

-- ---- words
abbrev pub constant_name : Constant → Word
constant_name c = c.name

abbrev pub signature_name : Signature → Word
signature_name s = s.name

abbrev pub constant_words : NameList → List Word
constant_words names = map constant_name names.constants

abbrev pub function_words : NameList → List Word
function_words names = map signature_name names.signatures

-- the words of all names, in the order of the names: those of the constants, and `_1`, `_2` and so on
abbrev pub words : NameList → List Word
words names = constant_words names ++ numbered 1 (length names.definitions)

-- ---- sorts
abbrev pub constant_sort : Constant → Sort
constant_sort c = c.sort

abbrev pub result_sort : Option Signature → Sort
result_sort None = Num
result_sort (Some s) = s.result

-- a sum is a num, and an application has the result of its function
abbrev pub sort_of_body : List Signature → Body → Sort
sort_of_body signatures (Apply func args) = result_sort (slice_get signatures func)
sort_of_body signatures (Sum lin) = Num

abbrev pub sort_of_definition : List Signature → Def → Sort
sort_of_definition signatures d = sort_of_body signatures d.body

-- the sorts of all names, in the order of the names
abbrev pub sorts : NameList → List Sort
sorts names = map constant_sort names.constants ++ map (sort_of_definition names.signatures) names.definitions

-- the sort of a name, or none where there is no such name
abbrev pub sort_of_name : NameList → Name → Option Sort
sort_of_name names name = slice_get (sorts names) name.0

-- the sorts of the arguments of a function, and that of its result
abbrev pub profile_of : Signature → Profile
profile_of s = record { args = s.args; result = s.result }

-- ---- definitions
abbrev pub definition_body : Def → Body
definition_body d = d.body

-- what the definitions stand for, in the order of their making
abbrev pub bodies : NameList → List Body
bodies names = map definition_body names.definitions

-- ---- more names
abbrev pub with_constant : NameList → Constant → NameList
with_constant names c = record names { constants = names.constants ++ c ∷ [] }

abbrev pub with_signature : NameList → Signature → NameList
with_signature names s = record names { signatures = names.signatures ++ s ∷ [] }

abbrev pub with_definition : NameList → Body → NameList
with_definition names body = record names { definitions = names.definitions ++ record { name = next names; body = body } ∷ [] }

-- the names before the definition at this place
abbrev pub first_names : ℕ → NameList → NameList
first_names k names = record names { definitions = take k names.definitions }

-- nothing but definitions at the end was added
pub record BeginsNames (old new : NameList) : Type 0 where
  pub constants : new.constants ≡ old.constants
  pub signatures : new.signatures ≡ old.signatures
  pub definitions : Begins old.definitions new.definitions
