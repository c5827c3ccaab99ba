-- What words mean in terms over the names of a ground set: its names, the variables of a clause, and its functions.
use Rattle.std.specs.Prelude.{List, [], ◌∷◌, false, if◌then◌else◌, Option, Some, None, option_and_then, option_map, position, slice_get}
use Rattle.std.specs.Option.{option_or}
use Rattle.std.specs.Str.{bytes_eq}
use Rattle.hp_tree.specs.declared.problem.Sort.{Sort}
use Rattle.hp_tree.specs.declared.problem.Var.{Var}
use Rattle.hp_tree.specs.Value.{Word}
use Rattle.hp_terms.specs.Scope.{Profile, Scope}
use Rattle.hp_defs.specs.declared.names.Signature.{Signature}
use Rattle.hp_defs.specs.Names.{NameList, function_words, profile_of}
use Rattle.hp_base.specs.Lines.{flat_scope}

-- the signature of the function with this word
abbrev pub signature_named : NameList → Word → Option Signature
signature_named names word = option_and_then (λ at. slice_get names.signatures at) (position (bytes_eq word) (function_words names))

abbrev pub function_profile : NameList → Word → Option Profile
function_profile names word = option_map profile_of (signature_named names word)

-- all names with their sorts, and all functions with their profiles; no number is a pointer
abbrev pub term_scope : NameList → Scope
term_scope names = record {
  name = λ word. (flat_scope names).name word;
  function = λ word. function_profile names word;
  pointer = λ number. false;
}

-- the sort of the first variable with this word
abbrev pub variable_sort : List Var → Word → Option Sort
variable_sort [] word = None
variable_sort (v ∷ vars) word = if bytes_eq v.name word then Some v.sort else variable_sort vars word

-- the same in a clause with variables, which stand before names
abbrev pub clause_scope : NameList → List Var → Scope
clause_scope names vars = record {
  name = λ word. option_or (variable_sort vars word) ((flat_scope names).name word);
  function = λ word. function_profile names word;
  pointer = λ number. false;
}
