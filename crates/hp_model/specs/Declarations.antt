-- What the declarations of a problem say of its words: the constants and the functions, both in the order of their
-- declarations.
use Rattle.std.specs.Prelude.{ℕ, List, [], ◌∷◌, Option, Some, None, if◌then◌else◌}
use Rattle.std.specs.Str.{bytes_eq}
use Rattle.hp_tree.specs.declared.problem.Sort.{Sort}
use Rattle.hp_tree.specs.declared.problem.Decl.{Decl}
use Rattle.hp_tree.specs.declared.problem.Decl.TheVariants.{Const, Fun}
use Rattle.hp_tree.specs.Value.{Word}
use Rattle.hp_terms.specs.Scope.{Profile}

-- a constant
pub record Declared : Type 0 where
  pub name : Word
  pub sort : Sort

abbrev pub constants : List Decl → List Declared
constants [] = []
constants (Const name sort ∷ ds) = record { name = name; sort = sort } ∷ constants ds
constants (Fun name args result level ∷ ds) = constants ds

pub record DeclaredFunction : Type 0 where
  pub name : Word
  pub profile : Profile
  pub level : ℕ

abbrev pub functions : List Decl → List DeclaredFunction
functions [] = []
functions (Const name sort ∷ ds) = functions ds
functions (Fun name args result level ∷ ds) = record { name = name; profile = record { args = args; result = result }; level = level } ∷ functions ds

-- the sort of the first constant with this name
abbrev pub constant_sort : List Declared → Word → Option Sort
constant_sort [] word = None
constant_sort (d ∷ ds) word = if bytes_eq d.name word then Some d.sort else constant_sort ds word

-- the first function with this name
abbrev pub function_named : List DeclaredFunction → Word → Option DeclaredFunction
function_named [] word = None
function_named (f ∷ fs) word = if bytes_eq f.name word then Some f else function_named fs word
