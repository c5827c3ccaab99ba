-- What the declarations of a problem declare: constants with their sorts and functions with their signatures, each in
-- the order of their declarations; and the sorts of the variables of a clause.
use Rattle.std.specs.Prelude.{List, [], ◌∷◌, ◌++◌, Bool, ◌||◌, Option, map}
use Rattle.std.specs.Option.{option_or}
use Rattle.hp_tree.specs.declared.problem.Sort.{Sort}
use Rattle.hp_tree.specs.declared.problem.Var.{Var}
use Rattle.hp_tree.specs.declared.problem.Decl.{Decl}
use Rattle.hp_tree.specs.declared.problem.Decl.TheVariants.{Const, Fun}
use Rattle.hp_sorts.specs.declared.tables.SortTable.{SortTable}
use Rattle.hp_sorts.specs.declared.tables.Signature.{Signature}
use Rattle.hp_sorts.specs.declared.tables.Tables.{Tables}
use Rattle.hp_sorts.specs.Numbered.{Name, is_among, named}

abbrev pub constant_names : List Decl → List Name
constant_names [] = []
constant_names (Const name sort ∷ decls) = name ∷ constant_names decls
constant_names (Fun name args value level ∷ decls) = constant_names decls

abbrev pub constant_sorts : List Decl → List Sort
constant_sorts [] = []
constant_sorts (Const name sort ∷ decls) = sort ∷ constant_sorts decls
constant_sorts (Fun name args value level ∷ decls) = constant_sorts decls

abbrev pub function_names : List Decl → List Name
function_names [] = []
function_names (Const name sort ∷ decls) = function_names decls
function_names (Fun name args value level ∷ decls) = name ∷ function_names decls

abbrev pub signatures : List Decl → List Signature
signatures [] = []
signatures (Const name sort ∷ decls) = signatures decls
signatures (Fun name args value level ∷ decls) = record { args = args; result = value; level = level } ∷ signatures decls

-- what these symbols and the declarations behind them declare together
abbrev pub joined : Tables → List Decl → Tables
joined s decls = record {
  constants = record { names = s.constants.names ++ constant_names decls; sorts = s.constants.sorts ++ constant_sorts decls };
  functions = s.functions ++ function_names decls;
  signatures = s.signatures ++ signatures decls;
}

abbrev pub no_symbols : Tables
no_symbols = record { constants = record { names = []; sorts = [] }; functions = []; signatures = [] }

abbrev pub symbols : List Decl → Tables
symbols decls = record {
  constants = record { names = constant_names decls; sorts = constant_sorts decls };
  functions = function_names decls;
  signatures = signatures decls;
}

-- these symbols with one more
abbrev pub declare : Tables → Decl → Tables
declare s (Const name sort) = record {
  constants = record { names = s.constants.names ++ name ∷ []; sorts = s.constants.sorts ++ sort ∷ [] };
  functions = s.functions;
  signatures = s.signatures;
}
declare s (Fun name args value level) = record {
  constants = s.constants;
  functions = s.functions ++ name ∷ [];
  signatures = s.signatures ++ record { args = args; result = value; level = level } ∷ [];
}

abbrev pub is_declared : Tables → Name → Bool
is_declared s name = is_among name s.constants.names || is_among name s.functions

-- the variables of a clause
abbrev pub variables : List Var → SortTable
variables vars = record { names = map (λ v. v.name) vars; sorts = map (λ v. v.sort) vars }

-- the sort of a name without arguments, and the signature of an applied one
abbrev pub name_sort : Tables → SortTable → Name → Option Sort
name_sort s vars name = option_or (named name vars.names vars.sorts) (named name s.constants.names s.constants.sorts)

abbrev pub signature_of : Tables → Name → Option Signature
signature_of s func = named func s.functions s.signatures
