-- What words mean where the declarations of a problem are known: by themselves, and in the tables of its structures.
use Rattle.std.specs.Prelude.{ℕ, nat_lt, false, List, Option, Some, None, option_map, if◌then◌else◌, codes, slice_get}
use Rattle.std.specs.Str.{bytes_eq}
use Rattle.hp_tree.specs.declared.problem.Sort.{Sort}
use Rattle.hp_tree.specs.declared.problem.Sort.TheVariants.{Ptr}
use Rattle.hp_tree.specs.declared.problem.Problem.{Problem}
use Rattle.hp_tree.specs.Sorted.{is_of_sort}
use Rattle.hp_tree.specs.Value.{Word}
use Rattle.hp_terms.specs.Scope.{Profile, Scope}
use Rattle.hp_model.specs.Declarations.{constants, constant_sort, functions, function_named, DeclaredFunction}

-- a constant has its sort, a function its profile, and no number is a pointer
abbrev pub declared_scope : Problem → Scope
declared_scope p = record {
  name = λ word. constant_sort (constants p.decls) word;
  function = λ word. option_map (λ f. f.profile) (function_named (functions p.decls) word);
  pointer = λ number. false;
}

-- ---- tables
-- `$1` to `$4` are the arguments, where there are so many, and every other name has the sort that is given
abbrev pub argument_sort : List Sort → Option Sort → Word → Option Sort
argument_sort args other word =
    if bytes_eq word (codes "$1") then slice_get args 0
    else if bytes_eq word (codes "$2") then slice_get args 1
    else if bytes_eq word (codes "$3") then slice_get args 2
    else if bytes_eq word (codes "$4") then slice_get args 3
    else other

abbrev pub profile_below : ℕ → Option DeclaredFunction → Option Profile
profile_below level None = None
profile_below level (Some f) = if nat_lt f.level level then Some f.profile else None

-- in the table of a function of this level, whose arguments have these sorts: its arguments and the constants have their
-- sorts, each function of a lower level has its profile, and the pointers are the numbers below the size of the universe
abbrev pub table_scope : ℕ → Problem → List Sort → ℕ → Scope
table_scope size p args level = record {
  name = λ word. argument_sort args (constant_sort (constants p.decls) word) word;
  function = λ word. profile_below level (function_named (functions p.decls) word);
  pointer = λ number. is_of_sort size Ptr number;
}
