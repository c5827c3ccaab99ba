-- Reading declarations and lists of variables, token by token.
use Rattle.std.specs.Prelude.{ℕ, if◌then◌else◌, List, [], ◌∷◌, ◌++◌, Option, Some, None}
use Rattle.hp_tree.specs.declared.problem.Decl.{Decl}
use Rattle.hp_tree.specs.declared.problem.Decl.TheVariants.{Fun}
use Rattle.hp_tree.specs.declared.problem.Sort.{Sort}
use Rattle.hp_tree.specs.declared.problem.Sort.TheVariants as sorts
use Rattle.hp_tree.specs.declared.problem.Var.{Var}
use Rattle.hp_text.specs.declared.token.Kind.{Kind}
use Rattle.hp_text.specs.declared.token.Kind.TheVariants as kinds
use Rattle.hp_read.specs.declared.lines.Constants.{Constants}
use Rattle.hp_read.specs.declared.lines.Constants.TheVariants as constants
use Rattle.hp_read.specs.declared.lines.Function.{Function}
use Rattle.hp_read.specs.declared.lines.Function.TheVariants as function
use Rattle.hp_read.specs.declared.lines.Variables.{Variables}
use Rattle.hp_read.specs.declared.lines.Variables.TheVariants as variables
use Rattle.hp_grammar.specs.declared.symbol.Symbol.{Symbol as Token}
use Rattle.hp_grammar.specs.declared.symbol.Symbol.TheVariants.{Word as word, Name as name, Numeral as numeral}
use Rattle.hp_grammar.specs.Token.{same}
use Rattle.hp_grammar.specs.Declarations.{constants_of, variable_of}
use Rattle.hp_grammar.specs.Runs.{◌and_then◌}

unfoldable pub sort_of : Kind → Option Sort
sort_of k =
    if same k kinds.Num then Some sorts.Num
    else if same k kinds.Idx then Some sorts.Idx
    else if same k kinds.Ptr then Some sorts.Ptr
    else None

-- behind `const`
abbrev pub constants_word : Kind → Constants → Option Constants
constants_word k (constants.Named xs) = if same k kinds.Comma then Some (constants.Name xs) else if same k kinds.Colon then Some (constants.Colon xs) else None
constants_word k (constants.Colon xs) = sort_of k and_then λ s. Some (constants.Sorted xs s)
constants_word k c = None

abbrev pub constants_name : List ℕ → Constants → Option Constants
constants_name x (constants.Name xs) = Some (constants.Named (xs ++ x ∷ []))
constants_name x c = None

abbrev pub constants_step : Constants → Token → Option Constants
constants_step c (word k) = constants_word k c
constants_step c (name x) = constants_name x c
constants_step c (numeral n) = None

abbrev pub constants_end : Constants → Option (List Decl)
constants_end (constants.Sorted xs s) = Some (constants_of xs s)
constants_end c = None

-- behind `fun`
abbrev pub function_word : Kind → Function → Option Function
function_word k (function.Named x) = if same k kinds.OpenRound then Some (function.Argument x []) else None
function_word k (function.Argument x ss) = sort_of k and_then λ s. Some (function.Sorted x (ss ++ s ∷ []))
function_word k (function.Sorted x ss) = if same k kinds.Comma then Some (function.Argument x ss) else if same k kinds.CloseRound then Some (function.Closed x ss) else None
function_word k (function.Closed x ss) = if same k kinds.Colon then Some (function.Colon x ss) else None
function_word k (function.Colon x ss) = sort_of k and_then λ s. Some (function.Returning x ss s)
function_word k (function.Returning x ss s) = if same k kinds.Level then Some (function.Level x ss s) else None
function_word k f = None

abbrev pub function_name : List ℕ → Function → Option Function
function_name x function.Name = Some (function.Named x)
function_name x f = None

abbrev pub function_numeral : ℕ → Function → Option Function
function_numeral n (function.Level x ss s) = Some (function.Leveled x ss s n)
function_numeral n f = None

abbrev pub function_step : Function → Token → Option Function
function_step f (word k) = function_word k f
function_step f (name x) = function_name x f
function_step f (numeral n) = function_numeral n f

abbrev pub function_end : Function → Option Decl
function_end (function.Leveled x ss s n) = Some (Fun x ss s n)
function_end f = None

-- behind `[`
abbrev pub variables_word : Kind → Variables → Option Variables
variables_word k (variables.Named vs x) = if same k kinds.Colon then Some (variables.Colon vs x) else None
variables_word k (variables.Colon vs x) = sort_of k and_then λ s. Some (variables.Sorted (vs ++ variable_of x s ∷ []))
variables_word k (variables.Sorted vs) = if same k kinds.Comma then Some (variables.Name vs) else None
variables_word k v = None

abbrev pub variables_name : List ℕ → Variables → Option Variables
variables_name x variables.First = Some (variables.Named [] x)
variables_name x (variables.Name vs) = Some (variables.Named vs x)
variables_name x v = None

abbrev pub variables_step : Variables → Token → Option Variables
variables_step v (word k) = variables_word k v
variables_step v (name x) = variables_name x v
variables_step v (numeral n) = None

abbrev pub variables_end : Variables → Option (List Var)
variables_end variables.First = Some []
variables_end (variables.Sorted vs) = Some vs
variables_end v = None
