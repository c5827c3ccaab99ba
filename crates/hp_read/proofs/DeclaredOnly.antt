-- What is spelled as a declaration or a list of variables is read as that, and from each state some tokens lead to an end.
use Rattle.std.proofs.Common.{◌≡◌, ℕ, List, [], ◌∷◌, ◌++◌, Some, refl, ap, ◌∙◌}
use Rattle.hp_tree.specs.declared.problem.Decl.{Decl}
use Rattle.hp_tree.specs.declared.problem.Decl.TheVariants.{Fun}
use Rattle.hp_tree.specs.declared.problem.Sort.{Sort}
use Rattle.hp_tree.specs.declared.problem.Var.{Var}
use Rattle.hp_text.specs.declared.token.Kind.TheVariants as kinds
use Rattle.hp_read.specs.declared.lines.Constants.{Constants}
use Rattle.hp_read.specs.declared.lines.Constants.TheVariants as c
use Rattle.hp_read.specs.declared.lines.Function.{Function}
use Rattle.hp_read.specs.declared.lines.Function.TheVariants as f
use Rattle.hp_read.specs.declared.lines.Variables.{Variables}
use Rattle.hp_read.specs.declared.lines.Variables.TheVariants as v
use Rattle.hp_grammar.specs.declared.symbol.Symbol.{Symbol as Token}
use Rattle.hp_grammar.specs.declared.symbol.Symbol.TheVariants.{Word as word, Name as name, Numeral as numeral}
use Rattle.hp_grammar.specs.Token.{same, AreTokens}
use Rattle.hp_grammar.specs.Declarations.{SpellsSort, num, idx, ptr, SpellsName, called, SpellsConstants, constants, constants_of, SpellsFunction, function, SpellsVariable, variable, variable_of, SpellsVariables, none, some}
use Rattle.hp_grammar.specs.Runs.{◌and_then◌, runs}
use Rattle.hp_read.specs.Stages.{sort_of, constants_step, constants_end, function_step, function_end, variables_step, variables_end}
use Rattle.hp_grammar.proofs.Machines.{runs_on, result_of, Reads}
use Rattle.hp_read.proofs.Layers.{Lists, list_read}
use Rattle.hp_read.proofs.Declared.{constants_found, function_found, variables_found}

-- constants
name_goes : (xs : List (List ℕ)) (u : List Token) (x : List ℕ) → SpellsName u x → runs constants_step (c.Name xs) u ≡ Some (c.Named (xs ++ x ∷ []))
name_goes xs u x (called y) = refl

names_go : Lists constants_step (c.Name []) c.Name c.Named SpellsName
unfolding same
names_go = record { starts = λ u x h. name_goes [] u x h; goes = name_goes; comma = λ xs. refl }

sort_ends : (xs : List (List ℕ)) (u : List Token) (s : Sort) → SpellsSort u s → runs constants_step (c.Colon xs) u ≡ Some (c.Sorted xs s)
unfolding same sort_of
sort_ends xs u s num = refl
sort_ends xs u s idx = refl
sort_ends xs u s ptr = refl

constants_only : (u : List Token) (ds : List Decl) → SpellsConstants u ds → result_of constants_step constants_end (c.Name []) u ≡ Some ds
unfolding same
constants_only u ds (constants w z xs s h g) =
    ap (λ o. o and_then constants_end)
    (runs_on constants_step w (word kinds.Colon ∷ z) (c.Name []) (c.Named xs) (list_read constants_step (c.Name []) c.Name c.Named SpellsName names_go w xs h)
    ∙ sort_ends xs z s g)

constants_ends : (a : Constants) → (u : List Token) × (ds : List Decl) × AreTokens u × (result_of constants_step constants_end a u ≡ Some ds)
unfolding same sort_of
constants_ends (c.Name xs) = (name (120 ∷ []) ∷ word kinds.Colon ∷ word kinds.Num ∷ [], _, (refl, (refl, (refl, tt))), refl)
constants_ends (c.Named xs) = (word kinds.Colon ∷ word kinds.Num ∷ [], _, (refl, (refl, tt)), refl)
constants_ends (c.Colon xs) = (word kinds.Num ∷ [], _, (refl, tt), refl)
constants_ends (c.Sorted xs s) = ([], constants_of xs s, tt, refl)

pub constants_read : Reads constants_step constants_end (c.Name []) SpellsConstants
constants_read = record { found = constants_found; only = constants_only; ends = constants_ends }

-- functions
argument_goes : (x : List ℕ) (ss : List Sort) (u : List Token) (s : Sort) → SpellsSort u s → runs function_step (f.Argument x ss) u ≡ Some (f.Sorted x (ss ++ s ∷ []))
unfolding same sort_of
argument_goes x ss u s num = refl
argument_goes x ss u s idx = refl
argument_goes x ss u s ptr = refl

arguments_go : (x : List ℕ) → Lists function_step (f.Argument x []) (f.Argument x) (f.Sorted x) SpellsSort
unfolding same
arguments_go x = record { starts = λ u s h. argument_goes x [] u s h; goes = argument_goes x; comma = λ ss. refl }

return_goes : (x : List ℕ) (ss : List Sort) (u : List Token) (s : Sort) → SpellsSort u s → runs function_step (f.Colon x ss) u ≡ Some (f.Returning x ss s)
unfolding same sort_of
return_goes x ss u s num = refl
return_goes x ss u s idx = refl
return_goes x ss u s ptr = refl

function_only : (u : List Token) (d : Decl) → SpellsFunction u d → result_of function_step function_end f.Name u ≡ Some d
unfolding same
function_only u d (function x w z ss s n h g) =
    let rest : List Token = word kinds.Level ∷ numeral n ∷ [] in
    ap (λ o. o and_then function_end)
    (runs_on function_step w (word kinds.CloseRound ∷ word kinds.Colon ∷ z ++ rest) (f.Argument x []) (f.Sorted x ss)
    (list_read function_step (f.Argument x []) (f.Argument x) (f.Sorted x) SpellsSort (arguments_go x) w ss h)
    ∙ runs_on function_step z rest (f.Colon x ss) (f.Returning x ss s) (return_goes x ss z s g))

function_ends : (a : Function) → (u : List Token) × (d : Decl) × AreTokens u × (result_of function_step function_end a u ≡ Some d)
unfolding same sort_of
function_ends f.Name = (
  name (120 ∷ []) ∷ word kinds.OpenRound ∷ word kinds.Num ∷ word kinds.CloseRound ∷ word kinds.Colon ∷ word kinds.Num ∷ word kinds.Level ∷ numeral 1 ∷ [],
  _,
  (refl, (refl, (refl, (refl, (refl, (refl, (refl, (refl, tt)))))))),
  refl,
)
function_ends (f.Named x) = (
  word kinds.OpenRound ∷ word kinds.Num ∷ word kinds.CloseRound ∷ word kinds.Colon ∷ word kinds.Num ∷ word kinds.Level ∷ numeral 1 ∷ [],
  _,
  (refl, (refl, (refl, (refl, (refl, (refl, (refl, tt))))))),
  refl,
)
function_ends (f.Argument x ss) = (
  word kinds.Num ∷ word kinds.CloseRound ∷ word kinds.Colon ∷ word kinds.Num ∷ word kinds.Level ∷ numeral 1 ∷ [],
  _,
  (refl, (refl, (refl, (refl, (refl, (refl, tt)))))),
  refl,
)
function_ends (f.Sorted x ss) =
    (word kinds.CloseRound ∷ word kinds.Colon ∷ word kinds.Num ∷ word kinds.Level ∷ numeral 1 ∷ [], _, (refl, (refl, (refl, (refl, (refl, tt))))), refl)
function_ends (f.Closed x ss) = (word kinds.Colon ∷ word kinds.Num ∷ word kinds.Level ∷ numeral 1 ∷ [], _, (refl, (refl, (refl, (refl, tt)))), refl)
function_ends (f.Colon x ss) = (word kinds.Num ∷ word kinds.Level ∷ numeral 1 ∷ [], _, (refl, (refl, (refl, tt))), refl)
function_ends (f.Returning x ss s) = (word kinds.Level ∷ numeral 1 ∷ [], _, (refl, (refl, tt)), refl)
function_ends (f.Level x ss s) = (numeral 1 ∷ [], _, (refl, tt), refl)
function_ends (f.Leveled x ss s n) = ([], Fun x ss s n, tt, refl)

pub function_read : Reads function_step function_end f.Name SpellsFunction
function_read = record { found = function_found; only = function_only; ends = function_ends }

-- variables
variable_sorted : (vs : List Var) (x : List ℕ) (u : List Token) (s : Sort) → SpellsSort u s → runs variables_step (v.Colon vs x) u ≡ Some (v.Sorted (vs ++ variable_of x s ∷ []))
unfolding same sort_of
variable_sorted vs x u s num = refl
variable_sorted vs x u s idx = refl
variable_sorted vs x u s ptr = refl

variable_goes : (vs : List Var) (u : List Token) (a : Var) → SpellsVariable u a → runs variables_step (v.Name vs) u ≡ Some (v.Sorted (vs ++ a ∷ []))
unfolding same
variable_goes vs u a (variable x w s h) = variable_sorted vs x w s h

variable_starts : (u : List Token) (a : Var) → SpellsVariable u a → runs variables_step v.First u ≡ Some (v.Sorted (a ∷ []))
unfolding same
variable_starts u a (variable x w s h) = variable_sorted [] x w s h

variables_go : Lists variables_step v.First v.Name v.Sorted SpellsVariable
unfolding same
variables_go = record { starts = variable_starts; goes = variable_goes; comma = λ vs. refl }

variables_only : (u : List Token) (vs : List Var) → SpellsVariables u vs → result_of variables_step variables_end v.First u ≡ Some vs
variables_only u vs none = refl
variables_only u vs (some w ws h) = ap (λ o. o and_then variables_end) (list_read variables_step v.First v.Name v.Sorted SpellsVariable variables_go w ws h)

variables_ends : (a : Variables) → (u : List Token) × (vs : List Var) × AreTokens u × (result_of variables_step variables_end a u ≡ Some vs)
unfolding same sort_of
variables_ends v.First = ([], [], tt, refl)
variables_ends (v.Name vs) = (name (120 ∷ []) ∷ word kinds.Colon ∷ word kinds.Num ∷ [], _, (refl, (refl, (refl, tt))), refl)
variables_ends (v.Named vs x) = (word kinds.Colon ∷ word kinds.Num ∷ [], _, (refl, (refl, tt)), refl)
variables_ends (v.Colon vs x) = (word kinds.Num ∷ [], _, (refl, tt), refl)
variables_ends (v.Sorted vs) = ([], vs, tt, refl)

pub variables_read : Reads variables_step variables_end v.First SpellsVariables
variables_read = record { found = variables_found; only = variables_only; ends = variables_ends }
