-- Reading a whole text, token by token.
use Rattle.std.specs.Prelude.{Bool, true, false, if◌then◌else◌, ◌==◌, List, [], ◌∷◌, ◌++◌, Option, Some, None}
use Rattle.hp_tree.specs.declared.problem.Clause.{Clause}
use Rattle.hp_tree.specs.declared.problem.Decl.{Decl}
use Rattle.hp_tree.specs.declared.problem.Problem.{Problem}
use Rattle.hp_text.specs.declared.token.Kind.{Kind}
use Rattle.hp_text.specs.declared.token.Kind.TheVariants as kinds
use Rattle.hp_body.specs.declared.body.Place.TheVariants.{First}
use Rattle.hp_tree.specs.declared.problem.Var.{Var}
use Rattle.hp_body.specs.declared.body.Body.{Body as BodyState}
use Rattle.hp_read.specs.declared.lines.Constants.{Constants as ConstantsState}
use Rattle.hp_read.specs.declared.lines.Constants.TheVariants as constants
use Rattle.hp_read.specs.declared.lines.Function.{Function as FunctionState}
use Rattle.hp_read.specs.declared.lines.Function.TheVariants as function
use Rattle.hp_read.specs.declared.lines.Variables.{Variables as VariablesState}
use Rattle.hp_read.specs.declared.lines.Variables.TheVariants as variables
use Rattle.hp_read.specs.declared.stage.Stage.{Stage}
use Rattle.hp_read.specs.declared.stage.Stage.TheVariants.{Start, Profile, Numbered, Whole, Constants, Function, Clause as ClauseWord, Variables, Body}
use Rattle.hp_read.specs.declared.stage.Progress.{Progress}
use Rattle.hp_grammar.specs.declared.symbol.Symbol.{Symbol as Token}
use Rattle.hp_grammar.specs.declared.symbol.Symbol.TheVariants.{Word as word, Name as name, Numeral as numeral}
use Rattle.hp_grammar.specs.Token.{same}
use Rattle.hp_grammar.specs.Problems.{clause_of, problem_of}
use Rattle.hp_grammar.specs.Runs.{◌and_then◌}
use Rattle.hp_body.specs.BodyMachine.{begun, body_step, body_end}
use Rattle.hp_read.specs.Stages.{constants_step, constants_end, function_step, function_end, variables_step, variables_end}

abbrev pub at : Problem → Stage → Progress
at p s = record { made = p; stage = s }

abbrev pub started : Progress
started = at (problem_of 1 [] []) Start

abbrev pub with_declarations : Problem → List Decl → Progress
with_declarations p ds = at (problem_of p.profile (p.decls ++ ds) p.clauses) Whole

abbrev pub with_item : Problem → Clause → Progress
with_item p c = at (problem_of p.profile p.decls (p.clauses ++ c ∷ [])) Whole

-- the token is this word
abbrev pub ends_with : Kind → Token → Bool
ends_with k (word l) = same l k
ends_with k (name x) = false
ends_with k (numeral n) = false

-- declarations stand before items
abbrev pub declaration : Problem → List Clause → Stage → Option Progress
declaration p [] s = Some (at p s)
declaration p (c ∷ cs) s = None

unfoldable pub item_goes : Problem → Kind → Option Progress
item_goes p k =
    if same k kinds.Clause then Some (at p ClauseWord)
    else if same k kinds.Query then Some (at p (Body true [] (begun First)))
    else None

-- a declaration or an item begins
unfoldable pub between : Problem → Kind → Option Progress
between p k =
    if same k kinds.Const then declaration p p.clauses (Constants (constants.Name []))
    else if same k kinds.Fun then declaration p p.clauses (Function function.Name)
    else item_goes p k

unfoldable pub at_start : Problem → Token → Option Progress
at_start p (word k) = if same k kinds.Profile then Some (at p Profile) else between p k
at_start p (name x) = None
at_start p (numeral n) = None

unfoldable pub at_profile : Problem → Token → Option Progress
at_profile p (numeral n) = if n == 1 then Some (at p Numbered) else None
at_profile p (word k) = None
at_profile p (name x) = None

unfoldable pub at_numbered : Problem → Token → Option Progress
at_numbered p t = if ends_with kinds.Semicolon t then Some (at p Whole) else None

unfoldable pub at_whole : Problem → Token → Option Progress
at_whole p (word k) = between p k
at_whole p (name x) = None
at_whole p (numeral n) = None

unfoldable pub constants_stage : Problem → ConstantsState → Token → Option Progress
constants_stage p c t =
    if ends_with kinds.Semicolon t then (constants_end c and_then λ ds. Some (with_declarations p ds))
    else (constants_step c t and_then λ d. Some (at p (Constants d)))

unfoldable pub function_stage : Problem → FunctionState → Token → Option Progress
function_stage p f t =
    if ends_with kinds.Semicolon t then (function_end f and_then λ d. Some (with_declarations p (d ∷ [])))
    else (function_step f t and_then λ g. Some (at p (Function g)))

unfoldable pub at_clause : Problem → Token → Option Progress
at_clause p t = if ends_with kinds.OpenSquare t then Some (at p (Variables variables.First)) else None

unfoldable pub variables_stage : Problem → VariablesState → Token → Option Progress
variables_stage p v t =
    if ends_with kinds.CloseSquare t then (variables_end v and_then λ vs. Some (at p (Body false vs (begun First))))
    else (variables_step v t and_then λ w. Some (at p (Variables w)))

unfoldable pub body_stage : Problem → Bool → List Var → BodyState → Token → Option Progress
body_stage p q vs b t =
    if ends_with kinds.Semicolon t then (body_end b and_then λ r. Some (with_item p (clause_of q vs r.0 r.1)))
    else (body_step b t and_then λ c. Some (at p (Body q vs c)))

abbrev pub stage_step : Problem → Stage → Token → Option Progress
stage_step p Start t = at_start p t
stage_step p Profile t = at_profile p t
stage_step p Numbered t = at_numbered p t
stage_step p Whole t = at_whole p t
stage_step p (Constants c) t = constants_stage p c t
stage_step p (Function f) t = function_stage p f t
stage_step p ClauseWord t = at_clause p t
stage_step p (Variables v) t = variables_stage p v t
stage_step p (Body q vs b) t = body_stage p q vs b t

abbrev pub top_step : Progress → Token → Option Progress
top_step s t = stage_step s.made s.stage t

-- the text may end here
abbrev pub is_whole : Stage → Bool
is_whole Start = true
is_whole Whole = true
is_whole s = false

abbrev pub stage_end : Problem → Stage → Option Problem
stage_end p s = if is_whole s then Some p else None

-- the problem, where the text may end here
abbrev pub top_end : Progress → Option Problem
top_end s = stage_end s.made s.stage
