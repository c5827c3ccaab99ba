-- What literals, arguments, definitions, sums and congruence say of values, and what stays while they are made.
use Rattle.std.specs.Prelude.{◌≡◌, ◌↔◌, ◌≤◌, ◌-◌, ℕ, suc, Bool, List, length, Ok, Some, true, slice_get}
use Rattle.std.specs.List.{All, AllZip}
use Rattle.hp_tree.specs.declared.term.Term.{Term}
use Rattle.hp_tree.specs.declared.problem.Sort.{Sort}
use Rattle.hp_tree.specs.declared.problem.Atom.{Atom}
use Rattle.hp_tree.specs.Value.{Word, Environment, Functions, atom_is_true, value}
use Rattle.hp_terms.specs.Scope.{Widens}
use Rattle.hp_terms.specs.Sorting.{forms_of, has_form, is_sorted}
use Rattle.hp_terms.specs.Weight.{IsLightAtom, largest_offset, weight}
use Rattle.hp_terms.specs.Words.{made_word}
use Rattle.hp_lit.specs.declared.literal.Name.{Name}
use Rattle.hp_lit.specs.declared.literal.Lit.{Lit}
use Rattle.hp_lit.specs.declared.line.Arg.{Arg}
use Rattle.hp_lit.specs.declared.line.Body.{Body}
use Rattle.hp_lit.specs.declared.line.Def.{Def}
use Rattle.hp_lit.specs.declared.line.Lin.{Lin}
use Rattle.hp_lit.specs.declared.line.Body.TheVariants.{Apply, Sum}
use Rattle.hp_lit.specs.declared.line.Line.{Line}
use Rattle.hp_lit.specs.declared.line.Origin.TheVariants.{Equal}
use Rattle.hp_lit.specs.Fit.{IsFit}
use Rattle.hp_lit.specs.Sorts.{HaveSorts}
use Rattle.hp_lit.specs.Truth.{Values, LineIsTrue, name_value}
use Rattle.hp_lit.specs.Words.{Agrees, scope_over}
use Rattle.hp_linear.specs.Values.{lin_value}
use Rattle.hp_defs.specs.declared.names.Ground.{Ground}
use Rattle.hp_defs.specs.declared.names.Signature.{Signature}
use Rattle.hp_defs.specs.Names.{NameList, definition_name, sorts, words}
use Rattle.hp_defs.specs.Fit.{ArgFits, IsFitNames}
use Rattle.hp_defs.specs.Made.{IsMade, IsSmallArg}
use Rattle.hp_base.specs.Making.{Begins}
use Rattle.hp_base.specs.Lines.{add_line, flat_scope, literals_as, with_line}
use Rattle.hp_base.specs.Defining.{definition_of, sum_literals}
use Rattle.hp_base.specs.Arguments.{argument_of}
use Rattle.hp_base.specs.Congruence.{Point, congruence_literals, congruence_of}
use Rattle.hp_base.specs.Values.{Extends, SumsHold, arg_value, arg_values, function_at}

-- ---- literals of atoms
-- one of the literals is true exactly where the atom is, and false for the other sign, where the words have the values of their names
abbrev pub LiteralsSay : Type 0
LiteralsSay = (ws : List Word) (sorts : List Sort) (v : Values) (env : Environment) (functions : Functions) (sort : Sort) (positive : Bool) (atom : Atom) (lits : List Lit)
    → Agrees ws v env → HaveSorts sorts v → is_sorted (scope_over ws sorts) sort atom ≡ true → literals_as sort ws positive atom ≡ Ok lits
    → LineIsTrue v lits ↔ (atom_is_true env functions atom ≡ positive)

abbrev pub LiteralsFit : Type 0
LiteralsFit = (ws : List Word) (sorts : List Sort) (sort : Sort) (positive : Bool) (atom : Atom) (lits : List Lit)
    → is_sorted (scope_over ws sorts) sort atom ≡ true → IsLightAtom atom → literals_as sort ws positive atom ≡ Ok lits → All (IsFit sorts) lits

-- ---- ground sets
-- the literals of a line can be decided
abbrev pub IsFitLine : NameList → Line → Type 0
IsFitLine names line = All (IsFit (sorts names)) line.lits

-- there is a line that says that a name is a sum
pub record HasSumLine (lines : List Line) (name : Name) (lin : Lin) : Type 0 where
  pub at : ℕ
  pub line : Line
  pub there : slice_get lines at ≡ Some line
  pub says : sum_literals name lin ≡ Ok line.lits

-- names and lines in which each sum has its line
abbrev pub HasSums : Ground → Type 0
HasSums g = (k : ℕ) (d : Def) (lin : Lin) → slice_get g.names.definitions k ≡ Some d → d.body ≡ Sum lin → HasSumLine g.lines (definition_name g.names k) lin

-- the name is that of a definition with this body
pub record IsDefined (names : NameList) (name : Name) (body : Body) : Type 0 where
  pub place : ℕ
  pub definition : Def
  pub there : slice_get names.definitions place ≡ Some definition
  pub has_body : definition.body ≡ body
  pub has_name : name ≡ definition_name names place

-- the word of a definition, by its number counted from 1
abbrev pub definition_word : NameList → Name → Word
definition_word names name = made_word (suc (name.0 - length names.constants))

-- the word stands at the place of the name
abbrev pub DefinedNamesHaveWords : Type 0
DefinedNamesHaveWords = (names : NameList) (name : Name) (body : Body) → IsDefined names name body → slice_get (words names) name.0 ≡ Some (definition_word names name)

-- and has its sort
abbrev pub DefinedWordsHaveSorts : Type 0
DefinedWordsHaveSorts = (names : NameList) (name : Name) (body : Body) → IsMade names → IsDefined names name body
    → (flat_scope names).name (definition_word names name) ≡ slice_get (sorts names) name.0

-- a word keeps its sort while more is added
abbrev pub ScopesWiden : Type 0
ScopesWiden = (before after : Ground) → Begins before after → IsMade after.names → Widens (flat_scope before.names) (flat_scope after.names)

-- a line that is added is the last one
abbrev pub AddedLinesAreLast : Type 0
AddedLinesAreLast = (line : Line) (done : Unit {0}) (before after : Ground) → add_line line before ≡ Ok (done, after) → after ≡ with_line before line

abbrev pub LinesKeepSums : Type 0
LinesKeepSums = (line : Line) (g : Ground) → HasSums g → HasSums (with_line g line)

-- ---- arguments
abbrev pub ArgumentsBegin : Type 0
ArgumentsBegin = (item : ℕ) (sort : Sort) (term : Term) (arg : Arg) (before after : Ground) → argument_of item sort term before ≡ Ok (arg, after) → Begins before after

-- the argument of a term has its value in each ground set that grows from there
abbrev pub ArgumentsSay : Type 0
ArgumentsSay = (item : ℕ) (sort : Sort) (term : Term) (arg : Arg) (before after : Ground) (end : Ground) (v : Values) (env : Environment) (functions : Functions)
    → argument_of item sort term before ≡ Ok (arg, after) → Begins after end
    → Agrees (words end.names) v env → SumsHold end.names v
    → has_form (forms_of (flat_scope before.names) term) sort ≡ true
    → arg_value v arg ≡ value env functions term

abbrev pub ArgumentsFit : Type 0
ArgumentsFit = (item : ℕ) (sort : Sort) (term : Term) (arg : Arg) (before after : Ground)
    → argument_of item sort term before ≡ Ok (arg, after) → IsFitNames before.names
    → has_form (forms_of (flat_scope before.names) term) sort ≡ true
    → ArgFits (sorts after.names) sort arg × IsFitNames after.names

-- an argument keeps its sort while more is added
abbrev pub ArgumentsStayFit : Type 0
ArgumentsStayFit = (before after : Ground) (sort : Sort) (arg : Arg) → Begins before after → ArgFits (sorts before.names) sort arg → ArgFits (sorts after.names) sort arg

-- what is added to an index is small where the numbers of the term are
abbrev pub ArgumentsAreSmall : Type 0
ArgumentsAreSmall = (item : ℕ) (sort : Sort) (term : Term) (arg : Arg) (before after : Ground)
    → argument_of item sort term before ≡ Ok (arg, after) → weight term ≤ largest_offset → IsSmallArg arg

-- the lines of sums are there, and all that is made can be decided
abbrev pub ArgumentsKeepSums : Type 0
ArgumentsKeepSums = (item : ℕ) (sort : Sort) (term : Term) (arg : Arg) (before after : Ground)
    → argument_of item sort term before ≡ Ok (arg, after) → HasSums before → HasSums after

abbrev pub ArgumentsKeepFit : Type 0
ArgumentsKeepFit = (item : ℕ) (sort : Sort) (term : Term) (arg : Arg) (before after : Ground)
    → argument_of item sort term before ≡ Ok (arg, after) → has_form (forms_of (flat_scope before.names) term) sort ≡ true
    → All (IsFitLine before.names) before.lines → All (IsFitLine after.names) after.lines

-- the lines that are added are true where sums have the values of their forms
abbrev pub ArgumentsKeepTruth : Type 0
ArgumentsKeepTruth = (item : ℕ) (sort : Sort) (term : Term) (arg : Arg) (before after end : Ground) (v : Values)
    → argument_of item sort term before ≡ Ok (arg, after) → Begins after end → SumsHold end.names v
    → All (λ line. LineIsTrue v line.lits) before.lines ↔ All (λ line. LineIsTrue v line.lits) after.lines

-- what holds of every list of names stays so
abbrev pub ArgumentsKeepMade : Type 0
ArgumentsKeepMade = (item : ℕ) (sort : Sort) (term : Term) (arg : Arg) (before after : Ground)
    → argument_of item sort term before ≡ Ok (arg, after) → IsMade before.names → IsMade after.names

-- ---- definitions
abbrev pub DefinitionsBegin : Type 0
DefinitionsBegin = (func : ℕ) (args : List Arg) (name : Name) (before after : Ground) → definition_of func args before ≡ Ok (name, after) → Begins before after

-- the name is that of the application from there on
abbrev pub DefinitionsStand : Type 0
DefinitionsStand = (func : ℕ) (args : List Arg) (name : Name) (before after end : Ground) → definition_of func args before ≡ Ok (name, after) → Begins after end
    → IsDefined end.names name (Apply func args)

-- the name has the value of the function at the values of the arguments, where definitions have the values of their bodies
abbrev pub DefinitionsSay : Type 0
DefinitionsSay = (func : ℕ) (args : List Arg) (name : Name) (before after end : Ground) (v : Values) (functions : Functions)
    → definition_of func args before ≡ Ok (name, after) → Begins after end → Extends functions end.names v
    → name_value v name.0 ≡ function_at functions end.names func (arg_values v args)

-- at arguments of the sorts of the function the name has the sort of its result, and all definitions fit
abbrev pub DefinitionsFit : Type 0
DefinitionsFit = (func : ℕ) (args : List Arg) (name : Name) (before after : Ground) (signature : Signature)
    → definition_of func args before ≡ Ok (name, after) → slice_get before.names.signatures func ≡ Some signature
    → AllZip (ArgFits (sorts before.names)) signature.args args → IsFitNames before.names
    → (slice_get (sorts after.names) name.0 ≡ Some signature.result) × IsFitNames after.names

abbrev pub DefinitionsKeepSums : Type 0
DefinitionsKeepSums = (func : ℕ) (args : List Arg) (name : Name) (before after : Ground)
    → definition_of func args before ≡ Ok (name, after) → HasSums before → HasSums after

abbrev pub DefinitionsKeepFit : Type 0
DefinitionsKeepFit = (func : ℕ) (args : List Arg) (name : Name) (before after : Ground)
    → definition_of func args before ≡ Ok (name, after)
    → All (IsFitLine before.names) before.lines → All (IsFitLine after.names) after.lines

abbrev pub DefinitionsKeepLines : Type 0
DefinitionsKeepLines = (func : ℕ) (args : List Arg) (name : Name) (before after : Ground) → definition_of func args before ≡ Ok (name, after) → after.lines ≡ before.lines

abbrev pub DefinitionsKeepMade : Type 0
DefinitionsKeepMade = (func : ℕ) (args : List Arg) (name : Name) (before after : Ground)
    → definition_of func args before ≡ Ok (name, after) → All IsSmallArg args → IsMade before.names → IsMade after.names

-- ---- sums
-- the line of a sum is true exactly where the name has the value of the form
abbrev pub SumsSay : Type 0
SumsSay = (name : Name) (lin : Lin) (lits : List Lit) (v : Values) → sum_literals name lin ≡ Ok lits
    → LineIsTrue v lits ↔ (name_value v name.0 ≡ lin_value v lin)

-- sums have the values of their forms where all definitions have the values of their bodies
abbrev pub SumsHoldByBodies : Type 0
SumsHoldByBodies = (functions : Functions) (names : NameList) (v : Values) → Extends functions names v → SumsHold names v

-- and where all lines are true
abbrev pub SumsHoldByLines : Type 0
SumsHoldByLines = (g : Ground) (v : Values) → HasSums g → All (λ line. LineIsTrue v line.lits) g.lines → SumsHold g.names v

-- ---- congruence
-- a name of the result's sort, and arguments of the sorts of a function, with small offsets
pub record IsPoint (sorts : List Sort) (signature : Signature) (p : Point) : Type 0 where
  pub name : slice_get sorts p.name.0 ≡ Some signature.result
  pub args : AllZip (ArgFits sorts) signature.args p.args
  pub small : All IsSmallArg p.args

-- what is defined as an application of a function is one
abbrev pub ApplicationsArePoints : Type 0
ApplicationsArePoints = (names : NameList) (name : Name) (func : ℕ) (args : List Arg) (signature : Signature) → IsMade names → IsFitNames names
    → IsDefined names name (Apply func args) → slice_get names.signatures func ≡ Some signature → IsPoint (sorts names) signature (record { name = name; args = args })

-- the line is true exactly where equal arguments give equal values
abbrev pub CongruenceSays : Type 0
CongruenceSays = (sorts : List Sort) (signature : Signature) (p q : Point) (lits : List Lit) (v : Values)
    → HaveSorts sorts v → IsPoint sorts signature p → IsPoint sorts signature q → congruence_literals signature p q ≡ Ok lits
    → LineIsTrue v lits ↔ (arg_values v p.args ≡ arg_values v q.args → name_value v p.name.0 ≡ name_value v q.name.0)

abbrev pub CongruenceFits : Type 0
CongruenceFits = (sorts : List Sort) (signature : Signature) (p q : Point) (lits : List Lit)
    → IsPoint sorts signature p → IsPoint sorts signature q → congruence_literals signature p q ≡ Ok lits → All (IsFit sorts) lits

-- the line of two applications was added
pub record AddsCongruence (signature : Signature) (p q : Point) (before after : Ground) : Type 0 where
  pub lits : List Lit
  pub says : congruence_literals signature p q ≡ Ok lits
  pub same : after ≡ with_line before (record { lits = lits; origin = Equal p.name q.name })

abbrev pub CongruenceIsAdded : Type 0
CongruenceIsAdded = (signature : Signature) (p q : Point) (done : Unit {0}) (before after : Ground) → congruence_of signature p q before ≡ Ok (done, after)
    → AddsCongruence signature p q before after
