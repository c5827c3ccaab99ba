-- What the program answers: the status, and the text that comes with it.
use Rattle.std.specs.Prelude.{◌≡◌, ◌⊎◌, ℕ, List, [], ◌++◌, IfSome}
use Rattle.std.specs.declared.option.Option.{Option}
use Rattle.std.specs.Io.KnownBytes.{Appends}
use Rattle.hp_cli.specs.declared.answer.Status.{Status}
use Rattle.hp_cli.specs.declared.answer.Status.TheVariants.{Done, Usage, ReadFault, WriteFault, Spelling, Sort, Outside, Limit, Overflow, Sat, Spent, Memory, NotBuilt, Unsat}
use Rattle.hp_cli.specs.declared.words.Task.{Task}
use Rattle.hp_cli.specs.declared.words.Task.TheVariants.{Solve, Print}
use Rattle.hp_cli.specs.Words.{Asks, IsUsage}
use Rattle.hp_cli.specs.Refusals.{usage_text}
use Rattle.hp_cli.specs.Verdicts.{Limited, Missorted, Misspelled, OtherForm, OutOfNodes, Printed, Satisfiable, Strained, StrainedPair, TooLong, TooMany, Unruly, Unsatisfiable}

-- the exit status
abbrev pub code : Status → ℕ
code Done = 0
code Usage = 2
code ReadFault = 3
code WriteFault = 4
code Spelling = 5
code Sort = 6
code Outside = 7
code Limit = 8
code Overflow = 9
code Sat = 10
code Spent = 11
code Memory = 12
code NotBuilt = 13
code Unsat = 20

-- ---- a status with its whole text
-- What a task answers to the bytes of an input. Each answer holds where none before it does: a search comes last.
pub data Does (bytes text : List ℕ) : Task → Status → Type 0 where
  -- every task asks for size and spelling
  too_long : {task : Task} → TooLong bytes text → Does bytes text task Limit
  misspelled : {task : Task} → Misspelled bytes text → Does bytes text task Spelling
  -- printing asks for no more
  printed : Printed bytes text → Does bytes text Print Done
  -- solving asks for names and sorts, for the limits of a text, for forms that are decided, and for a ground set: for the limits of
  -- names and of numbers of the clauses, for the rules of the profile, and for the limits of instances
  missorted : {most : ℕ} → Missorted bytes text → Does bytes text (Solve most) Sort
  too_many : {most : ℕ} → TooMany bytes text → Does bytes text (Solve most) Limit
  other_form : {most : ℕ} → OtherForm bytes text → Does bytes text (Solve most) NotBuilt
  limited : {most : ℕ} → Limited bytes text → Does bytes text (Solve most) Limit
  unruly : {most : ℕ} → Unruly bytes text → Does bytes text (Solve most) Outside
  strained_pair : {most : ℕ} → StrainedPair bytes text → Does bytes text (Solve most) Overflow
  strained : {most : ℕ} → Strained bytes text → Does bytes text (Solve most) Overflow
  satisfiable : {most : ℕ} → Satisfiable bytes text → Does bytes text (Solve most) Sat
  unsatisfiable : {most : ℕ} → Unsatisfiable bytes text → Does bytes text (Solve most) Unsat
  out_of_nodes : {most : ℕ} → OutOfNodes bytes text most → Does bytes text (Solve most) Spent

-- what the words of the command line are answered: how the program is used, where they are no command
pub data Answers (words : List (List ℕ)) (bytes text : List ℕ) : Status → Type 0 where
  usage : IsUsage words → text ≡ usage_text → Answers words bytes text Usage
  done : {task : Task} {status : Status} → Asks words task → Does bytes text task status → Answers words bytes text status

-- ---- what stands in the output
-- a text that was to be written begins with the bytes that were
pub record Begins (words : List (List ℕ)) (bytes out : List ℕ) : Type 0 where
  pub rest : List ℕ
  pub status : Status
  pub answer : Answers words bytes (out ++ rest) status

-- The whole text; after a read fault nothing; after a write fault a part from the front; after want of memory nothing, or
-- a part from the front where the sink wanted it.
pub data Stands (words : List (List ℕ)) (bytes out : List ℕ) : Status → Type 0 where
  whole : {status : Status} → Answers words bytes out status → Stands words bytes out status
  unread : out ≡ [] → Stands words bytes out ReadFault
  unwritten : Begins words bytes out → Stands words bytes out WriteFault
  wanting : out ≡ [] → Stands words bytes out Memory
  wanted : Begins words bytes out → Stands words bytes out Memory

-- the same for the number of a status
pub record Fits (words : List (List ℕ)) (bytes out : List ℕ) (number : ℕ) : Type 0 where
  pub status : Status
  pub coded : number ≡ code status
  pub stands : Stands words bytes out status

-- ---- kinds of statuses
-- a stream failed, or memory was wanting
pub data IsFault : Status → Type 0 where
  read : IsFault ReadFault
  write : IsFault WriteFault
  memory : IsFault Memory

-- a status that comes with its whole text
abbrev pub IsWhole : Status → Type 0
IsWhole s = IsFault s → ⊥

-- a verdict, or a number that is too wide on the way to one
pub data IsVerdict : Status → Type 0 where
  overflow : IsVerdict Overflow
  sat : IsVerdict Sat
  unsat : IsVerdict Unsat
  spent : IsVerdict Spent

abbrev pub IsSettled : Status → Type 0
IsSettled s = IsVerdict s ⊎ IsFault s

abbrev pub IsSettledCode : ℕ → Type 0
IsSettledCode number = (s : Status) × IsSettled s × (number ≡ code s)

-- ---- what source and sink tell
-- these bytes were left, where the source tells what was
abbrev pub IsLeft : Option (List ℕ) → List ℕ → Type 0
IsLeft left bytes = IfSome left (λ all. all ≡ bytes)

-- bytes were written that keep to this: those by which the sink grew, where it tells what it holds
abbrev pub Wrote : Option (List ℕ) → Option (List ℕ) → (List ℕ → Type 0) → Type 0
Wrote before after P = (out : List ℕ) × Appends before after out × P out

-- There was an input, and bytes were written, that keep to this: the input is what the source had left, where it tells
-- that, and else it is some input.
abbrev pub Told : Option (List ℕ) → Option (List ℕ) → Option (List ℕ) → (List ℕ → List ℕ → Type 0) → Type 0
Told left before after P = (bytes : List ℕ) × IsLeft left bytes × Wrote before after (P bytes)

-- ---- texts in scope
-- `solve`, with or without a limit of nodes
abbrev pub IsSolving : List (List ℕ) → Type 0
IsSolving words = (most : ℕ) × Asks words (Solve most)
