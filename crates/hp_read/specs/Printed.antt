-- Reading where clauses that are whole are printed and given up: a state holds the later clauses alone, and a text has the earlier ones.
use Rattle.std.specs.Prelude.{◌≡◌, ℕ, List, [], ◌∷◌, ◌++◌, ◌⊎◌}
use Rattle.hp_tree.specs.declared.problem.Clause.{Clause}
use Rattle.hp_tree.specs.declared.problem.Problem.{Problem}
use Rattle.hp_ast.specs.Printing.{heading_text, clauses_text, problem_text}
use Rattle.hp_grammar.specs.declared.counts.Counts.{Counts}
use Rattle.hp_read.specs.declared.stage.Progress.{Progress}
use Rattle.hp_read.specs.declared.stage.Stage.{Stage}
use Rattle.hp_read.specs.declared.stage.Stage.TheVariants.{Whole, Clause as ClauseWord, Variables, Body}
use Rattle.hp_grammar.specs.Problems.{problem_of}
use Rattle.hp_grammar.specs.Spells.{Spells}
use Rattle.hp_read.specs.Reading.{IsReading}
use Rattle.hp_read.specs.Top.{at}

-- the text is the printed text of the problem that the bytes spell
pub record SpellsAsPrinted (bytes text : List ℕ) : Type 0 where
  pub problem : Problem
  pub spelled : Spells bytes problem
  pub printed : text ≡ problem_text problem

-- the state with these clauses before its own
abbrev pub with_before : List Clause → Problem → Problem
with_before cs p = problem_of p.profile p.decls (cs ++ p.clauses)

abbrev pub resumed : List Clause → Progress → Progress
resumed cs s = at (with_before cs s.made) s.stage

abbrev pub HasClause : List Clause → Type 0
HasClause [] = ⊥
HasClause (c ∷ cs) = Unit {0}

-- nothing of a declaration is read last
abbrev pub IsItem : Stage → Type 0
IsItem Whole = Unit {0}
IsItem ClauseWord = Unit {0}
IsItem (Variables v) = Unit {0}
IsItem (Body q vs b) = Unit {0}
IsItem s = ⊥

-- a state that holds a clause, so that no declaration may follow
abbrev pub IsHeld : Progress → Type 0
IsHeld s = HasClause s.made.clauses × IsItem s.stage

-- the text has the lines of these clauses, behind those that stand before them
abbrev pub HasLines : List ℕ → List Clause → Problem → Type 0
HasLines out cs p = out ≡ heading_text p ++ clauses_text cs

-- what the reader has come to, where the text has the clauses that were given up: none before the first one is whole
pub record IsPrinting (bytes out : List ℕ) (place : ℕ) (progress : Progress) (counts : Counts) : Type 0 where
  pub before : List Clause
  pub reading : IsReading bytes place (resumed before progress) counts
  pub holds : ((out ≡ []) × (before ≡ [])) ⊎ (IsHeld progress × HasLines out before progress.made)

-- the text has these clauses, or is empty as they are
abbrev pub Holds : List ℕ → List Clause → Problem → Type 0
Holds out cs p = ((out ≡ []) × (cs ≡ [])) ⊎ HasLines out cs p

-- the text with the lines of the clauses behind those that it has
abbrev pub Follows : List ℕ → List ℕ → Problem → Type 0
Follows before after p = (cs : List Clause) → Holds before cs p → HasLines after (cs ++ p.clauses) p

-- the clauses before the last one are given up to a text; where there is none, all stays
pub record GivesUp (before after : List ℕ) (old new : Problem) : Type 0 where
  pub given : List Clause
  pub clauses : old.clauses ≡ given ++ new.clauses
  pub profile : new.profile ≡ old.profile
  pub decls : new.decls ≡ old.decls
  pub lines : ((given ≡ []) × (after ≡ before)) ⊎ (HasClause new.clauses × ((cs : List Clause) → Holds before cs old → HasLines after (cs ++ given) new))
