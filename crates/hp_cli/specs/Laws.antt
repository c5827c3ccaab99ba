-- What an input can be answered, beside what it is answered.
use Rattle.std.specs.Prelude.{◌≡◌, ◌≢◌, ◌⊎◌, ℕ, List, [], Ok}
use Rattle.hp_tree.specs.declared.problem.Problem.{Problem}
use Rattle.hp_pairs.specs.declared.answer.Outside.{Outside as outside}
use Rattle.hp_pairs.specs.Text.{outside_text}
use Rattle.hp_chain.specs.Ground.{Read, pairs_of, read_of}
use Rattle.hp_cli.specs.declared.answer.Status.{Status}
use Rattle.hp_cli.specs.declared.answer.Status.TheVariants.{Overflow}
use Rattle.hp_cli.specs.Answer.{Answers, IsSettled}
use Rattle.hp_cli.specs.Verdicts.{IsBuilt}

-- a status that comes of words and input alone: no verdict, no fault of a stream, and no want of memory
abbrev pub IsDetermined : Status → Type 0
IsDetermined s = IsSettled s → ⊥

-- clauses that keep the rules one by one, with cases that are tested with each other
pub record HasPairs (bytes : List ℕ) : Type 0 where
  pub problem : Problem
  pub built : IsBuilt bytes problem
  pub read : Read
  pub is : read_of problem ≡ Ok read
  pub some : pairs_of read ≢ []

-- one rule that two clauses break with each other, at two points
pub record IsSamePair (text other : List ℕ) : Type 0 where
  pub one : outside
  pub two : outside
  pub written : text ≡ outside_text one
  pub other_written : other ≡ outside_text two
  pub clause : one.clause ≡ two.clause
  pub rule : one.rule ≡ two.rule
  pub others : one.other ≡ two.other

-- Where words and input have such an answer, they have no other one, but that two cases that break a rule may be told by another
-- point, or by a number that is too wide over them or over cases before.
abbrev pub OneAnswer : Type 0
OneAnswer = (words : List (List ℕ)) (bytes text other : List ℕ) (s t : Status)
    → Answers words bytes text s → Answers words bytes other t → IsDetermined s → t ≢ Overflow → (s ≡ t) × ((text ≡ other) ⊎ IsSamePair text other)

-- and no other one at all where no cases are tested with each other
abbrev pub OnlyAnswer : Type 0
OnlyAnswer = (words : List (List ℕ)) (bytes text other : List ℕ) (s t : Status)
    → Answers words bytes text s → Answers words bytes other t → IsDetermined s → (HasPairs bytes → ⊥) → (s ≡ t) × (text ≡ other)
