-- What a step of the descent comes to.
use Rattle.std.specs.Prelude.{◌≡◌, ℕ, ◌<◌, Bool, false, nat_eq, Ok, Err, List, [], ◌∷◌, ◌++◌, reverse}
use Rattle.hp_num.specs.declared.wide.Wide.{Wide}
use Rattle.hp_rows.specs.declared.row.Row.{Row}
use Rattle.hp_rows.specs.declared.answer.Place.{Place}
use Rattle.hp_rows.specs.declared.answer.Place.TheVariants as place
use Rattle.hp_rows.specs.declared.answer.Strain.{Strain}
use Rattle.hp_rows.specs.declared.descent.State.{State}
use Rattle.hp_rows.specs.declared.descent.Step.{Step}
use Rattle.hp_rows.specs.declared.descent.Step.TheVariants as step
use Rattle.hp_rows.specs.declared.chain.Next.{Next}
use Rattle.hp_rows.specs.declared.chain.Next.TheVariants as next
use Rattle.hp_rows.specs.Lines.{Line, line_of, pivot, reduce}
use Rattle.hp_rows.specs.Points.{point_of}
use Rattle.hp_rows.specs.Strain.{IsStrain}
use Rattle.hp_rows.specs.inner.Descent.{IsState, rank}
use Rattle.hp_rows.specs.Answers.{IsRefuted}

-- n stands first
abbrev pub first_is : ℕ → List ℕ → Bool
first_is n [] = false
first_is n (e ∷ es) = nat_eq e n

-- the state as the code keeps it, the last row of a chain at the end
abbrev pub IsStateOf : List Row → ℕ → State → Type 0
IsStateOf rows w s = IsState rows w (reverse s.chain) (reverse s.lines) (reverse s.found) s.point s.at

-- a state again, and further on
pub record HasRisen (rows : List Row) (w : ℕ) (old new : State) : Type 0 where
  pub state : IsStateOf rows w new
  pub rises : rank (reverse old.chain) old.at < rank (reverse new.chain) new.at

-- a step goes on, or ends the descent with an answer
abbrev pub StepTells : List Row → ℕ → State → State → Step → Type 0
StepTells rows w old new step.On = HasRisen rows w old new
StepTells rows w old new (step.Contradiction times) = IsRefuted rows w times
StepTells rows w old new (step.Strain s) = IsStrain rows w s
StepTells rows w old new step.Memory = Unit {0}

-- this strain over this chain, or want of memory
abbrev pub IsStrained : List ℕ → Place → Wide → Step → Type 0
IsStrained chain at wide step.On = ⊥
IsStrained chain at wide (step.Contradiction times) = ⊥
IsStrained chain at wide (step.Strain s) = (s.chain ≡ chain) × (s.place ≡ at) × (s.wide ≡ wide)
IsStrained chain at wide step.Memory = Unit {0}

-- row `at` is on the chain with this line, and the point is that of the longer chain
pub record HasPushed (w : ℕ) (line : Line) (old new : State) : Type 0 where
  pub chain : new.chain ≡ old.chain ++ old.at ∷ []
  pub lines : new.lines ≡ old.lines ++ line ∷ []
  pub found : new.found ≡ new.chain
  pub point : point_of w (reverse new.lines) ≡ Ok new.point
  pub anew : new.at ≡ 0

-- the point of the longer chain is strained
pub record IsPushStrained (w : ℕ) (line : Line) (old : State) (s : Strain) : Type 0 where
  pub chain : s.chain ≡ old.chain ++ old.at ∷ []
  pub place : s.place ≡ place.Point
  pub wide : point_of w (reverse (old.lines ++ line ∷ [])) ≡ Err s.wide

-- row `at` is put on the chain with this line, or the point of that is strained
abbrev pub IsPushed : ℕ → Line → State → State → Step → Type 0
IsPushed w line old new step.On = HasPushed w line old new
IsPushed w line old new (step.Contradiction times) = ⊥
IsPushed w line old new (step.Strain s) = IsPushStrained w line old s
IsPushed w line old new step.Memory = Unit {0}

-- what the row after a chain comes to, the chain and its lines with the last row at the end
abbrev pub IsNext : List Row → ℕ → List ℕ → List Line → ℕ → Next → Type 0
IsNext rows w chain lines at (next.Line line) = (reduce (reverse lines) (line_of rows at) ≡ Ok line) × (pivot line < w)
IsNext rows w chain lines at (next.Contradiction times) = IsRefuted rows w times
IsNext rows w chain lines at (next.Strain s) = IsStrain rows w s
IsNext rows w chain lines at next.Memory = Unit {0}
