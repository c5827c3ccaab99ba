-- Statuses: each is told by its number, and those of a task are no faults.
use Rattle.std.proofs.Common.{◌≡◌, ◌⊎◌, inl, inr, ℕ, List, refl, sym, subst, ◌∙◌, arith}
use Rattle.hp_cli.specs.declared.answer.Status.{Status}
use Rattle.hp_cli.specs.declared.answer.Status.TheVariants.{Done, Usage, ReadFault, WriteFault, Spelling, Sort, Outside, Limit, Overflow, Sat, Spent, Memory, NotBuilt, Unsat}
use Rattle.hp_cli.specs.declared.words.Task.{Task}
use Rattle.hp_cli.specs.declared.words.Task.TheVariants.{Solve, Print}
use Rattle.hp_cli.specs.Answer.{Does, IsWhole, code, memory, read, write}
use Rattle.hp_cli.specs.Words.{Asks, IsTask}

-- two statuses with one number are one
pub same_code : (s t : Status) → code s ≡ code t → s ≡ t
same_code Done Done e = refl
same_code Usage Usage e = refl
same_code ReadFault ReadFault e = refl
same_code WriteFault WriteFault e = refl
same_code Spelling Spelling e = refl
same_code Sort Sort e = refl
same_code Outside Outside e = refl
same_code Limit Limit e = refl
same_code Overflow Overflow e = refl
same_code Sat Sat e = refl
same_code Memory Memory e = refl
same_code NotBuilt NotBuilt e = refl
same_code Spent Spent e = refl
same_code Unsat Unsat e = refl
same_code _ _ e = absurd (omega arith)

-- ---- what is done for a task is no fault, and no usage
pub done_whole : (bytes text : List ℕ) (task : Task) (s : Status) → Does bytes text task s → IsWhole s
done_whole bytes text task _ does read = elim does [ ]
done_whole bytes text task _ does write = elim does [ ]
done_whole bytes text task _ does memory = elim does [ ]

no_usage : (bytes text : List ℕ) (task : Task) → Does bytes text task Usage → ⊥
no_usage bytes text task does = elim does [ ]

pub usage_whole : IsWhole Usage
usage_whole fault = elim fault [ ]

pub limit_whole : IsWhole Limit
limit_whole fault = elim fault [ ]

-- nor is the status of its write
module _ (bytes text : List ℕ) (task : Task) (r s : Status) (does : Does bytes text task s) where
  pub not_usage : (r ≡ s) ⊎ ((r ≡ WriteFault) ⊎ (r ≡ Memory)) → r ≡ Usage → ⊥
  not_usage (inl e) u = no_usage bytes text task (subst (Does bytes text task) (sym e ∙ u) does)
  not_usage (inr (inl e)) u = cc
  not_usage (inr (inr e)) u = cc

  pub not_read_fault : (r ≡ s) ⊎ ((r ≡ WriteFault) ⊎ (r ≡ Memory)) → r ≡ ReadFault → ⊥
  not_read_fault (inl e) u = done_whole bytes text task ReadFault (subst (Does bytes text task) (sym e ∙ u) does) read
  not_read_fault (inr (inl e)) u = cc
  not_read_fault (inr (inr e)) u = cc

pub asked_task : (words : List (List ℕ)) (task : Task) → Asks words task → IsTask task
asked_task words (Solve most) h = h.1
asked_task words Print h = tt
