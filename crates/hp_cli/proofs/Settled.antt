-- A text in scope is answered by a verdict: every refusal has a cause that it lacks.
use Rattle.std.proofs.Common.{◌≡◌, inl, inr, ℕ, List, [], ◌∷◌, None, Some, true, false, sym, ap, subst, ◌∙◌, arith}
use Rattle.std.specs.Prelude.{codes}
use Rattle.hp_tree.specs.declared.problem.Problem.{Problem}
use Rattle.hp_read.proofs.BytesLaws.{no_fault, one_problem}
use Rattle.hp_sorts.specs.Faults.{sort_fault}
use Rattle.hp_sorts.specs.Limits.{passed}
use Rattle.hp_waiting.specs.Waiting.{is_waiting}
use Rattle.hp_chain.specs.Ground.{IsLimited, IsOutside}
use Rattle.hp_cli.specs.declared.answer.Status.{Status}
use Rattle.hp_cli.specs.declared.words.Task.{Task}
use Rattle.hp_cli.specs.declared.words.Task.TheVariants.{Solve, Print}
use Rattle.hp_cli.specs.Answer.{Answers, Does, IsSettled, IsSolving, Stands}
use Rattle.hp_cli.specs.Answer.{done, limited, misspelled, missorted, other_form, out_of_nodes, satisfiable, strained, strained_pair, too_long, too_many, unruly, unsatisfiable, usage}
use Rattle.hp_cli.specs.Answer.{memory, overflow, read, sat, spent, unread, unsat, unwritten, wanted, wanting, whole, write}
use Rattle.hp_cli.specs.Verdicts.{InScope, Limited, Missorted, Misspelled, OtherForm, TooLong, TooMany, Unruly}
use Rattle.hp_cli.specs.Words.{Asks, IsSolve}
use Rattle.hp_cli.proofs.Readings.{ground_limited, ground_unruly}

-- ---- words
abbrev first_byte : List (List ℕ) → ℕ
first_byte [] = 0
first_byte ([] ∷ words) = 0
first_byte ((b ∷ bs) ∷ words) = b

other_bytes : ◌≡◌ {A = ℕ} 112 115 → ⊥
other_bytes e = omega (arith, e)

pub printing_solves : (words : List (List ℕ)) (most : ℕ) → words ≡ codes "print" ∷ [] → IsSolve words most → ⊥
printing_solves words most e (inl s) = other_bytes (ap first_byte (sym e ∙ s.0))
printing_solves words most e (inr s) = other_bytes (ap first_byte (sym e ∙ s.0))

-- ---- causes
module _ (bytes text : List ℕ) (p : Problem) (scope : InScope bytes p) where
  no_misspelling : Misspelled bytes text → ⊥
  no_misspelling m = m.known (no_fault bytes p m.fault scope.built.counted.sorted.read.spelled m.cause)

  no_missorting : Missorted bytes text → ⊥
  no_missorting m =
      let same = one_problem bytes p m.problem scope.built.counted.sorted.read.spelled m.read.spelled in
      let none : None ≡ Some m.fault = sym scope.built.counted.sorted.sorted ∙ ap sort_fault same ∙ m.cause in
      cc

  no_length : TooLong bytes text → ⊥
  no_length m = omega (arith, m.size, scope.built.counted.sorted.read.size)

  no_counts : TooMany bytes text → ⊥
  no_counts m =
      let same = one_problem bytes p m.problem scope.built.counted.sorted.read.spelled m.sorted.read.spelled in
      let none : None ≡ Some m.passed_limit = sym scope.built.counted.counted ∙ ap passed same ∙ m.cause in
      cc

  no_other_form : OtherForm bytes text → ⊥
  no_other_form m =
      let same = one_problem bytes p m.problem scope.built.counted.sorted.read.spelled m.counted.sorted.read.spelled in
      let no : false ≡ true = sym scope.built.built ∙ ap is_waiting same ∙ m.cause in
      cc

  no_limit : Limited bytes text → ⊥
  no_limit m =
      let same = one_problem bytes p m.problem scope.built.counted.sorted.read.spelled m.built.counted.sorted.read.spelled in
      ground_limited p scope.within m.passed_limit scope.is (subst (λ (q : Problem). IsLimited q m.passed_limit) (sym same) m.cause)

  no_broken_rule : Unruly bytes text → ⊥
  no_broken_rule m =
      let same = one_problem bytes p m.problem scope.built.counted.sorted.read.spelled m.built.counted.sorted.read.spelled in
      ground_unruly p scope.within m.broken scope.is (subst (λ (q : Problem). IsOutside q m.broken) (sym same) m.cause)

  solves_settled : (most : ℕ) (s : Status) → Does bytes text (Solve most) s → IsSettled s
  solves_settled most _ (too_long h) = absurd (no_length h)
  solves_settled most _ (misspelled h) = absurd (no_misspelling h)
  solves_settled most _ (missorted h) = absurd (no_missorting h)
  solves_settled most _ (too_many h) = absurd (no_counts h)
  solves_settled most _ (other_form h) = absurd (no_other_form h)
  solves_settled most _ (limited h) = absurd (no_limit h)
  solves_settled most _ (unruly h) = absurd (no_broken_rule h)
  solves_settled most _ (strained_pair h) = inl overflow
  solves_settled most _ (strained h) = inl overflow
  solves_settled most _ (satisfiable h) = inl sat
  solves_settled most _ (unsatisfiable h) = inl unsat
  solves_settled most _ (out_of_nodes h) = inl spent

  does_settled : (words : List (List ℕ)) (task : Task) (s : Status) → IsSolving words → Asks words task → Does bytes text task s → IsSettled s
  does_settled words (Solve most) s solving asked does = solves_settled most s does
  does_settled words Print s solving asked does = absurd (printing_solves words solving.0 asked solving.1.0)

  answers_settled : (words : List (List ℕ)) (s : Status) → IsSolving words → Answers words bytes text s → IsSettled s
  answers_settled words _ solving (usage none e) = absurd (none (Solve solving.0) solving.1)
  answers_settled words s solving (done {task} asked does) = does_settled words task s solving asked does

  pub stands_settled : (words : List (List ℕ)) (s : Status) → IsSolving words → Stands words bytes text s → IsSettled s
  stands_settled words s solving (whole h) = answers_settled words s solving h
  stands_settled words _ solving (unread e) = inr read
  stands_settled words _ solving (unwritten h) = inr write
  stands_settled words _ solving (wanting e) = inr memory
  stands_settled words _ solving (wanted h) = inr memory
