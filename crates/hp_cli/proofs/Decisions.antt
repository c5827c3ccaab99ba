-- What each step of the decision says of the answer.
use Rattle.std.proofs.Common.{◌≡◌, ◌≢◌, ◌<◌, ◌+◌, ◌^◌, ℕ, List, length, Option, Some, refl, arith}
use Rattle.hp_tree.specs.declared.problem.Problem.{Problem}
use Rattle.hp_bounds.proofs.Bounds as bounds
use Rattle.hp_bounds.proofs.Plain.{plain_names, plain_variables}
use Rattle.hp_norm.specs.Flat.{IsFlattenable}
use Rattle.hp_solve.specs.Solved.{IsInScope}
use Rattle.hp_sorts.specs.declared.fault.SortErr.{SortErr}
use Rattle.hp_sorts.specs.declared.fault.SortErr.TheVariants.{Twice, Level, Unknown, Arity, Mismatch, Memory}
use Rattle.hp_sorts.specs.Faults.{IsCause}
use Rattle.hp_cli.specs.Verdicts.{InScope, IsBuilt, IsCounted, IsRead}

-- ---- what a problem that was read keeps to
pub few_items : (bytes : List ℕ) (p : Problem) → IsRead bytes p → (length p.decls + length p.clauses) < 2 ^ 28
few_items bytes p r = omega (arith, r.size, bounds.few_items bytes p r.spelled)

-- a problem that was read and keeps the rules on names and sorts can be flattened
pub is_able : (bytes : List ℕ) (p : Problem) → IsCounted bytes p → IsFlattenable p
is_able bytes p c =
    let read = c.sorted.read in
    record {
      sorted = c.sorted.sorted;
      light = bounds.light_numbers bytes p read.spelled read.size;
      plain = plain_names bytes p read.spelled;
      plain_variables = plain_variables bytes p read.spelled;
      few = let few = few_items bytes p read in omega (arith, few);
    }

-- an error that isn't want of memory is the fault
pub is_fault : (fault : Option SortErr) (e : SortErr) → IsCause fault e → e ≢ Memory → fault ≡ Some e
is_fault fault (Twice item) h n = h
is_fault fault (Level item) h n = h
is_fault fault (Unknown item) h n = h
is_fault fault (Arity item) h n = h
is_fault fault (Mismatch item) h n = h
is_fault fault Memory h n = absurd (n refl)

pub in_scope : (bytes : List ℕ) (p : Problem) → IsBuilt bytes p → IsInScope p → InScope bytes p
in_scope bytes p b s = record { built = b; within = s.within; is = s.is }
