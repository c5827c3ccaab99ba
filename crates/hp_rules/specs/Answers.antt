-- What the call answers.
use Rattle.std.specs.Prelude.{◌≡◌, List, Bool, true, false, Option, Some, None, Result, Ok, Err}
use Rattle.hp_pairs.specs.declared.branch.Branch.{Branch}
use Rattle.hp_defs.specs.Names.{NameList}
use Rattle.hp_norm.specs.declared.flat.FlatClause.{FlatClause}
use Rattle.hp_rules.specs.declared.ruled.Ruled.{Ruled}
use Rattle.hp_rules.specs.declared.ruled.RuleErr.{RuleErr}
use Rattle.hp_rules.specs.declared.ruled.RuleErr.TheVariants as refusal
use Rattle.hp_rules.specs.Rules.{rules}

-- what the clauses are, or why they aren't taken; want of memory claims nothing
abbrev pub RuledAs : NameList → List FlatClause → Result Ruled RuleErr → Type 0
RuledAs names clauses (Ok ruled) = rules names clauses ≡ Ok ruled
RuledAs names clauses (Err (refusal.Outside o)) = rules names clauses ≡ Err (refusal.Outside o)
RuledAs names clauses (Err (refusal.Limit l)) = rules names clauses ≡ Err (refusal.Limit l)
RuledAs names clauses (Err refusal.Memory) = Unit {0}

-- the same of a step, which leaves what it gives
abbrev pub RuledTo : Result Ruled RuleErr → Ruled → Result (Unit {0}) RuleErr → Type 0
RuledTo wanted new (Ok done) = wanted ≡ Ok new
RuledTo wanted new (Err (refusal.Outside o)) = wanted ≡ Err (refusal.Outside o)
RuledTo wanted new (Err (refusal.Limit l)) = wanted ≡ Err (refusal.Limit l)
RuledTo wanted new (Err refusal.Memory) = Unit {0}

-- cases with a further bound, or that there are none
abbrev pub CaseTo : Option (List Branch) → List Branch → Bool → Type 0
CaseTo wanted new true = wanted ≡ Some new
CaseTo wanted new false = wanted ≡ None
