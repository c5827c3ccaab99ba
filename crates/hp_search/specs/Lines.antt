-- Lines that can be searched, and what values make of them.
use Rattle.std.specs.Prelude.{◌≡◌, ℕ, ◌-◌, ◌≤◌, List, ℤ, pos, ◌+ℤ◌, ◌-ℤ◌, ◌≤ℤ◌, Option, Some, None, Err, slice_get, true}
use Rattle.std.specs.List.{All}
use Rattle.hp_math.specs.Rational.{whole}
use Rattle.hp_num.specs.declared.wide.Wide.{Wide}
use Rattle.hp_tree.specs.Limits.{largest_value}
use Rattle.hp_tree.specs.declared.problem.Sort.{Sort}
use Rattle.hp_lit.specs.declared.literal.IdxLit.{IdxLit}
use Rattle.hp_lit.specs.declared.literal.Lit.{Lit}
use Rattle.hp_lit.specs.declared.literal.Lit.TheVariants.{Num, Idx, Ptr}
use Rattle.hp_lit.specs.declared.line.Line.{Line}
use Rattle.hp_lit.specs.declared.proof.Choice.{Choice}
use Rattle.hp_lit.specs.Truth.{Values, name_value, optional_value, IsTrueAt, LineIsTrue}
use Rattle.hp_diff.specs.Rows.{IsSmallWhole}
use Rattle.hp_lit.specs.Fit.{IsNumFit}
use Rattle.hp_descent.specs.Values.{sum_at}
use Rattle.hp_leaf.specs.Tree.{lits_at, IsLine}
use Rattle.hp_lit.specs.Fit.{IsFit}
use Rattle.hp_search.specs.declared.truth.Candidate.{Candidate}
use Rattle.hp_search.specs.declared.truth.WideSum.{WideSum}
use Rattle.hp_search.specs.declared.truth.LitTruth.{LitTruth}
use Rattle.hp_search.specs.declared.truth.LitTruth.TheVariants as lit_truth
use Rattle.hp_search.specs.declared.truth.LineTruth.{LineTruth}
use Rattle.hp_search.specs.declared.truth.LineTruth.TheVariants as line_truth
use Rattle.hp_search.specs.declared.truth.Verdict.{Verdict}
use Rattle.hp_search.specs.declared.truth.Verdict.TheVariants as verdict

-- each literal is one that can be decided
abbrev pub AreFit : List Sort → List Lit → Type 0
AreFit sorts lits = All (IsFit sorts) lits

-- ---- truth by whole numbers
-- a magnitude of at most 10^37
pub record IsSmallIndex (n : ℤ) : Type 0 where
  pub low : pos 0 ≤ℤ (n +ℤ pos largest_value)
  pub high : n ≤ℤ pos largest_value

-- the values of the two names keep the row
abbrev pub Keeps : IdxLit → ℤ → ℤ → Type 0
Keeps row a b = ((a -ℤ b) ≤ℤ row.bound) × ((row.exact ≡ true) → row.bound ≤ℤ (a -ℤ b))

-- the two names have small whole values
pub record HasSmallSides (v : Values) (row : IdxLit) : Type 0 where
  pub left : IsSmallWhole (optional_value v row.left)
  pub right : IsSmallWhole (optional_value v row.right)

-- a literal whose truth at these values can be told
abbrev pub IsReadable : Values → Lit → Type 0
IsReadable v (Num l) = IsNumFit l
IsReadable v (Idx row) = HasSmallSides v row
IsReadable v (Ptr l) = Unit {0}

abbrev pub AreReadable : Values → Line → Type 0
AreReadable v line = All (IsReadable v) line.lits

-- ---- sums that are too wide
-- the sum of this literal over fractions, at these values, passes 2^127 - 1
abbrev pub IsWideLit : Values → Lit → Wide → Type 0
IsWideLit v (Num l) wide = sum_at (name_value v) (whole (pos 0)) l.parts ≡ Err wide
IsWideLit v (Idx row) wide = ⊥
IsWideLit v (Ptr l) wide = ⊥

-- the literal with this number, counted from 1, is one whose sum is too wide
pub record HasWideLit (v : Values) (lits : List Lit) (n : ℕ) (wide : Wide) : Type 0 where
  pub from : 1 ≤ n
  pub lit : Lit
  pub at : slice_get lits (n - 1) ≡ Some lit
  pub strained : IsWideLit v lit wide

-- the same of the literal of a line
pub record IsWideChoice (lines : List Line) (v : Values) (choice : Choice) (wide : Wide) : Type 0 where
  pub within : IsLine lines choice.line
  pub sum : HasWideLit v (lits_at lines choice.line) choice.lit wide

-- ---- what values make of literals and lines
abbrev pub JudgesLit : Values → Lit → LitTruth → Type 0
JudgesLit v lit lit_truth.True = IsTrueAt v lit
JudgesLit v lit lit_truth.False = ¬ (IsTrueAt v lit)
JudgesLit v lit (lit_truth.Wide wide) = IsWideLit v lit wide

abbrev pub JudgesLine : Values → List Lit → LineTruth → Type 0
JudgesLine v lits line_truth.True = LineIsTrue v lits
JudgesLine v lits line_truth.False = ¬ (LineIsTrue v lits)
JudgesLine v lits (line_truth.Wide lit wide) = HasWideLit v lits lit wide

pub record IsFalseLine (lines : List Line) (v : Values) (n : ℕ) : Type 0 where
  pub within : IsLine lines n
  pub fails : ¬ (LineIsTrue v (lits_at lines n))

-- a line that is false counts before a sum that is too wide
abbrev pub verdict_of : Option Candidate → Option WideSum → Verdict
verdict_of (Some best) sum = verdict.False best.line
verdict_of None (Some sum) = verdict.Wide sum.choice sum.wide
verdict_of None None = verdict.AllTrue

abbrev pub Judges : List Line → Values → Verdict → Type 0
Judges lines v verdict.AllTrue = All (λ line. LineIsTrue v line.lits) lines
Judges lines v (verdict.False n) = IsFalseLine lines v n
Judges lines v (verdict.Wide choice wide) = IsWideChoice lines v choice wide
