-- A sum has the value of its form exactly where its line is true.
use Rattle.std.proofs.Common.{◌≡◌, ◌↔◌, ℕ, zero, suc, pos, List, [], ◌∷◌, Some, slice_get, ap, subst, ◌∙◌}
use Rattle.std.specs.List.{All}
use Rattle.std.proofs.lemmas.List.Elements.{All-head, All-tail}
use Rattle.hp_math.specs.Rational.{whole, ◌+ℚ◌, ◌*ℚ◌}
use Rattle.hp_math.proofs.Field.{+ℚ_zero}
use Rattle.hp_tree.specs.declared.problem.Cmp.TheVariants.{Eq}
use Rattle.hp_lit.specs.declared.literal.Name.{Name}
use Rattle.hp_lit.specs.declared.line.Body.{Body}
use Rattle.hp_lit.specs.declared.line.Line.{Line}
use Rattle.hp_lit.specs.Truth.{Values, LineIsTrue, name_value}
use Rattle.hp_linear.specs.Lins.{named_lin}
use Rattle.hp_linear.specs.Values.{lin_value}
use Rattle.hp_linear.proofs.Fields.{one_times}
use Rattle.hp_linear.proofs.Truth.{lin_literals_compare}
use Rattle.hp_defs.specs.Names.{definition_name}
use Rattle.hp_base.specs.Laws.{SumsHoldByBodies, SumsHoldByLines, SumsSay}
use Rattle.hp_base.specs.Values.{body_value}

-- the form of a name has its value
pub named_lin_value : (v : Values) (name : Name) → lin_value v (named_lin name) ≡ name_value v name.0
named_lin_value v name = let x = whole (pos 1) *ℚ name_value v name.0 in +ℚ_zero (x +ℚ whole (pos 0)) ∙ +ℚ_zero x ∙ one_times (name_value v name.0)

pub sums_say : SumsSay
sums_say name lin lits v e = subst (λ x. LineIsTrue v lits ↔ (x ≡ lin_value v lin)) (named_lin_value v name) (lin_literals_compare v Eq (named_lin name) lin lits e)

-- what holds of each element holds of the one at a place
pub all_get : {A : Type 0} (P : A → Type 0) (xs : List A) (k : ℕ) (x : A) → All P xs → slice_get xs k ≡ Some x → P x
all_get P [] k x all e = absurd (cc)
all_get P (y ∷ ys) zero x all e = let same : y ≡ x = cc in subst P same (All-head P y ys all)
all_get P (y ∷ ys) (suc k) x all e = all_get P ys k x (All-tail P y ys all) e

pub sums_hold_by_lines : SumsHoldByLines
sums_hold_by_lines g v has all k d lin there is =
    let s = has k d lin there is in
    (sums_say (definition_name g.names k) lin s.line.lits v s.says).0 (all_get (λ (line : Line). LineIsTrue v line.lits) g.lines s.at s.line all s.there)

pub sums_hold_by_bodies : SumsHoldByBodies
sums_hold_by_bodies functions names v extends k d lin there is = extends k d there ∙ ap (λ (b : Body). body_value functions names v b) is
