-- Values of names and numbers as terms.
use Rattle.std.proofs.Common.{◌≡◌, List, map, true, false, sym, ap, ◌∙◌, cond, pos}
use Rattle.hp_math.specs.Rational.{ℚ, whole, lt_ℚ, neg_ℚ}
use Rattle.hp_math.proofs.Laws.{neg_ℚ-neg_ℚ}
use Rattle.hp_tree.specs.declared.term.Term.{Term, Name, Number, Neg, Apply, fold-roll-Term}
use Rattle.hp_tree.specs.declared.term.Term.TheOpen.{Term-F}
use Rattle.hp_tree.specs.declared.term.Term.TheVariants.{rolls-Number, rolls-Name, rolls-Neg, rolls-Apply}
use Rattle.hp_tree.specs.Value.{Word, Environment, Functions, value, value_step}
use Rattle.hp_local.specs.Rows.{NumbersAreTerms}

pub number_value : (names : Environment) (f : Functions) (n : ℚ) → value names f (Number n) ≡ n
number_value names f n = ap (value names f) (sym (rolls-Number n)) ∙ fold-roll-Term ℚ (value_step names f) (Term-F.Number n)

pub name_value : (names : Environment) (f : Functions) (word : Word) → value names f (Name word) ≡ names word
name_value names f word = ap (value names f) (sym (rolls-Name word)) ∙ fold-roll-Term ℚ (value_step names f) (Term-F.Name word)

pub apply_value : (names : Environment) (f : Functions) (func : Word) (args : List Term) → value names f (Apply func args) ≡ f func (map (value names f) args)
apply_value names f func args = ap (value names f) (sym (rolls-Apply func args)) ∙ fold-roll-Term ℚ (value_step names f) (Term-F.Apply func args)

pub neg_value : (names : Environment) (f : Functions) (t : Term) → value names f (Neg t) ≡ neg_ℚ (value names f t)
neg_value names f t = ap (value names f) (sym (rolls-Neg t)) ∙ fold-roll-Term ℚ (value_step names f) (Term-F.Neg t)

pub numbers_are_terms : NumbersAreTerms
numbers_are_terms names f n =
    elim (lt_ℚ n (whole (pos 0))) as (λ b. value names f (cond b (Neg (Number (neg_ℚ n))) (Number n)) ≡ n) [
      | true ↦ neg_value names f (Number (neg_ℚ n)) ∙ ap neg_ℚ (number_value names f (neg_ℚ n)) ∙ neg_ℚ-neg_ℚ n
      | false ↦ number_value names f n
    ]
