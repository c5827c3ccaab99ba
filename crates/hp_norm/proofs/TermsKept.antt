-- A term that stands for another one: it has its forms, its first sort and its value, and weighs no more than is said of it.
use Rattle.std.proofs.Common.{◌≡◌, ℕ, ◌+◌, ◌≤◌, Option, sym, subst, ◌∙◌, unsigned_abs}
use Rattle.hp_math.specs.Rational.{ℚ}
use Rattle.hp_tree.specs.declared.term.Term.{Term, fold-roll-Term, roll-Term, map-Term}
use Rattle.hp_tree.specs.declared.term.Term.TheOpen.{Term-F}
use Rattle.hp_tree.specs.declared.problem.Sort.{Sort}
use Rattle.hp_tree.specs.Value.{Environment, Functions, value, value_step}
use Rattle.hp_terms.specs.declared.forms.Forms.{Forms}
use Rattle.hp_terms.specs.Scope.{Scope}
use Rattle.hp_terms.specs.Sorting.{first_sort, first_step, forms_of, forms_step}
use Rattle.hp_terms.specs.Weight.{weight, weight_step}
use Rattle.hp_lit.specs.Truth.{Values}
use Rattle.hp_defs.specs.declared.names.Ground.{Ground}
use Rattle.hp_defs.specs.Names.{NameList}
use Rattle.hp_base.specs.Making.{Begins}
use Rattle.hp_base.proofs.Making.{begins_trans}
use Rattle.hp_norm.specs.Sound.{AreValues, IsLater}
use Rattle.hp_norm.proofs.FormsKept.{KeepsForms}

pub later_through : (mid after end : Ground) → Begins mid after → IsLater after end → IsLater mid end
later_through mid after end b l = record { begins = begins_trans mid after end b l.begins; made = l.made }

-- no term is bounded by less than its numbers and its parts together
pub record IsBound (most : Term → ℕ) : Type 0 where
  pub numbers : (q : ℚ) → unsigned_abs q.num ≤ most (roll-Term (Term-F.Number q))
  pub sums : (a b : Term) → (most a + most b) ≤ most (roll-Term (Term-F.Add a b))
  pub differences : (a b : Term) → (most a + most b) ≤ most (roll-Term (Term-F.Sub a b))
  pub negations : (a : Term) → most a ≤ most (roll-Term (Term-F.Neg a))
  pub multiples : (q : ℚ) (a : Term) → (unsigned_abs q.num + most a) ≤ most (roll-Term (Term-F.Scale q a))

-- the scope of terms, the one of those that stand for them, over more and more names, how much these weigh at most, and what
-- holds of each ground set
pub record Reading : Type 1 where
  pub own : Scope
  pub now : NameList → Scope
  pub most : Term → ℕ
  pub bound : IsBound most
  pub holds : Ground → Type 0

module _ (r : Reading) where
  pub record IsKept (after : Ground) (term flat : Term) : Type 0 where
    pub forms : (end : Ground) → IsLater after end → KeepsForms (forms_of r.own term) (forms_of (r.now end.names) flat)
    pub first : (end : Ground) → IsLater after end → first_sort r.own term ≡ first_sort (r.now end.names) flat
    pub light : weight flat ≤ r.most term
    pub same : (end : Ground) (v : Values) (env : Environment) (functions : Functions) → IsLater after end → AreValues end v env functions → value env functions flat ≡ value env functions term

  pub kept_longer : (mid after : Ground) (term flat : Term) → Begins mid after → IsKept mid term flat → IsKept after term flat
  kept_longer mid after term flat b k = record {
    forms = λ end l. k.forms end (later_through mid after end b l);
    first = λ end l. k.first end (later_through mid after end b l);
    light = k.light;
    same = λ end v env functions l h. k.same end v env functions (later_through mid after end b l) h;
  }

  -- ---- by layers
  abbrev forms_at : Scope → Term-F Term → Forms
  forms_at s z = forms_step s (map-Term Term Forms (forms_of s) z)

  abbrev first_at : Scope → Term-F Term → Option Sort
  first_at s z = first_step s (map-Term Term (Option Sort) (first_sort s) z)

  abbrev weight_at : Term-F Term → ℕ
  weight_at z = weight_step (map-Term Term ℕ weight z)

  abbrev value_at : Environment → Functions → Term-F Term → ℚ
  value_at env functions z = value_step env functions (map-Term Term ℚ (value env functions) z)

  pub record IsKeptLayer (after : Ground) (z w : Term-F Term) : Type 0 where
    pub forms : (end : Ground) → IsLater after end → KeepsForms (forms_at r.own z) (forms_at (r.now end.names) w)
    pub first : (end : Ground) → IsLater after end → first_at r.own z ≡ first_at (r.now end.names) w
    pub light : weight_at w ≤ r.most (roll-Term z)
    pub same : (end : Ground) (v : Values) (env : Environment) (functions : Functions) → IsLater after end → AreValues end v env functions → value_at env functions w ≡ value_at env functions z

  pub kept_layer : (after : Ground) (z w : Term-F Term) → IsKeptLayer after z w → IsKept after (roll-Term z) (roll-Term w)
  kept_layer after z w h = record {
    forms = λ end l.
        subst (λ (f : Forms). KeepsForms f (forms_of (r.now end.names) (roll-Term w))) (sym (fold-roll-Term Forms (forms_step r.own) z))
        (subst (λ (g : Forms). KeepsForms (forms_at r.own z) g) (sym (fold-roll-Term Forms (forms_step (r.now end.names)) w)) (h.forms end l));
    first = λ end l.
        fold-roll-Term (Option Sort) (first_step r.own) z ∙ h.first end l ∙ sym (fold-roll-Term (Option Sort) (first_step (r.now end.names)) w);
    light =
        subst (λ n. n ≤ r.most (roll-Term z)) (sym (fold-roll-Term ℕ weight_step w)) h.light;
    same = λ end v env functions l values.
        fold-roll-Term ℚ (value_step env functions) w ∙ h.same end v env functions l values ∙ sym (fold-roll-Term ℚ (value_step env functions) z);
  }
