-- What is known of a term once it was named, by the ways that terms are made of others.
use Rattle.std.proofs.Common.{◌≡◌, ℕ, true, Option, Some, None, Ok, refl, sym, ap, subst, ◌∙◌, arith}
use Rattle.std.specs.Option.{option_or}
use Rattle.hp_math.specs.Rational.{ℚ, ◌+ℚ◌, ◌-ℚ◌, ◌*ℚ◌, neg_ℚ}
use Rattle.hp_tree.specs.declared.term.Term.{Term, fold-roll-Term, roll-Term}
use Rattle.hp_tree.specs.declared.term.Term.TheOpen.{Term-F}
use Rattle.hp_tree.specs.declared.problem.Sort.{Sort}
use Rattle.hp_tree.specs.declared.problem.Sort.TheVariants.{Num, Idx, Ptr}
use Rattle.hp_tree.specs.Value.{Word}
use Rattle.hp_terms.specs.declared.forms.Forms.{Forms}
use Rattle.hp_terms.specs.Scope.{Scope}
use Rattle.hp_terms.specs.Sorting.{forms_step, has_form, name_forms}
use Rattle.hp_terms.specs.Laws.{HasSort}
use Rattle.hp_defs.specs.declared.names.Ground.{Ground}
use Rattle.hp_defs.specs.Names.{NameList}
use Rattle.hp_base.specs.Making.{Maker, ◌then◌, keep}
use Rattle.hp_base.specs.Lines.{flat_scope}
use Rattle.hp_base.proofs.ArgsSteps.{gave}
use Rattle.hp_base.proofs.Growing.{came}
use Rattle.hp_norm.specs.Loads.{HasLightIndexes, load}
use Rattle.hp_norm.specs.Naming.{named, one, two}
use Rattle.hp_norm.specs.Sound.{Grew, IsLater}
use Rattle.hp_norm.proofs.FormsKept.{KeepsForms, difference_kept, multiple_kept, negation_kept, number_kept, same_kept, sum_kept}
use Rattle.hp_norm.proofs.GroundsGrew.{grew_same, grew_through}
use Rattle.hp_norm.proofs.Loads.{loads_bound}
use Rattle.hp_norm.proofs.NamedWords.{IsOver}
use Rattle.hp_norm.proofs.TermsKept.{IsKept, IsKeptLayer, Reading, kept_layer, kept_longer}

-- names stand for all applications
abbrev pub by_names : Scope → Reading
by_names scope = record { own = scope; now = flat_scope; most = λ t. (load scope t).own; bound = loads_bound scope; holds = IsOver scope }

-- a term was named: the ground set grew, what holds of ground sets still does, and what stands for the term keeps what it says
pub record IsNamed (r : Reading) (term flat : Term) (before after : Ground) : Type 0 where
  pub grew : Grew before after
  pub over : r.holds after
  pub kept : IsKept r after term flat

-- a term of a sort whose indexes have small numbers together, and what is known of it once it was named
pub record IsNameableTerm (scope : Scope) (term : Term) : Type 0 where
  pub sorted : HasSort scope term
  pub light : HasLightIndexes scope term

abbrev pub IsMadeAlways : Reading → Maker Term → Term → Type 0
IsMadeAlways r m term = (flat : Term) (before after : Ground) → IsNameableTerm r.own term → r.holds before → m before ≡ Ok (flat, after) → IsNamed r term flat before after

abbrev pub IsNamedAlways : Scope → ℕ → Term → Type 0
IsNamedAlways scope item term = IsMadeAlways (by_names scope) (named item term) term

-- a word that is a term of a sort has one
sort_there : (o : Option Sort) (sort : Sort) → has_form (name_forms o) sort ≡ true → (s : Sort) × (o ≡ Some s)
sort_there None Num e = absurd (cc)
sort_there None Idx e = absurd (cc)
sort_there None Ptr e = absurd (cc)
sort_there (Some s) sort e = (s, refl)

pub word_has_sort : (scope : Scope) (word : Word) → HasSort scope (roll-Term (Term-F.Name word)) → (s : Sort) × (scope.name word ≡ Some s)
word_has_sort scope word sorted =
    sort_there (scope.name word) sorted.sort (sym (ap (λ (f : Forms). has_form f sorted.sort) (fold-roll-Term Forms (forms_step scope) (Term-F.Name word))) ∙ sorted.is)

-- the same, said of the term that came out
pub named_to : (r : Reading) (term own now flat : Term) (before mid after : Ground) → own ≡ now → now ≡ flat → mid ≡ after → IsNamed r term own before mid → IsNamed r term flat before after
named_to r term own now flat before mid after s e f h =
    subst (λ (t : Term). IsNamed r term t before after) e (subst (λ (t : Term). IsNamed r term t before after) s (subst (λ (g : Ground). IsNamed r term own before g) f h))

-- what a term without parts becomes
pub leaf_named : (r : Reading) (term own flat : Term) (before after : Ground) → r.holds before → IsKept r before term own → keep own before ≡ Ok (flat, after) → IsNamed r term flat before after
leaf_named r term own flat before after over kept e =
    let g = gave own flat before after e in
    named_to r term own own flat before before after refl g.value g.ground (record { grew = grew_same before; over = over; kept = kept })

module _ (r : Reading) where
  module _ (build : Term → Term) (wrap : Term → Term-F Term) (rolls : (a : Term) → roll-Term (wrap a) ≡ build a)
      (keeps : (after : Ground) (a x : Term) → IsKept r after a x → IsKeptLayer r after (wrap a) (wrap x)) where
    -- what a term with one part becomes
    pub one_named : (m : Maker Term) (a flat : Term) (before after : Ground) → IsMadeAlways r m a → IsNameableTerm r.own a → r.holds before → one build m before ≡ Ok (flat, after)
        → IsNamed r (roll-Term (wrap a)) flat before after
    one_named m a flat before after always able over e =
        let s = came (m before) (λ x. keep (build x)) flat after e in
        let h = always s.value before s.mid able over s.first in
        let kept = kept_layer r s.mid (wrap a) (wrap s.value) (keeps s.mid a s.value h.kept) in
        let g = gave (build s.value) flat s.mid after s.rest in
        named_to r (roll-Term (wrap a)) (roll-Term (wrap s.value)) (build s.value) flat before s.mid after (rolls s.value) g.value g.ground (record { grew = h.grew; over = h.over; kept = kept })

  module _ (build : Term → Term → Term) (wrap : Term → Term → Term-F Term) (rolls : (a b : Term) → roll-Term (wrap a b) ≡ build a b)
      (keeps : (after : Ground) (a b x y : Term) → IsKept r after a x → IsKept r after b y → IsKeptLayer r after (wrap a b) (wrap x y)) where
    -- what a term with two parts becomes
    pub two_named : (m n : Maker Term) (a b flat : Term) (before after : Ground) → IsMadeAlways r m a → IsMadeAlways r n b → IsNameableTerm r.own a → IsNameableTerm r.own b → r.holds before
        → two build m n before ≡ Ok (flat, after) → IsNamed r (roll-Term (wrap a b)) flat before after
    two_named m n a b flat before after first second able able2 over e =
        let s = came (m before) (λ x. λ mid. n mid then λ y. keep (build x y)) flat after e in
        let h = first s.value before s.mid able over s.first in
        let t = came (n s.mid) (λ y. keep (build s.value y)) flat after s.rest in
        let k = second t.value s.mid t.mid able2 h.over t.first in
        let left = kept_longer r s.mid t.mid a s.value k.grew.begins h.kept in
        let kept = kept_layer r t.mid (wrap a b) (wrap s.value t.value) (keeps t.mid a b s.value t.value left k.kept) in
        let g = gave (build s.value t.value) flat t.mid after t.rest in
        named_to r (roll-Term (wrap a b)) (roll-Term (wrap s.value t.value)) (build s.value t.value) flat before t.mid after (rolls s.value t.value) g.value g.ground
        (record { grew = grew_through before s.mid t.mid h.grew k.grew; over = k.over; kept = kept })

module _ (r : Reading) where
  -- ---- one layer
  pub sums_keep : (after : Ground) (a b x y : Term) → IsKept r after a x → IsKept r after b y → IsKeptLayer r after (Term-F.Add a b) (Term-F.Add x y)
  sums_keep after a b x y h k = record {
    forms = λ end l. sum_kept _ _ _ _ (h.forms end l) (k.forms end l);
    first = λ end l. (λ i. option_or (h.first end l i) (k.first end l i));
    light = let m = h.light in let n = k.light in let both = r.bound.sums a b in omega (arith, m, n, both);
    same = λ end v env functions l values. (λ i. h.same end v env functions l values i +ℚ k.same end v env functions l values i);
  }

  pub differences_keep : (after : Ground) (a b x y : Term) → IsKept r after a x → IsKept r after b y → IsKeptLayer r after (Term-F.Sub a b) (Term-F.Sub x y)
  differences_keep after a b x y h k = record {
    forms = λ end l. difference_kept _ _ _ _ (h.forms end l) (k.forms end l);
    first = λ end l. (λ i. option_or (h.first end l i) (k.first end l i));
    light = let m = h.light in let n = k.light in let both = r.bound.differences a b in omega (arith, m, n, both);
    same = λ end v env functions l values. (λ i. h.same end v env functions l values i -ℚ k.same end v env functions l values i);
  }

  pub negations_keep : (after : Ground) (a x : Term) → IsKept r after a x → IsKeptLayer r after (Term-F.Neg a) (Term-F.Neg x)
  negations_keep after a x h = record {
    forms = λ end l. negation_kept _ _ (h.forms end l);
    first = λ end l. h.first end l;
    light = let m = h.light in let one = r.bound.negations a in omega (arith, m, one);
    same = λ end v env functions l values. ap neg_ℚ (h.same end v env functions l values);
  }

  pub multiples_keep : (q : ℚ) (after : Ground) (a x : Term) → IsKept r after a x → IsKeptLayer r after (Term-F.Scale q a) (Term-F.Scale q x)
  multiples_keep q after a x h = record {
    forms = λ end l. multiple_kept _ _ (h.forms end l);
    first = λ end l. h.first end l;
    light = let m = h.light in let one = r.bound.multiples q a in omega (arith, m, one);
    same = λ end v env functions l values. ap (λ y. q *ℚ y) (h.same end v env functions l values);
  }

  pub number_keeps : (q : ℚ) (after : Ground) → ((names : NameList) → r.own.pointer q ≡ true → (r.now names).pointer q ≡ true) → IsKeptLayer r after (Term-F.Number q) (Term-F.Number q)
  number_keeps q after more = record {
    forms = λ end l. number_kept r.own.pointer (r.now end.names).pointer q (more end.names);
    first = λ end l. refl;
    light = r.bound.numbers q;
    same = λ end v env functions l values. refl;
  }

  pub null_keeps : (after : Ground) → IsKeptLayer r after Term-F.Null Term-F.Null
  null_keeps after = record { forms = λ end l. same_kept _; first = λ end l. refl; light = omega arith; same = λ end v env functions l values. refl }

  pub word_keeps : (word : Word) (after : Ground) → HasSort r.own (roll-Term (Term-F.Name word)) → ((end : Ground) (sort : Sort) → IsLater after end → r.own.name word ≡ Some sort → (r.now end.names).name word ≡ Some sort)
      → IsKeptLayer r after (Term-F.Name word) (Term-F.Name word)
  word_keeps word after sorted stays =
      let own = word_has_sort r.own word sorted in
      let there = λ (end : Ground) (l : IsLater after end). stays end own.0 l own.1 in
      record {
        forms = λ end l. subst (λ (o : Option Sort). KeepsForms (name_forms (r.own.name word)) (name_forms o)) (own.1 ∙ sym (there end l)) (same_kept (name_forms (r.own.name word)));
        first = λ end l. own.1 ∙ sym (there end l);
        light = omega arith;
        same = λ end v env functions l values. refl;
      }
