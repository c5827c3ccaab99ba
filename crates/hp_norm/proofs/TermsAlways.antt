-- Each term of a sort whose indexes have small numbers together keeps its forms and its value while it is named.
use Rattle.std.proofs.Common.{◌≡◌, ℕ, [], ◌∷◌, Ok, sym, ap, subst, ◌∙◌, arith}
use Rattle.std.specs.List.{All}
use Rattle.std.proofs.lemmas.List.Elements.{All-head, All-tail}
use Rattle.hp_tree.specs.declared.term.Term.{Term, Number, Null, Name, Add, Sub, Neg, Scale, fold-roll-Term, roll-Term, map-Term}
use Rattle.hp_tree.specs.declared.term.Term.TheOpen.{Term-F}
use Rattle.hp_tree.specs.declared.term.Term.TheVariants.{rolls-Number, rolls-Null, rolls-Name, rolls-Add, rolls-Sub, rolls-Neg, rolls-Scale}
use Rattle.hp_terms.specs.Scope.{Scope}
use Rattle.hp_terms.specs.Laws.{parts_of}
use Rattle.hp_terms.proofs.Parts.{parts_of_sorted_terms_are_sorted}
use Rattle.hp_index.proofs.Layers.{Parts, bare, by_layers}
use Rattle.hp_defs.specs.declared.names.Ground.{Ground}
use Rattle.hp_base.specs.Making.{Maker}
use Rattle.hp_norm.specs.Naming.{name_step, named}
use Rattle.hp_norm.proofs.ApplicationsNamed.{application_named}
use Rattle.hp_norm.proofs.Loads.{parts_have_no_more}
use Rattle.hp_norm.proofs.NamedWords.{IsOver, scope_grows}
use Rattle.hp_norm.proofs.TermsKept.{IsKept, kept_layer}
use Rattle.hp_norm.proofs.TermsNamed.{by_names, IsNameableTerm, IsNamed, IsNamedAlways, differences_keep, leaf_named, multiples_keep, negations_keep, null_keeps, number_keeps, one_named, sums_keep, two_named, word_keeps}

module _ (scope : Scope) (item : ℕ) where
  abbrev Holds : Term → Type 0
  Holds term = IsNamedAlways scope item term

  able_parts : (z : Term-F Term) → IsNameableTerm scope (roll-Term z) → All (IsNameableTerm scope) (parts_of z)
  able_parts z able =
      let sorted = parts_of_sorted_terms_are_sorted scope z able.sorted in
      let less = parts_have_no_more scope z in
      λ k d within. record { sorted = sorted k d within; light = (let m = less k d within in let n = able.light in omega (arith, m, n)) }

  step_named : (y : Term-F (Parts Holds)) (flat : Term) (before after : Ground) → IsNameableTerm scope (roll-Term (bare Holds y)) → IsOver scope before
      → name_step item (map-Term Term (Maker Term) (named item) (bare Holds y)) before ≡ Ok (flat, after) → IsNamed (by_names scope) (roll-Term (bare Holds y)) flat before after
  step_named (Term-F.Number q) flat before after able over e =
      let z : Term-F Term = Term-F.Number q in
      leaf_named (by_names scope) (roll-Term z) (Number q) flat before after over (subst (IsKept (by_names scope) before (roll-Term z)) (rolls-Number q) (kept_layer (by_names scope) before z z (number_keeps (by_names scope) q before (λ names. over.wider.pointers q)))) e
  step_named Term-F.Null flat before after able over e =
      let z : Term-F Term = Term-F.Null in
      leaf_named (by_names scope) (roll-Term z) Null flat before after over (subst (IsKept (by_names scope) before (roll-Term z)) rolls-Null (kept_layer (by_names scope) before z z (null_keeps (by_names scope) before))) e
  step_named (Term-F.Name word) flat before after able over e =
      let z : Term-F Term = Term-F.Name word in
      leaf_named (by_names scope) (roll-Term z) (Name word) flat before after over (subst (IsKept (by_names scope) before (roll-Term z)) (rolls-Name word) (kept_layer (by_names scope) before z z (word_keeps (by_names scope) word before able.sorted (λ end sort l. (scope_grows scope before end l.begins l.made over.wider).names word sort)))) e
  step_named (Term-F.Apply word args) flat before after able over e = application_named scope item word args flat before after able over e
  step_named (Term-F.Add a b) flat before after able over e =
      let parts = able_parts (Term-F.Add a.0 b.0) able in
      let rest = All-tail (IsNameableTerm scope) a.0 (b.0 ∷ []) parts in
      two_named (by_names scope) Add Term-F.Add rolls-Add (sums_keep (by_names scope)) (named item a.0) (named item b.0) a.0 b.0 flat before after a.1 b.1 (All-head (IsNameableTerm scope) a.0 (b.0 ∷ []) parts) (All-head (IsNameableTerm scope) b.0 [] rest) over e
  step_named (Term-F.Sub a b) flat before after able over e =
      let parts = able_parts (Term-F.Sub a.0 b.0) able in
      let rest = All-tail (IsNameableTerm scope) a.0 (b.0 ∷ []) parts in
      two_named (by_names scope) Sub Term-F.Sub rolls-Sub (differences_keep (by_names scope)) (named item a.0) (named item b.0) a.0 b.0 flat before after a.1 b.1 (All-head (IsNameableTerm scope) a.0 (b.0 ∷ []) parts) (All-head (IsNameableTerm scope) b.0 [] rest) over e
  step_named (Term-F.Neg a) flat before after able over e =
      one_named (by_names scope) Neg Term-F.Neg rolls-Neg (negations_keep (by_names scope)) (named item a.0) a.0 flat before after a.1 (All-head (IsNameableTerm scope) a.0 [] (able_parts (Term-F.Neg a.0) able)) over e
  step_named (Term-F.Scale q a) flat before after able over e =
      one_named (by_names scope) (Scale q) (Term-F.Scale q) (rolls-Scale q) (multiples_keep (by_names scope) q) (named item a.0) a.0 flat before after a.1 (All-head (IsNameableTerm scope) a.0 [] (able_parts (Term-F.Scale q a.0) able)) over e

  pub terms_are_named : (term : Term) → IsNamedAlways scope item term
  terms_are_named term = by_layers Holds (λ y flat before after able over e.
      step_named y flat before after able over (sym (ap (λ (m : Maker Term). m before) (fold-roll-Term (Maker Term) (name_step item) (bare Holds y))) ∙ e)) term
