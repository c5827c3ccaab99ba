-- The forms of index terms over two lists of words.
use Rattle.std.proofs.Common.{◌≡◌, ◌∙◌, true, ◌&&◌, ◌||◌, List, Option, Some, None, ◌⊎◌, inl, inr, refl, sym, ap, subst}
use Rattle.std.specs.Option.{option_or}
use Rattle.std.specs.Prelude.{ℤ, ◌+ℤ◌, ◌-ℤ◌, neg_ℤ}
use Rattle.std.proofs.lemmas.Bool.{and_parts}
use Rattle.hp_tree.specs.declared.term.Term.{Term, fold-roll-Term, roll-Term, map-Term}
use Rattle.hp_tree.specs.declared.term.Term.TheOpen.{Term-F}
use Rattle.hp_tree.specs.declared.problem.Sort.TheVariants.{Idx}
use Rattle.hp_tree.specs.Value.{Word}
use Rattle.hp_terms.specs.declared.forms.Forms.{Forms}
use Rattle.hp_terms.specs.Scope.{Scope}
use Rattle.hp_terms.specs.Sorting.{forms_of, forms_step}
use Rattle.hp_lit.specs.declared.literal.Name.{Name}
use Rattle.hp_lit.specs.Words.{number}
use Rattle.hp_index.specs.declared.form.IndexForm.{IndexForm}
use Rattle.hp_index.specs.Forms.{index_of, index_step}
use Rattle.hp_index.proofs.Layers.{Parts, bare, by_layers}
use Rattle.hp_index.proofs.Named.{name_not_whole, named_sort, option_or-none, summands}

module _ (scope : Scope) (ws us : List Word) (Good : Option Name → Option Name → Type 0) (none : Good None None)
    (named : (word : Word) → scope.name word ≡ Some Idx → Good (number ws word) (number us word)) where
  -- the names of an index term go together, a number has none, and what is added is the same
  pub record Matches (forms : Forms) (one other : IndexForm) : Type 0 where
    pub index : forms.idx ≡ true → Good one.base other.base
    pub alone : forms.whole ≡ true → one.base ≡ None
    pub bare_too : forms.whole ≡ true → other.base ≡ None
    pub offset : one.offset ≡ other.offset

  abbrev pub TermMatches : Term → Type 0
  TermMatches t = Matches (forms_of scope t) (index_of ws t) (index_of us t)

  good_at : (a b c d : Option Name) → a ≡ b → c ≡ d → Good a c → Good b d
  good_at a b c d e f g = subst (λ o. Good b o) f (subst (λ o. Good o c) e g)

  sum_sides : (a b : Forms) (x y u w : IndexForm) → Matches a x u → Matches b y w → ((a.idx && b.whole) || (a.whole && b.idx)) ≡ true → Good (option_or x.base y.base) (option_or u.base w.base)
  sum_sides a b x y u w p q e = by (summands a b e)
    where
      by : ((a.idx ≡ true) × (b.whole ≡ true)) ⊎ ((a.whole ≡ true) × (b.idx ≡ true)) → Good (option_or x.base y.base) (option_or u.base w.base)
      by (inl h) =
          good_at x.base (option_or x.base y.base) u.base (option_or u.base w.base)
          (sym (option_or-none x.base) ∙ ap (λ o. option_or x.base o) (sym (q.alone h.1)))
          (sym (option_or-none u.base) ∙ ap (λ o. option_or u.base o) (sym (q.bare_too h.1))) (p.index h.0)
      by (inr h) =
          good_at y.base (option_or x.base y.base) w.base (option_or u.base w.base)
          (ap (λ o. option_or o y.base) (sym (p.alone h.0)))
          (ap (λ o. option_or o w.base) (sym (p.bare_too h.0))) (q.index h.1)

  step_matches : (y : Term-F (Parts TermMatches))
      → Matches (forms_step scope (map-Term Term Forms (forms_of scope) (bare TermMatches y))) (index_step ws (map-Term Term IndexForm (index_of ws) (bare TermMatches y)))
      (index_step us (map-Term Term IndexForm (index_of us) (bare TermMatches y)))
  step_matches (Term-F.Number q) = record { index = λ e. none; alone = λ e. refl; bare_too = λ e. refl; offset = refl }
  step_matches Term-F.Null = record { index = λ e. none; alone = λ e. refl; bare_too = λ e. refl; offset = refl }
  step_matches (Term-F.Name n) = record {
    index = λ e. named n (named_sort (scope.name n) Idx e);
    alone = λ e. absurd (name_not_whole (scope.name n) e);
    bare_too = λ e. absurd (name_not_whole (scope.name n) e);
    offset = refl;
  }
  step_matches (Term-F.Apply func args) = record { index = λ e. none; alone = λ e. refl; bare_too = λ e. refl; offset = refl }
  step_matches (Term-F.Add a b) = record {
    index = sum_sides (forms_of scope a.0) (forms_of scope b.0) (index_of ws a.0) (index_of ws b.0) (index_of us a.0) (index_of us b.0) a.1 b.1;
    alone = λ e. absurd (cc);
    bare_too = λ e. absurd (cc);
    offset = λ i. a.1.offset i +ℤ b.1.offset i;
  }
  step_matches (Term-F.Sub a b) = record {
    index = λ e. a.1.index (and_parts (forms_of scope a.0).idx (forms_of scope b.0).whole e).0;
    alone = λ e. absurd (cc);
    bare_too = λ e. absurd (cc);
    offset = λ i. a.1.offset i -ℤ b.1.offset i;
  }
  step_matches (Term-F.Neg a) = record { index = λ e. none; alone = λ e. refl; bare_too = λ e. refl; offset = ap neg_ℤ a.1.offset }
  step_matches (Term-F.Scale q a) = record { index = λ e. none; alone = λ e. refl; bare_too = λ e. refl; offset = refl }

  layer_matches : (y : Term-F (Parts TermMatches)) → TermMatches (roll-Term (bare TermMatches y))
  layer_matches y =
      let z = bare TermMatches y in
      let forms = forms_step scope (map-Term Term Forms (forms_of scope) z) in
      subst (λ f. Matches f (index_of ws (roll-Term z)) (index_of us (roll-Term z))) (sym (fold-roll-Term Forms (forms_step scope) z))
      (subst (λ (g : IndexForm). Matches forms g (index_of us (roll-Term z))) (sym (fold-roll-Term IndexForm (index_step ws) z))
      (subst (λ (g : IndexForm). Matches forms (index_step ws (map-Term Term IndexForm (index_of ws) z)) g) (sym (fold-roll-Term IndexForm (index_step us) z)) (step_matches y)))

  pub terms_match : (t : Term) → TermMatches t
  terms_match = by_layers TermMatches layer_matches
