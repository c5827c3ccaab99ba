-- Index terms of a clause, whose applications give numbers, are index terms over words alone.
use Rattle.std.proofs.Common.{◌≡◌, List, map, Bool, true, false, ◌&&◌, ◌||◌, Option, Some, None, refl, sym, ap, subst}
use Rattle.std.specs.Prelude.{if◌then◌else◌}
use Rattle.std.specs.List.{All}
use Rattle.std.proofs.lemmas.Bool.{and_from, and_parts}
use Rattle.hp_tree.specs.declared.term.Term.{Term, fold-roll-Term, map-Term, roll-Term}
use Rattle.hp_tree.specs.declared.term.Term.TheOpen.{Term-F}
use Rattle.hp_tree.specs.declared.problem.Sort.{Sort}
use Rattle.hp_tree.specs.declared.problem.Sort.TheVariants.{Num, Idx, Ptr}
use Rattle.hp_tree.specs.Value.{Word}
use Rattle.hp_terms.specs.declared.forms.Forms.{Forms}
use Rattle.hp_terms.specs.Scope.{Profile, Scope}
use Rattle.hp_terms.specs.Sorting.{application_forms, difference_forms, fit, forms_of, forms_step, name_forms, no_forms, sort_forms, sum_forms}
use Rattle.hp_index.proofs.Named.{named_sort, name_not_whole}
use Rattle.hp_flatten.specs.declared.application.Application.{Application}
use Rattle.hp_flatten.specs.Applications.{applications}
use Rattle.hp_arrays.proofs.Applied.{applied_terms}

-- an index stays one, and so does a whole number
pub record StaysIdx (f g : Forms) : Type 0 where
  pub idx : f.idx ≡ true → g.idx ≡ true
  pub whole : f.whole ≡ true → g.whole ≡ true

same_stays : (f : Forms) → StaysIdx f f
same_stays f = record { idx = λ e. e; whole = λ e. e }

or_stays : (a b c d : Bool) → (a ≡ true → c ≡ true) → (b ≡ true → d ≡ true) → (a || b) ≡ true → (c || d) ≡ true
or_stays true b c d f g e = rw (f refl) refl
or_stays false b c d f g e = by c
  where
    by : (c : Bool) → (c || d) ≡ true
    by true = refl
    by false = g e

and_stays : (a b c d : Bool) → (a ≡ true → c ≡ true) → (b ≡ true → d ≡ true) → (a && b) ≡ true → (c && d) ≡ true
and_stays a b c d f g e = let p = and_parts a b e in and_from c d (f p.0) (g p.1)

sums_stay : (a b c d : Forms) → StaysIdx a c → StaysIdx b d → StaysIdx (sum_forms a b) (sum_forms c d)
sums_stay a b c d h k = record {
  idx = or_stays (a.idx && b.whole) (a.whole && b.idx) (c.idx && d.whole) (c.whole && d.idx)
      (and_stays a.idx b.whole c.idx d.whole h.idx k.whole) (and_stays a.whole b.idx c.whole d.idx h.whole k.idx);
  whole = λ e. e;
}

differences_stay : (a b c d : Forms) → StaysIdx a c → StaysIdx b d → StaysIdx (difference_forms a b) (difference_forms c d)
differences_stay a b c d h k = record { idx = and_stays a.idx b.whole c.idx d.whole h.idx k.whole; whole = λ e. e }

-- an application that gives numbers is no index
no_index : (args : List Forms) (o : Option Profile) (g : Forms) → ((p : Profile) → o ≡ Some p → p.result ≡ Num) → StaysIdx (application_forms args o) g
no_index args None g h = record { idx = λ e. absurd (cc); whole = λ e. absurd (cc) }
no_index args (Some p) g h = subst (λ (s : Sort). StaysIdx (if fit args p.args then sort_forms s else no_forms) g) (sym (h p refl)) (by (fit args p.args))
  where
    by : (b : Bool) → StaysIdx (if b then sort_forms Num else no_forms) g
    by true = record { idx = λ e. absurd (cc); whole = λ e. absurd (cc) }
    by false = record { idx = λ e. absurd (cc); whole = λ e. absurd (cc) }

module _ (C S : Scope) (stays : (word : Word) → C.name word ≡ Some Idx → S.name word ≡ Some Idx) (pointers : C.pointer ≡ S.pointer) where
  -- the function gives numbers
  abbrev pub GivesNum : Application → Type 0
  GivesNum a = (p : Profile) → C.function a.func ≡ Some p → p.result ≡ Num

  abbrev Stays : Term → Type 0
  Stays t = StaysIdx (forms_of C t) (forms_of S t)

  by_layer : (y : Term-F Term) → StaysIdx (forms_step C (map-Term Term Forms (forms_of C) y)) (forms_step S (map-Term Term Forms (forms_of S) y)) → Stays (roll-Term y)
  by_layer y h =
      subst (λ (f : Forms). StaysIdx f (forms_of S (roll-Term y))) (sym (fold-roll-Term Forms (forms_step C) y))
      (subst (λ (g : Forms). StaysIdx (forms_step C (map-Term Term Forms (forms_of C) y)) g) (sym (fold-roll-Term Forms (forms_step S) y)) h)

  word_stays : (word : Word) → StaysIdx (name_forms (C.name word)) (name_forms (S.name word))
  word_stays word = record {
    idx = λ e. ap (λ (o : Option Sort). (name_forms o).idx) (stays word (named_sort (C.name word) Idx e));
    whole = λ e. absurd (name_not_whole (C.name word) e);
  }

  pub terms_stay : (t : Term) → All GivesNum (applications t) → Stays t
  terms_stay t = applied_terms GivesNum Stays (record {
    number = λ q. by_layer (Term-F.Number q) (record { idx = λ e. e; whole = λ e. e });
    null = by_layer Term-F.Null (same_stays (sort_forms Ptr));
    name = λ word. by_layer (Term-F.Name word) (word_stays word);
    apply = λ func args h. by_layer (Term-F.Apply func args) (no_index (map (forms_of C) args) (C.function func) _ h);
    add = λ a b h k. by_layer (Term-F.Add a b) (sums_stay _ _ _ _ h k);
    subtract = λ a b h k. by_layer (Term-F.Sub a b) (differences_stay _ _ _ _ h k);
    neg = λ a h. by_layer (Term-F.Neg a) (record { idx = λ e. h.whole e; whole = λ e. e });
    scale = λ q a h. by_layer (Term-F.Scale q a) (record { idx = λ e. e; whole = λ e. e });
  }) t
