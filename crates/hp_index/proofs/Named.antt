-- The names of words of a sort, and of index and pointer terms.
use Rattle.std.proofs.Common.{◌≡◌, Bool, true, false, ◌&&◌, ◌||◌, List, Option, Some, None, refl, sym, ap, subst, ◌⊎◌, inl, inr}
use Rattle.std.specs.Prelude.{option_map, position, slice_get}
use Rattle.std.specs.Option.{option_or}
use Rattle.std.specs.Str.{bytes_eq}
use Rattle.std.proofs.lemmas.Bool.{and_parts}
use Rattle.std.proofs.lemmas.Option.{option_and_then_some}
use Rattle.hp_tree.specs.declared.term.Term.{Term, fold-roll-Term, roll-Term, map-Term}
use Rattle.hp_tree.specs.declared.term.Term.TheOpen.{Term-F}
use Rattle.hp_tree.specs.declared.problem.Sort.{Sort}
use Rattle.hp_tree.specs.declared.problem.Sort.TheVariants.{Num, Idx, Ptr}
use Rattle.hp_tree.specs.Value.{Word}
use Rattle.hp_terms.specs.declared.forms.Forms.{Forms}
use Rattle.hp_terms.specs.Sorting.{forms_of, forms_step, has_form, name_forms}
use Rattle.hp_lit.specs.declared.literal.Name.{Name}
use Rattle.hp_lit.specs.Fit.{IsIdxSide, IsSide}
use Rattle.hp_lit.specs.Words.{number, scope_over}
use Rattle.hp_index.specs.declared.form.IndexForm.{IndexForm}
use Rattle.hp_index.specs.Forms.{index_of, index_step}
use Rattle.hp_index.specs.Laws.{TermsHaveFitPointers}
use Rattle.hp_index.specs.Pointers.{pointer_of, pointer_step}
use Rattle.hp_index.proofs.Layers.{Parts, bare, by_layers}

-- ---- words
-- the name of a word, which has the sort
pub record IsNameOf (words : List Word) (sorts : List Sort) (word : Word) (s : Sort) : Type 0 where
  pub name : Name
  pub there : number words word ≡ Some name
  pub sort : slice_get sorts name.0 ≡ Some s

pub named_sort : (o : Option Sort) (s : Sort) → has_form (name_forms o) s ≡ true → o ≡ Some s
named_sort None Num e = absurd (cc)
named_sort None Idx e = absurd (cc)
named_sort None Ptr e = absurd (cc)
named_sort (Some Num) Num e = refl
named_sort (Some Num) Idx e = absurd (cc)
named_sort (Some Num) Ptr e = absurd (cc)
named_sort (Some Idx) Num e = absurd (cc)
named_sort (Some Idx) Idx e = refl
named_sort (Some Idx) Ptr e = absurd (cc)
named_sort (Some Ptr) Num e = absurd (cc)
named_sort (Some Ptr) Idx e = absurd (cc)
named_sort (Some Ptr) Ptr e = refl

pub name_of_word : (words : List Word) (sorts : List Sort) (word : Word) (s : Sort) → has_form (name_forms ((scope_over words sorts).name word)) s ≡ true → IsNameOf words sorts word s
name_of_word words sorts word s e =
    option_and_then_some {P = IsNameOf words sorts word s} (λ at. slice_get sorts at) (position (bytes_eq word) words) s (named_sort ((scope_over words sorts).name word) s e)
    (λ at p q. record { name = record { 0 = at }; there = ap (option_map (λ n. record { 0 = n })) p; sort = q })

pub side_of_word : (words : List Word) (sorts : List Sort) (word : Word) (s : Sort) → IsNameOf words sorts word s → IsSide s sorts (number words word)
side_of_word words sorts word s n = subst (IsSide s sorts) (sym n.there) n.sort

-- a word is no number
pub name_not_whole : (o : Option Sort) → (name_forms o).whole ≡ true → ⊥
name_not_whole None e = cc
name_not_whole (Some Num) e = cc
name_not_whole (Some Idx) e = cc
name_not_whole (Some Ptr) e = cc

-- ---- sums and differences
pub or_parts : (a b : Bool) → (a || b) ≡ true → (a ≡ true) ⊎ (b ≡ true)
or_parts true b e = inl refl
or_parts false b e = inr e

pub option_or-none : {A : Type 0} (o : Option A) → option_or o None ≡ o
option_or-none None = refl
option_or-none (Some x) = refl

-- of two idx summands one is a number
pub summands : (a b : Forms) → ((a.idx && b.whole) || (a.whole && b.idx)) ≡ true → ((a.idx ≡ true) × (b.whole ≡ true)) ⊎ ((a.whole ≡ true) × (b.idx ≡ true))
summands a b e = by (or_parts (a.idx && b.whole) (a.whole && b.idx) e)
  where
    by : ((a.idx && b.whole) ≡ true) ⊎ ((a.whole && b.idx) ≡ true) → ((a.idx ≡ true) × (b.whole ≡ true)) ⊎ ((a.whole ≡ true) × (b.idx ≡ true))
    by (inl p) = inl (and_parts a.idx b.whole p)
    by (inr p) = inr (and_parts a.whole b.idx p)

-- ---- index terms
module _ (words : List Word) (sorts : List Sort) where
  -- an index term is over names of sort idx, and a number has no name
  pub record HasBase (forms : Forms) (base : Option Name) : Type 0 where
    pub index : forms.idx ≡ true → IsIdxSide sorts base
    pub alone : forms.whole ≡ true → base ≡ None
    pub number : forms.whole ≡ true → forms.idx ≡ true

  abbrev TermHasBase : Term → Type 0
  TermHasBase t = HasBase (forms_of (scope_over words sorts) t) (index_of words t).base

  sum_side : (a b : Forms) (x y : Option Name) → HasBase a x → HasBase b y → ((a.idx && b.whole) || (a.whole && b.idx)) ≡ true → IsIdxSide sorts (option_or x y)
  sum_side a b x y p q e = by (summands a b e)
    where
      by : ((a.idx ≡ true) × (b.whole ≡ true)) ⊎ ((a.whole ≡ true) × (b.idx ≡ true)) → IsIdxSide sorts (option_or x y)
      by (inl h) = subst (λ o. IsIdxSide sorts (option_or x o)) (sym (q.alone h.1)) (subst (IsIdxSide sorts) (sym (option_or-none x)) (p.index h.0))
      by (inr h) = subst (λ o. IsIdxSide sorts (option_or o y)) (sym (p.alone h.0)) (q.index h.1)

  step_base : (y : Term-F (Parts TermHasBase))
      → HasBase (forms_step (scope_over words sorts) (map-Term Term Forms (forms_of (scope_over words sorts)) (bare TermHasBase y)))
      (index_step words (map-Term Term IndexForm (index_of words) (bare TermHasBase y))).base
  step_base (Term-F.Number q) = record { index = λ e. tt; alone = λ e. refl; number = λ e. e }
  step_base Term-F.Null = record { index = λ e. tt; alone = λ e. refl; number = λ e. e }
  step_base (Term-F.Name n) = record {
    index = λ e. side_of_word words sorts n Idx (name_of_word words sorts n Idx e);
    alone = λ e. absurd (name_not_whole ((scope_over words sorts).name n) e);
    number = λ e. absurd (name_not_whole ((scope_over words sorts).name n) e);
  }
  step_base (Term-F.Apply func args) = record { index = λ e. tt; alone = λ e. refl; number = λ e. e }
  step_base (Term-F.Add a b) = record {
    index = sum_side (forms_of (scope_over words sorts) a.0) (forms_of (scope_over words sorts) b.0) (index_of words a.0).base (index_of words b.0).base a.1 b.1;
    alone = λ e. absurd (cc);
    number = λ e. absurd (cc);
  }
  step_base (Term-F.Sub a b) = record {
    index = λ e. a.1.index (and_parts (forms_of (scope_over words sorts) a.0).idx (forms_of (scope_over words sorts) b.0).whole e).0;
    alone = λ e. absurd (cc);
    number = λ e. absurd (cc);
  }
  step_base (Term-F.Neg a) = record { index = λ e. tt; alone = λ e. refl; number = λ e. absurd (cc) }
  step_base (Term-F.Scale q a) = record { index = λ e. tt; alone = λ e. refl; number = λ e. absurd (cc) }

  layer_base : (y : Term-F (Parts TermHasBase)) → TermHasBase (roll-Term (bare TermHasBase y))
  layer_base y =
      let z = bare TermHasBase y in
      let scope = scope_over words sorts in
      subst (λ f. HasBase f (index_of words (roll-Term z)).base) (sym (fold-roll-Term Forms (forms_step scope) z))
      (subst (λ (g : IndexForm). HasBase (forms_step scope (map-Term Term Forms (forms_of scope) z)) g.base) (sym (fold-roll-Term IndexForm (index_step words) z)) (step_base y))

  pub term_base : (t : Term) → TermHasBase t
  term_base = by_layers TermHasBase layer_base

-- ---- pointer terms
module _ (words : List Word) (sorts : List Sort) where
  abbrev IsPointer : Term → Type 0
  IsPointer t = has_form (forms_of (scope_over words sorts) t) Ptr ≡ true → IsSide Ptr sorts (pointer_of words t)

  step_pointer : (y : Term-F (Parts IsPointer))
      → has_form (forms_step (scope_over words sorts) (map-Term Term Forms (forms_of (scope_over words sorts)) (bare IsPointer y))) Ptr ≡ true
      → IsSide Ptr sorts (pointer_step words (map-Term Term (Option Name) (pointer_of words) (bare IsPointer y)))
  step_pointer (Term-F.Number q) e = tt
  step_pointer Term-F.Null e = tt
  step_pointer (Term-F.Name n) e = side_of_word words sorts n Ptr (name_of_word words sorts n Ptr e)
  step_pointer (Term-F.Apply func args) e = tt
  step_pointer (Term-F.Add a b) e = tt
  step_pointer (Term-F.Sub a b) e = tt
  step_pointer (Term-F.Neg a) e = tt
  step_pointer (Term-F.Scale q a) e = tt

  layer_pointer : (y : Term-F (Parts IsPointer)) → IsPointer (roll-Term (bare IsPointer y))
  layer_pointer y =
      let z = bare IsPointer y in
      let scope = scope_over words sorts in
      subst (λ f. has_form f Ptr ≡ true → IsSide Ptr sorts (pointer_of words (roll-Term z))) (sym (fold-roll-Term Forms (forms_step scope) z))
      (subst (λ o. has_form (forms_step scope (map-Term Term Forms (forms_of scope) z)) Ptr ≡ true → IsSide Ptr sorts o) (sym (fold-roll-Term (Option Name) (pointer_step words) z)) (step_pointer y))

  pub pointer_side : (t : Term) → IsPointer t
  pointer_side = by_layers IsPointer layer_pointer

pub terms_have_fit_pointers : TermsHaveFitPointers
terms_have_fit_pointers words sorts t e = pointer_side words sorts t e
