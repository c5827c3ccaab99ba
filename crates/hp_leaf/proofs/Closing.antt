-- Where all lines are true, none of the places that a closed reading begins with is true.
use Rattle.std.proofs.Common.{◌≡◌, ℕ, suc, ◌+◌, ◌-◌, ◌<◌, inl, inr, sym, ◌∙◌, ap, subst, arith, List, [], ◌∷◌, ◌++◌, length, get_or}
use Rattle.std.specs.List.{All}
use Rattle.std.proofs.lemmas.Option.{slice_get-get_or}
use Rattle.std.proofs.lemmas.List.{map-append}
use Rattle.std.proofs.lemmas.List.Elements.{All-nil, All-push}
use Rattle.hp_lit.specs.declared.literal.Lit.{Lit}
use Rattle.hp_lit.specs.declared.line.Line.{Line}
use Rattle.hp_lit.specs.declared.line.Origin.TheVariants.{Ground}
use Rattle.hp_lit.specs.declared.proof.Choice.{Choice}
use Rattle.hp_lit.specs.Truth.{Values, IsTrueAt, LineIsTrue}
use Rattle.hp_leaf.specs.declared.tree.Node.{Node}
use Rattle.hp_leaf.specs.declared.tree.Node.TheVariants.{Split, Leaf, Unopened}
use Rattle.hp_leaf.specs.Tree.{lits_of, lits_at, IsLine, nothing, lit_at, Place, place_lits, children, Reads, Any}
use Rattle.hp_leaf.specs.Laws.{ClosedTreesRefute}
use Rattle.hp_leaf.proofs.Leaves.{no_leaf}

-- the literals of a place with one choice more
pub place_lits-push : (lines : List Line) (place : Place) (c : Choice) → place_lits lines (place ++ c ∷ []) ≡ place_lits lines place ++ lit_at lines c ∷ []
place_lits-push lines place c = map-append (lit_at lines) place (c ∷ [])

module _ (v : Values) (lines : List Line) where
  pub IsTruePlace : Place → Type 0
  IsTruePlace place = All (IsTrueAt v) (place_lits lines place)

  pub NoneTrue : List Place → Type 0
  NoneTrue [] = Unit {0}
  NoneTrue (p ∷ ps) = ¬ (IsTruePlace p) × NoneTrue ps

  first_none : (ps qs : List Place) → NoneTrue (ps ++ qs) → NoneTrue ps
  unfolding NoneTrue
  first_none [] qs h = tt
  first_none (p ∷ ps) qs h = (h.0, first_none ps qs h.1)

  last_none : (ps qs : List Place) → NoneTrue (ps ++ qs) → NoneTrue qs
  unfolding NoneTrue
  last_none [] qs h = h
  last_none (p ∷ ps) qs h = last_none ps qs h.1

  -- a true place below which no place is true has no true literal in its line
  none_below : (place : Place) → IsTruePlace place → (line done : ℕ) (ls : List Lit)
      → ((k : ℕ) → k < length ls → get_or (lits_at lines line) (done + k) nothing ≡ get_or ls k nothing)
      → NoneTrue (children place line done (length ls)) → LineIsTrue v ls → ⊥
  unfolding NoneTrue IsTruePlace
  none_below place true_place line done [] at none h = h
  none_below place true_place line done (l ∷ ls) at none (inl h) =
      let c : Choice = record { line = line; lit = suc done } in
      let e : (suc done - 1) ≡ done + 0 = omega arith in
      let s : lit_at lines c ≡ l = ap (λ k. get_or (lits_at lines line) k nothing) e ∙ at 0 (omega arith) in
      none.0 (subst (All (IsTrueAt v)) (sym (place_lits-push lines place c)) (All-push (IsTrueAt v) (place_lits lines place) (lit_at lines c) true_place (subst (IsTrueAt v) (sym s) h)))
  none_below place true_place line done (l ∷ ls) at none (inr h) =
      none_below place true_place line (suc done) ls (λ k b. (let e : suc done + k ≡ done + suc k = omega arith in ap (λ j. get_or (lits_at lines line) j nothing) e ∙ at (suc k) (omega arith))) none.1 h

  line_true : All (λ line. LineIsTrue v line.lits) lines → (n : ℕ) → IsLine lines n → LineIsTrue v (lits_at lines n)
  line_true all n within =
      let d : Line = record { lits = []; origin = Ground 0 } in
      let b : n - 1 < length lines = omega (arith, within.0, within.1) in
      subst (λ o. LineIsTrue v (lits_of o)) (sym (slice_get-get_or lines (n - 1) d b)) (all (n - 1) d b)

  pub none_true : All (λ line. LineIsTrue v line.lits) lines → (nodes : List Node) (places : List Place) → Reads Any lines nodes places [] → NoneTrue places
  unfolding NoneTrue IsTruePlace
  none_true all [] [] h = tt
  none_true all [] (p ∷ ps) h = cc
  none_true all (node ∷ nodes) [] h = absurd h
  none_true all (Split n ∷ nodes) (p ∷ ps) h =
      let below = none_true all nodes (children p n 0 (length (lits_at lines n)) ++ ps) h.2 in (
        λ t. none_below p t n 0 (lits_at lines n) (λ k b. (let e : 0 + k ≡ k = omega arith in ap (λ j. get_or (lits_at lines n) j nothing) e)) (first_none (children p n 0 (length (lits_at lines n))) ps below) (line_true all n h.0),
        last_none (children p n 0 (length (lits_at lines n))) ps below,
      )
  none_true all (Leaf proof ∷ nodes) (p ∷ ps) h = (λ t. no_leaf v (place_lits lines p) proof h.0 t, none_true all nodes ps h.1)
  none_true all (Unopened ∷ nodes) (p ∷ ps) h = absurd h

pub closed_trees_refute : ClosedTreesRefute
unfolding NoneTrue IsTruePlace
closed_trees_refute lines tree closed v all = (none_true v lines all tree ([] ∷ []) closed).0 (All-nil (IsTrueAt v))
