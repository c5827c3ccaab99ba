-- Literals that can be decided: those of a place can, and values whose index names are small tell their truth.
use Rattle.std.proofs.Common.{◌≡◌, ℕ, zero, suc, ◌-◌, ◌+◌, ◌≤◌, ◌<◌, ◌^◌, ◌+ℤ◌, ◌≤ℤ◌, pos, nat_eq, refl, sym, ◌∙◌, ap, subst, arith, List, [], ◌∷◌, ◌++◌, length, take, get_or, Option, Some, None, length-append, append_assoc}
use Rattle.std.specs.Prelude.{slice_get}
use Rattle.std.specs.List.{All}
use Rattle.std.proofs.lemmas.Int.{ints}
use Rattle.std.proofs.lemmas.Option.{get_or_from_slice_get, slice_get_within}
use Rattle.std.proofs.lemmas.List.{length-map, map-append, take_more}
use Rattle.std.proofs.lemmas.List.Elements.{All-append, All-get_or, All-head, All-map, All-nil, All-tail, All-weaker}
use Rattle.hp_math.specs.Rational.{whole}
use Rattle.hp_math.proofs.Rational.{ratio-kept}
use Rattle.hp_tree.specs.declared.problem.Sort.{Sort}
use Rattle.hp_lit.specs.declared.literal.Name.{Name}
use Rattle.hp_lit.specs.declared.literal.Lit.{Lit}
use Rattle.hp_lit.specs.declared.literal.Lit.TheVariants.{Num, Idx, Ptr}
use Rattle.hp_lit.specs.declared.line.Line.{Line}
use Rattle.hp_lit.specs.declared.proof.Choice.{Choice}
use Rattle.hp_lit.specs.Truth.{Values, optional_value}
use Rattle.hp_diff.specs.Rows.{IsSmallWhole}
use Rattle.hp_leaf.specs.Tree.{lits_of, lits_at, lit_at, nothing, Place, place_lits}
use Rattle.hp_lit.specs.Fit.{IsFit, IsIdxSide}
use Rattle.hp_path.specs.Decided.{AreSmallIdx}
use Rattle.hp_search.specs.Lines.{AreFit, AreReadable, IsReadable}

-- ---- the literals of a place can be decided
or_default : {A : Type 0} (P : A → Type 0) (xs : List A) (k : ℕ) (d : A) → P d → All P xs → P (get_or xs k d)
or_default P [] k d h all = h
or_default P (x ∷ xs) zero d h all = All-head P x xs all
or_default P (x ∷ xs) (suc k) d h all = or_default P xs k d h (All-tail P x xs all)

module _ (ss : List Sort) (lines : List Line) (fit : All (λ line. AreFit ss line.lits) lines) where
  pub lits_fit : (n : ℕ) → AreFit ss (lits_at lines n)
  lits_fit n = (elim (slice_get lines (n - 1)) as (λ o. slice_get lines (n - 1) ≡ o → AreFit ss (lits_of o)) [
    | None ↦ λ e. All-nil (IsFit ss)
    | Some line ↦ λ e. subst (λ l. AreFit ss l.lits) (get_or_from_slice_get lines (n - 1) line line e) (All-get_or (λ l. AreFit ss l.lits) lines (n - 1) line (slice_get_within lines (n - 1) line e) fit)
  ]) refl

  nothing_fit : IsFit ss nothing
  nothing_fit = record { bound = record { low = omega (arith, ints); high = omega (arith, ints) }; left = tt; right = tt }

  lit_fit : (c : Choice) → IsFit ss (lit_at lines c)
  lit_fit c = or_default (IsFit ss) (lits_at lines c.line) (c.lit - 1) nothing nothing_fit (lits_fit c.line)

  pub place_fit : (place : Place) → All (IsFit ss) (place_lits lines place)
  place_fit place = All-map (IsFit ss) (lit_at lines) place (each place)
    where
      each : (place : Place) → All (λ c. IsFit ss (lit_at lines c)) place
      each place = λ i d b. lit_fit (get_or place i d)

  pub places_fit : (path singles : Place) → All (IsFit ss) (place_lits lines path ++ place_lits lines singles)
  places_fit path singles = All-append (IsFit ss) (place_lits lines path) (place_lits lines singles) (place_fit path) (place_fit singles)

pub place_count : (lines : List Line) (place : Place) → length (place_lits lines place) ≡ length place
place_count lines place = length-map place (lit_at lines)

pub place_few : (lines : List Line) (place : Place) → length place ≤ 50000 → length (place_lits lines place) ≤ 100000
place_few lines place h = (let e = place_count lines place in omega (arith, e))

pub places_few : (lines : List Line) (path singles : Place) → length path ≤ 50000 → length singles ≤ 50000 → length (place_lits lines path ++ place_lits lines singles) ≤ 100000
places_few lines path singles h k =
    let p = place_count lines path in
    let q = place_count lines singles in
    let e = length-append (place_lits lines path) (place_lits lines singles) in
    omega (arith, p, q, e)

-- one choice more
pub place_more : (lines : List Line) (path : Place) (before old more : List Lit) (i : ℕ) (d : Choice) (l : Lit) → i < length path → l ≡ lit_at lines (get_or path i d) → more ≡ old ++ l ∷ []
    → old ≡ before ++ place_lits lines (take i path) → more ≡ before ++ place_lits lines (take (i + 1) path)
place_more lines path before old more i d l b at m h =
    m ∙ (λ j. h j ++ at j ∷ []) ∙ append_assoc before (place_lits lines (take i path)) (lit_at lines (get_or path i d) ∷ [])
    ∙ ap (λ q. before ++ q) (sym (map-append (lit_at lines) (take i path) (get_or path i d ∷ [])) ∙ ap (place_lits lines) (sym (take_more path i d b)))

-- ---- literals whose truth can be told
zero_kept : ((whole (pos 0)).num ≡ pos 0) × ((whole (pos 0)).den ≡ 1)
unfolding whole
zero_kept = ratio-kept (pos 0) 1 (omega arith) (λ e a b h. omega arith)

zero_small : IsSmallWhole (whole (pos 0))
zero_small =
    let e = zero_kept.0 in
    record { whole = ap (λ d. nat_eq d 1) zero_kept.1; low = subst (λ n. pos 0 ≤ℤ (n +ℤ pos (10 ^ 37))) (sym e) (omega (arith, ints)); high = subst (λ n. n ≤ℤ pos (10 ^ 37)) (sym e) (omega (arith, ints)) }

module _ (ss : List Sort) (v : Values) (small : AreSmallIdx ss v) where
  side_small : (name : Option Name) → IsIdxSide ss name → IsSmallWhole (optional_value v name)
  side_small None h = zero_small
  side_small (Some name) h = small name.0 h

  lit_readable : (l : Lit) → IsFit ss l → IsReadable v l
  lit_readable (Num l) h = h.fit
  lit_readable (Idx row) h = record { left = side_small row.left h.left; right = side_small row.right h.right }
  lit_readable (Ptr l) h = tt

  pub lines_readable : (lines : List Line) → All (λ line. AreFit ss line.lits) lines → All (AreReadable v) lines
  lines_readable lines fit = All-weaker (λ line. AreFit ss line.lits) (AreReadable v) (λ line h. All-weaker (IsFit ss) (IsReadable v) lit_readable line.lits h) lines fit

  pub lits_readable : (lits : List Lit) → All (IsFit ss) lits → All (IsReadable v) lits
  lits_readable lits fit = All-weaker (IsFit ss) (IsReadable v) lit_readable lits fit
