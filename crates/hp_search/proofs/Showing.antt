-- What values that make the literals of a place true show of the lines.
use Rattle.std.proofs.Common.{◌≡◌, ℕ, ◌-◌, ◌≤◌, pos, inr, refl, sym, ◌∙◌, subst, arith, List, Bool, Option, Some, None, Result, Ok, Err, IfOk, IfSome}
use Rattle.std.specs.Prelude.{slice_get}
use Rattle.std.specs.List.{All}
use Rattle.std.proofs.lemmas.Option.{get_or_from_slice_get, slice_get_within}
use Rattle.std.proofs.lemmas.List.Elements.{All-get_or, All-weaker}
use Rattle.hp_math.specs.Rational.{whole}
use Rattle.hp_num.specs.declared.wide.Wide.{Wide}
use Rattle.hp_tree.specs.declared.problem.Sort.{Sort}
use Rattle.hp_tree.specs.declared.problem.Sort.TheVariants as sort
use Rattle.hp_lit.specs.declared.literal.Lit.{Lit}
use Rattle.hp_lit.specs.declared.literal.Lit.TheVariants.{Num, Idx, Ptr}
use Rattle.hp_lit.specs.declared.line.Line.{Line}
use Rattle.hp_lit.specs.declared.proof.Choice.{Choice}
use Rattle.hp_lit.specs.declared.valuation.Valuation.{Valuation}
use Rattle.hp_lit.specs.Truth.{Values, name_value, LineIsTrue}
use Rattle.hp_descent.specs.declared.answer.At.TheVariants as At
use Rattle.hp_descent.specs.declared.answer.Form.TheVariants as Form
use Rattle.hp_descent.specs.declared.answer.RowStrain.{RowStrain}
use Rattle.hp_descent.specs.Values.{value_in}
use Rattle.hp_descent.proofs.Addition.{sum_at_same}
use Rattle.hp_leaf.specs.Tree.{lits_at, nothing, IsLine, Place, place_lits, IsOpenAt}
use Rattle.hp_lit.specs.Fit.{IsFit}
use Rattle.hp_path.specs.Decided.{AreOfChain, AreValuesFor}
use Rattle.hp_search.specs.declared.searching.SearchErr.{SearchErr}
use Rattle.hp_search.specs.declared.searching.SearchErr.TheVariants as search_err
use Rattle.hp_search.specs.declared.looking.Seen.{Seen}
use Rattle.hp_search.specs.declared.looking.Seen.TheVariants.{Model, Split, Leaf}
use Rattle.hp_search.specs.declared.truth.Verdict.{Verdict}
use Rattle.hp_search.specs.inner.Leading.{IsSeenBy}
use Rattle.hp_search.specs.Lines.{AreFit, IsFalseLine, IsWideChoice, IsWideLit, Judges}
use Rattle.hp_search.specs.Search.{HasChain, IsCauseAt, IsModelAt, Sees, IsStrainedAs, IsStrainedAt, IsStrainedLit}
use Rattle.hp_search.proofs.Reading.{lits_fit}

pub all_true : (ss : List Sort) (lines : List Line) (place : Place) (v : Valuation) → AreValuesFor ss (place_lits lines place) v.values → All (λ line. LineIsTrue v.values line.lits) lines → IsModelAt ss lines place v
all_true ss lines place v h all = record { sorted = h.sorted; small = h.small; holds = h.holds; all = all }

pub line_false : (ss : List Sort) (lines : List Line) (place : Place) (v : Values) (n : ℕ) → AreValuesFor ss (place_lits lines place) v → IsFalseLine lines v n → IsLine lines n × IsOpenAt ss lines place n
line_false ss lines place v n h f = (f.within, record { values = v; sorted = h.sorted; holds = h.holds; fails = f.fails })

-- what a verdict on these values shows
pub verdict_seen : (ss : List Sort) (lines : List Line) (place : Place) (v : Valuation) (given : Verdict) (exact : Bool) (seen : Option Seen) → AreValuesFor ss (place_lits lines place) v.values → Judges lines v.values given → IsSeenBy given v exact seen
    → IfSome seen (Sees ss lines place exact)
verdict_seen ss lines place v given exact None h j s = tt
verdict_seen ss lines place v given exact (Some (Split n)) h j s = line_false ss lines place v.values n h (subst (Judges lines v.values) s j)
verdict_seen ss lines place v given exact (Some (Leaf proof)) h j s = absurd s
verdict_seen ss lines place v given exact (Some (Model w chain)) h j s =
    let model = all_true ss lines place v h (subst (Judges lines v.values) s.0 j) in
    (subst (IsModelAt ss lines place) (sym s.1) model, subst (λ e. HasChain ss lines place w e chain) (sym s.3) s.2)

-- a line that is false can be split
pub found_open : {E : Type 0} (ss : List Sort) (lines : List Line) (place : Place) (v : Values) (found : Result (Option ℕ) E) → AreValuesFor ss (place_lits lines place) v → IfOk found (λ f. IfSome f (IsFalseLine lines v))
    → IfOk found (λ f. IfSome f (λ n. IsLine lines n × IsOpenAt ss lines place n))
found_open ss lines place v (Err e) h f = tt
found_open ss lines place v (Ok None) h f = tt
found_open ss lines place v (Ok (Some n)) h f = line_false ss lines place v n h f

-- ---- strains
pub caused : (lines : List Line) (place : Place) (row : RowStrain) (e : SearchErr) → IsStrainedAs place row e → IsStrainedAt lines place row → IsCauseAt lines place e
caused lines place row (search_err.Strain s) h k = (h.0, subst (IsStrainedAt lines place) (sym h.1) k)
caused lines place row search_err.Memory h k = tt

-- the sum of a literal that is too wide at the values of a chain
module _ (ss : List Sort) (lines : List Line) (place : Place) (v : Values) (chain : List ℕ) (choice : Choice) (wide : Wide) (made : AreOfChain ss (place_lits lines place) chain v) where
  strain : RowStrain
  strain = record { chain = chain; at = At.Literal choice.line choice.lit; form = Form.Sum; wide = wide }

  lit_strained : (l : Lit) → IsFit ss l → IsLine lines choice.line → 1 ≤ choice.lit → slice_get (lits_at lines choice.line) (choice.lit - 1) ≡ Some l → IsWideLit v l wide → IsStrainedLit lines place strain
  unfolding strain
  lit_strained (Idx row) b i from at w = absurd w
  lit_strained (Ptr l) b i from at w = absurd w
  lit_strained (Num l) b i from at w =
      let inside = slice_get_within (lits_at lines choice.line) (choice.lit - 1) (Num l) at in
      let same = All-weaker (λ p. slice_get ss p.name.0 ≡ Some sort.Num) (λ p. name_value v p.name.0 ≡ value_in made.values p.name.0) (λ p e. made.agree p.name.0 e) l.parts b.names in record {
        choice = choice;
        at = refl;
        within = i;
        in_range = (from, omega (arith, from, inside));
        lit = l;
        is = get_or_from_slice_get (lits_at lines choice.line) (choice.lit - 1) (Num l) nothing at;
        strained = record { form = refl; values = made.values; solution = made.solution; strained = sym (sum_at_same (name_value v) (value_in made.values) (whole (pos 0)) l.parts same) ∙ w };
      }

  pub wide_strained : All (λ line. AreFit ss line.lits) lines → IsWideChoice lines v choice wide → IsStrainedAt lines place (record { chain = chain; at = At.Literal choice.line choice.lit; form = Form.Sum; wide = wide })
  unfolding strain
  wide_strained fit h =
      let lits = lits_at lines choice.line in
      let n = choice.lit - 1 in
      let b : IsFit ss h.sum.lit = subst (IsFit ss) (get_or_from_slice_get lits n h.sum.lit h.sum.lit h.sum.at) (All-get_or (IsFit ss) lits n h.sum.lit (slice_get_within lits n h.sum.lit h.sum.at) (lits_fit ss lines fit choice.line)) in
      inr (lit_strained h.sum.lit b h.within h.sum.from h.sum.at h.sum.strained)
