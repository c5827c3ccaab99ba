-- The value of a name among values in rising order of names, as a search by halving finds it.
use Rattle.std.proofs.Common.{◌≡◌, ℕ, zero, suc, ◌<◌, ◌≤◌, inl, inr, refl, sym, ◌∙◌, ap, subst, arith, List, [], ◌∷◌, length, get_or, map, nat_eq, cond, true, false, pos, Ok, Err}
use Rattle.std.specs.List.{All}
use Rattle.std.specs.List.Sorted.{IsStrictlyIncreasing, IsBinarySearchResult, IsNonDecreasingBy}
use Rattle.std.specs.Ordering.{nat_cmp, ordering_index}
use Rattle.std.proofs.lemmas.Bool.{eqb-true, eq-eqb, ne_eqb, cases_lt}
use Rattle.std.proofs.lemmas.Bool.Decides.{nat_tests}
use Rattle.std.proofs.lemmas.Cmp.{ranked}
use Rattle.std.proofs.lemmas.List.{length-map, get_or-map}
use Rattle.std.proofs.lemmas.List.Elements.{All-cons, All-nil, All-head, All-tail}
use Rattle.std.proofs.lemmas.List.Sorted.{IsNonDecreasingBy-from_default}
use Rattle.hp_math.specs.Rational.{whole}
use Rattle.hp_lit.specs.declared.literal.Part.{Part}
use Rattle.hp_lit.specs.declared.literal.NumLit.{NumLit}
use Rattle.hp_lit.specs.declared.valuation.NameValue.{NameValue}
use Rattle.hp_lit.specs.Truth.{Values, name_value}
use Rattle.hp_lit.specs.Fit.{part_names}
use Rattle.hp_rows.specs.Rows.{Among}
use Rattle.hp_descent.specs.Columns.{columns}
use Rattle.hp_descent.specs.Values.{value_in, GivesAmong}
use Rattle.hp_descent.proofs.Rising.{Rises, rises_in, above_at, not_above, columns_are_names}
use Rattle.hp_descent.proofs.Truth.{AllAmong}

abbrev pub names_of : List NameValue → List ℕ
names_of values = map (λ nv. nv.name.0) values

-- no value
none : NameValue
none = record { name = record { 0 = 0 }; value = whole (pos 0) }

name_at : (values : List NameValue) (k : ℕ) (d : NameValue) → k < length values → get_or (names_of values) k 0 ≡ (get_or values k d).name.0
name_at values k d l = get_or-map (λ (nv : NameValue). nv.name.0) values k d 0 l

-- ---- where the name stands, and where it doesn't
at_place : (values : List NameValue) (n i : ℕ) (d : NameValue) → Rises (names_of values) → i < length values → (get_or values i d).name.0 ≡ n → value_in values n ≡ (get_or values i d).value
at_place [] n i d r l e = absurd (omega arith)
at_place (x ∷ xs) n zero d r l e = ap (λ b. cond b x.value (value_in xs n)) (eq-eqb x.name.0 n e)
at_place (x ∷ xs) n (suc i) d r l e =
    let size = length-map xs (λ (nv : NameValue). nv.name.0) in
    let h : x.name.0 < get_or (names_of xs) i 0 = above_at x.name.0 (names_of xs) i r.0 (omega arith) in
    let s = name_at xs i d (omega arith) in
    ap (λ b. cond b x.value (value_in xs n)) (ne_eqb x.name.0 n (λ f. absurd (omega arith))) ∙ at_place xs n i d r.1 (omega arith) e

nowhere : (values : List NameValue) (n : ℕ) (d : NameValue) → ((k : ℕ) → k < length values → (get_or values k d).name.0 ≡ n → ⊥) → value_in values n ≡ whole (pos 0)
nowhere [] n d h = refl
nowhere (x ∷ xs) n d h =
    ap (λ b. cond b x.value (value_in xs n)) (ne_eqb x.name.0 n (λ e. h 0 (omega arith) e)) ∙ nowhere xs n d (λ k l e. h (suc k) (omega arith) e)

-- ---- what the search answers
comparisons_rise : (values : List NameValue) (n : ℕ) → IsStrictlyIncreasing (names_of values) → IsNonDecreasingBy (λ nv. ordering_index (nat_cmp nv.name.0 n)) values
comparisons_rise values n up = IsNonDecreasingBy-from_default (λ nv. ordering_index (nat_cmp nv.name.0 n)) values none (λ i j le l.
    let size = length-map values (λ (nv : NameValue). nv.name.0) in
    let h : get_or (names_of values) i 0 ≤ get_or (names_of values) j 0 = not_above (names_of values) (rises_in (names_of values) up) i j le (omega arith) in
    let a = name_at values i none (omega arith) in
    let b = name_at values j none l in
    grind (arith, nat_tests))

pub found_value : (values : List NameValue) (n i : ℕ) (d : NameValue) → IsStrictlyIncreasing (names_of values) → i < length values
    → IsBinarySearchResult (λ nv. nat_cmp nv.name.0 n) values (Ok i) → value_in values n ≡ (get_or values i d).value
found_value values n i d up l h = at_place values n i d (rises_in (names_of values) up) l (ranked _ n _ (sym (h d)))

pub missed_value : (values : List NameValue) (n i : ℕ) → IsStrictlyIncreasing (names_of values) → IsBinarySearchResult (λ nv. nat_cmp nv.name.0 n) values (Err i)
    → value_in values n ≡ whole (pos 0)
missed_value values n i up h =
    let p = h (comparisons_rise values n up) in
    nowhere values n none (λ k l e. elim (cases_lt k i) [
      | inl q ↦ (let s : (get_or values k none).name.0 < n = ranked _ n _ (sym (p.0 k none (omega arith) q)) in absurd (omega arith))
      | inr q ↦ (let s : n < (get_or values k none).name.0 = ranked _ n _ (sym (p.1 k none q l)) in absurd (omega arith))
    ])

-- ---- values that a valuation agrees with
module _ (v : Values) where
  gives : (values : List NameValue) (n : ℕ) → All (λ nv. name_value v nv.name.0 ≡ nv.value) values → Among (names_of values) n → name_value v n ≡ value_in values n
  gives [] n h a = absurd a
  gives (x ∷ xs) n h a =
      (elim (nat_eq x.name.0 n) as (λ b. nat_eq x.name.0 n ≡ b → name_value v n ≡ cond b x.value (value_in xs n)) [
        | true ↦ λ e. ap (name_value v) (sym (eqb-true x.name.0 n e)) ∙ All-head (λ nv. name_value v nv.name.0 ≡ nv.value) x xs h
        | false ↦ λ e. gives xs n (All-tail (λ nv. name_value v nv.name.0 ≡ nv.value) x xs h)
            (elim a as (λ _. Among (names_of xs) n) [ inl f ↦ absurd (let g = eq-eqb x.name.0 n f in cc) | inr q ↦ q ])
      ]) refl

  pub given_parts : (values : List NameValue) (ps : List Part) → All (λ nv. name_value v nv.name.0 ≡ nv.value) values → AllAmong (names_of values) (part_names ps) → GivesAmong values ps v
  given_parts values [] h a = All-nil (λ p. name_value v p.name.0 ≡ value_in values p.name.0)
  given_parts values (p ∷ ps) h a = All-cons (λ p. name_value v p.name.0 ≡ value_in values p.name.0) p ps (gives values p.name.0 h a.0) (given_parts values ps h a.1)

-- ---- values of the names that occur in literals
pub rising_names : (lits : List NumLit) (values : List NameValue) → names_of values ≡ columns lits → IsStrictlyIncreasing (names_of values)
rising_names lits values e = subst IsStrictlyIncreasing (sym e) (columns_are_names lits).rising
