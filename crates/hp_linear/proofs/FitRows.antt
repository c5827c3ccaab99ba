-- The literals that compare forms over names of sort num can be decided.
use Rattle.std.proofs.Common.{◌≡◌, ℕ, zero, suc, ◌+◌, ◌*◌, ◌/◌, ◌<◌, ◌≤◌, ◌^◌, ℤ, pos, neg_ℤ, ◌*ℤ◌, unsigned_abs, List, [], ◌∷◌, map, Some, Ok, sym, ap, subst, ◌∙◌, arith}
use Rattle.std.specs.Prelude.{int_div, slice_get, slice_index}
use Rattle.std.specs.List.{All}
use Rattle.std.specs.List.Sorted.{IsStrictlyIncreasing}
use Rattle.std.proofs.lemmas.Int.{ints}
use Rattle.std.proofs.lemmas.List.Elements.{All-nil, All-cons}
use Rattle.std.proofs.Math.Nat.{div-mul_cancel}
use Prim.Native.Nat.{◌∣◌}
use Rattle.hp_math.specs.Rational.{ℚ, magnitude}
use Rattle.hp_math.proofs.Whole.{*ℤ_cancel, up-*ℤ, down-*ℤ}
use Rattle.hp_math.proofs.Parts.{abs-magnitude, magnitude-neg_ℤ, zero_from_num}
use Rattle.hp_num.proofs.Reduce.{whole_quotient}
use Rattle.hp_num.specs.Wide.{◌>>=◌}
use Rattle.hp_num.proofs.Given.{came}
use Rattle.hp_tree.specs.declared.problem.Sort.{Sort}
use Rattle.hp_tree.specs.declared.problem.Sort.TheVariants.{Num as NumSort}
use Rattle.hp_tree.specs.declared.problem.Cmp.{Cmp}
use Rattle.hp_tree.specs.declared.problem.Cmp.TheVariants.{Le, Lt, Eq, Ne, Ge, Gt}
use Rattle.hp_lit.specs.declared.literal.Part.{Part}
use Rattle.hp_lit.specs.declared.literal.Rel.{Rel}
use Rattle.hp_lit.specs.declared.literal.Rel.TheVariants as rel
use Rattle.hp_lit.specs.declared.literal.Lit.{Lit}
use Rattle.hp_lit.specs.declared.line.LinPart.{LinPart}
use Rattle.hp_lit.specs.declared.line.Lin.{Lin}
use Rattle.hp_lit.specs.Fit.{IsFit, part_names}
use Rattle.hp_lit.specs.Words.{scope_over}
use Rattle.hp_linear.specs.declared.wholes.Row.{Row}
use Rattle.hp_linear.specs.Steps.{behind}
use Rattle.hp_linear.specs.Lins.{lin_of, minus_lin}
use Rattle.hp_linear.specs.Wholes.{denominator_of, lowest_row, one_if_zero, over, row_divisor, row_of, row_over, row_with, scaled_number, scaled_parts, scaled_row, whole_copies}
use Rattle.hp_tree.specs.Sides.{signed}
use Rattle.hp_linear.specs.Literals.{apart_literals, compared, lin_literals, one_literal, row_literal}
use Rattle.hp_linear.specs.Fit.{LitHasNoZeros}
use Rattle.hp_linear.specs.Laws.{LinLiteralsAreFit, LiteralsAreFit}
use Rattle.hp_linear.proofs.Refusals.{ok_same}
use Rattle.hp_linear.proofs.Naming.{num_sides}
use Rattle.hp_linear.proofs.Rows.{AreDivisors, AreMultiples, IsDenominator, IsDivisor, denominator_gave, lowest_divides, scaled_gave, some_share}
use Rattle.hp_linear.proofs.Fits.{AreFit, IsAny, IsSome, Keeps, keeps_any, keeps_some, lin_in, minus_lin-fit, term_fit}

-- ---- whole numbers
-- so many copies of a number that isn't 0
scaled_some : (n : ℤ) (m d : ℕ) → 0 < m → d ∣ m → (n ≡ pos 0 → ⊥) → n *ℤ pos (m / d) ≡ pos 0 → ⊥
scaled_some n m d p h some e =
    let k : 0 < m / d = some_share (m / d) d m (div-mul_cancel d h) p in
    some (*ℤ_cancel n (pos 0) (m / d) k (e ∙ (let z : pos 0 ≡ pos 0 *ℤ pos (m / d) = omega (arith, ints) in z)))

quotient_some : (n : ℤ) (g : ℕ) → g ∣ unsigned_abs n → (n ≡ pos 0 → ⊥) → int_div n (pos g) ≡ pos 0 → ⊥
quotient_some n g h some e = some (sym (whole_quotient n g h) ∙ ap (λ q. q *ℤ pos g) e ∙ (let z : pos 0 *ℤ pos g ≡ pos 0 = omega (arith, ints) in z))

times_more : (g m : ℕ) → 0 < g → m ≤ g * m
times_more zero m p = absurd (omega arith)
times_more (suc g) m p = omega arith

magnitude-times : (q : ℤ) (g : ℕ) → magnitude (q *ℤ pos g) ≡ g * magnitude q
magnitude-times q g = simp (up-*ℤ, down-*ℤ) (omega arith)

quotient_small : (n : ℤ) (g b : ℕ) → 0 < g → g ∣ unsigned_abs n → unsigned_abs n < b → unsigned_abs (int_div n (pos g)) < b
quotient_small n g b p h l =
    let q = int_div n (pos g) in
    let same : g * magnitude q ≡ magnitude n = sym (magnitude-times q g) ∙ ap magnitude (whole_quotient n g h) in
    omega (arith, abs-magnitude n, abs-magnitude q, same, times_more g (magnitude q) p)

-- ---- coefficients
-- what is so of the numerator of a coefficient of which P is so, of its multiples and of its quotients
record KeepsWhole (P : ℚ → Type 0) (W : ℤ → Type 0) : Type 0 where
  scaled : (q : ℚ) (m : ℕ) → 0 < m → q.den ∣ m → P q → W (q.num *ℤ pos (m / q.den))
  quotient : (n : ℤ) (g : ℕ) → g ∣ unsigned_abs n → W n → W (int_div n (pos g))

abbrev IsSomeWhole : ℤ → Type 0
IsSomeWhole n = n ≡ pos 0 → ⊥

abbrev IsAnyWhole : ℤ → Type 0
IsAnyWhole n = Unit {0}

keeps_some_whole : KeepsWhole IsSome IsSomeWhole
keeps_some_whole = record {
  scaled = λ q m p h some. scaled_some q.num m q.den p h (λ n. some (zero_from_num q n));
  quotient = λ n g h some. quotient_some n g h some;
}

keeps_any_whole : KeepsWhole IsAny IsAnyWhole
keeps_any_whole = record { scaled = λ q m p h some. tt; quotient = λ n g h some. tt }

-- ---- parts
-- a name at or after a place, of sort num, and a coefficient of a magnitude of at most 2^127 - 1 of which this is so
record IsWholePart (W : ℤ → Type 0) (sorts : List Sort) (from : ℕ) (p : Part) : Type 0 where
  rising : from ≤ p.name.0
  sort : slice_get sorts p.name.0 ≡ Some NumSort
  coef : W p.coef
  narrow : unsigned_abs p.coef < 2 ^ 127

unfoldable AreWhole : (ℤ → Type 0) → List Sort → ℕ → List Part → Type 0
AreWhole W sorts from [] = Unit {0}
AreWhole W sorts from (p ∷ ps) = IsWholePart W sorts from p × AreWhole W sorts (suc p.name.0) ps

module _ (P : ℚ → Type 0) (keeps : Keeps P) (W : ℤ → Type 0) (whole : KeepsWhole P W) (sorts : List Sort) where
  scaled_fit : (m : ℕ) (ss : List LinPart) (from : ℕ) (ps : List Part) → 0 < m → AreDivisors m ss → AreFit P sorts from ss → scaled_parts m ss ≡ Ok ps → AreWhole W sorts from ps
  unfolding AreDivisors AreFit AreWhole
  scaled_fit m [] from ps p divide all e = subst (AreWhole W sorts from) (ok_same [] ps e) tt
  scaled_fit m (s ∷ ss) from ps p divide all e =
      let one = came (scaled_number m s.coef) (λ n. behind (whole_copies s.name n ∷ []) (scaled_parts m ss)) ps e in
      let two = came (scaled_parts m ss) (λ us. Ok (whole_copies s.name one.value ∷ us)) ps one.rest in
      let gave = scaled_gave m s.coef one.value one.first in
      subst (AreWhole W sorts from) (ok_same (whole_copies s.name one.value ∷ two.value) ps two.rest) (
        record {
          rising = all.0.rising;
          sort = all.0.sort;
          coef = subst W (sym gave.value) (whole.scaled s.coef m p divide.0 all.0.coef);
          narrow = gave.narrow;
        },
        scaled_fit m ss (suc s.name.0) two.value p divide.1 all.1 two.first,
      )

  over_fit : (g : ℕ) (ps : List Part) (from : ℕ) → 0 < g → AreMultiples g ps → AreWhole W sorts from ps → AreWhole W sorts from (map (over g) ps)
  unfolding AreMultiples AreWhole
  over_fit g [] from p divide all = tt
  over_fit g (q ∷ qs) from p divide all = (
    record {
      rising = all.0.rising;
      sort = all.0.sort;
      coef = whole.quotient q.coef g divide.0 all.0.coef;
      narrow = quotient_small q.coef g (2 ^ 127) p divide.0 all.0.narrow;
    },
    over_fit g qs (suc q.name.0) p divide.1 all.1,
  )

  -- ---- rows
  record IsFitRow (w : Row) : Type 0 where
    parts : AreWhole W sorts 0 w.parts
    constant : unsigned_abs w.constant < 2 ^ 127

  scaled_row-fit : (m : ℕ) (f : Lin) (w : Row) → IsDenominator f m → AreFit P sorts 0 f.parts → scaled_row m f ≡ Ok w → IsFitRow w
  scaled_row-fit m f w is h e =
      let one = came (scaled_parts m f.parts) (λ ps. scaled_number m f.rest >>= λ c. Ok (row_with ps c)) w e in
      let two = came (scaled_number m f.rest) (λ c. Ok (row_with one.value c)) w one.rest in
      subst IsFitRow (ok_same (row_with one.value two.value) w two.rest) (record {
        parts = scaled_fit m f.parts 0 one.value is.some is.parts h one.first;
        constant = (scaled_gave m f.rest two.value two.first).narrow;
      })

  row_over-fit : (g : ℕ) (w : Row) → IsDivisor w g → IsFitRow w → IsFitRow (row_over g w)
  row_over-fit g w is h = record {
    parts = over_fit g w.parts 0 is.some is.parts h.parts;
    constant = quotient_small w.constant g (2 ^ 127) is.some is.constant h.constant;
  }

  row_fit : (f : Lin) (w : Row) → AreFit P sorts 0 f.parts → row_of f ≡ Ok w → IsFitRow w
  row_fit f w h e =
      let one = came (denominator_of f) (λ m. scaled_row m f >>= λ r. Ok (lowest_row r)) w e in
      let two = came (scaled_row one.value f) (λ r. Ok (lowest_row r)) w one.rest in
      subst IsFitRow (ok_same (lowest_row two.value) w two.rest) (row_over-fit (one_if_zero (row_divisor two.value)) two.value (lowest_divides two.value)
      (scaled_row-fit one.value f two.value (denominator_gave f one.value one.first) h two.first))

  -- ---- literals, of each of which this is so
  module _ (L : Lit → Type 0) (row_is : (r : Rel) (w : Row) → IsFitRow w → L (row_literal r w)) where
    compared_fit : (r : Rel) (l m : Lin) (lit : Lit) → AreFit P sorts 0 l.parts → AreFit P sorts 0 m.parts → compared r l m ≡ Ok lit → L lit
    compared_fit r l m lit p q e =
        let one = came (minus_lin l m) (λ f. row_of f >>= λ w. Ok (row_literal r w)) lit e in
        let two = came (row_of one.value) (λ w. Ok (row_literal r w)) lit one.rest in
        subst L (ok_same (row_literal r two.value) lit two.rest) (row_is r two.value (row_fit one.value two.value (minus_lin-fit P keeps sorts l m one.value p q one.first) two.first))

    one_fit : (r : Rel) (l m : Lin) (lits : List Lit) → AreFit P sorts 0 l.parts → AreFit P sorts 0 m.parts → one_literal r l m ≡ Ok lits → All L lits
    one_fit r l m lits p q e =
        let one = came (compared r l m) (λ x. Ok (x ∷ [])) lits e in
        subst (All L) (ok_same (one.value ∷ []) lits one.rest) (All-cons L one.value [] (compared_fit r l m one.value p q one.first) (All-nil L))

    apart_fit : (l m : Lin) (lits : List Lit) → AreFit P sorts 0 l.parts → AreFit P sorts 0 m.parts → apart_literals l m ≡ Ok lits → All L lits
    apart_fit l m lits p q e =
        let one = came (compared rel.Lt l m) (λ x. compared rel.Lt m l >>= λ y. Ok (x ∷ y ∷ [])) lits e in
        let two = came (compared rel.Lt m l) (λ y. Ok (one.value ∷ y ∷ [])) lits one.rest in
        subst (All L) (ok_same (one.value ∷ two.value ∷ []) lits two.rest) (All-cons L one.value (two.value ∷ []) (compared_fit rel.Lt l m one.value p q one.first)
        (All-cons L two.value [] (compared_fit rel.Lt m l two.value q p two.first) (All-nil L)))

    literals_fit : (cmp : Cmp) (l m : Lin) (lits : List Lit) → AreFit P sorts 0 l.parts → AreFit P sorts 0 m.parts → lin_literals cmp l m ≡ Ok lits → All L lits
    literals_fit Le l m lits p q e = one_fit rel.Le l m lits p q e
    literals_fit Lt l m lits p q e = one_fit rel.Lt l m lits p q e
    literals_fit Eq l m lits p q e = one_fit rel.Eq l m lits p q e
    literals_fit Ne l m lits p q e = apart_fit l m lits p q e
    literals_fit Ge l m lits p q e = one_fit rel.Le m l lits q p e
    literals_fit Gt l m lits p q e = one_fit rel.Lt m l lits q p e

-- ---- what is so of literals
rising_parts : (W : ℤ → Type 0) (sorts : List Sort) (from : ℕ) (ps : List Part) → AreWhole W sorts from ps → IsStrictlyIncreasing (part_names ps)
unfolding AreWhole
rising_parts W sorts from [] h k l = absurd (omega arith)
rising_parts W sorts from (p ∷ []) h k l = absurd (omega arith)
rising_parts W sorts from (p ∷ q ∷ qs) h zero l = h.1.0.rising
rising_parts W sorts from (p ∷ q ∷ qs) h (suc k) l =
    let e : suc (k + 1) ≡ suc k + 1 = omega arith in
    subst (λ j. slice_index (part_names (q ∷ qs)) k < slice_index (part_names (p ∷ q ∷ qs)) j) e (rising_parts W sorts (suc p.name.0) (q ∷ qs) h.1 k (omega arith))

-- what is so of each part by itself
parts_all : (W : ℤ → Type 0) (sorts : List Sort) (Q : Part → Type 0) → ((from : ℕ) (p : Part) → IsWholePart W sorts from p → Q p) → (from : ℕ) (ps : List Part) → AreWhole W sorts from ps → All Q ps
unfolding AreWhole
parts_all W sorts Q each from [] h = All-nil Q
parts_all W sorts Q each from (p ∷ ps) h = All-cons Q p ps (each from p h.0) (parts_all W sorts Q each (suc p.name.0) ps h.1)

row_is_fit : (sorts : List Sort) (r : Rel) (w : Row) → IsFitRow IsAny keeps_any IsAnyWhole keeps_any_whole sorts w → IsFit sorts (row_literal r w)
row_is_fit sorts r w h =
    let n = w.constant in
    record {
      fit = record {
        rising = rising_parts IsAnyWhole sorts 0 w.parts h.parts;
        narrow = parts_all IsAnyWhole sorts (λ p. unsigned_abs p.coef < 2 ^ 127) (λ from p is. is.narrow) 0 w.parts h.parts;
        bound = let b = h.constant in omega (arith, abs-magnitude n, abs-magnitude (neg_ℤ n), magnitude-neg_ℤ n);
      };
      names = parts_all IsAnyWhole sorts (λ p. slice_get sorts p.name.0 ≡ Some NumSort) (λ from p is. is.sort) 0 w.parts h.parts;
    }

row_has_no_zeros : (sorts : List Sort) (r : Rel) (w : Row) → IsFitRow IsSome keeps_some IsSomeWhole keeps_some_whole sorts w → LitHasNoZeros (row_literal r w)
row_has_no_zeros sorts r w h = parts_all IsSomeWhole sorts (λ p. p.coef ≡ pos 0 → ⊥) (λ from p is. is.coef) 0 w.parts h.parts

pub lin_literals_are_fit : LinLiteralsAreFit
lin_literals_are_fit sorts cmp left right lits p q e =
    literals_fit IsAny keeps_any IsAnyWhole keeps_any_whole sorts (IsFit sorts) (row_is_fit sorts) cmp left right lits (lin_in sorts left p) (lin_in sorts right q) e

-- ---- atoms
pub literals_are_fit : LiteralsAreFit
literals_are_fit words sorts positive atom lits sorted e =
    let sides = num_sides (scope_over words sorts) atom sorted in
    let cmp = signed positive atom.cmp in
    let one = came (lin_of words atom.left) (λ l. lin_of words atom.right >>= λ r. lin_literals cmp l r) lits e in
    let two = came (lin_of words atom.right) (λ r. lin_literals cmp one.value r) lits one.rest in (
      literals_fit IsAny keeps_any IsAnyWhole keeps_any_whole sorts (IsFit sorts) (row_is_fit sorts) cmp one.value two.value lits
          (term_fit IsAny keeps_any sorts words atom.left sides.0 one.value one.first) (term_fit IsAny keeps_any sorts words atom.right sides.1 two.value two.first) two.rest,
      literals_fit IsSome keeps_some IsSomeWhole keeps_some_whole sorts LitHasNoZeros (row_has_no_zeros sorts) cmp one.value two.value lits
          (term_fit IsSome keeps_some sorts words atom.left sides.0 one.value one.first) (term_fit IsSome keeps_some sorts words atom.right sides.1 two.value two.first) two.rest,
    )
