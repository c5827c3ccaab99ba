-- A further point is kept where none has its arguments, and the points of applications one by one.
use Rattle.std.proofs.Common.{◌≡◌, ℕ, zero, suc, ◌+◌, ◌<◌, ◌≤◌, List, [], ◌∷◌, ◌++◌, true, map, length, take, get_or, pos, Some, None, slice_get, refl, sym, ap, subst, ◌∙◌, append_assoc, add-one, arith, if◌then◌else◌}
use Rattle.std.specs.Bool.{Decides}
use Rattle.std.proofs.lemmas.Bool.{or_left, or_right}
use Rattle.std.proofs.lemmas.List.{map-append, take_all}
use Rattle.hp_math.specs.Rational.{ℚ}
use Rattle.hp_math.proofs.Rational.{ℚ-ext}
use Rattle.hp_lit.specs.Truth.{Values}
use Rattle.hp_lit.specs.declared.line.Def.{Def}
use Rattle.hp_defs.specs.First.{IsFirst}
use Rattle.hp_defs.proofs.First.{no_test}
use Rattle.hp_model.specs.declared.structure.Row.{Row}
use Rattle.hp_base.specs.Congruence.{point_of}
use Rattle.hp_base.proofs.Places.{got}
use Rattle.hp_tree.specs.Value.{Word}
use Rattle.hp_local.specs.Frame.{Fact, same_values}
use Rattle.hp_local.specs.Rows.{first_facts, has_arguments, point_row, point_rows}
use Rattle.hp_local.proofs.Rows.{facts_are_added_once}
use Rattle.hp_local.proofs.Points.{same_values-Decides}
use Rattle.hp_tables.specs.declared.index.Coordinate.{Coordinate}
use Rattle.hp_tables.specs.Kept.{AreKept, coordinate, fact_coordinates}
use Rattle.hp_class.specs.Frame.{fact_of}
use Rattle.hp_class.specs.Places.{point_at, points_at}

-- ---- values by their parts
one_value : (x y : ℚ) → coordinate x ≡ coordinate y → x ≡ y
one_value x y e =
    let den : pos x.den ≡ pos y.den = ap (λ (p : Coordinate). p.den) e in
    ℚ-ext x y (ap (λ (p : Coordinate). p.num) e) (cc)

head_same : (x y : Coordinate) (xs ys : List Coordinate) → (x ∷ xs) ≡ (y ∷ ys) → x ≡ y
head_same x y xs ys e = cc

tail_same : (x y : Coordinate) (xs ys : List Coordinate) → (x ∷ xs) ≡ (y ∷ ys) → xs ≡ ys
tail_same x y xs ys e = cc

one_list : (xs ys : List ℚ) → map coordinate xs ≡ map coordinate ys → xs ≡ ys
one_list [] [] e = refl
one_list [] (y ∷ ys) e = absurd (cc)
one_list (x ∷ xs) [] e = absurd (cc)
one_list (x ∷ xs) (y ∷ ys) e =
    let h = one_value x y (head_same (coordinate x) (coordinate y) (map coordinate xs) (map coordinate ys) e) in
    let t = one_list xs ys (tail_same (coordinate x) (coordinate y) (map coordinate xs) (map coordinate ys) e) in
    (λ j. h j ∷ t j)

tells : (k l : Fact) → Decides (same_values k.args l.args) (fact_coordinates k ≡ fact_coordinates l)
tells k l =
    let d = same_values-Decides k.args l.args in
    (λ t. ap (λ xs. map coordinate xs) (d.0 t), λ e. d.1 (one_list k.args l.args e))

-- ---- points
there : (k : Fact) (facts : List Fact) (j : ℕ) → slice_get (map fact_coordinates facts) j ≡ Some (fact_coordinates k) → has_arguments k.args facts ≡ true
there k [] j h = absurd (cc)
there k (l ∷ facts) zero h =
    let e : fact_coordinates l ≡ fact_coordinates k = cc in
    or_left (same_values k.args l.args) (has_arguments k.args facts) ((tells k l).1 (sym e))
there k (l ∷ facts) (suc j) h = or_right (same_values k.args l.args) (has_arguments k.args facts) (there k facts j h)

pub kept_none : (index : List (List Coordinate)) (rows : List Row) → index ≡ [] → rows ≡ [] → AreKept [] index rows
kept_none index rows e d = record { index_is = e; rows_are = d }

pub kept_found : (facts : List Fact) (index : List (List Coordinate)) (rows : List Row) (k : Fact) (j : ℕ)
    → AreKept facts index rows → IsFirst (fact_coordinates k) index (Some j) → AreKept (facts ++ k ∷ []) index rows
kept_found facts index rows k j a f =
    let firsts = first_facts facts in
    let has = there k firsts j (ap (λ xs. slice_get xs j) (sym a.index_is) ∙ f.0) in
    let same : first_facts (facts ++ k ∷ []) ≡ firsts = facts_are_added_once facts k ∙ ap (λ b. if b then firsts else firsts ++ k ∷ []) has in
    record {
      index_is = a.index_is ∙ ap (λ fs. map fact_coordinates fs) (sym same);
      rows_are = a.rows_are ∙ ap (λ fs. map point_row fs) (sym same);
    }

pub kept_added : (facts : List Fact) (index more : List (List Coordinate)) (rows longer : List Row) (k : Fact)
    → AreKept facts index rows → IsFirst (fact_coordinates k) index None → more ≡ index ++ fact_coordinates k ∷ [] → longer ≡ rows ++ point_row k ∷ []
    → AreKept (facts ++ k ∷ []) more longer
kept_added facts index more rows longer k a f e d =
    let firsts = first_facts facts in
    let nowhere = subst (λ xs. IsFirst (fact_coordinates k) xs None) a.index_is f in
    let none = no_test (fact_coordinates k) fact_coordinates (λ l. same_values k.args l.args) (tells k) firsts nowhere in
    let same : first_facts (facts ++ k ∷ []) ≡ firsts ++ k ∷ [] = facts_are_added_once facts k ∙ ap (λ b. if b then firsts else firsts ++ k ∷ []) none in
    record {
      index_is = e ∙ ap (λ xs. xs ++ fact_coordinates k ∷ []) a.index_is ∙ sym (map-append fact_coordinates firsts (k ∷ [])) ∙ ap (λ fs. map fact_coordinates fs) (sym same);
      rows_are = d ∙ ap (λ xs. xs ++ point_row k ∷ []) a.rows_are ∙ sym (map-append point_row firsts (k ∷ [])) ∙ ap (λ fs. map point_row fs) (sym same);
    }

pub with_row : {A : Type 0} (xs : List A) (x y : A) → x ≡ y → xs ++ x ∷ [] ≡ xs ++ y ∷ []
with_row xs x y e = ap (λ z. xs ++ z ∷ []) e

-- ---- lists
take_next : {A : Type 0} (xs : List A) (i : ℕ) (x d : A) → i < length xs → x ≡ get_or xs i d → take (suc i) xs ≡ take i xs ++ x ∷ []
take_next [] i x d h e = absurd (omega arith)
take_next (y ∷ xs) zero x d h e = ap (λ z. z ∷ []) (sym e)
take_next (y ∷ xs) (suc i) x d h e = ap (λ zs. y ∷ zs) (take_next xs i x d (omega arith) e)

-- ---- applications at places
points_both : (ds : List Def) (ks ls : List ℕ) → points_at ds (ks ++ ls) ≡ points_at ds ks ++ points_at ds ls
points_both ds [] ls = refl
points_both ds (k ∷ ks) ls = ap (λ ps. point_at (slice_get ds k) ++ ps) (points_both ds ks ls) ∙ sym (append_assoc (point_at (slice_get ds k)) (points_at ds ks) (points_at ds ls))

pub facts_next : (word : Word) (v : Values) (ds : List Def) (ks : List ℕ) (i k : ℕ) (d : Def) → i < length ks → k ≡ get_or ks i 0 → k < length ds → d ≡ get_or ds k d
    → map (fact_of word v) (points_at ds (take (i + 1) ks)) ≡ map (fact_of word v) (points_at ds (take i ks)) ++ fact_of word v (point_of d) ∷ []
facts_next word v ds ks i k d h e l g =
    let one : points_at ds (k ∷ []) ≡ point_of d ∷ [] = ap (λ o. point_at o ++ []) (got ds k d l g) in
    ap (λ n. map (fact_of word v) (points_at ds (take n ks))) (add-one i)
    ∙ ap (λ ls. map (fact_of word v) (points_at ds ls)) (take_next ks i k 0 h e)
    ∙ ap (λ ps. map (fact_of word v) ps) (points_both ds (take i ks) (k ∷ []) ∙ ap (λ ps. points_at ds (take i ks) ++ ps) one)
    ∙ map-append (fact_of word v) (points_at ds (take i ks)) (point_of d ∷ [])

pub kept_end : (word : Word) (v : Values) (ds : List Def) (ks : List ℕ) (i : ℕ) (index : List (List Coordinate)) (rows : List Row) → length ks ≤ i
    → AreKept (map (fact_of word v) (points_at ds (take i ks))) index rows → rows ≡ point_rows (map (fact_of word v) (points_at ds ks))
kept_end word v ds ks i index rows h a = a.rows_are ∙ ap (λ ls. point_rows (map (fact_of word v) (points_at ds ls))) (take_all i ks h)
