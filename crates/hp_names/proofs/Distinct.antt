-- Distinct names: with one more that is not among them, and where one is repeated.
use Rattle.std.proofs.Common.{◌≡◌, ℕ, zero, suc, List, [], ◌∷◌, ◌++◌, ◌||◌, Bool, true, false, Option, Some, None, refl, sym, ap, subst, ◌∙◌}
use Rattle.std.specs.Prelude.{slice_get}
use Rattle.std.specs.Str.{bytes_eq}
use Rattle.std.proofs.lemmas.Bool.{or_parts}
use Rattle.std.proofs.lemmas.List.Folds.{list_any-append}
use Rattle.hp_names.specs.Names.{Added, AreDistinct, Name, is_among}
use Rattle.hp_names.proofs.Texts.{apart_back}

neither : (a b : Bool) → a ≡ false → b ≡ false → (a || (b || false)) ≡ false
neither a b e f = λ i. e i || (f i || false)

pub distinct_more : (names : List Name) (name : Name) → AreDistinct names → is_among name names ≡ false → AreDistinct (names ++ name ∷ [])
distinct_more [] name d e = (refl, tt)
distinct_more (first ∷ names) name d e =
    let parts = or_parts (bytes_eq name first) (is_among name names) e in
    (list_any-append (bytes_eq first) names (name ∷ []) ∙ neither (is_among first names) (bytes_eq first name) d.0 (apart_back name first parts.0), distinct_more names name d.1 parts.1)

-- names stay distinct when one is added
pub distinct_added : (old : List Name) (name : Name) (new : List Name) (b : Bool) → Added old name new b → AreDistinct old → AreDistinct new
distinct_added old name new true h d = subst AreDistinct (sym h.1) (distinct_more old name d h.0)
distinct_added old name new false h d = subst AreDistinct (sym h.1) d

-- a name that is not among others differs from each of them
pub absent : (name : Name) (names : List Name) (k : ℕ) (other : Name) → is_among name names ≡ false → slice_get names k ≡ Some other → bytes_eq name other ≡ false
absent name [] k other e h = absurd (cc)
absent name (first ∷ names) zero other e h =
    let same : first ≡ other = ap (λ (o : Option Name). elim o [ None ↦ first | Some n ↦ n ]) h in
    subst (λ (n : Name). bytes_eq name n ≡ false) same (or_parts (bytes_eq name first) (is_among name names) e).0
absent name (first ∷ names) (suc k) other e h = absent name names k other (or_parts (bytes_eq name first) (is_among name names) e).1 h
