-- A valid leaf of multipliers is a combination of rows that adds to nothing below 0, so it stands over no true literals.
use Rattle.std.proofs.Common.{◌≡◌, ℕ, ◌⊎◌, inl, inr, ℤ, pos, ◌+ℤ◌, ◌*ℤ◌, ◌<ℤ◌, refl, sym, ◌∙◌, ap, subst, List, [], ◌∷◌, nat_eq, cond}
use Rattle.std.specs.List.{All}
use Rattle.hp_math.specs.Rational.{ℚ, whole, ◌+ℚ◌, ◌*ℚ◌}
use Rattle.hp_math.specs.Combination.{Relation, AtMost, Below, Equals, Parts, Row, Multiple, RowIsTrue, AreTrue}
use Rattle.hp_math.specs.Combination as rows
use Rattle.hp_math.proofs.Combination.{no_combination}
use Rattle.hp_lit.specs.declared.literal.Rel.{Rel}
use Rattle.hp_lit.specs.declared.literal.Rel.TheVariants.{Le, Lt, Eq}
use Rattle.hp_lit.specs.declared.literal.Part.{Part}
use Rattle.hp_lit.specs.declared.literal.NumLit.{NumLit}
use Rattle.hp_lit.specs.declared.literal.Lit.{Lit}
use Rattle.hp_lit.specs.declared.literal.Lit.TheVariants.{Num}
use Rattle.hp_lit.specs.declared.proof.Share.{Share}
use Rattle.hp_lit.specs.Truth.{Values, name_value, parts_value, Compares, NumIsTrue, IsTrueAt}
use Rattle.hp_lit.specs.Leaf.{coefficient, Taken, AreTaken, sum_coefficient, sum_bound, HasStrict, NoNumLeaf}
use Rattle.hp_lit.proofs.Paths.{lit_true}

-- ---- a literal as a row
abbrev relation_of : Rel → Relation
relation_of Le = AtMost
relation_of Lt = Below
relation_of Eq = Equals

abbrev pairs : List Part → Parts
pairs [] = []
pairs (p ∷ ps) = (p.name.0, p.coef) ∷ pairs ps

abbrev row_of : NumLit → Row
row_of l = record { parts = pairs l.parts; relation = relation_of l.rel; bound = l.bound }

sign_of : (t : ℤ) (r : Rel) → (pos 0 <ℤ t) ⊎ (r ≡ Eq) → (pos 0 <ℤ t) ⊎ (relation_of r ≡ Equals)
sign_of t r (inl p) = inl p
sign_of t r (inr e) = inr (ap relation_of e)

abbrev multiples : List Taken → List Multiple
multiples [] = []
multiples (t ∷ ts) = record { row = row_of t.lit; times = t.times; sign = sign_of t.times t.lit.rel t.sign } ∷ multiples ts

-- ---- the sums are the same
same_coefficient : (n : ℕ) (ps : List Part) → rows.coefficient n (pairs ps) ≡ coefficient n ps
same_coefficient n [] = refl
same_coefficient n (p ∷ ps) = λ i. cond (nat_eq p.name.0 n) p.coef (pos 0) +ℤ same_coefficient n ps i

same_sum : (n : ℕ) (ts : List Taken) → rows.sum_coefficient n (multiples ts) ≡ sum_coefficient n ts
same_sum n [] = refl
same_sum n (t ∷ ts) = λ i. (t.times *ℤ same_coefficient n t.lit.parts i) +ℤ same_sum n ts i

same_bound : (ts : List Taken) → rows.sum_bound (multiples ts) ≡ sum_bound ts
same_bound [] = refl
same_bound (t ∷ ts) = λ i. (t.times *ℤ t.lit.bound) +ℤ same_bound ts i

same_strict : (ts : List Taken) → HasStrict ts → rows.HasStrict (multiples ts)
same_strict [] h = h
same_strict (t ∷ ts) (inl e) = inl (ap relation_of e)
same_strict (t ∷ ts) (inr h) = inr (same_strict ts h)

-- ---- and so is truth
same_value : (v : Values) (ps : List Part) → parts_value v ps ≡ rows.parts_value (name_value v) (pairs ps)
same_value v [] = refl
same_value v (p ∷ ps) = λ i. whole p.coef *ℚ name_value v p.name.0 +ℚ same_value v ps i

compares : (r : Rel) (a b : ℚ) → Compares r a b → rows.Compares (relation_of r) a b
compares Le a b h = h
compares Lt a b h = h
compares Eq a b h = h

row_true : (v : Values) (l : NumLit) → NumIsTrue v l → RowIsTrue (name_value v) (row_of l)
row_true v l h = compares l.rel _ _ (subst (λ x. Compares l.rel x (whole l.bound)) (same_value v l.parts) h)

all_true : (path : List Lit) (shares : List Share) (ts : List Taken) → AreTaken path shares ts → (v : Values) → All (IsTrueAt v) path → AreTrue (name_value v) (multiples ts)
all_true path [] [] g v all = tt
all_true path [] (t ∷ ts) g v all = absurd g
all_true path (s ∷ ss) [] g v all = absurd g
all_true path (s ∷ ss) (t ∷ ts) g v all = (row_true v t.lit (lit_true v path s.lit (Num t.lit) g.0.0 all), all_true path ss ts g.1 v all)

pub no_num_leaf : NoNumLeaf
no_num_leaf path shares valid v all =
    let ts = valid.taken in
    let bound = elim valid.bound as (λ b. (rows.sum_bound (multiples ts) <ℤ pos 0) ⊎ ((rows.sum_bound (multiples ts) ≡ pos 0) × rows.HasStrict (multiples ts))) [
      | inl below ↦ inl (subst (λ z. z <ℤ pos 0) (sym (same_bound ts)) below)
      | inr both ↦ inr (same_bound ts ∙ both.0, same_strict ts both.1)
    ] in
    no_combination (multiples ts) (record { nothing = λ n. same_sum n ts ∙ valid.nothing n; bound = bound }) (name_value v) (all_true path shares ts valid.are_taken v all)
