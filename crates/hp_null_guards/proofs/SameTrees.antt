-- The test of terms tells equal trees.
use Rattle.std.proofs.Common.{◌≡◌, Bool, true, List, [], ◌∷◌, map, refl, sym, ap, ◌∙◌, true≢false}
use Rattle.std.specs.Str.{bytes_eq}
use Rattle.std.proofs.lemmas.Bool.{and_parts}
use Rattle.hp_math.specs.Rational.{eq_ℚ}
use Rattle.hp_math.proofs.Laws.{tests_decide}
use Rattle.hp_names.proofs.Texts.{same_text}
use Rattle.hp_tree.specs.declared.term.Term.{Term, fold-roll-Term, map-Term, out-roll-Term, roll-Term}
use Rattle.hp_tree.specs.declared.term.Term.TheOpen.{Term-F}
use Rattle.hp_index.proofs.Layers.{Parts, bare, by_layers}
use Rattle.hp_norm.specs.Trees.{all_same, same_layer, same_step, same_term}

-- one layer of a term is tested against another one
layers_tested : (z w : Term-F Term) → same_term (roll-Term z) (roll-Term w) ≡ same_layer (map-Term Term (Term → Bool) same_term z) w
layers_tested z w =
    (λ i. fold-roll-Term (Term → Bool) same_step z i (roll-Term w))
    ∙ ap (same_layer (map-Term Term (Term → Bool) same_term z)) (out-roll-Term w)

-- ---- same terms are equal
abbrev pub Means : Term → Type 0
Means s = (t : Term) → same_term s t ≡ true → s ≡ t

abbrev trees : List (Parts Means) → List Term
trees args = map (λ (e : Parts Means). e.0) args

all_mean : (args : List (Parts Means)) (terms : List Term) → all_same (map same_term (trees args)) terms ≡ true → trees args ≡ terms
all_mean [] [] h = refl
all_mean [] (term ∷ terms) h = absurd (true≢false (sym h))
all_mean (arg ∷ args) [] h = absurd (true≢false (sym h))
all_mean (arg ∷ args) (term ∷ terms) h =
    let both = and_parts (same_term arg.0 term) (all_same (map same_term (trees args)) terms) h in
    λ i. arg.1 term both.0 i ∷ all_mean args terms both.1 i

layer_means : (y : Term-F (Parts Means)) (w : Term-F Term) → same_layer (map-Term Term (Term → Bool) same_term (bare Means y)) w ≡ true → bare Means y ≡ w
layer_means (Term-F.Number q) (Term-F.Number r) h = ap Term-F.Number ((tests_decide.eq q r).0 h)
layer_means Term-F.Null Term-F.Null h = refl
layer_means (Term-F.Name word) (Term-F.Name other) h = ap Term-F.Name (same_text word other h)
layer_means (Term-F.Apply func args) (Term-F.Apply other terms) h =
    let both = and_parts (bytes_eq func other) (all_same (map same_term (trees args)) terms) h in
    λ i. Term-F.Apply (same_text func other both.0 i) (all_mean args terms both.1 i)
layer_means (Term-F.Add a b) (Term-F.Add s t) h =
    let both = and_parts (same_term a.0 s) (same_term b.0 t) h in λ i. Term-F.Add (a.1 s both.0 i) (b.1 t both.1 i)
layer_means (Term-F.Sub a b) (Term-F.Sub s t) h =
    let both = and_parts (same_term a.0 s) (same_term b.0 t) h in λ i. Term-F.Sub (a.1 s both.0 i) (b.1 t both.1 i)
layer_means (Term-F.Neg a) (Term-F.Neg s) h = ap Term-F.Neg (a.1 s h)
layer_means (Term-F.Scale q a) (Term-F.Scale r s) h =
    let both = and_parts (eq_ℚ q r) (same_term a.0 s) h in λ i. Term-F.Scale ((tests_decide.eq q r).0 both.0 i) (a.1 s both.1 i)
layer_means _ _ h = absurd (true≢false (sym h))

pub means : (s : Term) → Means s
means s = by_layers Means (λ y t.
    by_layers (λ (u : Term). same_term (roll-Term (bare Means y)) u ≡ true → roll-Term (bare Means y) ≡ u)
    (λ w h. ap roll-Term (layer_means y (bare _ w) (sym (layers_tested (bare Means y) (bare _ w)) ∙ h))) t) s
