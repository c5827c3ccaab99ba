-- Terms with equal keys are equal: what a key begins with says how far it goes.
use Rattle.std.proofs.Common.{◌≡◌, ℕ, ℤ, pos, List, [], ◌∷◌, ◌++◌, length, map, refl, sym, ap, ◌∙◌, arith, append_assoc}
use Rattle.hp_math.specs.Rational.{ℚ, ratio}
use Rattle.hp_math.proofs.Rational.{ratio-parts}
use Rattle.hp_tree.specs.declared.term.Term.{Term, fold-roll-Term, map-Term, roll-Term}
use Rattle.hp_tree.specs.declared.term.Term.TheOpen.{Term-F}
use Rattle.hp_tree.specs.Value.{Word}
use Rattle.hp_index.proofs.Layers.{Parts, bare, by_layers}
use Rattle.hp_norm.specs.TermKeys.{key_step, list_key, number_key, term_key, word_key}

-- ---- lists
first_number : (m n : ℕ) (xs ys : List ℤ) → pos m ∷ xs ≡ pos n ∷ ys → m ≡ n
first_number m n xs ys e = cc

others : (a b : ℤ) (xs ys : List ℤ) → a ∷ xs ≡ b ∷ ys → xs ≡ ys
others a b xs ys e = cc

apart : (m n : ℕ) (xs ys : List ℤ) → (m ≡ n → ⊥) → pos m ∷ xs ≡ pos n ∷ ys → ⊥
apart m n xs ys h e = h (first_number m n xs ys e)

-- the same behind two lists
regrouped : (a b x c d y : List ℤ) → (a ++ b) ++ x ≡ (c ++ d) ++ y → a ++ (b ++ x) ≡ c ++ (d ++ y)
regrouped a b x c d y e = sym (append_assoc a b x) ∙ e ∙ append_assoc c d y

-- ---- words and numbers
bytes_first : (v w : Word) (x y : List ℤ) → length v ≡ length w → map pos v ++ x ≡ map pos w ++ y → (v ≡ w) × (x ≡ y)
bytes_first [] [] x y l e = (refl, e)
bytes_first [] (b ∷ w) x y l e = absurd (omega arith)
bytes_first (a ∷ v) [] x y l e = absurd (omega arith)
bytes_first (a ∷ v) (b ∷ w) x y l e =
    let rest = bytes_first v w x y (omega arith) (others (pos a) (pos b) (map pos v ++ x) (map pos w ++ y) e) in
    let first = first_number a b (map pos v ++ x) (map pos w ++ y) e in
    (λ i. first i ∷ rest.0 i, rest.1)

word_first : (v w : Word) (x y : List ℤ) → word_key v ++ x ≡ word_key w ++ y → (v ≡ w) × (x ≡ y)
word_first v w x y e =
    bytes_first v w x y (first_number (length v) (length w) (map pos v ++ x) (map pos w ++ y) e)
    (others (pos (length v)) (pos (length w)) (map pos v ++ x) (map pos w ++ y) e)

number_first : (q r : ℚ) (x y : List ℤ) → number_key q ++ x ≡ number_key r ++ y → (q ≡ r) × (x ≡ y)
number_first q r x y e =
    let top : q.num ≡ r.num = cc in
    let rest = others q.num r.num (pos q.den ∷ x) (pos r.den ∷ y) e in
    let below = first_number q.den r.den x y rest in
    (sym (ratio-parts q) ∙ (λ i. ratio (top i) (below i)) ∙ ratio-parts r, others (pos q.den) (pos r.den) x y rest)

-- ---- terms
-- a term is what a list begins with that begins with its key
abbrev IsFirst : Term → Type 0
IsFirst s = (t : Term) (x y : List ℤ) → term_key s ++ x ≡ term_key t ++ y → (s ≡ t) × (x ≡ y)

abbrev trees : List (Parts IsFirst) → List Term
trees args = map (λ (e : Parts IsFirst). e.0) args

all_first : (args : List (Parts IsFirst)) (terms : List Term) (x y : List ℤ) → list_key (map term_key (trees args)) ++ x ≡ list_key (map term_key terms) ++ y → (trees args ≡ terms) × (x ≡ y)
all_first [] [] x y e = (refl, others (pos 0) (pos 0) x y e)
all_first [] (term ∷ terms) x y e = absurd (apart 0 1 x ((term_key term ++ list_key (map term_key terms)) ++ y) (λ h. omega arith) e)
all_first (arg ∷ args) [] x y e = absurd (apart 1 0 ((term_key arg.0 ++ list_key (map term_key (trees args))) ++ x) y (λ h. omega arith) e)
all_first (arg ∷ args) (term ∷ terms) x y e =
    let left = list_key (map term_key (trees args)) in
    let right = list_key (map term_key terms) in
    let tail = others (pos 1) (pos 1) ((term_key arg.0 ++ left) ++ x) ((term_key term ++ right) ++ y) e in
    let one = arg.1 term (left ++ x) (right ++ y) (regrouped (term_key arg.0) left x (term_key term) right y tail) in
    let rest = all_first args terms x y one.1 in
    (λ i. one.0 i ∷ rest.0 i, rest.1)

abbrev layer_key : Term-F Term → List ℤ
layer_key z = key_step (map-Term Term (List ℤ) term_key z)

-- two parts
two_first : (a b : Parts IsFirst) (s t : Term) (x y : List ℤ) → (term_key a.0 ++ term_key b.0) ++ x ≡ (term_key s ++ term_key t) ++ y → ((a.0 ≡ s) × (b.0 ≡ t)) × (x ≡ y)
two_first a b s t x y e =
    let one = a.1 s (term_key b.0 ++ x) (term_key t ++ y) (regrouped (term_key a.0) (term_key b.0) x (term_key s) (term_key t) y e) in
    let other = b.1 t x y one.1 in
    ((one.0, other.0), other.1)

layer_first : (z : Term-F (Parts IsFirst)) (w : Term-F Term) (x y : List ℤ) → layer_key (bare IsFirst z) ++ x ≡ layer_key w ++ y → (bare IsFirst z ≡ w) × (x ≡ y)
layer_first (Term-F.Number q) (Term-F.Number r) x y e =
    let h = number_first q r x y (others (pos 0) (pos 0) (number_key q ++ x) (number_key r ++ y) e) in (ap Term-F.Number h.0, h.1)
layer_first Term-F.Null Term-F.Null x y e = (refl, others (pos 1) (pos 1) x y e)
layer_first (Term-F.Name word) (Term-F.Name other) x y e =
    let h = word_first word other x y (others (pos 2) (pos 2) (word_key word ++ x) (word_key other ++ y) e) in (ap Term-F.Name h.0, h.1)
layer_first (Term-F.Apply func args) (Term-F.Apply other terms) x y e =
    let left = list_key (map term_key (trees args)) in
    let right = list_key (map term_key terms) in
    let tail = others (pos 3) (pos 3) ((word_key func ++ left) ++ x) ((word_key other ++ right) ++ y) e in
    let one = word_first func other (left ++ x) (right ++ y) (regrouped (word_key func) left x (word_key other) right y tail) in
    let rest = all_first args terms x y one.1 in
    (λ i. Term-F.Apply (one.0 i) (rest.0 i), rest.1)
layer_first (Term-F.Add a b) (Term-F.Add s t) x y e =
    let h = two_first a b s t x y (others (pos 4) (pos 4) ((term_key a.0 ++ term_key b.0) ++ x) ((term_key s ++ term_key t) ++ y) e) in (λ i. Term-F.Add (h.0.0 i) (h.0.1 i), h.1)
layer_first (Term-F.Sub a b) (Term-F.Sub s t) x y e =
    let h = two_first a b s t x y (others (pos 5) (pos 5) ((term_key a.0 ++ term_key b.0) ++ x) ((term_key s ++ term_key t) ++ y) e) in (λ i. Term-F.Sub (h.0.0 i) (h.0.1 i), h.1)
layer_first (Term-F.Neg a) (Term-F.Neg s) x y e =
    let h = a.1 s x y (others (pos 6) (pos 6) (term_key a.0 ++ x) (term_key s ++ y) e) in (ap Term-F.Neg h.0, h.1)
layer_first (Term-F.Scale q a) (Term-F.Scale r s) x y e =
    let tail = others (pos 7) (pos 7) ((number_key q ++ term_key a.0) ++ x) ((number_key r ++ term_key s) ++ y) e in
    let one = number_first q r (term_key a.0 ++ x) (term_key s ++ y) (regrouped (number_key q) (term_key a.0) x (number_key r) (term_key s) y tail) in
    let rest = a.1 s x y one.1 in
    (λ i. Term-F.Scale (one.0 i) (rest.0 i), rest.1)
layer_first _ _ x y e = absurd (apart _ _ _ _ (λ h. omega arith) e)

layered : (z : Term-F Term) → term_key (roll-Term z) ≡ layer_key z
layered z = fold-roll-Term (List ℤ) key_step z

is_first : (s : Term) → IsFirst s
is_first s = by_layers IsFirst (λ z t.
    by_layers (λ (u : Term). (x y : List ℤ) → term_key (roll-Term (bare IsFirst z)) ++ x ≡ term_key u ++ y → (roll-Term (bare IsFirst z) ≡ u) × (x ≡ y))
    (λ w x y e.
    let h = layer_first z (bare _ w) x y (ap (λ (k : List ℤ). k ++ x) (sym (layered (bare IsFirst z))) ∙ e ∙ ap (λ (k : List ℤ). k ++ y) (layered (bare _ w))) in
    (ap roll-Term h.0, h.1)) t) s

pub keys_inject : (s t : Term) → term_key s ≡ term_key t → s ≡ t
keys_inject s t e = (is_first s t [] [] (ap (λ (k : List ℤ). k ++ []) e)).0
