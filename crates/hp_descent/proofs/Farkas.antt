-- A combination of the literals' rows is a combination of the literals: at the names the left sides add to nothing, at t
-- the bounds add to at most 0, and a strict literal is taken where they add to 0.
use Rattle.std.proofs.Common.{◌≡◌, ℕ, zero, suc, ◌+◌, ◌-◌, ◌^◌, ◌<◌, ◌≤◌, ◌⊎◌, inl, inr, ℤ, pos, negsuc, neg_ℤ, ◌+ℤ◌, ◌-ℤ◌, ◌*ℤ◌, ◌≤ℤ◌, ◌<ℤ◌, refl, sym, ◌∙◌, ap, subst, arith, List, [], ◌∷◌, ◌++◌, length, get_or, map, drop, Some, true, false, cond, nat_eq, append_assoc, length-append, unsigned_abs}
use Rattle.std.specs.Prelude.{slice_get}
use Rattle.std.specs.List.{All}
use Rattle.std.proofs.lemmas.List.Elements.{All-head, All-tail}
use Rattle.std.proofs.lemmas.Int.{ints}
use Rattle.std.proofs.lemmas.Bool.{eqb-true, eq-eqb, ne_eqb}
use Rattle.hp_math.proofs.Whole.{+ℤ-*ℤ}
use Rattle.hp_lit.specs.declared.literal.Rel.{Rel}
use Rattle.hp_lit.specs.declared.literal.Rel.TheVariants.{Le, Lt, Eq}
use Rattle.hp_lit.specs.declared.literal.Part.{Part}
use Rattle.hp_lit.specs.declared.literal.NumLit.{NumLit}
use Rattle.hp_lit.specs.declared.literal.Lit.{Lit}
use Rattle.hp_lit.specs.declared.literal.Lit.TheVariants.{Num}
use Rattle.hp_lit.specs.declared.proof.Share.{Share}
use Rattle.hp_lit.specs.Cycle.{IsLit}
use Rattle.hp_lit.specs.Leaf.{coefficient, Taken, AreTaken, IsRising, sum_coefficient, sum_bound, HasStrict, IsValidNum}
use Rattle.hp_rows.specs.declared.row.Row.{Row}
use Rattle.hp_rows.specs.Rows.{sum_of, sum_bounds, AreNotNegative, Among}
use Rattle.hp_rows.specs.Answers.{IsRefuted}
use Rattle.hp_rows.specs.Arithmetic.{is_nothing}
use Rattle.hp_descent.specs.Columns.{columns, mentioned}
use Rattle.hp_lit.specs.Fit.{part_names}
use Rattle.hp_descent.specs.LiteralRows.{forward_row, backward_row, rows_by, rows_over, rows_of, width_of}
use Rattle.hp_descent.specs.inner.Shares.{signed_by, row_count, signed, IsNarrow, shares_from, shares_of}
use Rattle.hp_descent.proofs.Rising.{among_names}
use Rattle.hp_descent.proofs.Truth.{AllAmong, among_split, all_in}

-- ---- from sums over rows to sums over literals
-- the sum over the literals of multiplier times a number of the literal
abbrev pub sum_lits : (NumLit → ℤ) → List ℤ → List NumLit → ℤ
sum_lits f [] ls = pos 0
sum_lits f (m ∷ ms) [] = pos 0
sum_lits f (m ∷ ms) (l ∷ ls) = (m *ℤ f l) +ℤ sum_lits f ms ls

neg-*ℤ : (x y : ℤ) → neg_ℤ x *ℤ y ≡ neg_ℤ (x *ℤ y)
neg-*ℤ x y = let z : neg_ℤ x +ℤ x ≡ pos 0 = omega (arith, ints) in omega (arith, ints, +ℤ-*ℤ (neg_ℤ x) x y, ap (λ n. n *ℤ y) z)

swap_z : (x y : ℤ) → x *ℤ y ≡ y *ℤ x
swap_z x y = omega (arith, ints)

*ℤ-neg : (x y : ℤ) → x *ℤ neg_ℤ y ≡ neg_ℤ (x *ℤ y)
*ℤ-neg x y = swap_z x (neg_ℤ y) ∙ neg-*ℤ y x ∙ ap neg_ℤ (swap_z y x)

two_rows : (a b g s : ℤ) → (a *ℤ g) +ℤ ((b *ℤ neg_ℤ g) +ℤ s) ≡ ((a -ℤ b) *ℤ g) +ℤ s
two_rows a b g s = omega (arith, ints, +ℤ-*ℤ a (neg_ℤ b) g, neg-*ℤ b g, *ℤ-neg b g)

-- f of a literal's first row is g of the literal, and f of the second row is the opposite
pub record Carries (ns : List ℕ) (f : Row → ℤ) (g : NumLit → ℤ) : Type 0 where
  pub forward : (l : NumLit) (most : ℤ) → f (forward_row ns l most) ≡ g l
  pub backward : (l : NumLit) → f (backward_row ns l) ≡ neg_ℤ (g l)

pub rows_sum : (ns : List ℕ) (f : Row → ℤ) (g : NumLit → ℤ) → Carries ns f g → (ls : List NumLit) (ms : List ℤ) → length ms ≡ length (rows_over ns ls)
    → sum_of f ms (rows_over ns ls) ≡ sum_lits g (signed ls ms) ls
rows_sum ns f g c [] [] e = refl
rows_sum ns f g c [] (m ∷ ms) e = refl
rows_sum ns f g c (l ∷ ls) ms e = by_rel (λ ks k. rows_sum ns f g c ls ks k) l.rel ms e
  where
    by_rel : ((ks : List ℤ) → length ks ≡ length (rows_over ns ls) → sum_of f ks (rows_over ns ls) ≡ sum_lits g (signed ls ks) ls)
        → (r : Rel) (ms : List ℤ) → length ms ≡ length (rows_by r ns l ++ rows_over ns ls)
        → sum_of f ms (rows_by r ns l ++ rows_over ns ls) ≡ (signed_by r ms *ℤ g l) +ℤ sum_lits g (signed ls (drop (row_count r) ms)) ls
    by_rel more Le [] e = absurd (omega arith)
    by_rel more Le (m ∷ ms) e = λ i. (m *ℤ c.forward l (pos 0) i) +ℤ more ms (omega arith) i
    by_rel more Lt [] e = absurd (omega arith)
    by_rel more Lt (m ∷ ms) e = λ i. (m *ℤ c.forward l (negsuc 0) i) +ℤ more ms (omega arith) i
    by_rel more Eq [] e = absurd (omega arith)
    by_rel more Eq (m ∷ []) e = absurd (omega arith)
    by_rel more Eq (m ∷ n ∷ ms) e =
        (λ i. (m *ℤ c.forward l (pos 0) i) +ℤ ((n *ℤ c.backward l i) +ℤ more ms (omega arith) i))
        ∙ two_rows m n (g l) (sum_lits g (signed ls ms) ls)

-- a strict literal with a multiplier that isn't 0
abbrev pub TakesStrict : List ℤ → List NumLit → Type 0
TakesStrict [] ls = ⊥
TakesStrict (m ∷ ms) [] = ⊥
TakesStrict (m ∷ ms) (l ∷ ls) = ((is_nothing m ≡ false) × (l.rel ≡ Lt)) ⊎ TakesStrict ms ls

pub strict_of : (ns : List ℕ) (ls : List NumLit) (ms : List ℤ) → length ms ≡ length (rows_over ns ls) → sum_bounds ms (rows_over ns ls) <ℤ pos 0 → TakesStrict (signed ls ms) ls
strict_of ns [] [] e h = absurd (omega (arith, ints))
strict_of ns [] (m ∷ ms) e h = absurd (omega (arith, ints))
strict_of ns (l ∷ ls) ms e h = by_rel (λ ks k. strict_of ns ls ks k) l.rel refl ms e h
  where
    nothing_times : (m s : ℤ) → is_nothing m ≡ true → ((m *ℤ negsuc 0) +ℤ s) <ℤ pos 0 → s <ℤ pos 0
    nothing_times m s t q = (let z = eqb-true (unsigned_abs m) 0 t in let y : m ≡ pos 0 = omega (arith, ints) in omega (arith, ints, ap (λ n. n *ℤ negsuc 0) y))

    by_rel : ((ks : List ℤ) → length ks ≡ length (rows_over ns ls) → sum_bounds ks (rows_over ns ls) <ℤ pos 0 → TakesStrict (signed ls ks) ls)
        → (r : Rel) → l.rel ≡ r → (ms : List ℤ) → length ms ≡ length (rows_by r ns l ++ rows_over ns ls) → sum_bounds ms (rows_by r ns l ++ rows_over ns ls) <ℤ pos 0
        → ((is_nothing (signed_by r ms) ≡ false) × (l.rel ≡ Lt)) ⊎ TakesStrict (signed ls (drop (row_count r) ms)) ls
    by_rel more Le q [] e h = absurd (omega arith)
    by_rel more Le q (m ∷ ms) e h = inr (more ms (omega arith) (omega (arith, ints)))
    by_rel more Lt q [] e h = absurd (omega arith)
    by_rel more Lt q (m ∷ ms) e h =
        (elim (is_nothing m) as (λ b. is_nothing m ≡ b → ((is_nothing m ≡ false) × (l.rel ≡ Lt)) ⊎ TakesStrict (signed ls ms) ls) [
          | true ↦ λ t. inr (more ms (omega arith) (nothing_times m _ t h))
          | false ↦ λ t. inl (t, q)
        ]) refl
    by_rel more Eq q [] e h = absurd (omega arith)
    by_rel more Eq q (m ∷ []) e h = absurd (omega arith)
    by_rel more Eq q (m ∷ n ∷ ms) e h = inr (more ms (omega arith) (omega (arith, ints)))

-- ---- from multipliers of literals to what a leaf takes
abbrev pub SignsFit : List ℤ → List NumLit → Type 0
SignsFit [] ls = Unit {0}
SignsFit (m ∷ ms) [] = ⊥
SignsFit (m ∷ ms) (l ∷ ls) = ((pos 0 ≤ℤ m) ⊎ (l.rel ≡ Eq)) × SignsFit ms ls

abbrev pub AreAt : List Lit → ℕ → List NumLit → Type 0
AreAt path n [] = Unit {0}
AreAt path n (l ∷ ls) = IsLit path n (Num l) × AreAt path (suc n) ls

abbrev StartsAt : ℕ → List Share → Type 0
StartsAt n [] = Unit {0}
StartsAt n (s ∷ ss) = n ≤ s.lit

starts_later : (n : ℕ) (ss : List Share) → StartsAt (suc n) ss → StartsAt n ss
starts_later n [] h = tt
starts_later n (s ∷ ss) h = omega arith

rises_on : (s : Share) (ss : List Share) → StartsAt (suc s.lit) ss → IsRising ss → IsRising (s ∷ ss)
rises_on s [] h r = tt
rises_on s (t ∷ ss) h r = (omega arith, r)

pub record Collected (path : List Lit) (n : ℕ) (ms : List ℤ) (ls : List NumLit) (shares : List Share) : Type 0 where
  pub taken : List Taken
  pub are_taken : AreTaken path shares taken
  pub rising : IsRising shares
  pub starts : StartsAt n shares
  pub column : (x : ℕ) → sum_coefficient x taken ≡ sum_lits (λ l. coefficient x l.parts) ms ls
  pub bounds : sum_bound taken ≡ sum_lits (λ l. l.bound) ms ls
  pub strict : TakesStrict ms ls → HasStrict taken

leave_out : (path : List Lit) (n : ℕ) (m : ℤ) (ms : List ℤ) (l : NumLit) (ls : List NumLit) → is_nothing m ≡ true
    → Collected path (suc n) ms ls (shares_from (suc n) ms) → Collected path n (m ∷ ms) (l ∷ ls) (shares_from (suc n) ms)
leave_out path n m ms l ls t c = record {
  taken = c.taken;
  are_taken = c.are_taken;
  rising = c.rising;
  starts = starts_later n _ c.starts;
  column = λ x. c.column x ∙ none (coefficient x l.parts) _;
  bounds = c.bounds ∙ none l.bound _;
  strict = λ s. elim s [ inl h ↦ absurd (let e = h.0 in cc) | inr h ↦ c.strict h ];
}
  where
    none : (a s : ℤ) → s ≡ (m *ℤ a) +ℤ s
    none a s = (let z = eqb-true (unsigned_abs m) 0 t in let y : m ≡ pos 0 = omega (arith, ints) in omega (arith, ints, ap (λ n. n *ℤ a) y))

take_in : (path : List Lit) (n : ℕ) (m : ℤ) (ms : List ℤ) (l : NumLit) (ls : List NumLit) → is_nothing m ≡ false → unsigned_abs m < 2 ^ 127 → (pos 0 ≤ℤ m) ⊎ (l.rel ≡ Eq) → IsLit path n (Num l)
    → Collected path (suc n) ms ls (shares_from (suc n) ms) → Collected path n (m ∷ ms) (l ∷ ls) (record { lit = n; times = m } ∷ shares_from (suc n) ms)
take_in path n m ms l ls f w s at c = record {
  taken = record { lit = l; times = m; narrow = w; sign = sign s } ∷ c.taken;
  are_taken = ((at, refl, apart), c.are_taken);
  rising = rises_on (record { lit = n; times = m }) (shares_from (suc n) ms) c.starts c.rising;
  starts = (let e : n ≤ n = omega arith in e);
  column = λ x. ap (λ z. (m *ℤ coefficient x l.parts) +ℤ z) (c.column x);
  bounds = ap (λ z. (m *ℤ l.bound) +ℤ z) c.bounds;
  strict = λ h. elim h [ inl g ↦ inl g.1 | inr g ↦ inr (c.strict g) ];
}
  where
    apart : m ≡ pos 0 → ⊥
    apart e = (let z : is_nothing m ≡ true = ap is_nothing e in cc)

    sign : (pos 0 ≤ℤ m) ⊎ (l.rel ≡ Eq) → (pos 0 <ℤ m) ⊎ (l.rel ≡ Eq)
    sign (inl h) = inl (above m h apart)
      where
        above : (m : ℤ) → pos 0 ≤ℤ m → (m ≡ pos 0 → ⊥) → pos 0 <ℤ m
        above (pos zero) h a = absurd (a refl)
        above (pos (suc k)) h a = omega (arith, ints)
        above (negsuc k) h a = absurd (omega (arith, ints))
    sign (inr e) = inr e

pub collected : (path : List Lit) (n : ℕ) (ms : List ℤ) (ls : List NumLit) → SignsFit ms ls → AreAt path n ls → All IsNarrow (shares_from n ms) → Collected path n ms ls (shares_from n ms)
collected path n [] ls s a w = record { taken = []; are_taken = tt; rising = tt; starts = tt; column = λ x. refl; bounds = refl; strict = λ h. h }
collected path n (m ∷ ms) [] s a w = absurd s
collected path n (m ∷ ms) (l ∷ ls) s a w =
    let rest = collected path (suc n) ms ls s.1 a.1 in
    let more = shares_from (suc n) ms in
    let share : Share = record { lit = n; times = m } in
    (elim (is_nothing m) as (λ b. is_nothing m ≡ b → All IsNarrow (cond b more (share ∷ more)) → Collected path n (m ∷ ms) (l ∷ ls) (cond b more (share ∷ more))) [
      | true ↦ λ t k. leave_out path n m ms l ls t (rest k)
      | false ↦ λ f k. take_in path n m ms l ls f (All-head IsNarrow share more k) s.0 a.0 (rest (All-tail IsNarrow share more k))
    ]) refl w

-- ---- the premises, of all literals
signs_fit : (ls : List NumLit) (ms : List ℤ) → AreNotNegative ms → SignsFit (signed ls ms) ls
signs_fit [] ms h = tt
signs_fit (l ∷ ls) ms h = (by_rel l.rel refl, signs_fit ls (drop (row_count l.rel) ms) (dropped (row_count l.rel) ms h))
  where
    dropped : (n : ℕ) (ms : List ℤ) → AreNotNegative ms → AreNotNegative (drop n ms)
    dropped zero ms h = h
    dropped (suc n) [] h = h
    dropped (suc n) (m ∷ ms) h = dropped n ms (λ i. h (suc i))

    by_rel : (r : Rel) → l.rel ≡ r → (pos 0 ≤ℤ signed_by r ms) ⊎ (l.rel ≡ Eq)
    by_rel Le e = inl (h 0)
    by_rel Lt e = inl (h 0)
    by_rel Eq e = inr e

at_length : (xs ys : List Lit) (y : Lit) → slice_get (xs ++ y ∷ ys) (length xs) ≡ Some y
at_length [] ys y = refl
at_length (x ∷ xs) ys y = at_length xs ys y

are_at : (before : List Lit) (ls : List NumLit) → AreAt (before ++ map Num ls) (suc (length before)) ls
are_at before [] = tt
are_at before (l ∷ ls) =
    let n : suc (length before) - 1 ≡ length before = omega arith in
    let one : IsLit (before ++ map Num (l ∷ ls)) (suc (length before)) (Num l) =
    (omega arith, ap (λ k. slice_get (before ++ Num l ∷ map Num ls) k) n ∙ at_length before (map Num ls) (Num l)) in
    let s : length (before ++ Num l ∷ []) ≡ suc (length before) = length-append before (Num l ∷ []) ∙ (let e : length before + 1 ≡ suc (length before) = omega arith in e) in
    let more = are_at (before ++ Num l ∷ []) ls in
    (one, subst (λ k. AreAt (before ++ Num l ∷ map Num ls) (suc k) ls) s (subst (λ path. AreAt path (suc (length (before ++ Num l ∷ []))) ls) (append_assoc before (Num l ∷ []) (map Num ls)) more))

-- ---- columns
get_over : (f : ℕ → ℤ) (ns : List ℕ) (z : ℤ) (k : ℕ) → k < length ns → get_or (map f ns ++ z ∷ []) k (pos 0) ≡ f (get_or ns k 0)
get_over f [] z k l = absurd (omega arith)
get_over f (n ∷ ns) z zero l = refl
get_over f (n ∷ ns) z (suc k) l = get_over f ns z k (omega arith)

get_last : (f : ℕ → ℤ) (ns : List ℕ) (z : ℤ) → get_or (map f ns ++ z ∷ []) (length ns) (pos 0) ≡ z
get_last f [] z = refl
get_last f (n ∷ ns) z = get_last f ns z

at_name : (ns : List ℕ) (k : ℕ) → k < length ns → Carries ns (λ r. get_or r.coefs k (pos 0)) (λ l. coefficient (get_or ns k 0) l.parts)
at_name ns k h = record {
  forward = λ l most. get_over (λ n. coefficient n l.parts) ns (neg_ℤ l.bound) k h;
  backward = λ l. get_over (λ n. neg_ℤ (coefficient n l.parts)) ns l.bound k h;
}

at_scale : (ns : List ℕ) → Carries ns (λ r. get_or r.coefs (length ns) (pos 0)) (λ l. neg_ℤ l.bound)
at_scale ns = record {
  forward = λ l most. get_last (λ n. coefficient n l.parts) ns (neg_ℤ l.bound);
  backward = λ l. get_last (λ n. neg_ℤ (coefficient n l.parts)) ns l.bound ∙ (let e : l.bound ≡ neg_ℤ (neg_ℤ l.bound) = omega (arith, ints) in e);
}

neg_sum : (f : NumLit → ℤ) (ms : List ℤ) (ls : List NumLit) → sum_lits (λ l. neg_ℤ (f l)) ms ls ≡ neg_ℤ (sum_lits f ms ls)
neg_sum f [] ls = refl
neg_sum f (m ∷ ms) [] = refl
neg_sum f (m ∷ ms) (l ∷ ls) = (λ i. *ℤ-neg m (f l) i +ℤ neg_sum f ms ls i) ∙ neg_both (m *ℤ f l) (sum_lits f ms ls)
  where
    neg_both : (a b : ℤ) → neg_ℤ a +ℤ neg_ℤ b ≡ neg_ℤ (a +ℤ b)
    neg_both a b = omega (arith, ints)

-- a name that is no column has no coefficient
abbrev IsFound : List ℕ → ℕ → Type 0
IsFound ns x = (k : ℕ) × (k < length ns) × (get_or ns k 0 ≡ x)

same_or_not : (m n : ℕ) → (m ≡ n) ⊎ (m ≡ n → ⊥)
same_or_not m n = (elim (nat_eq m n) as (λ b. nat_eq m n ≡ b → (m ≡ n) ⊎ (m ≡ n → ⊥)) [
  | true ↦ λ t. inl (eqb-true m n t)
  | false ↦ λ t. inr (λ e. let z = eq-eqb m n e in cc)
]) refl

found_or_not : (ns : List ℕ) (x : ℕ) → IsFound ns x ⊎ (Among ns x → ⊥)
found_or_not [] x = inr (λ a. a)
found_or_not (n ∷ ns) x = elim (same_or_not n x) [
  | inl e ↦ inl (0, omega arith, e)
  | inr d ↦ elim (found_or_not ns x) [
    | inl f ↦ inl (suc f.0, (let l = f.1 in omega arith), f.2)
    | inr g ↦ inr (λ a. elim a [ inl e ↦ d e | inr b ↦ g b ])
  ]
]

no_coefficient : (ns : List ℕ) (x : ℕ) (l : NumLit) → (Among ns x → ⊥) → AllAmong ns (part_names l.parts) → coefficient x l.parts ≡ pos 0
no_coefficient ns x l d a = go l.parts a
  where
    go : (ps : List Part) → AllAmong ns (part_names ps) → coefficient x ps ≡ pos 0
    go [] a = refl
    go (p ∷ ps) a = (λ i. cond (ne_eqb p.name.0 x (λ e. d (subst (Among ns) e a.0)) i) p.coef (pos 0) +ℤ go ps a.1 i) ∙ (let e : pos 0 +ℤ pos 0 ≡ pos 0 = omega (arith, ints) in e)

no_column : (ns : List ℕ) (x : ℕ) (ms : List ℤ) (ls : List NumLit) → (Among ns x → ⊥) → AllAmong ns (mentioned ls) → sum_lits (λ l. coefficient x l.parts) ms ls ≡ pos 0
no_column ns x [] ls d a = refl
no_column ns x (m ∷ ms) [] d a = refl
no_column ns x (m ∷ ms) (l ∷ ls) d a =
    let b = among_split ns (part_names l.parts) (mentioned ls) a in
    (λ i. (m *ℤ no_coefficient ns x l d b.0 i) +ℤ no_column ns x ms ls d b.1 i) ∙ (let e : (m *ℤ pos 0) +ℤ pos 0 ≡ pos 0 = omega (arith, ints) in e)

-- ---- the leaf
after_first : (m c s : ℤ) → c ≡ pos 0 → (m *ℤ c) +ℤ s ≡ pos 0 → s ≡ pos 0
after_first m c s e h = omega (arith, ints, ap (λ z. m *ℤ z) e)

pub valid_leaf : (lits : List NumLit) (times : List ℤ) → IsRefuted (rows_of lits) (width_of lits) times → All IsNarrow (shares_of lits times) → IsValidNum (map Num lits) (shares_of lits times)
valid_leaf lits [] r w = absurd (let e = r.contradiction.count in omega arith)
valid_leaf lits (m ∷ ms) r w =
    let ns = columns lits in
    let count : length ms ≡ length (rows_over ns lits) = (let e = r.contradiction.count in omega arith) in
    let us = signed lits ms in
    let c = collected (map Num lits) 1 us lits (signs_fit lits ms (λ i. r.none_negative (suc i))) (are_at [] lits) w in
    let scale : (m *ℤ negsuc 0) +ℤ neg_ℤ (sum_bound c.taken) ≡ pos 0 =
    (λ i. (m *ℤ sym (get_last (λ n. pos 0) ns (negsuc 0)) i) +ℤ (ap neg_ℤ c.bounds ∙ sym (neg_sum (λ l. l.bound) us lits) ∙ sym (rows_sum ns _ _ (at_scale ns) lits ms count)) i)
    ∙ r.contradiction.columns (length ns) (omega arith) in
    record {
      taken = c.taken;
      are_taken = c.are_taken;
      rising = c.rising;
      nothing = λ x. c.column x ∙ elim (found_or_not ns x) [
        | inl f ↦ ap (λ y. sum_lits (λ l. coefficient y l.parts) us lits) (sym f.2) ∙ sym (rows_sum ns _ _ (at_name ns f.0 f.1) lits ms count)
            ∙ after_first m _ _ (get_over (λ n. pos 0) ns (negsuc 0) f.0 f.1) (r.contradiction.columns f.0 (let l = f.1 in omega arith))
        | inr d ↦ no_column ns x us lits d (all_in ns (mentioned lits) (among_names (mentioned lits) []))
      ];
      bound = below m (sum_bound c.taken) (sum_bounds ms (rows_over ns lits)) (HasStrict c.taken) (r.none_negative 0) scale r.contradiction.bound
          (λ h. c.strict (strict_of ns lits ms count h));
    }
  where
    below : (m b s : ℤ) (P : Type 0) → pos 0 ≤ℤ m → (m *ℤ negsuc 0) +ℤ neg_ℤ b ≡ pos 0 → ((m *ℤ negsuc 0) +ℤ s) <ℤ pos 0 → (s <ℤ pos 0 → P) → (b <ℤ pos 0) ⊎ ((b ≡ pos 0) × P)
    below (negsuc n) b s P h e q f = absurd (omega (arith, ints))
    below (pos zero) b s P h e q f = inr (omega (arith, ints), f (omega (arith, ints)))
    below (pos (suc k)) b s P h e q f = inl (omega (arith, ints))
