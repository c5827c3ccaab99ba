-- The multipliers of a chain in a contradiction are positive.
use Rattle.std.proofs.Common.{◌≡◌, ℕ, ◌<◌, ◌⊎◌, inl, inr, ℤ, pos, ◌≤ℤ◌, ◌<ℤ◌, arith, List, [], ◌∷◌}
use Rattle.std.proofs.lemmas.Int.{ints, by_lt_z}
use Rattle.std.proofs.lemmas.Bool.{cases_lt}
use Rattle.hp_math.specs.Rational.{whole, ◌≤ℚ◌, ◌<ℚ◌, ◌*ℚ◌}
use Rattle.hp_math.proofs.Field.{<ℚ_irrefl}
use Rattle.hp_rows.specs.declared.row.Row.{Row}
use Rattle.hp_rows.specs.Rows.{Values, dot, row_at, MeetsAll, IsBelow, IsLink, IsChain, Among, times_at, AreNotNegative, gap, gaps}
use Rattle.hp_rows.specs.Laws.{ChainIsPositive}
use Rattle.hp_rows.proofs.Dot.{dot_le, low_times, high_times, none_times, under, at, over, lt_le}

pub met : (rows : List Row) (es : List ℕ) (v : Values) → MeetsAll rows es v → (i : ℕ) → Among es i → gap (row_at rows i) v ≡ whole (pos 0)
met rows [] v h i a = absurd a
met rows (e ∷ es) v h i (inl s) = rw (← s) (at _ _ h.0.eq)
met rows (e ∷ es) v h i (inr a) = met rows es v h.1 i a

pub above : (e : ℕ) (es : List ℕ) → IsBelow e es → (i : ℕ) → Among es i → e < i
above e [] b i a = absurd a
above e (x ∷ xs) b i (inl s) = omega arith
above e (x ∷ xs) b i (inr a) = above e xs b.1 i a

-- at the values that broke e, a part of the sum is not over 0, unless the multiplier of e is
module _ (rows : List Row) (es : List ℕ) (e : ℕ) (times : List ℤ) (link : IsLink rows es e)
    (low : (i : ℕ) → i < e → pos 0 ≤ℤ times_at times i)
    (none : (i : ℕ) → e < i → Among es i ⊎ (times_at times i ≡ pos 0)) where
  part : times_at times e ≤ℤ pos 0 → (i : ℕ) → whole (times_at times i) *ℚ gaps rows link.values i ≤ℚ whole (pos 0)
  part n i = elim (cases_lt i e) [
    | inl l ↦ low_times (times_at times i) _ (low i l) (under _ _ (link.holds i l).le)
    | inr l ↦ elim (cases_lt e i) [
      | inl g ↦ elim (none i g) [
        | inl a ↦ none_times (times_at times i) _ (inr (met rows es link.values link.meets i a))
        | inr z ↦ none_times (times_at times i) _ (inl z)
      ]
      | inr g ↦ (let s : e ≡ i = omega arith in rw (← s) (high_times (times_at times e) _ n (lt_le _ _ (over _ _ link.breaks.gt))))
    ]
  ]

  pub link_positive : ((v : Values) → whole (pos 0) <ℚ dot times (gaps rows v)) → pos 0 <ℤ times_at times e
  link_positive sum = by_lt_z (pos 0) (times_at times e) (λ h. h) (λ h. absurd (<ℚ_irrefl _ _ (sum link.values) (dot_le times (gaps rows link.values) (part h))))

-- above the last row of the chain the multipliers are 0, the chain aside
abbrev NoneAbove : List ℕ → List ℤ → Type 0
NoneAbove [] times = Unit {0}
NoneAbove (e ∷ es) times = (i : ℕ) → e < i → Among es i ⊎ (times_at times i ≡ pos 0)

none_on : (e : ℕ) (es : List ℕ) (times : List ℤ) → IsBelow e es → NoneAbove (e ∷ es) times → NoneAbove es times
none_on e [] times b h = tt
none_on e (x ∷ xs) times b h = λ i l.
    elim (h i (omega arith)) [
      | inl a ↦ elim a [ inl s ↦ absurd (omega arith) | inr t ↦ inl t ]
      | inr z ↦ inr z
    ]

pub chain_positive : (rows : List Row) (es : List ℕ) (times : List ℤ) → IsChain rows es
    → ((v : Values) → whole (pos 0) <ℚ dot times (gaps rows v))
    → NoneAbove es times
    → ((i : ℕ) → Among es i ⊎ (pos 0 ≤ℤ times_at times i))
    → ((i : ℕ) → Among es i → pos 0 <ℤ times_at times i) × AreNotNegative times
chain_positive rows [] times c sum none low = (λ i a. absurd a, λ i. elim (low i) [ inl a ↦ absurd a | inr h ↦ h ])
chain_positive rows (e ∷ es) times c sum none low =
    let b = c.0.falls in
    let first : pos 0 <ℤ times_at times e = link_positive rows es e times c.0
    (λ i l. elim (low i) [ inl a ↦ absurd (elim a [ inl s ↦ omega arith | inr t ↦ (let u = above e es b i t in omega arith) ]) | inr h ↦ h ])
    none sum in
    let rest = chain_positive rows es times c.1 sum (none_on e es times b none)
    (λ i. elim (low i) [
      | inl a ↦ elim a [ inl s ↦ inr (rw (← s) (omega (arith, ints))) | inr t ↦ inl t ]
      | inr h ↦ inr h
    ]) in
    (λ i a. elim a [ inl s ↦ rw (← s) first | inr t ↦ rest.0 i t ], rest.1)

none_above : (es : List ℕ) (times : List ℤ) → ((i : ℕ) → Among es i ⊎ (times_at times i ≡ pos 0)) → NoneAbove es times
none_above [] times h = tt
none_above (e ∷ es) times h = λ i l. elim (h i) [ inl a ↦ elim a [ inl s ↦ absurd (omega arith) | inr t ↦ inl t ] | inr z ↦ inr z ]

pub chain_is_positive : ChainIsPositive
chain_is_positive rows chain times c sum only =
    chain_positive rows chain times c sum (none_above chain times only) (λ i. elim (only i) [ inl a ↦ inl a | inr z ↦ inr (omega (arith, ints)) ])
