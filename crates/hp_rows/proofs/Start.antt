-- A row as a line, before any elimination.
use Rattle.std.proofs.Common.{◌≡◌, ℕ, zero, suc, ◌<◌, ◌⊎◌, inl, inr, ℤ, pos, refl, sym, ◌∙◌, ap, arith, List, [], ◌∷◌, ◌++◌, length, get_or, drop, get_or-drop, true, false, nat_eq, cond, length-append, if◌then◌else◌}
use Rattle.std.proofs.lemmas.Int.{ints}
use Rattle.std.proofs.lemmas.Bool.{eqb-true, eqb-false, eq-eqb, cases_lt}
use Rattle.std.proofs.lemmas.List.{get_or_append_left, get_or_at, drop_at, append_assoc}
use Rattle.std.proofs.Math.ListN.{get_or-eq_default}
use Rattle.hp_math.specs.Rational.{ℚ, whole, ratio, ◌*ℚ◌}
use Rattle.hp_math.proofs.Field.{by_common1, whole_times_at}
use Rattle.hp_rows.specs.declared.row.Row.{Row}
use Rattle.hp_rows.specs.Rows.{dot, row_at, Among, AreWide, gaps}
use Rattle.hp_rows.specs.Lines.{marks, line_of}
use Rattle.hp_rows.proofs.Dot.{zero-times}
use Rattle.hp_rows.proofs.Lines.{dot_own, dot_others, dot_single, IsReduced, times_of_line}

abbrev mark : ℕ → ℕ → ℤ
mark n j = if nat_eq n j then pos 1 else pos 0

pub length-marks : (n j : ℕ) → length (marks n j) ≡ n
length-marks zero j = refl
length-marks (suc n) j = length-append (marks n j) (mark n j ∷ []) ∙ (let e = length-marks n j in omega arith)

mark_other : (n j i : ℕ) → ¬ (i ≡ j) → get_or (marks n j) i (pos 0) ≡ pos 0
mark_other zero j i h = refl
mark_other (suc n) j i h = elim (cases_lt i n) [
  | inl l ↦ get_or_append_left (marks n j) (mark n j ∷ []) (pos 0) i (rw (length-marks n j) l) ∙ mark_other n j i h
  | inr l ↦ elim (cases_lt n i) [
    | inl g ↦ get_or-eq_default (marks (suc n) j) (pos 0) (rw (length-marks (suc n) j) g)
    | inr g ↦
        (let s : i ≡ n = omega arith in
        get_or_at (marks n j) (mark n j) [] (pos 0) i (length-marks n j ∙ sym s)
        ∙ (elim (nat_eq n j) as (λ t. nat_eq n j ≡ t → cond t (pos 1) (pos 0) ≡ pos 0) [ true ↦ λ t. absurd (h (s ∙ eqb-true n j t)) | false ↦ λ t. refl ]) refl)
  ]
]

mark_same : (n j : ℕ) → j < n → get_or (marks n j) j (pos 0) ≡ pos 1
mark_same zero j h = absurd (omega arith)
mark_same (suc n) j h = elim (cases_lt j n) [
  | inl l ↦ get_or_append_left (marks n j) (mark n j ∷ []) (pos 0) j (rw (length-marks n j) l) ∙ mark_same n j l
  | inr l ↦
      (let s : n ≡ j = omega arith in
      let t : nat_eq n j ≡ true = eq-eqb n j s in
      get_or_at (marks n j) (mark n j) [] (pos 0) j (length-marks n j ∙ s) ∙ ap (λ b. cond b (pos 1) (pos 0)) t)
]

pub one-times : (x : ℚ) → whole (pos 1) *ℚ x ≡ x
one-times = by_common1 (λ x. whole (pos 1) *ℚ x ≡ x) (λ k a. whole_times_at (pos 1) a k ∙ ap (λ z. ratio z (suc k)) (omega (arith, ints)))

module _ (rows : List Row) (w j : ℕ) (h : j < length rows) (wide : AreWide w rows) where
  tail : drop (suc w) (line_of rows j) ≡ marks (length rows) j
  tail =
      ap (λ z. drop (suc w) z) (sym (append_assoc (row_at rows j).coefs ((row_at rows j).bound ∷ []) (marks (length rows) j)))
      ∙ drop_at ((row_at rows j).coefs ++ ((row_at rows j).bound ∷ [])) (marks (length rows) j) (suc w)
      (length-append (row_at rows j).coefs ((row_at rows j).bound ∷ []) ∙ (let e = wide j h in omega arith))

  place : (i : ℕ) → times_of_line w (line_of rows j) i ≡ get_or (marks (length rows) j) i (pos 0)
  place i = sym (get_or-drop (suc w) (line_of rows j) i (pos 0)) ∙ ap (λ z. get_or z i (pos 0)) tail

  pub starts : IsReduced rows w [] [] j (line_of rows j)
  starts = record {
    line = record {
      size = length-append (row_at rows j).coefs ((row_at rows j).bound ∷ marks (length rows) j) ∙ (let e = wide j h in let f = length-marks (length rows) j in omega arith);
      sum = λ v.
          dot_own w (row_at rows j).coefs (row_at rows j).bound (marks (length rows) j) v (wide j h)
          ∙ sym (dot_others w (line_of rows j) (gaps rows v) ∙ ap (λ z. dot z (gaps rows v)) tail
          ∙ dot_single (marks (length rows) j) (gaps rows v) j (λ i n. rw (mark_other (length rows) j i n) (zero-times (gaps rows v i)))
          ∙ ap (λ z. whole z *ℚ gaps rows v j) (mark_same (length rows) j h) ∙ one-times (gaps rows v j));
      only = λ i. (elim (nat_eq j i) as (λ t. nat_eq j i ≡ t → Among (j ∷ []) i ⊎ (times_of_line w (line_of rows j) i ≡ pos 0)) [
        | true ↦ λ t. inl (inl (eqb-true j i t))
        | false ↦ λ t. inr (place i ∙ mark_other (length rows) j i (λ e. eqb-false j i t (sym e)))
      ]) refl;
    };
    mine = rw (place j, mark_same (length rows) j h) (omega (arith, ints));
    clears = tt;
  }
