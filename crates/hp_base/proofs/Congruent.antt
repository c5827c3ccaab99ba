-- The line of two applications of one function says that equal arguments give equal values, and can be decided.
use Rattle.std.proofs.Common.{◌≡◌, ◌↔◌, ◌⊎◌, Bool, true, false, not, pos, List, [], ◌∷◌, ◌++◌, Some, Ok, slice_get, refl, subst, arith, inl, inr}
use Rattle.std.specs.List.{All, AllZip}
use Rattle.std.proofs.lemmas.Int.{ints}
use Rattle.std.proofs.lemmas.List.Elements.{All-nil, All-cons, All-head, All-tail, All-append}
use Rattle.hp_math.specs.Rational.{ℚ, eq_ℚ}
use Rattle.hp_math.proofs.Field.{+ℚ_zero}
use Rattle.hp_num.proofs.Given.{came}
use Rattle.hp_tree.specs.declared.problem.Sort.{Sort}
use Rattle.hp_tree.specs.declared.problem.Sort.TheVariants.{Num, Idx, Ptr}
use Rattle.hp_tree.specs.declared.problem.Cmp.{Cmp}
use Rattle.hp_tree.specs.declared.problem.Cmp.TheVariants.{Eq, Ne}
use Rattle.hp_tree.specs.Value.{compares}
use Rattle.hp_tree.proofs.Compares.{eq_ℚ-from, eq_ℚ-true}
use Rattle.hp_terms.specs.Weight.{IsSmallOffset}
use Rattle.hp_lit.specs.declared.literal.Name.{Name}
use Rattle.hp_lit.specs.declared.literal.Lit.{Lit}
use Rattle.hp_lit.specs.declared.literal.Lit.TheVariants as lit
use Rattle.hp_lit.specs.declared.line.Arg.{Arg}
use Rattle.hp_lit.specs.declared.line.Arg.TheVariants.{Number, Named, Index, Null}
use Rattle.hp_lit.specs.Fit.{IsFit, IsIdxSide, IsSide}
use Rattle.hp_lit.specs.Sorts.{HaveSorts}
use Rattle.hp_lit.specs.Truth.{Values, LineIsTrue, name_value, optional_value}
use Rattle.hp_linear.specs.Fit.{IsLinOver}
use Rattle.hp_linear.specs.Steps.{behind}
use Rattle.hp_linear.specs.Values.{Stands, lin_value}
use Rattle.hp_linear.proofs.Comparisons.{and_then}
use Rattle.hp_linear.proofs.Fields.{zero_plus}
use Rattle.hp_linear.proofs.FitRows as rows
use Rattle.hp_linear.proofs.Fits.{named_lin-over, number_lin-over}
use Rattle.hp_linear.proofs.Refusals.{ok_same}
use Rattle.hp_linear.proofs.Truth.{lin_literals_compare}
use Rattle.hp_index.specs.Fit.{IsFormOver}
use Rattle.hp_index.specs.Literals.{form_literals}
use Rattle.hp_index.specs.Pointers.{asks_same}
use Rattle.hp_index.specs.Values.{form_value}
use Rattle.hp_index.proofs.Bounds.{offset_is_side}
use Rattle.hp_index.proofs.Fits.{form_literals_are_fit}
use Rattle.hp_index.proofs.Truth.{form_literals_compare}
use Rattle.hp_defs.specs.Fit.{ArgFits}
use Rattle.hp_defs.specs.Made.{IsSmallArg}
use Rattle.hp_base.specs.Congruence.{apart_literals, arg_form, arg_lin, arg_literals, arg_pointer, pair_literals, value_arg}
use Rattle.hp_base.specs.Laws.{CongruenceFits, CongruenceSays}
use Rattle.hp_base.specs.Values.{arg_value, arg_values}
use Rattle.hp_base.proofs.SumsHold.{named_lin_value}

-- ---- lines of two lists of literals
line_append : (v : Values) (xs ys : List Lit) → LineIsTrue v (xs ++ ys) ↔ (LineIsTrue v xs ⊎ LineIsTrue v ys)
line_append v [] ys = (λ h. inr h, λ h. elim h [ inl a ↦ absurd a | inr b ↦ b ])
line_append v (x ∷ xs) ys =
    let rest = line_append v xs ys in (
      λ h. elim h [ inl a ↦ inl (inl a) | inr b ↦ elim (rest.0 b) [ inl c ↦ inl (inr c) | inr d ↦ inr d ] ],
      λ h. elim h [ inl a ↦ elim a [ inl c ↦ inl c | inr d ↦ inr (rest.1 (inl d)) ] | inr b ↦ inr (rest.1 (inr b)) ],
    )

-- ---- equal fractions and different ones
abbrev Apart : ℚ → ℚ → Type 0
Apart a b = a ≡ b → ⊥

same_or_apart : (a b : ℚ) → (a ≡ b) ⊎ Apart a b
same_or_apart a b = by (eq_ℚ a b) refl
  where
    by : (t : Bool) → eq_ℚ a b ≡ t → (a ≡ b) ⊎ Apart a b
    by true e = inl (eq_ℚ-true a b e)
    by false e = inr (λ s. let yes = eq_ℚ-from a b s in absurd (cc))

eq_stands : (a b : ℚ) → (compares Eq a b ≡ true) ↔ (a ≡ b)
eq_stands a b = (eq_ℚ-true a b, eq_ℚ-from a b)

ne_stands : (a b : ℚ) → (compares Ne a b ≡ true) ↔ Apart a b
ne_stands a b = by (eq_ℚ a b) (eq_ℚ-true a b) (eq_ℚ-from a b)
  where
    by : (t : Bool) → (t ≡ true → a ≡ b) → (a ≡ b → t ≡ true) → (not t ≡ true) ↔ Apart a b
    by true is from = (λ e. absurd (cc), λ h. absurd (h (is refl)))
    by false is from = (λ e h. let t = from h in cc, λ h. refl)

-- ---- what an argument is, compared as one of its sort
module _ (sorts : List Sort) (v : Values) where
  lin_arg : (x : Arg) → ArgFits sorts Num x → lin_value v (arg_lin x) ≡ arg_value v x
  lin_arg (Number q) h = zero_plus q
  lin_arg (Named name) h = named_lin_value v name
  lin_arg (Index base offset) h = absurd h
  lin_arg Null h = absurd h

  form_arg : (x : Arg) → ArgFits sorts Idx x → form_value v (arg_form x) ≡ arg_value v x
  form_arg (Number q) h = absurd h
  form_arg (Named name) h = absurd h
  form_arg (Index base offset) h = refl
  form_arg Null h = absurd h

  form_side : (x : Arg) → ArgFits sorts Idx x → IsIdxSide sorts (arg_form x).base
  form_side (Number q) h = absurd h
  form_side (Named name) h = absurd h
  form_side (Index base offset) h = h
  form_side Null h = absurd h

  pointer_arg : (x : Arg) → ArgFits sorts Ptr x → optional_value v (arg_pointer x) ≡ arg_value v x
  pointer_arg (Number q) h = absurd h
  pointer_arg (Named name) h = refl
  pointer_arg (Index base offset) h = absurd h
  pointer_arg Null h = refl

  -- ---- the literals that compare two arguments
  num_says : (cmp : Cmp) (x y : Arg) (lits : List Lit) → ArgFits sorts Num x → ArgFits sorts Num y → arg_literals Num cmp x y ≡ Ok lits → LineIsTrue v lits ↔ Stands cmp (arg_value v x) (arg_value v y)
  num_says cmp x y lits p q e =
      subst (λ a. LineIsTrue v lits ↔ Stands cmp a (arg_value v y)) (lin_arg x p) (subst (λ b. LineIsTrue v lits ↔ Stands cmp (lin_value v (arg_lin x)) b) (lin_arg y q)
      (lin_literals_compare v cmp (arg_lin x) (arg_lin y) lits e))

  idx_says : (cmp : Cmp) (x y : Arg) (lits : List Lit) → HaveSorts sorts v → ArgFits sorts Idx x → ArgFits sorts Idx y → arg_literals Idx cmp x y ≡ Ok lits
      → LineIsTrue v lits ↔ (compares cmp (arg_value v x) (arg_value v y) ≡ true)
  idx_says cmp x y lits have p q e =
      subst (λ (ls : List Lit). LineIsTrue v ls ↔ (compares cmp (arg_value v x) (arg_value v y) ≡ true)) (ok_same (form_literals cmp (arg_form x) (arg_form y)) lits e)
      (subst (λ a. LineIsTrue v (form_literals cmp (arg_form x) (arg_form y)) ↔ (compares cmp a (arg_value v y) ≡ true)) (form_arg x p)
      (subst (λ b. LineIsTrue v (form_literals cmp (arg_form x) (arg_form y)) ↔ (compares cmp (form_value v (arg_form x)) b ≡ true)) (form_arg y q)
      (form_literals_compare sorts v cmp (arg_form x) (arg_form y) have (form_side x p) (form_side y q))))

  pair_says : (cmp : Cmp) (x y : Arg) (lits : List Lit) → ArgFits sorts Ptr x → ArgFits sorts Ptr y → arg_literals Ptr cmp x y ≡ Ok lits
      → LineIsTrue v lits ↔ ((asks_same cmp ≡ true) ↔ (arg_value v x ≡ arg_value v y))
  pair_says cmp x y lits p q e =
      subst (λ (ls : List Lit). LineIsTrue v ls ↔ ((asks_same cmp ≡ true) ↔ (arg_value v x ≡ arg_value v y))) (ok_same (pair_literals cmp (arg_pointer x) (arg_pointer y)) lits e)
      (subst (λ a. LineIsTrue v (pair_literals cmp (arg_pointer x) (arg_pointer y)) ↔ ((asks_same cmp ≡ true) ↔ (a ≡ arg_value v y))) (pointer_arg x p)
      (subst (λ b. LineIsTrue v (pair_literals cmp (arg_pointer x) (arg_pointer y)) ↔ ((asks_same cmp ≡ true) ↔ (optional_value v (arg_pointer x) ≡ b))) (pointer_arg y q)
      (λ h. elim h [ inl a ↦ a | inr b ↦ absurd b ], λ h. inl h)))

  same_means : (a b : ℚ) → ((asks_same Eq ≡ true) ↔ (a ≡ b)) ↔ (a ≡ b)
  same_means a b = (λ h. h.0 refl, λ e. (λ t. e, λ s. refl))

  apart_means : (a b : ℚ) → ((asks_same Ne ≡ true) ↔ (a ≡ b)) ↔ Apart a b
  apart_means a b = (λ h s. let no = h.1 s in cc, λ h. (λ t. absurd (cc), λ s. absurd (h s)))

  same_says : (sort : Sort) (x y : Arg) (lits : List Lit) → HaveSorts sorts v → ArgFits sorts sort x → ArgFits sorts sort y → arg_literals sort Eq x y ≡ Ok lits
      → LineIsTrue v lits ↔ (arg_value v x ≡ arg_value v y)
  same_says Num x y lits have p q e = num_says Eq x y lits p q e
  same_says Idx x y lits have p q e = and_then (idx_says Eq x y lits have p q e) (eq_stands (arg_value v x) (arg_value v y))
  same_says Ptr x y lits have p q e = and_then (pair_says Eq x y lits p q e) (same_means (arg_value v x) (arg_value v y))

  apart_says : (sort : Sort) (x y : Arg) (lits : List Lit) → HaveSorts sorts v → ArgFits sorts sort x → ArgFits sorts sort y → arg_literals sort Ne x y ≡ Ok lits
      → LineIsTrue v lits ↔ Apart (arg_value v x) (arg_value v y)
  apart_says Num x y lits have p q e = num_says Ne x y lits p q e
  apart_says Idx x y lits have p q e = and_then (idx_says Ne x y lits have p q e) (ne_stands (arg_value v x) (arg_value v y))
  apart_says Ptr x y lits have p q e = and_then (pair_says Ne x y lits p q e) (apart_means (arg_value v x) (arg_value v y))

  -- ---- lists of arguments
  abbrev ListsApart : List Arg → List Arg → Type 0
  ListsApart xs ys = arg_values v xs ≡ arg_values v ys → ⊥

  first_or_rest : (a b : ℚ) (ps qs : List ℚ) → (a ∷ ps ≡ b ∷ qs → ⊥) → Apart a b ⊎ (ps ≡ qs → ⊥)
  first_or_rest a b ps qs h = elim (same_or_apart a b) [ inl s ↦ inr (λ e. h (λ i. s i ∷ e i)) | inr d ↦ inl d ]

  one_apart : (a b : ℚ) (ps qs : List ℚ) → Apart a b ⊎ (ps ≡ qs → ⊥) → a ∷ ps ≡ b ∷ qs → ⊥
  one_apart a b ps qs (inl h) e = let s : a ≡ b = cc in h s
  one_apart a b ps qs (inr h) e = let s : ps ≡ qs = cc in h s

  lists_say : (ss : List Sort) (xs ys : List Arg) (lits : List Lit) → HaveSorts sorts v → AllZip (ArgFits sorts) ss xs → AllZip (ArgFits sorts) ss ys → apart_literals ss xs ys ≡ Ok lits
      → LineIsTrue v lits ↔ ListsApart xs ys
  lists_say [] [] [] lits have p q e = subst (λ (ls : List Lit). LineIsTrue v ls ↔ ListsApart [] []) (ok_same [] lits e) (λ h. absurd h, λ h. h refl)
  lists_say [] [] (y ∷ ys) lits have p q e = absurd q
  lists_say [] (x ∷ xs) ys lits have p q e = absurd p
  lists_say (s ∷ ss) [] ys lits have p q e = absurd p
  lists_say (s ∷ ss) (x ∷ xs) [] lits have p q e = absurd q
  lists_say (s ∷ ss) (x ∷ xs) (y ∷ ys) lits have p q e =
      let one = came (arg_literals s Ne x y) (λ ls. behind ls (apart_literals ss xs ys)) lits e in
      let two = came (apart_literals ss xs ys) (λ ls. Ok (one.value ++ ls)) lits one.rest in
      let first = apart_says s x y one.value have p.0 q.0 one.first in
      let rest = lists_say ss xs ys two.value have p.1 q.1 two.first in
      let both = line_append v one.value two.value in
      subst (λ (ls : List Lit). LineIsTrue v ls ↔ ListsApart (x ∷ xs) (y ∷ ys)) (ok_same (one.value ++ two.value) lits two.rest) (
        λ h. one_apart (arg_value v x) (arg_value v y) (arg_values v xs) (arg_values v ys) (elim (both.0 h) [ inl a ↦ inl (first.0 a) | inr b ↦ inr (rest.0 b) ]),
        λ h. both.1 (elim (first_or_rest (arg_value v x) (arg_value v y) (arg_values v xs) (arg_values v ys) h) [ inl a ↦ inl (first.1 a) | inr b ↦ inr (rest.1 b) ]),
      )

-- ---- names as arguments
value_arg_fits : (sorts : List Sort) (s : Sort) (name : Name) → slice_get sorts name.0 ≡ Some s → ArgFits sorts s (value_arg s name)
value_arg_fits sorts Num name e = e
value_arg_fits sorts Idx name e = e
value_arg_fits sorts Ptr name e = e

value_arg_value : (v : Values) (s : Sort) (name : Name) → arg_value v (value_arg s name) ≡ name_value v name.0
value_arg_value v Num name = refl
value_arg_value v Idx name = +ℚ_zero (name_value v name.0)
value_arg_value v Ptr name = refl

-- the arguments differ, or the values are equal
implied : {A : Type 0} (a b : ℚ) → (A → ⊥) ⊎ (a ≡ b) → A → a ≡ b
implied a b (inl h) x = absurd (h x)
implied a b (inr h) x = h

either : {A : Type 0} (a b : ℚ) → (A → a ≡ b) → (A → ⊥) ⊎ (a ≡ b)
either a b h = elim (same_or_apart a b) [ inl s ↦ inr s | inr d ↦ inl (λ x. d (h x)) ]

pub congruence_says : CongruenceSays
congruence_says sorts signature p q lits v have is is2 e =
    let r = signature.result in
    let x = value_arg r p.name in
    let y = value_arg r q.name in
    let a = name_value v p.name.0 in
    let b = name_value v q.name.0 in
    let one = came (apart_literals signature.args p.args q.args) (λ ls. behind ls (arg_literals r Eq x y)) lits e in
    let two = came (arg_literals r Eq x y) (λ ls. Ok (one.value ++ ls)) lits one.rest in
    let args = lists_say sorts v signature.args p.args q.args one.value have is.args is2.args one.first in
    let names = same_says sorts v r x y two.value have (value_arg_fits sorts r p.name is.name) (value_arg_fits sorts r q.name is2.name) two.first in
    let values : LineIsTrue v two.value ↔ (a ≡ b) = subst (λ c. LineIsTrue v two.value ↔ (c ≡ b)) (value_arg_value v r p.name)
    (subst (λ d. LineIsTrue v two.value ↔ (arg_value v x ≡ d)) (value_arg_value v r q.name) names) in
    let both = line_append v one.value two.value in
    subst (λ (ls : List Lit). LineIsTrue v ls ↔ (arg_values v p.args ≡ arg_values v q.args → a ≡ b)) (ok_same (one.value ++ two.value) lits two.rest) (
      λ h. implied a b (elim (both.0 h) [ inl l ↦ inl (args.0 l) | inr m ↦ inr (values.0 m) ]),
      λ h. both.1 (elim (either a b h) [ inl l ↦ inl (args.1 l) | inr m ↦ inr (values.1 m) ]),
    )

-- ---- what can be decided
module _ (sorts : List Sort) where
  lin_over : (x : Arg) → ArgFits sorts Num x → IsLinOver sorts (arg_lin x)
  lin_over (Number q) h = number_lin-over sorts q
  lin_over (Named name) h = named_lin-over sorts name h
  lin_over (Index base offset) h = absurd h
  lin_over Null h = absurd h

  form_over : (x : Arg) → ArgFits sorts Idx x → IsSmallArg x → IsFormOver sorts (arg_form x)
  form_over (Number q) h s = absurd h
  form_over (Named name) h s = absurd h
  form_over (Index base offset) h s = record { base = h; offset = offset_is_side offset s }
  form_over Null h s = absurd h

  pointer_over : (x : Arg) → ArgFits sorts Ptr x → IsSide Ptr sorts (arg_pointer x)
  pointer_over (Number q) h = absurd h
  pointer_over (Named name) h = h
  pointer_over (Index base offset) h = absurd h
  pointer_over Null h = tt

  args_fit : (s : Sort) (cmp : Cmp) (x y : Arg) (lits : List Lit) → ArgFits sorts s x → ArgFits sorts s y → IsSmallArg x → IsSmallArg y → arg_literals s cmp x y ≡ Ok lits → All (IsFit sorts) lits
  args_fit Num cmp x y lits p q s t e = rows.lin_literals_are_fit sorts cmp (arg_lin x) (arg_lin y) lits (lin_over x p) (lin_over y q) e
  args_fit Idx cmp x y lits p q s t e =
      subst (λ (ls : List Lit). All (IsFit sorts) ls) (ok_same (form_literals cmp (arg_form x) (arg_form y)) lits e)
      (form_literals_are_fit sorts cmp (arg_form x) (arg_form y) (form_over x p s) (form_over y q t))
  args_fit Ptr cmp x y lits p q s t e =
      subst (λ (ls : List Lit). All (IsFit sorts) ls) (ok_same (pair_literals cmp (arg_pointer x) (arg_pointer y)) lits e)
      (All-cons (IsFit sorts) (lit.Ptr (record { same = asks_same cmp; left = arg_pointer x; right = arg_pointer y })) [] (record { left = pointer_over x p; right = pointer_over y q }) (All-nil (IsFit sorts)))

  lists_fit : (ss : List Sort) (xs ys : List Arg) (lits : List Lit) → AllZip (ArgFits sorts) ss xs → AllZip (ArgFits sorts) ss ys → All IsSmallArg xs → All IsSmallArg ys → apart_literals ss xs ys ≡ Ok lits
      → All (IsFit sorts) lits
  lists_fit [] xs ys lits p q s t e = subst (λ (ls : List Lit). All (IsFit sorts) ls) (ok_same [] lits e) (All-nil (IsFit sorts))
  lists_fit (r ∷ rs) [] ys lits p q s t e = absurd p
  lists_fit (r ∷ rs) (x ∷ xs) [] lits p q s t e = absurd q
  lists_fit (r ∷ rs) (x ∷ xs) (y ∷ ys) lits p q s t e =
      let one = came (arg_literals r Ne x y) (λ ls. behind ls (apart_literals rs xs ys)) lits e in
      let two = came (apart_literals rs xs ys) (λ ls. Ok (one.value ++ ls)) lits one.rest in
      subst (λ (ls : List Lit). All (IsFit sorts) ls) (ok_same (one.value ++ two.value) lits two.rest)
      (All-append (IsFit sorts) one.value two.value (args_fit r Ne x y one.value p.0 q.0 (All-head IsSmallArg x xs s) (All-head IsSmallArg y ys t) one.first)
      (lists_fit rs xs ys two.value p.1 q.1 (All-tail IsSmallArg x xs s) (All-tail IsSmallArg y ys t) two.first))

small_zero : IsSmallOffset (pos 0)
small_zero = record { low = omega (arith, ints); high = omega (arith, ints) }

small_name : (s : Sort) (name : Name) → IsSmallArg (value_arg s name)
small_name Num name = tt
small_name Idx name = small_zero
small_name Ptr name = tt

pub congruence_fits : CongruenceFits
congruence_fits sorts signature p q lits is is2 e =
    let r = signature.result in
    let x = value_arg r p.name in
    let y = value_arg r q.name in
    let one = came (apart_literals signature.args p.args q.args) (λ ls. behind ls (arg_literals r Eq x y)) lits e in
    let two = came (arg_literals r Eq x y) (λ ls. Ok (one.value ++ ls)) lits one.rest in
    subst (λ (ls : List Lit). All (IsFit sorts) ls) (ok_same (one.value ++ two.value) lits two.rest)
    (All-append (IsFit sorts) one.value two.value (lists_fit sorts signature.args p.args q.args one.value is.args is2.args is.small is2.small one.first)
    (args_fit sorts r Eq x y two.value (value_arg_fits sorts r p.name is.name) (value_arg_fits sorts r q.name is2.name) (small_name r p.name) (small_name r q.name) two.first))
