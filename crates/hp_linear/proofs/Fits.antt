-- The form of a num term is over names of sort num, which rise; and what is so of its coefficients.
use Rattle.std.proofs.Common.{◌≡◌, ℕ, zero, suc, ◌+◌, ◌<◌, ◌≤◌, Bool, true, false, cond, nat_lt, pos, List, [], ◌∷◌, ◌++◌, Some, map, Ok, refl, sym, ap, subst, ◌∙◌, arith}
use Rattle.std.specs.Prelude.{slice_get, slice_index}
use Rattle.std.specs.List.{All}
use Rattle.std.specs.List.Sorted.{IsStrictlyIncreasing}
use Rattle.std.proofs.lemmas.Bool.{and_parts, ltb-true, ltb-false}
use Rattle.std.proofs.lemmas.Int.{ints}
use Rattle.std.proofs.lemmas.List.Elements.{All-nil, All-cons, All-head, All-tail}
use Rattle.hp_math.specs.Rational.{ℚ, whole, neg_ℚ, eq_ℚ}
use Rattle.hp_math.proofs.Parts.{whole-parts}
use Rattle.hp_math.proofs.Laws.{neg_ℚ-neg_ℚ}
use Rattle.hp_num.specs.Wide.{◌>>=◌}
use Rattle.hp_num.proofs.Given.{came}
use Rattle.hp_tree.specs.declared.problem.Sort.{Sort}
use Rattle.hp_tree.specs.declared.problem.Sort.TheVariants.{Num}
use Rattle.hp_tree.specs.declared.term.Term.{Term, fold-roll-Term, ind-Term, roll-Term, map-Term}
use Rattle.hp_tree.specs.declared.term.Term.TheOpen.{Term-F}
use Rattle.hp_tree.specs.Value.{Word}
use Rattle.hp_tree.proofs.Compares.{eq_ℚ-from}
use Rattle.hp_terms.specs.declared.forms.Forms.{Forms}
use Rattle.hp_terms.specs.Scope.{Scope}
use Rattle.hp_terms.specs.Sorting.{forms_of, forms_step, has_form, name_forms}
use Rattle.hp_lit.specs.declared.literal.Name.{Name}
use Rattle.hp_lit.specs.declared.line.LinPart.{LinPart}
use Rattle.hp_lit.specs.declared.line.Lin.{Lin}
use Rattle.hp_lit.specs.Words.{number, scope_over}
use Rattle.hp_linear.specs.Steps.{Refusable, behind}
use Rattle.hp_linear.specs.Lins.{copies, lin_of, lin_step, lin_with, minus_lin, named_lin, neg_lin, neg_part, number_lin, plus_lin, plus_parts, product_of, sum_of, times_lin, times_parts, unless_zero, word_lin}
use Rattle.hp_linear.specs.Fit.{IsLinOver, lin_names}
use Rattle.hp_linear.specs.Laws.{TermsHaveFitLins}
use Rattle.hp_linear.proofs.Refusals.{ok_same}
use Rattle.hp_linear.proofs.Fields.{neg_zero}
use Rattle.hp_linear.proofs.Naming.{num_word}

-- ---- coefficients
-- what is so of each coefficient other than 0, and of the negation of one of which it is so
pub record Keeps (P : ℚ → Type 0) : Type 0 where
  pub some : (c : ℚ) → (c ≡ whole (pos 0) → ⊥) → P c
  pub negated : (c : ℚ) → P c → P (neg_ℚ c)

abbrev pub IsSome : ℚ → Type 0
IsSome c = c ≡ whole (pos 0) → ⊥

abbrev pub IsAny : ℚ → Type 0
IsAny c = Unit {0}

pub keeps_some : Keeps IsSome
keeps_some = record { some = λ c h. h; negated = λ c h e. h (sym (neg_ℚ-neg_ℚ c) ∙ ap neg_ℚ e ∙ neg_zero) }

pub keeps_any : Keeps IsAny
keeps_any = record { some = λ c h. tt; negated = λ c h. tt }

one_some : IsSome (whole (pos 1))
one_some e = let n : pos 1 ≡ pos 0 = sym (whole-parts (pos 1)).0 ∙ ap (λ q. q.num) e ∙ (whole-parts (pos 0)).0 in omega (arith, ints)

-- ---- summands
-- a name at or after a place, of sort num, with a coefficient of which this is so
pub record IsFitPart (P : ℚ → Type 0) (sorts : List Sort) (from : ℕ) (s : LinPart) : Type 0 where
  pub rising : from ≤ s.name.0
  pub sort : slice_get sorts s.name.0 ≡ Some Num
  pub coef : P s.coef

unfoldable pub AreFit : (ℚ → Type 0) → List Sort → ℕ → List LinPart → Type 0
AreFit P sorts from [] = Unit {0}
AreFit P sorts from (s ∷ ss) = IsFitPart P sorts from s × AreFit P sorts (suc s.name.0) ss

module _ (P : ℚ → Type 0) (keeps : Keeps P) (sorts : List Sort) where
  from_less : (from to : ℕ) (ss : List LinPart) → from ≤ to → AreFit P sorts to ss → AreFit P sorts from ss
  unfolding AreFit
  from_less from to [] h all = tt
  from_less from to (s ∷ ss) h all = (record { rising = let r = all.0.rising in omega arith; sort = all.0.sort; coef = all.0.coef }, all.1)

  unless_zero-fit : (from : ℕ) (name : Name) (c : ℚ) (ss : List LinPart) → from ≤ name.0 → slice_get sorts name.0 ≡ Some Num → AreFit P sorts (suc name.0) ss
      → AreFit P sorts from (unless_zero name c ++ ss)
  unfolding AreFit
  unless_zero-fit from name c ss h g all = (elim (eq_ℚ c (whole (pos 0))) as (λ t. eq_ℚ c (whole (pos 0)) ≡ t → AreFit P sorts from (cond t [] (copies name c ∷ []) ++ ss)) [
    | true ↦ λ t. from_less from (suc name.0) ss (omega arith) all
    | false ↦ λ t. (record { rising = h; sort = g; coef = keeps.some c (λ e. (let s = eq_ℚ-from c (whole (pos 0)) e in cc)) }, all)
  ]) refl

  -- a coefficient and the rest, neither of which was refused
  first_fit : (from : ℕ) (name : Name) (r : Refusable ℚ) (rest : Refusable (List LinPart)) (zs : List LinPart) → from ≤ name.0 → slice_get sorts name.0 ≡ Some Num
      → ((us : List LinPart) → rest ≡ Ok us → AreFit P sorts (suc name.0) us)
      → (r >>= λ d. behind (unless_zero name d) rest) ≡ Ok zs → AreFit P sorts from zs
  first_fit from name r rest zs h g fit e =
      let one = came r (λ d. behind (unless_zero name d) rest) zs e in
      let two = came rest (λ us. Ok (unless_zero name one.value ++ us)) zs one.rest in
      subst (AreFit P sorts from) (ok_same (unless_zero name one.value ++ two.value) zs two.rest)
      (unless_zero-fit from name one.value two.value h g (fit two.value two.first))

  in_front : (from : ℕ) (s : LinPart) (rest : Refusable (List LinPart)) (zs : List LinPart) → IsFitPart P sorts from s
      → ((us : List LinPart) → rest ≡ Ok us → AreFit P sorts (suc s.name.0) us) → behind (s ∷ []) rest ≡ Ok zs → AreFit P sorts from zs
  unfolding AreFit
  in_front from s rest zs h fit e =
      let one = came rest (λ us. Ok (s ∷ us)) zs e in
      subst (AreFit P sorts from) (ok_same (s ∷ one.value) zs one.rest) (h, fit one.value one.first)

  abbrev Merges : List LinPart → List LinPart → Type 0
  Merges xs ys = (from : ℕ) (zs : List LinPart) → AreFit P sorts from xs → AreFit P sorts from ys → plus_parts xs ys ≡ Ok zs → AreFit P sorts from zs

  module _ (x y : LinPart) (xs ys : List LinPart) where
    plus_step : Merges xs (y ∷ ys) → Merges (x ∷ xs) ys → Merges xs ys → (from : ℕ) (a b : Bool) (zs : List LinPart) → nat_lt x.name.0 y.name.0 ≡ a → nat_lt y.name.0 x.name.0 ≡ b
        → AreFit P sorts from (x ∷ xs) → AreFit P sorts from (y ∷ ys)
        → cond a (behind (x ∷ []) (plus_parts xs (y ∷ ys))) (cond b (behind (y ∷ []) (plus_parts (x ∷ xs) ys)) (sum_of x.coef y.coef >>= λ c. behind (unless_zero x.name c) (plus_parts xs ys))) ≡ Ok zs
        → AreFit P sorts from zs
    unfolding AreFit
    plus_step left right both from true b zs s t p q e =
        let less = ltb-true x.name.0 y.name.0 s in
        in_front from x (plus_parts xs (y ∷ ys)) zs p.0
        (λ us f. left (suc x.name.0) us p.1 (record { rising = omega arith; sort = q.0.sort; coef = q.0.coef }, q.1) f) e
    plus_step left right both from false true zs s t p q e =
        let less = ltb-true y.name.0 x.name.0 t in
        in_front from y (plus_parts (x ∷ xs) ys) zs q.0
        (λ us f. right (suc y.name.0) us (record { rising = omega arith; sort = p.0.sort; coef = p.0.coef }, p.1) q.1 f) e
    plus_step left right both from false false zs s t p q e =
        let same : y.name.0 ≡ x.name.0 = omega (arith, ltb-false x.name.0 y.name.0 s, ltb-false y.name.0 x.name.0 t) in
        first_fit from x.name (sum_of x.coef y.coef) (plus_parts xs ys) zs p.0.rising p.0.sort
        (λ us f. both (suc x.name.0) us p.1 (subst (λ n. AreFit P sorts (suc n) ys) same q.1) f) e

  plus_fit : (xs ys : List LinPart) → Merges xs ys
  plus_fit [] ys from zs p q e = subst (AreFit P sorts from) (ok_same ys zs e) q
  plus_fit (x ∷ xs) [] from zs p q e = subst (AreFit P sorts from) (ok_same (x ∷ xs) zs e) p
  plus_fit (x ∷ xs) (y ∷ ys) from zs p q e =
      plus_step x y xs ys (plus_fit xs (y ∷ ys)) (plus_fit (x ∷ xs) ys) (plus_fit xs ys) from (nat_lt x.name.0 y.name.0) (nat_lt y.name.0 x.name.0) zs refl refl p q e

  times_fit : (q : ℚ) (ss : List LinPart) (from : ℕ) (zs : List LinPart) → AreFit P sorts from ss → times_parts q ss ≡ Ok zs → AreFit P sorts from zs
  unfolding AreFit
  times_fit q [] from zs all e = subst (AreFit P sorts from) (ok_same [] zs e) tt
  times_fit q (s ∷ ss) from zs all e =
      first_fit from s.name (product_of q s.coef) (times_parts q ss) zs all.0.rising all.0.sort (λ us f. times_fit q ss (suc s.name.0) us all.1 f) e

  neg_fit : (ss : List LinPart) (from : ℕ) → AreFit P sorts from ss → AreFit P sorts from (map neg_part ss)
  unfolding AreFit
  neg_fit [] from all = tt
  neg_fit (s ∷ ss) from all = (record { rising = all.0.rising; sort = all.0.sort; coef = keeps.negated s.coef all.0.coef }, neg_fit ss (suc s.name.0) all.1)

  -- ---- forms
  abbrev pub IsFitLin : Lin → Type 0
  IsFitLin f = AreFit P sorts 0 f.parts

  plus_lin-fit : (f g h : Lin) → IsFitLin f → IsFitLin g → plus_lin f g ≡ Ok h → IsFitLin h
  plus_lin-fit f g h p q e =
      let one = came (plus_parts f.parts g.parts) (λ ss. sum_of f.rest g.rest >>= λ c. Ok (lin_with ss c)) h e in
      let two = came (sum_of f.rest g.rest) (λ c. Ok (lin_with one.value c)) h one.rest in
      subst IsFitLin (ok_same (lin_with one.value two.value) h two.rest) (plus_fit f.parts g.parts 0 one.value p q one.first)

  pub minus_lin-fit : (f g h : Lin) → IsFitLin f → IsFitLin g → minus_lin f g ≡ Ok h → IsFitLin h
  minus_lin-fit f g h p q e = plus_lin-fit f (neg_lin g) h p (neg_fit g.parts 0 q) e

  times_lin-fit : (q : ℚ) (f h : Lin) → IsFitLin f → times_lin q f ≡ Ok h → IsFitLin h
  times_lin-fit q f h p e =
      let one = came (times_parts q f.parts) (λ ss. product_of q f.rest >>= λ c. Ok (lin_with ss c)) h e in
      let two = came (product_of q f.rest) (λ c. Ok (lin_with one.value c)) h one.rest in
      subst IsFitLin (ok_same (lin_with one.value two.value) h two.rest) (times_fit q f.parts 0 one.value p one.first)

  -- ---- terms
  module _ (words : List Word) where
    abbrev scope : Scope
    scope = scope_over words sorts

    abbrev GivesFit : Refusable Lin → Type 0
    GivesFit r = (f : Lin) → r ≡ Ok f → IsFitLin f

    number_fit : (q : ℚ) → GivesFit (Ok (number_lin q))
    unfolding AreFit
    number_fit q f e = subst IsFitLin (ok_same (number_lin q) f e) tt

    named_lin-fit : (name : Name) → slice_get sorts name.0 ≡ Some Num → IsFitLin (named_lin name)
    unfolding AreFit
    named_lin-fit name sort = (record { rising = omega arith; sort = sort; coef = keeps.some (whole (pos 1)) one_some }, tt)

    named_fit : (n : Word) → has_form (name_forms (scope.name n)) Num ≡ true → GivesFit (Ok (word_lin (number words n)))
    named_fit n t f e =
        let is = num_word words sorts n t in
        subst IsFitLin (ok_same (named_lin is.name) f (ap (λ o. Ok (word_lin o)) (sym is.numbered) ∙ e)) (named_lin-fit is.name is.sort)

    both_fit : (op : Lin → Lin → Refusable Lin) (r s : Refusable Lin) → ((f g h : Lin) → IsFitLin f → IsFitLin g → op f g ≡ Ok h → IsFitLin h)
        → GivesFit r → GivesFit s → GivesFit (r >>= λ f. s >>= λ g. op f g)
    both_fit op r s fit p q h e =
        let one = came r (λ f. s >>= λ g. op f g) h e in
        let two = came s (λ g. op one.value g) h one.rest in
        fit one.value two.value h (p one.value one.first) (q two.value two.first) two.rest

    neg_gives : (r : Refusable Lin) → GivesFit r → GivesFit (r >>= λ f. Ok (neg_lin f))
    neg_gives r p h e =
        let one = came r (λ f. Ok (neg_lin f)) h e in
        subst IsFitLin (ok_same (neg_lin one.value) h one.rest) (neg_fit one.value.parts 0 (p one.value one.first))

    times_gives : (q : ℚ) (r : Refusable Lin) → GivesFit r → GivesFit (r >>= λ f. times_lin q f)
    times_gives q r p h e =
        let one = came r (λ f. times_lin q f) h e in
        times_lin-fit q one.value h (p one.value one.first) one.rest

    abbrev Fits : Term → Type 0
    Fits t = has_form (forms_of scope t) Num ≡ true → GivesFit (lin_of words t)

    step_fit : (y : Term-F ((t : Term) × Fits t))
        → has_form (forms_step scope (map-Term Term Forms (forms_of scope) (map-Term ((t : Term) × Fits t) Term (λ e. e.0) y))) Num ≡ true
        → GivesFit (lin_step words (map-Term Term (Refusable Lin) (lin_of words) (map-Term ((t : Term) × Fits t) Term (λ e. e.0) y)))
    step_fit (Term-F.Number q) = λ t. number_fit q
    step_fit Term-F.Null = λ t. absurd (cc)
    step_fit (Term-F.Name n) = λ t. named_fit n t
    step_fit (Term-F.Apply func args) = λ t. absurd (cc)
    step_fit (Term-F.Add a b) = λ t.
        let parts = and_parts (has_form (forms_of scope a.0) Num) (has_form (forms_of scope b.0) Num) t in
        both_fit plus_lin (lin_of words a.0) (lin_of words b.0) plus_lin-fit (a.1 parts.0) (b.1 parts.1)
    step_fit (Term-F.Sub a b) = λ t.
        let parts = and_parts (has_form (forms_of scope a.0) Num) (has_form (forms_of scope b.0) Num) t in
        both_fit minus_lin (lin_of words a.0) (lin_of words b.0) minus_lin-fit (a.1 parts.0) (b.1 parts.1)
    step_fit (Term-F.Neg a) = λ t. neg_gives (lin_of words a.0) (a.1 t)
    step_fit (Term-F.Scale q a) = λ t. times_gives q (lin_of words a.0) (a.1 t)

    layer_fit : (y : Term-F ((t : Term) × Fits t)) → Fits (roll-Term (map-Term ((t : Term) × Fits t) Term (λ e. e.0) y))
    layer_fit y =
        let z = map-Term ((t : Term) × Fits t) Term (λ e. e.0) y in
        λ t. subst GivesFit (sym (fold-roll-Term (Refusable Lin) (lin_step words) z))
        (step_fit y (sym (ap (λ (g : Forms). has_form g Num) (fold-roll-Term Forms (forms_step scope) z)) ∙ t))

    pub term_fit : (t : Term) → Fits t
    term_fit t = ind-Term Fits (λ x y is. subst (λ z. Fits (roll-Term z)) is (layer_fit y)) t

-- ---- the two ways to say that names rise
rising_out : (P : ℚ → Type 0) (sorts : List Sort) (from : ℕ) (ss : List LinPart) → AreFit P sorts from ss → IsStrictlyIncreasing (lin_names ss)
unfolding AreFit
rising_out P sorts from [] h k l = absurd (omega arith)
rising_out P sorts from (s ∷ []) h k l = absurd (omega arith)
rising_out P sorts from (s ∷ t ∷ ts) h zero l = h.1.0.rising
rising_out P sorts from (s ∷ t ∷ ts) h (suc k) l =
    let e : suc (k + 1) ≡ suc k + 1 = omega arith in
    subst (λ j. slice_index (lin_names (t ∷ ts)) k < slice_index (lin_names (s ∷ t ∷ ts)) j) e (rising_out P sorts (suc s.name.0) (t ∷ ts) h.1 k (omega arith))

rising_tail : (n : ℕ) (ns : List ℕ) → IsStrictlyIncreasing (n ∷ ns) → IsStrictlyIncreasing ns
rising_tail n ns h k b =
    let e : suc k + 1 ≡ suc (k + 1) = omega arith in
    subst (λ j. slice_index (n ∷ ns) (suc k) < slice_index (n ∷ ns) j) e (h (suc k) (omega arith))

abbrev IsNumName : List Sort → LinPart → Type 0
IsNumName sorts p = slice_get sorts p.name.0 ≡ Some Num

names_out : (P : ℚ → Type 0) (sorts : List Sort) (from : ℕ) (ss : List LinPart) → AreFit P sorts from ss → All (IsNumName sorts) ss
unfolding AreFit
names_out P sorts from [] h = All-nil (IsNumName sorts)
names_out P sorts from (s ∷ ss) h = All-cons (IsNumName sorts) s ss h.0.sort (names_out P sorts (suc s.name.0) ss h.1)

some_out : (sorts : List Sort) (from : ℕ) (ss : List LinPart) → AreFit IsSome sorts from ss → All (λ p. IsSome p.coef) ss
unfolding AreFit
some_out sorts from [] h = All-nil (λ (p : LinPart). IsSome p.coef)
some_out sorts from (s ∷ ss) h = All-cons (λ (p : LinPart). IsSome p.coef) s ss h.0.coef (some_out sorts (suc s.name.0) ss h.1)

parts_in : (sorts : List Sort) (from : ℕ) (ss : List LinPart) → ((n : ℕ) (ns : List ℕ) → lin_names ss ≡ n ∷ ns → from ≤ n) → IsStrictlyIncreasing (lin_names ss) → All (IsNumName sorts) ss
    → AreFit IsAny sorts from ss
unfolding AreFit
parts_in sorts from [] first rising names = tt
parts_in sorts from (s ∷ []) first rising names = (record { rising = first s.name.0 [] refl; sort = All-head (IsNumName sorts) s [] names; coef = tt }, tt)
parts_in sorts from (s ∷ t ∷ ts) first rising names =
    let below : s.name.0 < t.name.0 = rising 0 (omega arith) in (
      record { rising = first s.name.0 (lin_names (t ∷ ts)) refl; sort = All-head (IsNumName sorts) s (t ∷ ts) names; coef = tt },
      parts_in sorts (suc s.name.0) (t ∷ ts) (λ n ns e. subst (λ m. suc s.name.0 ≤ m) (ap (λ (xs : List ℕ). elim xs [ [] ↦ t.name.0 | x ∷ xs ↦ x ]) e) below) (rising_tail s.name.0 (lin_names (t ∷ ts)) rising)
          (All-tail (IsNumName sorts) s (t ∷ ts) names),
    )

pub lin_in : (sorts : List Sort) (f : Lin) → IsLinOver sorts f → AreFit IsAny sorts 0 f.parts
lin_in sorts f h = parts_in sorts 0 f.parts (λ n ns e. omega arith) h.rising h.names

pub lin_out : (P : ℚ → Type 0) (sorts : List Sort) (f : Lin) → AreFit P sorts 0 f.parts → IsLinOver sorts f
lin_out P sorts f h = record { rising = rising_out P sorts 0 f.parts h; names = names_out P sorts 0 f.parts h }

pub number_lin-over : (sorts : List Sort) (q : ℚ) → IsLinOver sorts (number_lin q)
unfolding AreFit
number_lin-over sorts q = lin_out IsAny sorts (number_lin q) tt

pub named_lin-over : (sorts : List Sort) (name : Name) → slice_get sorts name.0 ≡ Some Num → IsLinOver sorts (named_lin name)
named_lin-over sorts name sort = lin_out IsAny sorts (named_lin name) (named_lin-fit IsAny keeps_any sorts [] name sort)

pub terms_have_fit_lins : TermsHaveFitLins
terms_have_fit_lins words sorts term f is e =
    let fit = term_fit IsSome keeps_some sorts words term is f e in
    (lin_out IsSome sorts f fit, some_out sorts 0 f.parts fit)
