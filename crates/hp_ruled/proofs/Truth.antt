-- Guards by their rows: they are true exactly where all rows are, so equal rows make equal guards.
use Rattle.std.proofs.Common.{◌≡◌, ◌↔◌, ◌<◌, ℕ, zero, suc, ◌+◌, not, List, [], ◌∷◌, ◌++◌, map, length, Bool, true, false, ◌||◌, Some, None, Ok, refl, sym, ap, subst, ◌∙◌, arith, inl, inr, cond}
use Rattle.std.specs.Prelude.{slice_get, position, option_and_then, neg_ℤ}
use Rattle.std.specs.List.{All, list_any, position_or_len}
use Rattle.std.specs.Str.{bytes_eq}
use Rattle.std.proofs.lemmas.Bool.{and_from, and_parts, lt-ltb}
use Rattle.std.proofs.lemmas.List.Elements.{All-cons, All-head, All-nil, All-tail}
use Rattle.std.proofs.lemmas.List.Quantifiers.{position-Some}
use Rattle.std.proofs.lemmas.Option.{slice_get-get_or, slice_get-map}
use Rattle.hp_num.proofs.Given as given
use Rattle.hp_num.specs.Wide.{◌>>=◌}
use Rattle.hp_tree.specs.Sides.{signed}
use Rattle.hp_tree.specs.declared.problem.Atom.{Atom}
use Rattle.hp_tree.specs.declared.problem.Cmp.{Cmp}
use Rattle.hp_tree.specs.declared.problem.Cmp.TheVariants.{Le, Lt, Eq, Ne, Ge, Gt}
use Rattle.hp_tree.specs.declared.problem.Sort.{Sort}
use Rattle.hp_tree.specs.declared.problem.Sort.TheVariants.{Num}
use Rattle.hp_tree.specs.Value.{Word, Environment, Functions, all_true, atom_is_true}
use Rattle.hp_terms.specs.Scope.{Scope}
use Rattle.hp_terms.specs.Sorting.{is_sorted}
use Rattle.hp_lit.specs.declared.line.Lin.{Lin}
use Rattle.hp_lit.specs.declared.literal.Lit.{Lit}
use Rattle.hp_lit.specs.declared.literal.Lit.TheVariants as lit
use Rattle.hp_lit.specs.declared.literal.NumLit.{NumLit}
use Rattle.hp_lit.specs.declared.literal.Rel.{Rel}
use Rattle.hp_lit.specs.declared.literal.Rel.TheVariants as rel
use Rattle.hp_lit.specs.Fit.{IsFit, IsNumFit}
use Rattle.hp_lit.specs.Truth.{Values, NumIsTrue}
use Rattle.hp_lit.specs.Words.{Agrees, scope_over}
use Rattle.hp_linear.specs.Lins.{lin_of, minus_lin}
use Rattle.hp_linear.specs.Literals.{compared, lin_literals, literals, one_literal, row_literal}
use Rattle.hp_linear.specs.Wholes.{row_of}
use Rattle.hp_linear.proofs.Truth.{literals_are_true_with_atoms}
use Rattle.hp_linear.proofs.FitRows.{literals_are_fit}
use Rattle.hp_rules.specs.Rules.{num_rows, rows_of}
use Rattle.hp_index_set.specs.Rules.{is_convex}
use Rattle.hp_ruled.proofs.Reading.{ok_is}

-- ---- words
any_within : {X : Type 0} (p : X → Bool) (xs : List X) → list_any p xs ≡ true → position_or_len p xs < length xs
any_within p [] e = absurd (cc)
any_within p (x ∷ xs) e = by (p x) e (any_within p xs)
  where
    by : (b : Bool) → (b || list_any p xs) ≡ true → (list_any p xs ≡ true → position_or_len p xs < length xs) → cond (not b) (1 + position_or_len p xs) 0 < suc (length xs)
    by true e rest = omega arith
    by false e rest = let h = rest e in omega (arith, h)

pub any_place : {X : Type 0} (p : X → Bool) (xs : List X) → list_any p xs ≡ true → (k : ℕ) × (position p xs ≡ Some k)
any_place p xs e = (position_or_len p xs, ap (λ b. cond b (Some (position_or_len p xs)) None) (lt-ltb (position_or_len p xs) (length xs) (any_within p xs e)))

abbrev pub num_sorts : List Word → List Sort
num_sorts words = map (λ (w : Word). Num) words

-- each of the words, as a num
abbrev pub num_scope : List Word → Scope
num_scope words = scope_over words (num_sorts words)

pub named_num : (words : List Word) (word : Word) → list_any (bytes_eq word) words ≡ true → (num_scope words).name word ≡ Some Num
named_num words word e =
    let at = any_place (bytes_eq word) words e in
    let found = position-Some (bytes_eq word) words at.0 [] at.1 in
    ap (option_and_then (λ k. slice_get (num_sorts words) k)) at.1
    ∙ slice_get-map (λ (w : Word). Num) words at.0
    ∙ ap (λ o. (elim o [ None ↦ None | Some w ↦ Some Num ])) (slice_get-get_or words at.0 [] found.0)

-- the values that an environment gives the words
abbrev pub values_of : Environment → List Word → Values
values_of env words = map env words

pub words_agree : (env : Environment) (words : List Word) → Agrees words (values_of env words) env
words_agree env [] k word e = absurd (cc)
words_agree env (w ∷ words) zero word e = let is : w ≡ word = cc in ap env (sym is)
words_agree env (w ∷ words) (suc k) word e = words_agree env words k word e

-- ---- one literal
one_row : (r : Rel) (left right : Lin) (lits : List Lit) → one_literal r left right ≡ Ok lits → (l : NumLit) × (lits ≡ lit.Num l ∷ [])
one_row r left right lits e =
    let s = given.came (compared r left right) (λ l. Ok (l ∷ [])) lits e in
    let t = given.came (minus_lin left right) (λ f. row_of f >>= λ w. Ok (row_literal r w)) s.value s.first in
    let u = given.came (row_of t.value) (λ w. Ok (row_literal r w)) s.value t.rest in
    let is : row_literal r u.value ≡ s.value = cc in
    let all : s.value ∷ [] ≡ lits = cc in
    (record { rel = r; parts = u.value.parts; bound = neg_ℤ u.value.constant }, sym all ∙ ap (λ z. z ∷ []) (sym is))

convex_row : (cmp : Cmp) (left right : Lin) (lits : List Lit) → is_convex cmp ≡ true → lin_literals cmp left right ≡ Ok lits → (l : NumLit) × (lits ≡ lit.Num l ∷ [])
convex_row Le left right lits c e = one_row rel.Le left right lits e
convex_row Lt left right lits c e = one_row rel.Lt left right lits e
convex_row Eq left right lits c e = one_row rel.Eq left right lits e
convex_row Ne left right lits c e = absurd (cc)
convex_row Ge left right lits c e = one_row rel.Le right left lits e
convex_row Gt left right lits c e = one_row rel.Lt right left lits e

atom_row : (words : List Word) (atom : Atom) (lits : List Lit) → is_convex atom.cmp ≡ true → literals words true atom ≡ Ok lits → (l : NumLit) × (lits ≡ lit.Num l ∷ [])
atom_row words atom lits c e =
    let s = given.came (lin_of words atom.left) (λ left. lin_of words atom.right >>= λ right. lin_literals (signed true atom.cmp) left right) lits e in
    let t = given.came (lin_of words atom.right) (λ right. lin_literals (signed true atom.cmp) s.value right) lits s.rest in
    convex_row atom.cmp s.value t.value lits c t.rest

-- ---- guards
module _ (words : List Word) where
  pub record IsRowed (atom : Atom) : Type 0 where
    pub sorted : is_sorted (num_scope words) Num atom ≡ true
    pub convex : is_convex atom.cmp ≡ true

  pub record Rows (atom : Atom) (atoms : List Atom) (rows : List NumLit) : Type 0 where
    pub first : NumLit
    pub rest : List NumLit
    pub formed : literals words true atom ≡ Ok (lit.Num first ∷ [])
    pub more : rows_of words atoms ≡ Ok rest
    pub all : first ∷ rest ≡ rows

  pub rows_split : (atom : Atom) (atoms : List Atom) (rows : List NumLit) → is_convex atom.cmp ≡ true → rows_of words (atom ∷ atoms) ≡ Ok rows → Rows atom atoms rows
  rows_split atom atoms rows c e =
      let s = given.came (literals words true atom) (λ lits. rows_of words atoms >>= λ more. Ok (num_rows lits ++ more)) rows e in
      let t = given.came (rows_of words atoms) (λ more. Ok (num_rows s.value ++ more)) rows s.rest in
      let one = atom_row words atom s.value c s.first in
      record {
        first = one.0;
        rest = t.value;
        formed = s.first ∙ ap (λ ls. Ok ls) one.1;
        more = t.first;
        all = ap (λ ls. num_rows ls ++ t.value) (sym one.1) ∙ ok_is (num_rows s.value ++ t.value) rows t.rest;
      }

  module _ (v : Values) (env : Environment) (functions : Functions) (agrees : Agrees words v env) where
    row_true : (atom : Atom) (l : NumLit) → IsRowed atom → literals words true atom ≡ Ok (lit.Num l ∷ []) → NumIsTrue v l ↔ (atom_is_true env functions atom ≡ true)
    row_true atom l is e =
        let says = literals_are_true_with_atoms words (num_sorts words) v env functions true atom (lit.Num l ∷ []) agrees is.sorted e in
        (λ h. says.0 (inl h), λ t. elim (says.1 t) [ inl h ↦ h | inr n ↦ absurd n ])

    pub rows_true : (atoms : List Atom) (rows : List NumLit) → All IsRowed atoms → rows_of words atoms ≡ Ok rows → All (NumIsTrue v) rows ↔ (all_true env functions atoms ≡ true)
    rows_true [] rows is e = (λ h. refl, λ t. subst (All (NumIsTrue v)) (ok_is [] rows e) (All-nil (NumIsTrue v)))
    rows_true (atom ∷ atoms) rows is e =
        let here = All-head IsRowed atom atoms is in
        let s = rows_split atom atoms rows here.convex e in
        let first = row_true atom s.first here s.formed in
        let rest = rows_true atoms s.rest (All-tail IsRowed atom atoms is) s.more in (
          λ h. (let all = subst (All (NumIsTrue v)) (sym s.all) h in
              and_from (atom_is_true env functions atom) (all_true env functions atoms) (first.0 (All-head (NumIsTrue v) s.first s.rest all)) (rest.0 (All-tail (NumIsTrue v) s.first s.rest all))),
          λ t. (let both = and_parts (atom_is_true env functions atom) (all_true env functions atoms) t in
              subst (All (NumIsTrue v)) s.all (All-cons (NumIsTrue v) s.first s.rest (first.1 both.0) (rest.1 both.1))),
        )

  same_tests : (a b : Bool) → (a ≡ true → b ≡ true) → (b ≡ true → a ≡ true) → a ≡ b
  same_tests true b f g = sym (f refl)
  same_tests false true f g = g refl
  same_tests false false f g = refl

  pub same_guards : (guard other : List Atom) (rows : List NumLit) → All IsRowed guard → All IsRowed other → rows_of words guard ≡ Ok rows → rows_of words other ≡ Ok rows
      → (env : Environment) (functions : Functions) → all_true env functions guard ≡ all_true env functions other
  same_guards guard other rows p q e f env functions =
      let v = values_of env words in
      let one = rows_true v env functions (words_agree env words) guard rows p e in
      let two = rows_true v env functions (words_agree env words) other rows q f in
      same_tests (all_true env functions guard) (all_true env functions other) (λ t. two.0 (one.1 t)) (λ t. one.0 (two.1 t))

  -- ---- rows can be decided
  pub rows_fit : (atoms : List Atom) (rows : List NumLit) → All IsRowed atoms → rows_of words atoms ≡ Ok rows → All IsNumFit rows
  rows_fit [] rows is e = subst (All IsNumFit) (ok_is [] rows e) (All-nil IsNumFit)
  rows_fit (atom ∷ atoms) rows is e =
      let here = All-head IsRowed atom atoms is in
      let s = rows_split atom atoms rows here.convex e in
      let fit = literals_are_fit words (num_sorts words) true atom (lit.Num s.first ∷ []) here.sorted s.formed in
      subst (All IsNumFit) s.all (All-cons IsNumFit s.first s.rest (All-head (IsFit (num_sorts words)) (lit.Num s.first) [] fit.0).fit (rows_fit atoms s.rest (All-tail IsRowed atom atoms is) s.more))
