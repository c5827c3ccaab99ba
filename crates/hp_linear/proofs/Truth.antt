-- One of the literals that compare two forms is true exactly where their values stand in the relation, and one of those
-- of an atom where the atom is as its sign says.
use Rattle.std.proofs.Common.{◌≡◌, ◌↔◌, ◌⊎◌, Bool, true, false, not, List, [], ◌∷◌, Ok, refl, sym, subst, ◌∙◌, inl, inr}
use Rattle.hp_math.specs.Rational.{ℚ, ◌<ℚ◌, le_ℚ, lt_ℚ, eq_ℚ}
use Rattle.hp_math.proofs.Field.{le_ℚ-true, lt_ℚ-true}
use Rattle.hp_num.specs.Wide.{◌>>=◌}
use Rattle.hp_num.proofs.Given.{came}
use Rattle.hp_tree.specs.declared.problem.Cmp.{Cmp}
use Rattle.hp_tree.specs.declared.problem.Cmp.TheVariants.{Le, Lt, Eq, Ne, Ge, Gt}
use Rattle.hp_lit.specs.declared.literal.Rel.{Rel}
use Rattle.hp_lit.specs.declared.literal.Rel.TheVariants as rel
use Rattle.hp_lit.specs.declared.literal.Lit.{Lit}
use Rattle.hp_lit.specs.Truth.{Values, Compares, LineIsTrue}
use Rattle.hp_lit.specs.Words.{scope_over}
use Rattle.hp_tree.specs.Value.{compares}
use Rattle.hp_tree.proofs.Compares.{eq_ℚ-from, eq_ℚ-true, le_ℚ-from, less_differs, lt_ℚ-from, more_differs, not_true, one_less, compares-signed}
use Rattle.hp_lit.specs.declared.line.Lin.{Lin}
use Rattle.hp_linear.specs.Lins.{lin_of}
use Rattle.hp_tree.specs.Sides.{signed}
use Rattle.hp_linear.specs.Literals.{apart_literals, compared, lin_literals, one_literal}
use Rattle.hp_linear.specs.Values.{Stands, lin_value}
use Rattle.hp_linear.specs.Laws.{LinLiteralsCompare, LiteralsAreTrueWithAtoms}
use Rattle.hp_linear.proofs.Comparisons.{and_then, turned}
use Rattle.hp_linear.proofs.Naming.{num_sides}
use Rattle.hp_linear.proofs.Refusals.{ok_same}
use Rattle.hp_linear.proofs.Rows.{compared_true}
use Rattle.hp_linear.proofs.Semantics.{terms_have_lin_values}

-- ---- the tests of an atom
le_test : (a b : ℚ) → Compares rel.Le a b ↔ (le_ℚ a b ≡ true)
le_test a b = (le_ℚ-from a b, le_ℚ-true a b)

lt_test : (a b : ℚ) → Compares rel.Lt a b ↔ (lt_ℚ a b ≡ true)
lt_test a b = (lt_ℚ-from a b, lt_ℚ-true a b)

eq_test : (a b : ℚ) → Compares rel.Eq a b ↔ (eq_ℚ a b ≡ true)
eq_test a b = (eq_ℚ-from a b, eq_ℚ-true a b)

module _ (v : Values) where
  -- ---- one literal, and two
  abbrev Says : List Lit → Bool → Type 0
  Says lits test = LineIsTrue v lits ↔ (test ≡ true)

  one_says : (r : Rel) (l m : Lin) (test : Bool) (lits : List Lit) → Compares r (lin_value v l) (lin_value v m) ↔ (test ≡ true) → one_literal r l m ≡ Ok lits → Says lits test
  one_says r l m test lits is e =
      let one = came (compared r l m) (λ x. Ok (x ∷ [])) lits e in
      let both = and_then (compared_true v r l m one.value one.first) is in
      subst (λ (xs : List Lit). Says xs test) (ok_same (one.value ∷ []) lits one.rest) (λ h. only h both.0, λ t. inl (both.1 t))
    where
      only : {A B : Type 0} → A ⊎ ⊥ → (A → B) → B
      only (inl a) f = f a
      only (inr a) f = absurd a

  apart_says : (l m : Lin) (lits : List Lit) → apart_literals l m ≡ Ok lits → Says lits (not (eq_ℚ (lin_value v l) (lin_value v m)))
  apart_says l m lits e =
      let a = lin_value v l in
      let b = lin_value v m in
      let one = came (compared rel.Lt l m) (λ x. compared rel.Lt m l >>= λ y. Ok (x ∷ y ∷ [])) lits e in
      let two = came (compared rel.Lt m l) (λ y. Ok (one.value ∷ y ∷ [])) lits one.rest in
      let less = compared_true v rel.Lt l m one.value one.first in
      let more = compared_true v rel.Lt m l two.value two.first in
      subst (λ (xs : List Lit). Says xs (not (eq_ℚ a b))) (ok_same (one.value ∷ two.value ∷ []) lits two.rest)
      (λ h. differs a b less.0 more.0 h, λ t. either less.1 more.1 (one_less a b (not_true (eq_ℚ a b) t)))
    where
      differs : (a b : ℚ) {A B : Type 0} → (A → a <ℚ b) → (B → b <ℚ a) → A ⊎ (B ⊎ ⊥) → not (eq_ℚ a b) ≡ true
      differs a b f g (inl h) = less_differs a b (f h)
      differs a b f g (inr (inl h)) = more_differs a b (g h)
      differs a b f g (inr (inr h)) = absurd h

      either : {A B C D : Type 0} → (A → C) → (B → D) → A ⊎ B → C ⊎ (D ⊎ ⊥)
      either f g (inl h) = inl (f h)
      either f g (inr h) = inr (inl (g h))

  pub literals_say : (cmp : Cmp) (l m : Lin) (lits : List Lit) → lin_literals cmp l m ≡ Ok lits → Says lits (compares cmp (lin_value v l) (lin_value v m))
  literals_say Le l m lits e = one_says rel.Le l m (le_ℚ (lin_value v l) (lin_value v m)) lits (le_test (lin_value v l) (lin_value v m)) e
  literals_say Lt l m lits e = one_says rel.Lt l m (lt_ℚ (lin_value v l) (lin_value v m)) lits (lt_test (lin_value v l) (lin_value v m)) e
  literals_say Eq l m lits e = one_says rel.Eq l m (eq_ℚ (lin_value v l) (lin_value v m)) lits (eq_test (lin_value v l) (lin_value v m)) e
  literals_say Ne l m lits e = apart_says l m lits e
  literals_say Ge l m lits e = one_says rel.Le m l (le_ℚ (lin_value v m) (lin_value v l)) lits (le_test (lin_value v m) (lin_value v l)) e
  literals_say Gt l m lits e = one_says rel.Lt m l (lt_ℚ (lin_value v m) (lin_value v l)) lits (lt_test (lin_value v m) (lin_value v l)) e

-- ---- relations
differ_test : (a b : ℚ) → (not (eq_ℚ a b) ≡ true) ↔ (a ≡ b → ⊥)
differ_test a b = by (eq_ℚ a b) (eq_test a b)
  where
    by : (t : Bool) → (a ≡ b) ↔ (t ≡ true) → (not t ≡ true) ↔ (a ≡ b → ⊥)
    by true is = (λ e. absurd (cc), λ h. absurd (h (is.1 refl)))
    by false is = (λ e h. let t = is.0 h in cc, λ h. refl)

test_stands : (cmp : Cmp) (a b : ℚ) → (compares cmp a b ≡ true) ↔ Stands cmp a b
test_stands Le a b = turned (le_test a b)
test_stands Lt a b = turned (lt_test a b)
test_stands Eq a b = turned (eq_test a b)
test_stands Ne a b = differ_test a b
test_stands Ge a b = turned (le_test b a)
test_stands Gt a b = turned (lt_test b a)

pub lin_literals_compare : LinLiteralsCompare
lin_literals_compare v cmp left right lits e = and_then (literals_say v cmp left right lits e) (test_stands cmp (lin_value v left) (lin_value v right))

-- ---- atoms
pub literals_are_true_with_atoms : LiteralsAreTrueWithAtoms
literals_are_true_with_atoms words sorts v env functions positive atom lits agrees sorted e =
    let scope = scope_over words sorts in
    let cmp = signed positive atom.cmp in
    let sides = num_sides scope atom sorted in
    let one = came (lin_of words atom.left) (λ l. lin_of words atom.right >>= λ r. lin_literals cmp l r) lits e in
    let two = came (lin_of words atom.right) (λ r. lin_literals cmp one.value r) lits one.rest in
    let left = terms_have_lin_values words sorts v env functions atom.left one.value agrees sides.0 one.first in
    let right = terms_have_lin_values words sorts v env functions atom.right two.value agrees sides.1 two.first in
    and_then (literals_say v cmp one.value two.value lits two.rest)
    (subst (λ (b : Bool). (compares cmp (lin_value v one.value) (lin_value v two.value) ≡ true) ↔ (b ≡ positive)) (λ i. compares atom.cmp (sym left i) (sym right i))
    (compares-signed positive atom.cmp (lin_value v one.value) (lin_value v two.value)))
