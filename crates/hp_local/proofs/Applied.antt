-- Values depend on the functions that are applied alone, by induction over terms.
use Rattle.std.proofs.Common.{◌≡◌, List, [], ◌∷◌, map, subst, Bool, ◌&&◌, ◌||◌, not, IsTrue, refl, ap, ◌∙◌, cond}
use Rattle.std.specs.List.{list_all}
use Rattle.hp_math.specs.Rational.{ℚ, ◌+ℚ◌, ◌-ℚ◌, ◌*ℚ◌, neg_ℚ}
use Rattle.hp_tree.specs.declared.term.Term.{Term, fold-roll-Term, ind-Term, roll-Term, map-Term}
use Rattle.hp_tree.specs.declared.term.Term.TheOpen.{Term-F}
use Rattle.hp_tree.specs.declared.problem.Atom.{Atom}
use Rattle.hp_tree.specs.Universal.{Universal, assign, clause_at, HoldsAll}
use Rattle.hp_tree.specs.Value.{Word, Environment, Functions, value, compares, atom_is_true, all_true, one_true}
use Rattle.hp_model.specs.declared.structure.Row.{Row}
use Rattle.hp_model.specs.Value.{rows_value}
use Rattle.hp_local.proofs.Tests.{both}
use Rattle.hp_local.specs.Applied.{applies_only, atom_applies, clause_applies, row_applies, ValuesAreLocal}
use Rattle.std.specs.Prelude.{ℕ}

-- two functions that agree where the test is passed
module _ (names : Environment) (f g : Functions) (test : Word → Bool) (agree : (word : Word) → IsTrue (test word) → (args : List ℚ) → f word args ≡ g word args) where
  abbrev Same : Term → Type 0
  Same t = IsTrue (applies_only test t) → value names f t ≡ value names g t

  arguments : (ts : List ((t : Term) × Same t)) → IsTrue (list_all (λ b. b) (map (applies_only test) (map (λ e. e.0) ts)))
      → map (value names f) (map (λ e. e.0) ts) ≡ map (value names g) (map (λ e. e.0) ts)
  arguments [] h = refl
  arguments (t ∷ ts) h = let k = both _ _ h in λ i. t.1 k.0 i ∷ arguments ts k.1 i

  layer : (y : Term-F ((t : Term) × Same t)) → Same (roll-Term (map-Term ((t : Term) × Same t) Term (λ e. e.0) y))
  layer (Term-F.Number n) h = simp fold-roll-Term
  layer Term-F.Null h = simp fold-roll-Term
  layer (Term-F.Name n) h = simp fold-roll-Term
  layer (Term-F.Apply func args) h =
      let k = both _ _ (simp fold-roll-Term at h) in
      simp fold-roll-Term (agree func k.0 _ ∙ ap (g func) (arguments args k.1))
  layer (Term-F.Add a b) h = let k = both _ _ (simp fold-roll-Term at h) in simp fold-roll-Term (λ i. a.1 k.0 i +ℚ b.1 k.1 i)
  layer (Term-F.Sub a b) h = let k = both _ _ (simp fold-roll-Term at h) in simp fold-roll-Term (λ i. a.1 k.0 i -ℚ b.1 k.1 i)
  layer (Term-F.Neg a) h = let k = simp fold-roll-Term at h in simp fold-roll-Term (λ i. neg_ℚ (a.1 k i))
  layer (Term-F.Scale n a) h = let k = simp fold-roll-Term at h in simp fold-roll-Term (λ i. n *ℚ a.1 k i)

pub values_are_local : ValuesAreLocal
values_are_local names f g test agree t =
    ind-Term (Same names f g test agree) (λ x y is. subst (λ z. Same names f g test agree (roll-Term z)) is (layer names f g test agree y)) t

module _ (f g : Functions) (test : Word → Bool) (agree : (word : Word) → IsTrue (test word) → (args : List ℚ) → f word args ≡ g word args) where
  pub atom_local : (names : Environment) (a : Atom) → IsTrue (atom_applies test a) → atom_is_true names f a ≡ atom_is_true names g a
  atom_local names a h =
      let k = both _ _ h in
      λ i. compares a.cmp (values_are_local names f g test agree a.left k.0 i) (values_are_local names f g test agree a.right k.1 i)

  pub all_local : (names : Environment) (atoms : List Atom) → IsTrue (list_all (atom_applies test) atoms) → all_true names f atoms ≡ all_true names g atoms
  all_local names [] h = refl
  all_local names (a ∷ atoms) h = let k = both _ _ h in λ i. atom_local names a k.0 i && all_local names atoms k.1 i

  one_local : (names : Environment) (atoms : List Atom) → IsTrue (list_all (atom_applies test) atoms) → one_true names f atoms ≡ one_true names g atoms
  one_local names [] h = refl
  one_local names (a ∷ atoms) h = let k = both _ _ h in λ i. atom_local names a k.0 i || one_local names atoms k.1 i

  pub rows_local : (names : Environment) (rows : List Row) (last : Term) → IsTrue (list_all (row_applies test) rows) → IsTrue (applies_only test last)
      → rows_value names f rows last ≡ rows_value names g rows last
  rows_local names [] last h k = values_are_local names f g test agree last k
  rows_local names (r ∷ rows) last h k =
      let j = both _ _ h in
      let n = both _ _ j.0 in
      λ i. cond (all_local names r.guard n.0 i) (values_are_local names f g test agree r.value n.1 i) (rows_local names rows last j.1 k i)

  clause_local : (names : Environment) (u : Universal) → IsTrue (clause_applies test u) → (xs : List ℚ) → clause_at names f u xs ≡ clause_at names g u xs
  clause_local names u h xs =
      let k = both _ _ h in
      λ i. not (all_local (assign u.vars xs names) u.guard k.0 i) || one_local (assign u.vars xs names) u.head k.1 i

  pub holds_local : (size : ℕ) (names : Environment) (u : Universal) → IsTrue (clause_applies test u) → HoldsAll size names f u → HoldsAll size names g u
  holds_local size names u h k xs s = subst (λ b. IsTrue b) (clause_local names u h xs) (k xs s)
