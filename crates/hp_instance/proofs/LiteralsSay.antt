-- The literals of flat atoms, each formed by the sort that its atom has in the clause, and what they say together.
use Rattle.std.proofs.Common.{◌≡◌, ◌↔◌, ◌⊎◌, ◌||◌, ◌++◌, Bool, true, false, not, List, [], ◌∷◌, Ok, refl, subst, inl, inr}
use Rattle.std.specs.List.{All, AllZip}
use Rattle.std.proofs.lemmas.Bool.{and_cases, and_left, and_right, not-true, not_from_false, or_cases, or_left, or_right}
use Rattle.std.proofs.lemmas.List.Elements.{All-nil, All-append}
use Rattle.hp_num.proofs.Given as given
use Rattle.hp_tree.specs.declared.problem.Sort.{Sort}
use Rattle.hp_tree.specs.declared.problem.Sort.TheVariants.{Num, Idx, Ptr}
use Rattle.hp_tree.specs.declared.problem.Atom.{Atom}
use Rattle.hp_tree.specs.Sides.{signed}
use Rattle.hp_tree.specs.Value.{Word, Environment, Functions, all_true, atom_is_true, one_true}
use Rattle.hp_terms.specs.Scope.{Scope}
use Rattle.hp_terms.specs.Sorting.{is_sorted, sort_of}
use Rattle.hp_lit.specs.declared.literal.Lit.{Lit}
use Rattle.hp_lit.specs.Fit.{IsFit}
use Rattle.hp_lit.specs.Sorts.{HaveSorts}
use Rattle.hp_lit.specs.Truth.{Values, LineIsTrue}
use Rattle.hp_lit.specs.Words.{Agrees, scope_over}
use Rattle.hp_linear.specs.Steps.{behind}
use Rattle.hp_linear.proofs.Refusals.{ok_same}
use Rattle.hp_defs.specs.Names.{NameList, sorts, words}
use Rattle.hp_base.specs.Lines.{flat_scope, literals_as}
use Rattle.hp_base.proofs.Literals.{literals_say}
use Rattle.hp_linear.proofs.FitRows as num_fit
use Rattle.hp_index.proofs.Fits as idx_fit
use Rattle.hp_index.proofs.Truth.{sorted_parts}
use Rattle.hp_index.specs.Forms.{index_of}
use Rattle.hp_index.specs.Literals.{literals as idx_literals}
use Rattle.hp_index.specs.Pointers.{ptr_literals}
use Rattle.hp_instance.specs.Instances.{IsLightFor, atom_sorts, literals_of, sorted_literals}

-- ---- lists of literals
both_lines : (v : Values) (xs ys : List Lit) → LineIsTrue v (xs ++ ys) ↔ (LineIsTrue v xs ⊎ LineIsTrue v ys)
both_lines v [] ys = (λ h. inr h, λ h. elim h [ inl a ↦ absurd a | inr b ↦ b ])
both_lines v (x ∷ xs) ys =
    let rest = both_lines v xs ys in (
      λ h. elim h [ inl a ↦ inl (inl a) | inr b ↦ elim (rest.0 b) [ inl c ↦ inl (inr c) | inr d ↦ inr d ] ],
      λ h. elim h [ inl a ↦ elim a [ inl c ↦ inl c | inr d ↦ inr (rest.1 (inl d)) ] | inr b ↦ inr (rest.1 (inr b)) ],
    )

either_way : {A B C D : Type 0} → A ↔ C → B ↔ D → (A ⊎ B) ↔ (C ⊎ D)
either_way f g = (λ h. elim h [ inl a ↦ inl (f.0 a) | inr b ↦ inr (g.0 b) ], λ h. elim h [ inl c ↦ inl (f.1 c) | inr d ↦ inr (g.1 d) ])

both_ways : {A B C : Type 0} → A ↔ B → B ↔ C → A ↔ C
both_ways f g = (λ a. g.0 (f.0 a), λ c. f.1 (g.1 c))

-- ---- atoms that have the truth value that is asked for
abbrev HasOne : Environment → Functions → Bool → List Atom → Type 0
HasOne env functions positive [] = ⊥
HasOne env functions positive (atom ∷ atoms) = (atom_is_true env functions atom ≡ positive) ⊎ HasOne env functions positive atoms

one_false : (env : Environment) (functions : Functions) (atoms : List Atom) → HasOne env functions false atoms ↔ (all_true env functions atoms ≡ false)
one_false env functions [] = (λ h. absurd h, λ e. absurd (cc))
one_false env functions (atom ∷ atoms) =
    let rest = one_false env functions atoms in
    let x = atom_is_true env functions atom in
    let y = all_true env functions atoms in (
      λ h. elim h [ inl a ↦ and_left x y a | inr b ↦ and_right x y (rest.0 b) ],
      λ e. elim (and_cases x y e) [ inl a ↦ inl a | inr b ↦ inr (rest.1 b) ],
    )

one_holds : (env : Environment) (functions : Functions) (atoms : List Atom) → HasOne env functions true atoms ↔ (one_true env functions atoms ≡ true)
one_holds env functions [] = (λ h. absurd h, λ e. absurd (cc))
one_holds env functions (atom ∷ atoms) =
    let rest = one_holds env functions atoms in
    let x = atom_is_true env functions atom in
    let y = one_true env functions atoms in (
      λ h. elim h [ inl a ↦ or_left x y a | inr b ↦ or_right x y (rest.0 b) ],
      λ e. elim (or_cases x y e) [ inl a ↦ inl a | inr b ↦ inr (rest.1 b) ],
    )

clause_true : (x y : Bool) → ((x ≡ false) ⊎ (y ≡ true)) ↔ ((not x || y) ≡ true)
clause_true x y = (
  λ h. elim h [ inl a ↦ or_left (not x) y (not_from_false x a) | inr b ↦ or_right (not x) y b ],
  λ e. elim (or_cases (not x) y e) [ inl a ↦ inl (not-true x a) | inr b ↦ inr b ],
)

-- ---- atoms that stand for those of a clause
-- each is of the sort that its atom has in the clause
abbrev pub AreOfSortsIn : Scope → Scope → List Atom → List Atom → Type 0
AreOfSortsIn inner now = AllZip (λ atom flat. is_sorted now (sort_of inner atom) flat ≡ true)

-- and is true where its atom is
abbrev pub AreTrueWith : Environment → Environment → Functions → List Atom → List Atom → Type 0
AreTrueWith inside env functions = AllZip (λ atom flat. atom_is_true env functions flat ≡ atom_is_true inside functions atom)

-- the literals of an atom of a sort can be decided, where those of sort idx have small numbers on each side
atom_fits : (ws : List Word) (ss : List Sort) (sort : Sort) (positive : Bool) (atom : Atom) (lits : List Lit)
    → is_sorted (scope_over ws ss) sort atom ≡ true → IsLightFor sort atom → literals_as sort ws positive atom ≡ Ok lits → All (IsFit ss) lits
atom_fits ws ss Num positive atom lits sorted light e = (num_fit.literals_are_fit ws ss positive atom lits sorted e).0
atom_fits ws ss Idx positive atom lits sorted light e =
    let small = light refl in
    let s = sorted_parts ws ss Idx atom sorted in
    subst (λ (ls : List Lit). All (IsFit ss) ls) (ok_same (idx_literals ws positive atom) lits e)
    (idx_fit.form_literals_are_fit ss (signed positive atom.cmp) (index_of ws atom.left) (index_of ws atom.right)
    (idx_fit.terms_have_fit_forms ws ss atom.left s.left small.left) (idx_fit.terms_have_fit_forms ws ss atom.right s.right small.right))
atom_fits ws ss Ptr positive atom lits sorted light e =
    subst (λ (ls : List Lit). All (IsFit ss) ls) (ok_same (ptr_literals ws positive atom) lits e) (idx_fit.ptr_literals_are_fit ws ss positive atom sorted)

module _ (names : NameList) (inner : Scope) where
  record IsSplit (positive : Bool) (atom flat : Atom) (atoms flats : List Atom) (lits : List Lit) : Type 0 where
    first : List Lit
    rest : List Lit
    of_first : literals_as (sort_of inner atom) (words names) positive flat ≡ Ok first
    of_rest : literals_of names positive (atom_sorts inner atoms) flats ≡ Ok rest
    same : first ++ rest ≡ lits

  split : (positive : Bool) (atom flat : Atom) (atoms flats : List Atom) (lits : List Lit) → literals_of names positive (atom_sorts inner (atom ∷ atoms)) (flat ∷ flats) ≡ Ok lits
      → IsSplit positive atom flat atoms flats lits
  split positive atom flat atoms flats lits e =
      let more = literals_of names positive (atom_sorts inner atoms) flats in
      let s = given.came (literals_as (sort_of inner atom) (words names) positive flat) (λ ls. behind ls more) lits e in
      let t = given.came more (λ last. Ok (s.value ++ last)) lits s.rest in
      record { first = s.value; rest = t.value; of_first = s.first; of_rest = t.first; same = ok_same (s.value ++ t.value) lits t.rest }

  -- ---- they can be decided
  atoms_fit : (positive : Bool) (atoms flats : List Atom) (lits : List Lit) → AreOfSortsIn inner (flat_scope names) atoms flats → AllZip IsLightFor (atom_sorts inner atoms) flats
      → literals_of names positive (atom_sorts inner atoms) flats ≡ Ok lits → All (IsFit (sorts names)) lits
  atoms_fit positive [] [] lits sorted light e = subst (λ (ls : List Lit). All (IsFit (sorts names)) ls) (ok_same [] lits e) (All-nil (IsFit (sorts names)))
  atoms_fit positive [] (flat ∷ flats) lits sorted light e = absurd sorted
  atoms_fit positive (atom ∷ atoms) [] lits sorted light e = absurd sorted
  atoms_fit positive (atom ∷ atoms) (flat ∷ flats) lits sorted light e =
      let s = split positive atom flat atoms flats lits e in
      subst (λ (ls : List Lit). All (IsFit (sorts names)) ls) s.same
      (All-append (IsFit (sorts names)) s.first s.rest
      (atom_fits (words names) (sorts names) (sort_of inner atom) positive flat s.first sorted.0 light.0 s.of_first)
      (atoms_fit positive atoms flats s.rest sorted.1 light.1 s.of_rest))

  pub instance_fits : (guard head guards heads : List Atom) (lits : List Lit) → AreOfSortsIn inner (flat_scope names) guard guards → AreOfSortsIn inner (flat_scope names) head heads
      → AllZip IsLightFor (atom_sorts inner guard) guards → AllZip IsLightFor (atom_sorts inner head) heads → sorted_literals names (atom_sorts inner guard) guards (atom_sorts inner head) heads ≡ Ok lits → All (IsFit (sorts names)) lits
  instance_fits guard head guards heads lits sorted also light lighter e =
      let last = literals_of names true (atom_sorts inner head) heads in
      let s = given.came (literals_of names false (atom_sorts inner guard) guards) (λ ls. behind ls last) lits e in
      let t = given.came last (λ ls. Ok (s.value ++ ls)) lits s.rest in
      subst (λ (ls : List Lit). All (IsFit (sorts names)) ls) (ok_same (s.value ++ t.value) lits t.rest)
      (All-append (IsFit (sorts names)) s.value t.value (atoms_fit false guard guards s.value sorted light s.first) (atoms_fit true head heads t.value also lighter t.first))

  -- ---- they say what the clause says
  module _ (v : Values) (inside env : Environment) (functions : Functions) (agrees : Agrees (words names) v env) (have : HaveSorts (sorts names) v) where
    atoms_say : (positive : Bool) (atoms flats : List Atom) (lits : List Lit) → AreOfSortsIn inner (flat_scope names) atoms flats → AreTrueWith inside env functions atoms flats
        → literals_of names positive (atom_sorts inner atoms) flats ≡ Ok lits → LineIsTrue v lits ↔ HasOne inside functions positive atoms
    atoms_say positive [] [] lits sorted same e = subst (λ (ls : List Lit). LineIsTrue v ls ↔ ⊥) (ok_same [] lits e) (λ h. h, λ h. h)
    atoms_say positive [] (flat ∷ flats) lits sorted same e = absurd sorted
    atoms_say positive (atom ∷ atoms) [] lits sorted same e = absurd sorted
    atoms_say positive (atom ∷ atoms) (flat ∷ flats) lits sorted same e =
        let s = split positive atom flat atoms flats lits e in
        let here = literals_say (words names) (sorts names) v env functions (sort_of inner atom) positive flat s.first agrees have sorted.0 s.of_first in
        let there = subst (λ (b : Bool). LineIsTrue v s.first ↔ (b ≡ positive)) same.0 here in
        let rest = atoms_say positive atoms flats s.rest sorted.1 same.1 s.of_rest in
        subst (λ (ls : List Lit). LineIsTrue v ls ↔ HasOne inside functions positive (atom ∷ atoms)) s.same
        (both_ways (both_lines v s.first s.rest) (either_way there rest))

    pub instance_says : (guard head guards heads : List Atom) (lits : List Lit) → AreOfSortsIn inner (flat_scope names) guard guards → AreOfSortsIn inner (flat_scope names) head heads
        → AreTrueWith inside env functions guard guards → AreTrueWith inside env functions head heads
        → sorted_literals names (atom_sorts inner guard) guards (atom_sorts inner head) heads ≡ Ok lits
        → LineIsTrue v lits ↔ ((not (all_true inside functions guard) || one_true inside functions head) ≡ true)
    instance_says guard head guards heads lits sorted also same alike e =
        let last = literals_of names true (atom_sorts inner head) heads in
        let s = given.came (literals_of names false (atom_sorts inner guard) guards) (λ ls. behind ls last) lits e in
        let t = given.came last (λ ls. Ok (s.value ++ ls)) lits s.rest in
        let first = both_ways (atoms_say false guard guards s.value sorted same s.first) (one_false inside functions guard) in
        let rest = both_ways (atoms_say true head heads t.value also alike t.first) (one_holds inside functions head) in
        subst (λ (ls : List Lit). LineIsTrue v ls ↔ ((not (all_true inside functions guard) || one_true inside functions head) ≡ true)) (ok_same (s.value ++ t.value) lits t.rest)
        (both_ways (both_lines v s.value t.value) (both_ways (either_way first rest) (clause_true (all_true inside functions guard) (one_true inside functions head))))
