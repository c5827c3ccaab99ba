-- The literals of the atoms of a clause, and what they say together.
use Rattle.std.proofs.Common.{◌≡◌, ◌↔◌, ◌⊎◌, ◌||◌, ◌++◌, Bool, true, false, not, List, [], ◌∷◌, Ok, subst, inl, inr}
use Rattle.std.specs.List.{All}
use Rattle.std.proofs.lemmas.Bool.{and_cases, and_left, and_right, not-true, not_from_false, or_cases, or_left, or_right}
use Rattle.std.proofs.lemmas.List.Elements.{All-nil, All-append, All-head, All-tail}
use Rattle.hp_num.proofs.Given as given
use Rattle.hp_tree.specs.declared.problem.Atom.{Atom}
use Rattle.hp_tree.specs.Value.{Environment, Functions, all_true, atom_is_true, one_true}
use Rattle.hp_terms.specs.Sorting.{sort_of}
use Rattle.hp_terms.specs.Weight.{IsLightAtom}
use Rattle.hp_lit.specs.declared.literal.Lit.{Lit}
use Rattle.hp_lit.specs.Fit.{IsFit}
use Rattle.hp_lit.specs.Sorts.{HaveSorts}
use Rattle.hp_lit.specs.Truth.{Values, LineIsTrue}
use Rattle.hp_lit.specs.Words.{Agrees}
use Rattle.hp_linear.specs.Steps.{behind}
use Rattle.hp_linear.proofs.Refusals.{ok_same}
use Rattle.hp_defs.specs.Names.{NameList, sorts, words}
use Rattle.hp_base.specs.Lines.{flat_scope}
use Rattle.hp_base.proofs.Literals.{literals_fit, literals_say}
use Rattle.hp_norm.specs.Lines.{atom_literals, atoms_literals, flat_literals}
use Rattle.hp_norm.proofs.AtomsNamed.{IsSortedIn}

-- ---- lists of literals
pub both_lines : (v : Values) (xs ys : List Lit) → LineIsTrue v (xs ++ ys) ↔ (LineIsTrue v xs ⊎ LineIsTrue v ys)
both_lines v [] ys = (λ h. inr h, λ h. elim h [ inl a ↦ absurd a | inr b ↦ b ])
both_lines v (x ∷ xs) ys =
    let rest = both_lines v xs ys in (
      λ h. elim h [ inl a ↦ inl (inl a) | inr b ↦ elim (rest.0 b) [ inl c ↦ inl (inr c) | inr d ↦ inr d ] ],
      λ h. elim h [ inl a ↦ elim a [ inl c ↦ inl c | inr d ↦ inr (rest.1 (inl d)) ] | inr b ↦ inr (rest.1 (inr b)) ],
    )

either_way : {A B C D : Type 0} → A ↔ C → B ↔ D → (A ⊎ B) ↔ (C ⊎ D)
either_way f g = (λ h. elim h [ inl a ↦ inl (f.0 a) | inr b ↦ inr (g.0 b) ], λ h. elim h [ inl c ↦ inl (f.1 c) | inr d ↦ inr (g.1 d) ])

both_ways : {A B C : Type 0} → A ↔ B → B ↔ C → A ↔ C
both_ways f g = (λ a. g.0 (f.0 a), λ c. f.1 (g.1 c))

module _ (names : NameList) where
  -- ---- atoms that have the truth value that is asked for
  abbrev HasOne : Environment → Functions → Bool → List Atom → Type 0
  HasOne env functions positive [] = ⊥
  HasOne env functions positive (atom ∷ atoms) = (atom_is_true env functions atom ≡ positive) ⊎ HasOne env functions positive atoms

  one_false : (env : Environment) (functions : Functions) (atoms : List Atom) → HasOne env functions false atoms ↔ (all_true env functions atoms ≡ false)
  one_false env functions [] = (λ h. absurd h, λ e. absurd (cc))
  one_false env functions (atom ∷ atoms) =
      let rest = one_false env functions atoms in
      let x = atom_is_true env functions atom in
      let y = all_true env functions atoms in (
        λ h. elim h [ inl a ↦ and_left x y a | inr b ↦ and_right x y (rest.0 b) ],
        λ e. elim (and_cases x y e) [ inl a ↦ inl a | inr b ↦ inr (rest.1 b) ],
      )

  one_holds : (env : Environment) (functions : Functions) (atoms : List Atom) → HasOne env functions true atoms ↔ (one_true env functions atoms ≡ true)
  one_holds env functions [] = (λ h. absurd h, λ e. absurd (cc))
  one_holds env functions (atom ∷ atoms) =
      let rest = one_holds env functions atoms in
      let x = atom_is_true env functions atom in
      let y = one_true env functions atoms in (
        λ h. elim h [ inl a ↦ or_left x y a | inr b ↦ or_right x y (rest.0 b) ],
        λ e. elim (or_cases x y e) [ inl a ↦ inl a | inr b ↦ inr (rest.1 b) ],
      )

  -- ---- their literals
  record IsSplit (positive : Bool) (atom : Atom) (atoms : List Atom) (lits : List Lit) : Type 0 where
    first : List Lit
    rest : List Lit
    of_first : atom_literals names positive atom ≡ Ok first
    of_rest : atoms_literals names positive atoms ≡ Ok rest
    same : first ++ rest ≡ lits

  split : (positive : Bool) (atom : Atom) (atoms : List Atom) (lits : List Lit) → atoms_literals names positive (atom ∷ atoms) ≡ Ok lits → IsSplit positive atom atoms lits
  split positive atom atoms lits e =
      let s = given.came (atom_literals names positive atom) (λ ls. behind ls (atoms_literals names positive atoms)) lits e in
      let t = given.came (atoms_literals names positive atoms) (λ last. Ok (s.value ++ last)) lits s.rest in
      record { first = s.value; rest = t.value; of_first = s.first; of_rest = t.first; same = ok_same (s.value ++ t.value) lits t.rest }

  pub atoms_fit : (positive : Bool) (atoms : List Atom) (lits : List Lit) → All (IsSortedIn (flat_scope names)) atoms → All IsLightAtom atoms
      → atoms_literals names positive atoms ≡ Ok lits → All (IsFit (sorts names)) lits
  atoms_fit positive [] lits sorted light e = subst (λ (ls : List Lit). All (IsFit (sorts names)) ls) (ok_same [] lits e) (All-nil (IsFit (sorts names)))
  atoms_fit positive (atom ∷ atoms) lits sorted light e =
      let s = split positive atom atoms lits e in
      subst (λ (ls : List Lit). All (IsFit (sorts names)) ls) s.same
      (All-append (IsFit (sorts names)) s.first s.rest
      (literals_fit (words names) (sorts names) (sort_of (flat_scope names) atom) positive atom s.first (All-head (IsSortedIn (flat_scope names)) atom atoms sorted) (All-head IsLightAtom atom atoms light) s.of_first)
      (atoms_fit positive atoms s.rest (All-tail (IsSortedIn (flat_scope names)) atom atoms sorted) (All-tail IsLightAtom atom atoms light) s.of_rest))

  module _ (v : Values) (env : Environment) (functions : Functions) (agrees : Agrees (words names) v env) (have : HaveSorts (sorts names) v) where
    atoms_say : (positive : Bool) (atoms : List Atom) (lits : List Lit) → All (IsSortedIn (flat_scope names)) atoms → atoms_literals names positive atoms ≡ Ok lits → LineIsTrue v lits ↔ HasOne env functions positive atoms
    atoms_say positive [] lits sorted e = subst (λ (ls : List Lit). LineIsTrue v ls ↔ ⊥) (ok_same [] lits e) (λ h. h, λ h. h)
    atoms_say positive (atom ∷ atoms) lits sorted e =
        let s = split positive atom atoms lits e in
        let here = literals_say (words names) (sorts names) v env functions (sort_of (flat_scope names) atom) positive atom s.first agrees have (All-head (IsSortedIn (flat_scope names)) atom atoms sorted) s.of_first in
        let rest = atoms_say positive atoms s.rest (All-tail (IsSortedIn (flat_scope names)) atom atoms sorted) s.of_rest in
        subst (λ (ls : List Lit). LineIsTrue v ls ↔ HasOne env functions positive (atom ∷ atoms)) s.same
        (both_ways (both_lines v s.first s.rest) (either_way here rest))

    -- a guard atom is false, or a head atom is true
    clause_true : (x y : Bool) → ((x ≡ false) ⊎ (y ≡ true)) ↔ ((not x || y) ≡ true)
    clause_true x y = (
      λ h. elim h [ inl a ↦ or_left (not x) y (not_from_false x a) | inr b ↦ or_right (not x) y b ],
      λ e. elim (or_cases (not x) y e) [ inl a ↦ inl (not-true x a) | inr b ↦ inr b ],
    )

    pub clause_says : (guard head : List Atom) (lits : List Lit) → All (IsSortedIn (flat_scope names)) guard → All (IsSortedIn (flat_scope names)) head
        → flat_literals names guard head ≡ Ok lits → LineIsTrue v lits ↔ ((not (all_true env functions guard) || one_true env functions head) ≡ true)
    clause_says guard head lits sorted also e =
        let s = given.came (atoms_literals names false guard) (λ ls. behind ls (atoms_literals names true head)) lits e in
        let t = given.came (atoms_literals names true head) (λ last. Ok (s.value ++ last)) lits s.rest in
        let first = both_ways (atoms_say false guard s.value sorted s.first) (one_false env functions guard) in
        let rest = both_ways (atoms_say true head t.value also t.first) (one_holds env functions head) in
        subst (λ (ls : List Lit). LineIsTrue v ls ↔ ((not (all_true env functions guard) || one_true env functions head) ≡ true)) (ok_same (s.value ++ t.value) lits t.rest)
        (both_ways (both_lines v s.value t.value) (both_ways (either_way first rest) (clause_true (all_true env functions guard) (one_true env functions head))))

  pub clause_fits : (guard head : List Atom) (lits : List Lit) → All (IsSortedIn (flat_scope names)) guard → All (IsSortedIn (flat_scope names)) head → All IsLightAtom guard → All IsLightAtom head
      → flat_literals names guard head ≡ Ok lits → All (IsFit (sorts names)) lits
  clause_fits guard head lits sorted also light lighter e =
      let s = given.came (atoms_literals names false guard) (λ ls. behind ls (atoms_literals names true head)) lits e in
      let t = given.came (atoms_literals names true head) (λ last. Ok (s.value ++ last)) lits s.rest in
      subst (λ (ls : List Lit). All (IsFit (sorts names)) ls) (ok_same (s.value ++ t.value) lits t.rest)
      (All-append (IsFit (sorts names)) s.value t.value (atoms_fit false guard s.value sorted light s.first) (atoms_fit true head t.value also lighter t.first))
