-- A clause whose applications pass a test applies functions that pass it alone.
use Rattle.std.proofs.Common.{◌≡◌, ◌∙◌, ◌&&◌, ◌++◌, ℕ, List, [], ◌∷◌, map, append-nil, Bool, true, IsTrue, refl, sym, subst}
use Rattle.std.specs.List.{All, list_all}
use Rattle.std.proofs.lemmas.Bool.{and_from}
use Rattle.std.proofs.lemmas.List.Elements.{All-head, All-tail, All-weaker}
use Rattle.hp_tree.specs.declared.term.Term.{Term, fold-roll-Term, ind-Term, map-Term, roll-Term}
use Rattle.hp_tree.specs.declared.term.Term.TheOpen.{Term-F}
use Rattle.hp_tree.specs.declared.problem.Atom.{Atom}
use Rattle.hp_tree.specs.Value.{Word}
use Rattle.hp_terms.specs.Occurring.{joined}
use Rattle.hp_local.specs.Applied.{applies_only, applies_step, atom_applies, clause_applies}
use Rattle.hp_norm.specs.declared.flat.FlatClause.{FlatClause}
use Rattle.hp_norm.specs.Flat.{universal_of}
use Rattle.hp_flatten.specs.declared.application.Application.{Application}
use Rattle.hp_flatten.specs.Applications.{applications, atoms_applications, clause_applications}
use Rattle.hp_flatten.proofs.HoldsTerms.{applications_apply, applications_at, back, front}

module _ (test : Word → Bool) where
  abbrev Passes : Application → Type 0
  Passes a = test a.func ≡ true

  abbrev Only : Term → Type 0
  Only t = All Passes (applications t) → applies_only test t ≡ true

  abbrev Part : Type 0
  Part = (t : Term) × Only t

  rolled : (z : Term-F Term) → applies_only test (roll-Term z) ≡ applies_step test (map-Term Term Bool (applies_only test) z)
  rolled z = fold-roll-Term Bool (applies_step test) z

  parts_only : (args : List Part) → All Passes (joined (map applications (map (λ (e : Part). e.0) args))) → list_all (λ b. b) (map (applies_only test) (map (λ (e : Part). e.0) args)) ≡ true
  parts_only [] h = refl
  parts_only (e ∷ args) h =
      let rest = joined (map applications (map (λ (x : Part). x.0) args)) in
      and_from (applies_only test e.0) (list_all (λ b. b) (map (applies_only test) (map (λ (x : Part). x.0) args)))
      (e.1 (front Passes (applications e.0) rest h)) (parts_only args (back Passes (applications e.0) rest h))

  two_only : (a b : Part) → All Passes (applications a.0 ++ applications b.0) → applies_only test a.0 && applies_only test b.0 ≡ true
  two_only a b h = and_from (applies_only test a.0) (applies_only test b.0) (a.1 (front Passes (applications a.0) (applications b.0) h)) (b.1 (back Passes (applications a.0) (applications b.0) h))

  layer_only : (y : Term-F Part) → Only (roll-Term (map-Term Part Term (λ e. e.0) y))
  layer_only (Term-F.Number q) h = rolled (Term-F.Number q)
  layer_only Term-F.Null h = rolled Term-F.Null
  layer_only (Term-F.Name word) h = rolled (Term-F.Name word)
  layer_only (Term-F.Apply func args) h =
      let terms = map (λ (e : Part). e.0) args in
      let own : Application = record { func = func; args = terms } in
      let all = subst (All Passes) (applications_apply func terms) h in
      rolled (Term-F.Apply func terms)
      ∙ and_from (test func) (list_all (λ b. b) (map (applies_only test) terms)) (All-head Passes own (joined (map applications terms)) all)
      (parts_only args (All-tail Passes own (joined (map applications terms)) all))
  layer_only (Term-F.Add a b) h = rolled (Term-F.Add a.0 b.0) ∙ two_only a b (subst (All Passes) (applications_at (Term-F.Add a.0 b.0)) h)
  layer_only (Term-F.Sub a b) h = rolled (Term-F.Sub a.0 b.0) ∙ two_only a b (subst (All Passes) (applications_at (Term-F.Sub a.0 b.0)) h)
  layer_only (Term-F.Neg a) h = rolled (Term-F.Neg a.0) ∙ a.1 (subst (All Passes) (applications_at (Term-F.Neg a.0)) h)
  layer_only (Term-F.Scale q a) h = rolled (Term-F.Scale q a.0) ∙ a.1 (subst (All Passes) (applications_at (Term-F.Scale q a.0)) h)

  term_only : (t : Term) → Only t
  term_only t = ind-Term Only (λ x y is. subst (λ z. Only (roll-Term z)) is (layer_only y)) t

  atoms_only : (atoms : List Atom) → All Passes (atoms_applications atoms) → list_all (atom_applies test) atoms ≡ true
  atoms_only [] h = refl
  atoms_only (a ∷ atoms) h =
      let l = applications a.left in
      let r = applications a.right in
      let own = front Passes (l ++ r) (atoms_applications atoms) h in
      and_from (atom_applies test a) (list_all (atom_applies test) atoms)
      (and_from (applies_only test a.left) (applies_only test a.right) (term_only a.left (front Passes l r own)) (term_only a.right (back Passes l r own)))
      (atoms_only atoms (back Passes (l ++ r) (atoms_applications atoms) h))

  pub clause_only : (c : FlatClause) → All Passes (clause_applications c) → clause_applies test (universal_of c) ≡ true
  clause_only c h =
      and_from (list_all (atom_applies test) c.guard) (list_all (atom_applies test) c.head)
      (atoms_only c.guard (front Passes (atoms_applications c.guard) (atoms_applications c.head) h))
      (atoms_only c.head (back Passes (atoms_applications c.guard) (atoms_applications c.head) h))
