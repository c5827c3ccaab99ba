-- The atoms of a clause at arguments are light: what is added in an index stays small, before and after naming.
use Rattle.std.proofs.Common.{◌≡◌, List, [], ◌∷◌, map, subst, sym, ◌∙◌, arith}
use Rattle.std.specs.List.{All, AllZip}
use Rattle.std.proofs.lemmas.List.Elements.{All-nil, All-cons, All-head, All-tail}
use Rattle.hp_tree.specs.declared.term.Term.{Term}
use Rattle.hp_tree.specs.declared.problem.Atom.{Atom}
use Rattle.hp_tree.specs.declared.problem.Sort.{Sort}
use Rattle.hp_tree.specs.declared.problem.Var.{Var}
use Rattle.hp_terms.specs.Scope.{Scope}
use Rattle.hp_terms.specs.Sorting.{sort_of}
use Rattle.hp_lit.specs.declared.line.Arg.{Arg}
use Rattle.hp_defs.specs.declared.names.Ground.{Ground}
use Rattle.hp_defs.specs.Names.{NameList}
use Rattle.hp_base.specs.Making.{Begins}
use Rattle.hp_local.specs.Substitution.{substitute_atom}
use Rattle.hp_norm.specs.declared.flat.FlatClause.{FlatClause}
use Rattle.hp_norm.specs.Loads.{IsLightWithin, WeighsNoMore}
use Rattle.hp_norm.specs.Scopes.{clause_scope, term_scope}
use Rattle.hp_norm.proofs.Loads.{atoms_within_later, no_more_later}
use Rattle.hp_instance.specs.Instances.{IsLightFor, atom_sorts}
use Rattle.hp_instance.specs.Laws.{IsLightAt}
use Rattle.hp_instance.specs.Replacing.{arg_terms, replaced_atoms, replaced_word, replacement}

module _ (names : NameList) (c : FlatClause) (args : List Arg) where
  abbrev inner : Scope
  inner = clause_scope names c.vars

  abbrev outer : Scope
  outer = term_scope names

  abbrev replaced : List Atom → List Atom
  replaced = replaced_atoms names c.vars args

  -- they are as light as the clause's atoms
  pub light_inside : (atoms : List Atom) → All (IsLightAt names c args) atoms → All (IsLightWithin outer) (replaced atoms)
  light_inside [] h = All-nil (IsLightWithin outer)
  light_inside (atom ∷ atoms) h =
      All-cons (IsLightWithin outer) (substitute_atom (replacement names c.vars args) atom) (replaced atoms)
      (All-head (IsLightAt names c args) atom atoms h).inner (light_inside atoms (All-tail (IsLightAt names c args) atom atoms h))

  light_one : (atom x : Atom) → IsLightAt names c args atom → WeighsNoMore outer (substitute_atom (replacement names c.vars args) atom) x → IsLightFor (sort_of inner atom) x
  light_one atom x light less is =
      let sides = light.sides is in
      let left = less.left in
      let right = less.right in
      let few = sides.left in
      let fewer = sides.right in
      record { left = omega (arith, left, few); right = omega (arith, right, fewer) }

  -- and so are those that stand for them
  pub light_through : (atoms flats : List Atom) → All (IsLightAt names c args) atoms → AllZip (WeighsNoMore outer) (replaced atoms) flats → AllZip IsLightFor (atom_sorts inner atoms) flats
  light_through [] [] light less = tt
  light_through [] (x ∷ flats) light less = absurd less
  light_through (atom ∷ atoms) [] light less = absurd less
  light_through (atom ∷ atoms) (x ∷ flats) light less = (
    light_one atom x (All-head (IsLightAt names c args) atom atoms light) less.0,
    light_through atoms flats (All-tail (IsLightAt names c args) atom atoms light) less.1,
  )

no_more_before : (before mid : Ground) (atoms flats : List Atom) → Begins before mid → AllZip (WeighsNoMore (term_scope mid.names)) atoms flats → AllZip (WeighsNoMore (term_scope before.names)) atoms flats
no_more_before before mid [] [] begins less = tt
no_more_before before mid [] (x ∷ flats) begins less = absurd less
no_more_before before mid (atom ∷ atoms) [] begins less = absurd less
no_more_before before mid (atom ∷ atoms) (x ∷ flats) begins less = (no_more_later before mid atom x begins less.0, no_more_before before mid atoms flats begins less.1)

-- ---- as the code has them
module _ (before : Ground) (c : FlatClause) (args : List Arg) where
  -- the terms of the arguments in the places of the variables
  pub put_is : (vs : List Var) (ts : List Term) (from atoms made : List Atom) → vs ≡ c.vars → ts ≡ arg_terms before.names args → from ≡ atoms
      → made ≡ map (substitute_atom (replaced_word vs ts)) from → made ≡ replaced_atoms before.names c.vars args atoms
  put_is vs ts from atoms made p q r e = e ∙ (λ i. map (substitute_atom (replaced_word (p i) (q i))) (r i))

  pub sorts_are : (vs : List Var) (from atoms : List Atom) (sorts : List Sort) → vs ≡ c.vars → from ≡ atoms
      → sorts ≡ atom_sorts (clause_scope before.names vs) from → sorts ≡ atom_sorts (clause_scope before.names c.vars) atoms
  sorts_are vs from atoms sorts p r e = e ∙ (λ i. atom_sorts (clause_scope before.names (p i)) (r i))

  pub first_light : (atoms made : List Atom) → made ≡ replaced_atoms before.names c.vars args atoms → All (IsLightAt before.names c args) atoms → All (IsLightWithin (term_scope before.names)) made
  first_light atoms made e h = subst (All (IsLightWithin (term_scope before.names))) (sym e) (light_inside before.names c args atoms h)

  pub later_light : (mid : Ground) (atoms made : List Atom) → Begins before mid → made ≡ replaced_atoms before.names c.vars args atoms → All (IsLightAt before.names c args) atoms
      → All (IsLightWithin (term_scope mid.names)) made
  later_light mid atoms made begins e h = atoms_within_later before mid made begins (first_light atoms made e h)

  pub first_sorted : (atoms made flats : List Atom) (sorts : List Sort) → made ≡ replaced_atoms before.names c.vars args atoms → sorts ≡ atom_sorts (clause_scope before.names c.vars) atoms
      → All (IsLightAt before.names c args) atoms → AllZip (WeighsNoMore (term_scope before.names)) made flats → AllZip IsLightFor sorts flats
  first_sorted atoms made flats sorts e is h less =
      subst (λ (ss : List Sort). AllZip IsLightFor ss flats) (sym is)
      (light_through before.names c args atoms flats h (subst (λ (xs : List Atom). AllZip (WeighsNoMore (term_scope before.names)) xs flats) e less))

  pub later_sorted : (mid : Ground) (atoms made flats : List Atom) (sorts : List Sort) → Begins before mid → made ≡ replaced_atoms before.names c.vars args atoms
      → sorts ≡ atom_sorts (clause_scope before.names c.vars) atoms → All (IsLightAt before.names c args) atoms → AllZip (WeighsNoMore (term_scope mid.names)) made flats → AllZip IsLightFor sorts flats
  later_sorted mid atoms made flats sorts begins e is h less = first_sorted atoms made flats sorts e is h (no_more_before before mid made flats begins less)
