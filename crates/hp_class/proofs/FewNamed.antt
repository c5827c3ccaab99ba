-- Naming terms and atoms keeps the lines few.
use Rattle.std.proofs.Common.{ℕ, List, [], ◌∷◌, map, Option, Some, None, Ok, position, slice_get, sym, subst}
use Rattle.std.specs.Str.{bytes_eq}
use Rattle.hp_tree.specs.declared.problem.Atom.{Atom}
use Rattle.hp_tree.specs.declared.problem.Sort.{Sort}
use Rattle.hp_tree.specs.declared.term.Term.{Term, Number, Null, Name, Add, Sub, Neg, Scale, fold-roll-Term, map-Term}
use Rattle.hp_tree.specs.declared.term.Term.TheOpen.{Term-F}
use Rattle.hp_tree.specs.Value.{Word}
use Rattle.hp_index.proofs.Layers.{Parts, bare, by_layers}
use Rattle.hp_defs.specs.declared.names.Signature.{Signature}
use Rattle.hp_defs.specs.Names.{function_words}
use Rattle.hp_base.specs.Making.{Maker, ◌then◌, keep}
use Rattle.hp_base.specs.Defining.{definition_of}
use Rattle.hp_base.specs.Arguments.{argument_of}
use Rattle.hp_norm.specs.Naming.{applied, applied_at, application, arguments, name_step, name_term, named, named_atom, named_atoms, one, placed_argument, signed, two}
use Rattle.hp_class.proofs.FewMade.{StaysFew, argument_few, definition_few, each_few, then_few, value_few}

module _ (item : ℕ) where
  abbrev Holds : Term → Type 0
  Holds term = StaysFew (named item term)

  abbrev makers : List (Parts Holds) → List (Maker Term)
  makers args = map (named item) (map (λ (e : Parts Holds). e.0) args)

  -- ---- applications
  argument_of_few : (arg : Parts Holds) (sort : Sort) → StaysFew (placed_argument item (record { named = named item arg.0; sort = sort }))
  argument_of_few arg sort = then_few (named item arg.0) (λ term. argument_of item sort term) arg.1 (λ term. argument_few item sort term)

  arguments_few : (args : List (Parts Holds)) (sorts : List Sort) → StaysFew (arguments item sorts (makers args))
  arguments_few [] [] = value_few []
  arguments_few [] (sort ∷ sorts) = value_few []
  arguments_few (arg ∷ args) [] = value_few []
  arguments_few (arg ∷ args) (sort ∷ sorts) =
      then_few (placed_argument item (record { named = named item arg.0; sort = sort })) (λ x. λ mid. arguments item sorts (makers args) mid then λ xs. λ end. Ok (x ∷ xs, end)) (argument_of_few arg sort)
      (λ x. then_few (arguments item sorts (makers args)) (λ xs. λ end. Ok (x ∷ xs, end)) (arguments_few args sorts) (λ xs. value_few (x ∷ xs)))

  application_few : (args : List (Parts Holds)) (func : ℕ) (signature : Signature) → StaysFew (application item (makers args) func signature)
  application_few args func signature =
      then_few (arguments item signature.args (makers args)) (λ xs. λ mid. definition_of func xs mid then λ name. λ end. Ok (name_term end.names name, end)) (arguments_few args signature.args)
      (λ xs. then_few (definition_of func xs) (λ name. λ end. Ok (name_term end.names name, end)) (definition_few func xs)
      (λ name old new y e few. value_few (name_term old.names name) old new y e few))

  signed_few : (args : List (Parts Holds)) (func : ℕ) (signature : Option Signature) → StaysFew (signed item (makers args) func signature)
  signed_few args func None = value_few Null
  signed_few args func (Some signature) = application_few args func signature

  found_few : (args : List (Parts Holds)) (func : Option ℕ) → StaysFew (applied_at item (makers args) func)
  found_few args None old new y e few = value_few Null old new y e few
  found_few args (Some func) old new y e few = signed_few args func (slice_get old.names.signatures func) old new y e few

  applied_few : (word : Word) (args : List (Parts Holds)) → StaysFew (applied item word (makers args))
  applied_few word args old new y e few = found_few args (position (bytes_eq word) (function_words old.names)) old new y e few

  -- ---- terms
  one_few : (build : Term → Term) (a : Parts Holds) → StaysFew (one build (named item a.0))
  one_few build a = then_few (named item a.0) (λ x. keep (build x)) a.1 (λ x. value_few (build x))

  two_few : (build : Term → Term → Term) (a b : Parts Holds) → StaysFew (two build (named item a.0) (named item b.0))
  two_few build a b =
      then_few (named item a.0) (λ x. λ mid. named item b.0 mid then λ y. keep (build x y)) a.1
      (λ x. then_few (named item b.0) (λ y. keep (build x y)) b.1 (λ y. value_few (build x y)))

  step_few : (y : Term-F (Parts Holds)) → StaysFew (name_step item (map-Term Term (Maker Term) (named item) (bare Holds y)))
  step_few (Term-F.Number q) = value_few (Number q)
  step_few Term-F.Null = value_few Null
  step_few (Term-F.Name word) = value_few (Name word)
  step_few (Term-F.Apply word args) = applied_few word args
  step_few (Term-F.Add a b) = two_few Add a b
  step_few (Term-F.Sub a b) = two_few Sub a b
  step_few (Term-F.Neg a) = one_few Neg a
  step_few (Term-F.Scale q a) = one_few (Scale q) a

  pub term_few : (term : Term) → StaysFew (named item term)
  term_few term = by_layers Holds (λ y. subst (λ (m : Maker Term). StaysFew m) (sym (fold-roll-Term (Maker Term) (name_step item) (bare Holds y))) (step_few y)) term

  -- ---- atoms
  atom_few : (atom : Atom) → StaysFew (named_atom item atom)
  atom_few atom =
      then_few (named item atom.left) (λ left. λ mid. named item atom.right mid then λ right. keep (record { left = left; cmp = atom.cmp; right = right })) (term_few atom.left)
      (λ left. then_few (named item atom.right) (λ right. keep (record { left = left; cmp = atom.cmp; right = right })) (term_few atom.right) (λ right. value_few _))

  pub atoms_few : (atoms : List Atom) → StaysFew (named_atoms item atoms)
  atoms_few atoms = each_few (named_atom item) atoms atom_few
