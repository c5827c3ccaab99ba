-- The lines of the clauses of a problem start with none, and stay few from clause to clause.
use Rattle.std.proofs.Common.{◌≡◌, ℕ, ◌+◌, ◌++◌, List, [], ◌∷◌, Bool, true, false, Result, Ok, Err, length, map, ap, sym, subst, arith}
use Rattle.std.specs.Prelude.{nat_lt, if◌then◌else◌}
use Rattle.hp_num.proofs.Given as given
use Rattle.hp_tree.specs.Limits.{most_names}
use Rattle.hp_tree.specs.declared.limit.Limit.{Limit}
use Rattle.hp_tree.specs.declared.problem.Atom.{Atom}
use Rattle.hp_tree.specs.declared.problem.Clause.{Clause}
use Rattle.hp_tree.specs.declared.problem.Decl.{Decl}
use Rattle.hp_tree.specs.declared.problem.Problem.{Problem}
use Rattle.hp_tree.specs.declared.problem.Var.{Var}
use Rattle.hp_tree.specs.declared.term.Term.{Term, Number, Null, Name, Apply, Add, Sub, Neg, Scale, fold-roll-Term, map-Term, roll-Term}
use Rattle.hp_tree.specs.declared.term.Term.TheOpen.{Term-F}
use Rattle.hp_tree.specs.Value.{Word}
use Rattle.hp_index.proofs.Layers.{Parts, bare, by_layers}
use Rattle.hp_defs.specs.declared.names.Ground.{Ground}
use Rattle.hp_base.specs.Making.{Maker, ◌then◌, computed, each, keep}
use Rattle.hp_base.specs.Lines.{add_line}
use Rattle.hp_norm.specs.declared.flat.FlatClause.{FlatClause}
use Rattle.hp_norm.specs.Flat.{clause_made, clauses_made, flat_clause, flat_of, has_variables, tested_clause}
use Rattle.hp_norm.specs.Lines.{constants_of, declared_ground, flat_line, flat_literals, from_clause, ground_line, start}
use Rattle.hp_norm.specs.Naming.{named_atoms, one, two}
use Rattle.hp_norm.specs.Opening.{mentions, opened, opened_application, opened_atom, opened_atoms, opening_step, run}
use Rattle.hp_norm.specs.Testing.{tested}
use Rattle.hp_norm.specs.Trees.{Seen, seen, seen_step}
use Rattle.hp_class.proofs.FewMade.{HasFewLines, StaysFew, computed_few, each_few, line_few, then_few, value_few}
use Rattle.hp_class.proofs.FewNamed.{atoms_few, term_few}

-- ---- terms of clauses with variables
one_few : (build : Term → Term) (a : Maker Term) → StaysFew a → StaysFew (one build a)
one_few build a h = then_few a (λ x. keep (build x)) h (λ x. value_few (build x))

two_few : (build : Term → Term → Term) (a b : Maker Term) → StaysFew a → StaysFew b → StaysFew (two build a b)
two_few build a b h k = then_few a (λ x. λ mid. b mid then λ y. keep (build x y)) h (λ x. then_few b (λ y. keep (build x y)) k (λ y. value_few (build x y)))

module _ (vars : List Var) (item : ℕ) where
  abbrev seeing : Term → Seen (Maker Term)
  seeing = seen (opening_step vars item)

  abbrev Holds : Term → Type 0
  Holds term = StaysFew (seeing term).value

  -- the terms and makers of a layer
  abbrev parts : Term-F (Parts Holds) → Term-F (Seen (Maker Term))
  parts y = map-Term Term (Seen (Maker Term)) seeing (bare Holds y)

  abbrev makers : List (Parts Holds) → List (Maker Term)
  makers args = map (λ (s : Seen (Maker Term)). s.value) (map seeing (map (λ (e : Parts Holds). e.0) args))

  arguments_few : (args : List (Parts Holds)) → StaysFew (each run (makers args))
  arguments_few [] = value_few []
  arguments_few (arg ∷ args) =
      then_few (seeing arg.0).value (λ x. λ mid. each run (makers args) mid then λ xs. λ end. Ok (x ∷ xs, end)) arg.1
      (λ x. then_few (each run (makers args)) (λ xs. λ end. Ok (x ∷ xs, end)) (arguments_few args) (λ xs. value_few (x ∷ xs)))

  application_few : (b : Bool) (term : Term) (func : Word) (args : List (Parts Holds)) → StaysFew (opened_application item b term func (makers args))
  application_few true term func args = then_few (each run (makers args)) (λ xs. keep (Apply func xs)) (arguments_few args) (λ xs. value_few (Apply func xs))
  application_few false term func args = term_few item term

  step_few : (term : Term) (y : Term-F (Parts Holds)) → StaysFew (opening_step vars item term (map-Term (Seen (Maker Term)) (Maker Term) (λ s. s.value) (parts y)))
  step_few term (Term-F.Number q) = value_few (Number q)
  step_few term Term-F.Null = value_few Null
  step_few term (Term-F.Name word) = value_few (Name word)
  step_few term (Term-F.Apply func args) = application_few (mentions vars term) term func args
  step_few term (Term-F.Add a b) = two_few Add (seeing a.0).value (seeing b.0).value a.1 b.1
  step_few term (Term-F.Sub a b) = two_few Sub (seeing a.0).value (seeing b.0).value a.1 b.1
  step_few term (Term-F.Neg a) = one_few Neg (seeing a.0).value a.1
  step_few term (Term-F.Scale q a) = one_few (Scale q) (seeing a.0).value a.1

  opened_few : (term : Term) → StaysFew (opened vars item term)
  opened_few term = by_layers Holds (λ y. (
      let term = roll-Term (map-Term (Seen (Maker Term)) Term (λ s. s.term) (parts y)) in
      subst (λ (s : Seen (Maker Term)). StaysFew s.value) (sym (fold-roll-Term (Seen (Maker Term)) (seen_step (opening_step vars item)) (bare Holds y))) (step_few term y))) term

  -- ---- atoms of clauses with variables
  atom_few : (atom : Atom) → StaysFew (opened_atom vars item atom)
  atom_few atom =
      then_few (opened vars item atom.left) (λ left. λ mid. opened vars item atom.right mid then λ right. keep (record { left = left; cmp = atom.cmp; right = right })) (opened_few atom.left)
      (λ left. then_few (opened vars item atom.right) (λ right. keep (record { left = left; cmp = atom.cmp; right = right })) (opened_few atom.right) (λ right. value_few _))

  opened_atoms_few : (atoms : List Atom) → StaysFew (opened_atoms vars item atoms)
  opened_atoms_few atoms = each_few (opened_atom vars item) atoms atom_few

-- ---- clauses
tested_few : (c : FlatClause) → StaysFew (tested_clause c)
tested_few c old new y e few =
    then_few (computed c.item (tested old.names c)) (λ done. keep c) (computed_few c.item (tested old.names c)) (λ done. value_few c) old new y e few

flat_clause_few : (item number : ℕ) (clause : Clause) → StaysFew (flat_clause item number clause)
flat_clause_few item number clause =
    let flat : List Atom → List Atom → FlatClause = λ guard head. record { clause = number; item = item; vars = clause.vars; guard = guard; head = head } in
    then_few (opened_atoms clause.vars item clause.guard) (λ guard. λ mid. opened_atoms clause.vars item clause.head mid then λ head. tested_clause (flat guard head))
    (opened_atoms_few clause.vars item clause.guard)
    (λ guard. then_few (opened_atoms clause.vars item clause.head) (λ head. tested_clause (flat guard head)) (opened_atoms_few clause.vars item clause.head) (λ head. tested_few (flat guard head)))

flat_few : (item number : ℕ) (guard head : List Atom) → StaysFew (flat_line item number guard head)
flat_few item number guard head old new y e few =
    then_few (computed item (flat_literals old.names guard head)) (λ lits. add_line (from_clause number lits)) (computed_few item (flat_literals old.names guard head)) (λ lits. line_few (from_clause number lits))
    old new y e few

line_of_few : (item number : ℕ) (clause : Clause) → StaysFew (ground_line item number clause)
line_of_few item number clause =
    then_few (named_atoms item clause.guard) (λ guard. λ mid. named_atoms item clause.head mid then λ head. flat_line item number guard head) (atoms_few item clause.guard)
    (λ guard. then_few (named_atoms item clause.head) (λ head. flat_line item number guard head) (atoms_few item clause.head) (λ head. flat_few item number guard head))

clause_few : (item number : ℕ) (b : Bool) (clause : Clause) → StaysFew (clause_made item number b clause)
clause_few item number true clause = then_few (flat_clause item number clause) (λ flat. keep (flat ∷ [])) (flat_clause_few item number clause) (λ flat. value_few (flat ∷ []))
clause_few item number false clause = then_few (ground_line item number clause) (λ done. keep []) (line_of_few item number clause) (λ done. value_few [])

clauses_few : (before number : ℕ) (clauses : List Clause) → StaysFew (clauses_made before number clauses)
clauses_few before number [] old new y e few = value_few [] old new y e few
clauses_few before number (clause ∷ clauses) old new y e few =
    then_few (clause_made (before + number) number (has_variables clause) clause) (λ flats. λ mid. clauses_made before (number + 1) clauses mid then λ more. keep (flats ++ more))
    (clause_few (before + number) number (has_variables clause) clause)
    (λ flats. then_few (clauses_made before (number + 1) clauses) (λ more. keep (flats ++ more)) (clauses_few before (number + 1) clauses) (λ more. value_few (flats ++ more)))
    old new y e few

-- ---- the ground set of the clauses
nothing_few : (b : Bool) (decls : List Decl) (l : Limit) (g : Ground) → if◌then◌else◌ {A = Result Ground Limit} b (Err l) (Ok (declared_ground decls)) ≡ Ok g → HasFewLines g
nothing_few true decls l g e = absurd (cc)
nothing_few false decls l g e = subst HasFewLines (ap (λ (o : Result Ground Limit). elim o [ Ok x ↦ x | Err l ↦ g ]) e) (omega arith)

start_few : (decls : List Decl) (g : Ground) → start decls ≡ Ok g → HasFewLines g
start_few decls g e = nothing_few (nat_lt most_names (length (constants_of decls))) decls _ g e

pub flat_of_few : (p : Problem) (flats : List FlatClause) (base : Ground) → flat_of p ≡ Ok (flats, base) → HasFewLines base
flat_of_few p flats base e =
    let s = given.came (start p.decls) (λ g. clauses_made (length p.decls) 1 p.clauses g) (flats, base) e in
    clauses_few (length p.decls) 1 p.clauses s.value base flats s.rest (start_few p.decls s.value s.first)
