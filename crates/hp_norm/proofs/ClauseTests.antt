-- The tests of a clause: its atoms, the arguments of its applications, and the whole.
use Rattle.std.proofs.Common.{◌≡◌, ℕ, ◌+◌, ◌<◌, ◌≤◌, zero, suc, arith, Bool, true, false, List, [], ◌∷◌, length, get_or, drop, Result, Ok, Err, refl, sym, ap, subst, ◌∙◌}
use Rattle.std.specs.Result.{IsErrAnd}
use Rattle.std.proofs.lemmas.List.{drop_more}
use Rattle.hp_num.specs.Wide.{◌>>=◌}
use Rattle.hp_tree.specs.declared.term.Term.{Term, out-Term}
use Rattle.hp_tree.specs.declared.problem.Atom.{Atom}
use Rattle.hp_tree.specs.declared.problem.Sort.{Sort}
use Rattle.hp_tree.specs.declared.problem.Var.{Var}
use Rattle.hp_terms.specs.Scope.{Scope}
use Rattle.hp_terms.specs.Sorting.{sort_of}
use Rattle.hp_lit.specs.declared.refusal.Refusal.{Refusal}
use Rattle.hp_linear.specs.Answers.{Answers}
use Rattle.hp_linear.specs.Steps.{Refusable}
use Rattle.hp_defs.specs.Names.{NameList}
use Rattle.hp_norm.specs.declared.flat.FlatClause.{FlatClause}
use Rattle.hp_norm.specs.declared.standing.Standing.{Standing}
use Rattle.hp_norm.specs.Scopes.{clause_scope}
use Rattle.hp_norm.specs.Testing.{standing_of, tested, tested_apps, tested_args, tested_as, tested_atoms, tested_layer}
use Rattle.hp_norm.proofs.TestSteps.{test_failed, test_passed, tests_passed}

-- the next of a list
next_item : {X : Type 0} (xs : List X) (i : ℕ) (x : X) → i < length xs → x ≡ get_or xs i x → drop i xs ≡ x ∷ drop (i + 1) xs
next_item {X} xs i x h e = drop_more xs i x h ∙ ap (λ (y : X). y ∷ drop (i + 1) xs) (sym e)

-- ---- atoms
module _ (scope : Scope) (s : Standing) (positive : Bool) (atoms : List Atom) (i : ℕ) (atom : Atom) (sort : Sort) (less : i < length atoms) (at : atom ≡ get_or atoms i atom)
    (is : sort ≡ sort_of scope atom) (so_far : tested_atoms scope s positive atoms ≡ tested_atoms scope s positive (drop i atoms)) where
  from_atom : tested_atoms scope s positive atoms ≡ (tested_as sort s positive atom >>= λ done. tested_atoms scope s positive (drop (i + 1) atoms))
  from_atom =
      so_far ∙ ap (tested_atoms scope s positive) (next_item atoms i atom less at)
      ∙ ap (λ (k : Sort). tested_as k s positive atom >>= λ done. tested_atoms scope s positive (drop (i + 1) atoms)) (sym is)

  pub atom_passed : (done : Unit {0}) → tested_as sort s positive atom ≡ Ok done → tested_atoms scope s positive atoms ≡ tested_atoms scope s positive (drop (i + 1) atoms)
  atom_passed done e = test_passed (tested_atoms scope s positive atoms) (tested_as sort s positive atom) (tested_atoms scope s positive (drop (i + 1) atoms)) done from_atom e

  pub atom_failed : (e : Refusal) (r : Result (Unit {0}) Refusal) → Answers (tested_as sort s positive atom) (Err e) → IsErrAnd r (λ x. x ≡ e) → Answers (tested_atoms scope s positive atoms) r
  atom_failed e r h k = test_failed (tested_atoms scope s positive atoms) (tested_as sort s positive atom) (tested_atoms scope s positive (drop (i + 1) atoms)) e r from_atom h k

-- ---- applications
module _ (names : NameList) (s : Standing) (apps items : List Term) (same : items ≡ apps) (i : ℕ) (app : Term) (less : i < length items) (at : app ≡ get_or items i app)
    (so_far : tested_apps names s apps ≡ tested_apps names s (drop i apps)) where
  from_app : tested_apps names s apps ≡ (tested_layer names s (out-Term app) >>= λ done. tested_apps names s (drop (i + 1) apps))
  from_app = so_far ∙ ap (tested_apps names s) (subst (λ (xs : List Term). drop i xs ≡ app ∷ drop (i + 1) xs) same (next_item items i app less at))

  pub app_passed : (done : Unit {0}) → tested_layer names s (out-Term app) ≡ Ok done → tested_apps names s apps ≡ tested_apps names s (drop (i + 1) apps)
  app_passed done e = test_passed (tested_apps names s apps) (tested_layer names s (out-Term app)) (tested_apps names s (drop (i + 1) apps)) done from_app e

  pub app_failed : (e : Refusal) (r : Result (Unit {0}) Refusal) → Answers (tested_layer names s (out-Term app)) (Err e) → IsErrAnd r (λ x. x ≡ e) → Answers (tested_apps names s apps) r
  app_failed e r h k = test_failed (tested_apps names s apps) (tested_layer names s (out-Term app)) (tested_apps names s (drop (i + 1) apps)) e r from_app h k

-- ---- arguments
drop_end : {X : Type 0} (xs : List X) (i : ℕ) → length xs ≤ i → drop i xs ≡ []
drop_end [] zero h = refl
drop_end [] (suc i) h = refl
drop_end (x ∷ xs) zero h = absurd (omega arith)
drop_end (x ∷ xs) (suc i) h = drop_end xs i (omega arith)

pub no_args : (s : Standing) (sorts : List Sort) → tested_args s sorts [] ≡ Ok tt
no_args s [] = refl
no_args s (sort ∷ sorts) = refl

pub args_over : (s : Standing) (sorts : List Sort) (args : List Term) (i : ℕ) → length args ≤ i → tested_args s sorts args ≡ tested_args s (drop i sorts) (drop i args) → tested_args s sorts args ≡ Ok tt
args_over s sorts args i h so_far = so_far ∙ ap (tested_args s (drop i sorts)) (drop_end args i h) ∙ no_args s (drop i sorts)

-- ---- a clause
module _ (names : NameList) (c : FlatClause) (s : Standing) (vars : List Var) (guard head : List Atom) (made : s ≡ standing_of names c) (vs : vars ≡ c.vars) (gs : guard ≡ c.guard) (hs : head ≡ c.head) where
  abbrev on_guard : Refusable (Unit {0})
  on_guard = tested_atoms (clause_scope names vars) s false guard

  abbrev on_head : Refusable (Unit {0})
  on_head = tested_atoms (clause_scope names vars) s true head

  abbrev on_apps : Refusable (Unit {0})
  on_apps = tested_apps names s s.apps

  whole : tested names c ≡ (on_guard >>= λ done. (on_head >>= λ over. on_apps))
  whole = λ i.
      tested_atoms (clause_scope names (sym vs i)) (sym made i) false (sym gs i) >>= λ done.
      tested_atoms (clause_scope names (sym vs i)) (sym made i) true (sym hs i) >>= λ over.
      tested_apps names (sym made i) (sym made i).apps

  pub guard_failed : (e : Refusal) (r : Result (Unit {0}) Refusal) → Answers on_guard (Err e) → IsErrAnd r (λ x. x ≡ e) → Answers (tested names c) r
  guard_failed e r h k = test_failed (tested names c) on_guard (on_head >>= λ over. on_apps) e r whole h k

  after_guard : (done : Unit {0}) → on_guard ≡ Ok done → tested names c ≡ (on_head >>= λ over. on_apps)
  after_guard done g = test_passed (tested names c) on_guard (on_head >>= λ over. on_apps) done whole g

  pub head_failed : (done : Unit {0}) (e : Refusal) (r : Result (Unit {0}) Refusal) → on_guard ≡ Ok done → Answers on_head (Err e) → IsErrAnd r (λ x. x ≡ e) → Answers (tested names c) r
  head_failed done e r g h k = test_failed (tested names c) on_head on_apps e r (after_guard done g) h k

  pub atoms_tested : (done over : Unit {0}) (r : Result (Unit {0}) Refusal) → on_guard ≡ Ok done → on_head ≡ Ok over → Answers on_apps r → Answers (tested names c) r
  atoms_tested done over r g h a = tests_passed (tested names c) on_head on_apps over r (after_guard done g) h a
