-- The line of a clause at arguments, once the atoms of its guard and its head are named.
use Rattle.std.proofs.Common.{◌≡◌, List, Result, Ok, Err, refl, subst}
use Rattle.std.specs.Result.{IsErrAnd}
use Rattle.hp_tree.specs.declared.problem.Atom.{Atom}
use Rattle.hp_tree.specs.declared.problem.Sort.{Sort}
use Rattle.hp_lit.specs.declared.literal.Lit.{Lit}
use Rattle.hp_lit.specs.declared.line.Arg.{Arg}
use Rattle.hp_lit.specs.declared.refusal.GroundErr.{GroundErr}
use Rattle.hp_linear.specs.Answers.{Answers}
use Rattle.hp_linear.specs.Steps.{Refusable}
use Rattle.hp_defs.specs.declared.names.Ground.{Ground}
use Rattle.hp_defs.specs.Names.{NameList}
use Rattle.hp_base.specs.Making.{Maker, Makes, ◌then◌, computed}
use Rattle.hp_base.specs.Lines.{add_line}
use Rattle.hp_base.proofs.Making.{computed_first, computed_second, makes_other, makes_second}
use Rattle.hp_norm.specs.declared.flat.FlatClause.{FlatClause}
use Rattle.hp_norm.specs.Naming.{named_atoms}
use Rattle.hp_norm.specs.Scopes.{clause_scope}
use Rattle.hp_instance.specs.declared.tuple.Tuple.{Tuple}
use Rattle.hp_instance.specs.Instances.{at_clause, atom_sorts, instance, instance_line, sorted_literals}
use Rattle.hp_instance.specs.Replacing.{replaced_atoms}

-- the same literals, from equal lists
pub answers_at : (names : NameList) (ss ss' : List Sort) (gs gs' : List Atom) (us us' : List Sort) (hs hs' : List Atom) (r : Refusable (List Lit)) → ss ≡ ss' → gs ≡ gs' → us ≡ us' → hs ≡ hs'
    → Answers (sorted_literals names ss gs us hs) r → Answers (sorted_literals names ss' gs' us' hs') r
answers_at names ss ss' gs gs' us us' hs hs' r p q u v h = subst (λ (w : Refusable (List Lit)). Answers w r) (λ i. sorted_literals names (p i) (q i) (u i) (v i)) h

module _ (c : FlatClause) (t : Tuple) (before mid end : Ground) (guard head : List Atom) where
  abbrev replaced : List Atom → List Atom
  replaced = replaced_atoms before.names c.vars t.args

  abbrev from_head : List Atom → Maker (Unit {0})
  from_head = instance_line c t.shown before.names guard

  abbrev from_guard : List Atom → Maker (Unit {0})
  from_guard atoms = λ (g : Ground). named_atoms c.item (replaced c.head) g then instance_line c t.shown before.names atoms

  abbrev AreNamed : Type 0
  AreNamed = (named_atoms c.item (replaced c.guard) before ≡ Ok (guard, mid)) × (named_atoms c.item (replaced c.head) mid ≡ Ok (head, end))

  instance_ends : (new : Ground) (r : Result (Unit {0}) GroundErr) → AreNamed → Makes (from_head head) end new r → Makes (instance c t) before new r
  instance_ends new r both h =
      makes_other (λ (g : Ground). named_atoms c.item (replaced c.guard) g then from_guard) (instance c t) before new r refl
      (makes_second (named_atoms c.item (replaced c.guard)) from_guard guard before mid new r both.0
      (makes_second (named_atoms c.item (replaced c.head)) from_head head mid end new r both.1 h))

  -- ---- its literals
  abbrev pub wanted : Refusable (List Lit)
  wanted = sorted_literals end.names (atom_sorts (clause_scope before.names c.vars) c.guard) guard (atom_sorts (clause_scope before.names c.vars) c.head) head

  abbrev with_lits : List Lit → Maker (Unit {0})
  with_lits lits = add_line (at_clause c.clause t.shown lits)

  pub instance_refused : (e : GroundErr) (r : Result (Unit {0}) GroundErr) → AreNamed → Makes (computed c.item wanted) end end (Err e) → IsErrAnd r (λ x. x ≡ e) → Makes (instance c t) before end r
  instance_refused e r both h s =
      instance_ends end r both (makes_other (λ (g : Ground). computed c.item wanted g then with_lits) (from_head head) end end r refl (computed_first c.item wanted with_lits end e r h s))

  pub instance_given : (lits : List Lit) (shown : List Arg) (new : Ground) (r : Result (Unit {0}) GroundErr) → AreNamed → computed c.item wanted end ≡ Ok (lits, end) → shown ≡ t.shown
      → Makes (add_line (at_clause c.clause shown lits)) end new r → Makes (instance c t) before new r
  instance_given lits shown new r both h is line =
      instance_ends new r both
      (makes_other (λ (g : Ground). computed c.item wanted g then with_lits) (from_head head) end new r refl
      (computed_second c.item wanted with_lits lits end new r h (subst (λ (xs : List Arg). Makes (add_line (at_clause c.clause xs lits)) end new r) is line)))
