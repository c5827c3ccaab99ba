-- The line of a clause at arguments is true exactly where the clause is at their values.
use Rattle.std.proofs.Common.{◌≡◌, ◌++◌, List, [], ◌∷◌, Some, Ok, refl, ap, subst, ◌∙◌}
use Rattle.std.specs.List.{All, AllZip}
use Rattle.std.proofs.lemmas.List.Elements.{All-head, All-pop, All-push, All-tail}
use Rattle.hp_tree.specs.declared.problem.Atom.{Atom}
use Rattle.hp_tree.specs.Value.{Environment, Functions}
use Rattle.hp_terms.specs.Scope.{Scope}
use Rattle.hp_terms.specs.Sorting.{sort_of}
use Rattle.hp_lit.specs.declared.line.Line.{Line}
use Rattle.hp_lit.specs.Fit.{IsFit}
use Rattle.hp_lit.specs.Sorts.{HaveSorts}
use Rattle.hp_lit.specs.Truth.{Values, LineIsTrue}
use Rattle.hp_defs.specs.declared.names.Ground.{Ground}
use Rattle.hp_defs.specs.Names.{sorts}
use Rattle.hp_defs.proofs.Growing.{begins_get, sorts_begin}
use Rattle.hp_base.specs.Making.{Begins, ◌then◌, computed}
use Rattle.hp_base.specs.Laws.{IsFitLine}
use Rattle.hp_base.specs.Lines.{add_line, flat_scope, with_line}
use Rattle.hp_base.proofs.Making.{begins_line, begins_names, begins_same, begins_trans}
use Rattle.hp_base.proofs.Growing.{came}
use Rattle.hp_base.proofs.ArgsSteps.{agrees_before, computed_gave, line_added}
use Rattle.hp_base.proofs.CongruentLine.{lines_keep_sums}
use Rattle.hp_base.proofs.SumsHold.{sums_hold_by_bodies}
use Rattle.hp_norm.specs.declared.flat.FlatClause.{FlatClause}
use Rattle.hp_norm.specs.Naming.{named, named_atoms}
use Rattle.hp_norm.specs.Scopes.{clause_scope, term_scope}
use Rattle.hp_norm.specs.Sound.{AreValues, IsLater, IsSound}
use Rattle.hp_norm.proofs.AtomsNamed.{IsSortedIn, KeepsSorts, KeepsTruth, atoms_named}
use Rattle.hp_norm.proofs.GroundsGrew.{grew_through}
use Rattle.hp_norm.proofs.NamedWords.{same_scope}
use Rattle.hp_norm.proofs.TermsAlways.{terms_are_named}
use Rattle.hp_norm.proofs.TermsKept.{later_through}
use Rattle.hp_norm.proofs.TermsNamed.{by_names}
use Rattle.hp_instance.specs.declared.tuple.Tuple.{Tuple}
use Rattle.hp_norm.specs.Flat.{IsFlat}
use Rattle.hp_instance.specs.Instances.{at_clause, atom_sorts, instance, instance_line, sorted_literals}
use Rattle.hp_instance.specs.Laws.{InstancesSay, IsInstance, TupleFits}
use Rattle.hp_instance.specs.Replacing.{replaced_atoms}
use Rattle.hp_instance.proofs.InstancesLight.{light_inside, light_through}
use Rattle.hp_instance.proofs.LiteralsSay.{AreOfSortsIn, AreTrueWith, instance_fits, instance_says}
use Rattle.hp_instance.proofs.Replaced.{at_values, atom_keeps_sort, atom_keeps_truth, atoms_have_one_sort}

-- values of the sorts of more names have those of the names in front
have_before : (old new : Ground) (v : Values) → Begins old new → HaveSorts (sorts new.names) v → HaveSorts (sorts old.names) v
have_before old new v b have n s e = have n s (begins_get (sorts old.names) (sorts new.names) n s (sorts_begin old.names new.names (begins_names old new b)) e)

sound_with : (g : Ground) (line : Line) → IsSound g → All (IsFit (sorts g.names)) line.lits → IsSound (with_line g line)
sound_with g line sound fit = record {
  made = sound.made;
  names = sound.names;
  lines = All-push (IsFitLine g.names) g.lines line sound.lines fit;
  sums = lines_keep_sums line g sound.sums;
}

begins_with : (g : Ground) (line : Line) → Begins g (with_line g line)
begins_with g line = begins_line g line (g.lines ++ line ∷ []) refl

module _ (c : FlatClause) (t : Tuple) (before : Ground) (sound : IsSound before) (flat : IsFlat before.names c) (fits : TupleFits before.names c t.args) where
  abbrev inner : Scope
  inner = clause_scope before.names c.vars

  abbrev outer : Scope
  outer = term_scope before.names

  abbrev replaced : List Atom → List Atom
  replaced = replaced_atoms before.names c.vars t.args

  -- atoms that stand for replaced ones are of the sorts that these had in the clause
  sorted_through : (now : Scope) (atoms flats : List Atom) → All (IsSortedIn inner) atoms → AllZip (KeepsSorts outer now) (replaced atoms) flats → AreOfSortsIn inner now atoms flats
  sorted_through now [] [] sorted keeps = tt
  sorted_through now [] (x ∷ flats) sorted keeps = absurd keeps
  sorted_through now (atom ∷ atoms) [] sorted keeps = absurd keeps
  sorted_through now (atom ∷ atoms) (x ∷ flats) sorted keeps = (
    keeps.0 (sort_of inner atom) (atom_keeps_sort before.names c.vars t.args fits.sorted sound.made (sort_of inner atom) atom (All-head (IsSortedIn inner) atom atoms sorted)),
    sorted_through now atoms flats (All-tail (IsSortedIn inner) atom atoms sorted) keeps.1,
  )

  module _ (end : Ground) (v : Values) (env : Environment) (functions : Functions) (later : IsLater before end) (values : AreValues end v env functions) where
    abbrev inside : Environment
    inside = at_values before.names c.vars t.args fits.sorted v env functions (agrees_before before end v env later.begins values.agrees)

    true_through : (atoms flats : List Atom) → AllZip (KeepsTruth env functions) (replaced atoms) flats → AreTrueWith inside env functions atoms flats
    true_through [] [] keeps = tt
    true_through [] (x ∷ flats) keeps = absurd keeps
    true_through (atom ∷ atoms) [] keeps = absurd keeps
    true_through (atom ∷ atoms) (x ∷ flats) keeps = (
      keeps.0 ∙ atom_keeps_truth before.names c.vars t.args fits.sorted v env functions (agrees_before before end v env later.begins values.agrees) atom,
      true_through atoms flats keeps.1,
    )

  instance_to : (mid after : Ground) → mid ≡ after → IsInstance c t before mid → IsInstance c t before after
  instance_to mid after e h = subst (λ (g : Ground). IsInstance c t before g) e h

  instance_made : (done : Unit {0}) (after : Ground) → instance c t before ≡ Ok (done, after) → IsInstance c t before after
  instance_made done after e =
      let s = came (named_atoms c.item (replaced c.guard) before)
      (λ guard. λ mid. named_atoms c.item (replaced c.head) mid then λ head. instance_line c t.shown before.names guard head) done after e in
      let guards = atoms_named (by_names outer) (named c.item) (replaced c.guard) s.value before s.mid (terms_are_named outer c.item) (atoms_have_one_sort before.names c.vars t.args fits.sorted sound.made c.guard flat.guard) (light_inside before.names c t.args c.guard fits.guard)
      (record { sound = sound; wider = same_scope outer }) s.first in
      let r = came (named_atoms c.item (replaced c.head) s.mid) (λ head. instance_line c t.shown before.names s.value head) done after s.rest in
      let heads = atoms_named (by_names outer) (named c.item) (replaced c.head) r.value s.mid r.mid (terms_are_named outer c.item) (atoms_have_one_sort before.names c.vars t.args fits.sorted sound.made c.head flat.head) (light_inside before.names c t.args c.head fits.head) guards.over r.first in
      let wanted = sorted_literals r.mid.names (atom_sorts inner c.guard) s.value (atom_sorts inner c.head) r.value in
      let u = came (computed c.item wanted r.mid) (λ lits. add_line (at_clause c.clause t.shown lits)) done after r.rest in
      let given = computed_gave c.item wanted u.value r.mid u.mid u.first in
      let line = at_clause c.clause t.shown u.value in
      let now : IsLater r.mid r.mid = record { begins = begins_same r.mid; made = heads.over.sound.made } in
      let sorted = sorted_through (flat_scope r.mid.names) c.guard s.value flat.guard (guards.sorted r.mid (later_through s.mid r.mid r.mid heads.grew.begins now)) in
      let also = sorted_through (flat_scope r.mid.names) c.head r.value flat.head (heads.sorted r.mid now) in
      let fit = instance_fits r.mid.names inner c.guard c.head s.value r.value u.value sorted also (light_through before.names c t.args c.guard s.value fits.guard guards.light) (light_through before.names c t.args c.head r.value fits.head heads.light) given.value in
      let grew = grew_through before s.mid r.mid guards.grew heads.grew in
      instance_to (with_line r.mid line) after (ap (λ (g : Ground). with_line g line) given.ground ∙ line_added line done u.mid after u.rest)
      (record {
        grew = begins_trans before r.mid (with_line r.mid line) grew.begins (begins_with r.mid line);
        sound = sound_with r.mid line heads.over.sound fit;
        says = λ end v env functions l values have.
            let here = later_through r.mid (with_line r.mid line) end (begins_with r.mid line) l in
            let first = later_through before r.mid end grew.begins here in
            let agrees = agrees_before r.mid end v env here.begins values.agrees in
            let guard_same = true_through end v env functions first values c.guard s.value (guards.same end v env functions (later_through s.mid r.mid end heads.grew.begins here) values) in
            let head_same = true_through end v env functions first values c.head r.value (heads.same end v env functions here values) in
            let says = instance_says r.mid.names inner v (inside end v env functions first values) env functions agrees (have_before r.mid end v here.begins have)
            c.guard c.head s.value r.value u.value sorted also guard_same head_same given.value in
            let truth = grew.truth end v here.begins (sums_hold_by_bodies functions end.names v values.extends) in
            let IsTrueLine = λ (x : Line). LineIsTrue v x.lits in (
              λ all.
                  let parts = All-pop IsTrueLine (r.mid.lines ++ line ∷ []) r.mid.lines (Some line) refl all in
                  (truth.1 parts.0, says.0 parts.1),
              λ both. All-push IsTrueLine r.mid.lines line (truth.0 both.0) (says.1 both.1),
            );
      })

pub instances_say : InstancesSay
instances_say c t done before after sound flat fits e = instance_made c t before sound flat fits done after e
