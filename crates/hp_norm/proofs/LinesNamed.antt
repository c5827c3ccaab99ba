-- Each clause without variables becomes a line that is true exactly where the clause is.
use Rattle.std.proofs.Common.{◌≡◌, ◌↔◌, ◌||◌, ◌++◌, ℕ, not, true, List, [], ◌∷◌, get_or, Some, Ok, refl, sym, ap, subst, ◌∙◌}
use Rattle.std.specs.List.{All}
use Rattle.std.proofs.lemmas.List.Elements.{All-nil, All-cons, All-head, All-pop, All-push}
use Rattle.hp_tree.specs.declared.problem.Var.{Var}
use Rattle.hp_tree.specs.declared.problem.Atom.{Atom}
use Rattle.hp_tree.specs.declared.problem.Clause.{Clause}
use Rattle.hp_tree.specs.Value.{Environment, Functions, all_true, one_true}
use Rattle.hp_tree.specs.Universal.{assign, clause_at, universal}
use Rattle.hp_terms.specs.Scope.{Scope}
use Rattle.hp_terms.specs.Sorting.{sort_of}
use Rattle.hp_terms.specs.Weight.{IsLightClause}
use Rattle.hp_lit.specs.declared.line.Line.{Line}
use Rattle.hp_lit.specs.Fit.{IsFit}
use Rattle.hp_lit.specs.Sorts.{HaveSorts}
use Rattle.hp_lit.specs.Truth.{Values, LineIsTrue}
use Rattle.hp_defs.specs.declared.names.Ground.{Ground}
use Rattle.hp_defs.specs.Names.{sorts}
use Rattle.hp_defs.proofs.Growing.{begins_get, sorts_begin}
use Rattle.hp_base.specs.Making.{Begins, ◌then◌, computed}
use Rattle.hp_base.specs.Lines.{add_line, flat_scope, with_line}
use Rattle.hp_base.proofs.Making.{begins_line, begins_names, begins_same, begins_trans}
use Rattle.hp_base.proofs.Growing.{came}
use Rattle.hp_base.proofs.ArgsSteps.{agrees_before, computed_gave, line_added}
use Rattle.hp_base.proofs.CongruentLine.{lines_keep_sums}
use Rattle.hp_base.proofs.SumsHold.{sums_hold_by_bodies}
use Rattle.hp_norm.specs.Naming.{named, named_atoms}
use Rattle.hp_norm.specs.Lines.{flat_line, flat_literals, from_clause, ground_line}
use Rattle.hp_norm.specs.Laws.{HasOneSort, IsFitLine}
use Rattle.hp_norm.specs.Sound.{AreTrue, AreValues, IsLater}
use Rattle.hp_norm.proofs.AtomsNamed.{IsSortedIn, all_stay_true, atoms_named, atoms_stay_sorted, one_stays_true}
use Rattle.hp_norm.proofs.GroundsGrew.{grew_through}
use Rattle.hp_norm.proofs.Loads.{flats_are_light, light_within}
use Rattle.hp_norm.proofs.LiteralsTrue.{clause_fits, clause_says}
use Rattle.hp_norm.proofs.NamedWords.{IsOver}
use Rattle.hp_norm.proofs.TermsKept.{later_through}
use Rattle.hp_norm.proofs.TermsNamed.{by_names}
use Rattle.hp_norm.proofs.TermsAlways.{terms_are_named}

abbrev pub ClauseHolds : Environment → Functions → Clause → Type 0
ClauseHolds env functions clause = clause_at env functions (universal clause) [] ≡ true

-- a clause without variables, sorted, its numbers small together
pub record IsReadyClause (scope : Scope) (clause : Clause) : Type 0 where
  pub vars : clause.vars ≡ []
  pub guard : All (IsSortedIn scope) clause.guard
  pub head : All (IsSortedIn scope) clause.head
  pub light : IsLightClause clause

module _ (scope : Scope) where
  -- a line was added that is true exactly where the clause is
  pub record IsLined (before after : Ground) (clause : Clause) : Type 0 where
    pub begins : Begins before after
    pub over : IsOver scope after
    pub says : (end : Ground) (v : Values) (env : Environment) (functions : Functions) → IsLater after end → AreValues end v env functions → HaveSorts (sorts end.names) v
        → AreTrue v after.lines ↔ (AreTrue v before.lines × All (ClauseHolds env functions) (clause ∷ []))

  lined_to : (before mid after : Ground) (clause : Clause) → mid ≡ after → IsLined before mid clause → IsLined before after clause
  lined_to before mid after clause e h = subst (λ (g : Ground). IsLined before g clause) e h

  line_over : (g : Ground) (line : Line) → IsOver scope g → All (IsFit (sorts g.names)) line.lits → IsOver scope (with_line g line)
  line_over g line over fit =
      let sound = over.sound in
      record {
        sound = record { made = sound.made; names = sound.names; lines = All-push (IsFitLine g.names) g.lines line sound.lines fit; sums = lines_keep_sums line g sound.sums };
        wider = over.wider;
      }

  have_sorts : (atoms : List Atom) → All (IsSortedIn scope) atoms → All (HasOneSort scope) atoms
  have_sorts atoms sorted = λ k d within. (sort_of scope (get_or atoms k d), sorted k d within)

  begins_with : (g : Ground) (line : Line) → Begins g (with_line g line)
  begins_with g line = begins_line g line (g.lines ++ line ∷ []) refl

  -- values of the sorts of more names have those of the names in front
  have_before : (old new : Ground) (v : Values) → Begins old new → HaveSorts (sorts new.names) v → HaveSorts (sorts old.names) v
  have_before old new v b have n s e = have n s (begins_get (sorts old.names) (sorts new.names) n s (sorts_begin old.names new.names (begins_names old new b)) e)

  -- without variables a clause says what its atoms say
  pub without_variables : (clause : Clause) (env : Environment) (functions : Functions) → clause.vars ≡ []
      → (not (all_true env functions clause.guard) || one_true env functions clause.head) ≡ clause_at env functions (universal clause) []
  without_variables clause env functions none =
      ap (λ (vars : List Var). not (all_true (assign vars [] env) functions clause.guard) || one_true (assign vars [] env) functions clause.head) (sym none)

  pub clause_lined : (item number : ℕ) (clause : Clause) (done : Unit {0}) (before after : Ground) → IsReadyClause scope clause → IsOver scope before
      → ground_line item number clause before ≡ Ok (done, after) → IsLined before after clause
  clause_lined item number clause done before after ready over e =
      let s = came (named_atoms item clause.guard before) (λ guard. λ mid. named_atoms item clause.head mid then λ head. flat_line item number guard head) done after e in
      let guards = atoms_named (by_names scope) (named item) clause.guard s.value before s.mid (terms_are_named scope item) (have_sorts clause.guard ready.guard) (light_within scope clause.guard ready.light.guard) over s.first in
      let t = came (named_atoms item clause.head s.mid) (λ head. flat_line item number s.value head) done after s.rest in
      let heads = atoms_named (by_names scope) (named item) clause.head t.value s.mid t.mid (terms_are_named scope item) (have_sorts clause.head ready.head) (light_within scope clause.head ready.light.head) guards.over t.first in
      let u = came (computed item (flat_literals t.mid.names s.value t.value) t.mid) (λ lits. add_line (from_clause number lits)) done after t.rest in
      let c = computed_gave item (flat_literals t.mid.names s.value t.value) u.value t.mid u.mid u.first in
      let line = from_clause number u.value in
      let now : IsLater t.mid t.mid = record { begins = begins_same t.mid; made = heads.over.sound.made } in
      let early = later_through s.mid t.mid t.mid heads.grew.begins now in
      let scope_now = flat_scope t.mid.names in
      let sorted = atoms_stay_sorted scope scope_now clause.guard s.value (guards.sorted t.mid early) (guards.first t.mid early) ready.guard in
      let also = atoms_stay_sorted scope scope_now clause.head t.value (heads.sorted t.mid now) (heads.first t.mid now) ready.head in
      let light = flats_are_light scope clause.guard s.value ready.light.guard guards.light in
      let lighter = flats_are_light scope clause.head t.value ready.light.head heads.light in
      let fit = clause_fits t.mid.names s.value t.value u.value sorted also light lighter c.value in
      let grew = grew_through before s.mid t.mid guards.grew heads.grew in
      lined_to before (with_line t.mid line) after clause (ap (λ (g : Ground). with_line g line) c.ground ∙ line_added line done u.mid after u.rest)
      (record {
        begins = begins_trans before t.mid (with_line t.mid line) grew.begins (begins_with t.mid line);
        over = line_over t.mid line heads.over fit;
        says = λ end v env functions l values have.
            let here = later_through t.mid (with_line t.mid line) end (begins_with t.mid line) l in
            let agrees = agrees_before t.mid end v env here.begins values.agrees in
            let says = clause_says t.mid.names v env functions agrees (have_before t.mid end v here.begins have) s.value t.value u.value sorted also c.value in
            let guard_same = all_stay_true env functions clause.guard s.value (guards.same end v env functions (later_through s.mid t.mid end heads.grew.begins here) values) in
            let head_same = one_stays_true env functions clause.head t.value (heads.same end v env functions here values) in
            let same = (λ i. not (guard_same i) || head_same i) ∙ without_variables clause env functions ready.vars in
            let truth = grew.truth end v here.begins (sums_hold_by_bodies functions end.names v values.extends) in
            let IsTrueLine = λ (x : Line). LineIsTrue v x.lits in (
              λ all.
                  let parts = All-pop IsTrueLine (t.mid.lines ++ line ∷ []) t.mid.lines (Some line) refl all in
                  (truth.1 parts.0, All-cons (ClauseHolds env functions) clause [] (sym same ∙ says.0 parts.1) (All-nil (ClauseHolds env functions))),
              λ both. All-push IsTrueLine t.mid.lines line (truth.0 both.0) (says.1 (same ∙ All-head (ClauseHolds env functions) clause [] both.1)),
            );
      })
