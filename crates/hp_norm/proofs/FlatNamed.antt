-- Each clause of a problem becomes a line that is true exactly where the clause is, or a flat clause that says the same at the same values.
use Rattle.std.proofs.Common.{◌≡◌, ◌↔◌, ◌+◌, ◌||◌, ◌++◌, ℕ, not, Bool, true, false, List, [], ◌∷◌, get_or, map, Option, Some, None, Ok, refl, sym, ap, subst, ◌∙◌, arith}
use Rattle.std.specs.Prelude.{cond, if◌then◌else◌}
use Rattle.std.specs.List.{All, AllZip}
use Rattle.std.specs.Option.{option_or}
use Rattle.std.specs.Str.{bytes_eq}
use Rattle.std.proofs.lemmas.Bool.{or_parts}
use Rattle.std.proofs.lemmas.List.Elements.{All-nil, All-cons, All-head, All-tail, All-weaker}
use Rattle.hp_math.specs.Rational.{ℚ}
use Rattle.hp_names.specs.Names.{is_among}
use Rattle.hp_names.proofs.Texts.{same_text, text_same}
use Rattle.hp_tree.specs.declared.problem.Sort.{Sort}
use Rattle.hp_tree.specs.declared.problem.Var.{Var}
use Rattle.hp_tree.specs.declared.problem.Atom.{Atom}
use Rattle.hp_tree.specs.declared.problem.Clause.{Clause}
use Rattle.hp_tree.specs.declared.problem.Problem.{Problem}
use Rattle.hp_tree.specs.Value.{Environment, Functions, Word}
use Rattle.hp_tree.specs.Universal.{assign}
use Rattle.hp_terms.specs.Scope.{Scope, Widens}
use Rattle.hp_terms.specs.Sorting.{sort_of}
use Rattle.hp_terms.specs.Weight.{IsLightClause, weight}
use Rattle.hp_terms.specs.Words.{IsPlainWord}
use Rattle.hp_lit.specs.Sorts.{HaveSorts}
use Rattle.hp_lit.specs.Truth.{Values}
use Rattle.hp_defs.specs.declared.names.Ground.{Ground}
use Rattle.hp_defs.specs.Made.{IsMade}
use Rattle.hp_defs.specs.Names.{constant_name, constant_words, sorts}
use Rattle.hp_base.specs.Making.{Begins, ◌then◌, computed, keep}
use Rattle.hp_base.specs.Lines.{flat_scope}
use Rattle.hp_base.proofs.Making.{begins_same, begins_trans}
use Rattle.hp_base.proofs.Growing.{came}
use Rattle.hp_base.proofs.ArgsSteps.{computed_gave, gave}
use Rattle.hp_base.proofs.SumsHold.{sums_hold_by_bodies}
use Rattle.hp_sorts.specs.Laws.{IsWellSortedAtom, IsWellSortedClause}
use Rattle.hp_sorts.specs.Numbered.{named}
use Rattle.hp_sorts.specs.Scopes.{problem_scope}
use Rattle.hp_sorts.specs.Symbols.{constant_names, constant_sorts, function_names, is_declared, symbols}
use Rattle.hp_sorts.proofs.Places.{named-cons}
use Rattle.hp_norm.specs.declared.flat.FlatClause.{FlatClause}
use Rattle.hp_norm.specs.Flat.{IsFlatOf, are_some, chosen, clause_made, clauses_made, flat_clause, has_variables, tested_clause, with_variables, without_variables}
use Rattle.hp_norm.specs.Laws.{HasOneSort}
use Rattle.hp_norm.specs.Lines.{declared_ground, declared_names, ground_line}
use Rattle.hp_norm.specs.Opening.{is_variable, opened, opened_atoms}
use Rattle.hp_norm.specs.Scopes.{clause_scope, variable_sort}
use Rattle.hp_norm.specs.Sound.{AreTrue, AreValues, Grew, IsLater, IsSound}
use Rattle.hp_norm.specs.Testing.{tested}
use Rattle.hp_norm.proofs.AtomsNamed.{IsSortedIn, all_stay_true, atoms_named, atoms_stay_sorted, one_stays_true}
use Rattle.hp_norm.proofs.ClauseScopes.{AreApart, apart_stays, clause_grows, not_variable}
use Rattle.hp_norm.proofs.DeclaredWords.{constant_is_named, declared_scope, function_is_declared, words_of}
use Rattle.hp_norm.proofs.GroundsGrew.{grew_through}
use Rattle.hp_norm.proofs.LinesNamed.{ClauseHolds, IsReadyClause, clause_lined}
use Rattle.hp_norm.proofs.Loads.{light_flats, light_within}
use Rattle.hp_norm.proofs.NamedWords.{IsOver, known_has_profile, scope_grows}
use Rattle.hp_norm.proofs.OpenedAlways.{terms_are_opened}
use Rattle.hp_norm.proofs.OpenedKept.{IsClauseOver, in_clause}
use Rattle.hp_norm.proofs.TermsKept.{later_through}

-- ---- variables
pub none_are : (vars : List Var) → are_some vars ≡ false → vars ≡ []
none_are [] e = refl
none_are (var ∷ vars) e = absurd (cc)

tests_turn : (x y : Word) → bytes_eq x y ≡ bytes_eq y x
tests_turn x y = by (bytes_eq x y) (bytes_eq y x) refl refl
  where
    by : (a b : Bool) → bytes_eq x y ≡ a → bytes_eq y x ≡ b → a ≡ b
    by true true e f = refl
    by false false e f = refl
    by true false e f = sym (text_same x) ∙ ap (bytes_eq x) (same_text x y e) ∙ sym (ap (bytes_eq x) (same_text x y e)) ∙ ap (λ z. bytes_eq z x) (same_text x y e) ∙ f
    by false true e f = sym e ∙ ap (λ z. bytes_eq x z) (same_text y x f) ∙ text_same x

-- the sort of a variable is that of its place
pub variable_has_sort : (vars : List Var) (word : Word) → named word (map (λ v. v.name) vars) (map (λ v. v.sort) vars) ≡ variable_sort vars word
variable_has_sort [] word = refl
variable_has_sort (v ∷ vars) word =
    named-cons word v.name (map (λ u. u.name) vars) v.sort (map (λ u. u.sort) vars)
    ∙ (λ i. cond (tests_turn word v.name i) (Some v.sort) (variable_has_sort vars word i))

-- a word that is no variable's keeps its value
keeps_value : (vars : List Var) (values : List ℚ) (env : Environment) (word : Word) → is_variable vars word ≡ false → assign vars values env word ≡ env word
keeps_value [] values env word e = refl
keeps_value (v ∷ vars) [] env word e = refl
keeps_value (v ∷ vars) (x ∷ values) env word e =
    let parts = or_parts (bytes_eq v.name word) (is_variable vars word) e in
    ap (λ b. if b then x else assign vars values env word) parts.0 ∙ keeps_value vars values env word parts.1

-- and so values go with names whatever values the variables have
values_with : (vars : List Var) (values : List ℚ) (end : Ground) (v : Values) (env : Environment) (functions : Functions) → IsMade end.names → AreApart vars end.names → AreValues end v env functions
    → AreValues end v (assign vars values env) functions
values_with vars values end v env functions made apart h = record {
  agrees = λ k word e. keeps_value vars values env word (not_variable vars end.names k word made apart e) ∙ h.agrees k word e;
  extends = h.extends;
}

module _ (p : Problem) (sound_start : IsSound (declared_ground p.decls)) where
  abbrev start : Ground
  start = declared_ground p.decls

  -- ---- scopes
  -- the declared names and the variables say all that the scope of a clause says
  declared_in_clause : (vars : List Var) → Widens (problem_scope p vars) (clause_scope (declared_names p.decls) vars)
  declared_in_clause vars =
      let names = declared_names p.decls in
      record {
        names = λ word sort e. by word sort (variable_sort vars word) (sym (ap (λ (o : Option Sort). option_or o (named word (constant_names p.decls) (constant_sorts p.decls))) (variable_has_sort vars word)) ∙ e);
        functions = λ word profile e. known_has_profile names word profile (function_is_declared p names word profile refl e);
        pointers = λ number e. e;
      }
    where
      by : (word : Word) (sort : Sort) (o : Option Sort) → option_or o (named word (constant_names p.decls) (constant_sorts p.decls)) ≡ Some sort
          → option_or o ((flat_scope (declared_names p.decls)).name word) ≡ Some sort
      by word sort (Some s) e = e
      by word sort None e = constant_is_named p (declared_names p.decls) word sort refl sound_start.made e

  -- a sound ground set that begins with the declared names
  record IsAfter (g : Ground) : Type 0 where
    sound : IsSound g
    begins : Begins start g

  over_names : (g : Ground) → IsAfter g → IsOver (problem_scope p []) g
  over_names g a = record { sound = a.sound; wider = scope_grows (problem_scope p []) start g a.begins a.sound.made (declared_scope p sound_start.made) }

  over_clause : (g : Ground) (vars : List Var) → IsAfter g → AreApart vars g.names → IsClauseOver (problem_scope p vars) vars g
  over_clause g vars a apart = record {
    sound = a.sound;
    wider = clause_grows vars (problem_scope p vars) start g a.begins a.sound.made (declared_in_clause vars);
    apart = apart;
  }

  -- ---- a clause
  -- sorted, its numbers small together, and no variable with the word of a definition
  pub record IsReady (clause : Clause) : Type 0 where
    pub sorted : IsWellSortedClause p clause
    pub light : IsLightClause clause
    pub plain : All (λ v. IsPlainWord v.name) clause.vars

  sorted_atoms : (vars : List Var) (atoms : List Atom) → All (IsWellSortedAtom p vars) atoms → All (IsSortedIn (problem_scope p vars)) atoms
  sorted_atoms vars atoms all = λ k d within. (all k d within).sorted

  have_sorts : (scope : Scope) (atoms : List Atom) → All (IsSortedIn scope) atoms → All (HasOneSort scope) atoms
  have_sorts scope atoms sorted = λ k d within. (sort_of scope (get_or atoms k d), sorted k d within)

  -- no variable has the word of a constant
  apart_from : (g : Ground) (clause : Clause) → Begins start g → IsReady clause → AreApart clause.vars g.names
  apart_from g clause b ready = record {
    plain = ready.plain;
    fresh = All-weaker (λ (v : Var). is_declared (symbols p.decls) v.name ≡ false) (λ (v : Var). is_among v.name (constant_words g.names) ≡ false)
        (λ v h. ap (is_among v.name) (constants_are g b) ∙ (or_parts (is_among v.name (constant_names p.decls)) (is_among v.name (function_names p.decls)) h).0) clause.vars ready.sorted.vars.undeclared;
  }
    where
      constants_are : (g : Ground) → Begins start g → constant_words g.names ≡ constant_names p.decls
      constants_are g b = ap (λ cs. map constant_name cs) b.constants ∙ words_of p.decls

  record IsMadeFlat (before after : Ground) (clause : Clause) (c : FlatClause) : Type 0 where
    grew : Grew before after
    sound : IsSound after
    flat : IsFlatOf after clause c

  made_to : (before mid after : Ground) (clause : Clause) (c d : FlatClause) → c ≡ d → mid ≡ after → IsMadeFlat before mid clause c → IsMadeFlat before after clause d
  made_to before mid after clause c d e f h = subst (λ (x : FlatClause). IsMadeFlat before after clause x) e (subst (λ (g : Ground). IsMadeFlat before g clause c) f h)

  clause_flattened : (item number : ℕ) (clause : Clause) (c : FlatClause) (before after : Ground) → IsReady clause → IsAfter before → flat_clause item number clause before ≡ Ok (c, after)
      → IsMadeFlat before after clause c
  clause_flattened item number clause c before after ready a e =
      let vars = clause.vars in
      let scope = problem_scope p vars in
      let build = λ (guard head : List Atom). (let own : FlatClause = record { clause = number; item = item; vars = vars; guard = guard; head = head } in own) in
      let apart = apart_from before clause a.begins ready in
      let s = came (opened_atoms vars item clause.guard before) (λ guard. λ mid. opened_atoms vars item clause.head mid then λ head. tested_clause (build guard head)) c after e in
      let reading = in_clause scope vars in
      let sorted_guard = sorted_atoms vars clause.guard ready.sorted.guard in
      let sorted_head = sorted_atoms vars clause.head ready.sorted.head in
      let guards = atoms_named reading (opened vars item) clause.guard s.value before s.mid (terms_are_opened scope vars item) (have_sorts scope clause.guard sorted_guard) (light_within scope clause.guard ready.light.guard) (over_clause before vars a apart) s.first in
      let t = came (opened_atoms vars item clause.head s.mid) (λ head. tested_clause (build s.value head)) c after s.rest in
      let heads = atoms_named reading (opened vars item) clause.head t.value s.mid t.mid (terms_are_opened scope vars item) (have_sorts scope clause.head sorted_head) (light_within scope clause.head ready.light.head) guards.over t.first in
      let own = build s.value t.value in
      let u = came (computed item (tested t.mid.names own) t.mid) (λ done. keep own) c after t.rest in
      let k = computed_gave item (tested t.mid.names own) u.value t.mid u.mid u.first in
      let g = gave own c u.mid after u.rest in
      let early = λ (end : Ground) (l : IsLater t.mid end). later_through s.mid t.mid end heads.grew.begins l in
      made_to before t.mid after clause own c g.value (k.ground ∙ g.ground)
      (record {
        grew = grew_through before s.mid t.mid guards.grew heads.grew;
        sound = heads.over.sound;
        flat = record {
          vars = refl;
          flat = λ end l.
              let far = apart_stays vars t.mid end l.begins heads.over.apart in
              record {
                distinct = ready.sorted.vars.distinct;
                plain = far.plain;
                fresh = far.fresh;
                guard = atoms_stay_sorted scope (clause_scope end.names vars) clause.guard s.value (guards.sorted end (early end l)) (guards.first end (early end l)) sorted_guard;
                head = atoms_stay_sorted scope (clause_scope end.names vars) clause.head t.value (heads.sorted end l) (heads.first end l) sorted_head;
                guard_light = light_flats weight (λ t. omega arith) clause.guard s.value ready.light.guard guards.light;
                head_light = light_flats weight (λ t. omega arith) clause.head t.value ready.light.head heads.light;
              };
          says = λ end v env functions values l h.
              let with = values_with vars values end v env functions l.made (apart_stays vars t.mid end l.begins heads.over.apart) h in
              let now = assign vars values env in
              let guard = all_stay_true now functions clause.guard s.value (guards.same end v now functions (early end l) with) in
              let head = one_stays_true now functions clause.head t.value (heads.same end v now functions l with) in
              λ i. not (guard i) || head i;
        };
      })

  -- ---- clauses
  -- lines that are true exactly where the clauses without variables are, and a flat clause for each other clause
  pub record AreMadeFlat (before after : Ground) (clauses : List Clause) (flats : List FlatClause) : Type 0 where
    pub begins : Begins before after
    pub sound : IsSound after
    pub lines : (end : Ground) (v : Values) (env : Environment) (functions : Functions) → IsLater after end → AreValues end v env functions → HaveSorts (sorts end.names) v
        → AreTrue v after.lines ↔ (AreTrue v before.lines × All (ClauseHolds env functions) (without_variables clauses))
    pub clauses_flat : AllZip (IsFlatOf after) (with_variables clauses) flats

  flat_later : (mid after : Ground) (clause : Clause) (c : FlatClause) → Begins mid after → IsFlatOf mid clause c → IsFlatOf after clause c
  flat_later mid after clause c b h = record {
    vars = h.vars;
    flat = λ end l. h.flat end (later_through mid after end b l);
    says = λ end v env functions values l. h.says end v env functions values (later_through mid after end b l);
  }

  -- one clause, by whether it has variables
  record IsOneMade (b : Bool) (before after : Ground) (clause : Clause) (flats : List FlatClause) : Type 0 where
    begins : Begins before after
    sound : IsSound after
    lines : (end : Ground) (v : Values) (env : Environment) (functions : Functions) → IsLater after end → AreValues end v env functions → HaveSorts (sorts end.names) v
        → AreTrue v after.lines ↔ (AreTrue v before.lines × All (ClauseHolds env functions) (chosen (not b) clause []))
    flat : AllZip (IsFlatOf after) (chosen b clause []) flats

  one_to : (b : Bool) (before mid after : Ground) (clause : Clause) (fs gs : List FlatClause) → fs ≡ gs → mid ≡ after → IsOneMade b before mid clause fs → IsOneMade b before after clause gs
  one_to b before mid after clause fs gs e f h = subst (λ (x : List FlatClause). IsOneMade b before after clause x) e (subst (λ (g : Ground). IsOneMade b before g clause fs) f h)

  one_made : (item number : ℕ) (b : Bool) (clause : Clause) (flats : List FlatClause) (before after : Ground) → has_variables clause ≡ b → IsReady clause → IsAfter before
      → clause_made item number b clause before ≡ Ok (flats, after) → IsOneMade b before after clause flats
  one_made item number true clause flats before after is ready a e =
      let s = came (flat_clause item number clause before) (λ flat. keep (flat ∷ [])) flats after e in
      let h = clause_flattened item number clause s.value before s.mid ready a s.first in
      let g = gave (s.value ∷ []) flats s.mid after s.rest in
      one_to true before s.mid after clause (s.value ∷ []) flats g.value g.ground
      (record {
        begins = h.grew.begins;
        sound = h.sound;
        lines = λ end v env functions l values have.
            let truth = h.grew.truth end v l.begins (sums_hold_by_bodies functions end.names v values.extends) in
            (λ all. (truth.1 all, All-nil (ClauseHolds env functions)), λ both. truth.0 both.0);
        flat = (h.flat, tt);
      })
  one_made item number false clause flats before after is ready a e =
      let scope = problem_scope p [] in
      let none = none_are clause.vars is in
      let s = came (ground_line item number clause before) (λ done. keep []) flats after e in
      let able : IsReadyClause scope clause = record {
        vars = none;
        guard = subst (λ (vs : List Var). All (IsSortedIn (problem_scope p vs)) clause.guard) none (sorted_atoms clause.vars clause.guard ready.sorted.guard);
        head = subst (λ (vs : List Var). All (IsSortedIn (problem_scope p vs)) clause.head) none (sorted_atoms clause.vars clause.head ready.sorted.head);
        light = ready.light;
      } in
      let h = clause_lined scope item number clause s.value before s.mid able (over_names before a) s.first in
      let g = gave [] flats s.mid after s.rest in
      one_to false before s.mid after clause [] flats g.value g.ground
      (record { begins = h.begins; sound = h.over.sound; lines = h.says; flat = tt })

  -- joined with those behind it
  zip_join : (b : Bool) (g : Ground) (clause : Clause) (clauses : List Clause) (fs gs : List FlatClause) → AllZip (IsFlatOf g) (chosen b clause []) fs → AllZip (IsFlatOf g) clauses gs
      → AllZip (IsFlatOf g) (chosen b clause clauses) (fs ++ gs)
  zip_join true g clause clauses [] gs h k = absurd h
  zip_join true g clause clauses (f ∷ []) gs h k = (h.0, k)
  zip_join true g clause clauses (f ∷ f2 ∷ fs) gs h k = absurd h.1
  zip_join false g clause clauses [] gs h k = k
  zip_join false g clause clauses (f ∷ fs) gs h k = absurd h

  zip_later : (b : Bool) (mid after : Ground) (clause : Clause) (fs : List FlatClause) → Begins mid after → AllZip (IsFlatOf mid) (chosen b clause []) fs → AllZip (IsFlatOf after) (chosen b clause []) fs
  zip_later true mid after clause [] begins h = absurd h
  zip_later true mid after clause (f ∷ []) begins h = (flat_later mid after clause f begins h.0, tt)
  zip_later true mid after clause (f ∷ f2 ∷ fs) begins h = absurd h.1
  zip_later false mid after clause [] begins h = tt
  zip_later false mid after clause (f ∷ fs) begins h = absurd h

  all_join : (b : Bool) (P : Clause → Type 0) (clause : Clause) (clauses : List Clause) → (All P (chosen b clause []) × All P clauses) ↔ All P (chosen b clause clauses)
  all_join true P clause clauses = (λ both. All-cons P clause clauses (All-head P clause [] both.0) both.1, λ all. (All-cons P clause [] (All-head P clause clauses all) (All-nil P), All-tail P clause clauses all))
  all_join false P clause clauses = (λ both. both.1, λ all. (All-nil P, all))

  flat_to : (before mid after : Ground) (clauses : List Clause) (fs gs : List FlatClause) → fs ≡ gs → mid ≡ after → AreMadeFlat before mid clauses fs → AreMadeFlat before after clauses gs
  flat_to before mid after clauses fs gs e f h = subst (λ (x : List FlatClause). AreMadeFlat before after clauses x) e (subst (λ (g : Ground). AreMadeFlat before g clauses fs) f h)

  pub clauses_flattened : (before number : ℕ) (clauses : List Clause) (flats : List FlatClause) (old new : Ground) → All IsReady clauses → IsSound old → Begins start old
      → clauses_made before number clauses old ≡ Ok (flats, new) → AreMadeFlat old new clauses flats
  clauses_flattened before number [] flats old new ready sound begins e =
      let g = gave [] flats old new e in
      flat_to old old new [] [] flats g.value g.ground
      (record { begins = begins_same old; sound = sound; lines = λ end v env functions l values have. (λ all. (all, All-nil (ClauseHolds env functions)), λ both. both.0); clauses_flat = tt })
  clauses_flattened before number (clause ∷ clauses) flats old new ready sound begins e =
      let b = has_variables clause in
      let s = came (clause_made (before + number) number b clause old) (λ fs. λ mid. clauses_made before (number + 1) clauses mid then λ more. keep (fs ++ more)) flats new e in
      let first = one_made (before + number) number b clause s.value old s.mid refl (All-head IsReady clause clauses ready) (record { sound = sound; begins = begins }) s.first in
      let t = came (clauses_made before (number + 1) clauses s.mid) (λ more. keep (s.value ++ more)) flats new s.rest in
      let rest = clauses_flattened before (number + 1) clauses t.value s.mid t.mid (All-tail IsReady clause clauses ready) first.sound (begins_trans start old s.mid begins first.begins) t.first in
      let g = gave (s.value ++ t.value) flats t.mid new t.rest in
      flat_to old t.mid new (clause ∷ clauses) (s.value ++ t.value) flats g.value g.ground
      (record {
        begins = begins_trans old s.mid t.mid first.begins rest.begins;
        sound = rest.sound;
        lines = λ end v env functions l values have.
            let one = first.lines end v env functions (later_through s.mid t.mid end rest.begins l) values have in
            let more = rest.lines end v env functions l values have in
            let join = all_join (not b) (ClauseHolds env functions) clause (without_variables clauses) in (
              λ all. let m = more.0 all in let o = one.0 m.0 in (o.0, join.0 (o.1, m.1)),
              λ both. let parts = join.1 both.1 in more.1 (one.1 (both.0, parts.0), parts.1),
            );
        clauses_flat = zip_join b t.mid clause (with_variables clauses) s.value t.value (zip_later b s.mid t.mid clause s.value rest.begins first.flat) rest.clauses_flat;
      })
