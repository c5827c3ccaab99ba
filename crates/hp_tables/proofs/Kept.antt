-- The instances of a monotone clause at its pairs make no definition, and nor do the lines of a group.
use Rattle.std.proofs.Common.{◌≡◌, ℕ, List, [], ◌∷◌, Bool, true, false, map, Some, Ok, refl, sym, ap, subst, ◌∙◌, inl, inr}
use Rattle.std.specs.Prelude.{slice_get}
use Rattle.std.specs.List.{AllZip, Contains}
use Rattle.std.specs.Str.{bytes_eq}
use Rattle.hp_tree.specs.declared.problem.Sort.{Sort}
use Rattle.hp_tree.specs.declared.problem.Sort.TheVariants.{Num}
use Rattle.hp_tree.specs.declared.problem.Atom.{Atom}
use Rattle.hp_tree.specs.Universal.{Universal}
use Rattle.hp_lit.specs.declared.line.Arg.{Arg}
use Rattle.hp_lit.specs.declared.line.Body.TheVariants.{Apply}
use Rattle.hp_defs.specs.declared.names.Ground.{Ground}
use Rattle.hp_defs.specs.declared.names.Signature.{Signature}
use Rattle.hp_defs.specs.Fit.{ArgFits, IsFitNames}
use Rattle.hp_defs.specs.Made.{IsMade}
use Rattle.hp_defs.specs.Names.{NameList, sorts}
use Rattle.hp_local.specs.Monotone.{Shape, shape_clause}
use Rattle.hp_local.proofs.Lists.{contains_cases, contains_first, contains_later, contains_none, map_contains}
use Rattle.hp_base.specs.Congruence.{Point}
use Rattle.hp_base.specs.Lines.{add_line}
use Rattle.hp_base.specs.Making.{Maker, ◌then◌, computed, in_turn}
use Rattle.hp_base.proofs.ArgsSteps.{computed_gave, gave, line_added}
use Rattle.hp_base.proofs.Growing.{came}
use Rattle.hp_norm.specs.declared.flat.FlatClause.{FlatClause}
use Rattle.hp_norm.specs.Naming.{named_atoms}
use Rattle.hp_norm.specs.Scopes.{clause_scope}
use Rattle.hp_norm.specs.Sound.{IsSound}
use Rattle.hp_instance.specs.declared.tuple.Tuple.{Tuple}
use Rattle.hp_norm.specs.Flat.{universal_of}
use Rattle.hp_instance.specs.Instances.{at_clause, atom_sorts, instance, instance_line, sorted_literals}
use Rattle.hp_instance.specs.Laws.{ArgumentsComeBack}
use Rattle.hp_instance.specs.Replacing.{replaced_atoms}
use Rattle.hp_class.specs.Group.{Planned, group_lines, plan_lines, planned_lines}
use Rattle.hp_class.specs.Points.{function_lines, points}
use Rattle.hp_class.proofs.Points.{applied, are_points}
use Rattle.hp_class.proofs.Turns.{all_turned}
use Rattle.hp_tables.specs.Pairs.{first_arg, ordered_pairs, pair_tuple, pairs_plan}
use Rattle.hp_tables.proofs.OrderedPairs.{pairs_inside}
use Rattle.hp_tables.proofs.Still.{IsThere, Still, guard_still, head_still}

-- ---- an instance whose atoms are still
line_kept : (c : FlatClause) (shown : List Arg) (names : NameList) (guard head : List Atom) (done : Unit {0}) (old new : Ground)
    → instance_line c shown names guard head old ≡ Ok (done, new) → new.names ≡ old.names
line_kept c shown names guard head done old new e =
    let lits = sorted_literals old.names (atom_sorts (clause_scope names c.vars) c.guard) guard (atom_sorts (clause_scope names c.vars) c.head) head in
    let a = came (computed c.item lits old) (λ ls. add_line (at_clause c.clause shown ls)) done new e in
    let b = computed_gave c.item lits a.value old a.mid a.first in
    ap (λ (g : Ground). g.names) (sym (line_added (at_clause c.clause shown a.value) done a.mid new a.rest)) ∙ ap (λ (g : Ground). g.names) (sym b.ground)

instance_kept : (c : FlatClause) (t : Tuple) (done : Unit {0}) (old new : Ground) → Still (named_atoms c.item (replaced_atoms old.names c.vars t.args c.guard)) old
    → Still (named_atoms c.item (replaced_atoms old.names c.vars t.args c.head)) old → instance c t old ≡ Ok (done, new) → new.names ≡ old.names
instance_kept c t done old new guard head e =
    let one = came (named_atoms c.item (replaced_atoms old.names c.vars t.args c.guard) old)
    (λ g. λ mid. named_atoms c.item (replaced_atoms old.names c.vars t.args c.head) mid then λ h. instance_line c t.shown old.names g h) done new e in
    let first = gave guard.value one.value old one.mid (sym guard.is ∙ one.first) in
    let two = came (named_atoms c.item (replaced_atoms old.names c.vars t.args c.head) one.mid) (λ h. instance_line c t.shown old.names one.value h) done new one.rest in
    let still = subst (λ (g : Ground). named_atoms c.item (replaced_atoms old.names c.vars t.args c.head) g ≡ Ok (head.value, g)) first.ground head.is in
    let second = gave head.value two.value one.mid two.mid (sym still ∙ two.first) in
    line_kept c t.shown old.names one.value two.value done two.mid new two.rest
    ∙ ap (λ (g : Ground). g.names) (sym second.ground) ∙ ap (λ (g : Ground). g.names) (sym first.ground)

-- ---- entries in turn
turns_kept : {X : Type 0} (f : X → Maker (Unit {0})) (names : NameList) (xs : List X)
    → ((x : X) → Contains xs x → (done : Unit {0}) (old new : Ground) → old.names ≡ names → f x old ≡ Ok (done, new) → new.names ≡ names)
    → (done : Unit {0}) (old new : Ground) → old.names ≡ names → in_turn f xs old ≡ Ok (done, new) → new.names ≡ names
turns_kept f names [] h done old new n e = ap (λ (g : Ground). g.names) (sym (gave tt done old new e).ground) ∙ n
turns_kept f names (x ∷ xs) h done old new n e =
    let c = came (f x old) (λ u. in_turn f xs) done new e in
    turns_kept f names xs (λ y m. h y (contains_later x xs y m)) done c.mid new (h x (contains_first x xs) c.value old c.mid n c.first) c.rest

-- ---- one argument
pub one_argument : (ss : List Sort) (args : List Arg) → AllZip (ArgFits ss) (Num ∷ []) args → ArgFits ss Num (first_arg args) × (args ≡ first_arg args ∷ [])
one_argument ss [] h = absurd h
one_argument ss (x ∷ []) h = (h.0, refl)
one_argument ss (x ∷ y ∷ args) h = absurd h.1

module _ (back : ArgumentsComeBack) (names : NameList) (made : IsMade names) (fit : IsFitNames names) (func : ℕ) (s : Signature) (known : slice_get names.signatures func ≡ Some s) (args_are : s.args ≡ Num ∷ []) where
  -- the argument of an application fits, and it is applied there
  pub argument_fits : (p : Point) → Contains (points func names.definitions) p → ArgFits (sorts names) Num (first_arg p.args) × (p.args ≡ first_arg p.args ∷ [])
  argument_fits p m =
      let is = are_points names made fit func s known p m in
      one_argument (sorts names) p.args (subst (λ (ss : List Sort). AllZip (ArgFits (sorts names)) ss p.args) args_are is.args)

  module _ (item : ℕ) (g : Ground) (same : g.names ≡ names) where
    abbrev pub made_now : IsMade g.names
    made_now = subst IsMade (sym same) made

    abbrev pub known_now : slice_get g.names.signatures func ≡ Some s
    known_now = subst (λ (n : NameList). slice_get n.signatures func ≡ Some s) (sym same) known

    pub is_there : (p : Point) → Contains (points func names.definitions) p → IsThere back item g made_now func s known_now args_are (first_arg p.args)
    is_there p m =
        let w = applied func names.definitions p m in
        let fits = argument_fits p m in
        record {
          fits = subst (λ (n : NameList). ArgFits (sorts n) Num (first_arg p.args)) (sym same) fits.0;
          at = w.place;
          definition = w.definition;
          there = subst (λ (n : NameList). slice_get n.definitions w.place ≡ Some w.definition) (sym same) w.there;
          body = w.body ∙ ap (λ (xs : List Arg). Apply func xs) fits.1;
        }

  module _ (c : FlatClause) (shape : Shape) (different : bytes_eq shape.first shape.second ≡ false) (clause_is : universal_of c ≡ shape_clause s.name shape) where
    -- at arguments of applications
    at_arguments : (p q : Point) → Contains (points func names.definitions) p → Contains (points func names.definitions) q → (shown : List Arg) (done : Unit {0}) (old new : Ground)
        → old.names ≡ names → instance c (record { args = first_arg p.args ∷ first_arg q.args ∷ []; shown = shown }) old ≡ Ok (done, new) → new.names ≡ names
    at_arguments p q m n shown done old new same e =
        let x = first_arg p.args in
        let y = first_arg q.args in
        let P = is_there c.item old same p m in
        let Q = is_there c.item old same q n in
        let made_at = made_now c.item old same in
        let known_at = known_now c.item old same in
        let guard = guard_still back c.item old made_at func s known_at args_are shape different x y P Q in
        let head = head_still back c.item old made_at func s known_at args_are shape different x y P Q in
        instance_kept c (record { args = x ∷ y ∷ []; shown = shown }) done old new
        (subst (λ (u : Universal). Still (named_atoms c.item (replaced_atoms old.names u.vars (x ∷ y ∷ []) u.guard)) old) (sym clause_is) guard)
        (subst (λ (u : Universal). Still (named_atoms c.item (replaced_atoms old.names u.vars (x ∷ y ∷ []) u.head)) old) (sym clause_is) head) e
        ∙ same

    pair_kept : (first_lower : Bool) (pair : Point × Point) → Contains (points func names.definitions) pair.0 → Contains (points func names.definitions) pair.1 → (done : Unit {0}) (old new : Ground)
        → old.names ≡ names → instance c (pair_tuple first_lower pair) old ≡ Ok (done, new) → new.names ≡ names
    pair_kept true pair m n done old new same e = at_arguments pair.0 pair.1 m n (pair_tuple true pair).shown done old new same e
    pair_kept false pair m n done old new same e = at_arguments pair.1 pair.0 n m (pair_tuple false pair).shown done old new same e

    pub plan_kept : (first_lower : Bool) (done : Unit {0}) (old new : Ground) → old.names ≡ names → plan_lines (pairs_plan func first_lower c names) old ≡ Ok (done, new) → new.names ≡ names
    plan_kept first_lower done old new same e =
        let ps = points func names.definitions in
        let p : Planned = record { clause = c; tuples = map (pair_tuple first_lower) (ordered_pairs ps) } in
        turns_kept planned_lines names (p ∷ [])
        (λ q m done old new n e.
        let is : p ≡ q = (let k = contains_cases p [] q m in elim k [ inl h ↦ h | inr h ↦ absurd (contains_none q h) ]) in
        turns_kept (instance c) names p.tuples
        (λ t k done old new n e.
        let w = map_contains (pair_tuple first_lower) (ordered_pairs ps) t k in
        let i = pairs_inside ps w.0 w.1 in
        pair_kept first_lower w.0 i.0 i.1 done old new n (subst (λ (z : Tuple). instance c z old ≡ Ok (done, new)) (sym w.2) e))
        done old new n (subst (λ (z : Planned). planned_lines z old ≡ Ok (done, new)) (sym is) e))
        done old new same e

-- ---- a group whose instances make nothing
pub group_kept : (own : List ℕ) (plan : NameList → List Planned) (done : Unit {0}) (start next : Ground) → IsSound start
    → ((d : Unit {0}) (mid : Ground) → plan_lines (plan start.names) start ≡ Ok (d, mid) → mid.names ≡ start.names)
    → group_lines own plan start ≡ Ok (done, next) → next.names ≡ start.names
group_kept own plan done start next sound kept e =
    let c = came (plan_lines (plan start.names) start) (λ d. in_turn function_lines own) done next e in
    (all_turned start.names own (λ func. are_points start.names sound.made sound.names func) done c.mid next (kept c.value c.mid c.first) c.rest).0.kept
