-- The instances of clauses of arrays make elements at the entries of their tuples alone, and those of their applications.
use Rattle.std.proofs.Common.{◌≡◌, ◌∙◌, ℕ, List, [], ◌∷◌, ◌++◌, map, length, Bool, true, Option, Some, None, Ok, slice_get, inl, inr, sym, ap, subst}
use Rattle.std.specs.Prelude.{position}
use Rattle.std.specs.List.{All, Contains}
use Rattle.std.specs.Str.{bytes_eq}
use Rattle.std.proofs.lemmas.List.Elements.{All-contains, All-head, All-tail, All-weaker}
use Rattle.hp_tree.specs.declared.term.Term.{Term}
use Rattle.hp_tree.specs.declared.problem.Atom.{Atom}
use Rattle.hp_tree.specs.declared.problem.Sort.TheVariants.{Idx}
use Rattle.hp_tree.specs.Value.{Word}
use Rattle.hp_lit.specs.declared.line.Arg.{Arg}
use Rattle.hp_lit.specs.declared.line.Line.{Line}
use Rattle.hp_lit.specs.declared.line.Origin.TheVariants.{Equal}
use Rattle.hp_defs.specs.declared.names.Ground.{Ground}
use Rattle.hp_defs.specs.declared.names.Signature.{Signature}
use Rattle.hp_defs.specs.Fit.{ArgFits}
use Rattle.hp_defs.specs.Made.{IsMade, IsSmallArg}
use Rattle.hp_defs.specs.Names.{NameList, function_words, signature_name, sorts}
use Rattle.hp_local.specs.Substitution.{substitute, substitute_atom}
use Rattle.hp_local.proofs.Lists.{contains_cases, contains_first, contains_later, contains_none}
use Rattle.hp_base.specs.Congruence.{Point, congruence_literals}
use Rattle.hp_base.specs.Lines.{add_line, with_line}
use Rattle.hp_base.specs.Making.{Begins, Maker, ◌then◌, computed, each, in_turn, keep}
use Rattle.hp_base.proofs.ArgsMade.{arguments_stay_fit}
use Rattle.hp_base.proofs.ArgsSteps.{computed_gave, gave, line_added}
use Rattle.hp_base.proofs.Growing.{came}
use Rattle.hp_base.proofs.Making.{begins_same, begins_trans}
use Rattle.hp_norm.specs.declared.flat.FlatClause.{FlatClause}
use Rattle.hp_norm.specs.Naming.{named, named_atom, named_atoms}
use Rattle.hp_norm.specs.Scopes.{clause_scope}
use Rattle.hp_instance.specs.declared.tuple.Tuple.{Tuple}
use Rattle.hp_instance.specs.Instances.{at_clause, atom_sorts, instance, instance_line, sorted_literals}
use Rattle.hp_instance.specs.Laws.{ArgumentsComeBack}
use Rattle.hp_instance.specs.Replacing.{replacement}
use Rattle.hp_class.specs.Group.{Planned, group_lines, plan_lines, planned_lines}
use Rattle.hp_class.specs.Points.{function_lines, pair_line, pairs, points, signature_lines}
use Rattle.hp_flatten.specs.declared.application.Application.{Application}
use Rattle.hp_flatten.specs.Applications.{applications, atoms_applications, clause_applications}
use Rattle.hp_arrays.proofs.Applied.{SidesPass}
use Rattle.hp_arrays.proofs.ElementsMade.{AddsAt, HasAt, IsNamed, adds_equal, adds_line, adds_through, adds_weaker, has_later, named_both, named_equal, none_named, terms_named}
use Rattle.hp_arrays.proofs.Fine.{IsReadOf}

-- the functions among these words that are own ones take an index
abbrev pub TakeIndexes : (Word → Bool) → Ground → Type 0
TakeIndexes own g = (word : Word) (func : ℕ) (s : Signature) → own word ≡ true → position (bytes_eq word) (function_words g.names) ≡ Some func → slice_get g.names.signatures func ≡ Some s → s.args ≡ Idx ∷ []

-- ---- one instance
module _ (back : ArgumentsComeBack) (own : Word → Bool) (c : FlatClause) (t : Tuple) (g : Ground) (fits : All (ArgFits (sorts g.names) Idx) t.args) (small : All IsSmallArg t.args)
    (long : length t.args ≡ length c.vars) (profiles : TakeIndexes own g) where
  abbrev ρ : Word → Term
  ρ = replacement g.names c.vars t.args

  abbrev Made : List Application → Ground → Ground → Type 0
  Made = IsNamed back c.item own c.vars t.args g fits small long profiles

  abbrev Reads : Atom → Type 0
  Reads = SidesPass (IsReadOf own c.vars)

  atom_made : (a : Atom) → Reads a → (flat : Atom) (old new : Ground) → Begins g old → IsMade old.names → named_atom c.item (substitute_atom ρ a) old ≡ Ok (flat, new)
      → Made (applications a.left ++ applications a.right) old new
  atom_made a reads flat old new b made e =
      let s = came (named c.item (substitute ρ a.left) old) (λ left. λ mid. named c.item (substitute ρ a.right) mid then λ right. keep (record { left = left; cmp = a.cmp; right = right })) flat new e in
      let first = terms_named back c.item own c.vars t.args g fits small long profiles a.left reads.left s.value old s.mid b made s.first in
      let r = came (named c.item (substitute ρ a.right) s.mid) (λ right. keep (record { left = s.value; cmp = a.cmp; right = right })) flat new s.rest in
      let second = terms_named back c.item own c.vars t.args g fits small long profiles a.right reads.right r.value s.mid r.mid (begins_trans g old s.mid b first.adds.begins) first.adds.made r.first in
      named_equal back c.item own c.vars t.args g fits small long profiles (applications a.left ++ applications a.right) old r.mid new
      (gave (record { left = s.value; cmp = a.cmp; right = r.value }) flat r.mid new r.rest).ground
      (named_both back c.item own c.vars t.args g fits small long profiles (applications a.left) (applications a.right) old s.mid r.mid first second)

  atoms_made : (atoms : List Atom) → All Reads atoms → (flats : List Atom) (old new : Ground) → Begins g old → IsMade old.names → named_atoms c.item (map (substitute_atom ρ) atoms) old ≡ Ok (flats, new)
      → Made (atoms_applications atoms) old new
  atoms_made [] reads flats old new b made e = none_named back c.item own c.vars t.args g fits small long profiles old new made (gave [] flats old new e).ground
  atoms_made (a ∷ atoms) reads flats old new b made e =
      let s = came (named_atom c.item (substitute_atom ρ a) old) (λ y. λ mid. each (named_atom c.item) (map (substitute_atom ρ) atoms) mid then λ ys. λ end. Ok (y ∷ ys, end)) flats new e in
      let first = atom_made a (All-head Reads a atoms reads) s.value old s.mid b made s.first in
      let r = came (each (named_atom c.item) (map (substitute_atom ρ) atoms) s.mid) (λ ys. λ end. Ok (s.value ∷ ys, end)) flats new s.rest in
      let second = atoms_made atoms (All-tail Reads a atoms reads) r.value s.mid r.mid (begins_trans g old s.mid b first.adds.begins) first.adds.made r.first in
      named_equal back c.item own c.vars t.args g fits small long profiles (atoms_applications (a ∷ atoms)) old r.mid new (gave (s.value ∷ r.value) flats r.mid new r.rest).ground
      (named_both back c.item own c.vars t.args g fits small long profiles (applications a.left ++ applications a.right) (atoms_applications atoms) old s.mid r.mid first second)

  with_more : (apps : List Application) (old mid : Ground) (line : Line) → Made apps old mid → Made apps old (with_line mid line)
  with_more apps old mid line h =
      let more = adds_line (Contains t.args) mid line h.adds.made in
      record {
        adds = adds_through (Contains t.args) old mid (with_line mid line) h.adds more;
        there = has_later (function_words g.names) t.args mid (with_line mid line) more.begins apps h.there;
      }

  -- the line of atoms that were named
  line_made : (names : NameList) (gs hs : List Atom) (done : Unit {0}) (mid new : Ground) → Made (clause_applications c) g mid → instance_line c t.shown names gs hs mid ≡ Ok (done, new)
      → Made (clause_applications c) g new
  line_made names gs hs done mid new h e =
      let lits = sorted_literals mid.names (atom_sorts (clause_scope names c.vars) c.guard) gs (atom_sorts (clause_scope names c.vars) c.head) hs in
      let u = came (computed c.item lits mid) (λ ls. add_line (at_clause c.clause t.shown ls)) done new e in
      line_there (at_clause c.clause t.shown u.value) u.mid (computed_gave c.item lits u.value mid u.mid u.first).ground (line_added (at_clause c.clause t.shown u.value) done u.mid new u.rest)
    where
      line_there : (line : Line) (z : Ground) → mid ≡ z → with_line z line ≡ new → Made (clause_applications c) g new
      line_there line z same is =
          named_equal back c.item own c.vars t.args g fits small long profiles (clause_applications c) g (with_line mid line) new (ap (λ (y : Ground). with_line y line) same ∙ is)
          (with_more (clause_applications c) g mid line h)

  instance_made : IsMade g.names → All Reads c.guard → All Reads c.head → (done : Unit {0}) (new : Ground) → instance c t g ≡ Ok (done, new) → Made (clause_applications c) g new
  instance_made made guard head done new e =
      let s = came (named_atoms c.item (map (substitute_atom ρ) c.guard) g)
      (λ gs. λ mid. named_atoms c.item (map (substitute_atom ρ) c.head) mid then λ hs. instance_line c t.shown g.names gs hs) done new e in
      let first = atoms_made c.guard guard s.value g s.mid (begins_same g) made s.first in
      let r = came (named_atoms c.item (map (substitute_atom ρ) c.head) s.mid) (λ hs. instance_line c t.shown g.names s.value hs) done new s.rest in
      let second = atoms_made c.head head r.value s.mid r.mid first.adds.begins first.adds.made r.first in
      line_made g.names s.value r.value done r.mid new
      (named_both back c.item own c.vars t.args g fits small long profiles (atoms_applications c.guard) (atoms_applications c.head) g s.mid r.mid first second) r.rest

-- ---- one after the other
module _ {X : Type 0} (f : X → Maker (Unit {0})) (S : Arg → Type 0) (start : Ground) where
  -- the turn of an entry
  pub record Turn (x : X) (last : Ground) : Type 0 where
    pub before : Ground
    pub after : Ground
    pub done : Unit {0}
    pub begins : Begins start before
    pub made : IsMade before.names
    pub is : f x before ≡ Ok (done, after)
    pub rest : Begins after last

  pub record Turned (xs : List X) (old new : Ground) : Type 0 where
    pub adds : AddsAt S old new
    pub each_turn : (x : X) → Contains xs x → Turn x new

  pub turns : (xs : List X) → ((x : X) → Contains xs x → (done : Unit {0}) (old new : Ground) → Begins start old → IsMade old.names → f x old ≡ Ok (done, new) → AddsAt S old new)
      → (done : Unit {0}) (old new : Ground) → Begins start old → IsMade old.names → in_turn f xs old ≡ Ok (done, new) → Turned xs old new
  turns [] step done old new b made e = record { adds = adds_equal S old new made (gave tt done old new e).ground; each_turn = λ x m. absurd (contains_none x m) }
  turns (x ∷ xs) step done old new b made e =
      let s = came (f x old) (λ u. in_turn f xs) done new e in
      let first = step x (contains_first x xs) s.value old s.mid b made s.first in
      let more = turns xs (λ y m. step y (contains_later x xs y m)) done s.mid new (begins_trans start old s.mid b first.begins) first.made s.rest in
      record {
        adds = adds_through S old s.mid new first more.adds;
        each_turn = λ y m. elim (contains_cases x xs y m) [
          | inl is ↦ subst (λ (z : X). Turn z new) is (record { before = old; after = s.mid; done = s.value; begins = b; made = made; is = s.first; rest = more.adds.begins })
          | inr h ↦ more.each_turn y h
        ];
      }

-- ---- lines of functions
module _ (S : Arg → Type 0) where
  pair_adds : (s : Signature) (pair : Point × Point) (done : Unit {0}) (old new : Ground) → IsMade old.names → pair_line s pair old ≡ Ok (done, new) → AddsAt S old new
  pair_adds s pair done old new made e =
      let lits = congruence_literals s pair.0 pair.1 in
      let u = came (computed s.item lits old) (λ ls. add_line (record { lits = ls; origin = Equal pair.0.name pair.1.name })) done new e in
      let given = computed_gave s.item lits u.value old u.mid u.first in
      let line : Line = record { lits = u.value; origin = Equal pair.0.name pair.1.name } in
      subst (λ (z : Ground). AddsAt S old z) (ap (λ (z : Ground). with_line z line) given.ground ∙ line_added line done u.mid new u.rest) (adds_line S old line made)

  function_adds : (func : ℕ) (done : Unit {0}) (old new : Ground) → IsMade old.names → function_lines func old ≡ Ok (done, new) → AddsAt S old new
  function_adds func done old new made e = by (slice_get old.names.signatures func) e
    where
      by : (o : Option Signature) → signature_lines func o old ≡ Ok (done, new) → AddsAt S old new
      by None h = adds_equal S old new made (gave tt done old new h).ground
      by (Some s) h = (turns (pair_line s) S old (pairs (points func old.names.definitions)) (λ pair m d o n c k i. pair_adds s pair d o n k i) done old new (begins_same old) made h).adds

-- ---- a plan
-- a clause that reads arrays at variables, and tuples over a list of indexes
pub record IsTupleOver (start : Ground) (set : List Arg) (c : FlatClause) (t : Tuple) : Type 0 where
  pub fits : All (ArgFits (sorts start.names) Idx) t.args
  pub small : All IsSmallArg t.args
  pub long : length t.args ≡ length c.vars
  pub inside : (x : Arg) → Contains t.args x → Contains set x

pub record IsPlannedOver (own : Word → Bool) (start : Ground) (set : List Arg) (p : Planned) : Type 0 where
  pub guard : All (SidesPass (IsReadOf own p.clause.vars)) p.clause.guard
  pub head : All (SidesPass (IsReadOf own p.clause.vars)) p.clause.head
  pub tuples : All (IsTupleOver start set p.clause) p.tuples

-- elements at indexes of the list were made alone, and those of each application at its tuple are there
pub record HasElements (start : Ground) (set : List Arg) (plan : List Planned) (next : Ground) : Type 0 where
  pub adds : AddsAt (Contains set) start next
  pub there : (p : Planned) → Contains plan p → (t : Tuple) → Contains p.tuples t → All (HasAt (function_words start.names) t.args next) (clause_applications p.clause)

module _ (back : ArgumentsComeBack) (own : Word → Bool) (start : Ground) (set : List Arg) (profiles : TakeIndexes own start) where
  take_later : (g : Ground) → Begins start g → TakeIndexes own g
  take_later g b word func s o at known =
      profiles word func s o (ap (λ (ss : List Signature). position (bytes_eq word) (map signature_name ss)) (sym b.signatures) ∙ at) (ap (λ (ss : List Signature). slice_get ss func) (sym b.signatures) ∙ known)

  module _ (p : Planned) (over : IsPlannedOver own start set p) where
    module _ (t : Tuple) (m : Contains p.tuples t) (g : Ground) (b : Begins start g) (made : IsMade g.names) (done : Unit {0}) (new : Ground) (e : instance p.clause t g ≡ Ok (done, new)) where
      abbrev at : IsTupleOver start set p.clause t
      at = All-contains (IsTupleOver start set p.clause) p.tuples t over.tuples m

      fits_later : All (ArgFits (sorts g.names) Idx) t.args
      fits_later = All-weaker (ArgFits (sorts start.names) Idx) (ArgFits (sorts g.names) Idx) (λ x h. arguments_stay_fit start g Idx x b h) t.args at.fits

      instance_at : IsNamed back p.clause.item own p.clause.vars t.args g fits_later at.small at.long (take_later g b) (clause_applications p.clause) g new
      instance_at = instance_made back own p.clause t g fits_later at.small at.long (take_later g b) made over.guard over.head done new e

      tuple_adds : AddsAt (Contains set) g new
      tuple_adds = adds_weaker (Contains t.args) (Contains set) at.inside g new instance_at.adds

      tuple_there : All (HasAt (function_words start.names) t.args new) (clause_applications p.clause)
      tuple_there = subst (λ (ss : List Signature). All (HasAt (map signature_name ss) t.args new) (clause_applications p.clause)) b.signatures instance_at.there

    planned_turned : (g : Ground) (done : Unit {0}) (new : Ground) → Begins start g → IsMade g.names → planned_lines p g ≡ Ok (done, new) → Turned (instance p.clause) (Contains set) start p.tuples g new
    planned_turned g done new b made e =
        turns (instance p.clause) (Contains set) start p.tuples (λ t m d old mid k n i. tuple_adds t m old k n d mid i) done g new b made e

  pub group_elements : (funcs : List ℕ) (plan : NameList → List Planned) (done : Unit {0}) (next : Ground) → IsMade start.names
      → All (IsPlannedOver own start set) (plan start.names) → group_lines funcs plan start ≡ Ok (done, next) → HasElements start set (plan start.names) next
  group_elements funcs plan done next made over e =
      let s = came (plan_lines (plan start.names) start) (λ d. in_turn function_lines funcs) done next e in
      let each_over = λ (p : Planned) (m : Contains (plan start.names) p). All-contains (IsPlannedOver own start set) (plan start.names) p over m in
      let first = turns planned_lines (Contains set) start (plan start.names) (λ p m d old mid k n i. (planned_turned p (each_over p m) old d mid k n i).adds) s.value start s.mid (begins_same start) made s.first in
      let rest = turns function_lines (Contains set) start funcs (λ func m d old mid k n i. function_adds (Contains set) func d old mid n i) done s.mid next first.adds.begins first.adds.made s.rest in
      record {
        adds = adds_through (Contains set) start s.mid next first.adds rest.adds;
        there = λ p m t n.
            let turn = first.each_turn p m in
            let inner = (planned_turned p (each_over p m) turn.before turn.done turn.after turn.begins turn.made turn.is).each_turn t n in
            let here = tuple_there p (each_over p m) t n inner.before inner.begins inner.made inner.done inner.after inner.is in
            has_later (function_words start.names) t.args inner.after next
            (begins_trans inner.after turn.after next inner.rest (begins_trans turn.after s.mid next turn.rest rest.adds.begins)) (clause_applications p.clause) here;
      }
