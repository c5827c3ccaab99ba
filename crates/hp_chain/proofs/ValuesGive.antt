-- Values at which every line of a ground set is true give a structure that satisfies the problem.
use Rattle.std.proofs.Common.{◌≡◌, ◌∙◌, ◌+◌, ◌≤◌, ℕ, suc, false, List, [], ◌∷◌, ◌++◌, length, map, Some, refl, sym, ap, subst, arith}
use Rattle.std.specs.Prelude.{slice_get}
use Rattle.std.specs.List.{All, Contains}
use Rattle.std.proofs.lemmas.List.Elements.{All-contains, All-weaker, Contains-append_left}
use Rattle.hp_names.specs.Names.{AreDistinct}
use Rattle.hp_tree.specs.declared.problem.Problem.{Problem}
use Rattle.hp_tree.specs.declared.problem.Sort.{Sort}
use Rattle.hp_tree.specs.Universal.{HoldsAll}
use Rattle.hp_tree.specs.Value.{Environment}
use Rattle.hp_lit.specs.declared.line.Line.{Line}
use Rattle.hp_lit.specs.Sorts.{HaveSorts}
use Rattle.hp_lit.specs.Truth.{Values, LineIsTrue}
use Rattle.hp_rank.specs.Ranks.{rank, ranked, universe_size}
use Rattle.hp_rank.proofs.Pointers.{all_of_sorts, are_ranks, have_sorts as ranks_have_sorts}
use Rattle.hp_rank.proofs.Steps.{same_length}
use Rattle.hp_rank.proofs.Truth.{line_kept}
use Rattle.hp_model.specs.declared.structure.Structure.{Structure}
use Rattle.hp_model.specs.declared.structure.Table.{Table}
use Rattle.hp_model.specs.Declarations.{constants, functions}
use Rattle.hp_model.specs.Satisfies.{Satisfies}
use Rattle.hp_model.specs.Value.{constant, functions_of}
use Rattle.hp_model.specs.WellFormed.{ConstantsFit, IsTableOf, TablesFit, WellFormed}
use Rattle.hp_local.specs.Frame.{AreCongruent, Fact, Frame, HasPoint}
use Rattle.hp_local.specs.Law as law
use Rattle.hp_local.specs.Structures.{AreLevelled, declared_level}
use Rattle.hp_local.proofs.Lists.{All-by}
use Rattle.hp_local.proofs.Structures.{well_formed_tables_are_lower}
use Rattle.hp_sorts.proofs.Faultless.{faultless_problems_are_well_sorted}
use Rattle.hp_defs.specs.declared.names.Constant.{Constant}
use Rattle.hp_defs.specs.declared.names.Ground.{Ground}
use Rattle.hp_defs.specs.declared.names.Signature.{Signature}
use Rattle.hp_defs.specs.Names.{BeginsNames, NameList, constant_name, constant_sort, count, signature_name, sort_of_definition, sorts, words}
use Rattle.hp_defs.proofs.Distinct.{words_are_distinct}
use Rattle.hp_defs.proofs.Growing.{length_sorts}
use Rattle.hp_defs.proofs.Lists.{get_front}
use Rattle.hp_base.specs.Values.{SumsHold}
use Rattle.hp_base.proofs.Making.{begins_names}
use Rattle.hp_base.proofs.SumsHold.{sums_hold_by_lines}
use Rattle.hp_norm.specs.declared.flat.FlatClause.{FlatClause}
use Rattle.hp_norm.specs.Flat.{IsFlattened, universal_of}
use Rattle.hp_norm.specs.Laws.{IsFitLine}
use Rattle.hp_norm.specs.Lines.{constants_of, signatures_from}
use Rattle.hp_norm.specs.Sound.{AreTrue, AreValues, IsLater}
use Rattle.hp_class.specs.Frame.{AreCongruentPoints, const_values, environment, frame_at}
use Rattle.hp_class.specs.Groups.{AreInside, HasBeenMade, IsModelledTurn}
use Rattle.hp_class.specs.Law.{IsTableAt, group_at}
use Rattle.hp_class.specs.Points.{points}
use Rattle.hp_class.proofs.FactsCongruent.{facts_are_congruent}
use Rattle.hp_class.proofs.GroupsMade.{groups_are_sound}
use Rattle.hp_class.proofs.GroupsModelled.{groups_are_congruent, groups_are_modelled}
use Rattle.hp_class.proofs.Through.{words_agree}
use Rattle.hp_groups.specs.declared.group.Group.{Group}
use Rattle.hp_groups.specs.contracts.group.GroupLocalClass.TheImpl.{ghosts}
use Rattle.hp_groups.specs.contracts.group.GroupLocalClass.TheImpl.Laws as group_laws
use Rattle.hp_groups.specs.Groups.{Reading, function_tables, group_with_arrays, groups_of}
use Rattle.hp_groups.specs.Laws.{HasOwn, IsFellow}
use Rattle.hp_groups.proofs.Held.{clauses_held, group_there, groups_give_tables, groups_have_own}
use Rattle.hp_chain.specs.Ground.{IsGroundOf, chain_of}
use Rattle.hp_chain.specs.Order.{function_order}
use Rattle.hp_chain.specs.Structures.{structure_of, tables_from}
use Rattle.hp_chain.specs.Laws.{AreTrueLines, ValuesGiveAStructure}
use Rattle.hp_chain.proofs.Chained.{are_placed, is_ready, readable}
use Rattle.hp_chain.proofs.OwnTables.{table_at, table_only}
use Rattle.hp_ruled.proofs.Arrays.{owned}
use Rattle.hp_chain.proofs.ValuesClauses.{clauses_hold}
use Rattle.hp_chain.proofs.ValuesDeclared.{are_levelled, constants_fit, declared_function, few_arguments}
use Rattle.hp_chain.proofs.ValuesDescended.{descended, flattened}
use Rattle.hp_chain.proofs.ValuesFacts.{fact_known, facts_inside, points_extend, sorted_points}
use Rattle.hp_chain.proofs.ValuesGroups.{All-unmap, IsNamed, IsOn, applies_own, law_of, member, none_found, table_found, tables_at}
use Rattle.hp_chain.proofs.ValuesLevels.{IsCompleted, IsOfFunction, clauses_hold as own_clauses_hold, points_kept, tables_by}
use Rattle.hp_chain.proofs.ValuesSorts.{have_sorts, ranks_inside}
use Rattle.hp_chain.proofs.ValuesTables.{has_level, table_fits, table_word, tables_fit}
use Rattle.hp_chain.proofs.ValuesTurns.{has_turn}
use Rattle.hp_chain.proofs.ValuesWords.{constants_agree}

module _ (p : Problem) (g : Ground) (is : IsGroundOf p g) (v : Values) (are_true : AreTrueLines g v) where
  abbrev names : NameList
  names = g.names

  abbrev ss : List Sort
  ss = sorts names

  abbrev w : Values
  w = ranked (count names) ss v

  abbrev size : ℕ
  size = universe_size (count names) ss v

  abbrev read : Reading
  read = is.read.0

  abbrev flats : List FlatClause
  flats = read.flats

  abbrev s : Structure
  s = structure_of read names v

  abbrev frame : Frame
  frame = frame_at size names w

  flat : IsFlattened p flats is.read.1
  flat = flattened p g is

  been_made : HasBeenMade is.read.1 g
  been_made = groups_are_sound Group ghosts.grow_of ghosts.own ghosts.applied ghosts.clauses ghosts.plan_of ghosts.IsLent (chain_of p is.read) is.read.1 g (descended p g is)

  signatures : names.signatures ≡ signatures_from 1 p.decls
  signatures = been_made.begins.signatures ∙ flat.signatures

  declared : names.constants ≡ constants_of p.decls
  declared = been_made.begins.constants ∙ flat.constants

  -- ---- values
  had : HaveSorts ss v
  had = have_sorts ss v are_true.sorted

  have : HaveSorts ss w
  have = ranks_have_sorts (count names) ss v had

  inside : AreInside size ss w
  inside = ranks_inside (count names) ss v (let e = length_sorts names in omega (arith, e)) had

  some : 1 ≤ size
  some = (are_ranks (count names) ss v).some

  true_lines : AreTrue w g.lines
  true_lines =
      All-by (λ (line : Line). LineIsTrue w line.lits) g.lines (λ line m.
      (line_kept (count names) ss v had line.lits (All-contains (IsFitLine names) g.lines line been_made.sound.lines m)).1 (All-contains (λ (l : Line). LineIsTrue v l.lits) g.lines line are_true.lines m))

  base_lines : AreTrue w is.read.1.lines
  base_lines =
      All-by (λ (line : Line). LineIsTrue w line.lits) is.read.1.lines (λ line m.
      All-contains (λ (l : Line). LineIsTrue w l.lits) g.lines line true_lines
      (subst (λ (ls : List Line). Contains ls line) (sym been_made.begins.lines) (Contains-append_left is.read.1.lines been_made.begins.added line m)))

  sums : SumsHold names w
  sums = sums_hold_by_lines g w been_made.sound.sums true_lines

  -- ---- functions
  abbrev order : List ℕ
  order = function_order p.decls

  abbrev group : ℕ → Signature → Group
  group func t = group_with_arrays read names.signatures order func t

  -- the one table of each function
  abbrev table : ℕ → Table
  table = table_at read size names w names.signatures

  only_table : (func : ℕ) (t : Signature) → slice_get names.signatures func ≡ Some t → function_tables read func t size names w ≡ table func ∷ []
  only_table = table_only read size names w names.signatures

  declared_as : (func : ℕ) (t : Signature) → slice_get names.signatures func ≡ Some t → slice_get (signatures_from 1 p.decls) func ≡ Some t
  declared_as func t known = ap (λ (xs : List Signature). slice_get xs func) (sym signatures) ∙ known

  levelled : AreLevelled p
  levelled = are_levelled p (faultless_problems_are_well_sorted p is.able.sorted).levels (subst (λ (xs : List Signature). AreDistinct (map signature_name xs)) signatures been_made.sound.made.functions)

  turn : (func : ℕ) (t : Signature) → slice_get names.signatures func ≡ Some t → Contains order func
  turn func t known =
      let as_declared = declared_as func t known in
      let level = has_level p levelled func t as_declared in
      has_turn p.decls func t as_declared level.1 level.2

  -- its group is one of the chain
  among : (func : ℕ) (t : Signature) → slice_get names.signatures func ≡ Some t → Contains (chain_of p is.read) (group func t)
  among func t known =
      subst (λ (xs : List Signature). Contains (groups_of read xs order) (group func t)) been_made.begins.signatures
      (group_there read names.signatures order func t (turn func t known) known)

  -- with the functions of that
  has_own : (func : ℕ) (t : Signature) → slice_get names.signatures func ≡ Some t → HasOwn read names.signatures order func t
  has_own func t known = groups_have_own read names.signatures order func t (turn func t known) known

  abbrev IsFellowOf : Group → ℕ → ℕ → Type 0
  IsFellowOf c level func = IsFellow read names.signatures order c level func

  lent : (func : ℕ) (t : Signature) → slice_get names.signatures func ≡ Some t → ghosts.IsLent (group func t) names
  lent func t known =
      let d = descended p g is in
      let begins : BeginsNames is.read.1.names names = begins_names is.read.1 g been_made.begins in
      d.law.stays (group func t) is.read.1.names names (All-contains (λ (c : Group). ghosts.IsLent c is.read.1.names) (chain_of p is.read) (group func t) d.lent (among func t known)) begins been_made.sound.made

  congruent : (func : ℕ) (t : Signature) → slice_get names.signatures func ≡ Some t → AreCongruentPoints w (points func names.definitions)
  congruent func t known =
      groups_are_congruent Group ghosts.grow_of ghosts.own ghosts.applied ghosts.clauses ghosts.plan_of ghosts.IsLent (chain_of p is.read) is.read.1 g w (descended p g is) have true_lines
      (group func t) func (among func t known) (has_own func t known).own

  facts_congruent : AreCongruent frame.facts
  facts_congruent = facts_are_congruent size names w been_made.sound.made congruent

  -- ---- the structure fits the declarations
  group_tables : (func : ℕ) (t : Signature) → slice_get names.signatures func ≡ Some t → ghosts.tables_of (group func t) size names w ≡ map table (ghosts.own (group func t))
  group_tables func t known = groups_give_tables read names.signatures order size names w table only_table func t known

  placed : (c : Group) → ghosts.ArePlaced c size names w
  placed c = are_placed c size names w (λ f m. sorted_points size names w been_made.sound.made been_made.sound.names some inside f)

  at_table : (func : ℕ) (t : Signature) → slice_get names.signatures func ≡ Some t → IsTableAt size names [] func (table func)
  at_table func t known =
      let c = group func t in
      All-contains (λ k. IsTableAt size names [] k (table k)) (ghosts.own c) func
      (tables_at size names (ghosts.own c) (ghosts.applied c) (ghosts.tables_of c size names w) table (has_own func t known).alone (group_tables func t known)
      (group_laws.fitting-law c size names w (lent func t known) been_made.sound.made been_made.sound.names have some (placed c)))
      (has_own func t known).own

  all_tables : (all : List Signature) (from : ℕ) (ts : List Signature) → ((k : ℕ) (t : Signature) → slice_get ts k ≡ Some t → slice_get names.signatures (from + k) ≡ Some t)
      → tables_from read size from ts names w ≡ tables_by table from ts
  all_tables all from [] there = refl
  all_tables all from (t ∷ ts) there =
      let here : from + 0 ≡ from = omega arith in
      let known = ap (λ k. slice_get names.signatures k) (sym here) ∙ there 0 t refl in
      let next = λ (k : ℕ) (u : Signature) (e : slice_get ts k ≡ Some u). (let at : suc from + k ≡ from + suc k = omega arith in ap (λ j. slice_get names.signatures j) at ∙ there (suc k) u e) in
      λ i. only_table from t known i ++ all_tables all (suc from) ts next i

  tables_are : s.tables ≡ tables_by table 0 names.signatures
  tables_are = all_tables names.signatures 0 names.signatures (λ k t e. (let at : 0 + k ≡ k = omega arith in ap (λ j. slice_get names.signatures j) at ∙ e))

  fits_tables : TablesFit size p (functions p.decls) s.tables
  fits_tables =
      let fits = tables_fit size p table p.decls 1 0 (λ k t e. (
      let at : k ≡ 0 + k = omega arith in
      let known = ap (λ (xs : List Signature). slice_get xs k) signatures ∙ e in
      subst (λ (func : ℕ). IsTableOf size p (declared_function t) (table func)) at
      (table_fits p size k names t (table k) declared been_made.sound.made.distinct (few_arguments p k t is.limits e) known (at_table k t known)))) in
      subst (λ (ts : List Table). TablesFit size p (functions p.decls) ts) (sym tables_are)
      (subst (λ (xs : List Signature). TablesFit size p (functions p.decls) (tables_by table 0 xs)) (sym signatures) fits)

  constants_inside : AreInside size (map constant_sort (constants_of p.decls)) w
  constants_inside k sort e =
      inside k sort (get_front (map constant_sort names.constants) (map (sort_of_definition names.signatures) names.definitions) k sort
      (ap (λ (cs : List Constant). slice_get (map constant_sort cs) k) declared ∙ e))

  long : length (constants_of p.decls) ≤ length w
  long =
      let all = same_length ss w (all_of_sorts (rank (count names) ss v) ss v are_true.sorted) in
      let total = length_sorts names in
      let same = ap (λ (cs : List Constant). length cs) declared in
      omega (arith, all, total, same)

  fits_consts : ConstantsFit size (constants p.decls) s.consts
  fits_consts = subst (λ (cs : List Constant). ConstantsFit size (constants p.decls) (const_values (map constant_name cs) w)) (sym declared) (constants_fit size p.decls w long constants_inside)

  well_formed : WellFormed s p
  well_formed = record { universe = some; constants_fit = fits_consts; tables_fit = fits_tables }

  -- ---- the law of each group
  abbrev law_group : ℕ → Signature → law.Group
  law_group func t = group_at names (ghosts.own (group func t)) (ghosts.clauses (group func t)) (map table (ghosts.own (group func t)))

  completes : (func : ℕ) (t : Signature) → slice_get names.signatures func ≡ Some t → law.Completes frame (λ word. false) (law_group func t)
  completes func t known =
      let c = group func t in
      let turns = groups_are_modelled Group ghosts.grow_of ghosts.own ghosts.applied ghosts.clauses ghosts.plan_of ghosts.IsLent (chain_of p is.read) is.read.1 g size w (descended p g is) have facts_congruent true_lines in
      let its = All-contains (IsModelledTurn ghosts.own ghosts.applied ghosts.plan_of ghosts.IsLent size names w) (chain_of p is.read) c turns (among func t known) in
      law_of names frame (ghosts.own c) (ghosts.applied c) (ghosts.clauses c) (ghosts.tables_of c size names w) (map table (ghosts.own c)) (has_own func t known).alone (group_tables func t known)
      (group_laws.completes-law c size tt its.mid its.next names w its.lent its.made its.modelled (placed c) (is_ready c names w))

  completed : (func : ℕ) (t : Signature) → slice_get names.signatures func ≡ Some t → IsCompleted (declared_level p) frame names.signatures table func t (law_group func t)
  completed func t known =
      let c = group func t in
      let own = ghosts.own c in
      let level = has_level p levelled func t (declared_as func t known) in
      let has = has_own func t known in
      let on : All (IsOn names.signatures t.level) own =
      All-weaker (IsFellowOf c t.level) (IsOn names.signatures t.level) (λ k f. record { signature = f.signature; known = f.known; on = f.on }) own has.fellows in
      let named : All (IsNamed names.signatures table) own =
      All-weaker (IsFellowOf c t.level) (IsNamed names.signatures table)
      (λ k f. record { signature = f.signature; known = f.known; named = table_word size k names f.signature (table k) f.known (at_table k f.signature f.known) }) own has.fellows in
      record {
        word = table_word size func names t (table func) known (at_table func t known);
        of_level = level.0;
        low = level.1;
        high = level.2;
        owned = owned names own func t has.own known (All-weaker (IsFellowOf c t.level) (λ k. (u : Signature) × (slice_get names.signatures k ≡ Some u)) (λ k f. (f.signature, f.known)) own has.fellows);
        members = λ word h. member names t.level own word on h;
        own_tables = λ lower word h m args. table_found names been_made.sound.made table frame.consts lower word args own named h m.place m.signature m.known m.name;
        other_tables = λ lower word h args. none_found names been_made.sound.made table frame.consts lower word args own named h;
        applies = applies_own names own (ghosts.applied c) (ghosts.clauses c) has.alone ((descended p g is).law.applies c names (lent func t known));
        law = completes func t known;
      }

  of_function : (k : Fact) → Contains frame.facts k → IsOfFunction names.signatures k
  of_function k m = let f = fact_known names w names.definitions k m in record { func = f.func; signature = f.signature; known = f.known; word = ap (λ (j : Fact). j.func) (sym f.same) }

  group_clauses : (func : ℕ) (t : Signature) → slice_get names.signatures func ≡ Some t
      → All (HoldsAll size (environment (words names) w) (functions_of s)) (map universal_of (ghosts.clauses (group func t)))
  group_clauses =
      own_clauses_hold s (declared_level p) frame names.signatures law_group table (λ word. refl) (well_formed_tables_are_lower s p well_formed levelled) tables_are
      been_made.sound.made.functions completed of_function

  kept : (k : Fact) → Contains frame.facts k → HasPoint (functions_of s) k
  kept k m =
      points_kept s (declared_level p) frame names.signatures law_group table (λ word. refl) (well_formed_tables_are_lower s p well_formed levelled) tables_are
      been_made.sound.made.functions completed of_function k m (facts_inside size names w been_made.sound.made been_made.sound.names some inside k m)

  -- ---- clauses
  flats_hold : All (λ c. HoldsAll size (environment (words names) w) (functions_of s) (universal_of c)) flats
  flats_hold = All-by (λ (c : FlatClause). HoldsAll size (environment (words names) w) (functions_of s) (universal_of c)) flats (λ c m. (
      let Holds = HoldsAll size (environment (words names) w) (functions_of s) in
      let held = clauses_held is.read.1.names read order (readable p read is.read.1 is.able is.limits is.taken is.plain) c m in
      let known = ap (λ (xs : List Signature). slice_get xs held.func) been_made.begins.signatures ∙ held.known in
      let here = All-unmap Holds universal_of (ghosts.clauses (group held.func held.signature)) (group_clauses held.func held.signature known) in
      held.held size (environment (words names) w) (functions_of s)
      (subst (λ (xs : List Signature). All (λ (d : FlatClause). Holds (universal_of d)) (ghosts.clauses (group_with_arrays read xs order held.func held.signature))) been_made.begins.signatures here)))

  pub satisfied : Satisfies s p
  satisfied =
      let env : Environment = environment (words names) w in
      let later : IsLater is.read.1 g = record { begins = been_made.begins; made = been_made.sound.made } in
      let values : AreValues g w env (functions_of s) = record {
        agrees = words_agree (words names) w (words_are_distinct names been_made.sound.made);
        extends = points_extend names w (functions_of s) been_made.sound.made been_made.sound.names sums kept;
      } in
      record {
        well_formed = well_formed;
        holds = clauses_hold size is.read.1 g w env (functions_of s) later values p flats (constant s.consts) is.able flat have base_lines flats_hold (constants_agree p names w declared);
      }

pub values_give_a_structure : ValuesGiveAStructure
values_give_a_structure = satisfied
