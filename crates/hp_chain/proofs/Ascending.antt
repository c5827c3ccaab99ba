-- The tables that the groups of a problem give, in the order of declarations.
use Rattle.std.proofs.Common.{◌≡◌, ◌∙◌, ℕ, suc, ◌+◌, ◌<◌, List, [], ◌∷◌, ◌++◌, Some, Result, Ok, Err, IfOk, length, map, refl, sym, ap, subst, add-one, arith}
use Rattle.std.specs.Prelude.{slice_get, slice_index_or}
use Rattle.std.specs.List.{All, flat_map, range_with_len}
use Rattle.std.proofs.lemmas.List.{length-map}
use Rattle.std.proofs.lemmas.List.Elements.{All-weaker}
use Rattle.hp_tree.specs.declared.problem.Problem.{Problem}
use Rattle.hp_tree.specs.declared.problem.Sort.{Sort}
use Rattle.hp_tree.specs.declared.problem.Sort.TheVariants.{Ptr}
use Rattle.hp_tree.specs.Limits.{largest_value}
use Rattle.hp_terms.specs.Weight.{IsWithin}
use Rattle.hp_lit.specs.Truth.{Values}
use Rattle.hp_defs.specs.declared.names.Ground.{Ground}
use Rattle.hp_defs.specs.declared.names.Signature.{Signature}
use Rattle.hp_defs.specs.Names.{NameList}
use Rattle.hp_model.specs.declared.structure.Table.{Table}
use Rattle.hp_rank.specs.Ranks.{rank, ranked}
use Rattle.hp_rank.proofs.Pointers.{other_name}
use Rattle.hp_base.proofs.Making.{begins_names}
use Rattle.hp_norm.specs.Sound.{IsSound}
use Rattle.hp_class.specs.Groups.{HasBeenMade}
use Rattle.hp_class.specs.Small.{AreSmallIdx}
use Rattle.hp_class.proofs.GroupsMade.{groups_are_sound}
use Rattle.hp_groups.specs.declared.group.Group.{Group}
use Rattle.hp_groups.specs.contracts.group.GroupLocalClass.TheImpl.{ghosts}
use Rattle.hp_groups.specs.contracts.group.GroupLocalClass.TheImpl.Laws as laws
use Rattle.hp_groups.specs.Groups.{Reading, groups_of}
use Rattle.hp_groups.proofs.Held.{all_tables_given, groups_own_all}
use Rattle.hp_chain.specs.Ground.{IsGroundOf, Read, chain_of, read_of}
use Rattle.hp_chain.specs.Order.{function_order, levels_of}
use Rattle.hp_chain.specs.Slots.{HasPlaces}
use Rattle.hp_chain.specs.Structures.{tables_from}
use Rattle.hp_chain.proofs.Chained.{chain_lent, functions_many, is_ready, order_known, order_whole, read_is}
use Rattle.hp_chain.proofs.OwnTables.{table_at, table_only}
use Rattle.hp_chain.proofs.ValuesDescended.{descended}

-- ---- values by rank
-- they keep those of index names
pub ranked_small : (first : ℕ) (ss : List Sort) (v : Values) → AreSmallIdx ss v → AreSmallIdx ss (ranked first ss v)
ranked_small first ss v small n e =
    let apart : slice_get ss n ≡ Some Ptr → ⊥ = λ g. cc in
    subst (λ q. IsWithin largest_value q.num) (sym (other_name (rank first ss v) ss v n apart)) (small n e)

-- ---- names that have grown
module _ (p : Problem) (g : Ground) (is : IsGroundOf p g) where
  has_been_made : HasBeenMade is.read.1 g
  has_been_made = groups_are_sound Group ghosts.grow_of ghosts.own ghosts.applied ghosts.clauses ghosts.plan_of ghosts.IsLent (chain_of p is.read) is.read.1 g (descended p g is)

  pub ground_sound : IsSound g
  ground_sound = has_been_made.sound

  pub ground_signatures : g.names.signatures ≡ is.read.1.names.signatures
  ground_signatures = has_been_made.begins.signatures

  pub ground_lent : All (λ c. ghosts.IsLent c g.names) (chain_of p is.read)
  ground_lent =
      All-weaker (λ (c : Group). ghosts.IsLent c is.read.1.names) (λ (c : Group). ghosts.IsLent c g.names)
      (λ c lent. laws.stays_lent-law c is.read.1.names g.names lent (begins_names is.read.1 g has_been_made.begins) has_been_made.sound.made)
      (chain_of p is.read) (chain_lent p is.read is.able is.limits is.taken is.plain)

  -- the functions of groups have all places
  pub own_places : HasPlaces (length (levels_of p.decls)) (flat_map ghosts.own (chain_of p is.read))
  own_places =
      let base = is.read.1 in
      let many = functions_many p is.read.0.flats base is.able is.limits is.taken.named in
      let own = groups_own_all is.read.0 base.names.signatures (function_order p.decls) (order_known p is.read.0.flats base is.able is.limits is.taken.named) in
      record {
        inside = subst (λ n. All (λ func. func < n) (flat_map ghosts.own (chain_of p is.read))) (sym many) own.inside;
        whole = λ place h. (
            let within : place < length base.names.signatures = subst (λ n. place < n) many h in
            own.whole place (order_whole p is.read.0.flats base is.able is.limits is.taken.named place within) within);
      }

-- ---- tables
module _ (read : Reading) (size : ℕ) (names : NameList) (v : Values) where
  -- the tables of functions that follow one another
  pub tables_declared : (all ss : List Signature) (from : ℕ) → ((k : ℕ) (s : Signature) → slice_get ss k ≡ Some s → slice_get all (from + k) ≡ Some s)
      → tables_from read size from ss names v ≡ map (table_at read size names v all) (range_with_len from (length ss))
  tables_declared all [] from there = refl
  tables_declared all (s ∷ ss) from there =
      let here : slice_get all from ≡ Some s = (let e : from ≡ from + 0 = omega arith in ap (λ k. slice_get all k) e ∙ there 0 s refl) in
      let next = λ (k : ℕ) (t : Signature) (e : slice_get ss k ≡ Some t). (let at : suc from + k ≡ from + suc k = omega arith in ap (λ j. slice_get all j) at ∙ there (suc k) t e) in
      ap (λ ts. ts ++ tables_from read size (suc from) ss names v) (table_only read size names v all from s here)
      ∙ ap (λ ts. table_at read size names v all from ∷ ts) (tables_declared all ss (suc from) next)
      ∙ ap (λ k. table_at read size names v all from ∷ map (table_at read size names v all) (range_with_len k (length ss))) (sym (add-one from))

module _ (p : Problem) (g : Ground) (is : IsGroundOf p g) (groups : List Group) (size : ℕ) (v : Values) where
  abbrev each_table : ℕ → Table
  each_table = table_at is.read.0 size g.names v g.names.signatures

  -- the tables of groups stand in the order of their functions
  tables_turned : (tables : List Table) (places : List ℕ) → groups ≡ chain_of p is.read → places ≡ flat_map ghosts.own groups
      → tables ≡ flat_map (λ c. ghosts.tables_of c size g.names v) groups → tables ≡ map each_table places
  tables_turned tables places same own all =
      let order = function_order p.decls in
      let declared : groups ≡ groups_of is.read.0 g.names.signatures order = same ∙ ap (λ ks. groups_of is.read.0 ks order) (sym (ground_signatures p g is)) in
      all ∙ ap (flat_map (λ (c : Group). ghosts.tables_of c size g.names v)) declared
      ∙ all_tables_given is.read.0 g.names.signatures order size g.names v each_table (table_only is.read.0 size g.names v g.names.signatures)
      ∙ ap (λ (cs : List Group). map each_table (flat_map ghosts.own cs)) (sym declared)
      ∙ ap (map each_table) (sym own)

  -- one for each of these
  pub tables_many : (tables : List Table) (places : List ℕ) → groups ≡ chain_of p is.read → places ≡ flat_map ghosts.own groups
      → tables ≡ flat_map (λ c. ghosts.tables_of c size g.names v) groups → length tables ≡ length places
  tables_many tables places same own all = ap length (tables_turned tables places same own all) ∙ length-map places each_table

  -- and put into the order of declarations they are those of the structure
  tables_ordered : {E : Type 0} (n : ℕ) (tables : List Table) (places : List ℕ) (r : Result (List Table) E) → groups ≡ chain_of p is.read → n ≡ length (levels_of p.decls)
      → places ≡ flat_map ghosts.own groups → tables ≡ flat_map (λ c. ghosts.tables_of c size g.names v) groups
      → IfOk r (λ made. (f : ℕ → Table) → tables ≡ map f places → made ≡ map f (range_with_len 0 n))
      → IfOk r (λ made. made ≡ tables_from is.read.0 size 0 g.names.signatures g.names v)
  tables_ordered n tables places (Err e) same many own all out = out
  tables_ordered n tables places (Ok made) same many own all out =
      let ss = g.names.signatures in
      let count = many ∙ functions_many p is.read.0.flats is.read.1 is.able is.limits is.taken.named ∙ ap length (sym (ground_signatures p g is)) in
      out each_table (tables_turned tables places same own all) ∙ ap (λ k. map each_table (range_with_len 0 k)) count
      ∙ sym (tables_declared is.read.0 size g.names v ss ss 0 (λ k s e. (let at : 0 + k ≡ k = omega arith in ap (λ j. slice_get ss j) at ∙ e)))

-- ---- however a ground set is known
value_same : {A E : Type 0} (r : Result A E) (x y : A) → r ≡ Ok x → r ≡ Ok y → x ≡ y
value_same r x y e f = cc

pub same_flats : (p : Problem) (g : Ground) (one other : IsGroundOf p g) → one.read.0 ≡ other.read.0
same_flats p g one other =
    let is = λ (at : IsGroundOf p g). read_is p at.read.0.flats at.read.1 at.taken.named at.read.0.ruled at.taken.rules_give in
    ap (λ (x : Read). x.0) (value_same (read_of p) one.read other.read (is one) (is other))

pub tables_said : {E : Type 0} (p : Problem) (g : Ground) (is : IsGroundOf p g) (groups : List Group) (size : ℕ) (v : Values) (n : ℕ) (tables : List Table) (places : List ℕ) (r : Result (List Table) E)
    → groups ≡ chain_of p is.read → n ≡ length (levels_of p.decls) → places ≡ flat_map ghosts.own groups → tables ≡ flat_map (λ c. ghosts.tables_of c size g.names v) groups
    → IfOk r (λ made. (f : ℕ → Table) → tables ≡ map f places → made ≡ map f (range_with_len 0 n))
    → IfOk r (λ made. (other : IsGroundOf p g) → made ≡ tables_from other.read.0 size 0 g.names.signatures g.names v)
tables_said p g is groups size v n tables places (Err e) same many own all out = out
tables_said {E} p g is groups size v n tables places (Ok made) same many own all out = λ other.
    tables_ordered p g is groups size v {E = E} n tables places (Ok made) same many own all out
    ∙ ap (λ read. tables_from read size 0 g.names.signatures g.names v) (same_flats p g is other)

pub all_ready : (names : NameList) (v : Values) (groups : List Group) → All (λ c. ghosts.Ready c names v) groups
all_ready names v groups = λ k d within. is_ready (slice_index_or groups k d) names v
