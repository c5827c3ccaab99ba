-- The values of indexes, and the first of an index set.
use Rattle.std.proofs.Common.{◌≡◌, ℕ, List, [], ◌∷◌, map, true, refl, subst}
use Rattle.std.specs.List.{AllZip, Contains}
use Rattle.hp_math.specs.Rational.{ℚ, is_whole, whole}
use Rattle.hp_terms.proofs.Whole.{whole-whole, whole_sum}
use Rattle.hp_tree.specs.declared.problem.Sort.{Sort}
use Rattle.hp_tree.specs.declared.problem.Sort.TheVariants.{Idx}
use Rattle.hp_lit.specs.declared.line.Arg.{Arg}
use Rattle.hp_lit.specs.declared.line.Arg.TheVariants as arg
use Rattle.hp_lit.specs.Sorts.{HaveSorts}
use Rattle.hp_lit.specs.Truth.{Values, optional_value}
use Rattle.hp_defs.specs.Fit.{ArgFits}
use Rattle.hp_defs.specs.Names.{NameList}
use Rattle.hp_local.proofs.Lists.{contains_map}
use Rattle.hp_base.specs.Values.{arg_value}
use Rattle.hp_norm.specs.declared.flat.FlatClause.{FlatClause}
use Rattle.hp_index_set.specs.IndexSet.{index_set}
use Rattle.hp_index_set.proofs.Among.{some_indexes}
use Rattle.hp_arrays.proofs.Literals.{side_whole}

-- ---- values
module _ (v : Values) where
  -- one of the indexes has the value
  abbrev pub HasValue : List Arg → ℚ → Type 0
  HasValue xs q = (x : Arg) × Contains xs x × (arg_value v x ≡ q)

  pub value_there : (xs : List Arg) (q : ℚ) → HasValue xs q → Contains (map (arg_value v) xs) q
  value_there xs q h = subst (Contains (map (arg_value v) xs)) h.2 (contains_map (arg_value v) xs h.0 h.1)

-- ---- never empty
pub some_index : (own : List ℕ) (clauses : List FlatClause) (names : NameList) → (x : Arg) × (xs : List Arg) × (index_set own clauses names ≡ x ∷ xs)
some_index own clauses names = by (index_set own clauses names) (some_indexes own clauses names)
  where
    by : (zs : List Arg) → (zs ≡ [] → ⊥) → (x : Arg) × (xs : List Arg) × (zs ≡ x ∷ xs)
    by [] none = absurd (none refl)
    by (z ∷ zs) none = (z, zs, refl)

-- ---- indexes
-- an index has a whole value
pub index_whole : (ss : List Sort) (v : Values) → HaveSorts ss v → (x : Arg) → ArgFits ss Idx x → is_whole (arg_value v x) ≡ true
index_whole ss v have (arg.Index base k) h = whole_sum (optional_value v base) (whole k) (side_whole ss v base have h) (whole-whole k)
index_whole ss v have (arg.Number q) h = absurd h
index_whole ss v have (arg.Named n) h = absurd h
index_whole ss v have arg.Null h = absurd h

-- one argument, which is an index
pub one_index : (ss : List Sort) (args : List Arg) → AllZip (ArgFits ss) (Idx ∷ []) args → (x : Arg) × (args ≡ x ∷ []) × ArgFits ss Idx x
one_index ss [] h = absurd h
one_index ss (x ∷ []) h = (x, refl, h.0)
one_index ss (x ∷ y ∷ args) h = absurd h.1
