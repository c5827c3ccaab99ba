-- What is among indexes: those that were there, and those that were added.
use Rattle.std.proofs.Common.{◌≡◌, ◌∙◌, ℕ, zero, suc, ◌<◌, Bool, true, false, ◌||◌, ◌&&◌, ℤ, List, [], ◌∷◌, ◌++◌, length, Option, Some, None, refl, sym, ap, subst, arith, true≢false, inl, inr}
use Rattle.std.specs.Prelude.{if◌then◌else◌, nat_eq, slice_index_or}
use Rattle.std.specs.List.{All, Contains, flat_map, list_any}
use Rattle.std.specs.Ordering.{int_eq}
use Rattle.std.proofs.lemmas.Bool.{and_parts}
use Rattle.std.proofs.lemmas.Bool.Decides.{Decides-eqb, Decides-int_eq}
use Rattle.std.proofs.lemmas.List.Elements.{All-nil, All-cons, All-contains, All-contains_itself, All-weaker, Contains-append_left, Contains-append_right, Contains-push}
use Rattle.hp_lit.specs.declared.literal.Name.{Name}
use Rattle.hp_lit.specs.declared.line.Arg.{Arg}
use Rattle.hp_lit.specs.declared.line.Arg.TheVariants.{Number, Named, Index, Null}
use Rattle.hp_defs.specs.Names.{NameList}
use Rattle.hp_norm.specs.declared.flat.FlatClause.{FlatClause}
use Rattle.hp_index_set.specs.IndexSet.{applied_at, guard_bounds, index_set, or_zero, same_base, same_index, with_index, with_indexes}

-- ---- one index
same_base_is : (a b : Option Name) → same_base a b ≡ true → a ≡ b
same_base_is None None e = refl
same_base_is None (Some b) e = absurd (true≢false (sym e))
same_base_is (Some a) None e = absurd (true≢false (sym e))
same_base_is (Some a) (Some b) e = let same : a.0 ≡ b.0 = (Decides-eqb a.0 b.0).0 e in λ i. Some (record { 0 = same i })

-- two arguments that are one index are equal
pub same_index_is : (x y : Arg) → same_index x y ≡ true → x ≡ y
same_index_is (Index a m) (Index b n) e =
    let parts = and_parts (same_base a b) (int_eq m n) e in
    let base = same_base_is a b parts.0 in
    let offset = (Decides-int_eq m n).0 parts.1 in
    λ i. Index (base i) (offset i)
same_index_is (Index a m) (Number q) e = absurd (true≢false (sym e))
same_index_is (Index a m) (Named n) e = absurd (true≢false (sym e))
same_index_is (Index a m) Null e = absurd (true≢false (sym e))
same_index_is (Number q) y e = absurd (true≢false (sym e))
same_index_is (Named n) y e = absurd (true≢false (sym e))
same_index_is Null y e = absurd (true≢false (sym e))

same_base_itself : (a : Option Name) → same_base a a ≡ true
same_base_itself None = refl
same_base_itself (Some a) = (Decides-eqb a.0 a.0).1 refl

-- an index is itself
pub same_index_itself : (a : Option Name) (m : ℤ) → same_index (Index a m) (Index a m) ≡ true
same_index_itself a m =
    let base = same_base_itself a in
    let offset = (Decides-int_eq m m).1 refl in
    λ i. base i && offset i

-- ---- among indexes
pub found_among : (x : Arg) (xs : List Arg) → list_any (same_index x) xs ≡ true → Contains xs x
found_among x [] e = absurd (true≢false (sym e))
found_among x (y ∷ xs) e = by (same_index x y) refl (found_among x xs) e
  where
    by : (b : Bool) → same_index x y ≡ b → (list_any (same_index x) xs ≡ true → Contains xs x) → (b || list_any (same_index x) xs) ≡ true → Contains (y ∷ xs) x
    by true f later g = (0, omega arith, sym (same_index_is x y f))
    by false f later g = Contains-append_right (y ∷ []) xs x (later g)

-- an index that is added is there
pub with_index_has : (xs : List Arg) (x : Arg) → Contains (with_index xs x) x
with_index_has xs x = by (list_any (same_index x) xs) refl
  where
    by : (b : Bool) → list_any (same_index x) xs ≡ b → Contains (if b then xs else xs ++ x ∷ []) x
    by true e = found_among x xs e
    by false e = Contains-push xs x

-- and what was there stays
with_index_keeps : (xs : List Arg) (x y : Arg) → Contains xs y → Contains (with_index xs x) y
with_index_keeps xs x y h = by (list_any (same_index x) xs)
  where
    by : (b : Bool) → Contains (if b then xs else xs ++ x ∷ []) y
    by true = h
    by false = Contains-append_left xs (x ∷ []) y h

pub with_indexes_keep : (xs more : List Arg) (y : Arg) → Contains xs y → Contains (with_indexes xs more) y
with_indexes_keep xs [] y h = h
with_indexes_keep xs (x ∷ more) y h = with_indexes_keep (with_index xs x) more y (with_index_keeps xs x y h)

pub with_indexes_have : (xs more : List Arg) → All (Contains (with_indexes xs more)) more
with_indexes_have xs [] = All-nil (Contains (with_indexes xs []))
with_indexes_have xs (x ∷ more) =
    All-cons (Contains (with_indexes (with_index xs x) more)) x more (with_indexes_keep (with_index xs x) more x (with_index_has xs x)) (with_indexes_have (with_index xs x) more)

-- ---- the index set
or_zero_keeps : (xs : List Arg) (y : Arg) → Contains xs y → Contains (or_zero xs) y
or_zero_keeps [] y h = absurd (let l = h.1 in omega arith)
or_zero_keeps (x ∷ xs) y h = h

-- the lists that are joined are in the whole
parts_within : {X : Type 0} (f : X → List Arg) (cs : List X) → All (λ c. All (Contains (flat_map f cs)) (f c)) cs
parts_within {X} f [] = All-nil (λ (c : X). All (Contains (flat_map f [])) (f c))
parts_within {X} f (c ∷ cs) =
    let whole = f c ++ flat_map f cs in
    All-cons (λ (d : X). All (Contains whole) (f d)) c cs
    (All-weaker (Contains (f c)) (Contains whole) (λ x h. Contains-append_left (f c) (flat_map f cs) x h) (f c) (All-contains_itself (f c)))
    (All-weaker (λ (d : X). All (Contains (flat_map f cs)) (f d)) (λ (d : X). All (Contains whole) (f d))
    (λ d h. All-weaker (Contains (flat_map f cs)) (Contains whole) (λ x k. Contains-append_right (f c) (flat_map f cs) x k) (f d) h) cs (parts_within f cs))

module _ (own : List ℕ) (clauses : List FlatClause) (names : NameList) where
  -- arguments of applications are in the index set
  pub applied_are_indexes : (x : Arg) → Contains (applied_at own names.definitions) x → Contains (index_set own clauses names) x
  applied_are_indexes x h =
      let applied = with_indexes [] (applied_at own names.definitions) in
      let bounds = flat_map (guard_bounds names) clauses in
      or_zero_keeps (with_indexes applied bounds) x
      (with_indexes_keep applied bounds x (All-contains (Contains applied) (applied_at own names.definitions) x (with_indexes_have [] (applied_at own names.definitions)) h))

  -- and so are the bounds of guards
  pub bounds_are_indexes : (c : FlatClause) (x : Arg) → Contains clauses c → Contains (guard_bounds names c) x → Contains (index_set own clauses names) x
  bounds_are_indexes c x among h =
      let applied = with_indexes [] (applied_at own names.definitions) in
      let bounds = flat_map (guard_bounds names) clauses in
      let there = All-contains (Contains bounds) (guard_bounds names c) x (All-contains (λ (d : FlatClause). All (Contains bounds) (guard_bounds names d)) clauses c (parts_within (guard_bounds names) clauses) among) h in
      or_zero_keeps (with_indexes applied bounds) x (All-contains (Contains (with_indexes applied bounds)) bounds x (with_indexes_have applied bounds) there)

-- there is an index
some_or_zero : (xs : List Arg) → or_zero xs ≡ [] → ⊥
some_or_zero [] e = absurd (cc)
some_or_zero (x ∷ xs) e = absurd (cc)

pub some_indexes : (own : List ℕ) (clauses : List FlatClause) (names : NameList) → index_set own clauses names ≡ [] → ⊥
some_indexes own clauses names e = some_or_zero (with_indexes (with_indexes [] (applied_at own names.definitions)) (flat_map (guard_bounds names) clauses)) e
