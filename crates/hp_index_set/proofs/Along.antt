-- Applications along the index set: what is there is not added again, and a pass over the index set makes its entries the arguments of
-- all applications.
use Rattle.std.proofs.Common.{◌≡◌, ◌∙◌, ℕ, zero, suc, ◌<◌, Bool, true, false, ◌||◌, pos, List, [], ◌∷◌, ◌++◌, length, None, refl, sym, ap, arith, append-nil}
use Rattle.std.specs.Prelude.{if◌then◌else◌, slice_index_or}
use Rattle.std.specs.List.{All, Contains, flat_map, list_any}
use Rattle.std.proofs.lemmas.List.Concat.{flat_map-append}
use Rattle.std.proofs.lemmas.List.Elements.{All-nil, All-head, All-tail, All-contains, All-contains_itself, All-weaker}
use Rattle.hp_tree.specs.declared.problem.Sort.{Sort}
use Rattle.hp_tree.specs.declared.problem.Sort.TheVariants.{Idx}
use Rattle.hp_lit.specs.Growing.{Begins}
use Rattle.hp_lit.specs.declared.line.Arg.{Arg}
use Rattle.hp_lit.specs.declared.line.Arg.TheVariants.{Number, Named, Index, Null}
use Rattle.hp_lit.specs.declared.line.Body.{Body}
use Rattle.hp_lit.specs.declared.line.Def.{Def}
use Rattle.hp_defs.specs.Fit.{ArgFits, IsFitNames}
use Rattle.hp_defs.specs.Made.{IsMade}
use Rattle.hp_defs.specs.Names.{NameList, next, sorts, with_definition}
use Rattle.hp_norm.specs.declared.flat.FlatClause.{FlatClause}
use Rattle.hp_index_set.specs.IndexSet.{applied_at, body_indexes, guard_bounds, index_set, or_zero, same_index, with_index, with_indexes}
use Rattle.hp_index_set.specs.Laws.{HasIndexArgument, IsFitIndex, PassesCover, applied_indexes}
use Rattle.hp_index_set.proofs.Adding.{added_append}
use Rattle.hp_index_set.proofs.Among.{found_among, same_index_itself, with_indexes_have}
use Rattle.hp_index_set.proofs.Kept.{IsIndex, begins_with, bounds_indexes, none_added}
use Rattle.hp_index_set.proofs.Small.{all_with_indexes, applied_fit}

-- ---- what is there
or_right : (a b : Bool) → b ≡ true → (a || b) ≡ true
or_right true b e = refl
or_right false b e = e

contained : (xs : List Arg) (x : Arg) → IsIndex x → (k : ℕ) → k < length xs → slice_index_or xs k x ≡ x → list_any (same_index x) xs ≡ true
contained [] x is k l e = absurd (omega arith)
contained (y ∷ xs) x is zero l e = ap (λ (b : Bool). b || list_any (same_index x) xs) (ap (same_index x) e ∙ is)
contained (y ∷ xs) x is (suc k) l e = or_right (same_index x y) (list_any (same_index x) xs) (contained xs x is k (omega arith) e)

-- an index that is there is not added
pub still_there : (xs : List Arg) (x : Arg) → IsIndex x → Contains xs x → with_index xs x ≡ xs
still_there xs x is there = ap (λ (b : Bool). if b then xs else xs ++ x ∷ []) (contained xs x is there.0 there.1 there.2)

-- nor are all that are there
pub again : (xs more : List Arg) → All IsIndex more → All (Contains xs) more → with_indexes xs more ≡ xs
again xs [] indexes there = refl
again xs (x ∷ more) indexes there =
    ap (λ (ys : List Arg). with_indexes ys more) (still_there xs x (All-head IsIndex x more indexes) (All-head (Contains xs) x more there))
    ∙ again xs more (All-tail IsIndex x more indexes) (All-tail (Contains xs) x more there)

-- some behind others, and then more
through : (old some more : List Arg) → All IsIndex more → with_indexes old (with_indexes some more) ≡ with_indexes (with_indexes old some) more
through old some [] indexes = refl
through old some (x ∷ more) indexes =
    by (list_any (same_index x) some) refl (through old some more (All-tail IsIndex x more indexes)) (through old (some ++ x ∷ []) more (All-tail IsIndex x more indexes))
  where
    by : (b : Bool) → list_any (same_index x) some ≡ b → with_indexes old (with_indexes some more) ≡ with_indexes (with_indexes old some) more
        → with_indexes old (with_indexes (some ++ x ∷ []) more) ≡ with_indexes (with_indexes old (some ++ x ∷ [])) more
        → with_indexes old (with_indexes (if b then some else some ++ x ∷ []) more) ≡ with_indexes (with_index (with_indexes old some) x) more
    by true f there new =
        there
        ∙ ap (λ (ys : List Arg). with_indexes ys more)
        (sym (still_there (with_indexes old some) x (All-head IsIndex x more indexes) (All-contains (Contains (with_indexes old some)) some x (with_indexes_have old some) (found_among x some f))))
    by false f there new = new ∙ ap (λ (ys : List Arg). with_indexes ys more) (added_append old some (x ∷ []))

-- ---- a pass over the index set
pass : (old bounds : List Arg) → All IsIndex old → All IsIndex bounds → with_indexes old (or_zero (with_indexes old bounds)) ≡ or_zero (with_indexes old bounds)
pass old bounds indexes more = by (with_indexes old bounds) refl
  where
    by : (found : List Arg) → with_indexes old bounds ≡ found → with_indexes old (or_zero found) ≡ or_zero found
    by (x ∷ found) e =
        ap (λ (ys : List Arg). with_indexes old ys) (sym e)
        ∙ through old old bounds more
        ∙ ap (λ (ys : List Arg). with_indexes ys bounds) (again old old indexes (All-contains_itself old))
        ∙ e
    by [] e = ap (λ (ys : List Arg). with_indexes ys (Index None (pos 0) ∷ [])) (none_added old bounds e).0

-- what fits as an index is one
fit_is_index : (ss : List Sort) (x : Arg) → ArgFits ss Idx x → IsIndex x
fit_is_index ss (Index base offset) h = same_index_itself base offset
fit_is_index ss (Number q) h = absurd h
fit_is_index ss (Named n) h = absurd h
fit_is_index ss Null h = absurd h

pub all_indexes : (names : NameList) (xs : List Arg) → All (IsFitIndex names) xs → All IsIndex xs
all_indexes names xs all = All-weaker (IsFitIndex names) IsIndex (λ x h. fit_is_index (sorts names) x h.fits) xs all

pub passes_cover : PassesCover
passes_cover own clauses names made fit owned =
    pass (applied_indexes own names) (flat_map (guard_bounds names) clauses)
    (all_with_indexes IsIndex [] (applied_at own names.definitions) (All-nil IsIndex) (all_indexes names (applied_at own names.definitions) (applied_fit own names owned made fit)))
    (bounds_indexes names clauses)

-- ---- one definition after the other
-- applications are the first entries of the index set
pub applied_begin : (own : List ℕ) (clauses : List FlatClause) (names : NameList) → Begins (applied_indexes own names) (index_set own clauses names)
applied_begin own clauses names = by (with_indexes old bounds) refl
  where
    old : List Arg
    old = applied_indexes own names

    bounds : List Arg
    bounds = flat_map (guard_bounds names) clauses

    by : (found : List Arg) → with_indexes old bounds ≡ found → Begins old (or_zero found)
    by (x ∷ found) e = let h = begins_with old bounds in record { more = h.0; all = sym e ∙ h.1 }
    by [] e = record { more = Index None (pos 0) ∷ []; all = ap (λ (ys : List Arg). ys ++ Index None (pos 0) ∷ []) (sym (none_added old bounds e).0) }

-- a definition adds its arguments
pub applied_next : (own : List ℕ) (names : NameList) (body : Body) → applied_indexes own (with_definition names body) ≡ with_indexes (applied_indexes own names) (body_indexes own body)
applied_next own names body =
    let last : Def = record { name = next names; body = body } in
    ap (λ (xs : List Arg). with_indexes [] xs) (flat_map-append (λ (d : Def). body_indexes own d.body) names.definitions (last ∷ []))
    ∙ added_append [] (applied_at own names.definitions) (body_indexes own body ++ [])
    ∙ ap (λ (xs : List Arg). with_indexes (applied_indexes own names) xs) (append-nil (body_indexes own body))
