-- Indexes behind others, one part after the other.
use Rattle.std.proofs.Common.{◌≡◌, ◌∙◌, ◌<◌, ℕ, ◌+◌, List, [], ◌∷◌, ◌++◌, length, drop, get_or, refl, sym, ap}
use Rattle.std.specs.List.{flat_map}
use Rattle.std.proofs.lemmas.List.{drop_more}
use Rattle.hp_lit.specs.declared.line.Arg.{Arg}
use Rattle.hp_index_set.specs.IndexSet.{with_index, with_indexes}

-- some and then others
pub added_append : (old some more : List Arg) → with_indexes old (some ++ more) ≡ with_indexes (with_indexes old some) more
added_append old [] more = refl
added_append old (x ∷ some) more = added_append (with_index old x) some more

-- those of the next of a list
pub added_next : {X : Type 0} (f : X → List Arg) (start old new : List Arg) (xs : List X) (i : ℕ) (x : X) → i < length xs → x ≡ get_or xs i x → new ≡ with_indexes old (f x)
    → with_indexes start (flat_map f xs) ≡ with_indexes old (flat_map f (drop i xs)) → with_indexes start (flat_map f xs) ≡ with_indexes new (flat_map f (drop (i + 1) xs))
added_next {X} f start old new xs i x l is e so_far =
    so_far
    ∙ ap (λ (rest : List X). with_indexes old (flat_map f rest)) (drop_more xs i x l ∙ ap (λ (y : X). y ∷ drop (i + 1) xs) (sym is))
    ∙ added_append old (f x) (flat_map f (drop (i + 1) xs))
    ∙ ap (λ (all : List Arg). with_indexes all (flat_map f (drop (i + 1) xs))) (sym e)
