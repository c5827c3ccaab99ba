-- Lists with a sign between their items, by their last item as the grammar groups them.
use Rattle.std.proofs.Common.{◌≡◌, List, [], ◌∷◌, ◌++◌, map, refl, sym, ap, ◌∙◌, append_assoc, append-nil}
use Rattle.std.specs.List.{flat_map, join_by}
use Rattle.std.proofs.lemmas.Grind.{flat_map-append}
use Rattle.std.proofs.lemmas.List.Folds.{flat_map-map}
use Rattle.hp_text.specs.declared.token.Kind.{Kind}
use Rattle.hp_grammar.specs.declared.symbol.Symbol.{Symbol as Token}
use Rattle.hp_grammar.specs.declared.symbol.Symbol.TheVariants.{Word as word}
use Rattle.hp_grammar.specs.Bodies.{Separated, one, more}

-- pieces that are made first are joined alike
pub join_by-map : {X Y A : Type 0} (f : Y → List A) (g : X → Y) (sep : List A) (xs : List X) → join_by f sep (map g xs) ≡ join_by (λ x. f (g x)) sep xs
join_by-map f g sep [] = refl
join_by-map f g sep (x ∷ xs) = ap (λ z. f (g x) ++ z) (flat_map-map (λ y. sep ++ f y) g xs)

-- one item more behind others
pub join_by-append : {X A : Type 0} (f : X → List A) (sep : List A) (xs : List X) (x : X) → (xs ≡ [] → ⊥)
    → join_by f sep (xs ++ x ∷ []) ≡ join_by f sep xs ++ (sep ++ f x)
join_by-append f sep [] x h = absurd (h refl)
join_by-append f sep (y ∷ ys) x h =
    ap (λ z. f y ++ z) (flat_map-append (λ z. sep ++ f z) ys (x ∷ []) ∙ ap (λ z. flat_map (λ w. sep ++ f w) ys ++ z) (append-nil (sep ++ f x)))
    ∙ sym (append_assoc (f y) (flat_map (λ z. sep ++ f z) ys) (sep ++ f x))

pub not_empty : {X : Type 0} (xs : List X) (x : X) → xs ++ x ∷ [] ≡ [] → ⊥
not_empty [] x e = absurd (cc)
not_empty (y ∷ ys) x e = absurd (cc)

pub some_items : {A : Type 0} (Spells : List Token → A → Type 0) (k : Kind) (u : List Token) (xs : List A) → Separated Spells k u xs → xs ≡ [] → ⊥
some_items Spells k u xs (one v a h) e = absurd (cc)
some_items Spells k u xs (more v w ys a g h) e = not_empty ys a e

-- where each item spells itself by some tokens, so do the items with a sign between them
pub separated : {A : Type 0} (Spells : List Token → A → Type 0) (tokens : A → List Token) (k : Kind) → ((v : List Token) (a : A) → Spells v a → Spells (tokens a) a)
    → (u : List Token) (xs : List A) → Separated Spells k u xs → Separated Spells k (join_by tokens (word k ∷ []) xs) xs
separated Spells tokens k each u xs (one v a h) = rw append-nil (one (tokens a) a (each v a h))
separated Spells tokens k each u xs (more v w ys a g h) =
    rw (join_by-append tokens (word k ∷ []) ys a (some_items Spells k v ys g))
    (more (join_by tokens (word k ∷ []) ys) (tokens a) ys a (separated Spells tokens k each v ys g) (each w a h))

-- what stands before a body, the body, and what stands behind it
pub regrouped : (x g h z : List Token) → x ++ ((g ++ h) ++ z) ≡ ((x ++ g) ++ h) ++ z
regrouped x g h z = simp append_assoc
