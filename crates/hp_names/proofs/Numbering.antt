-- Tests and places in a list of names, seen through the values that hold them.
use Rattle.std.proofs.Common.{◌≡◌, ℕ, suc, ◌+◌, ◌||◌, ◌++◌, List, [], ◌∷◌, Bool, true, false, not, cond, map, length, nat_lt, Some, None, refl, ap, ◌∙◌}
use Rattle.std.specs.Prelude.{position}
use Rattle.std.specs.List.{list_any, prefix_len}
use Rattle.std.specs.Str.{bytes_eq}
use Rattle.indexmap.specs.IndexSet.{insert_key}
use Rattle.hp_names.specs.Names.{Added, is_among}

pub list_any-map : {A B : Type 0} (p : B → Bool) (f : A → B) (xs : List A) → list_any p (map f xs) ≡ list_any (λ x. p (f x)) xs
list_any-map p f [] = refl
list_any-map p f (x ∷ xs) = ap (λ b. p (f x) || b) (list_any-map p f xs)

prefix_len-map : {A B : Type 0} (p : B → Bool) (f : A → B) (xs : List A) → prefix_len p (map f xs) ≡ prefix_len (λ x. p (f x)) xs
prefix_len-map p f [] = refl
prefix_len-map p f (x ∷ xs) = ap (λ n. cond (p (f x)) (1 + n) 0) (prefix_len-map p f xs)

length-map : {A B : Type 0} (f : A → B) (xs : List A) → length (map f xs) ≡ length xs
length-map f [] = refl
length-map f (x ∷ xs) = ap suc (length-map f xs)

pub position-map : {A B : Type 0} (p : B → Bool) (f : A → B) (xs : List A) → position p (map f xs) ≡ position (λ x. p (f x)) xs
position-map p f xs = (λ i. let n = prefix_len-map (λ x. not (p x)) f xs i in cond (nat_lt n (length-map f xs i)) (Some n) None)

pub map-append : {A B : Type 0} (f : A → B) (xs ys : List A) → map f (xs ++ ys) ≡ map f xs ++ map f ys
map-append f [] ys = refl
map-append f (x ∷ xs) ys = ap (λ zs. f x ∷ zs) (map-append f xs ys)

module _ {V : Type 0} (f : V → List ℕ) (keys new : List V) (k : V) (b : Bool) where
  among : is_among (f k) (map f keys) ≡ list_any (λ y. bytes_eq (f k) (f y)) keys
  among = list_any-map (bytes_eq (f k)) f keys

  -- a set of values after an insertion, seen as names
  pub added-map : b ≡ not (list_any (λ y. bytes_eq (f k) (f y)) keys) → new ≡ insert_key (λ x y. bytes_eq (f x) (f y)) keys k → Added (map f keys) (f k) (map f new) b
  added-map is inserted = (elim (list_any (λ y. bytes_eq (f k) (f y)) keys) as (λ t. list_any (λ y. bytes_eq (f k) (f y)) keys ≡ t → b ≡ not t
      → new ≡ cond t keys (keys ++ k ∷ []) → Added (map f keys) (f k) (map f new) b) [
        | true ↦ λ t e n. rw e (among ∙ t, ap (map f) n)
        | false ↦ λ t e n. rw e (among ∙ t, ap (map f) n ∙ map-append f keys (k ∷ []))
      ]) refl is inserted

-- a name that was not there stands last
pub added-fresh : (old : List (List ℕ)) (name : List ℕ) (new : List (List ℕ)) (b : Bool) → Added old name new b → is_among name old ≡ false → new ≡ old ++ name ∷ []
added-fresh old name new true h e = h.1
added-fresh old name new false h e = absurd (let there = h.0 in cc)
