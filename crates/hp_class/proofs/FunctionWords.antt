-- The functions of a group by their places and by their words.
use Rattle.std.proofs.Common.{◌≡◌, inl, inr, ℕ, List, [], ◌∷◌, ◌++◌, Bool, true, ◌||◌, nat_eq, Option, slice_get, refl, sym, ap}
use Rattle.std.specs.List.{All, AllZip, Contains}
use Rattle.std.proofs.lemmas.Bool.{eq-eqb, or_left, or_right}
use Rattle.std.proofs.lemmas.List.Elements.{All-cons, All-nil}
use Rattle.hp_tree.specs.Value.{Word}
use Rattle.hp_local.specs.Frame.{is_own}
use Rattle.hp_local.proofs.Lists.{contains_cases, contains_first, contains_later, contains_none}
use Rattle.hp_defs.specs.declared.names.Signature.{Signature}
use Rattle.hp_defs.specs.Names.{NameList}
use Rattle.hp_class.specs.Frame.{is_function, is_place, signature_word, words_at}

-- what holds of each function with its word
pub zip_all : {A B : Type 0} (R : A → B → Type 0) (P : B → Type 0) (xs : List A) (ys : List B) → AllZip R xs ys → ((x : A) (y : B) → Contains xs x → Contains ys y → R x y → P y) → All P ys
zip_all R P [] [] z h = All-nil P
zip_all R P [] (y ∷ ys) z h = absurd z
zip_all R P (x ∷ xs) [] z h = absurd z
zip_all R P (x ∷ xs) (y ∷ ys) z h =
    All-cons P y ys (h x y (contains_first x xs) (contains_first y ys) z.0) (zip_all R P xs ys z.1 (λ a b m n r. h a b (contains_later x xs a m) (contains_later y ys b n) r))

pub words_same : (old new : NameList) → new.signatures ≡ old.signatures → (funcs : List ℕ) → words_at new funcs ≡ words_at old funcs
words_same old new e [] = refl
words_same old new e (func ∷ funcs) = (λ i. signature_word (slice_get (e i) func) ++ words_same old new e funcs i)

-- a function of the group has its place among them
pub own_is_place : (own : List ℕ) (func : ℕ) → Contains own func → is_place own func ≡ true
own_is_place [] func m = absurd (contains_none func m)
own_is_place (k ∷ own) func m = elim (contains_cases k own func m) [
  | inl e ↦ or_left (nat_eq k func) (is_place own func) (eq-eqb k func e)
  | inr n ↦ or_right (nat_eq k func) (is_place own func) (own_is_place own func n)
]

-- a function of a group is one while names are added
pub function_stays : (old new : NameList) (funcs : List ℕ) (word : Word) → new.signatures ≡ old.signatures → is_function old funcs word ≡ is_function new funcs word
function_stays old new funcs word e = ap (λ (ws : List Word). is_own ws word) (sym (words_same old new e funcs))
