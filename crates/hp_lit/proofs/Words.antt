-- Words by the names that they stand for.
use Rattle.std.proofs.Common.{◌≡◌, ◌<◌, ℕ, zero, suc, List, [], ◌∷◌, ◌++◌, Option, Some, None, length, get_or, refl, sym, ap, ◌∙◌}
use Rattle.std.specs.Prelude.{option_map, position, slice_get}
use Rattle.std.specs.Str.{bytes_eq}
use Rattle.std.proofs.lemmas.List.Quantifiers.{position-Some}
use Rattle.std.proofs.lemmas.Option.{slice_get-get_or}
use Rattle.std.proofs.lemmas.Slice.Eq.{bytes_eq-Decides}
use Rattle.hp_math.specs.Rational.{ℚ}
use Rattle.hp_lit.specs.declared.literal.Name.{Name}
use Rattle.hp_lit.specs.Truth.{Values, name_value}
use Rattle.hp_tree.specs.Value.{Word}
use Rattle.hp_lit.specs.Words.{Agrees, number}

-- a word stands where its name says
pub record StandsAt (words : List Word) (word : Word) (name : Name) : Type 0 where
  pub within : name.0 < length words
  pub there : slice_get words name.0 ≡ Some word

stands_at : (words : List Word) (word : Word) (name : Name) (i : ℕ) → position (bytes_eq word) words ≡ Some i → i ≡ name.0 → StandsAt words word name
stands_at words word name i e same =
    let found = position-Some (bytes_eq word) words i [] e in
    let is : word ≡ get_or words i [] = (bytes_eq-Decides word (get_or words i [])).0 found.1 in
    record {
      within = rw (sym same) found.0;
      there = ap (slice_get words) (sym same) ∙ slice_get-get_or words i [] found.0 ∙ ap Some (sym is);
    }

pub numbered : (words : List Word) (word : Word) (name : Name) → number words word ≡ Some name → StandsAt words word name
numbered words word name = by (position (bytes_eq word) words) refl
  where
    by : (p : Option ℕ) → position (bytes_eq word) words ≡ p → option_map (λ at. record { 0 = at }) p ≡ Some name → StandsAt words word name
    by None e h = absurd (cc)
    by (Some i) e h = stands_at words word name i e (ap (λ (o : Option Name). elim o [ None ↦ i | Some m ↦ m.0 ]) h)

-- where an environment agrees with the values, a word has the value of its name
pub word_value : (words : List Word) (v : Values) (env : Word → ℚ) (word : Word) (name : Name) → Agrees words v env → number words word ≡ Some name → env word ≡ name_value v name.0
word_value words v env word name agrees e = agrees name.0 word (numbered words word name e).there

-- what agrees with more words agrees with those in front
get_front : {A : Type 0} (xs ys : List A) (k : ℕ) (x : A) → slice_get xs k ≡ Some x → slice_get (xs ++ ys) k ≡ Some x
get_front [] ys k x e = absurd (cc)
get_front (z ∷ zs) ys zero x e = e
get_front (z ∷ zs) ys (suc k) x e = get_front zs ys k x e

pub agrees_front : (words more : List Word) (v : Values) (env : Word → ℚ) → Agrees (words ++ more) v env → Agrees words v env
agrees_front words more v env agrees k word e = agrees k word (get_front words more k word e)
