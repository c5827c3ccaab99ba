-- Words in clauses of cases and in their tables: the words of arguments, constants, and definitions.
use Rattle.std.proofs.Common.{◌≡◌, ◌∙◌, ℕ, zero, suc, ◌<◌, List, [], ◌∷◌, map, length, take, Bool, true, false, ◌||◌, cond, nat_lt, get_or, Some, None, refl, sym, ap, subst}
use Rattle.std.specs.Prelude.{if◌then◌else◌, position, slice_get, codes}
use Rattle.std.specs.List.{All, position_or_len}
use Rattle.std.proofs.lemmas.Bool.{ltb-true}
use Rattle.std.proofs.lemmas.List.Sums.{passes_at_first}
use Rattle.std.specs.Str.{bytes_eq}
use Rattle.std.proofs.lemmas.List.Elements.{All-head, All-tail}
use Rattle.std.proofs.lemmas.List.Folds.{list_any-append}
use Rattle.hp_tree.specs.declared.problem.Sort.{Sort}
use Rattle.hp_tree.specs.declared.problem.Sort.TheVariants.{Num}
use Rattle.hp_tree.specs.declared.term.Term.{Name}
use Rattle.hp_tree.specs.Value.{Word}
use Rattle.hp_terms.specs.Words.{numbered}
use Rattle.hp_names.specs.Names.{is_among}
use Rattle.hp_names.proofs.Distinct.{absent}
use Rattle.hp_names.proofs.Texts.{not_both, same_text, text_same}
use Rattle.hp_lit.specs.Truth.{Values}
use Rattle.hp_defs.specs.declared.names.Constant.{Constant}
use Rattle.hp_defs.specs.Names.{NameList, constant_name, constant_words, words}
use Rattle.hp_defs.proofs.Lists.{get_front}
use Rattle.hp_base.proofs.ArgsDefined.{get_map}
use Rattle.hp_class.proofs.Places.{got_one}
use Rattle.hp_local.specs.Rows.{argument_words}
use Rattle.hp_norm.specs.Scopes.{variable_sort}
use Rattle.hp_flatten.specs.Flattening.{argument_var}
use Rattle.hp_flatten.specs.Laws.{HasPlainConstant, HasPlainConstants}
use Rattle.hp_cases.specs.Cases.{valued, word_term}

-- ---- places
pub at_place : {X : Type 0} (xs : List X) (k : ℕ) (x d : X) → slice_get xs k ≡ Some x → get_or xs k d ≡ x
at_place [] k x d e = absurd (cc)
at_place (y ∷ xs) zero x d e = cc
at_place (y ∷ xs) (suc k) x d e = at_place xs k x d e

pub record IsPlace (word : Word) (ws : List Word) (n : ℕ) : Type 0 where
  pub item : Word
  pub there : slice_get ws n ≡ Some item
  pub passes : bytes_eq word item ≡ true

first_is : (word : Word) (ws : List Word) → position_or_len (bytes_eq word) ws < length ws → IsPlace word ws (position_or_len (bytes_eq word) ws)
first_is word ws l =
    let n = position_or_len (bytes_eq word) ws in
    let w = got_one ws n l in
    record { item = w.0; there = w.1; passes = ap (bytes_eq word) (sym (at_place ws n w.0 w.0 w.1)) ∙ passes_at_first (bytes_eq word) ws w.0 l }

pub place_is : (word : Word) (ws : List Word) (n : ℕ) → position (bytes_eq word) ws ≡ Some n → IsPlace word ws n
place_is word ws n e = by (nat_lt (position_or_len (bytes_eq word) ws) (length ws)) refl e
  where
    by : (b : Bool) → nat_lt (position_or_len (bytes_eq word) ws) (length ws) ≡ b → cond b (Some (position_or_len (bytes_eq word) ws)) None ≡ Some n → IsPlace word ws n
    by true is h =
        let same : position_or_len (bytes_eq word) ws ≡ n = cc in
        subst (λ k. IsPlace word ws k) same (first_is word ws (ltb-true (position_or_len (bytes_eq word) ws) (length ws) is))
    by false is h = absurd (cc)

pub no_place : (word : Word) (ws : List Word) → is_among word ws ≡ false → position (bytes_eq word) ws ≡ None
no_place word ws e = by (nat_lt (position_or_len (bytes_eq word) ws) (length ws)) refl
  where
    by : (b : Bool) → nat_lt (position_or_len (bytes_eq word) ws) (length ws) ≡ b → cond b (Some (position_or_len (bytes_eq word) ws)) None ≡ None
    by true is =
        let w = first_is word ws (ltb-true (position_or_len (bytes_eq word) ws) (length ws) is) in
        absurd (not_both (bytes_eq word w.item) (absent word ws (position_or_len (bytes_eq word) ws) w.item e w.there) w.passes)
    by false is = refl

-- ---- words of arguments
-- none of them is the word of a definition
dollar : (c from n : ℕ) → is_among (36 ∷ c ∷ []) (numbered from n) ≡ false
dollar c from zero = refl
dollar c from (suc n) = dollar c (suc from) n

not_numbered : (word : Word) → is_among word argument_words ≡ true → (from n : ℕ) → is_among word (numbered from n) ≡ false
not_numbered word e from n = by (bytes_eq word (codes "$1")) (bytes_eq word (codes "$2")) (bytes_eq word (codes "$3")) (bytes_eq word (codes "$4")) refl refl refl refl e
  where
    at : (c : ℕ) → word ≡ 36 ∷ c ∷ [] → is_among word (numbered from n) ≡ false
    at c is = ap (λ w. is_among w (numbered from n)) is ∙ dollar c from n

    by : (a b c d : Bool) → bytes_eq word (codes "$1") ≡ a → bytes_eq word (codes "$2") ≡ b → bytes_eq word (codes "$3") ≡ c → bytes_eq word (codes "$4") ≡ d → (a || (b || (c || (d || false)))) ≡ true
        → is_among word (numbered from n) ≡ false
    by true b c d p q r s h = at 49 (same_text word (codes "$1") p)
    by false true c d p q r s h = at 50 (same_text word (codes "$2") q)
    by false false true d p q r s h = at 51 (same_text word (codes "$3") r)
    by false false false true p q r s h = at 52 (same_text word (codes "$4") s)
    by false false false false p q r s h = absurd (cc)

not_constant : (word : Word) (constants : List Constant) → is_among word argument_words ≡ true → All HasPlainConstant constants → is_among word (map constant_name constants) ≡ false
not_constant word [] e h = refl
not_constant word (c ∷ cs) e h = by (not_constant word cs e (All-tail HasPlainConstant c cs h)) (bytes_eq word c.name) refl
  where
    by : is_among word (map constant_name cs) ≡ false → (b : Bool) → bytes_eq word c.name ≡ b → (b || is_among word (map constant_name cs)) ≡ false
    by rest true is = absurd (not_both (is_among word argument_words) (ap (λ w. is_among w argument_words) (same_text word c.name is) ∙ All-head HasPlainConstant c cs h) e)
    by rest false is = rest

module _ (names : NameList) (plain : HasPlainConstants names) where
  pub no_name : (word : Word) → is_among word argument_words ≡ true → position (bytes_eq word) (words names) ≡ None
  no_name word e =
      no_place word (words names)
      (list_any-append (bytes_eq word) (constant_words names) (numbered 1 (length names.definitions))
      ∙ (λ i. not_constant word names.constants e plain i || not_numbered word e 1 (length names.definitions) i))

  pub argument_stays : (v : Values) (word : Word) → is_among word argument_words ≡ true → word_term names v word ≡ Name word
  argument_stays v word e = ap (valued names v word) (no_name word e)

-- the constant at a place
pub record IsConstantAt (names : NameList) (word : Word) (n : ℕ) : Type 0 where
  pub constant : Constant
  pub there : slice_get names.constants n ≡ Some constant
  pub name : constant.name ≡ word

pub constant_at : (names : NameList) (word : Word) (n : ℕ) → position (bytes_eq word) (words names) ≡ Some n → n < length names.constants → IsConstantAt names word n
constant_at names word n e l =
    let p = place_is word (words names) n e in
    let w = got_one names.constants n l in
    let there : slice_get (words names) n ≡ Some w.0.name = get_front (constant_words names) (numbered 1 (length names.definitions)) n w.0.name (get_map constant_name names.constants n w.0 w.1) in
    let same : Some w.0.name ≡ Some p.item = sym there ∙ p.there in
    let item : w.0.name ≡ p.item = cc in
    record { constant = w.0; there = w.1; name = item ∙ sym (same_text word p.item p.passes) }

-- ---- variables
or_true : (a b : Bool) → b ≡ true → (a || b) ≡ true
or_true true b k = refl
or_true false b k = k

pub variable_among : (ws : List Word) (count : ℕ) (word : Word) (s : Sort) → variable_sort (map argument_var (take count ws)) word ≡ Some s → is_among word ws ≡ true
variable_among ws zero word s e = absurd (cc)
variable_among [] (suc count) word s e = absurd (cc)
variable_among (w ∷ ws) (suc count) word s e = by (variable_among ws count word s) (bytes_eq w word) refl e
  where
    by : (variable_sort (map argument_var (take count ws)) word ≡ Some s → is_among word ws ≡ true) → (b : Bool) → bytes_eq w word ≡ b
        → (if b then Some Num else variable_sort (map argument_var (take count ws)) word) ≡ Some s → is_among word (w ∷ ws) ≡ true
    by rest true is h = ap (λ b. b || is_among word ws) (ap (λ u. bytes_eq u w) (sym (same_text w word is)) ∙ text_same w)
    by rest false is h = or_true (bytes_eq word w) (is_among word ws) (rest h)
