-- The words of arguments: no name of a flat clause that is no variable is one of them, and so it keeps its value where they have values.
use Rattle.std.proofs.Common.{◌≡◌, ◌||◌, ℕ, zero, suc, Bool, true, false, List, [], ◌∷◌, map, take, Option, Some, IsTrue, refl, sym, ap, ◌∙◌, length}
use Rattle.std.specs.Prelude.{if◌then◌else◌, is_some}
use Rattle.std.specs.List.{All, list_all}
use Rattle.std.specs.Option.{option_or}
use Rattle.std.specs.Str.{bytes_eq}
use Rattle.std.proofs.lemmas.Bool.{and_parts, or_from, or_parts}
use Rattle.std.proofs.lemmas.List.Elements.{All-nil, All-cons, All-append, All-map}
use Rattle.std.proofs.lemmas.Slice.Eq.{bytes_eq-Decides}
use Rattle.hp_math.specs.Rational.{ℚ}
use Rattle.hp_names.specs.Names.{is_among}
use Rattle.hp_tree.specs.Sorted.{is_of_sort}
use Rattle.hp_tree.specs.declared.term.Term.{Term}
use Rattle.hp_tree.specs.declared.problem.Sort.{Sort}
use Rattle.hp_tree.specs.declared.problem.Sort.TheVariants as sort
use Rattle.hp_tree.specs.declared.problem.Var.{Var}
use Rattle.hp_tree.specs.Value.{Environment, Word}
use Rattle.hp_tree.specs.Universal.{AreSorted, assign}
use Rattle.hp_terms.specs.Words.{made_word, numbered}
use Rattle.hp_base.specs.Lines.{flat_scope}
use Rattle.hp_base.proofs.SumsHold.{all_get}
use Rattle.hp_defs.specs.Names.{NameList, constant_name, constant_words, words}
use Rattle.hp_local.specs.Rows.{argument_words}
use Rattle.hp_norm.specs.Opening.{is_variable}
use Rattle.hp_norm.specs.Scopes.{clause_scope}
use Rattle.hp_norm.proofs.ClauseScopes.{no_sort, word_stands}
use Rattle.hp_flatten.specs.Flattening.{argument_var, argument_vars, is_argument, place_of}
use Rattle.hp_flatten.specs.Sorts.{is_num}
use Rattle.hp_flatten.specs.Laws.{HasPlainConstants}

-- ---- other words
-- the word of no argument
abbrev pub IsOther : Word → Type 0
IsOther word = is_among word argument_words ≡ false

made_other : (n : ℕ) → IsOther (made_word n)
made_other n = refl

numbered_other : (from n : ℕ) → All IsOther (numbered from n)
numbered_other from zero = All-nil IsOther
numbered_other from (suc n) = All-cons IsOther (made_word from) (numbered (suc from) n) (made_other from) (numbered_other (suc from) n)

words_other : (names : NameList) → HasPlainConstants names → All IsOther (words names)
words_other names plain =
    let n = length names.definitions in
    All-append IsOther (constant_words names) (numbered 1 n) (All-map IsOther constant_name names.constants plain) (numbered_other 1 n)

-- a word of a clause that is no variable's
pub clause_word_other : (names : NameList) (vars : List Var) (word : Word) (s : Sort) → HasPlainConstants names → is_variable vars word ≡ false → (clause_scope names vars).name word ≡ Some s → IsOther word
clause_word_other names vars word s plain none e =
    let own = sym (ap (λ (o : Option Sort). option_or o ((flat_scope names).name word)) (no_sort vars word none)) ∙ e in
    let at = word_stands names word s own in
    all_get IsOther (words names) at.0 word (words_other names plain) at.1

-- ---- values that are kept
turned : (x y : Word) → bytes_eq x y ≡ false → bytes_eq y x ≡ false
turned x y e = by (bytes_eq y x) refl
  where
    by : (b : Bool) → bytes_eq y x ≡ b → b ≡ false
    by true f = sym ((bytes_eq-Decides x y).1 (sym ((bytes_eq-Decides y x).0 f))) ∙ e
    by false f = refl

not_variable : (words : List Word) (word : Word) → is_among word words ≡ false → is_variable (map argument_var words) word ≡ false
not_variable [] word e = refl
not_variable (w ∷ words) word e =
    let parts = or_parts (bytes_eq word w) (is_among word words) e in
    or_from (bytes_eq w word) (is_variable (map argument_var words) word) (turned word w parts.0) (not_variable words word parts.1)

not_taken : (n : ℕ) (words : List Word) (word : Word) → is_among word words ≡ false → is_among word (take n words) ≡ false
not_taken zero words word e = refl
not_taken (suc n) [] word e = refl
not_taken (suc n) (w ∷ words) word e =
    let parts = or_parts (bytes_eq word w) (is_among word words) e in
    or_from (bytes_eq word w) (is_among word (take n words)) parts.0 (not_taken n words word parts.1)

-- a word that is no variable's keeps its value
pub keeps_value : (vars : List Var) (values : List ℚ) (env : Environment) (word : Word) → is_variable vars word ≡ false → assign vars values env word ≡ env word
keeps_value [] values env word e = refl
keeps_value (v ∷ vars) [] env word e = refl
keeps_value (v ∷ vars) (x ∷ values) env word e =
    let parts = or_parts (bytes_eq v.name word) (is_variable vars word) e in
    ap (λ b. if b then x else assign vars values env word) parts.0 ∙ keeps_value vars values env word parts.1

pub other_keeps_value : (count : ℕ) (values : List ℚ) (env : Environment) (word : Word) → IsOther word → assign (argument_vars count) values env word ≡ env word
other_keeps_value count values env word e = keeps_value (argument_vars count) values env word (not_variable (take count argument_words) word (not_taken count argument_words word e))

-- ---- values of variables by their words
abbrev pub values_by : (Word → ℚ) → List Var → List ℚ
values_by reading vars = map (λ v. reading v.name) vars

pub variable_value : (reading : Word → ℚ) (vars : List Var) (env : Environment) (word : Word) → is_variable vars word ≡ true → assign vars (values_by reading vars) env word ≡ reading word
variable_value reading [] env word e = absurd (cc)
variable_value reading (v ∷ vars) env word e = by (bytes_eq v.name word) refl e (variable_value reading vars env word)
  where
    by : (b : Bool) → bytes_eq v.name word ≡ b → (b || is_variable vars word) ≡ true → (is_variable vars word ≡ true → assign vars (values_by reading vars) env word ≡ reading word)
        → (if b then reading v.name else assign vars (values_by reading vars) env word) ≡ reading word
    by true f e rest = ap reading ((bytes_eq-Decides v.name word).0 f)
    by false f e rest = rest e

num_sorted : (size : ℕ) (s : Sort) (x : ℚ) → is_num s ≡ true → IsTrue (is_of_sort size s x)
num_sorted size sort.Num x e = refl
num_sorted size sort.Idx x e = absurd (cc)
num_sorted size sort.Ptr x e = absurd (cc)

-- values of num variables are sorted
pub values_sorted : (size : ℕ) (reading : Word → ℚ) (args : List Term) (vars : List Var) → list_all (is_argument args) vars ≡ true → AreSorted size vars (values_by reading vars)
values_sorted size reading args [] e = tt
values_sorted size reading args (v ∷ vars) e =
    let parts = and_parts (is_argument args v) (list_all (is_argument args) vars) e in
    let own = and_parts (is_num v.sort) (is_some (place_of args v.name)) parts.0 in
    (num_sorted size v.sort (reading v.name) own.0, values_sorted size reading args vars parts.1)
