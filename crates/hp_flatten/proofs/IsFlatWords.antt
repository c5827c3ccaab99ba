-- The words of arguments as variables: they are distinct words of their own, are num, and each name of a clause has the sort that what it becomes has.
use Rattle.std.proofs.Common.{◌≡◌, ◌||◌, ◌<◌, ◌≤◌, ℕ, zero, suc, Bool, true, false, List, [], ◌∷◌, map, take, length, Option, Some, refl, sym, ap, ◌∙◌, arith}
use Rattle.std.specs.Prelude.{if◌then◌else◌, is_some, slice_index_or}
use Rattle.std.specs.List.{All, list_all}
use Rattle.std.specs.Option.{option_or}
use Rattle.std.specs.Str.{bytes_eq}
use Rattle.std.proofs.lemmas.Bool.{and_parts, or_from, or_parts}
use Rattle.std.proofs.lemmas.List.Elements.{All-nil, All-cons, All-head, All-tail, All-map, All-take, All-weaker}
use Rattle.std.proofs.lemmas.List.Quantifiers.{position-Some}
use Rattle.std.proofs.lemmas.Slice.Eq.{bytes_eq-Decides}
use Rattle.hp_names.specs.Names.{AreDistinct, is_among}
use Rattle.hp_tree.specs.declared.term.Term.{Term, Null}
use Rattle.hp_tree.specs.declared.problem.Sort.{Sort}
use Rattle.hp_tree.specs.declared.problem.Sort.TheVariants.{Num, Idx, Ptr}
use Rattle.hp_tree.specs.declared.problem.Var.{Var}
use Rattle.hp_tree.specs.Value.{Word}
use Rattle.hp_terms.specs.Words.{IsPlainWord}
use Rattle.hp_base.specs.Lines.{flat_scope}
use Rattle.hp_defs.specs.declared.names.Constant.{Constant}
use Rattle.hp_defs.specs.Names.{NameList, constant_name, constant_words}
use Rattle.hp_local.specs.Rows.{argument_words}
use Rattle.hp_norm.specs.Opening.{is_variable}
use Rattle.hp_norm.specs.Scopes.{clause_scope, variable_sort}
use Rattle.hp_norm.proofs.ClauseScopes.{no_sort}
use Rattle.hp_flatten.specs.Flattening.{argument_var, argument_vars, argument_word, flat_word, is_argument, is_named, place_of, placed_word}
use Rattle.hp_flatten.specs.Sorts.{is_num}
use Rattle.hp_flatten.specs.Laws.{HasPlainConstants}
use Rattle.hp_flatten.proofs.HoldsReads.{variable_placed}
use Rattle.hp_flatten.proofs.HoldsWords.{clause_word_other}

-- ---- words of their own
pub words_distinct : (n : ℕ) → n ≤ 4 → AreDistinct (map (λ (v : Var). v.name) (argument_vars n))
words_distinct zero few = tt
words_distinct (suc zero) few = (refl, tt)
words_distinct (suc (suc zero)) few = (refl, (refl, tt))
words_distinct (suc (suc (suc zero))) few = (refl, (refl, (refl, tt)))
words_distinct (suc (suc (suc (suc zero)))) few = (refl, (refl, (refl, (refl, tt))))
words_distinct (suc (suc (suc (suc (suc n))))) few = absurd (omega arith)

-- what each of so many words has
each_taken : (P : Word → Type 0) (n : ℕ) (words : List Word) → ((k : ℕ) → k < n → k < length words → P (slice_index_or words k [])) → All P (take n words)
each_taken P zero words each = All-nil P
each_taken P (suc n) [] each = All-nil P
each_taken P (suc n) (word ∷ words) each =
    All-cons P word (take n words) (each 0 (omega arith) (omega arith)) (each_taken P n words (λ k l m. each (suc k) (omega (arith, l)) (omega (arith, m))))

word_plain : (k : ℕ) → k < 4 → IsPlainWord (argument_word k)
word_plain zero l = refl
word_plain (suc zero) l = refl
word_plain (suc (suc zero)) l = refl
word_plain (suc (suc (suc zero))) l = refl
word_plain (suc (suc (suc (suc k)))) l = absurd (omega arith)

pub words_plain : (n : ℕ) → All (λ (v : Var). IsPlainWord v.name) (argument_vars n)
words_plain n = All-map (λ (v : Var). IsPlainWord v.name) argument_var (take n argument_words) (each_taken IsPlainWord n argument_words (λ k l m. word_plain k m))

turned : (x y : Word) → bytes_eq x y ≡ false → bytes_eq y x ≡ false
turned x y e = by (bytes_eq y x) refl
  where
    by : (b : Bool) → bytes_eq y x ≡ b → b ≡ false
    by true f = sym ((bytes_eq-Decides x y).1 (sym ((bytes_eq-Decides y x).0 f))) ∙ e
    by false f = refl

-- none of some constants has one of these words
abbrev IsOff : List Word → Constant → Type 0
IsOff words c = is_among c.name words ≡ false

word_off : (word : Word) (words : List Word) (constants : List Constant) → All (IsOff (word ∷ words)) constants → is_among word (map constant_name constants) ≡ false
word_off word words [] off = refl
word_off word words (c ∷ constants) off =
    let parts = or_parts (bytes_eq c.name word) (is_among c.name words) (All-head (IsOff (word ∷ words)) c constants off) in
    or_from (bytes_eq word c.name) (is_among word (map constant_name constants)) (turned c.name word parts.0)
    (word_off word words constants (All-tail (IsOff (word ∷ words)) c constants off))

words_off : (words : List Word) (constants : List Constant) → All (IsOff words) constants → All (λ word. is_among word (map constant_name constants) ≡ false) words
words_off [] constants off = All-nil (λ word. is_among word (map constant_name constants) ≡ false)
words_off (word ∷ words) constants off =
    All-cons (λ word. is_among word (map constant_name constants) ≡ false) word words (word_off word words constants off)
    (words_off words constants (All-weaker (IsOff (word ∷ words)) (IsOff words) (λ c h. (or_parts (bytes_eq c.name word) (is_among c.name words) h).1) constants off))

pub words_fresh : (names : NameList) (n : ℕ) → HasPlainConstants names → All (λ (v : Var). is_among v.name (constant_words names) ≡ false) (argument_vars n)
words_fresh names n plain =
    All-map (λ (v : Var). is_among v.name (constant_words names) ≡ false) argument_var (take n argument_words)
    (All-take (λ word. is_among word (constant_words names) ≡ false) n argument_words (words_off argument_words names.constants plain))

-- ---- their sort
pub word_num : (n k : ℕ) → k < n → n ≤ 4 → variable_sort (argument_vars n) (argument_word k) ≡ Some Num
word_num zero k l few = absurd (omega arith)
word_num (suc n) zero l few = refl
word_num (suc zero) (suc k) l few = absurd (omega arith)
word_num (suc (suc n)) (suc zero) l few = refl
word_num (suc (suc zero)) (suc (suc k)) l few = absurd (omega arith)
word_num (suc (suc (suc n))) (suc (suc zero)) l few = refl
word_num (suc (suc (suc zero))) (suc (suc (suc k))) l few = absurd (omega arith)
word_num (suc (suc (suc (suc n)))) (suc (suc (suc zero))) l few = refl
word_num (suc (suc (suc (suc zero)))) (suc (suc (suc (suc k)))) l few = absurd (omega arith)
word_num (suc (suc (suc (suc (suc n))))) (suc (suc (suc (suc k)))) l few = absurd (omega arith)

pub words_num : (n : ℕ) → n ≤ 4 → All (λ word. variable_sort (argument_vars n) word ≡ Some Num) (take n argument_words)
words_num n few = each_taken (λ word. variable_sort (argument_vars n) word ≡ Some Num) n argument_words (λ k l m. word_num n k l few)

pub words_count : (n : ℕ) → n ≤ 4 → length (take n argument_words) ≡ n
words_count zero few = refl
words_count (suc zero) few = refl
words_count (suc (suc zero)) few = refl
words_count (suc (suc (suc zero))) few = refl
words_count (suc (suc (suc (suc zero)))) few = refl
words_count (suc (suc (suc (suc (suc n))))) few = absurd (omega arith)

-- ---- what is no word of an argument
not_variable : (words : List Word) (word : Word) → is_among word words ≡ false → is_variable (map argument_var words) word ≡ false
not_variable [] word e = refl
not_variable (w ∷ words) word e =
    let parts = or_parts (bytes_eq word w) (is_among word words) e in
    or_from (bytes_eq w word) (is_variable (map argument_var words) word) (turned word w parts.0) (not_variable words word parts.1)

not_taken : (n : ℕ) (words : List Word) (word : Word) → is_among word words ≡ false → is_among word (take n words) ≡ false
not_taken zero words word e = refl
not_taken (suc n) [] word e = refl
not_taken (suc n) (w ∷ words) word e =
    let parts = or_parts (bytes_eq word w) (is_among word words) e in
    or_from (bytes_eq word w) (is_among word (take n words)) parts.0 (not_taken n words word parts.1)

-- ---- sorts of names
num_is : (s : Sort) → is_num s ≡ true → s ≡ Num
num_is Num e = refl
num_is Idx e = absurd (cc)
num_is Ptr e = absurd (cc)

variable_num : (args : List Term) (vars : List Var) (word : Word) → list_all (is_argument args) vars ≡ true → is_variable vars word ≡ true → variable_sort vars word ≡ Some Num
variable_num args [] word all e = absurd (cc)
variable_num args (v ∷ vars) word all e = by (bytes_eq v.name word) e (variable_num args vars word parts.1)
  where
    parts : (is_argument args v ≡ true) × (list_all (is_argument args) vars ≡ true)
    parts = and_parts (is_argument args v) (list_all (is_argument args) vars) all

    by : (b : Bool) → (b || is_variable vars word) ≡ true → (is_variable vars word ≡ true → variable_sort vars word ≡ Some Num) → (if b then Some v.sort else variable_sort vars word) ≡ Some Num
    by true h rest = ap Some (num_is v.sort (and_parts (is_num v.sort) (is_some (place_of args v.name)) parts.0).0)
    by false h rest = rest h

-- a name of the clause has the sort of the name that it becomes
pub name_kept : (names : NameList) (vars : List Var) (args : List Term) (word : Word) (s : Sort) → HasPlainConstants names → length args ≤ 4 → list_all (is_argument args) vars ≡ true
    → (clause_scope names vars).name word ≡ Some s → (clause_scope names (argument_vars (length args))).name (flat_word vars args word) ≡ (clause_scope names vars).name word
name_kept names vars args word s plain few all e = by (is_variable vars word) refl
  where
    later : Word → Option Sort
    later w = (clause_scope names (argument_vars (length args))).name w

    or_name : Word → Option Sort → Option Sort
    or_name w o = option_or o ((flat_scope names).name w)

    by : (b : Bool) → is_variable vars word ≡ b → later (flat_word vars args word) ≡ (clause_scope names vars).name word
    by true f =
        let place = variable_placed args vars word all f in
        let at = position-Some (is_named word) args place.0 Null place.1 in
        (λ i. later (if f i then placed_word word (place.1 i) else word))
        ∙ ap (or_name (argument_word place.0)) (word_num (length args) place.0 at.0 few)
        ∙ sym (ap (or_name word) (variable_num args vars word all f))
    by false f =
        let other = clause_word_other names vars word s plain f e in
        let none = not_variable (take (length args) argument_words) word (not_taken (length args) argument_words word other) in
        ap (λ b. later (if b then placed_word word (place_of args word) else word)) f
        ∙ ap (or_name word) (no_sort (argument_vars (length args)) word none)
        ∙ sym (ap (or_name word) (no_sort vars word f))
