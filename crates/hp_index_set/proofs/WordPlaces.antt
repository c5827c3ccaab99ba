-- What the words of an index term stand for over names and the variables of a clause behind them: a name of sort idx, or a variable.
use Rattle.std.proofs.Common.{◌≡◌, ◌∙◌, ℕ, zero, suc, ◌+◌, ◌<◌, ◌≤◌, Bool, true, false, not, List, [], ◌∷◌, ◌++◌, map, length, Option, Some, None, slice_get, ◌⊎◌, inl, inr, refl, sym, ap, subst, arith, append_assoc, append-nil}
use Rattle.std.specs.Prelude.{if◌then◌else◌, nat_lt}
use Rattle.std.specs.List.{All}
use Rattle.std.specs.Option.{option_or}
use Rattle.std.specs.Str.{bytes_eq}
use Rattle.std.proofs.lemmas.Bool.{or_from}
use Rattle.std.proofs.lemmas.Bool.Decides.{Decides-ltb, not_from_Decides}
use Rattle.std.proofs.lemmas.List.Elements.{All-head, All-tail}
use Rattle.std.proofs.lemmas.List.Folds.{list_any-append}
use Rattle.hp_tree.specs.declared.problem.Sort.{Sort}
use Rattle.hp_tree.specs.declared.problem.Sort.TheVariants.{Idx}
use Rattle.hp_tree.specs.declared.problem.Var.{Var}
use Rattle.hp_tree.specs.Value.{Word}
use Rattle.hp_terms.specs.Sorting.{has_form, name_forms}
use Rattle.hp_names.specs.Names.{AreDistinct, is_among}
use Rattle.hp_names.proofs.Distinct.{distinct_more}
use Rattle.hp_names.proofs.Texts.{same_text}
use Rattle.hp_lit.specs.declared.literal.Name.{Name}
use Rattle.hp_lit.specs.Words.{number}
use Rattle.hp_lit.proofs.Words.{numbered as stands}
use Rattle.hp_defs.specs.Made.{IsMade}
use Rattle.hp_defs.specs.Names.{NameList, count, sorts, words}
use Rattle.hp_defs.proofs.Distinct.{distinct_apart, length_words, number_of, words_are_distinct}
use Rattle.hp_defs.proofs.Lists.{get_front}
use Rattle.hp_index.proofs.Named.{IsNameOf, name_of_word}
use Rattle.hp_base.specs.Lines.{flat_scope}
use Rattle.hp_norm.specs.declared.flat.FlatClause.{FlatClause}
use Rattle.hp_norm.specs.Flat.{IsFlat}
use Rattle.hp_norm.specs.Scopes.{clause_scope, variable_sort}
use Rattle.hp_index_set.specs.IndexSet.{clause_words, is_variable, var_words}
use Rattle.hp_index_set.proofs.ClauseWords.{variables_apart}

-- ---- distinct words
distinct_behind : (front done more : List Word) → AreDistinct (front ++ done) → AreDistinct (done ++ more) → All (λ w. is_among w front ≡ false) more → AreDistinct (front ++ (done ++ more))
distinct_behind front done [] d e apart = subst (λ (ws : List Word). AreDistinct (front ++ ws)) (sym (append-nil done)) d
distinct_behind front done (word ∷ more) d e apart =
    let none : is_among word (front ++ done) ≡ false =
    list_any-append (bytes_eq word) front done
    ∙ or_from (is_among word front) (is_among word done) (All-head (λ w. is_among w front ≡ false) word more apart) (distinct_apart done word more e) in
    let same : (done ++ word ∷ []) ++ more ≡ done ++ word ∷ more = append_assoc done (word ∷ []) more in
    subst (λ (ws : List Word). AreDistinct (front ++ ws)) same
    (distinct_behind front (done ++ word ∷ []) more (subst AreDistinct (append_assoc front done (word ∷ [])) (distinct_more (front ++ done) word d none)) (subst AreDistinct (sym same) e)
    (All-tail (λ w. is_among w front ≡ false) word more apart))

clause_words_distinct : (names : NameList) (c : FlatClause) → IsMade names → IsFlat names c → AreDistinct (clause_words names c)
clause_words_distinct names c made flat =
    distinct_behind (words names) [] (var_words c.vars) (subst AreDistinct (sym (append-nil (words names))) (words_are_distinct names made)) flat.distinct
    (variables_apart names c.vars made flat.plain flat.fresh)

-- ---- places
get_back : (xs ys : List Word) (k : ℕ) (x : Word) → slice_get ys k ≡ Some x → slice_get (xs ++ ys) (length xs + k) ≡ Some x
get_back [] ys k x e = ap (λ n. slice_get ys n) (let same : 0 + k ≡ k = omega arith in same) ∙ e
get_back (z ∷ xs) ys k x e = ap (λ n. slice_get (z ∷ (xs ++ ys)) n) (let same : suc (length xs) + k ≡ suc (length xs + k) = omega arith in same) ∙ get_back xs ys k x e

-- a word with the sort of a variable is that of one
variable_at : (vars : List Var) (word : Word) (s : Sort) → variable_sort vars word ≡ Some s → (p : ℕ) × (slice_get (var_words vars) p ≡ Some word)
variable_at [] word s e = absurd (cc)
variable_at (v ∷ vars) word s e = by (bytes_eq v.name word) refl (variable_at vars word s) e
  where
    by : (b : Bool) → bytes_eq v.name word ≡ b → (variable_sort vars word ≡ Some s → (p : ℕ) × (slice_get (var_words vars) p ≡ Some word)) → (if b then Some v.sort else variable_sort vars word) ≡ Some s
        → (p : ℕ) × (slice_get (var_words (v ∷ vars)) p ≡ Some word)
    by true f later g = (0, ap (λ (w : Word). Some w) (same_text v.name word f))
    by false f later g = let h = later g in (suc h.0, h.1)

-- a name of sort idx, or a variable
abbrev pub IsIdxWord : NameList → List Var → Word → Type 0
IsIdxWord names vars word = IsNameOf (words names) (sorts names) word Idx ⊎ ((p : ℕ) × (slice_get (var_words vars) p ≡ Some word))

pub idx_word : (names : NameList) (vars : List Var) (word : Word) → (clause_scope names vars).name word ≡ Some Idx → IsIdxWord names vars word
idx_word names vars word = by (variable_sort vars word) refl
  where
    by : (o : Option Sort) → variable_sort vars word ≡ o → option_or o ((flat_scope names).name word) ≡ Some Idx → IsIdxWord names vars word
    by None f e = inl (name_of_word (words names) (sorts names) word Idx (ap (λ (o : Option Sort). has_form (name_forms o) Idx) e))
    by (Some s) f e = inr (variable_at vars word s f)

-- ---- what a name or a variable is in the whole
module _ (names : NameList) (c : FlatClause) (made : IsMade names) (flat : IsFlat names c) where
  pub number_of_name : (word : Word) (name : Name) → number (words names) word ≡ Some name → number (clause_words names c) word ≡ Some name
  number_of_name word name e =
      number_of (clause_words names c) name.0 word (clause_words_distinct names c made flat)
      (get_front (words names) (var_words c.vars) name.0 word (stands (words names) word name e).there)

  pub name_below : (word : Word) (name : Name) → number (words names) word ≡ Some name → is_variable (count names) (Some name) ≡ false
  name_below word name e =
      let within = (stands (words names) word name e).within in
      let below : nat_lt name.0 (count names) ≡ true = (Decides-ltb name.0 (count names)).1 (omega (arith, within, length_words names)) in
      ap not below

  pub number_of_variable : (word : Word) (p : ℕ) → slice_get (var_words c.vars) p ≡ Some word → number (clause_words names c) word ≡ Some (record { 0 = length (words names) + p })
  number_of_variable word p e =
      number_of (clause_words names c) (length (words names) + p) word (clause_words_distinct names c made flat) (get_back (words names) (var_words c.vars) p word e)

  pub variable_above : (p : ℕ) → is_variable (count names) (Some (record { 0 = length (words names) + p })) ≡ true
  variable_above p = by (nat_lt (length (words names) + p) (count names)) refl
    where
      by : (b : Bool) → nat_lt (length (words names) + p) (count names) ≡ b → not b ≡ true
      by true e = absurd (let l = (Decides-ltb (length (words names) + p) (count names)).0 e in omega (arith, l, length_words names))
      by false e = refl
