-- The words of names, and those of variables behind them: they are distinct, and so each is added.
use Rattle.std.proofs.Common.{◌≡◌, ◌∙◌, ℕ, ◌+◌, ◌<◌, ◌≤◌, ◌^◌, Bool, false, List, [], ◌∷◌, ◌++◌, map, length, refl, sym, ap, subst, arith, append_assoc, append-nil, length-append}
use Rattle.std.specs.Prelude.{if◌then◌else◌}
use Rattle.std.specs.List.{All}
use Rattle.std.specs.Str.{bytes_eq}
use Rattle.std.proofs.lemmas.Bool.{or_from}
use Rattle.std.proofs.lemmas.List.{length-map}
use Rattle.std.proofs.lemmas.List.Elements.{All-nil, All-cons, All-head, All-tail}
use Rattle.std.proofs.lemmas.List.Folds.{list_any-append}
use Rattle.hp_tree.specs.declared.problem.Var.{Var}
use Rattle.hp_tree.specs.Value.{Word}
use Rattle.hp_terms.specs.Words.{IsPlainWord, numbered}
use Rattle.hp_names.specs.Names.{AreDistinct, is_among}
use Rattle.hp_defs.specs.declared.names.Constant.{Constant}
use Rattle.hp_defs.specs.Made.{IsMade}
use Rattle.hp_defs.specs.Names.{NameList, constant_name, constant_words, count, words}
use Rattle.hp_defs.proofs.Distinct.{distinct_apart, length_words, plain_not_numbered, words_are_distinct}
use Rattle.hp_norm.specs.declared.flat.FlatClause.{FlatClause}
use Rattle.hp_norm.specs.Flat.{IsFlat}
use Rattle.hp_norm.specs.Testing.{with_word, with_words}
use Rattle.hp_index_set.specs.IndexSet.{clause_words, var_words}

-- ---- words that are added
-- some words and then others
added_append : (old some more : List Word) → with_words old (some ++ more) ≡ with_words (with_words old some) more
added_append old [] more = refl
added_append old (word ∷ some) more = added_append (with_word old word) some more

-- distinct words, none of which stands in front, are each added
added_behind : (front done more : List Word) → AreDistinct (done ++ more) → All (λ w. is_among w front ≡ false) more → with_words (front ++ done) more ≡ front ++ (done ++ more)
added_behind front done [] d apart = ap (λ (ws : List Word). front ++ ws) (sym (append-nil done))
added_behind front done (word ∷ more) d apart =
    let none : is_among word (front ++ done) ≡ false =
    list_any-append (bytes_eq word) front done
    ∙ or_from (is_among word front) (is_among word done) (All-head (λ w. is_among w front ≡ false) word more apart) (distinct_apart done word more d) in
    let new : with_word (front ++ done) word ≡ front ++ (done ++ word ∷ []) = ap (λ b. if b then front ++ done else (front ++ done) ++ word ∷ []) none ∙ append_assoc front done (word ∷ []) in
    let same : (done ++ word ∷ []) ++ more ≡ done ++ word ∷ more = append_assoc done (word ∷ []) more in
    ap (λ (ws : List Word). with_words ws more) new
    ∙ added_behind front (done ++ word ∷ []) more (subst AreDistinct (sym same) d) (All-tail (λ w. is_among w front ≡ false) word more apart)
    ∙ ap (λ (ws : List Word). front ++ ws) same

none_in_none : (ws : List Word) → All (λ w. is_among w [] ≡ false) ws
none_in_none [] = All-nil (λ w. is_among w [] ≡ false)
none_in_none (w ∷ ws) = All-cons (λ w. is_among w [] ≡ false) w ws refl (none_in_none ws)

-- ---- variables
-- a word that is none of constants and of no definition is no word of names
pub no_name : (names : NameList) (word : Word) → IsMade names → IsPlainWord word → is_among word (constant_words names) ≡ false → is_among word (words names) ≡ false
no_name names word made plain fresh =
    let n = length names.definitions in
    list_any-append (bytes_eq word) (constant_words names) (numbered 1 n)
    ∙ or_from (is_among word (constant_words names)) (is_among word (numbered 1 n)) fresh (plain_not_numbered word 1 n (omega (arith, made.few)) plain)

pub variables_apart : (names : NameList) (vars : List Var) → IsMade names → All (λ v. IsPlainWord v.name) vars → All (λ v. is_among v.name (constant_words names) ≡ false) vars
    → All (λ w. is_among w (words names) ≡ false) (var_words vars)
variables_apart names [] made plain fresh = All-nil (λ w. is_among w (words names) ≡ false)
variables_apart names (v ∷ vars) made plain fresh =
    All-cons (λ w. is_among w (words names) ≡ false) v.name (var_words vars)
    (no_name names v.name made (All-head (λ (u : Var). IsPlainWord u.name) v vars plain) (All-head (λ (u : Var). is_among u.name (constant_words names) ≡ false) v vars fresh))
    (variables_apart names vars made (All-tail (λ (u : Var). IsPlainWord u.name) v vars plain) (All-tail (λ (u : Var). is_among u.name (constant_words names) ≡ false) v vars fresh))

-- ---- words of a clause
-- constants, definitions and variables, one after the other
pub clause_words_added : (names : NameList) (c : FlatClause) (none first next all : List Word) (constants : List Constant) (count : ℕ) (vars : List Var) → IsMade names → IsFlat names c
    → none ≡ [] → constants ≡ names.constants → count ≡ length names.definitions → vars ≡ c.vars
    → first ≡ with_words none (map constant_name constants) → next ≡ with_words first (numbered 1 count) → all ≡ with_words next (var_words vars) → all ≡ clause_words names c
clause_words_added names c none first next all constants count vars made flat e are much vs f g h =
    let n = length names.definitions in
    let begun : first ≡ with_words [] (constant_words names) = f ∙ (λ i. with_words (e i) (map constant_name (are i))) in
    let named : next ≡ with_words [] (words names) = g ∙ (λ i. with_words (begun i) (numbered 1 (much i))) ∙ sym (added_append [] (constant_words names) (numbered 1 n)) in
    let whole : next ≡ words names = named ∙ added_behind [] [] (words names) (words_are_distinct names made) (none_in_none (words names)) in
    h
    ∙ (λ i. with_words (whole i) (var_words (vs i)))
    ∙ ap (λ (ws : List Word). with_words ws (var_words c.vars)) (sym (append-nil (words names)))
    ∙ added_behind (words names) [] (var_words c.vars) flat.distinct (variables_apart names c.vars made flat.plain flat.fresh)

pub few_clause_words : (names : NameList) (c : FlatClause) (n : ℕ) → IsMade names → n ≡ length c.vars → n ≤ 2 ^ 26 → length (clause_words names c) < 2 ^ 28
few_clause_words names c n made e few = omega (arith, e, few, length-append (words names) (var_words c.vars), length_words names, made.few, length-map c.vars (λ (v : Var). v.name))
