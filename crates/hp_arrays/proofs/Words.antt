-- The words of a clause over names, while names are added.
use Rattle.std.proofs.Common.{◌≡◌, ◌∙◌, ℕ, suc, ◌+◌, ◌<◌, ◌≤◌, ◌++◌, List, [], ◌∷◌, map, length, true, false, Option, Some, None, nat_lt, slice_get, refl, sym, ap, subst, arith, length-append}
use Rattle.std.specs.Prelude.{option_and_then, option_map, position, if◌then◌else◌}
use Rattle.std.specs.List.{All}
use Rattle.std.specs.Option.{option_or}
use Rattle.std.specs.Str.{bytes_eq}
use Rattle.std.proofs.lemmas.Bool.{or_from, or_parts}
use Rattle.std.proofs.lemmas.List.Elements.{All-head, All-nil, All-tail, All-cons, All-weaker}
use Rattle.std.proofs.lemmas.List.Folds.{list_any-append}
use Rattle.std.proofs.lemmas.Option.{slice_get_within}
use Rattle.hp_tree.specs.Limits.{most_names}
use Rattle.hp_tree.specs.declared.problem.Sort.{Sort}
use Rattle.hp_tree.specs.declared.problem.Var.{Var}
use Rattle.hp_tree.specs.Value.{Word}
use Rattle.hp_terms.specs.Words.{IsPlainWord, numbered}
use Rattle.hp_names.specs.Names.{AreDistinct, is_among}
use Rattle.hp_names.proofs.Texts.{apart_back, same_text}
use Rattle.hp_lit.specs.declared.literal.Name.{Name}
use Rattle.hp_lit.specs.Growing.{Begins}
use Rattle.hp_lit.specs.Words.{number}
use Rattle.hp_lit.proofs.Words as standing
use Rattle.hp_defs.specs.declared.names.Constant.{Constant}
use Rattle.hp_defs.specs.Made.{IsMade}
use Rattle.hp_lit.specs.declared.line.Def.{Def}
use Rattle.hp_defs.specs.Names.{BeginsNames, NameList, constant_words, count, words}
use Rattle.hp_defs.proofs.Distinct.{length_words, number_of, plain_not_numbered, words_are_distinct}
use Rattle.hp_defs.proofs.Growing.{begins_get, names_begin}
use Rattle.hp_defs.proofs.Lists.{get_front}
use Rattle.hp_base.proofs.ArgsDefined.{get_behind}
use Rattle.hp_norm.specs.Scopes.{clause_scope, variable_sort}
use Rattle.hp_index_set.specs.IndexSet.{var_words}
use Rattle.hp_arrays.proofs.Shifting.{moved, shift}

-- ---- distinct words
apart_from_all : (w : Word) (ws more : List Word) → All (λ m. is_among m (w ∷ ws) ≡ false) more → is_among w more ≡ false
apart_from_all w ws [] h = refl
apart_from_all w ws (m ∷ more) h =
    or_from (bytes_eq w m) (is_among w more)
    (apart_back m w (or_parts (bytes_eq m w) (is_among m ws) (All-head (λ m. is_among m (w ∷ ws) ≡ false) m more h)).0)
    (apart_from_all w ws more (All-tail (λ m. is_among m (w ∷ ws) ≡ false) m more h))

pub distinct_append : (ws more : List Word) → AreDistinct ws → AreDistinct more → All (λ m. is_among m ws ≡ false) more → AreDistinct (ws ++ more)
distinct_append [] more d e apart = e
distinct_append (w ∷ ws) more d e apart = (
  list_any-append (bytes_eq w) ws more ∙ or_from (is_among w ws) (is_among w more) d.0 (apart_from_all w ws more apart),
  distinct_append ws more d.1 e
      (All-weaker (λ m. is_among m (w ∷ ws) ≡ false) (λ m. is_among m ws ≡ false) (λ m h. (or_parts (bytes_eq m w) (is_among m ws) h).1) more apart),
)

distinct_front : (ws more : List Word) → AreDistinct (ws ++ more) → AreDistinct ws
distinct_front [] more d = tt
distinct_front (w ∷ ws) more d = ((or_parts (is_among w ws) (is_among w more) (sym (list_any-append (bytes_eq w) ws more) ∙ d.0)).0, distinct_front ws more d.1)

-- ---- variables
-- a variable with this word stands at a place
there_is : (vars : List Var) (word : Word) (s : Sort) → variable_sort vars word ≡ Some s → (j : ℕ) × (slice_get (var_words vars) j ≡ Some word)
there_is [] word s e = absurd (cc)
there_is (v ∷ vars) word s e =
    (elim (bytes_eq v.name word) as (λ b. bytes_eq v.name word ≡ b → (if b then Some v.sort else variable_sort vars word) ≡ Some s → (j : ℕ) × (slice_get (var_words (v ∷ vars)) j ≡ Some word)) [
      | true ↦ λ t f. (0, ap Some (same_text v.name word t))
      | false ↦ λ t f. (let h = there_is vars word s f in (suc h.0, h.1))
    ]) refl e

all_words : (vars : List Var) (P : Word → Type 0) → All (λ v. P v.name) vars → All P (var_words vars)
all_words [] P h = All-nil P
all_words (v ∷ vars) P h = All-cons P v.name (var_words vars) (All-head (λ (x : Var). P x.name) v vars h) (all_words vars P (All-tail (λ (x : Var). P x.name) v vars h))

-- no word of a variable is one of names
pub new_words : (names : NameList) (vars : List Var) → length names.definitions ≤ most_names → All (λ v. IsPlainWord v.name) vars → All (λ v. is_among v.name (constant_words names) ≡ false) vars
    → All (λ w. is_among w (words names) ≡ false) (var_words vars)
new_words names [] few plain fresh = All-nil (λ w. is_among w (words names) ≡ false)
new_words names (v ∷ vars) few plain fresh =
    All-cons (λ w. is_among w (words names) ≡ false) v.name (var_words vars)
    (list_any-append (bytes_eq v.name) (constant_words names) (numbered 1 (length names.definitions))
    ∙ or_from (is_among v.name (constant_words names)) (is_among v.name (numbered 1 (length names.definitions)))
    (All-head (λ (x : Var). is_among x.name (constant_words names) ≡ false) v vars fresh)
    (plain_not_numbered v.name 1 (length names.definitions) (omega (arith, few)) (All-head (λ (x : Var). IsPlainWord x.name) v vars plain)))
    (new_words names vars few (All-tail (λ (x : Var). IsPlainWord x.name) v vars plain) (All-tail (λ (x : Var). is_among x.name (constant_words names) ≡ false) v vars fresh))

-- ---- names that grow
module _ (old new : NameList) (b : BeginsNames old new) (made : IsMade new) (vars : List Var) (distinct : AreDistinct (var_words vars)) (plain : All (λ v. IsPlainWord v.name) vars)
    (fresh : All (λ v. is_among v.name (constant_words old) ≡ false) vars) where
  abbrev pub added : ℕ
  added = length b.definitions.more

  more_definitions : length new.definitions ≡ length old.definitions + added
  more_definitions = ap (λ (ds : List Def). length ds) b.definitions.all ∙ length-append old.definitions b.definitions.more

  pub count_moves : count new ≡ count old + added
  count_moves =
      let constants = ap (λ (cs : List Constant). length cs) b.constants in
      let definitions = more_definitions in
      omega (arith, constants, definitions)

  front : Begins (words old) (words new)
  front = (names_begin old new b).words

  new_distinct : AreDistinct (words new ++ var_words vars)
  new_distinct =
      let few = made.few in
      distinct_append (words new) (var_words vars) (words_are_distinct new made) distinct
      (new_words new vars (omega (arith, few)) plain (subst (λ (cs : List Constant). All (λ (v : Var). is_among v.name (map (λ (c : Constant). c.name) cs) ≡ false) vars) (sym b.constants) fresh))

  old_distinct : AreDistinct (words old ++ var_words vars)
  old_distinct =
      let few = made.few in
      let definitions = more_definitions in
      distinct_append (words old) (var_words vars) (distinct_front (words old) front.more (subst AreDistinct front.all (words_are_distinct new made))) distinct
      (new_words old vars (omega (arith, few, definitions)) plain fresh)

  named : (names : NameList) (k : ℕ) (word : Word) → AreDistinct (words names ++ var_words vars) → slice_get (words names) k ≡ Some word → number (words names ++ var_words vars) word ≡ Some (record { 0 = k })
  named names k word d e = number_of (words names ++ var_words vars) k word d (get_front (words names) (var_words vars) k word e)

  varied : (names : NameList) (j : ℕ) (word : Word) → AreDistinct (words names ++ var_words vars) → slice_get (var_words vars) j ≡ Some word → number (words names ++ var_words vars) word ≡ Some (record { 0 = count names + j })
  varied names j word d e =
      number_of (words names ++ var_words vars) (count names + j) word d
      (ap (λ k. slice_get (words names ++ var_words vars) (k + j)) (sym (length_words names)) ∙ get_behind (words names) (var_words vars) j ∙ e)

  kept : (k : ℕ) → k < count old → (moved (count old) added (nat_lt k (count old)) (record { 0 = k })) ≡ record { 0 = k }
  kept k h = (let e : nat_lt k (count old) ≡ true = grind (arith, h) in ap (λ b. moved (count old) added b (record { 0 = k })) e)

  behind : (j : ℕ) → moved (count old) added (nat_lt (count old + j) (count old)) (record { 0 = count old + j }) ≡ record { 0 = count old + added + j }
  behind j =
      let e : nat_lt (count old + j) (count old) ≡ false = grind arith in
      let same : count old + j + added ≡ count old + added + j = omega arith in
      ap (λ b. moved (count old) added b (record { 0 = count old + j })) e ∙ ap (λ k. record { 0 = k }) same

  of_name : (word : Word) (k : ℕ) → slice_get (words old) k ≡ Some word → number (words new ++ var_words vars) word ≡ shift (count old) added (number (words old ++ var_words vars) word)
  of_name word k e =
      let within = slice_get_within (words old) k word e in
      let all = length_words old in
      named new k word new_distinct (begins_get (words old) (words new) k word front e)
      ∙ ap Some (sym (kept k (omega (arith, within, all)))) ∙ ap (shift (count old) added) (sym (named old k word old_distinct e))

  of_variable : (word : Word) (j : ℕ) → slice_get (var_words vars) j ≡ Some word → number (words new ++ var_words vars) word ≡ shift (count old) added (number (words old ++ var_words vars) word)
  of_variable word j e =
      varied new j word new_distinct e ∙ ap (λ n. Some (record { 0 = n + j })) count_moves
      ∙ ap Some (sym (behind j)) ∙ ap (shift (count old) added) (sym (varied old j word old_distinct e))

  without_name : (o : Option Sort) (s : Sort) → option_or o None ≡ Some s → o ≡ Some s
  without_name None s e = e
  without_name (Some x) s e = e

  by : (word : Word) (s : Sort) (p : Option ℕ) → position (bytes_eq word) (words old) ≡ p → option_or (variable_sort vars word) (option_and_then (λ at. slice_get (Rattle.hp_defs.specs.Names.sorts old) at) p) ≡ Some s
      → number (words new ++ var_words vars) word ≡ shift (count old) added (number (words old ++ var_words vars) word)
  by word s (Some k) is e = of_name word k (standing.numbered (words old) word (record { 0 = k }) (ap (option_map (λ (at : ℕ). let name : Name = record { 0 = at } in name)) is)).there
  by word s None is e = (let h = there_is vars word s (without_name (variable_sort vars word) s e) in of_variable word h.0 h.1)

  pub words_move : (word : Word) (s : Sort) → (clause_scope old vars).name word ≡ Some s → number (words new ++ var_words vars) word ≡ shift (count old) added (number (words old ++ var_words vars) word)
  words_move word s e = by word s (position (bytes_eq word) (words old)) refl e
