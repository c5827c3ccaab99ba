-- The words of names with those of variables behind them: their sorts in a clause, and their values.
use Rattle.std.proofs.Common.{◌≡◌, ◌∙◌, ℕ, zero, suc, ◌+◌, ◌<◌, List, [], ◌∷◌, ◌++◌, map, length, Bool, true, false, cond, Option, Some, None, slice_get, refl, sym, ap, subst, arith}
use Rattle.std.specs.Prelude.{option_and_then, option_map, position}
use Rattle.std.specs.List.{All}
use Rattle.std.specs.Option.{option_or}
use Rattle.std.specs.Str.{bytes_eq}
use Rattle.std.proofs.lemmas.Bool.{or_from, or_parts}
use Rattle.std.proofs.lemmas.List.Elements.{All-head, All-tail}
use Rattle.std.proofs.lemmas.List.Folds.{list_any-append}
use Rattle.std.proofs.lemmas.Option.{option_and_then_some, same_Some, slice_get_within}
use Rattle.hp_math.specs.Rational.{ℚ, is_whole}
use Rattle.hp_names.specs.Names.{AreDistinct, is_among}
use Rattle.hp_names.proofs.Distinct.{absent}
use Rattle.hp_names.proofs.Texts.{apart_back, same_text, text_same}
use Rattle.hp_tree.specs.declared.problem.Sort.{Sort}
use Rattle.hp_tree.specs.declared.problem.Sort.TheVariants.{Idx}
use Rattle.hp_tree.specs.declared.problem.Var.{Var}
use Rattle.hp_tree.specs.Universal.{AreSorted, assign}
use Rattle.hp_tree.specs.Value.{Word, Environment}
use Rattle.hp_lit.specs.Sorts.{HaveSorts, IsOfSort}
use Rattle.hp_lit.specs.Truth.{Values, name_value}
use Rattle.hp_lit.specs.Words.{Agrees, scope_over}
use Rattle.hp_lit.proofs.Words.{numbered as stands_there}
use Rattle.hp_defs.specs.Made.{IsMade}
use Rattle.hp_defs.specs.Names.{NameList, count, sorts, words}
use Rattle.hp_defs.proofs.Distinct.{length_words, position_of, words_are_distinct}
use Rattle.hp_defs.proofs.Growing.{length_sorts}
use Rattle.hp_defs.proofs.Lists.{get_front}
use Rattle.hp_base.specs.Lines.{flat_scope}
use Rattle.hp_base.proofs.ArgsDefined.{get_behind}
use Rattle.hp_norm.specs.Opening.{is_variable}
use Rattle.hp_norm.specs.Scopes.{clause_scope, variable_sort}
use Rattle.hp_norm.proofs.ClauseScopes.{AreApart, not_variable}
use Rattle.hp_index_set.specs.IndexSet.{var_words}
use Rattle.hp_arrays.proofs.Padded.{agrees_both, firsts, firsts_value, have_both, length_firsts}

abbrev pub var_sorts : List Var → List Sort
var_sorts vars = map (λ v. v.sort) vars

-- ---- variables
among_variables : (vars : List Var) (word : Word) → is_variable vars word ≡ false → is_among word (var_words vars) ≡ false
among_variables [] word e = refl
among_variables (v ∷ vars) word e =
    let parts = or_parts (bytes_eq v.name word) (is_variable vars word) e in
    or_from (bytes_eq word v.name) (is_among word (var_words vars)) (apart_back v.name word parts.0) (among_variables vars word parts.1)

distinct_both : (front more : List Word) → AreDistinct front → AreDistinct more → ((k : ℕ) (word : Word) → slice_get front k ≡ Some word → is_among word more ≡ false) → AreDistinct (front ++ more)
distinct_both [] more d e h = e
distinct_both (w ∷ front) more d e h = (
  list_any-append (bytes_eq w) front more ∙ or_from (is_among w front) (is_among w more) d.0 (h 0 w refl),
  distinct_both front more d.1 e (λ k word f. h (suc k) word f),
)

-- the place of a variable with a sort
record IsVariableAt (vars : List Var) (word : Word) (s : Sort) : Type 0 where
  at : ℕ
  there : slice_get (var_words vars) at ≡ Some word
  sort : slice_get (var_sorts vars) at ≡ Some s

variable_at : (vars : List Var) (word : Word) (s : Sort) → variable_sort vars word ≡ Some s → IsVariableAt vars word s
variable_at [] word s e = absurd (cc)
variable_at (v ∷ vars) word s e = by (λ h. variable_at vars word s h) (bytes_eq v.name word) refl e
  where
    by : (variable_sort vars word ≡ Some s → IsVariableAt vars word s) → (b : Bool) → bytes_eq v.name word ≡ b → cond b (Some v.sort) (variable_sort vars word) ≡ Some s → IsVariableAt (v ∷ vars) word s
    by rest true is h = record { at = 0; there = ap Some (same_text v.name word is); sort = h }
    by rest false is h = (let r = rest h in record { at = suc r.at; there = r.there; sort = r.sort })

-- a variable has its value, and every other word keeps its own
assign_at : (vars : List Var) (xs : List ℚ) (env : Environment) → AreDistinct (var_words vars) → length xs ≡ length vars → (k : ℕ) (word : Word) → slice_get (var_words vars) k ≡ Some word
    → assign vars xs env word ≡ name_value xs k
assign_at [] xs env d e k word h = absurd (cc)
assign_at (v ∷ vars) [] env d e k word h = absurd (omega (arith, e))
assign_at (v ∷ vars) (x ∷ xs) env d e zero word h =
    let same = same_Some v.name word h in
    ap (λ b. cond b x (assign vars xs env word)) (ap (bytes_eq v.name) (sym same) ∙ text_same v.name)
assign_at (v ∷ vars) (x ∷ xs) env d e (suc k) word h =
    ap (λ b. cond b x (assign vars xs env word)) (absent v.name (var_words vars) k word d.0 h) ∙ assign_at vars xs env d.1 (omega (arith, e)) k word h

assign_passes : (vars : List Var) (xs : List ℚ) (env : Environment) (word : Word) → is_variable vars word ≡ false → assign vars xs env word ≡ env word
assign_passes [] xs env word e = refl
assign_passes (v ∷ vars) [] env word e = refl
assign_passes (v ∷ vars) (x ∷ xs) env word e =
    let parts = or_parts (bytes_eq v.name word) (is_variable vars word) e in
    ap (λ b. cond b x (assign vars xs env word)) parts.0 ∙ assign_passes vars xs env word parts.1

pub sorted_length : (size : ℕ) (vars : List Var) (xs : List ℚ) → AreSorted size vars xs → length xs ≡ length vars
sorted_length size [] [] h = refl
sorted_length size [] (x ∷ xs) h = absurd h
sorted_length size (v ∷ vars) [] h = absurd h
sorted_length size (v ∷ vars) (x ∷ xs) h = ap suc (sorted_length size vars xs h.1)

abbrev pub AreIdx : List Var → Type 0
AreIdx vars = All (λ v. v.sort ≡ Idx) vars

-- whole numbers for variables of sort idx
pub variables_have : (vars : List Var) (xs : List ℚ) → AreIdx vars → All (λ x. is_whole x ≡ true) xs → length xs ≡ length vars → HaveSorts (var_sorts vars) xs
variables_have [] xs idx h e n s f = absurd (cc)
variables_have (v ∷ vars) [] idx h e n s f = absurd (omega (arith, e))
variables_have (v ∷ vars) (x ∷ xs) idx h e zero s f =
    let same : Idx ≡ s = sym (All-head (λ (u : Var). u.sort ≡ Idx) v vars idx) ∙ same_Some v.sort s f in
    subst (λ (t : Sort). IsOfSort t x) same (All-head (λ y. is_whole y ≡ true) x xs h)
variables_have (v ∷ vars) (x ∷ xs) idx h e (suc n) s f =
    variables_have vars xs (All-tail (λ (u : Var). u.sort ≡ Idx) v vars idx) (All-tail (λ y. is_whole y ≡ true) x xs h) (omega (arith, e)) n s f

-- ---- names and variables
module _ (names : NameList) (vars : List Var) (made : IsMade names) (distinct : AreDistinct (var_words vars)) (apart : AreApart vars names) where
  abbrev ws : List Word
  ws = words names ++ var_words vars

  abbrev ss : List Sort
  ss = sorts names ++ var_sorts vars

  ws_distinct : AreDistinct ws
  ws_distinct = distinct_both (words names) (var_words vars) (words_are_distinct names made) distinct (λ k word e. among_variables vars word (not_variable vars names k word made apart e))

  -- a word with a sort at one place
  at_place : (word : Word) (s : Sort) (k : ℕ) → slice_get ws k ≡ Some word → slice_get ss k ≡ Some s → (scope_over ws ss).name word ≡ Some s
  at_place word s k e f = ap (option_and_then (λ at. slice_get ss at)) (position_of ws k word ws_distinct e) ∙ f

  of_name : (word : Word) (s : Sort) → (flat_scope names).name word ≡ Some s → (scope_over ws ss).name word ≡ Some s
  of_name word s e =
      option_and_then_some (λ at. slice_get (sorts names) at) (position (bytes_eq word) (words names)) s e (λ at p q.
      let there = (stands_there (words names) word (record { 0 = at }) (ap (option_map (λ k. record { 0 = k })) p)).there in
      at_place word s at (get_front (words names) (var_words vars) at word there) (get_front (sorts names) (var_sorts vars) at s q))

  of_variable : (word : Word) (s : Sort) → variable_sort vars word ≡ Some s → (scope_over ws ss).name word ≡ Some s
  of_variable word s e =
      let at = variable_at vars word s e in
      let long : length (words names) ≡ length (sorts names) = length_words names ∙ sym (length_sorts names) in
      at_place word s (length (words names) + at.at) (get_behind (words names) (var_words vars) at.at ∙ at.there)
      (ap (λ n. slice_get ss (n + at.at)) long ∙ get_behind (sorts names) (var_sorts vars) at.at ∙ at.sort)

  -- a word has in a clause the sort at its place
  pub sort_there : (word : Word) (s : Sort) → (clause_scope names vars).name word ≡ Some s → (scope_over ws ss).name word ≡ Some s
  sort_there word s e = by (variable_sort vars word) refl e
    where
      by : (o : Option Sort) → variable_sort vars word ≡ o → option_or o ((flat_scope names).name word) ≡ Some s → (scope_over ws ss).name word ≡ Some s
      by None f h = of_name word s h
      by (Some t) f h = of_variable word s (f ∙ h)

  -- ---- values
  module _ (v : Values) (xs : List ℚ) (long : length xs ≡ length vars) where
    abbrev vs : Values
    vs = firsts (count names) v ++ xs

    pub agrees_clause : (env : Environment) → Agrees (words names) v env → Agrees ws vs (assign vars xs env)
    agrees_clause env agrees =
        agrees_both (words names) (var_words vars) (firsts (count names) v) xs (assign vars xs env) (length_firsts (count names) v ∙ sym (length_words names))
        (λ k word e.
        let within : k < count names = (let l = slice_get_within (words names) k word e in let all = length_words names in omega (arith, l, all)) in
        assign_passes vars xs env word (not_variable vars names k word made apart e) ∙ agrees k word e ∙ sym (firsts_value (count names) v k within))
        (assign_at vars xs env distinct long)

    pub have_clause : AreIdx vars → HaveSorts (sorts names) v → All (λ x. is_whole x ≡ true) xs → HaveSorts ss vs
    have_clause idx have wholes =
        have_both (sorts names) (var_sorts vars) (firsts (count names) v) xs (length_firsts (count names) v ∙ sym (length_sorts names))
        (λ n s e.
        let within : n < count names = (let l = slice_get_within (sorts names) n s e in let all = length_sorts names in omega (arith, l, all)) in
        subst (IsOfSort s) (sym (firsts_value (count names) v n within)) (have n s e))
        (variables_have vars xs idx wholes long)
