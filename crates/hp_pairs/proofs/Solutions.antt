-- Values that a solution gives, and what is shown of them.
use Rattle.std.proofs.Common.{◌≡◌, ◌∙◌, ℕ, suc, ◌+◌, ◌<◌, ◌≤◌, inl, inr, List, [], ◌∷◌, ◌++◌, length, map, get_or, refl, sym, ap, subst, arith, true, false, nat_lt, cond, pos, drop, take}
use Rattle.std.specs.Prelude.{slice_index_or}
use Rattle.std.specs.List.{All, filter, range_with_len}
use Rattle.std.proofs.lemmas.Bool.{eq-eqb, ne_eqb, cases_lt, lt-ltb}
use Rattle.std.proofs.lemmas.List.{append_assoc, drop_more, get_or_past, map-append}
use Rattle.std.proofs.lemmas.List.Elements.{All-cons, All-nil, All-head, All-tail, filter_more}
use Rattle.std.proofs.lemmas.List.FromFn.{get_or-map-range_with_len, length-map-range_with_len, map-range_with_len_more}
use Rattle.hp_math.specs.Rational.{ℚ, whole}
use Rattle.hp_tree.specs.Value.{Word}
use Rattle.hp_lit.specs.declared.literal.NumLit.{NumLit}
use Rattle.hp_lit.specs.declared.valuation.NameValue.{NameValue}
use Rattle.hp_lit.specs.Truth.{Values, name_value, NumIsTrue}
use Rattle.hp_descent.specs.Answers.{IsSolution}
use Rattle.hp_descent.specs.Values.{value_in}
use Rattle.hp_descent.proofs.Rising.{Above, Rises, columns_rise}
use Rattle.hp_local.specs.Rows.{argument_words}
use Rattle.hp_defs.specs.Names.{NameList, count, words}
use Rattle.hp_flatten.specs.Flattening.{argument_word}
use Rattle.hp_pairs.specs.declared.answer.PlaceValue.{PlaceValue}
use Rattle.hp_pairs.specs.Answers.{place_value, point_of}
use Rattle.hp_pairs.proofs.Words.{argument_has_word}
use Rattle.hp_pairs.specs.Shown.{argument_places, is_below, named_place, named_places, place_among}

-- ---- looking a value up
pub value_here : (values : List NameValue) (k n : ℕ) (d : NameValue) → k < length values → value_in values n ≡ value_in (drop k values) n → (get_or values k d).name.0 ≡ n
    → value_in values n ≡ (get_or values k d).value
value_here values k n d l h e =
    h ∙ ap (λ vs. value_in vs n) (drop_more values k d l)
    ∙ ap (λ b. cond b (get_or values k d).value (value_in (drop (k + 1) values) n)) (eq-eqb (get_or values k d).name.0 n e)

pub value_further : (values : List NameValue) (k n : ℕ) (d : NameValue) → k < length values → value_in values n ≡ value_in (drop k values) n → ((get_or values k d).name.0 ≡ n → ⊥)
    → value_in values n ≡ value_in (drop (k + 1) values) n
value_further values k n d l h ne =
    h ∙ ap (λ vs. value_in vs n) (drop_more values k d l)
    ∙ ap (λ b. cond b (get_or values k d).value (value_in (drop (k + 1) values) n)) (ne_eqb (get_or values k d).name.0 n ne)

-- ---- a value more
pub named_more : (words : List Word) (others : ℕ) (values : List NameValue) (k : ℕ) (d : NameValue) → k < length values → (get_or values k d).name.0 < others
    → named_places words others (take (k + 1) values) ≡ named_places words others (take k values) ++ named_place words (get_or values k d) ∷ []
named_more words others values k d l h =
    ap (map (named_place words)) (filter_more (is_below others) values k d l
    ∙ ap (λ b. filter (is_below others) (take k values) ++ cond b (get_or values k d ∷ []) []) (lt-ltb (get_or values k d).name.0 others h))
    ∙ map-append (named_place words) (filter (is_below others) (take k values)) (get_or values k d ∷ [])

pub argument_more : (names : NameList) (values : List NameValue) (place others : ℕ) (start before after : List PlaceValue) (word : Word) (value : ℚ) → others ≡ count names
    → before ≡ start ++ argument_places (words names ++ argument_words) (count names) place values → after ≡ before ++ record { name = word; value = value } ∷ []
    → word ≡ argument_word place → value ≡ value_in values (others + place)
    → after ≡ start ++ argument_places (words names ++ argument_words) (count names) (place + 1) values
argument_more names values place others start before after word value size had pushed is has =
    let all = words names ++ argument_words in
    let at = count names + place in
    pushed ∙ ap (λ ps. ps ++ record { name = word; value = value } ∷ []) had
    ∙ append_assoc start (argument_places all (count names) place values) (record { name = word; value = value } ∷ [])
    ∙ ap (λ ps. start ++ ps)
    (ap (λ w. argument_places all (count names) place values ++ record { name = w; value = value } ∷ []) (is ∙ argument_has_word names place)
    ∙ ap (λ q. argument_places all (count names) place values ++ record { name = slice_index_or all at []; value = q } ∷ []) (has ∙ ap (λ n. value_in values (n + place)) size)
    ∙ sym (map-range_with_len_more (place_among all values) (count names) place at refl))

-- ---- values of all names
abbrev bound_of : List NameValue → ℕ
bound_of [] = 0
bound_of (x ∷ xs) = suc x.name.0 + bound_of xs

-- those of the solution, and 0 elsewhere
abbrev valuation : List NameValue → Values
valuation values = map (value_in values) (range_with_len 0 (bound_of values))

past : (values : List NameValue) (n : ℕ) → bound_of values ≤ n → value_in values n ≡ whole (pos 0)
past [] n h = refl
past (x ∷ xs) n h = ap (λ b. cond b x.value (value_in xs n)) (ne_eqb x.name.0 n (λ e. absurd (omega arith))) ∙ past xs n (omega arith)

valued : (values : List NameValue) (n : ℕ) → name_value (valuation values) n ≡ value_in values n
valued values n = elim (cases_lt n (bound_of values)) [
  | inl l ↦ get_or-map-range_with_len (value_in values) 0 (bound_of values) n n (whole (pos 0)) l (let e : 0 + n ≡ n = omega arith in e)
  | inr g ↦ get_or_past (valuation values) n (whole (pos 0)) (let e = length-map-range_with_len (value_in values) 0 (bound_of values) in omega (arith, e, g)) ∙ sym (past values n g)
]

abbrev HasOwn : List NameValue → NameValue → Type 0
HasOwn values nv = value_in values nv.name.0 ≡ nv.value

own_behind : (x : NameValue) (xs ys : List NameValue) → Above x.name.0 (map (λ nv. nv.name.0) ys) → All (HasOwn xs) ys → All (HasOwn (x ∷ xs)) ys
own_behind x xs [] a h = All-nil (HasOwn (x ∷ xs))
own_behind x xs (y ∷ ys) a h =
    All-cons (HasOwn (x ∷ xs)) y ys
    (ap (λ b. cond b x.value (value_in xs y.name.0)) (ne_eqb x.name.0 y.name.0 (λ e. absurd (let l = a.0 in omega (arith, l, e)))) ∙ All-head (HasOwn xs) y ys h)
    (own_behind x xs ys a.1 (All-tail (HasOwn xs) y ys h))

own : (values : List NameValue) → Rises (map (λ nv. nv.name.0) values) → All (HasOwn values) values
own [] r = All-nil (HasOwn [])
own (x ∷ xs) r =
    All-cons (HasOwn (x ∷ xs)) x xs (ap (λ b. cond b x.value (value_in xs x.name.0)) (eq-eqb x.name.0 x.name.0 refl)) (own_behind x xs xs r.0 (own xs r.1))

abbrev Has : Values → NameValue → Type 0
Has v nv = name_value v nv.name.0 ≡ nv.value

has_own : (v : Values) (values ys : List NameValue) → ((n : ℕ) → name_value v n ≡ value_in values n) → All (HasOwn values) ys → All (Has v) ys
has_own v values [] e h = All-nil (Has v)
has_own v values (y ∷ ys) e h = All-cons (Has v) y ys (e y.name.0 ∙ All-head (HasOwn values) y ys h) (has_own v values ys e (All-tail (HasOwn values) y ys h))

-- ---- what is shown
arguments_shown : (words : List Word) (values : List NameValue) (v : Values) (ns : List ℕ) → ((n : ℕ) → name_value v n ≡ value_in values n)
    → map (place_among words values) ns ≡ map (place_value words v) ns
arguments_shown words values v [] e = refl
arguments_shown words values v (n ∷ ns) e =
    ap (λ q. record { name = slice_index_or words n []; value = q } ∷ map (place_among words values) ns) (sym (e n))
    ∙ ap (λ ps. place_value words v n ∷ ps) (arguments_shown words values v ns e)

names_shown : (words : List Word) (others : ℕ) (v : Values) (values : List NameValue) → All (Has v) values
    → named_places words others values ≡ map (place_value words v) (filter (λ at. nat_lt at others) (map (λ nv. nv.name.0) values))
names_shown words others v [] h = refl
names_shown words others v (x ∷ xs) h =
    let rest = names_shown words others v xs (All-tail (Has v) x xs h) in
    (elim (nat_lt x.name.0 others) as (λ b. map (named_place words) (cond b (x ∷ filter (is_below others) xs) (filter (is_below others) xs))
    ≡ map (place_value words v) (cond b (x.name.0 ∷ filter (λ at. nat_lt at others) (map (λ nv. nv.name.0) xs)) (filter (λ at. nat_lt at others) (map (λ nv. nv.name.0) xs)))) [
      | true ↦ ap (λ q. record { name = slice_index_or words x.name.0 []; value = q } ∷ named_places words others xs) (sym (All-head (Has v) x xs h))
          ∙ ap (λ ps. place_value words v x.name.0 ∷ ps) rest
      | false ↦ rest
    ])

-- values that make all literals true, of which this is shown
pub record IsShown (words : List Word) (others args : ℕ) (rows : List NumLit) (values : List NameValue) : Type 0 where
  pub at : Values
  pub true : All (NumIsTrue at) rows
  pub shown : argument_places words others args values ++ named_places words others values ≡ point_of words others args rows at

pub is_shown : (words : List Word) (others args : ℕ) (rows : List NumLit) (values : List NameValue) → IsSolution rows values → IsShown words others args rows values
is_shown words others args rows values s =
    let v = valuation values in
    let rises : Rises (map (λ nv. nv.name.0) values) = subst Rises (sym s.named) (columns_rise rows) in
    let has = has_own v values values (valued values) (own values rises) in
    record {
      at = v;
      true = s.keeps v has;
      shown =
          ap (λ ps. ps ++ named_places words others values) (arguments_shown words values v (range_with_len others args) (valued values))
          ∙ ap (λ ps. map (place_value words v) (range_with_len others args) ++ ps)
          (names_shown words others v values has ∙ ap (λ ns. map (place_value words v) (filter (λ at. nat_lt at others) ns)) s.named);
    }
