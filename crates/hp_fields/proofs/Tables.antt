-- The tables of fields, as the code makes them.
use Rattle.std.proofs.Common.{◌≡◌, inl, inr, ◌⊎◌, ◌≤ℤ◌, ◌+ℤ◌, ◌∙◌, ◌<◌, ◌≤◌, ◌+◌, ◌++◌, ℕ, zero, suc, pos, List, [], ◌∷◌, map, filter, take, length, get_or, append-nil, append_assoc, add-one, cond, Bool, true, false, IsTrue, Option, Some, None, slice_get, refl, sym, ap, subst, arith}
use Rattle.std.specs.List.{All, AllZip, Contains}
use Rattle.std.proofs.lemmas.List.Elements.{All-cons, All-contains, All-head, All-nil, All-tail, filter_more}
use Rattle.hp_math.specs.Rational.{ℚ, is_whole, le_ℚ, lt_ℚ, whole}
use Rattle.hp_tree.specs.declared.problem.Sort.{Sort}
use Rattle.hp_tree.specs.declared.problem.Sort.TheVariants.{Num, Idx, Ptr}
use Rattle.hp_tree.specs.Value.{Word}
use Rattle.hp_lit.specs.declared.line.Arg.{Arg}
use Rattle.hp_lit.specs.declared.line.Def.{Def}
use Rattle.hp_lit.specs.Sorts.{HaveSorts, IsOfSort}
use Rattle.hp_lit.specs.Truth.{Values, name_value}
use Rattle.hp_local.specs.Fields.{cut, cut_if, field_facts, field_table}
use Rattle.hp_local.specs.Frame.{Fact}
use Rattle.hp_local.specs.Free.{free_table}
use Rattle.hp_local.specs.Ordered.{first_argument}
use Rattle.hp_local.specs.Rows.{own_facts, point_rows}
use Rattle.hp_defs.specs.Names.{NameList, sorts}
use Rattle.hp_model.specs.declared.structure.Table.{Table}
use Rattle.std.proofs.lemmas.Bool.{and_parts}
use Rattle.hp_math.specs.Rational.{◌≤ℚ◌}
use Rattle.hp_math.proofs.Laws.{tests_decide}
use Rattle.hp_math.proofs.Parts.{whole-parts}
use Rattle.hp_tree.specs.Limits.{largest_value}
use Rattle.hp_terms.specs.Weight.{IsWithin}
use Rattle.hp_terms.proofs.Whole.{whole-whole}
use Rattle.hp_lit.specs.declared.line.Arg.TheVariants.{Number, Named, Index, Null}
use Rattle.hp_defs.specs.declared.names.Signature.{Signature}
use Rattle.hp_defs.specs.Fit.{ArgFits, IsFitNames}
use Rattle.hp_defs.specs.Made.{IsMade}
use Rattle.hp_defs.specs.Places.{places}
use Rattle.hp_base.specs.Congruence.{Point, body_args, point_of}
use Rattle.hp_base.specs.Laws.{IsPoint}
use Rattle.hp_base.specs.Values.{arg_value, arg_values}
use Rattle.hp_class.specs.Frame.{definition_facts, fact_of, facts_of}
use Rattle.hp_class.specs.Places.{point_at, points_at}
use Rattle.hp_class.specs.Points.{points}
use Rattle.hp_class.specs.Small.{AreSmallIdx, HasSmallSums}
use Rattle.hp_tables.proofs.SmallSums.{all_small}
use Rattle.hp_class.proofs.Facts.{own_facts_are_points}
use Rattle.hp_class.proofs.Places.{places_inside, points_there}
use Rattle.hp_class.proofs.Points.{are_points}
use Rattle.hp_flatten.specs.Sorts.{is_ptr}
use Rattle.hp_local.proofs.Lists.{All-by, contains_cases, contains_first, contains_none, filter_contains}
use Rattle.std.proofs.lemmas.List.Elements.{Contains-append_right}
use Rattle.std.proofs.lemmas.Int.{ints}
use Rattle.std.proofs.lemmas.Option.{slice_get-get_or}
use Rattle.hp_fields.proofs.Pointers.{field_gives, null_is}
use Rattle.hp_fields.specs.Fields.{IsField, cut_values, fields_tables, gives, inside_places, is_inside, pointer_at, pointers_from}

-- ---- loops
pub places_step : (test : ℕ → Bool) (ks : List ℕ) (i k : ℕ) (old new : List ℕ) → i < length ks → k ≡ get_or ks i 0 → old ≡ filter test (take i ks) → new ≡ old ++ cond (test k) (k ∷ []) []
    → new ≡ filter test (take (i + 1) ks)
places_step test ks i k old new h e is next = next ∙ (λ j. is j ++ cond (test (e j)) (e j ∷ []) []) ∙ sym (filter_more test ks i 0 h)

pub got : (ds : List Def) (k : ℕ) (d : Def) → k < length ds → d ≡ get_or ds k d → slice_get ds k ≡ Some d
got ds k d h e = slice_get-get_or ds k d h ∙ ap Some (sym e)

-- the names so far, and one more
pointers_more : (n : ℕ) (ss : List Sort) (i : ℕ) (s : Sort) → slice_get ss i ≡ Some s → pointers_from n (take (suc i) ss) ≡ pointers_from n (take i ss) ++ pointer_at (n + i) s
pointers_more n [] i s e = absurd (cc)
pointers_more n (t ∷ ss) zero s e =
    let is : t ≡ s = cc in
    let same : n ≡ n + 0 = omega arith in
    append-nil (pointer_at n t) ∙ (λ j. pointer_at (same j) (is j))
pointers_more n (t ∷ ss) (suc i) s e =
    let same : suc n + i ≡ n + suc i = omega arith in
    ap (λ xs. pointer_at n t ++ xs) (pointers_more (suc n) ss i s e ∙ ap (λ j. pointers_from (suc n) (take i ss) ++ pointer_at j s) same)
    ∙ sym (append_assoc (pointer_at n t) (pointers_from (suc n) (take i ss)) (pointer_at (n + suc i) s))

pub pointers_step : (ss : List Sort) (i : ℕ) (s : Sort) (old new : List Arg) (first : Arg) → slice_get ss i ≡ Some s → old ≡ first ∷ pointers_from 0 (take i ss) → new ≡ old ++ pointer_at i s
    → new ≡ first ∷ pointers_from 0 (take (i + 1) ss)
pointers_step ss i s old new first e is next =
    let here : 0 + i ≡ i = omega arith in
    next ∙ ap (λ xs. xs ++ pointer_at i s) is
    ∙ ap (λ xs. first ∷ xs) (ap (λ k. pointers_from 0 (take i ss) ++ pointer_at k s) (sym here) ∙ sym (pointers_more 0 ss i s e))
    ∙ ap (λ k. first ∷ pointers_from 0 (take k ss)) (sym (add-one i))

-- a word for each function
pub same_length : {A B : Type 0} (R : A → B → Type 0) (xs : List A) (ys : List B) → AllZip R xs ys → length xs ≡ length ys
same_length R [] [] h = refl
same_length R [] (y ∷ ys) h = absurd h
same_length R (x ∷ xs) [] h = absurd h
same_length R (x ∷ xs) (y ∷ ys) h = ap suc (same_length R xs ys h.1)

pub zip_at : {A B : Type 0} (R : A → B → Type 0) (xs : List A) (ys : List B) → AllZip R xs ys → (i : ℕ) (x : A) (y : B) → i < length xs → i < length ys → R (get_or xs i x) (get_or ys i y)
zip_at R [] ys h i x y p q = absurd (omega arith)
zip_at R (a ∷ xs) [] h i x y p q = absurd h
zip_at R (a ∷ xs) (b ∷ ys) h zero x y p q = h.0
zip_at R (a ∷ xs) (b ∷ ys) h (suc i) x y p q = zip_at R xs ys h.1 i x y (omega arith) (omega arith)

map_more : {A B : Type 0} (f : A → B) (xs : List A) (i : ℕ) (d : A) → i < length xs → map f (take (suc i) xs) ≡ map f (take i xs) ++ f (get_or xs i d) ∷ []
map_more f [] i d h = absurd (omega arith)
map_more f (x ∷ xs) zero d h = refl
map_more f (x ∷ xs) (suc i) d h = ap (λ ys. f x ∷ ys) (map_more f xs i d (omega arith))

pub tables_step : (size : ℕ) (words : List Word) (names : NameList) (v : Values) (table : Word → Table) (i : ℕ) (w : Word) (old new : List Table) (made : Table) → i < length words → w ≡ get_or words i w
    → made ≡ table w → old ≡ map table (take i words) → new ≡ old ++ made ∷ [] → new ≡ map table (take (i + 1) words)
tables_step size words names v table i w old new made h e is so_far next =
    next ∙ (λ j. so_far j ++ (is ∙ ap table e) j ∷ []) ∙ sym (map_more table words i w h) ∙ ap (λ k. map table (take k words)) (sym (add-one i))

-- ---- values
cut_past : (size : ℕ) → cut size (whole (pos 0)) ≡ whole (pos 0)
cut_past size = elim (lt_ℚ (whole (pos 0)) (whole (pos size))) as (λ b. cond b (whole (pos 0)) (whole (pos 0)) ≡ whole (pos 0)) [ true ↦ refl | false ↦ refl ]

cut_name : (size : ℕ) (v : Values) (n : ℕ) → name_value (cut_values size v) n ≡ cut size (name_value v n)
cut_name size [] n = sym (cut_past size)
cut_name size (x ∷ v) zero = refl
cut_name size (x ∷ v) (suc n) = cut_name size v n

kept_below : (size : ℕ) (x : ℚ) → lt_ℚ x (whole (pos size)) ≡ true → cut size x ≡ x
kept_below size x e = ap (λ b. cond b x (whole (pos 0))) e

none_small : IsWithin largest_value (whole (pos 0)).num
none_small = let zero_is = (whole-parts (pos 0)).0 in record { low = subst (λ n. pos 0 ≤ℤ (n +ℤ pos largest_value)) (sym zero_is) (omega (arith, ints)); high = subst (λ n. n ≤ℤ pos largest_value) (sym zero_is) (omega (arith, ints)) }

zero_whole : is_whole (whole (pos 0)) ≡ true
zero_whole = whole-whole (pos 0)

cut_whole : (size : ℕ) (x : ℚ) → is_whole x ≡ true → is_whole (cut size x) ≡ true
cut_whole size x e = elim (lt_ℚ x (whole (pos size))) as (λ b. is_whole (cond b x (whole (pos 0))) ≡ true) [ true ↦ e | false ↦ zero_whole ]

cut_least : (size : ℕ) (x : ℚ) → whole (pos 0) ≤ℚ x → whole (pos 0) ≤ℚ cut size x
cut_least size x h = elim (lt_ℚ x (whole (pos size))) as (λ b. whole (pos 0) ≤ℚ cond b x (whole (pos 0))) [ true ↦ h | false ↦ (tests_decide.le (whole (pos 0)) (whole (pos 0))).0 (and_parts (is_whole (whole (pos 0))) (le_ℚ (whole (pos 0)) (whole (pos 0))) null_is).1 ]

cut_small : (size : ℕ) (x : ℚ) → IsWithin largest_value x.num → IsWithin largest_value (cut size x).num
cut_small size x h = elim (lt_ℚ x (whole (pos size))) as (λ b. IsWithin largest_value (cond b x (whole (pos 0))).num) [ true ↦ h | false ↦ none_small ]

-- they have the sorts that the values have
cut_sorted : (size : ℕ) (s : Sort) (x : ℚ) → IsOfSort s x → IsOfSort s (cut size x)
cut_sorted size Num x h = tt
cut_sorted size Idx x h = cut_whole size x h
cut_sorted size Ptr x h = (cut_whole size x h.0, cut_least size x h.1)

pub cut_have : (size : ℕ) (ss : List Sort) (v : Values) → HaveSorts ss v → HaveSorts ss (cut_values size v)
cut_have size ss v have n s e = subst (λ (x : ℚ). IsOfSort s x) (sym (cut_name size v n)) (cut_sorted size s (name_value v n) (have n s e))

pub cut_smalls : (size : ℕ) (ss : List Sort) (v : Values) → AreSmallIdx ss v → AreSmallIdx ss (cut_values size v)
cut_smalls size ss v small n e = subst (λ (x : ℚ). IsWithin largest_value x.num) (sym (cut_name size v n)) (cut_small size (name_value v n) (small n e))

-- ---- points
-- the values that the table of a field takes
abbrev pub seen_values : Bool → ℕ → Values → Values
seen_values b size v = cond b (cut_values size v) v

seen_arg : (b : Bool) (size : ℕ) (v : Values) (ss : List Sort) (x : Arg) → ArgFits ss Ptr x → lt_ℚ (arg_value v x) (whole (pos size)) ≡ true → arg_value (seen_values b size v) x ≡ arg_value v x
seen_arg false size v ss x h e = refl
seen_arg true size v ss (Number q) h e = absurd h
seen_arg true size v ss (Named n) h e = cut_name size v n.0 ∙ kept_below size (name_value v n.0) e
seen_arg true size v ss (Index base offset) h e = absurd h
seen_arg true size v ss Null h e = refl

seen_args : (b : Bool) (size : ℕ) (v : Values) (ss : List Sort) (args : List Arg) → AllZip (ArgFits ss) (Ptr ∷ []) args → lt_ℚ (first_argument (arg_values v args)) (whole (pos size)) ≡ true
    → arg_values (seen_values b size v) args ≡ arg_values v args
seen_args b size v ss [] h e = absurd h
seen_args b size v ss (x ∷ []) h e = λ i. seen_arg b size v ss x h.0 e i ∷ []
seen_args b size v ss (x ∷ y ∷ args) h e = absurd h.1

seen_name : (b : Bool) (size : ℕ) (v : Values) (n : ℕ) → name_value (seen_values b size v) n ≡ cut_if size b (name_value v n)
seen_name true size v n = cut_name size v n
seen_name false size v n = refl

module _ (names : NameList) (size : ℕ) (v : Values) (b : Bool) (word : Word) (signature : Signature) (one : signature.args ≡ Ptr ∷ []) where
  -- an application of the field
  abbrev pub IsPlace : ℕ → Type 0
  IsPlace k = (d : Def) × (slice_get names.definitions k ≡ Some d) × IsPoint (sorts names) signature (point_of d)

  abbrev cut_fact : Fact → Fact
  cut_fact k = record { func = k.func; args = k.args; value = cut_if size b k.value }

  abbrev inside : Fact → Bool
  inside k = lt_ℚ (first_argument k.args) (whole (pos size))

  facts_of_points : List ℕ → List Fact
  facts_of_points ks = map (fact_of word v) (points_at names.definitions ks)

  seen_point : (d : Def) → IsPoint (sorts names) signature (point_of d) → inside (fact_of word v (point_of d)) ≡ true → fact_of word (seen_values b size v) (point_of d) ≡ cut_fact (fact_of word v (point_of d))
  seen_point d is e =
      let args = seen_args b size v (sorts names) (body_args d.body) (subst (λ (ss : List Sort). AllZip (ArgFits (sorts names)) ss (body_args d.body)) one is.args) e in
      λ i. record { func = word; args = args i; value = seen_name b size v d.name.0 i }

  pub facts_cut : (ks : List ℕ) → All IsPlace ks
      → map (fact_of word (seen_values b size v)) (points_at names.definitions (inside_places size v names.definitions ks)) ≡ map cut_fact (filter inside (map (fact_of word v) (points_at names.definitions ks)))
  facts_cut [] h = refl
  facts_cut (k ∷ ks) h =
      let w = All-head IsPlace k ks h in
      let p = point_of w.0 in
      let rest = facts_cut ks (All-tail IsPlace k ks h) in
      let ds = names.definitions in
      let t = is_inside size v (Some w.0) in
      let left = (λ (o : Option Def). map (fact_of word (seen_values b size v)) (points_at ds (cond (is_inside size v o) (k ∷ inside_places size v ds ks) (inside_places size v ds ks)))) in
      let right = (λ (o : Option Def). map cut_fact (filter inside (map (fact_of word v) (point_at o ++ points_at ds ks)))) in
      ap left w.1 ∙ by w t refl rest ∙ ap right (sym w.1)
    where
      by : (w : IsPlace k) (c : Bool) → is_inside size v (Some w.0) ≡ c
          → map (fact_of word (seen_values b size v)) (points_at names.definitions (inside_places size v names.definitions ks)) ≡ map cut_fact (filter inside (map (fact_of word v) (points_at names.definitions ks)))
          → map (fact_of word (seen_values b size v)) (points_at names.definitions (cond (is_inside size v (Some w.0)) (k ∷ inside_places size v names.definitions ks) (inside_places size v names.definitions ks)))
          ≡ map cut_fact (filter inside (map (fact_of word v) (point_of w.0 ∷ points_at names.definitions ks)))
      by w true e rest =
          ap (λ c. map (fact_of word (seen_values b size v)) (points_at names.definitions (cond c (k ∷ inside_places size v names.definitions ks) (inside_places size v names.definitions ks)))) e
          ∙ ap (λ (o : Option Def). map (fact_of word (seen_values b size v)) (point_at o ++ points_at names.definitions (inside_places size v names.definitions ks))) w.1
          ∙ (λ i. seen_point w.0 w.2 e i ∷ rest i)
          ∙ ap (λ c. map cut_fact (cond c (fact_of word v (point_of w.0) ∷ filter inside (map (fact_of word v) (points_at names.definitions ks))) (filter inside (map (fact_of word v) (points_at names.definitions ks))))) (sym e)
      by w false e rest =
          ap (λ c. map (fact_of word (seen_values b size v)) (points_at names.definitions (cond c (k ∷ inside_places size v names.definitions ks) (inside_places size v names.definitions ks)))) e
          ∙ rest
          ∙ ap (λ c. map cut_fact (cond c (fact_of word v (point_of w.0) ∷ filter inside (map (fact_of word v) (points_at names.definitions ks))) (filter inside (map (fact_of word v) (points_at names.definitions ks))))) (sym e)

-- ---- the table of a field
some_at : {X : Type 0} (xs : List X) (k : ℕ) → k < length xs → (x : X) × (slice_get xs k ≡ Some x)
some_at [] k h = absurd (omega arith)
some_at (x ∷ xs) zero h = (x, refl)
some_at (x ∷ xs) (suc k) h = some_at xs k (omega arith)

point_among : (ds : List Def) (ks : List ℕ) (k : ℕ) (d : Def) → Contains ks k → slice_get ds k ≡ Some d → Contains (points_at ds ks) (point_of d)
point_among ds [] k d m e = absurd (contains_none k m)
point_among ds (j ∷ ks) k d m e = by (λ h. point_among ds ks k d h e) (contains_cases j ks k m)
  where
    by : (Contains ks k → Contains (points_at ds ks) (point_of d)) → (j ≡ k) ⊎ Contains ks k → Contains (points_at ds (j ∷ ks)) (point_of d)
    by rest (inl is) = subst (λ (o : Option Def). Contains (point_at o ++ points_at ds ks) (point_of d)) (sym e ∙ ap (λ n. slice_get ds n) (sym is)) (contains_first (point_of d) (points_at ds ks))
    by rest (inr h) = Contains-append_right (point_at (slice_get ds j)) (points_at ds ks) (point_of d) (rest h)

module _ (names : NameList) (made : IsMade names) (fit : IsFitNames names) (size : ℕ) (v : Values) (func : ℕ) (word : Word) (f : IsField names func word) where
  all_places : All (IsPlace names size v (is_ptr f.signature.result) word f.signature f.arguments) (places func names.definitions)
  all_places = All-by (IsPlace names size v (is_ptr f.signature.result) word f.signature f.arguments) (places func names.definitions) (λ k m. (
      let inside = All-contains (λ j. j < length names.definitions) (places func names.definitions) k (places_inside func names.definitions) m in
      let w = some_at names.definitions k inside in
      let among = point_among names.definitions (places func names.definitions) k w.0 m w.1 in
      (w.0, w.1, are_points names made fit func f.signature f.known (point_of w.0) (subst (λ (ps : List Point). Contains ps (point_of w.0)) (sym (points_there func names.definitions)) among))))

  pub table_is : field_table size (gives names) (definition_facts names.signatures v names.definitions) word
      ≡ free_table word 1 (map (fact_of word (seen_values (is_ptr f.signature.result) size v)) (points_at names.definitions (inside_places size v names.definitions (places func names.definitions))))
  table_is =
      let all : own_facts word (definition_facts names.signatures v names.definitions) ≡ facts_of func word names v =
      subst (λ (w : Word). own_facts w (definition_facts names.signatures v names.definitions) ≡ facts_of func w names v) f.name (own_facts_are_points names v func f.signature made f.known) in
      let at : facts_of func word names v ≡ map (fact_of word v) (points_at names.definitions (places func names.definitions)) = ap (map (fact_of word v)) (points_there func names.definitions) in
      let same = facts_cut names size v (is_ptr f.signature.result) word f.signature f.arguments (places func names.definitions) all_places in
      ap (free_table word 1) ((λ i. field_facts size (field_gives names made func word f i) ((all ∙ at) i)) ∙ sym same)

-- which values the code takes
pub seen_cut : (size : ℕ) (v seen cut : Values) (r : Sort) → is_ptr r ≡ true → seen ≡ cut → cut ≡ cut_values size v → seen ≡ seen_values (is_ptr r) size v
seen_cut size v seen cut r e is same = is ∙ same ∙ ap (λ b. seen_values b size v) (sym e)

pub seen_whole : (size : ℕ) (v seen : Values) (r : Sort) → is_ptr r ≡ false → seen ≡ v → seen ≡ seen_values (is_ptr r) size v
seen_whole size v seen r e is = is ∙ ap (λ b. seen_values b size v) (sym e)

pub seen_small : (names : NameList) (size : ℕ) (v : Values) (b : Bool) → IsMade names → IsFitNames names → HaveSorts (sorts names) v → AreSmallIdx (sorts names) v → All (HasSmallSums (seen_values b size v)) names.definitions
seen_small names size v true made fit have small = all_small names (cut_values size v) made fit (cut_have size (sorts names) v have) (cut_smalls size (sorts names) v small)
seen_small names size v false made fit have small = all_small names v made fit have small

pub places_kept : (size : ℕ) (v : Values) (ds : List Def) (ks : List ℕ) → All (λ k. k < length ds) ks → All (λ k. k < length ds) (inside_places size v ds ks)
places_kept size v ds ks h =
    All-by (λ k. k < length ds) (inside_places size v ds ks)
    (λ k m. All-contains (λ j. j < length ds) ks k h (filter_contains (λ j. is_inside size v (slice_get ds j)) ks k m).0)
