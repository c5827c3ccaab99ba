-- Arguments with small numbers keep the numbers of indexes small, where each index of a clause is a variable alone or has none.
use Rattle.std.proofs.Common.{◌≡◌, ℕ, ◌+◌, ◌≤◌, List, [], ◌∷◌, map, Bool, true, false, ◌||◌, not, ℤ, pos, negsuc, Option, Some, None, refl, sym, ap, subst, ◌∙◌, arith, unsigned_abs}
use Rattle.std.specs.Prelude.{if◌then◌else◌}
use Rattle.std.specs.Str.{bytes_eq}
use Rattle.std.specs.List.{All, AllZip, list_all, list_any}
use Rattle.std.specs.Option.{option_or}
use Rattle.std.proofs.lemmas.Bool.{and_parts, or_parts}
use Rattle.std.proofs.lemmas.Int.{ints}
use Rattle.std.proofs.lemmas.List.Elements.{All-nil, All-cons, All-head, All-tail}
use Rattle.hp_math.specs.Rational.{ℚ, whole}
use Rattle.hp_math.proofs.Parts.{whole-parts}
use Rattle.hp_tree.specs.declared.term.Term.{Term, Name, Number, Null, Add, fold-roll-Term, out-Term, out-roll-Term, roll-Term, map-Term}
use Rattle.hp_tree.specs.declared.term.Term.TheOpen.{Term-F}
use Rattle.hp_tree.specs.declared.term.Term.TheVariants.{rolls-Add, rolls-Name, rolls-Null, rolls-Number}
use Rattle.hp_tree.specs.declared.problem.Sort.{Sort}
use Rattle.hp_tree.specs.declared.problem.Sort.TheVariants.{Num, Idx, Ptr}
use Rattle.hp_tree.specs.declared.problem.Var.{Var}
use Rattle.hp_tree.specs.declared.problem.Atom.{Atom}
use Rattle.hp_tree.specs.Value.{Word}
use Rattle.hp_terms.specs.declared.forms.Forms.{Forms}
use Rattle.hp_terms.specs.Scope.{Profile, Scope}
use Rattle.hp_terms.specs.Sorting.{forms_of, forms_step, has_form, name_forms, sort_forms, sort_of}
use Rattle.hp_terms.specs.Weight.{IsLightAtom, IsSmallOffset, largest_offset, weight, weight_step, weights}
use Rattle.hp_terms.specs.Laws.{HasSort}
use Rattle.hp_terms.proofs.Parts.{applications_follow_profiles, parts_of_sorted_terms_are_sorted}
use Rattle.hp_terms.proofs.Values.{either_both}
use Rattle.hp_index.proofs.Layers.{Parts, bare, by_layers}
use Rattle.hp_lit.specs.declared.line.Arg.{Arg}
use Rattle.hp_lit.specs.declared.line.Arg.TheVariants as arg
use Rattle.hp_defs.specs.Names.{NameList, sorts}
use Rattle.hp_defs.specs.Fit.{ArgFits}
use Rattle.hp_defs.specs.Made.{IsSmallArg}
use Rattle.hp_base.specs.Lines.{flat_scope}
use Rattle.hp_local.specs.Substitution.{substitute, substitute_step}
use Rattle.hp_norm.specs.declared.flat.FlatClause.{FlatClause}
use Rattle.hp_norm.specs.Scopes.{clause_scope, term_scope, variable_sort}
use Rattle.hp_norm.specs.Loads.{Load, argument_sorts, arguments_load, both_loads, load, load_step, own_load, place_load, places_of}
use Rattle.hp_norm.specs.Opening.{is_variable, mentions, mentions_step}
use Rattle.hp_norm.specs.Plain.{is_lone_variable, is_plain_argument, is_variable_in, name_in}
use Rattle.hp_norm.proofs.AtomsNamed.{IsSortedIn, has_sides}
use Rattle.hp_norm.proofs.Loads.{own_no_more}
use Rattle.hp_norm.proofs.Seeing.{by_term_roll}
use Rattle.hp_instance.specs.Laws.{IsLightAt, PlainTuplesFit}
use Rattle.hp_instance.specs.Plain.{HasPlainIndexes, are_plain_at, arguments_in, has_plain_indexes, is_plain_at, plain_step}
use Rattle.hp_instance.specs.Replacing.{arg_term, arg_terms, name_word, replaced_word, replacement}
use Rattle.hp_instance.proofs.Replaced.{HasSortOf}

-- ---- arguments alone
small_number : (k : ℤ) → IsSmallOffset k → unsigned_abs k ≤ largest_offset
small_number (pos n) h = let g = h.high in omega (arith, ints)
small_number (negsuc n) h = let g = h.low in omega (arith, ints)

-- the name of a variable has no number
lone_layer : (vars : List Var) (z : Term-F Term) → is_variable_in vars (name_in z) ≡ true → weight (roll-Term z) ≡ 0
lone_layer vars (Term-F.Number q) e = absurd (cc)
lone_layer vars Term-F.Null e = absurd (cc)
lone_layer vars (Term-F.Name word) e = fold-roll-Term ℕ weight_step (Term-F.Name word)
lone_layer vars (Term-F.Apply func args) e = absurd (cc)
lone_layer vars (Term-F.Add a b) e = absurd (cc)
lone_layer vars (Term-F.Sub a b) e = absurd (cc)
lone_layer vars (Term-F.Neg a) e = absurd (cc)
lone_layer vars (Term-F.Scale q a) e = absurd (cc)

abbrev IsWeightless : List Var → Term → Type 0
IsWeightless vars t = is_lone_variable vars t ≡ true → weight t ≡ 0

lone_weight : (vars : List Var) (t : Term) → IsWeightless vars t
lone_weight vars t = by_layers (IsWeightless vars) (λ y e.
    let z = bare (IsWeightless vars) y in
    lone_layer vars z (ap (λ x. is_variable_in vars (name_in x)) (sym (out-roll-Term z)) ∙ e)) t

-- a word that is no variable's stays
word_stays : (vars : List Var) (terms : List Term) (word : Word) → is_variable vars word ≡ false → replaced_word vars terms word ≡ Name word
word_stays [] terms word e = refl
word_stays (v ∷ vars) [] word e = refl
word_stays (v ∷ vars) (t ∷ terms) word e =
    let parts = or_parts (bytes_eq v.name word) (is_variable vars word) e in
    subst (λ (b : Bool). (if b then t else replaced_word vars terms word) ≡ Name word) (sym parts.0) (word_stays vars terms word parts.1)

-- ---- terms without variables
module _ (vars : List Var) (terms : List Term) where
  abbrev put : Term → Term
  put = substitute (replaced_word vars terms)

  abbrev Stays : Term → Type 0
  Stays t = mentions vars t ≡ false → put t ≡ t

  abbrev those : List (Parts Stays) → List Term
  those ts = map (λ (e : Parts Stays). e.0) ts

  all_stay : (ts : List (Parts Stays)) → list_any (λ b. b) (map (mentions vars) (those ts)) ≡ false → map put (those ts) ≡ those ts
  all_stay [] e = refl
  all_stay (t ∷ ts) e =
      let parts = or_parts (mentions vars t.0) (list_any (λ b. b) (map (mentions vars) (those ts))) e in
      (λ i. t.1 parts.0 i ∷ all_stay ts parts.1 i)

  layer_stays : (y : Term-F (Parts Stays)) → mentions_step vars (map-Term Term Bool (mentions vars) (bare Stays y)) ≡ false
      → substitute_step (replaced_word vars terms) (map-Term Term Term put (bare Stays y)) ≡ roll-Term (bare Stays y)
  layer_stays (Term-F.Number q) e = refl
  layer_stays Term-F.Null e = refl
  layer_stays (Term-F.Name word) e = word_stays vars terms word e ∙ sym (rolls-Name word)
  layer_stays (Term-F.Apply func ts) e = ap (λ us. roll-Term (Term-F.Apply func us)) (all_stay ts e)
  layer_stays (Term-F.Add a b) e = let parts = or_parts (mentions vars a.0) (mentions vars b.0) e in (λ i. roll-Term (Term-F.Add (a.1 parts.0 i) (b.1 parts.1 i)))
  layer_stays (Term-F.Sub a b) e = let parts = or_parts (mentions vars a.0) (mentions vars b.0) e in (λ i. roll-Term (Term-F.Sub (a.1 parts.0 i) (b.1 parts.1 i)))
  layer_stays (Term-F.Neg a) e = (λ i. roll-Term (Term-F.Neg (a.1 e i)))
  layer_stays (Term-F.Scale q a) e = (λ i. roll-Term (Term-F.Scale q (a.1 e i)))

  term_stays : (t : Term) → Stays t
  term_stays t = by_layers Stays (λ y e.
      fold-roll-Term Term (substitute_step (replaced_word vars terms)) (bare Stays y)
      ∙ layer_stays y (sym (fold-roll-Term Bool (mentions_step vars) (bare Stays y)) ∙ e)) t

-- ---- loads of terms
-- the load of a term of these forms with this weight: one index that an argument is may be added to its own numbers
record IsBounded (f : Forms) (own : ℕ) (l : Load) : Type 0 where
  inner : l.indexes ≤ largest_offset
  idx : f.idx ≡ true → l.own ≤ (own + largest_offset)
  whole : f.whole ≡ true → l.own ≤ own

module _ (scope : Scope) where
  number_load : (q : ℚ) → load scope (Number q) ≡ own_load (unsigned_abs q.num)
  number_load q = ap (load scope) (sym (rolls-Number q)) ∙ fold-roll-Term Load (load_step (places_of scope)) (Term-F.Number q)

  name_load : (word : Word) → load scope (Name word) ≡ own_load 0
  name_load word = ap (load scope) (sym (rolls-Name word)) ∙ fold-roll-Term Load (load_step (places_of scope)) (Term-F.Name word)

  null_load : load scope Null ≡ own_load 0
  null_load = ap (load scope) (sym rolls-Null) ∙ fold-roll-Term Load (load_step (places_of scope)) Term-F.Null

  add_load : (a b : Term) → load scope (Add a b) ≡ both_loads (load scope a) (load scope b)
  add_load a b = ap (load scope) (sym (rolls-Add a b)) ∙ fold-roll-Term Load (load_step (places_of scope)) (Term-F.Add a b)

  offset_load : (k : ℤ) → load scope (Number (whole k)) ≡ own_load (unsigned_abs k)
  offset_load k = number_load (whole k) ∙ ap (λ (z : ℤ). own_load (unsigned_abs z)) (whole-parts k).0

nothing_more : (n : ℕ) → both_loads (own_load 0) (own_load n) ≡ own_load n
nothing_more n = let e : 0 + n ≡ n = omega arith in (λ i. own_load (e i))

bounded_to : (f : Forms) (own : ℕ) (l : Load) (k : ℕ) → l ≡ own_load k → (f.idx ≡ true → k ≤ (own + largest_offset)) → (f.whole ≡ true → k ≤ own) → IsBounded f own l
bounded_to f own l k e i w = subst (λ (m : Load). IsBounded f own m) (sym e) (record { inner = omega arith; idx = i; whole = w })

bounded_none : (f : Forms) (own : ℕ) (l : Load) → l ≡ own_load 0 → IsBounded f own l
bounded_none f own l e = bounded_to f own l 0 e (λ t. omega arith) (λ t. omega arith)

plain_cases : {A : Type 0} → (b c : Bool) → (b || not c) ≡ true → (b ≡ true → A) → (c ≡ false → A) → A
plain_cases true c e f g = f refl
plain_cases false true e f g = absurd (cc)
plain_cases false false e f g = g refl

module _ (names : NameList) (vars : List Var) (args : List Arg) (fits : AllZip (HasSortOf names) vars args) (small : All IsSmallArg args) where
  abbrev replace : Word → Term
  replace = replacement names vars args

  abbrev inner : Scope
  inner = clause_scope names vars

  abbrev outer : Scope
  outer = term_scope names

  abbrev plain : Term → Bool
  plain = has_plain_indexes (places_of inner) vars

  -- ---- arguments
  arg_bounded : (sort : Sort) (x : Arg) → ArgFits (sorts names) sort x → IsSmallArg x → IsBounded (sort_forms sort) 0 (load outer (arg_term names x))
  arg_bounded Num (arg.Number q) h k = bounded_to (sort_forms Num) 0 (load outer (Number q)) (unsigned_abs q.num) (number_load outer q) (λ t. absurd (cc)) (λ t. absurd (cc))
  arg_bounded Num (arg.Named name) h k = bounded_none (sort_forms Num) 0 (load outer (Name (name_word names name))) (name_load outer (name_word names name))
  arg_bounded Num (arg.Index base offset) h k = absurd h
  arg_bounded Num arg.Null h k = absurd h
  arg_bounded Idx (arg.Number q) h k = absurd h
  arg_bounded Idx (arg.Named name) h k = absurd h
  arg_bounded Idx (arg.Index None offset) h k =
      let few = small_number offset k in
      bounded_to (sort_forms Idx) 0 (load outer (Number (whole offset))) (unsigned_abs offset) (offset_load outer offset) (λ t. omega (arith, few)) (λ t. absurd (cc))
  arg_bounded Idx (arg.Index (Some name) offset) h k =
      let few = small_number offset k in
      bounded_to (sort_forms Idx) 0 (load outer (Add (Name (name_word names name)) (Number (whole offset)))) (unsigned_abs offset)
      (add_load outer (Name (name_word names name)) (Number (whole offset)) ∙ (λ i. both_loads (name_load outer (name_word names name) i) (offset_load outer offset i)) ∙ nothing_more (unsigned_abs offset))
      (λ t. omega (arith, few)) (λ t. absurd (cc))
  arg_bounded Idx arg.Null h k = absurd h
  arg_bounded Ptr (arg.Number q) h k = absurd h
  arg_bounded Ptr (arg.Named name) h k = bounded_none (sort_forms Ptr) 0 (load outer (Name (name_word names name))) (name_load outer (name_word names name))
  arg_bounded Ptr (arg.Index base offset) h k = absurd h
  arg_bounded Ptr arg.Null h k = bounded_none (sort_forms Ptr) 0 (load outer Null) (null_load outer)

  word_bounded : (vs : List Var) (xs : List Arg) → AllZip (HasSortOf names) vs xs → All IsSmallArg xs → (word : Word)
      → IsBounded (name_forms (option_or (variable_sort vs word) ((flat_scope names).name word))) 0 (load outer (replaced_word vs (arg_terms names xs) word))
  word_bounded [] [] h k word = bounded_none _ 0 _ (name_load outer word)
  word_bounded [] (x ∷ xs) h k word = absurd h
  word_bounded (u ∷ vs) [] h k word = absurd h
  word_bounded (u ∷ vs) (x ∷ xs) h k word =
      elim (bytes_eq u.name word) as (λ (b : Bool). IsBounded (name_forms (option_or (if b then Some u.sort else variable_sort vs word) ((flat_scope names).name word))) 0 (load outer (if b then arg_term names x else replaced_word vs (arg_terms names xs) word))) [
        | true ↦ arg_bounded u.sort x h.0 (All-head IsSmallArg x xs k)
        | false ↦ word_bounded vs xs h.1 (All-tail IsSmallArg x xs k) word
      ]

  -- ---- terms
  abbrev Bounded : Term → Type 0
  Bounded t = HasSort inner t → plain t ≡ true → weight t ≤ largest_offset → IsBounded (forms_of inner t) (weight t) (load outer (substitute replace t))

  abbrev Part : Type 0
  Part = Parts Bounded

  abbrev terms : List Part → List Term
  terms ts = map (λ (e : Part). e.0) ts

  -- an index that is an argument is small: a variable's has no other number, and one without variables stays
  index_bounded : (t : Part) → has_form (forms_of inner t.0) Idx ≡ true → is_plain_argument vars t.0 ≡ true → plain t.0 ≡ true → weight t.0 ≤ largest_offset
      → (load outer (substitute replace t.0)).own ≤ largest_offset
  index_bounded t h at is few =
      plain_cases (is_lone_variable vars t.0) (mentions vars t.0) at
      (λ lone. (let none = lone_weight vars t.0 lone in let own = (t.1 (record { sort = Idx; is = h }) is few).idx h in omega (arith, none, own)))
      (λ closed. (let stays = ap (λ (u : Term). (load outer u).own) (term_stays vars (arg_terms names args) t.0 closed) in let own = own_no_more outer t.0 in omega (arith, stays, own, few)))

  place_bounded : (place : Sort) (t : Part) → has_form (forms_of inner t.0) place ≡ true → is_plain_at vars place t.0 ≡ true → plain t.0 ≡ true → weight t.0 ≤ largest_offset
      → place_load place (load outer (substitute replace t.0)) ≤ largest_offset
  place_bounded Num t h at is few = (t.1 (record { sort = Num; is = h }) is few).inner
  place_bounded Idx t h at is few =
      let own = index_bounded t h at is few in
      let more = (t.1 (record { sort = Idx; is = h }) is few).inner in
      omega (arith, own, more)
  place_bounded Ptr t h at is few = (t.1 (record { sort = Ptr; is = h }) is few).inner

  args_bounded : (ts : List Part) (places : List Sort) → AllZip (λ t place. has_form (forms_of inner t) place ≡ true) (terms ts) places
      → are_plain_at vars places (terms ts) ≡ true → list_all (λ b. b) (map plain (terms ts)) ≡ true → weights (map weight (terms ts)) ≤ largest_offset
      → arguments_load places (map (load outer) (map (substitute replace) (terms ts))) ≤ largest_offset
  args_bounded [] [] h at is few = omega arith
  args_bounded [] (place ∷ places) h at is few = absurd h
  args_bounded (t ∷ ts) [] h at is few = absurd h
  args_bounded (t ∷ ts) (place ∷ places) h at is few =
      let ats = and_parts (is_plain_at vars place t.0) (are_plain_at vars places (terms ts)) at in
      let each = and_parts (plain t.0) (list_all (λ b. b) (map plain (terms ts))) is in
      let own = place_bounded place t h.0 ats.0 each.0 (omega (arith, few)) in
      let rest = args_bounded ts places h.1 ats.1 each.1 (omega (arith, few)) in
      omega (arith, own, rest)

  abbrev put_in : Term-F Term → Term-F Term
  put_in = map-Term Term Term (substitute replace)

  abbrev load_at : Term-F Term → Load
  load_at z = load_step (places_of outer) (map-Term Term Load (load outer) z)

  abbrev weight_at : Term-F Term → ℕ
  weight_at z = weight_step (map-Term Term ℕ weight z)

  abbrev plain_at : Term-F Term → Bool
  plain_at z = plain_step (places_of inner) vars (roll-Term z) (map-Term Term Bool plain z)

  abbrev forms_at : Term-F Term → Forms
  forms_at z = forms_step inner (map-Term Term Forms (forms_of inner) z)

  rolled : (z : Term-F Term) (f : Forms) (own : ℕ) → IsBounded f own (load_at z) → IsBounded f own (load outer (roll-Term z))
  rolled z f own h = subst (λ (l : Load). IsBounded f own l) (sym (fold-roll-Term Load (load_step (places_of outer)) z)) h

  both_bounded : (a b : Part) → IsBounded (forms_of inner a.0) (weight a.0) (load outer (substitute replace a.0)) → IsBounded (forms_of inner b.0) (weight b.0) (load outer (substitute replace b.0))
      → IsBounded (forms_at (Term-F.Add a.0 b.0)) (weight_at (Term-F.Add a.0 b.0)) (load_at (put_in (Term-F.Add a.0 b.0)))
  both_bounded a b p q =
      let f = forms_of inner a.0 in
      let g = forms_of inner b.0 in
      let x = p.inner in
      let y = q.inner in
      record {
        inner = omega (arith, x, y);
        idx = λ t. either_both f.idx g.whole f.whole g.idx t
            (λ i w. let s = p.idx i in let r = q.whole w in omega (arith, s, r))
            (λ w i. let s = p.whole w in let r = q.idx i in omega (arith, s, r));
        whole = λ t. absurd (cc);
      }

  less_bounded : (a b : Part) → IsBounded (forms_of inner a.0) (weight a.0) (load outer (substitute replace a.0)) → IsBounded (forms_of inner b.0) (weight b.0) (load outer (substitute replace b.0))
      → IsBounded (forms_at (Term-F.Sub a.0 b.0)) (weight_at (Term-F.Sub a.0 b.0)) (load_at (put_in (Term-F.Sub a.0 b.0)))
  less_bounded a b p q =
      let f = forms_of inner a.0 in
      let g = forms_of inner b.0 in
      let x = p.inner in
      let y = q.inner in
      record {
        inner = omega (arith, x, y);
        idx = λ t. let h = and_parts f.idx g.whole t in let s = p.idx h.0 in let r = q.whole h.1 in omega (arith, s, r);
        whole = λ t. absurd (cc);
      }

  step_bounded : (y : Term-F Part) → HasSort inner (roll-Term (bare Bounded y)) → plain_at (bare Bounded y) ≡ true → weight_at (bare Bounded y) ≤ largest_offset
      → IsBounded (forms_at (bare Bounded y)) (weight_at (bare Bounded y)) (load outer (substitute_step replace (put_in (bare Bounded y))))
  step_bounded (Term-F.Number q) h is few =
      bounded_to _ (unsigned_abs q.num) _ (unsigned_abs q.num) (fold-roll-Term Load (load_step (places_of outer)) (Term-F.Number q)) (λ t. omega arith) (λ t. omega arith)
  step_bounded Term-F.Null h is few = bounded_none _ 0 _ (fold-roll-Term Load (load_step (places_of outer)) Term-F.Null)
  step_bounded (Term-F.Name word) h is few = word_bounded vars args fits small word
  step_bounded (Term-F.Apply func ts) h is few =
      let follows = applications_follow_profiles inner func (terms ts) h.sort h.is in
      let places = ap (λ (o : Option Profile). argument_sorts o) follows.known in
      let both = and_parts (are_plain_at vars (places_of inner func) (arguments_in (out-Term (roll-Term (Term-F.Apply func (terms ts)))))) (list_all (λ b. b) (map plain (terms ts))) is in
      let at : are_plain_at vars (places_of inner func) (terms ts) ≡ true = ap (λ x. are_plain_at vars (places_of inner func) (arguments_in x)) (sym (out-roll-Term (Term-F.Apply func (terms ts)))) ∙ both.0 in
      let known = subst (λ (ss : List Sort). are_plain_at vars ss (terms ts) ≡ true) places at in
      let all = subst (λ (ss : List Sort). arguments_load ss (map (load outer) (map (substitute replace) (terms ts))) ≤ largest_offset) (sym places) (args_bounded ts follows.profile.args follows.each known both.1 few) in
      rolled (Term-F.Apply func (map (substitute replace) (terms ts))) _ _ (record { inner = all; idx = λ t. omega arith; whole = λ t. omega arith })
  step_bounded (Term-F.Add a b) h is few =
      let parts = parts_of_sorted_terms_are_sorted inner (Term-F.Add a.0 b.0) h in
      let rest = All-tail (HasSort inner) a.0 (b.0 ∷ []) parts in
      let each = and_parts (plain a.0) (plain b.0) is in
      rolled (Term-F.Add (substitute replace a.0) (substitute replace b.0)) _ _
      (both_bounded a b (a.1 (All-head (HasSort inner) a.0 (b.0 ∷ []) parts) each.0 (omega (arith, few))) (b.1 (All-head (HasSort inner) b.0 [] rest) each.1 (omega (arith, few))))
  step_bounded (Term-F.Sub a b) h is few =
      let parts = parts_of_sorted_terms_are_sorted inner (Term-F.Sub a.0 b.0) h in
      let rest = All-tail (HasSort inner) a.0 (b.0 ∷ []) parts in
      let each = and_parts (plain a.0) (plain b.0) is in
      rolled (Term-F.Sub (substitute replace a.0) (substitute replace b.0)) _ _
      (less_bounded a b (a.1 (All-head (HasSort inner) a.0 (b.0 ∷ []) parts) each.0 (omega (arith, few))) (b.1 (All-head (HasSort inner) b.0 [] rest) each.1 (omega (arith, few))))
  step_bounded (Term-F.Neg a) h is few =
      let parts = parts_of_sorted_terms_are_sorted inner (Term-F.Neg a.0) h in
      let p = a.1 (All-head (HasSort inner) a.0 [] parts) is few in
      rolled (Term-F.Neg (substitute replace a.0)) _ _ (record { inner = p.inner; idx = λ t. let w = p.whole t in omega (arith, w); whole = λ t. absurd (cc) })
  step_bounded (Term-F.Scale q a) h is few =
      let parts = parts_of_sorted_terms_are_sorted inner (Term-F.Scale q a.0) h in
      let p = a.1 (All-head (HasSort inner) a.0 [] parts) is (omega (arith, few)) in
      let x = p.inner in
      rolled (Term-F.Scale q (substitute replace a.0)) _ _ (record { inner = omega (arith, x); idx = λ t. absurd (cc); whole = λ t. absurd (cc) })

  layer_bounded : (y : Term-F Part) → Bounded (roll-Term (bare Bounded y))
  layer_bounded y h is few =
      let z = bare Bounded y in
      let own = fold-roll-Term ℕ weight_step z in
      subst (λ (f : Forms). IsBounded f (weight (roll-Term z)) (load outer (substitute replace (roll-Term z)))) (sym (fold-roll-Term Forms (forms_step inner) z))
      (subst (λ (t : Term). IsBounded (forms_at z) (weight (roll-Term z)) (load outer t)) (sym (fold-roll-Term Term (substitute_step replace) z))
      (subst (λ (n : ℕ). IsBounded (forms_at z) n (load outer (substitute_step replace (put_in z)))) (sym own)
      (step_bounded y h (sym (by_term_roll (plain_step (places_of inner) vars) z) ∙ is) (subst (λ n. n ≤ largest_offset) own few))))

  term_bounded : (t : Term) → Bounded t
  term_bounded t = by_layers Bounded layer_bounded t

-- ---- clauses
module _ (names : NameList) (c : FlatClause) (args : List Arg) (fits : AllZip (HasSortOf names) c.vars args) (small : All IsSmallArg args) where
  atom_light : (atom : Atom) → IsSortedIn (clause_scope names c.vars) atom → IsLightAtom atom → HasPlainIndexes names c atom → IsLightAt names c args atom
  atom_light atom sorted light plain =
      let scope = clause_scope names c.vars in
      let sort = sort_of scope atom in
      let sides = has_sides scope sort atom sorted in
      let left = term_bounded names c.vars args fits small atom.left (record { sort = sort; is = sides.left }) plain.left (omega (arith, light)) in
      let right = term_bounded names c.vars args fits small atom.right (record { sort = sort; is = sides.right }) plain.right (omega (arith, light)) in
      record {
        inner = record { left = left.inner; right = right.inner };
        sides = λ is.
            let p = left.idx (subst (λ (s : Sort). has_form (forms_of scope atom.left) s ≡ true) is sides.left) in
            let q = right.idx (subst (λ (s : Sort). has_form (forms_of scope atom.right) s ≡ true) is sides.right) in
            record { left = omega (arith, p, light); right = omega (arith, q, light) };
      }

  atoms_light : (atoms : List Atom) → All (IsSortedIn (clause_scope names c.vars)) atoms → All IsLightAtom atoms → All (HasPlainIndexes names c) atoms → All (IsLightAt names c args) atoms
  atoms_light [] sorted light plain = All-nil (IsLightAt names c args)
  atoms_light (atom ∷ atoms) sorted light plain =
      let IsSorted = IsSortedIn (clause_scope names c.vars) in
      All-cons (IsLightAt names c args) atom atoms
      (atom_light atom (All-head IsSorted atom atoms sorted) (All-head IsLightAtom atom atoms light) (All-head (HasPlainIndexes names c) atom atoms plain))
      (atoms_light atoms (All-tail IsSorted atom atoms sorted) (All-tail IsLightAtom atom atoms light) (All-tail (HasPlainIndexes names c) atom atoms plain))

pub plain_tuples_fit : PlainTuplesFit
plain_tuples_fit names c args flat fits small guard head = record {
  sorted = fits;
  small = small;
  guard = atoms_light names c args fits small c.guard flat.guard flat.guard_light guard;
  head = atoms_light names c args fits small c.head flat.head flat.head_light head;
}
