-- Leaves over literals of which the first are those of a path, and the tree that closes lines of one literal.
use Rattle.std.proofs.Common.{◌≡◌, ℕ, zero, suc, ◌+◌, ◌-◌, ◌<◌, ◌≤◌, refl, sym, ◌∙◌, ap, subst, arith, List, [], ◌∷◌, ◌++◌, length, map, take, get_or, Option, Some, append_assoc, length-append}
use Rattle.std.specs.Prelude.{slice_get, slice_index_or}
use Rattle.std.specs.List.{All}
use Rattle.std.proofs.lemmas.Option.{slice_get-get_or, slice_get_within, get_or_from_slice_get}
use Rattle.std.proofs.lemmas.List.{length-take-le, map-append, take_more}
use Rattle.std.proofs.lemmas.List.Elements.{All-cons, All-get_or, All-head, All-nil, All-push, All-tail}
use Rattle.hp_tree.specs.declared.problem.Sort.{Sort}
use Rattle.hp_lit.specs.declared.literal.Lit.{Lit}
use Rattle.hp_lit.specs.declared.literal.Lit.TheVariants.{Num, Idx, Ptr}
use Rattle.hp_lit.specs.declared.literal.Name.{Name}
use Rattle.hp_lit.specs.declared.literal.IdxLit.{IdxLit}
use Rattle.hp_lit.specs.declared.line.Line.{Line}
use Rattle.hp_lit.specs.declared.proof.Choice.{Choice}
use Rattle.hp_lit.specs.declared.proof.Share.{Share}
use Rattle.hp_lit.specs.declared.proof.Step.{Step}
use Rattle.hp_lit.specs.Cycle.{AreRowsOf, IsLit, IsValidIdx}
use Rattle.hp_lit.specs.Leaf.{AreTaken, IsRising, IsValidNum, Taken}
use Rattle.hp_lit.specs.Pointers.{IsValidPtr, Joins, JoinsAll}
use Rattle.hp_lit.specs.Truth.{Values, IsTrueAt}
use Rattle.hp_leaf.specs.declared.tree.LeafProof.{LeafProof}
use Rattle.hp_leaf.specs.declared.tree.LeafProof.TheVariants.{Num as NumLeaf, Idx as IdxLeaf, Ptr as PtrLeaf}
use Rattle.hp_leaf.specs.declared.tree.Node.{Node}
use Rattle.hp_leaf.specs.declared.tree.Node.TheVariants.{Split, Leaf}
use Rattle.hp_leaf.specs.Leaf.{IsValid}
use Rattle.hp_leaf.specs.Tree.{lits_at, lit_at, lits_of, nothing, IsLine, place_lits, IsClosed}
use Rattle.hp_leaf.proofs.Singles.{AreSingles, first_of, singles_closed}
use Rattle.hp_path.specs.Decided.{AreValuesFor}
use Rattle.hp_search.specs.inner.Singles.{IsLeafWithin, IsSingleOf, line_at, line_in, lines_of_links, lines_of_shares, lines_of_steps, links_in_order, shares_in_order, splits_of, steps_in_order}

-- ---- lists
first_all : {A : Type 0} (P : A → Type 0) (xs ys : List A) → All P (xs ++ ys) → All P xs
first_all P [] ys h = All-nil P
first_all P (x ∷ xs) ys h = All-cons P x xs (All-head P x (xs ++ ys) h) (first_all P xs ys (All-tail P x (xs ++ ys) h))

get-first : {A : Type 0} (xs ys : List A) (n : ℕ) → n < length xs → slice_get (xs ++ ys) n ≡ slice_get xs n
get-first [] ys n h = absurd (omega arith)
get-first (x ∷ xs) ys zero h = refl
get-first (x ∷ xs) ys (suc n) h = get-first xs ys n (omega arith)

get-after : {A : Type 0} (xs ys : List A) (y : A) → slice_get (xs ++ y ∷ ys) (length xs) ≡ Some y
get-after [] ys y = refl
get-after (x ∷ xs) ys y = get-after xs ys y

-- ---- the literals of the path stand first
pub first_values : (ss : List Sort) (xs ys : List Lit) (v : Values) → AreValuesFor ss (xs ++ ys) v → AreValuesFor ss xs v
first_values ss xs ys v h = record { sorted = h.sorted; small = h.small; holds = first_all (IsTrueAt v) xs ys h.holds }

lit_first : (xs ys : List Lit) (n : ℕ) (l : Lit) → n ≤ length xs → IsLit (xs ++ ys) n l → IsLit xs n l
lit_first xs ys n l b h = let k : n - 1 < length xs = omega (arith, h.0) in (h.0, sym (get-first xs ys (n - 1) k) ∙ h.1)

rows_first : (xs ys : List Lit) (ss : List Step) (rs : List IdxLit) → All (λ s. s.lit ≤ length xs) ss → AreRowsOf (xs ++ ys) ss rs → AreRowsOf xs ss rs
rows_first xs ys [] [] w h = tt
rows_first xs ys [] (r ∷ rs) w h = absurd h
rows_first xs ys (s ∷ ss) [] w h = absurd h
rows_first xs ys (s ∷ ss) (r ∷ rs) w h =
    let within = λ (s : Step). s.lit ≤ length xs in (
      record { lit = h.0.lit; at = lit_first xs ys s.lit (Idx h.0.lit) (All-head within s ss w) h.0.at; may = h.0.may; same = h.0.same },
      rows_first xs ys ss rs (All-tail within s ss w) h.1,
    )

taken_first : (xs ys : List Lit) (ss : List Share) (ts : List Taken) → All (λ s. s.lit ≤ length xs) ss → AreTaken (xs ++ ys) ss ts → AreTaken xs ss ts
taken_first xs ys [] [] w h = tt
taken_first xs ys [] (t ∷ ts) w h = absurd h
taken_first xs ys (s ∷ ss) [] w h = absurd h
taken_first xs ys (s ∷ ss) (t ∷ ts) w h =
    let within = λ (s : Share). s.lit ≤ length xs in (
      (lit_first xs ys s.lit (Num t.lit) (All-head within s ss w) h.0.0, h.0.1, h.0.2),
      taken_first xs ys ss ts (All-tail within s ss w) h.1,
    )

join_first : (xs ys : List Lit) (n : ℕ) (a b : Option Name) → n ≤ length xs → Joins (xs ++ ys) n a b → Joins xs n a b
join_first xs ys n a b w h = record { lit = h.lit; at = lit_first xs ys n (Ptr h.lit) w h.at; same = h.same; ends = h.ends }

joins_first : (xs ys : List Lit) (a b : Option Name) (ns : List ℕ) → All (λ n. n ≤ length xs) ns → JoinsAll (xs ++ ys) a ns b → JoinsAll xs a ns b
joins_first xs ys a b [] w h = h
joins_first xs ys a b (n ∷ ns) w h =
    let within = λ (n : ℕ). n ≤ length xs in
    (h.0, join_first xs ys n a h.0 (All-head within n ns w) h.1, joins_first xs ys h.0 b ns (All-tail within n ns w) h.2)

leaf_first : (xs ys : List Lit) (proof : LeafProof) → IsLeafWithin (length xs) proof → IsValid (xs ++ ys) proof → IsValid xs proof
leaf_first xs ys (NumLeaf shares) w h = record { taken = h.taken; are_taken = taken_first xs ys shares h.taken w h.are_taken; rising = h.rising; nothing = h.nothing; bound = h.bound }
leaf_first xs ys (IdxLeaf steps) w h = record { rows = h.rows; are_rows = rows_first xs ys steps h.rows w h.are_rows; start = h.start; cycle = h.cycle; below = h.below }
leaf_first xs ys (PtrLeaf ne links) w h =
    record { lit = h.lit; at = lit_first xs ys ne (Ptr h.lit) w.0 h.at; apart = h.apart; joined = joins_first xs ys h.lit.left h.lit.right links w.1 h.joined }

pub first_leaf : (xs ys : List Lit) (proof : LeafProof) (n : ℕ) → n ≡ length xs → IsLeafWithin n proof → IsValid (xs ++ ys) proof → IsValid xs proof
first_leaf xs ys proof n e w h = leaf_first xs ys proof (subst (λ k. IsLeafWithin k proof) e w) h

-- ---- lines of one literal
pub single_here : (lines items : List Line) (i n : ℕ) (line : Line) → items ≡ lines → i < length items → line ≡ get_or items i line → n ≡ i + 1 → length line.lits ≡ 1 → IsSingleOf lines (record { line = n; lit = 1 })
single_here lines items i n line same bi ati e h =
    let b : i < length lines = subst (λ q. i < length q) same bi in
    let at : line ≡ get_or lines i line = subst (λ q. line ≡ get_or q i line) same ati in
    let m : (n - 1) ≡ i = omega (arith, e) in
    let got : lits_at lines n ≡ line.lits = ap (λ k. lits_of (slice_get lines k)) m ∙ ap lits_of (slice_get-get_or lines i line b) ∙ ap (λ l. l.lits) (sym at) in
    record { within = (omega (arith, e), omega (arith, e, b)); only = ap length got ∙ h; first = refl }

-- one line more of one literal, or another line
pub more_singles : (lines : List Line) (i : ℕ) (s : Choice) (old more : List Choice) → IsSingleOf lines s → more ≡ old ++ s ∷ [] → All (IsSingleOf lines) old × (length old ≤ i) → All (IsSingleOf lines) more × (length more ≤ i + 1)
more_singles lines i s old more h m k =
    (subst (All (IsSingleOf lines)) (sym m) (All-push (IsSingleOf lines) old s k.0 h), (let e = ap length m ∙ length-append old (s ∷ []) in omega (arith, e, k.1)))

pub no_single : (lines : List Line) (i : ℕ) (old more : List Choice) → more ≡ old → All (IsSingleOf lines) old × (length old ≤ i) → All (IsSingleOf lines) more × (length more ≤ i + 1)
no_single lines i old more m k = (subst (All (IsSingleOf lines)) (sym m) k.0, (let e = ap length m in omega (arith, e, k.1)))

-- ---- the closed tree
found_single : (lines : List Line) (singles : List Choice) (n : ℕ) (l : Lit) → slice_get (place_lits lines singles) n ≡ Some l → (c : Choice) × (slice_get singles n ≡ Some c) × (lit_at lines c ≡ l)
found_single lines [] n l h = cc
found_single lines (c ∷ cs) zero l h = (c, refl, cc)
found_single lines (c ∷ cs) (suc n) l h = found_single lines cs n l h

-- the line of this number is one of one literal, which is this one
record IsOnly (lines : List Line) (n : ℕ) (l : Lit) : Type 0 where
  pub within : IsLine lines n
  pub only : length (lits_at lines n) ≡ 1
  pub is : lit_at lines (first_of n) ≡ l

-- the literal after those that are done
placed : (lines : List Line) (done rest : List Lit) (n : ℕ) (l : Lit) → lit_at lines (first_of n) ≡ l → IsLit (done ++ lit_at lines (first_of n) ∷ rest) (suc (length done)) l
placed lines done rest n l h =
    let x = lit_at lines (first_of n) in
    let e : suc (length done) - 1 ≡ length done = omega arith in
    (omega arith, ap (slice_get (done ++ x ∷ rest)) e ∙ get-after done rest x ∙ ap Some h)

one_more : (done : List Lit) (x : Lit) → length (done ++ x ∷ []) ≡ suc (length done)
one_more done x = length-append done (x ∷ []) ∙ omega arith

rising_in_order : (n : ℕ) (ss : List Share) → IsRising (shares_in_order n ss)
rising_in_order n [] = tt
rising_in_order n (s ∷ []) = tt
rising_in_order n (s ∷ t ∷ ss) = (omega arith, rising_in_order (suc n) (t ∷ ss))

module _ (lines : List Line) (singles : List Choice) (all : All (IsSingleOf lines) singles) where
  line_found : (n : ℕ) (l : Lit) → IsLit (place_lits lines singles) n l → IsOnly lines (line_at singles n) l
  line_found n l h =
      let f = found_single lines singles (n - 1) l h.1 in
      let own : IsSingleOf lines f.0 = subst (IsSingleOf lines) (get_or_from_slice_get singles (n - 1) f.0 f.0 f.1) (All-get_or (IsSingleOf lines) singles (n - 1) f.0 (slice_get_within singles (n - 1) f.0 f.1) all) in
      let lit : lit_at lines (first_of f.0.line) ≡ l = ap (λ k. slice_index_or (lits_at lines f.0.line) (k - 1) nothing) (sym own.first) ∙ f.2 in
      let here : IsOnly lines f.0.line l = record { within = own.within; only = own.only; is = lit } in
      subst (λ m. IsOnly lines m l) (sym (ap line_in f.1)) here

  step_singles : (ss : List Step) (rs : List IdxLit) → AreRowsOf (place_lits lines singles) ss rs → AreSingles lines (lines_of_steps singles ss)
  step_singles [] [] h = tt
  step_singles [] (r ∷ rs) h = absurd h
  step_singles (s ∷ ss) [] h = absurd h
  step_singles (s ∷ ss) (r ∷ rs) h = let n = line_found s.lit (Idx h.0.lit) h.0.at in (n.within, n.only, step_singles ss rs h.1)

  share_singles : (ss : List Share) (ts : List Taken) → AreTaken (place_lits lines singles) ss ts → AreSingles lines (lines_of_shares singles ss)
  share_singles [] [] h = tt
  share_singles [] (t ∷ ts) h = absurd h
  share_singles (s ∷ ss) [] h = absurd h
  share_singles (s ∷ ss) (t ∷ ts) h = let n = line_found s.lit (Num t.lit) h.0.0 in (n.within, n.only, share_singles ss ts h.1)

  rows_in_order : (done : List Lit) (ss : List Step) (rs : List IdxLit) → AreRowsOf (place_lits lines singles) ss rs
      → AreRowsOf (done ++ place_lits lines (map first_of (lines_of_steps singles ss))) (steps_in_order (length done) ss) rs
  rows_in_order done [] [] h = tt
  rows_in_order done [] (r ∷ rs) h = absurd h
  rows_in_order done (s ∷ ss) [] h = absurd h
  rows_in_order done (s ∷ ss) (r ∷ rs) h =
      let n = line_at singles s.lit in
      let l = lit_at lines (first_of n) in
      let rest = place_lits lines (map first_of (lines_of_steps singles ss)) in (
        record { lit = h.0.lit; at = placed lines done rest n (Idx h.0.lit) (line_found s.lit (Idx h.0.lit) h.0.at).is; may = h.0.may; same = h.0.same },
        subst (λ p. AreRowsOf p (steps_in_order (suc (length done)) ss) rs) (append_assoc done (l ∷ []) rest)
            (subst (λ k. AreRowsOf ((done ++ l ∷ []) ++ rest) (steps_in_order k ss) rs) (one_more done l) (rows_in_order (done ++ l ∷ []) ss rs h.1)),
      )

  taken_in_order : (done : List Lit) (ss : List Share) (ts : List Taken) → AreTaken (place_lits lines singles) ss ts
      → AreTaken (done ++ place_lits lines (map first_of (lines_of_shares singles ss))) (shares_in_order (length done) ss) ts
  taken_in_order done [] [] h = tt
  taken_in_order done [] (t ∷ ts) h = absurd h
  taken_in_order done (s ∷ ss) [] h = absurd h
  taken_in_order done (s ∷ ss) (t ∷ ts) h =
      let n = line_at singles s.lit in
      let l = lit_at lines (first_of n) in
      let rest = place_lits lines (map first_of (lines_of_shares singles ss)) in (
        (placed lines done rest n (Num t.lit) (line_found s.lit (Num t.lit) h.0.0).is, h.0.1, h.0.2),
        subst (λ p. AreTaken p (shares_in_order (suc (length done)) ss) ts) (append_assoc done (l ∷ []) rest)
            (subst (λ k. AreTaken ((done ++ l ∷ []) ++ rest) (shares_in_order k ss) ts) (one_more done l) (taken_in_order (done ++ l ∷ []) ss ts h.1)),
      )

  link_singles : (a b : Option Name) (ns : List ℕ) → JoinsAll (place_lits lines singles) a ns b → AreSingles lines (lines_of_links singles ns)
  link_singles a b [] h = tt
  link_singles a b (n ∷ ns) h = let f = line_found n (Ptr h.1.lit) h.1.at in (f.within, f.only, link_singles h.0 b ns h.2)

  joins_in_order : (done : List Lit) (a b : Option Name) (ns : List ℕ) → JoinsAll (place_lits lines singles) a ns b
      → JoinsAll (done ++ place_lits lines (map first_of (lines_of_links singles ns))) a (links_in_order (length done) ns) b
  joins_in_order done a b [] h = h
  joins_in_order done a b (n ∷ ns) h =
      let m = line_at singles n in
      let l = lit_at lines (first_of m) in
      let rest = place_lits lines (map first_of (lines_of_links singles ns)) in (
        h.0,
        record { lit = h.1.lit; at = placed lines done rest m (Ptr h.1.lit) (line_found n (Ptr h.1.lit) h.1.at).is; same = h.1.same; ends = h.1.ends },
        subst (λ p. JoinsAll p h.0 (links_in_order (suc (length done)) ns) b) (append_assoc done (l ∷ []) rest)
            (subst (λ k. JoinsAll ((done ++ l ∷ []) ++ rest) h.0 (links_in_order k ns) b) (one_more done l) (joins_in_order (done ++ l ∷ []) h.0 b ns h.2)),
      )

  pub steps_close : (steps : List Step) → IsValidIdx (place_lits lines singles) steps → IsClosed lines (splits_of (lines_of_steps singles steps) ++ Leaf (IdxLeaf (steps_in_order 0 steps)) ∷ [])
  steps_close steps h =
      singles_closed lines (lines_of_steps singles steps) (IdxLeaf (steps_in_order 0 steps)) (step_singles steps h.rows h.are_rows)
      (record { rows = h.rows; are_rows = rows_in_order [] steps h.rows h.are_rows; start = h.start; cycle = h.cycle; below = h.below })

  pub shares_close : (shares : List Share) → IsValidNum (place_lits lines singles) shares → IsClosed lines (splits_of (lines_of_shares singles shares) ++ Leaf (NumLeaf (shares_in_order 0 shares)) ∷ [])
  shares_close shares h =
      singles_closed lines (lines_of_shares singles shares) (NumLeaf (shares_in_order 0 shares)) (share_singles shares h.taken h.are_taken)
      (record { taken = h.taken; are_taken = taken_in_order [] shares h.taken h.are_taken; rising = rising_in_order 0 shares; nothing = h.nothing; bound = h.bound })

  pub links_close : (ne : ℕ) (links : List ℕ) → IsValidPtr (place_lits lines singles) ne links → IsClosed lines (splits_of (line_at singles ne ∷ lines_of_links singles links) ++ Leaf (PtrLeaf 1 (links_in_order 1 links)) ∷ [])
  links_close ne links h =
      let n = line_at singles ne in
      let l = lit_at lines (first_of n) in
      let f = line_found ne (Ptr h.lit) h.at in
      let rest = place_lits lines (map first_of (lines_of_links singles links)) in
      singles_closed lines (n ∷ lines_of_links singles links) (PtrLeaf 1 (links_in_order 1 links)) (f.within, f.only, link_singles h.lit.left h.lit.right links h.joined)
      (record { lit = h.lit; at = placed lines [] rest n (Ptr h.lit) f.is; apart = h.apart; joined = joins_in_order (l ∷ []) h.lit.left h.lit.right links h.joined })

-- ---- one node and one step, share or equality more
pub more_splits : {A : Type 0} (f : A → ℕ) (xs : List A) (tree more : List Node) (i : ℕ) (d : A) (n : ℕ) → i < length xs → n ≡ f (get_or xs i d) → more ≡ tree ++ Split n ∷ []
    → tree ≡ map Split (map f (take i xs)) → more ≡ map Split (map f (take (i + 1) xs))
more_splits f xs tree more i d n b e m h =
    m ∙ (λ j. h j ++ Split (e j) ∷ []) ∙ sym (map-append Split (map f (take i xs)) (f (get_or xs i d) ∷ []))
    ∙ ap (map Split) (sym (map-append f (take i xs) (get_or xs i d ∷ [])) ∙ ap (map f) (sym (take_more xs i d b)))

steps-push : (n : ℕ) (ss : List Step) (s : Step) → steps_in_order n (ss ++ s ∷ []) ≡ steps_in_order n ss ++ record { lit = suc (n + length ss); forward = s.forward } ∷ []
steps-push n [] s = let e : suc n ≡ suc (n + 0) = omega arith in ap (λ k. record { lit = k; forward = s.forward } ∷ []) e
steps-push n (t ∷ ss) s =
    let e : suc (suc n + length ss) ≡ suc (n + suc (length ss)) = omega arith in
    ap (λ q. record { lit = suc n; forward = t.forward } ∷ q) (steps-push (suc n) ss s ∙ ap (λ k. steps_in_order (suc n) ss ++ record { lit = k; forward = s.forward } ∷ []) e)

pub more_steps : (steps old more : List Step) (i : ℕ) (d t : Step) → i < length steps → t ≡ record { lit = i + 1; forward = (get_or steps i d).forward } → more ≡ old ++ t ∷ []
    → old ≡ steps_in_order 0 (take i steps) → more ≡ steps_in_order 0 (take (i + 1) steps)
more_steps steps old more i d t b e m h =
    let s = get_or steps i d in
    let n : length (take i steps) ≡ i = length-take-le i steps (omega (arith, b)) in
    let k : i + 1 ≡ suc (0 + length (take i steps)) = omega (arith, n) in
    m ∙ (λ j. h j ++ (e ∙ ap (λ k. record { lit = k; forward = s.forward }) k) j ∷ []) ∙ sym (steps-push 0 (take i steps) s) ∙ ap (steps_in_order 0) (sym (take_more steps i d b))

shares-push : (n : ℕ) (ss : List Share) (s : Share) → shares_in_order n (ss ++ s ∷ []) ≡ shares_in_order n ss ++ record { lit = suc (n + length ss); times = s.times } ∷ []
shares-push n [] s = let e : suc n ≡ suc (n + 0) = omega arith in ap (λ k. record { lit = k; times = s.times } ∷ []) e
shares-push n (t ∷ ss) s =
    let e : suc (suc n + length ss) ≡ suc (n + suc (length ss)) = omega arith in
    ap (λ q. record { lit = suc n; times = t.times } ∷ q) (shares-push (suc n) ss s ∙ ap (λ k. shares_in_order (suc n) ss ++ record { lit = k; times = s.times } ∷ []) e)

pub more_shares : (shares old more : List Share) (i : ℕ) (d t : Share) → i < length shares → t ≡ record { lit = i + 1; times = (get_or shares i d).times } → more ≡ old ++ t ∷ []
    → old ≡ shares_in_order 0 (take i shares) → more ≡ shares_in_order 0 (take (i + 1) shares)
more_shares shares old more i d t b e m h =
    let s = get_or shares i d in
    let n : length (take i shares) ≡ i = length-take-le i shares (omega (arith, b)) in
    let k : i + 1 ≡ suc (0 + length (take i shares)) = omega (arith, n) in
    m ∙ (λ j. h j ++ (e ∙ ap (λ k. record { lit = k; times = s.times }) k) j ∷ []) ∙ sym (shares-push 0 (take i shares) s) ∙ ap (shares_in_order 0) (sym (take_more shares i d b))

-- the same behind a first split
pub splits_after : {A : Type 0} (f : A → ℕ) (first : ℕ) (xs : List A) (tree more : List Node) (i : ℕ) (d : A) (n : ℕ) → i < length xs → n ≡ f (get_or xs i d) → more ≡ tree ++ Split n ∷ []
    → tree ≡ map Split (first ∷ map f (take i xs)) → more ≡ map Split (first ∷ map f (take (i + 1) xs))
splits_after f first xs tree more i d n b e m h =
    m ∙ (λ j. h j ++ Split (e j) ∷ [])
    ∙ ap (λ q. Split first ∷ q) (more_splits f xs (map Split (map f (take i xs))) (map Split (map f (take i xs)) ++ Split (f (get_or xs i d)) ∷ []) i d (f (get_or xs i d)) b refl refl refl)

links-push : (n : ℕ) (ls : List ℕ) (x : ℕ) → links_in_order n (ls ++ x ∷ []) ≡ links_in_order n ls ++ suc (n + length ls) ∷ []
links-push n [] x = let e : suc n ≡ suc (n + 0) = omega arith in ap (λ k. k ∷ []) e
links-push n (l ∷ ls) x =
    let e : suc (suc n + length ls) ≡ suc (n + suc (length ls)) = omega arith in
    ap (λ q. suc n ∷ q) (links-push (suc n) ls x ∙ ap (λ k. links_in_order (suc n) ls ++ k ∷ []) e)

pub more_links : (links old more : List ℕ) (i t : ℕ) → i < length links → t ≡ i + 2 → more ≡ old ++ t ∷ [] → old ≡ links_in_order 1 (take i links) → more ≡ links_in_order 1 (take (i + 1) links)
more_links links old more i t b e m h =
    let n : length (take i links) ≡ i = length-take-le i links (omega (arith, b)) in
    let k : i + 2 ≡ suc (1 + length (take i links)) = omega (arith, n) in
    m ∙ (λ j. h j ++ (e ∙ k) j ∷ []) ∙ sym (links-push 1 (take i links) (get_or links i 0)) ∙ ap (links_in_order 1) (sym (take_more links i 0 b))
