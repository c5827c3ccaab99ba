-- The lines that are marked are those that the tree splits, and their entries rise.
use Rattle.std.proofs.Common.{◌≡◌, ℕ, zero, suc, ◌-◌, ◌<◌, ◌≤◌, ◌⊎◌, List, [], ◌∷◌, ◌++◌, length, map, Bool, true, false, if◌then◌else◌, get_or, set, replicate, arith, ap, sym, subst, refl, ◌∙◌, append-nil, inl, inr}
use Rattle.std.specs.List.{All, Contains}
use Rattle.std.proofs.lemmas.Bool.{true≢false}
use Rattle.std.proofs.lemmas.List.{length-replicate, map-append, get_or-set_same, length-set}
use Rattle.std.proofs.lemmas.List.Elements.{All-nil, All-cons, All-head, All-tail, All-append, All-contains, Contains-push, Contains-push_cases, Contains-append_left}
use Rattle.hp_defs.specs.declared.names.Ground.{Ground}
use Rattle.hp_defs.specs.Names.{NameList}
use Rattle.hp_leaf.specs.declared.tree.Node.{Node}
use Rattle.hp_leaf.specs.declared.tree.Node.TheVariants.{Split, Leaf, Unopened}
use Rattle.hp_leaf.specs.Tree.{IsLine, IsClosed}
use Rattle.hp_cert.specs.declared.refutation.Entry.{Entry}
use Rattle.hp_cert.specs.declared.refutation.Refutation.{Refutation}
use Rattle.hp_cert.specs.Lines.{line_text, def_text}
use Rattle.hp_cert.specs.Entries.{entry_number, first_defs, all_defs, RisesFrom, IsLineOf, AreSplitLines, SplitsLine, with_mark, with_marks, marked_lines}
use Rattle.hp_cert.specs.Refutes.{IsDefOf, SplitsListed, Refutes}

-- ---- marks

length_mark : (marks : List Bool) (node : Node) → length (with_mark marks node) ≡ length marks
length_mark marks (Split line) = length-set marks (line - 1) true
length_mark marks (Leaf proof) = refl
length_mark marks Unopened = refl

pub length_marks : (marks : List Bool) (nodes : List Node) → length (with_marks marks nodes) ≡ length marks
length_marks marks [] = refl
length_marks marks (node ∷ nodes) = length_marks (with_mark marks node) nodes ∙ length_mark marks node

set_stays : (marks : List Bool) (at n : ℕ) → get_or marks n false ≡ true → get_or (set marks at true) n false ≡ true
set_stays [] at n h = h
set_stays (m ∷ ms) zero zero h = refl
set_stays (m ∷ ms) zero (suc n) h = h
set_stays (m ∷ ms) (suc at) zero h = h
set_stays (m ∷ ms) (suc at) (suc n) h = set_stays ms at n h

set_only : (marks : List Bool) (at n : ℕ) → get_or (set marks at true) n false ≡ true → (get_or marks n false ≡ true) ⊎ (at ≡ n)
set_only [] at n h = inl h
set_only (m ∷ ms) zero zero h = inr refl
set_only (m ∷ ms) zero (suc n) h = inl h
set_only (m ∷ ms) (suc at) zero h = inl h
set_only (m ∷ ms) (suc at) (suc n) h = elim (set_only ms at n h) [ inl a ↦ inl a | inr e ↦ inr (ap suc e) ]

mark_stays : (marks : List Bool) (node : Node) (n : ℕ) → get_or marks n false ≡ true → get_or (with_mark marks node) n false ≡ true
mark_stays marks (Split line) n h = set_stays marks (line - 1) n h
mark_stays marks (Leaf proof) n h = h
mark_stays marks Unopened n h = h

marks_stay : (marks : List Bool) (nodes : List Node) (n : ℕ) → get_or marks n false ≡ true → get_or (with_marks marks nodes) n false ≡ true
marks_stay marks [] n h = h
marks_stay marks (node ∷ nodes) n h = marks_stay (with_mark marks node) nodes n (mark_stays marks node n h)

-- the first of a list, or one of the others
contains_cases : {X : Type 0} (x : X) (xs : List X) (y : X) → Contains (x ∷ xs) y → (x ≡ y) ⊎ Contains xs y
contains_cases x xs y (zero, h, e) = inl e
contains_cases x xs y (suc k, h, e) = inr (k, omega (arith, h), e)

pub contains_first : {X : Type 0} (x : X) (xs : List X) (y : X) → x ≡ y → Contains (x ∷ xs) y
contains_first x xs y e = (0, omega arith, e)

pub contains_later : {X : Type 0} (x : X) (xs : List X) (y : X) → Contains xs y → Contains (x ∷ xs) y
contains_later x xs y (k, h, e) = (suc k, omega (arith, h), e)

split_is_marked : (marks : List Bool) (nodes : List Node) (n : ℕ) → n < length marks → Contains nodes (Split (suc n)) → get_or (with_marks marks nodes) n false ≡ true
split_is_marked marks [] n h c = absurd (omega (arith, c.1))
split_is_marked marks (node ∷ nodes) n h c = elim (contains_cases node nodes (Split (suc n)) c) [
  | inl e ↦ marks_stay (with_mark marks node) nodes n (subst (λ x. get_or (with_mark marks x) n false ≡ true) (sym e) (let at : suc n - 1 ≡ n = omega arith in subst (λ k. get_or (set marks k true) n false ≡ true) (sym at) (get_or-set_same marks n true false h)))
  | inr c ↦ split_is_marked (with_mark marks node) nodes n (omega (arith, h, length_mark marks node)) c
]

marked_by : (g : Ground) (marks : List Bool) (node : Node) (nodes : List Node) (n : ℕ) → SplitsLine g node → get_or (with_mark marks node) n false ≡ true → (get_or marks n false ≡ true) ⊎ Contains (node ∷ nodes) (Split (suc n))
marked_by g marks (Split line) nodes n s h = elim (set_only marks (line - 1) n h) [
  | inl a ↦ inl a
  | inr e ↦ inr (contains_first (Split line) nodes (Split (suc n)) (ap Split (omega (arith, e, s.0))))
]
marked_by g marks (Leaf proof) nodes n s h = inl h
marked_by g marks Unopened nodes n s h = inl h

marked_is_split : (g : Ground) (marks : List Bool) (nodes : List Node) (n : ℕ) → All (SplitsLine g) nodes → get_or (with_marks marks nodes) n false ≡ true → (get_or marks n false ≡ true) ⊎ Contains nodes (Split (suc n))
marked_is_split g marks [] n s h = inl h
marked_is_split g marks (node ∷ nodes) n s h = elim (marked_is_split g (with_mark marks node) nodes n (All-tail (SplitsLine g) node nodes s) h) [
  | inl a ↦ marked_by g marks node nodes n (All-head (SplitsLine g) node nodes s) a
  | inr c ↦ inr (contains_later node nodes (Split (suc n)) c)
]

-- ---- the entries of marked lines

-- numbers rise from above one bound to below another
abbrev pub RisesWithin : ℕ → List ℕ → ℕ → Type 0
RisesWithin low [] high = low < high
RisesWithin low (n ∷ ns) high = (low < n) × RisesWithin n ns high

rises_wider : (low : ℕ) (ns : List ℕ) (high : ℕ) → RisesWithin low ns high → RisesWithin low ns (suc high)
rises_wider low [] high h = omega (arith, h)
rises_wider low (n ∷ ns) high h = (h.0, rises_wider n ns high h.1)

rises_more : (low : ℕ) (ns : List ℕ) (high : ℕ) → RisesWithin low ns high → RisesWithin low (ns ++ high ∷ []) (suc high)
rises_more low [] high h = (h, omega arith)
rises_more low (n ∷ ns) high h = (h.0, rises_more n ns high h.1)

pub rises : (low : ℕ) (ns : List ℕ) (high : ℕ) → RisesWithin low ns high → RisesFrom low ns
rises low [] high h = tt
rises low (n ∷ ns) high h = (h.0, rises n ns high h.1)

abbrev pub numbers : List Entry → List ℕ
numbers entries = map entry_number entries

-- one entry more, or none
abbrev with_entry : List Entry → Bool → Entry → List Entry
with_entry entries more entry = entries ++ (if more then entry ∷ [] else [])

rises_step : (entries : List Entry) (more : Bool) (entry : Entry) → RisesWithin 0 (numbers entries) entry.number → RisesWithin 0 (numbers (with_entry entries more entry)) (suc entry.number)
rises_step entries true entry h = subst (λ ns. RisesWithin 0 ns (suc entry.number)) (sym (map-append entry_number entries (entry ∷ []))) (rises_more 0 (numbers entries) entry.number h)
rises_step entries false entry h = subst (λ es. RisesWithin 0 (numbers es) (suc entry.number)) (sym (append-nil entries)) (rises_wider 0 (numbers entries) entry.number h)

lines_rise : (g : Ground) (marks : List Bool) (n : ℕ) → RisesWithin 0 (numbers (marked_lines g marks n)) (suc n)
lines_rise g marks zero = omega arith
lines_rise g marks (suc n) = rises_step (marked_lines g marks n) (get_or marks n false) (record { number = suc n; text = line_text g (suc n) }) (lines_rise g marks n)

step_cases : (entries : List Entry) (more : Bool) (entry : Entry) (k : ℕ) → Contains (numbers (with_entry entries more entry)) k → Contains (numbers entries) k ⊎ ((more ≡ true) × (entry.number ≡ k))
step_cases entries true entry k c = elim (Contains-push_cases (numbers entries) entry.number k (subst (λ ns. Contains ns k) (map-append entry_number entries (entry ∷ [])) c)) [ inl a ↦ inl a | inr e ↦ inr (refl, e) ]
step_cases entries false entry k c = inl (subst (λ es. Contains (numbers es) k) (append-nil entries) c)

step_keeps : (entries : List Entry) (more : Bool) (entry : Entry) (k : ℕ) → Contains (numbers entries) k → Contains (numbers (with_entry entries more entry)) k
step_keeps entries more entry k c = subst (λ ns. Contains ns k) (sym (map-append entry_number entries (if more then entry ∷ [] else []))) (Contains-append_left (numbers entries) _ k c)

step_adds : (entries : List Entry) (more : Bool) (entry : Entry) → more ≡ true → Contains (numbers (with_entry entries more entry)) entry.number
step_adds entries true entry e = subst (λ ns. Contains ns entry.number) (sym (map-append entry_number entries (entry ∷ []))) (Contains-push (numbers entries) entry.number)
step_adds entries false entry e = absurd (true≢false (sym e))

step_holds : (P : Entry → Type 0) (entries : List Entry) (more : Bool) (entry : Entry) → All P entries → P entry → All P (with_entry entries more entry)
step_holds P entries true entry a p = All-append P entries (entry ∷ []) a (All-cons P entry [] p (All-nil P))
step_holds P entries false entry a p = All-append P entries [] a (All-nil P)

last_or_before : (n m : ℕ) → m < suc n → (m < n) ⊎ (m ≡ n)
last_or_before n m h = grind arith

-- a listed number is that of a marked line
listed_is_marked : (g : Ground) (marks : List Bool) (n k : ℕ) → Contains (numbers (marked_lines g marks n)) k → (m : ℕ) × (get_or marks m false ≡ true) × (suc m ≡ k)
listed_is_marked g marks zero k c = absurd (omega (arith, c.1))
listed_is_marked g marks (suc n) k c = elim (step_cases (marked_lines g marks n) (get_or marks n false) (record { number = suc n; text = line_text g (suc n) }) k c) [
  | inl a ↦ listed_is_marked g marks n k a
  | inr h ↦ (n, h.0, h.1)
]

marked_is_listed : (g : Ground) (marks : List Bool) (n m : ℕ) → m < n → get_or marks m false ≡ true → Contains (numbers (marked_lines g marks n)) (suc m)
marked_is_listed g marks zero m h t = absurd (omega (arith, h))
marked_is_listed g marks (suc n) m h t = elim (last_or_before n m h) [
  | inl l ↦ step_keeps (marked_lines g marks n) (get_or marks n false) (record { number = suc n; text = line_text g (suc n) }) (suc m) (marked_is_listed g marks n m l t)
  | inr e ↦ subst (λ k. Contains (numbers (marked_lines g marks (suc n))) (suc k)) (sym e) (step_adds (marked_lines g marks n) (get_or marks n false) (record { number = suc n; text = line_text g (suc n) }) (subst (λ k. get_or marks k false ≡ true) e t))
]

lines_are_lines : (g : Ground) (marks : List Bool) (n : ℕ) → n ≤ length g.lines → All (IsLineOf g) (marked_lines g marks n)
lines_are_lines g marks zero h = All-nil (IsLineOf g)
lines_are_lines g marks (suc n) h = step_holds (IsLineOf g) (marked_lines g marks n) (get_or marks n false) (record { number = suc n; text = line_text g (suc n) }) (lines_are_lines g marks n (omega (arith, h))) ((omega arith, h), refl)

-- ---- what `entries` lists

none_marked : (count n : ℕ) → get_or (replicate count false) n false ≡ false
none_marked zero n = refl
none_marked (suc count) zero = refl
none_marked (suc count) (suc n) = none_marked count n

listed_is_split : (g : Ground) (tree : List Node) (marks : List Bool) → All (SplitsLine g) tree → marks ≡ with_marks (replicate (length g.lines) false) tree
    → (n : ℕ) → Contains (numbers (marked_lines g marks (length marks))) n → Contains tree (Split n)
listed_is_split g tree marks s e n c =
    let h = listed_is_marked g marks (length marks) n c in
    elim (marked_is_split g (replicate (length g.lines) false) tree h.0 s (subst (λ ms. get_or ms h.0 false ≡ true) e h.1)) [
      | inl a ↦ absurd (true≢false (sym a ∙ none_marked (length g.lines) h.0))
      | inr k ↦ subst (λ n. Contains tree (Split n)) h.2 k
    ]

pub count_marks : (g : Ground) (tree : List Node) → length (with_marks (replicate (length g.lines) false) tree) ≡ length g.lines
count_marks g tree = length_marks (replicate (length g.lines) false) tree ∙ length-replicate (length g.lines) false

split_is_listed : (g : Ground) (tree : List Node) (marks : List Bool) → All (SplitsLine g) tree → marks ≡ with_marks (replicate (length g.lines) false) tree
    → (n : ℕ) → Contains tree (Split n) → Contains (numbers (marked_lines g marks (length marks))) n
split_is_listed g tree marks s e zero c = let line : IsLine g.lines zero = All-contains (SplitsLine g) tree (Split zero) s c in absurd (omega (arith, line.0))
split_is_listed g tree marks s e (suc m) c =
    let line : IsLine g.lines (suc m) = All-contains (SplitsLine g) tree (Split (suc m)) s c in
    marked_is_listed g marks (length marks) m (omega (arith, line.1, ap length e, count_marks g tree))
    (subst (λ ms. get_or ms m false ≡ true) (sym e) (split_is_marked (replicate (length g.lines) false) tree m (omega (arith, line.1, length-replicate (length g.lines) false)) c))

pub split_lines : (g : Ground) (tree : List Node) (marks : List Bool) → All (SplitsLine g) tree → marks ≡ with_marks (replicate (length g.lines) false) tree
    → AreSplitLines g tree (marked_lines g marks (length marks))
split_lines g tree marks s e = record {
  rising = rises 0 (numbers (marked_lines g marks (length marks))) _ (lines_rise g marks (length marks));
  split = λ n. (listed_is_split g tree marks s e n, split_is_listed g tree marks s e n);
  texts = lines_are_lines g marks (length marks) (omega (arith, ap length e, count_marks g tree));
}

pub defs_rise : (names : NameList) (n : ℕ) → RisesWithin 0 (numbers (first_defs names n)) (suc n)
defs_rise names zero = omega arith
defs_rise names (suc n) = rises_step (first_defs names n) true (record { number = suc n; text = def_text names (suc n) }) (defs_rise names n)

pub defs_are_defs : (names : NameList) (n : ℕ) → n ≤ length names.definitions → All (IsDefOf names) (first_defs names n)
defs_are_defs names zero h = All-nil (IsDefOf names)
defs_are_defs names (suc n) h = step_holds (IsDefOf names) (first_defs names n) true (record { number = suc n; text = def_text names (suc n) }) (defs_are_defs names n (omega (arith, h))) (omega arith, h, refl)

-- each split of some nodes is listed where all of their splits are
splits_listed : (listed : List ℕ) (nodes : List Node) → ((n : ℕ) → Contains nodes (Split n) → Contains listed n) → All (SplitsListed listed) nodes
splits_listed listed [] h = All-nil (SplitsListed listed)
splits_listed listed (node ∷ nodes) h = All-cons (SplitsListed listed) node nodes (one node (λ n e. h n (contains_first node nodes (Split n) e))) (splits_listed listed nodes (λ n c. h n (contains_later node nodes (Split n) c)))
  where
    one : (node : Node) → ((n : ℕ) → node ≡ Split n → Contains listed n) → SplitsListed listed node
    one (Split line) k = k line refl
    one (Leaf proof) k = tt
    one Unopened k = tt

pub refutes : (g : Ground) (r : Refutation) → r.defs ≡ all_defs g.names → AreSplitLines g r.tree r.lines → IsClosed g.lines r.tree → Refutes g r
refutes g r d l c = record {
  defs = subst (All (IsDefOf g.names)) (sym d) (defs_are_defs g.names (length g.names.definitions) (omega arith));
  lines = l.texts;
  splits = splits_listed (map entry_number r.lines) r.tree (λ n. (l.split n).1);
  closed = c;
}
