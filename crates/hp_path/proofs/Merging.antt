-- Labels that are merged: names of one label keep one.
use Rattle.std.proofs.Common.{◌≡◌, ℕ, zero, suc, ◌+◌, ◌<◌, ◌≤◌, ◌++◌, inl, inr, refl, sym, ◌∙◌, ap, subst, arith, List, [], ◌∷◌, length, map, get_or, cond, take, drop, set, Some, append_assoc}
use Rattle.std.specs.Prelude.{slice_get}
use Rattle.std.specs.List.{All, Contains}
use Rattle.std.proofs.lemmas.Bool.{cases_eq, eq-eqb, ne_eqb}
use Rattle.std.proofs.lemmas.List.{drop_more, get_or-map, length-map, length-take-le, map_more, set_at, take_all}
use Rattle.std.proofs.lemmas.List.Elements.{All-contains, All-contains_itself, All-head, All-map, All-nil, All-weaker, All-more, All-take, Contains-get_or}
use Rattle.hp_tree.specs.declared.problem.Sort.{Sort}
use Rattle.hp_tree.specs.declared.problem.Sort.TheVariants as sort
use Rattle.hp_lit.specs.declared.literal.Part.{Part}
use Rattle.hp_lit.specs.declared.literal.NumLit.{NumLit}
use Rattle.hp_lit.specs.Fit.{IsNumOver}
use Rattle.hp_path.specs.Components.{AreLabels, AreNamesOf, IsCoarser, IsOneLabel, first_label, label_at, merged}

-- ---- coarser labels
pub coarser_same : (labels : List ℕ) → IsCoarser labels labels
coarser_same labels = record { count = refl; keeps = λ m n a b e. e; labels = All-contains_itself labels }

pub coarser_then : (a b c : List ℕ) → IsCoarser a b → IsCoarser b c → IsCoarser a c
coarser_then a b c g h = record {
  count = h.count ∙ g.count;
  keeps = λ m n i j e. h.keeps m n (subst (λ k. m < k) (sym g.count) i) (subst (λ k. n < k) (sym g.count) j) (g.keeps m n i j e);
  labels = All-weaker (Contains b) (Contains a) (λ x d. All-contains (Contains a) b x g.labels d) c h.labels;
}

pub names_after : (a b : List ℕ) (parts : List Part) → IsCoarser a b → AreNamesOf a parts → AreNamesOf b parts
names_after a b parts g h = subst (λ n. All (λ (p : Part). p.name.0 < n) parts) (sym g.count) h

pub one_after : (a b : List ℕ) (parts : List Part) → IsCoarser a b → AreNamesOf a parts → IsOneLabel a parts → IsOneLabel b parts
one_after a b [] g n h = All-nil _
one_after a b (p ∷ ps) g n h = λ k d l.
    g.keeps (get_or (p ∷ ps) k d).name.0 p.name.0 (n k d l) (All-head (λ (q : Part). q.name.0 < length a) p ps n) (h k d l)

pub below_after : (a b : List ℕ) → IsCoarser a b → All (λ label. label < length a) a → All (λ label. label < length b) b
below_after a b g h = subst (λ n. All (λ label. label < n) b) (sym g.count) (All-weaker (Contains a) (λ label. label < length a) (λ x c. All-contains (λ label. label < length a) a x h c) b g.labels)

-- ---- one label for two
at_merged : (labels : List ℕ) (kept gone n : ℕ) → n < length labels → label_at (map (merged kept gone) labels) n ≡ merged kept gone (label_at labels n)
at_merged labels kept gone n l = get_or-map (merged kept gone) labels n 0 0 l

pub merged_gone : (kept gone : ℕ) → merged kept gone gone ≡ kept
merged_gone kept gone = ap (λ b. cond b kept gone) (eq-eqb gone gone refl)

pub merged_kept : (kept gone : ℕ) → merged kept gone kept ≡ kept
merged_kept kept gone = elim (cases_eq kept gone) [
  | inl e ↦ ap (λ b. cond b kept kept) (eq-eqb kept gone e)
  | inr n ↦ ap (λ b. cond b kept kept) (ne_eqb kept gone n)
]

merged_self : (labels : List ℕ) (k : ℕ) → map (merged k k) labels ≡ labels
merged_self [] k = refl
merged_self (x ∷ xs) k =
    let first : merged k k x ≡ x = elim (cases_eq x k) [
      | inl e ↦ ap (λ b. cond b k x) (eq-eqb x k e) ∙ sym e
      | inr n ↦ ap (λ b. cond b k x) (ne_eqb x k n)
    ] in
    (λ i. first i ∷ merged_self xs k i)

pub merged_same : (labels : List ℕ) (kept gone : ℕ) → kept ≡ gone → map (merged kept gone) labels ≡ labels
merged_same labels kept gone e = ap (λ k. map (merged k gone) labels) e ∙ merged_self labels gone

pub merge_coarser : (labels : List ℕ) (kept gone : ℕ) → Contains labels kept → IsCoarser labels (map (merged kept gone) labels)
merge_coarser labels kept gone c = record {
  count = length-map labels (merged kept gone);
  keeps = λ m n i j e. at_merged labels kept gone m i ∙ ap (merged kept gone) e ∙ sym (at_merged labels kept gone n j);
  labels = All-map (Contains labels) (merged kept gone) labels (λ k d l. either (get_or labels k d) (Contains-get_or labels k d l));
}
  where
    either : (x : ℕ) → Contains labels x → Contains labels (merged kept gone x)
    either x h = elim (cases_eq x gone) [
      | inl e ↦ subst (Contains labels) (sym (ap (λ b. cond b kept x) (eq-eqb x gone e))) c
      | inr n ↦ subst (Contains labels) (sym (ap (λ b. cond b kept x) (ne_eqb x gone n))) h
    ]

-- the first label, where there is a summand
pub has_first : (labels : List ℕ) (parts : List Part) (i : ℕ) → AreNamesOf labels parts → i < length parts → Contains labels (first_label labels parts)
has_first labels [] i n l = absurd (omega arith)
has_first labels (p ∷ ps) i n l = Contains-get_or labels p.name.0 0 (All-head (λ (q : Part). q.name.0 < length labels) p ps n)

first_merged : (labels : List ℕ) (parts : List Part) (kept gone i : ℕ) → AreNamesOf labels parts → i < length parts → first_label (map (merged kept gone) labels) parts ≡ merged kept gone (first_label labels parts)
first_merged labels [] kept gone i n l = absurd (omega arith)
first_merged labels (p ∷ ps) kept gone i n l = at_merged labels kept gone p.name.0 (All-head (λ (q : Part). q.name.0 < length labels) p ps n)

-- the summands before i have the label of the first
abbrev pub IsOneTo : List ℕ → List Part → ℕ → Type 0
IsOneTo labels parts i = All (λ p. label_at labels p.name.0 ≡ first_label labels parts) (take i parts)

names_to : (labels : List ℕ) (parts : List Part) (i : ℕ) → AreNamesOf labels parts → All (λ p. p.name.0 < length labels) (take i parts)
names_to labels parts i n = All-take (λ p. p.name.0 < length labels) i parts n

pub one_more : (labels new : List ℕ) (parts : List Part) (i : ℕ) (d : Part) → AreNamesOf labels parts → i < length parts → IsOneTo labels parts i
    → new ≡ map (merged (first_label labels parts) (label_at labels (get_or parts i d).name.0)) labels → IsOneTo new parts (i + 1)
one_more labels new parts i d n l h e =
    let kept = first_label labels parts in
    let gone = label_at labels (get_or parts i d).name.0 in
    let f = merged kept gone in
    let first : first_label (map f labels) parts ≡ kept = first_merged labels parts kept gone i n l ∙ merged_kept kept gone in
    let P = λ (p : Part). label_at (map f labels) p.name.0 ≡ first_label (map f labels) parts in
    let old : All P (take i parts) = (λ k c b. at_merged labels kept gone (get_or (take i parts) k c).name.0 (names_to labels parts i n k c b) ∙ ap f (h k c b) ∙ merged_kept kept gone ∙ sym first) in
    subst (λ ls. IsOneTo ls parts (i + 1)) (sym e) (All-more P parts i d l old (at_merged labels kept gone (get_or parts i d).name.0 (n i d l) ∙ merged_gone kept gone ∙ sym first))

-- ---- the names of literals
pub within_sorts : (ss : List Sort) (n : ℕ) (t : Sort) → slice_get ss n ≡ Some t → n < length ss
within_sorts [] n t s = cc
within_sorts (u ∷ us) zero t s = omega arith
within_sorts (u ∷ us) (suc n) t s = omega (arith, within_sorts us n t s)

pub names_of_labels : (ss : List Sort) (labels : List ℕ) (l : NumLit) → length labels ≡ length ss → IsNumOver ss l → AreNamesOf labels l.parts
names_of_labels ss labels l e h = λ k d b. subst (λ n. (get_or l.parts k d).name.0 < n) (sym e) (within_sorts ss (get_or l.parts k d).name.0 sort.Num (h.names k d b))

-- ---- one label more looked at
slice_at : (p ys : List ℕ) (y n : ℕ) → length p ≡ n → slice_get (p ++ y ∷ ys) n ≡ Some y
slice_at [] ys y n e = subst (λ k. slice_get (y ∷ ys) k ≡ Some y) e refl
slice_at (x ∷ xs) ys y zero e = absurd (omega arith)
slice_at (x ∷ xs) ys y (suc n) e = slice_at xs ys y n (omega arith)

module _ (f : ℕ → ℕ) (ls now : List ℕ) (i x : ℕ) (l : i < length ls) (h : now ≡ map f (take i ls) ++ drop i ls) (g : slice_get now i ≡ Some x) where
  before : length (map f (take i ls)) ≡ i
  before = length-map (take i ls) f ∙ length-take-le i ls (omega arith)

  rest : drop i ls ≡ get_or ls i 0 ∷ drop (i + 1) ls
  rest = drop_more ls i 0 l

  now_is : now ≡ map f (take i ls) ++ get_or ls i 0 ∷ drop (i + 1) ls
  now_is = h ∙ ap (λ r. map f (take i ls) ++ r) rest

  is_label : get_or ls i 0 ≡ x
  is_label =
      let e : slice_get now i ≡ Some (get_or ls i 0) = subst (λ v. slice_get v i ≡ Some (get_or ls i 0)) (sym now_is) (slice_at (map f (take i ls)) (drop (i + 1) ls) (get_or ls i 0) i before) in
      cc

  next : map f (take i ls) ++ f x ∷ drop (i + 1) ls ≡ map f (take (i + 1) ls) ++ drop (i + 1) ls
  next =
      ap (λ y. map f (take i ls) ++ f y ∷ drop (i + 1) ls) (sym is_label)
      ∙ sym (append_assoc (map f (take i ls)) (f (get_or ls i 0) ∷ []) (drop (i + 1) ls))
      ∙ ap (λ r. r ++ drop (i + 1) ls) (sym (map_more f ls i 0 l))

  pub label_kept : f x ≡ x → now ≡ map f (take (i + 1) ls) ++ drop (i + 1) ls
  label_kept e = now_is ∙ ap (λ y. map f (take i ls) ++ y ∷ drop (i + 1) ls) (is_label ∙ sym e) ∙ next

  pub label_set : (a : ℕ) → a ≡ f x → set now i a ≡ map f (take (i + 1) ls) ++ drop (i + 1) ls
  label_set a e =
      (λ k. set (now_is k) i (e k)) ∙ set_at (map f (take i ls)) (get_or ls i 0) (drop (i + 1) ls) (f x) i before ∙ next

pub merged_other : (kept gone x : ℕ) → (x ≡ gone → ⊥) → merged kept gone x ≡ x
merged_other kept gone x n = ap (λ b. cond b kept x) (ne_eqb x gone n)

-- ---- one summand and one literal more
label_read : (labels : List ℕ) (n x : ℕ) → slice_get labels n ≡ Some x → label_at labels n ≡ x
label_read [] n x h = cc
label_read (y ∷ ys) zero x h = cc
label_read (y ∷ ys) (suc n) x h = label_read ys n x h

pub part_joined : (old labels new : List ℕ) (parts : List Part) (i : ℕ) (d : Part) (kept gone : ℕ) → AreNamesOf old parts → i < length parts → IsCoarser old labels × IsOneTo labels parts i
    → kept ≡ first_label labels parts → slice_get labels (get_or parts i d).name.0 ≡ Some gone → new ≡ map (merged kept gone) labels → IsCoarser old new × IsOneTo new parts (i + 1)
part_joined old labels new parts i d kept gone n l h e g s =
    let names = names_after old labels parts h.0 n in
    let at : label_at labels (get_or parts i d).name.0 ≡ gone = label_read labels (get_or parts i d).name.0 gone g in
    let same : new ≡ map (merged (first_label labels parts) (label_at labels (get_or parts i d).name.0)) labels = s ∙ (λ j. map (merged (e j) (sym at j)) labels) in (
      subst (IsCoarser old) (sym s) (coarser_then old labels (map (merged kept gone) labels) h.0 (merge_coarser labels kept gone (subst (Contains labels) (sym e) (has_first labels parts i names l)))),
      one_more labels new parts i d names l h.1 same,
    )

pub lit_joined : (ss : List Sort) (nums : List NumLit) (labels new : List ℕ) (i : ℕ) (d : NumLit) → All (IsNumOver ss) nums → i < length nums → length labels ≡ length ss
    → All (λ num. IsOneLabel labels num.parts) (take i nums) → IsCoarser labels new → IsOneLabel new (get_or nums i d).parts → All (λ num. IsOneLabel new num.parts) (take (i + 1) nums)
lit_joined ss nums labels new i d h l e old g own =
    All-more (λ (num : NumLit). IsOneLabel new num.parts) nums i d l
    (λ k c b. one_after labels new (get_or (take i nums) k c).parts g (names_of_labels ss labels (get_or (take i nums) k c) e (All-take (IsNumOver ss) i nums h k c b)) (old k c b))
    own

pub are_labels : (ss : List Sort) (nums : List NumLit) (labels : List ℕ) (i : ℕ) → All (IsNumOver ss) nums → length nums ≤ i → length labels ≡ length ss
    → All (λ num. IsOneLabel labels num.parts) (take i nums) → All (λ label. label < length labels) labels → AreLabels labels nums
are_labels ss nums labels i h l e one below = record {
  names = λ k d b. names_of_labels ss labels (get_or nums k d) e (h k d b);
  one = subst (All (λ (num : NumLit). IsOneLabel labels num.parts)) (take_all i nums l) one;
  below = below;
}
