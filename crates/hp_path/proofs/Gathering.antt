-- The literals of one label, and values for all literals from values for those of each label.
use Rattle.std.proofs.Common.{◌≡◌, ℕ, zero, suc, ◌+◌, ◌<◌, ◌≤◌, ◌++◌, inl, inr, refl, sym, ◌∙◌, ap, subst, arith, List, [], ◌∷◌, length, length-append, map, get_or, cond, take, drop, set, Some, append_assoc, Bool, true, false, replicate}
use Rattle.std.specs.Prelude.{slice_get}
use Rattle.std.specs.List.{All, Contains, filter}
use Rattle.std.proofs.lemmas.Bool.{cases_eq, eq-eqb, eqb-true, ne_eqb}
use Rattle.std.proofs.lemmas.List.{append-nil, drop_all, get_or-set_other, get_or-set_same, length-replicate, length-set, take_all}
use Rattle.std.proofs.lemmas.List.Elements.{All-append, All-contains, All-cons, All-filter, All-head, All-map, All-more, All-nil, All-tail, All-weaker, filter_passes}
use Rattle.hp_tree.specs.declared.problem.Sort.{Sort}
use Rattle.hp_tree.specs.declared.problem.Sort.TheVariants as sort
use Rattle.hp_lit.specs.declared.literal.Part.{Part}
use Rattle.hp_lit.specs.declared.literal.NumLit.{NumLit}
use Rattle.hp_lit.specs.declared.literal.Lit.{Lit}
use Rattle.hp_lit.specs.declared.literal.Lit.TheVariants.{Num}
use Rattle.hp_lit.specs.declared.valuation.NameValue.{NameValue}
use Rattle.hp_lit.specs.Truth.{NumIsTrue}
use Rattle.hp_descent.specs.Columns.{columns, mentioned}
use Rattle.hp_lit.specs.Fit.{part_names}
use Rattle.hp_descent.specs.Answers.{IsSolution}
use Rattle.hp_descent.proofs.Rising.{columns_are_names}
use Rattle.hp_leaf.specs.Renumbered.{Stands, StandsFrom}
use Rattle.hp_path.specs.declared.components.Pace.{Pace}
use Rattle.hp_path.specs.Components.{AreLabels, AreSettled, AreSolved, IsGivenUp, IsOneLabel, first_label, has_label, is_done, label_at, label_of_last, places_with}
use Rattle.hp_path.specs.Placed.{AreSolving, HasValue}
use Rattle.hp_path.proofs.Places.{apart_append}
use Rattle.hp_path.proofs.Mixed.{All-left, All-right, names_all}

-- ---- one literal after the other
rest_at : {X : Type 0} (xs : List X) (i : ℕ) (x : X) → slice_get xs i ≡ Some x → drop i xs ≡ x ∷ drop (suc i) xs
rest_at [] i x h = cc
rest_at (y ∷ ys) zero x h = let e : y ≡ x = cc in ap (λ z. z ∷ ys) e
rest_at (y ∷ ys) (suc i) x h = rest_at ys i x h

rest_next : {X : Type 0} (xs : List X) (i : ℕ) (x : X) → slice_get xs i ≡ Some x → drop i xs ≡ x ∷ drop (i + 1) xs
rest_next xs i x h = let e : suc i ≡ i + 1 = omega arith in rest_at xs i x h ∙ ap (λ k. x ∷ drop k xs) e

module _ (labels : List ℕ) (label : ℕ) (nums : List NumLit) (places : List ℕ) (i : ℕ) (x : NumLit) (p : ℕ) (g : slice_get nums i ≡ Some x) where
  t : NumLit → Bool
  t l = has_label labels label l

  pub nums_with : (out more : List NumLit) → first_label labels x.parts ≡ label → more ≡ out ++ x ∷ [] → out ++ filter (has_label labels label) (drop i nums) ≡ filter (has_label labels label) nums
      → more ++ filter (has_label labels label) (drop (i + 1) nums) ≡ filter (has_label labels label) nums
  nums_with out more e m h =
      let f = filter (has_label labels label) in
      ap (λ r. r ++ f (drop (i + 1) nums)) m ∙ append_assoc out (x ∷ []) (f (drop (i + 1) nums))
      ∙ ap (λ b. out ++ cond b (x ∷ f (drop (i + 1) nums)) (f (drop (i + 1) nums))) (sym (eq-eqb (first_label labels x.parts) label e))
      ∙ ap (λ r. out ++ f r) (sym (rest_next nums i x g)) ∙ h

  pub places_more : (out more : List ℕ) → slice_get places i ≡ Some p → first_label labels x.parts ≡ label → more ≡ out ++ p ∷ []
      → out ++ places_with labels label (drop i nums) (drop i places) ≡ places_with labels label nums places
      → more ++ places_with labels label (drop (i + 1) nums) (drop (i + 1) places) ≡ places_with labels label nums places
  places_more out more k e m h =
      let r = places_with labels label (drop (i + 1) nums) (drop (i + 1) places) in
      ap (λ q. q ++ r) m ∙ append_assoc out (p ∷ []) r
      ∙ ap (λ b. out ++ cond b (p ∷ r) r) (sym (eq-eqb (first_label labels x.parts) label e))
      ∙ (λ j. out ++ places_with labels label (sym (rest_next nums i x g) j) (sym (rest_next places i p k) j)) ∙ h

  pub nums_without : (out more : List NumLit) → more ≡ out → (first_label labels x.parts ≡ label → ⊥) → out ++ filter (has_label labels label) (drop i nums) ≡ filter (has_label labels label) nums
      → more ++ filter (has_label labels label) (drop (i + 1) nums) ≡ filter (has_label labels label) nums
  nums_without out more m n h =
      let f = filter (has_label labels label) in
      ap (λ r. r ++ f (drop (i + 1) nums)) m
      ∙ ap (λ b. out ++ cond b (x ∷ f (drop (i + 1) nums)) (f (drop (i + 1) nums))) (sym (ne_eqb (first_label labels x.parts) label n))
      ∙ ap (λ r. out ++ f r) (sym (rest_next nums i x g)) ∙ h

  pub places_without : (out more : List ℕ) → more ≡ out → slice_get places i ≡ Some p → (first_label labels x.parts ≡ label → ⊥)
      → out ++ places_with labels label (drop i nums) (drop i places) ≡ places_with labels label nums places
      → more ++ places_with labels label (drop (i + 1) nums) (drop (i + 1) places) ≡ places_with labels label nums places
  places_without out more m k n h =
      let r = places_with labels label (drop (i + 1) nums) (drop (i + 1) places) in
      ap (λ q. q ++ r) m
      ∙ ap (λ b. out ++ cond b (p ∷ r) r) (sym (ne_eqb (first_label labels x.parts) label n))
      ∙ (λ j. out ++ places_with labels label (sym (rest_next nums i x g) j) (sym (rest_next places i p k) j)) ∙ h

pub has_place : (places : List ℕ) (i : ℕ) → i < length places → slice_get places i ≡ Some (get_or places i 0)
has_place [] i l = absurd (omega arith)
has_place (p ∷ ps) zero l = refl
has_place (p ∷ ps) (suc i) l = has_place ps i (omega arith)

-- at the end
pub nums_end : (labels : List ℕ) (label : ℕ) (nums out : List NumLit) (i : ℕ) → length nums ≤ i → out ++ filter (has_label labels label) (drop i nums) ≡ filter (has_label labels label) nums
    → out ≡ filter (has_label labels label) nums
nums_end labels label nums out i l h = sym (append-nil out) ∙ ap (λ r. out ++ filter (has_label labels label) r) (sym (drop_all i nums l)) ∙ h

pub places_end : (labels : List ℕ) (label : ℕ) (nums : List NumLit) (places out : List ℕ) (i : ℕ) → length nums ≤ i
    → out ++ places_with labels label (drop i nums) (drop i places) ≡ places_with labels label nums places → out ≡ places_with labels label nums places
places_end labels label nums places out i l h = sym (append-nil out) ∙ ap (λ r. out ++ places_with labels label r (drop i places)) (sym (drop_all i nums l)) ∙ h

-- ---- where they stand
stands_lower : (path ls : List Lit) (ps : List ℕ) (m n : ℕ) → m ≤ n → StandsFrom n path ls ps → StandsFrom m path ls ps
stands_lower path [] [] m n b h = tt
stands_lower path [] (p ∷ ps) m n b h = absurd h
stands_lower path (l ∷ ls) [] m n b h = absurd h
stands_lower path (l ∷ ls) (p ∷ ps) m n b h = (omega (arith, b, h.0), h.1, h.2)

with_from : (labels : List ℕ) (label : ℕ) (path : List Lit) (n : ℕ) (nums : List NumLit) (places : List ℕ) → StandsFrom n path (map Num nums) places
    → StandsFrom n path (map Num (filter (has_label labels label) nums)) (places_with labels label nums places)
with_from labels label path n [] [] h = tt
with_from labels label path n [] (p ∷ ps) h = absurd h
with_from labels label path n (l ∷ ls) [] h = absurd h
with_from labels label path n (l ∷ ls) (p ∷ ps) h =
    let rec = with_from labels label path (p + 1) ls ps h.2 in
    elim (has_label labels label l) as (λ b. StandsFrom n path (map Num (cond b (l ∷ filter (has_label labels label) ls) (filter (has_label labels label) ls))) (cond b (p ∷ places_with labels label ls ps) (places_with labels label ls ps))) [
      | true ↦ (h.0, h.1, rec)
      | false ↦ stands_lower path (map Num (filter (has_label labels label) ls)) (places_with labels label ls ps) n (p + 1) (omega (arith, h.0)) rec
    ]

pub stands_with : (labels : List ℕ) (label : ℕ) (path : List Lit) (nums : List NumLit) (places : List ℕ) → Stands path (map Num nums) places
    → Stands path (map Num (filter (has_label labels label) nums)) (places_with labels label nums places)
stands_with labels label path nums places h = with_from labels label path 0 nums places h

same_from : (path : List Lit) (n : ℕ) (nums : List NumLit) (places : List ℕ) → StandsFrom n path (map Num nums) places → length places ≡ length nums
same_from path n [] [] h = refl
same_from path n [] (p ∷ ps) h = absurd h
same_from path n (l ∷ ls) [] h = absurd h
same_from path n (l ∷ ls) (p ∷ ps) h = ap suc (same_from path (p + 1) ls ps h.2)

pub same_count : (path : List Lit) (nums : List NumLit) (places : List ℕ) → Stands path (map Num nums) places → length places ≡ length nums
same_count path nums places h = same_from path 0 nums places h

pub fewer_with : (t : NumLit → Bool) (nums : List NumLit) → length (filter t nums) ≤ length nums
fewer_with t [] = omega arith
fewer_with t (l ∷ ls) =
    let rec = fewer_with t ls in
    elim (t l) as (λ b. length (cond b (l ∷ filter t ls) (filter t ls)) ≤ suc (length ls)) [
      | true ↦ omega arith
      | false ↦ omega arith
    ]

-- ---- their names
mentioned_all : (P : ℕ → Type 0) (nums : List NumLit) → All (λ l. All (λ p. P p.name.0) l.parts) nums → All P (mentioned nums)
mentioned_all P [] h = All-nil P
mentioned_all P (l ∷ ls) h =
    let Q = λ (l : NumLit). All (λ (p : Part). P p.name.0) l.parts in
    All-append P (part_names l.parts) (mentioned ls) (All-map P (λ (p : Part). p.name.0) l.parts (All-head Q l ls h)) (mentioned_all P ls (All-tail Q l ls h))

pub names_with : (labels : List ℕ) (label : ℕ) (nums : List NumLit) (values : List NameValue) → AreLabels labels nums → IsSolution (filter (has_label labels label) nums) values
    → All (λ nv. label_at labels nv.name.0 ≡ label) values
names_with labels label nums values h s =
    let ls = filter (has_label labels label) nums in
    let P = λ (n : ℕ). label_at labels n ≡ label in
    let one = All-filter (has_label labels label) (λ (l : NumLit). IsOneLabel labels l.parts) nums h.one in
    let same = filter_passes (has_label labels label) nums in
    let all : All (λ (l : NumLit). All (λ (p : Part). P p.name.0) l.parts) ls = (λ k d b j e c. one k d b j e c ∙ eqb-true (first_label labels (get_or ls k d).parts) label (same k d b)) in
    names_all P values (subst (All P) (sym s.named) (All-weaker (Contains (mentioned ls)) P (λ n c. All-contains P (mentioned ls) n (mentioned_all P ls all) c) (columns ls) (columns_are_names ls).only))

-- ---- truth of all from truth of those of a label
from_filter : (t : NumLit → Bool) (P : NumLit → Type 0) (nums : List NumLit) → All P (filter t nums) → All (λ l. t l ≡ true → P l) nums
from_filter t P [] h = All-nil (λ l. t l ≡ true → P l)
from_filter t P (l ∷ ls) h = let r = go (t l) refl h in All-cons (λ l. t l ≡ true → P l) l ls r.0 (from_filter t P ls r.1)
  where
    go : (b : Bool) → t l ≡ b → All P (cond b (l ∷ filter t ls) (filter t ls)) → (t l ≡ true → P l) × All P (filter t ls)
    go true e h = ((λ u. All-head P l (filter t ls) h), All-tail P l (filter t ls) h)
    go false e h = ((λ u. absurd (let z : true ≡ false = sym u ∙ e in cc)), h)

-- ---- labels that are done
pub done_read : (done : List Bool) (n : ℕ) (x : Bool) → slice_get done n ≡ Some x → is_done done n ≡ x
done_read [] n x h = cc
done_read (y ∷ ys) zero x h = cc
done_read (y ∷ ys) (suc n) x h = done_read ys n x h

done_same : (done : List Bool) (k : ℕ) → k < length done → is_done (set done k true) k ≡ true
done_same done k l = get_or-set_same done k true false l

done_still : (done : List Bool) (k n : ℕ) → k < length done → is_done done n ≡ true → is_done (set done k true) n ≡ true
done_still done k n l h = elim (cases_eq n k) [
  | inl e ↦ ap (is_done (set done k true)) e ∙ done_same done k l
  | inr ne ↦ get_or-set_other done k n true false ne ∙ h
]

none_yet : (count n : ℕ) → is_done (replicate count false) n ≡ false
none_yet zero n = refl
none_yet (suc count) zero = refl
none_yet (suc count) (suc n) = none_yet count n

pub label_small : (labels : List ℕ) (nums : List NumLit) (l : NumLit) (i : ℕ) → AreLabels labels nums → i < length nums → l ≡ get_or nums i l → first_label labels l.parts < length labels + 1
label_small labels nums l i h b e = of_parts l.parts (subst (λ (x : NumLit). All (λ (p : Part). p.name.0 < length labels) x.parts) (sym e) (h.names i l b))
  where
    of_parts : (ps : List Part) → All (λ p. p.name.0 < length labels) ps → first_label labels ps < length labels + 1
    of_parts [] n = omega arith
    of_parts (p ∷ ps) n = let s = h.below p.name.0 0 (All-head (λ (p : Part). p.name.0 < length labels) p ps n) in omega (arith, s)

-- the label of the last literal
pub last_label : (labels : List ℕ) (nums : List NumLit) (i : ℕ) (l : NumLit) → slice_get nums i ≡ Some l → i + 1 ≡ length nums → first_label labels l.parts ≡ label_of_last labels nums
last_label labels [] i l g e = absurd (omega (arith, e))
last_label labels (m ∷ []) zero l g e = let same : m ≡ l = cc in ap (λ (x : NumLit). first_label labels x.parts) (sym same)
last_label labels (m ∷ []) (suc i) l g e = absurd (omega (arith, e))
last_label labels (m ∷ n ∷ ls) zero l g e = absurd (omega (arith, e))
last_label labels (m ∷ n ∷ ls) (suc i) l g e = last_label labels (n ∷ ls) i l g (omega (arith, e))

module _ (ss : List Sort) (labels : List ℕ) (nums : List NumLit) where
  pub solved_none : (done : List Bool) → done ≡ replicate (length labels + 1) false → AreSolved ss labels nums 0 done []
  solved_none done e = record {
    count = ap length e ∙ length-replicate (length labels + 1) false;
    earlier = All-nil (λ (l : NumLit). is_done done (first_label labels l.parts) ≡ true);
    keeps = λ v g k d l u. absurd (let z = ap (λ x. is_done x (first_label labels (get_or nums k d).parts)) e ∙ none_yet (length labels + 1) (first_label labels (get_or nums k d).parts) in let w : true ≡ false = sym u ∙ z in cc);
    names = All-nil (λ (nv : NameValue). is_done done (label_at labels nv.name.0) ≡ true);
    sorted = All-nil (λ (nv : NameValue). slice_get ss nv.name.0 ≡ Some sort.Num);
    apart = tt;
  }

  pub solved_past : (i : ℕ) (d : NumLit) (done : List Bool) (values : List NameValue) → i < length nums → AreSolved ss labels nums i done values
      → is_done done (first_label labels (get_or nums i d).parts) ≡ true → AreSolved ss labels nums (i + 1) done values
  solved_past i d done values l s e = record {
    count = s.count;
    earlier = All-more (λ (l : NumLit). is_done done (first_label labels l.parts) ≡ true) nums i d l s.earlier e;
    keeps = s.keeps;
    names = s.names;
    sorted = s.sorted;
    apart = s.apart;
  }

  pub solved_more : (i : ℕ) (d : NumLit) (done : List Bool) (values more : List NameValue) (label : ℕ) → i < length nums → AreSolved ss labels nums i done values
      → label ≡ first_label labels (get_or nums i d).parts → label < length done → is_done done label ≡ false
      → AreSolving ss (filter (has_label labels label) nums) more → All (λ nv. label_at labels nv.name.0 ≡ label) more → AreSolved ss labels nums (i + 1) (set done label true) (values ++ more)
  solved_more i d done values more label l s e b f g names =
      let new = set done label true in
      let D = λ (l : NumLit). is_done new (first_label labels l.parts) ≡ true in
      let N = λ (nv : NameValue). is_done new (label_at labels nv.name.0) ≡ true in
      record {
        count = length-set done label true ∙ s.count;
        earlier = All-more D nums i d l (λ k c m. done_still done label (first_label labels (get_or (take i nums) k c).parts) b (s.earlier k c m)) (ap (is_done new) (sym e) ∙ done_same done label b);
        keeps = λ v h k c m u.
            let old = s.keeps v (All-left (HasValue v) values more h) k c m in
            let own = from_filter (has_label labels label) (NumIsTrue v) nums (g.keeps v (All-right (HasValue v) values more h)) k c m in
            elim (cases_eq (first_label labels (get_or nums k c).parts) label) [
              | inl q ↦ own (eq-eqb (first_label labels (get_or nums k c).parts) label q)
              | inr n ↦ old (sym (get_or-set_other done label (first_label labels (get_or nums k c).parts) true false n) ∙ u)
            ];
        names = All-append N values more (λ k c m. done_still done label (label_at labels (get_or values k c).name.0) b (s.names k c m)) (λ k c m. ap (is_done new) (names k c m) ∙ done_same done label b);
        sorted = All-append (λ (nv : NameValue). slice_get ss nv.name.0 ≡ Some sort.Num) values more s.sorted g.sorted;
        apart = apart_append values more s.apart g.apart
            (λ k c m j a q same. let x = s.names k c m in let y = names j a q in
            let z : true ≡ false = sym x ∙ ap (λ n. is_done done (label_at labels n)) same ∙ ap (is_done done) y ∙ f in cc);
      }

  pub solved_all : (i : ℕ) (done : List Bool) (values : List NameValue) → length nums ≤ i → AreSolved ss labels nums i done values → AreSolving ss nums values
  solved_all i done values l s =
      let all = subst (All (λ (l : NumLit). is_done done (first_label labels l.parts) ≡ true)) (take_all i nums l) s.earlier in
      record { sorted = s.sorted; apart = s.apart; keeps = λ v h k c m. s.keeps v h k c m (all k c m) }

-- as long as nothing is without an answer
module _ (ss : List Sort) (p : Pace) (labels : List ℕ) (nums : List NumLit) (places : List ℕ) where
  pub settled_none : (done : List Bool) (values : List NameValue) (unknown : List (List ℕ)) → done ≡ replicate (length labels + 1) false → values ≡ [] → unknown ≡ []
      → AreSettled ss p labels nums places 0 done values unknown
  settled_none done values unknown e v u =
      let s = subst (AreSolved ss labels nums 0 done) (sym v) (solved_none ss labels nums done e) in
      record { count = s.count; solved = λ _. s; given_up = subst (All (IsGivenUp p nums places)) (sym u) (All-nil (IsGivenUp p nums places)) }

  module _ (i : ℕ) (d : NumLit) (done done2 : List Bool) (values values2 : List NameValue) where
    pub settled_past : (unknown unknown2 : List (List ℕ)) → i < length nums → AreSettled ss p labels nums places i done values unknown
        → is_done done (first_label labels (get_or nums i d).parts) ≡ true → done2 ≡ done → values2 ≡ values → unknown2 ≡ unknown → AreSettled ss p labels nums places (i + 1) done2 values2 unknown2
    settled_past unknown unknown2 l s e d2 v2 u2 = record {
      count = ap length d2 ∙ s.count;
      solved = λ none. subst (λ q. AreSolved ss labels nums (i + 1) q values2) (sym d2) (subst (AreSolved ss labels nums (i + 1) done) (sym v2) (solved_past ss labels nums i d done values l (s.solved (sym u2 ∙ none)) e));
      given_up = subst (All (IsGivenUp p nums places)) (sym u2) s.given_up;
    }

    pub settled_found : (more : List NameValue) (unknown unknown2 : List (List ℕ)) (label : ℕ) → i < length nums → AreSettled ss p labels nums places i done values unknown
        → label ≡ first_label labels (get_or nums i d).parts → label < length done → is_done done label ≡ false
        → AreSolving ss (filter (has_label labels label) nums) more → All (λ nv. label_at labels nv.name.0 ≡ label) more
        → done2 ≡ set done label true → values2 ≡ values ++ more → unknown2 ≡ unknown → AreSettled ss p labels nums places (i + 1) done2 values2 unknown2
    settled_found more unknown unknown2 label l s e b f g names d2 v2 u2 = record {
      count = ap length d2 ∙ length-set done label true ∙ s.count;
      solved = λ none. subst (λ q. AreSolved ss labels nums (i + 1) q values2) (sym d2)
          (subst (AreSolved ss labels nums (i + 1) (set done label true)) (sym v2) (solved_more ss labels nums i d done values more label l (s.solved (sym u2 ∙ none)) e b f g names));
      given_up = subst (All (IsGivenUp p nums places)) (sym u2) s.given_up;
    }

    pub settled_unknown : (unknown unknown2 : List (List ℕ)) (component : List ℕ) (label : ℕ) → AreSettled ss p labels nums places i done values unknown
        → done2 ≡ set done label true → unknown2 ≡ unknown ++ component ∷ [] → IsGivenUp p nums places component → AreSettled ss p labels nums places (i + 1) done2 values2 unknown2
    settled_unknown unknown unknown2 component label s d2 u2 g = record {
      count = ap length d2 ∙ length-set done label true ∙ s.count;
      solved = λ none. absurd (let n = ap length (sym u2 ∙ none) in let m = length-append unknown (component ∷ []) in omega (arith, n, m));
      given_up = subst (All (IsGivenUp p nums places)) (sym u2) (All-append (IsGivenUp p nums places) unknown (component ∷ []) s.given_up (All-cons (IsGivenUp p nums places) component [] g (All-nil (IsGivenUp p nums places))));
    }
