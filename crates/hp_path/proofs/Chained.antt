-- Chains of literals of one label: how they are made from the last literal on, and that they leave out no literal.
use Rattle.std.proofs.Common.{◌≡◌, ◌≢◌, ℕ, zero, suc, ◌+◌, ◌-◌, ◌<◌, ◌≤◌, ◌++◌, inl, inr, refl, sym, ◌∙◌, ap, subst, arith, List, [], ◌∷◌, length, get_or, drop, set, Some, pos, replicate}
use Rattle.std.specs.Prelude.{slice_get, slice_index}
use Rattle.std.specs.List.{filter}
use Rattle.std.proofs.lemmas.Bool.{cases_eq}
use Rattle.std.proofs.lemmas.Option.{get_or_from_slice_get, slice_get-get_or}
use Rattle.std.proofs.lemmas.List.{get_or-set_other, get_or-set_same, length-replicate, length-set}
use Rattle.hp_lit.specs.declared.literal.NumLit.{NumLit}
use Rattle.hp_lit.specs.declared.literal.Rel.TheVariants.{Le}
use Rattle.hp_path.specs.declared.chains.Chains.{Chains}
use Rattle.hp_path.specs.Components.{first_label, has_label, places_with}
use Rattle.hp_path.specs.inner.Chains.{AreChained, IsNext, label_of}
use Rattle.hp_path.proofs.Gathering.{has_place, nums_with, nums_without, places_more, places_without}

-- ---- from the last literal on
replicated : (count n x : ℕ) → n < count → slice_index (replicate count x) n ≡ x
replicated zero n x l = absurd (omega arith)
replicated (suc count) zero x l = refl
replicated (suc count) (suc n) x l = replicated count n x (omega arith)

module _ (labels : List ℕ) (nums : List NumLit) where
  pub chained_none : (c : Chains) → c.firsts ≡ replicate (length labels + 1) (length nums) → c.nexts ≡ replicate (length nums + 1) (length nums) → AreChained labels nums (length nums) c
  chained_none c f n = record {
    labels_count = ap length f ∙ length-replicate (length labels + 1) (length nums);
    count = ap length n ∙ length-replicate (length nums + 1) (length nums);
    first = λ label b. subst (IsNext labels nums label (length nums)) (sym (ap (λ xs. slice_index xs label) f ∙ replicated (length labels + 1) label (length nums) b))
        (record { after = omega arith; within = omega arith; others = λ k d p q. absurd (omega arith); has = λ d p. absurd (omega arith) });
    next = λ k d p q. absurd (omega arith);
  }

  -- the literal before the ones so far
  module _ (c new : Chains) (at label : ℕ) (b : at < length nums) (bl : label < length labels + 1) (own : (d : NumLit) → label_of labels nums at d ≡ label) (h : AreChained labels nums (at + 1) c)
      (e : new ≡ record { firsts = set c.firsts label at; nexts = set c.nexts at (slice_index c.firsts label) }) where
    inside : label < length c.firsts
    inside = omega (arith, h.labels_count)

    within : at < length c.nexts
    within = omega (arith, h.count)

    first_more : (l : ℕ) → l < length labels + 1 → IsNext labels nums l at (slice_index (set c.firsts label at) l)
    first_more l bound = elim (cases_eq l label) [
      | inl s ↦ subst (IsNext labels nums l at) (sym (ap (slice_index (set c.firsts label at)) s ∙ get_or-set_same c.firsts label at 0 inside))
          (record { after = omega arith; within = omega arith; others = λ k d p q. absurd (omega arith); has = λ d p. own d ∙ sym s })
      | inr n ↦ (let old = h.first l bound in
          subst (IsNext labels nums l at) (sym (get_or-set_other c.firsts label l at 0 n))
          (record {
            after = omega (arith, old.after);
            within = old.within;
            others = λ k d p q. (elim (cases_eq k at) [
              | inl z ↦ λ u. n (sym u ∙ ap (λ j. label_of labels nums j d) z ∙ own d)
              | inr z ↦ old.others k d (omega arith) q
            ]);
            has = old.has;
          }))
    ]

    next_more : (k : ℕ) (d : NumLit) → at ≤ k → k < length nums → IsNext labels nums (label_of labels nums k d) (k + 1) (slice_index (set c.nexts at (slice_index c.firsts label)) k)
    next_more k d p q = elim (cases_eq k at) [
      | inl s ↦
          (let value = ap (slice_index (set c.nexts at (slice_index c.firsts label))) s ∙ get_or-set_same c.nexts at (slice_index c.firsts label) 0 within in
          let same : label_of labels nums k d ≡ label = ap (λ j. label_of labels nums j d) s ∙ own d in
          let old : IsNext labels nums label (k + 1) (slice_index c.firsts label) = subst (λ j. IsNext labels nums label (j + 1) (slice_index c.firsts label)) (sym s) (h.first label bl) in
          subst (λ l. IsNext labels nums l (k + 1) (slice_index (set c.nexts at (slice_index c.firsts label)) k)) (sym same) (subst (IsNext labels nums label (k + 1)) (sym value) old))
      | inr n ↦ subst (IsNext labels nums (label_of labels nums k d) (k + 1)) (sym (get_or-set_other c.nexts at k (slice_index c.firsts label) 0 n)) (h.next k d (omega arith) q)
    ]

    pub chained_more : AreChained labels nums at new
    chained_more = subst (AreChained labels nums at) (sym e) (record {
      labels_count = length-set c.firsts label at ∙ h.labels_count;
      count = length-set c.nexts at (slice_index c.firsts label) ∙ h.count;
      first = first_more;
      next = next_more;
    })

  pub chained_begin : (c : Chains) → c.firsts ≡ replicate (length labels + 1) (length nums) → c.nexts ≡ replicate (length nums + 1) (length nums) → AreChained labels nums (length nums - 0) c
  chained_begin c f n = let e : length nums ≡ length nums - 0 = omega arith in subst (λ i. AreChained labels nums i c) e (chained_none c f n)

  pub chained_step : (c new : Chains) (done at label : ℕ) → done < length nums → at ≡ length nums - 1 - done → label < length labels + 1 → ((d : NumLit) → label_of labels nums at d ≡ label) → AreChained labels nums (length nums - done) c
      → new ≡ record { firsts = set c.firsts label at; nexts = set c.nexts at (slice_index c.firsts label) } → AreChained labels nums (length nums - (done + 1)) new
  chained_step c new done at label b place bl own h e =
      let before : length nums - done ≡ at + 1 = omega (arith, place) in
      let after : at ≡ length nums - (done + 1) = omega (arith, place) in
      subst (λ i. AreChained labels nums i new) after (chained_more c new at label (omega (arith, place)) bl own (subst (λ i. AreChained labels nums i c) before h) e)

  pub chained_end : (c : Chains) (done : ℕ) → length nums ≤ done → AreChained labels nums (length nums - done) c → AreChained labels nums 0 c
  chained_end c done b h = let e : length nums - done ≡ 0 = omega arith in subst (λ i. AreChained labels nums i c) e h

-- ---- from one literal of a label to the next one
pub record IsGathered (labels : List ℕ) (label : ℕ) (all : List NumLit) (all_places : List ℕ) (at : ℕ) (out : List NumLit) (out_places : List ℕ) : Type 0 where
  pub nums : out ++ filter (has_label labels label) (drop at all) ≡ filter (has_label labels label) all
  pub places : out_places ++ places_with labels label (drop at all) (drop at all_places) ≡ places_with labels label all all_places
  pub within : at ≤ length all
  pub has : (d : NumLit) → at < length all → label_of labels all at d ≡ label

module _ (labels : List ℕ) (label : ℕ) (all : List NumLit) (all_places : List ℕ) (same : length all_places ≡ length all) where
  d : NumLit
  d = record { rel = Le; parts = []; bound = pos 0 }

  nums_past : (out : List NumLit) (i gap : ℕ) → i + gap ≤ length all → ((k : ℕ) (d : NumLit) → i ≤ k → k < i + gap → label_of labels all k d ≢ label)
      → out ++ filter (has_label labels label) (drop i all) ≡ filter (has_label labels label) all → out ++ filter (has_label labels label) (drop (i + gap) all) ≡ filter (has_label labels label) all
  nums_past out i zero b others h = let e : i ≡ i + 0 = omega arith in subst (λ j. out ++ filter (has_label labels label) (drop j all) ≡ filter (has_label labels label) all) e h
  nums_past out i (suc gap) b others h =
      let inside : i < length all = omega arith in
      let step = nums_without labels label all all_places i (get_or all i d) 0 (slice_get-get_or all i d inside) out out refl (others i d (omega arith) (omega arith)) h in
      let e : i + 1 + gap ≡ i + suc gap = omega arith in
      subst (λ j. out ++ filter (has_label labels label) (drop j all) ≡ filter (has_label labels label) all) e
      (nums_past out (i + 1) gap (omega arith) (λ k c p q. others k c (omega arith) (omega arith)) step)

  places_past : (out : List ℕ) (i gap : ℕ) → i + gap ≤ length all → ((k : ℕ) (d : NumLit) → i ≤ k → k < i + gap → label_of labels all k d ≢ label)
      → out ++ places_with labels label (drop i all) (drop i all_places) ≡ places_with labels label all all_places
      → out ++ places_with labels label (drop (i + gap) all) (drop (i + gap) all_places) ≡ places_with labels label all all_places
  places_past out i zero b others h = let e : i ≡ i + 0 = omega arith in subst (λ j. out ++ places_with labels label (drop j all) (drop j all_places) ≡ places_with labels label all all_places) e h
  places_past out i (suc gap) b others h =
      let inside : i < length all = omega arith in
      let place = has_place all_places i (omega (arith, same)) in
      let step = places_without labels label all all_places i (get_or all i d) (get_or all_places i 0) (slice_get-get_or all i d inside) out out refl place (others i d (omega arith) (omega arith)) h in
      let e : i + 1 + gap ≡ i + suc gap = omega arith in
      subst (λ j. out ++ places_with labels label (drop j all) (drop j all_places) ≡ places_with labels label all all_places) e
      (places_past out (i + 1) gap (omega arith) (λ k c p q. others k c (omega arith) (omega arith)) step)

  past : (i j : ℕ) (nums : List NumLit) (places : List ℕ) → IsNext labels all label i j
      → nums ++ filter (has_label labels label) (drop i all) ≡ filter (has_label labels label) all
      → places ++ places_with labels label (drop i all) (drop i all_places) ≡ places_with labels label all all_places → IsGathered labels label all all_places j nums places
  past i j nums places n g h =
      let e : i + (j - i) ≡ j = omega (arith, n.after) in
      let others : (k : ℕ) (d : NumLit) → i ≤ k → k < i + (j - i) → label_of labels all k d ≢ label = (λ k d p q. n.others k d p (omega arith)) in
      let b : i + (j - i) ≤ length all = omega (arith, n.within) in
      record {
        nums = subst (λ k. nums ++ filter (has_label labels label) (drop k all) ≡ filter (has_label labels label) all) e (nums_past nums i (j - i) b others g);
        places = subst (λ k. places ++ places_with labels label (drop k all) (drop k all_places) ≡ places_with labels label all all_places) e (places_past places i (j - i) b others h);
        within = n.within;
        has = n.has;
      }

  pub gathered_none : (j : ℕ) → IsNext labels all label 0 j → IsGathered labels label all all_places j [] []
  gathered_none j n = past 0 j [] [] n refl refl

  pub gathered_more : (i j : ℕ) (x : NumLit) (p : ℕ) (nums more : List NumLit) (places more_places : List ℕ) → i < length all → slice_get all i ≡ Some x → slice_get all_places i ≡ Some p → first_label labels x.parts ≡ label
      → more ≡ nums ++ x ∷ [] → more_places ≡ places ++ p ∷ [] → IsNext labels all label (i + 1) j → IsGathered labels label all all_places i nums places → IsGathered labels label all all_places j more more_places
  gathered_more i j x p nums more places more_places b g k e m q n h =
      past (i + 1) j more more_places n
      (nums_with labels label all all_places i x p g nums more e m h.nums)
      (places_more labels label all all_places i x p g places more_places k e q h.places)

  -- the same with what is read from the lists
  pub gathered_begin : (firsts : List ℕ) (at : ℕ) (out : List NumLit) (out_places : List ℕ) → slice_get firsts label ≡ Some at → IsNext labels all label 0 (slice_index firsts label) → out ≡ [] → out_places ≡ []
      → IsGathered labels label all all_places at out out_places
  gathered_begin firsts at out out_places g n e f =
      let read : slice_index firsts label ≡ at = get_or_from_slice_get firsts label at 0 g in
      subst (λ ls. IsGathered labels label all all_places at ls out_places) (sym e) (subst (IsGathered labels label all all_places at []) (sym f) (gathered_none at (subst (IsNext labels all label 0) read n)))

  pub gathered_step : (nexts : List ℕ) (i j : ℕ) (x : NumLit) (p : ℕ) (nums more : List NumLit) (places more_places : List ℕ) → i < length all → slice_get all i ≡ Some x → slice_get all_places i ≡ Some p
      → more ≡ nums ++ x ∷ [] → more_places ≡ places ++ p ∷ [] → slice_get nexts i ≡ Some j → ((k : ℕ) (d : NumLit) → 0 ≤ k → k < length all → IsNext labels all (label_of labels all k d) (k + 1) (slice_index nexts k))
      → IsGathered labels label all all_places i nums places → IsGathered labels label all all_places j more more_places × (length all - j < length all - i)
  gathered_step nexts i j x p nums more places more_places b g k m q r next h =
      let read : slice_index nexts i ≡ j = get_or_from_slice_get nexts i j 0 r in
      let own : label_of labels all i x ≡ label = h.has x b in
      let n : IsNext labels all label (i + 1) j = subst (λ l. IsNext labels all l (i + 1) j) own (subst (IsNext labels all (label_of labels all i x) (i + 1)) read (next i x (omega arith) b)) in
      let first : first_label labels x.parts ≡ label = ap (λ (l : NumLit). first_label labels l.parts) (sym (get_or_from_slice_get all i x x g)) ∙ own in
      (gathered_more i j x p nums more places more_places b g k first m q n h, omega (arith, n.after, b))
