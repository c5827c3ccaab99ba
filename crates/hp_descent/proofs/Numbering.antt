-- The rows of literals: how wide and how many they are, and the numbers of rows in chains and strains.
use Rattle.std.proofs.Common.{◌≡◌, ℕ, zero, suc, ◌+◌, ◌*◌, ◌<◌, ◌≤◌, ◌^◌, sym, ◌∙◌, subst, arith, List, [], ◌∷◌, ◌++◌, length, get_or, map, reverse, length-append, ℤ, ◌-◌, drop, append_assoc, ap, drop-cons}
use Rattle.std.proofs.lemmas.List.{length-map, length-reverse, get_or-reverse, reverse-reverse}
use Rattle.std.specs.List.{All}
use Rattle.std.proofs.lemmas.List.Elements.{All-cons, All-nil, All-weaker}
use Rattle.hp_num.specs.declared.wide.Wide.{Wide}
use Rattle.hp_lit.specs.declared.literal.Rel.{Rel}
use Rattle.hp_lit.specs.declared.literal.Rel.TheVariants.{Le, Lt, Eq}
use Rattle.hp_lit.specs.declared.literal.NumLit.{NumLit}
use Rattle.hp_rows.specs.declared.row.Row.{Row}
use Rattle.hp_rows.specs.declared.answer.Place.{Place}
use Rattle.hp_rows.specs.declared.answer.Place.TheVariants as place
use Rattle.hp_rows.specs.Rows.{AreWide, IsChain}
use Rattle.hp_rows.specs.declared.answer.Answer.{Answer}
use Rattle.hp_rows.specs.Answers.{Answers}
use Rattle.hp_rows.specs.Strain.{IsStrainAt}
use Rattle.hp_descent.specs.Columns.{columns}
use Rattle.hp_descent.specs.LiteralRows.{scale_row, rows_by, rows_over, rows_of, width_of}
use Rattle.hp_descent.specs.Answers.{IsSmallPlace}

-- ---- how wide
abbrev AllWide : ℕ → List Row → Type 0
AllWide w [] = Unit {0}
AllWide w (r ∷ rs) = (length r.coefs ≡ w) × AllWide w rs

wide_out : (w : ℕ) (rs : List Row) → AllWide w rs → AreWide w rs
wide_out w [] h i l = absurd (omega arith)
wide_out w (r ∷ rs) h zero l = h.0
wide_out w (r ∷ rs) h (suc i) l = wide_out w rs h.1 i (omega arith)

wide_join : (w : ℕ) (xs ys : List Row) → AllWide w xs → AllWide w ys → AllWide w (xs ++ ys)
wide_join w [] ys g h = h
wide_join w (x ∷ xs) ys g h = (g.0, wide_join w xs ys g.1 h)

one_wider : (f : ℕ → ℤ) (ns : List ℕ) (z : ℤ) → length (map f ns ++ z ∷ []) ≡ suc (length ns)
one_wider f ns z = length-append (map f ns) (z ∷ []) ∙ (let e = length-map ns f in omega arith)

wide_by : (r : Rel) (ns : List ℕ) (l : NumLit) → AllWide (suc (length ns)) (rows_by r ns l)
wide_by Le ns l = (one_wider _ ns _, tt)
wide_by Lt ns l = (one_wider _ ns _, tt)
wide_by Eq ns l = (one_wider _ ns _, (one_wider _ ns _, tt))

wide_over : (ns : List ℕ) (ls : List NumLit) → AllWide (suc (length ns)) (rows_over ns ls)
wide_over ns [] = tt
wide_over ns (l ∷ ls) = wide_join (suc (length ns)) (rows_by l.rel ns l) (rows_over ns ls) (wide_by l.rel ns l) (wide_over ns ls)

pub are_wide : (ns : List ℕ) (ls : List NumLit) → AreWide (suc (length ns)) (scale_row ns ∷ rows_over ns ls)
are_wide ns ls = wide_out (suc (length ns)) (scale_row ns ∷ rows_over ns ls) (one_wider _ ns _, wide_over ns ls)

-- ---- how many
two_at_most : (r : Rel) (ns : List ℕ) (l : NumLit) → length (rows_by r ns l) ≤ 2
two_at_most Le ns l = omega arith
two_at_most Lt ns l = omega arith
two_at_most Eq ns l = omega arith

few_over : (ns : List ℕ) (ls : List NumLit) → length (rows_over ns ls) ≤ 2 * length ls
few_over ns [] = omega arith
few_over ns (l ∷ ls) = omega (arith, length-append (rows_by l.rel ns l) (rows_over ns ls), two_at_most l.rel ns l, few_over ns ls)

few_rows : (lits : List NumLit) → length lits < 2 ^ 28 → length (rows_of lits) < 2 ^ 31
few_rows lits h = let e = few_over (columns lits) lits in few (length (rows_of lits)) (length lits) (omega (arith, e)) h
  where
    few : (n m : ℕ) → n ≤ 2 * m + 1 → m < 2 ^ 28 → n < 2 ^ 31
    few n m a b = omega arith

-- ---- the numbers of a chain
in_chain : (rows : List Row) (es : List ℕ) → IsChain rows es → All (λ e. e < length rows) es
in_chain rows [] c = All-nil (λ e. e < length rows)
in_chain rows (e ∷ es) c = All-cons (λ e. e < length rows) e es c.0.within (in_chain rows es c.1)

all_reverse : (P : ℕ → Type 0) (xs : List ℕ) → All P xs → All P (reverse xs)
all_reverse P xs h k d l = let e = length-reverse xs in subst P (sym (get_or-reverse xs k d (omega arith))) (h (length xs - 1 - k) d (omega arith))

pub small_chain : (lits : List NumLit) (chain : List ℕ) → length lits < 2 ^ 28 → IsChain (rows_of lits) (reverse chain) → All (λ row. row < 2 ^ 31) chain
small_chain lits chain few c =
    let n = few_rows lits few in
    let all = All-weaker _ _ (λ e (l : e < length (rows_of lits)). less e (length (rows_of lits)) (2 ^ 31) l n) (reverse chain) (in_chain (rows_of lits) (reverse chain) c) in
    subst (All (λ row. row < 2 ^ 31)) (reverse-reverse chain) (all_reverse (λ row. row < 2 ^ 31) (reverse chain) all)
  where
    less : (a b c : ℕ) → a < b → b < c → a < c
    less a b c g h = omega arith

-- ---- a strain has a chain, and its row is one of the rows
chain_of_strain : (rows : List Row) (w : ℕ) (chain : List ℕ) (p : Place) (wide : Wide) → IsStrainAt rows w chain p wide → IsChain rows chain
chain_of_strain rows w chain (place.Line at) wide h = h.0.1
chain_of_strain rows w chain place.Point wide h = h.0
chain_of_strain rows w chain (place.Sum at) wide h = h.1.1.is_chain
chain_of_strain rows w chain place.Value wide h = h.1.is_chain

pub strained_chain : (lits : List NumLit) (chain : List ℕ) (p : Place) (wide : Wide) → length lits < 2 ^ 28
    → IsStrainAt (rows_of lits) (width_of lits) (reverse chain) p wide → All (λ row. row < 2 ^ 31) chain
strained_chain lits chain p wide few h = small_chain lits chain few (chain_of_strain (rows_of lits) (width_of lits) (reverse chain) p wide h)

pub strained_place : (lits : List NumLit) (chain : List ℕ) (p : Place) (wide : Wide) → length lits < 2 ^ 28
    → IsStrainAt (rows_of lits) (width_of lits) (reverse chain) p wide → IsSmallPlace p
strained_place lits chain (place.Line at) wide few h = let n = few_rows lits few in less at (length (rows_of lits)) (2 ^ 31) h.0.0.within n
  where
    less : (a b c : ℕ) → a < b → b < c → a < c
    less a b c g h = omega arith
strained_place lits chain place.Point wide few h = tt
strained_place lits chain (place.Sum at) wide few h = let n = few_rows lits few in less at (length (rows_of lits)) (2 ^ 31) h.0 n
  where
    less : (a b c : ℕ) → a < b → b < c → a < c
    less a b c g h = omega arith
strained_place lits chain place.Value wide few h = tt

-- ---- rows over the columns
pub same_rows : (lits : List NumLit) (names : List ℕ) (rows : List Row) → names ≡ columns lits → rows ≡ scale_row names ∷ rows_over names lits → rows ≡ rows_of lits
same_rows lits names rows e f = f ∙ ap (λ ns. scale_row ns ∷ rows_over ns lits) e

pub same_width : (lits : List NumLit) (names : List ℕ) → names ≡ columns lits → length names + 1 ≡ width_of lits
same_width lits names e = (let f = ap length e in omega arith)

pub same_answer : (lits : List NumLit) (w : ℕ) (rows : List Row) (a : Answer) → rows ≡ rows_of lits → w ≡ width_of lits → Answers rows w a → Answers (rows_of lits) (width_of lits) a
same_answer lits w rows a e f h = subst (λ rs. Answers rs (width_of lits) a) e (subst (λ v. Answers rows v a) f h)

-- one entry more
pub one_entry : (f : ℕ → ℤ) (ns : List ℕ) (i : ℕ) (out more : List ℤ) (x : ℤ) → i < length ns → map f ns ≡ out ++ map f (drop i ns) → more ≡ out ++ x ∷ [] → x ≡ f (get_or ns i 0)
    → map f ns ≡ more ++ map f (drop (i + 1) ns)
one_entry f ns i out more x l h e s =
    let n : suc i ≡ i + 1 = omega arith in
    h ∙ ap (λ r. out ++ map f r) (drop-cons ns i 0 l) ∙ (λ j. out ++ (sym s j ∷ map f (drop (n j) ns)))
    ∙ sym (append_assoc out (x ∷ []) (map f (drop (i + 1) ns))) ∙ ap (λ r. r ++ map f (drop (i + 1) ns)) (sym e)
