-- The first sign of the table that stands in front is the longest one.
use Rattle.std.proofs.Common.{◌≡◌, ℕ, zero, suc, ◌<◌, ◌≤◌, Bool, true, false, not, ◌&&◌, ◌||◌, List, [], ◌∷◌, length, take, nat_eq, Some, None, refl, sym, ap, ◌∙◌, arith}
use Rattle.std.specs.Prelude.{if◌then◌else◌}
use Rattle.std.specs.List.{list_all, list_any, starts_with}
use Rattle.std.proofs.lemmas.Bool.{eqb-true, eq-eqb}
use Rattle.std.proofs.lemmas.List.{length-take-le}
use lib.Pointwise.{pointwise}
use Rattle.hp_text.specs.Words.{Fixed, signs, kind_among, first_among}
use Rattle.hp_text.specs.declared.token.Kind.{Kind}
use Rattle.hp_text.proofs.Runs.{both_true}

-- the test of two texts
pub same_text : (xs ys : List ℕ) → pointwise nat_eq xs ys ≡ true → xs ≡ ys
same_text [] [] e = refl
same_text [] (y ∷ ys) e = absurd (cc)
same_text (x ∷ xs) [] e = absurd (cc)
same_text (x ∷ xs) (y ∷ ys) e = (let b = both_true _ _ e in let h = eqb-true x y b.0 in let t = same_text xs ys b.1 in cc)

pub text_same : (xs : List ℕ) → pointwise nat_eq xs xs ≡ true
text_same [] = refl
text_same (x ∷ xs) = (let h = eq-eqb x x refl in rw h (text_same xs))

pub not_true : (v : Bool) → (v ≡ true → ⊥) → v ≡ false
not_true true free = absurd (free refl)
not_true false free = refl

pub neither : (a b : Bool) → a ≡ false → b ≡ false → (a || b) ≡ false
neither false b e f = f
neither true b e f = absurd (cc)

or_right : (a b : Bool) → b ≡ true → (a || b) ≡ true
or_right true b e = refl
or_right false b e = e

not_same : (a : Bool) → not a ≡ true → a ≡ true → ⊥
not_same true e f = cc
not_same false e f = cc

take_in_take : (m n : ℕ) (xs : List ℕ) → n ≤ m → take n (take m xs) ≡ take n xs
take_in_take m zero xs h = refl
take_in_take zero (suc n) xs h = absurd (omega arith)
take_in_take (suc m) (suc n) [] h = refl
take_in_take (suc m) (suc n) (x ∷ xs) h = ap (λ (z : List ℕ). x ∷ z) (take_in_take m n xs (omega arith))

-- no text of a table is the front of a later one
abbrev pub is_ordered : List Fixed → Bool
is_ordered [] = true
is_ordered (f ∷ fs) = list_all (λ (g : Fixed). not (starts_with nat_eq g.text f.text)) fs && is_ordered fs

pub signs_ordered : is_ordered signs ≡ true
signs_ordered = refl

abbrev pub is_among : List Fixed → List ℕ → Bool
is_among fs text = list_any (λ (f : Fixed). pointwise nat_eq text f.text) fs

-- a text that does not begin the bytes is no piece in front of them
no_piece : (text bytes : List ℕ) (m : ℕ) → m ≤ length bytes → starts_with nat_eq bytes text ≡ false → pointwise nat_eq (take m bytes) text ≡ false
no_piece text bytes m h e = not_true _ (λ t.
    let same : take m bytes ≡ text = same_text (take m bytes) text t in
    let long : length text ≡ m = sym (ap length same) ∙ length-take-le m bytes h in
    let front : take (length text) bytes ≡ text = ap (λ n. take n bytes) long ∙ same in
    let yes : starts_with nat_eq bytes text ≡ true = ap (pointwise nat_eq text) front ∙ text_same text in
    absurd (cc))

-- a text that begins the bytes is the piece of its length
front_text : (text bytes : List ℕ) → starts_with nat_eq bytes text ≡ true → take (length text) bytes ≡ text
front_text text bytes e = sym (same_text text (take (length text) bytes) e)

none_step : (f : Fixed) (fs : List Fixed) (bytes : List ℕ) (m : ℕ) (v : Bool) → starts_with nat_eq bytes f.text ≡ v → m ≤ length bytes
    → (first_among fs bytes ≡ None → is_among fs (take m bytes) ≡ false)
    → (if v then Some (f.kind, length f.text) else first_among fs bytes) ≡ None → is_among (f ∷ fs) (take m bytes) ≡ false
none_step f fs bytes m true e h more found = absurd (cc)
none_step f fs bytes m false e h more found = neither (pointwise nat_eq (take m bytes) f.text) _ (no_piece f.text bytes m h e) (more found)

-- where no text of the table stands in front, no piece is one of them
pub none_among : (fs : List Fixed) (bytes : List ℕ) (m : ℕ) → m ≤ length bytes → first_among fs bytes ≡ None → is_among fs (take m bytes) ≡ false
none_among [] bytes m h found = refl
none_among (f ∷ fs) bytes m h found = none_step f fs bytes m (starts_with nat_eq bytes f.text) refl h (none_among fs bytes m h) found

-- behind a text that stands in front, no longer piece is a later text
none_later : (text bytes : List ℕ) (m : ℕ) (fs : List Fixed) → starts_with nat_eq bytes text ≡ true → length text ≤ m
    → list_all (λ (g : Fixed). not (starts_with nat_eq g.text text)) fs ≡ true → is_among fs (take m bytes) ≡ false
none_later text bytes m [] e long free = refl
none_later text bytes m (g ∷ fs) e long free =
    let parts = both_true (not (starts_with nat_eq g.text text)) _ free in
    neither (pointwise nat_eq (take m bytes) g.text) _
    (not_true _ (λ t.
    let same : take m bytes ≡ g.text = same_text (take m bytes) g.text t in
    let front : take (length text) g.text ≡ text = ap (take (length text)) (sym same) ∙ take_in_take m (length text) bytes long ∙ front_text text bytes e in
    not_same _ parts.0 (ap (pointwise nat_eq text) front ∙ text_same text)))
    (none_later text bytes m fs e long parts.1)

-- what a sign that was found is: the piece of its length is that sign, and no longer piece is one
pub record IsFound (fs : List Fixed) (bytes : List ℕ) (s : Kind × ℕ) : Type 0 where
  pub among : is_among fs (take s.1 bytes) ≡ true
  pub kind : kind_among fs (take s.1 bytes) ≡ s.0
  pub longest : (m : ℕ) → s.1 < m → m ≤ length bytes → is_among fs (take m bytes) ≡ false

found_first : (f : Fixed) (fs : List Fixed) (bytes : List ℕ) (s : Kind × ℕ) → starts_with nat_eq bytes f.text ≡ true
    → list_all (λ (g : Fixed). not (starts_with nat_eq g.text f.text)) fs ≡ true → f.kind ≡ s.0 → length f.text ≡ s.1 → IsFound (f ∷ fs) bytes s
found_first f fs bytes s e free k n =
    let piece : take s.1 bytes ≡ f.text = ap (λ z. take z bytes) (sym n) ∙ front_text f.text bytes e in
    let test : pointwise nat_eq (take s.1 bytes) f.text ≡ true = ap (λ (z : List ℕ). pointwise nat_eq z f.text) piece ∙ text_same f.text in
    record {
      among = rw test refl;
      kind = rw test k;
      longest = λ m more fits. neither (pointwise nat_eq (take m bytes) f.text) _
          (not_true _ (λ t. let same = same_text (take m bytes) f.text t in let long : length f.text ≡ m = sym (ap length same) ∙ length-take-le m bytes fits in omega arith))
          (none_later f.text bytes m fs e (omega arith) free);
    }

found_step : (f : Fixed) (fs : List Fixed) (bytes : List ℕ) (s : Kind × ℕ) (v : Bool) → starts_with nat_eq bytes f.text ≡ v
    → list_all (λ (g : Fixed). not (starts_with nat_eq g.text f.text)) fs ≡ true → s.1 ≤ length bytes
    → (first_among fs bytes ≡ Some s → IsFound fs bytes s)
    → (if v then Some (f.kind, length f.text) else first_among fs bytes) ≡ Some s → IsFound (f ∷ fs) bytes s
found_step f fs bytes s true e free fits more found = found_first f fs bytes s e free (cc) (cc)
found_step f fs bytes s false e free fits more found =
    let rest = more found in
    let other = no_piece f.text bytes s.1 fits e in
    record {
      among = rw other rest.among;
      kind = rw other rest.kind;
      longest = λ m long h. neither (pointwise nat_eq (take m bytes) f.text) _ (no_piece f.text bytes m h e) (rest.longest m long h);
    }

pub found_is : (fs : List Fixed) (bytes : List ℕ) (s : Kind × ℕ) → is_ordered fs ≡ true → s.1 ≤ length bytes → first_among fs bytes ≡ Some s → IsFound fs bytes s
found_is [] bytes s o fits found = absurd (cc)
found_is (f ∷ fs) bytes s o fits found =
    let parts = both_true (list_all (λ (g : Fixed). not (starts_with nat_eq g.text f.text)) fs) _ o in
    found_step f fs bytes s (starts_with nat_eq bytes f.text) refl parts.0 fits (found_is fs bytes s parts.1 fits) found
