-- The guard of a row: what is left to be said from an argument on.
use Rattle.std.proofs.Common.{◌≡◌, ℕ, zero, suc, ◌+◌, ◌<◌, ◌≤◌, List, [], ◌∷◌, ◌++◌, length, drop, get_or, refl, sym, ap, ◌∙◌, append-nil, append_assoc, add-one, drop-cons, arith, ◌⊎◌, inl, inr}
use Rattle.hp_math.specs.Rational.{ℚ}
use Rattle.hp_tree.specs.declared.term.Term.{Name}
use Rattle.hp_tree.specs.declared.problem.Atom.{Atom}
use Rattle.hp_tree.specs.declared.problem.Cmp.TheVariants.{Eq}
use Rattle.hp_tree.specs.Value.{Word}
use Rattle.hp_local.specs.Rows.{number_term, point_guard}
use Rattle.hp_base.proofs.Each.{item_next}

pub over : {A : Type 0} (xs : List A) (i : ℕ) → length xs ≤ i → drop i xs ≡ []
over [] zero h = refl
over [] (suc i) h = refl
over (x ∷ xs) zero h = absurd (omega arith)
over (x ∷ xs) (suc i) h = over xs i (omega arith)

no_values : (words : List Word) → point_guard words [] ≡ []
no_values [] = refl
no_values (word ∷ words) = refl

-- the atoms of the arguments before this place are there
pub record IsGuardTo (words : List Word) (xs : List ℚ) (at : ℕ) (guard : List Atom) : Type 0 where
  pub rest : point_guard words xs ≡ guard ++ point_guard (drop at words) (drop at xs)

pub guard_start : (words : List Word) (xs : List ℚ) (guard : List Atom) → guard ≡ [] → IsGuardTo words xs 0 guard
guard_start words xs guard e = record { rest = ap (λ g. g ++ point_guard words xs) (sym e) }

pub guard_more : (words : List Word) (xs : List ℚ) (at : ℕ) (guard more : List Atom) (word : Word) (x : ℚ)
    → at < length words → at < length xs → word ≡ get_or words at [] → x ≡ get_or xs at x
    → more ≡ guard ++ record { left = Name word; cmp = Eq; right = number_term x } ∷ [] → IsGuardTo words xs at guard → IsGuardTo words xs (at + 1) more
guard_more words xs at guard more word x h l is e m a =
    let first : Atom = record { left = Name word; cmp = Eq; right = number_term x } in
    let words_are : drop at words ≡ word ∷ drop (suc at) words = drop-cons words at [] h ∙ ap (λ w. w ∷ drop (suc at) words) (sym is) in
    let rest = point_guard (drop (suc at) words) (drop (suc at) xs) in
    record {
      rest = a.rest ∙ (λ j. guard ++ point_guard (words_are j) (item_next xs at x l e j))
          ∙ sym (append_assoc guard (first ∷ []) rest) ∙ ap (λ g. g ++ rest) (sym m)
          ∙ ap (λ k. more ++ point_guard (drop k words) (drop k xs)) (sym (add-one at));
    }

pub guard_end : (words : List Word) (xs : List ℚ) (at : ℕ) (guard : List Atom) → (length words ≤ at) ⊎ (length xs ≤ at) → IsGuardTo words xs at guard → guard ≡ point_guard words xs
guard_end words xs at guard (inl h) a = sym (a.rest ∙ ap (λ ws. guard ++ point_guard ws (drop at xs)) (over words at h) ∙ append-nil guard)
guard_end words xs at guard (inr h) a = sym (a.rest ∙ ap (λ zs. guard ++ point_guard (drop at words) zs) (over xs at h) ∙ ap (λ g. guard ++ g) (no_values (drop at words)) ∙ append-nil guard)
