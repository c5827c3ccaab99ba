-- Variables, one after the other, until one has the word.
use Rattle.std.proofs.Common.{◌≡◌, ◌∙◌, ℕ, zero, suc, ◌+◌, ◌<◌, ◌≤◌, List, [], ◌∷◌, Bool, false, length, drop, get_or, refl, sym, ap, arith, add-one, drop-cons}
use Rattle.std.specs.Prelude.{if◌then◌else◌}
use Rattle.std.specs.Str.{bytes_eq}
use Rattle.hp_tree.specs.declared.term.Term.{Term, Name}
use Rattle.hp_tree.specs.declared.problem.Var.{Var}
use Rattle.hp_tree.specs.Value.{Word}
use Rattle.hp_instance.specs.Replacing.{replaced_word}

rest : {X : Type 0} (xs : List X) (i : ℕ) (d : X) → i < length xs → drop i xs ≡ get_or xs i d ∷ drop (i + 1) xs
rest xs i d h = rw add-one (drop-cons xs i d h)

none : {X : Type 0} (xs : List X) (i : ℕ) → length xs ≤ i → drop i xs ≡ []
none [] zero h = refl
none [] (suc i) h = refl
none (x ∷ xs) zero h = absurd (omega arith)
none (x ∷ xs) (suc i) h = none xs i (omega arith)

module _ (word : Word) where
  -- ---- terms
  pub next_term : (vars : List Var) (terms : List Term) (i : ℕ) (v : Var) (t : Term) → i < length vars → i < length terms
      → replaced_word (drop i vars) (drop i terms) word
      ≡ (if bytes_eq (get_or vars i v).name word then get_or terms i t else replaced_word (drop (i + 1) vars) (drop (i + 1) terms) word)
  next_term vars terms i v t h k = λ j. replaced_word (rest vars i v h j) (rest terms i t k j) word

  -- a variable with another word is passed
  pub word_walks : (vars : List Var) (terms : List Term) (i : ℕ) (v : Var) → i < length vars → i < length terms → v ≡ get_or vars i v → bytes_eq v.name word ≡ false
      → replaced_word vars terms word ≡ replaced_word (drop i vars) (drop i terms) word → replaced_word vars terms word ≡ replaced_word (drop (i + 1) vars) (drop (i + 1) terms) word
  word_walks vars terms i v h k is other walked =
      let more = replaced_word (drop (i + 1) vars) (drop (i + 1) terms) word in
      let own = get_or terms i (Name word) in
      walked ∙ next_term vars terms i v (Name word) h k ∙ ap (λ (u : Var). if bytes_eq u.name word then own else more) (sym is) ∙ ap (λ (b : Bool). if b then own else more) other

  pub no_terms : (vars : List Var) (terms : List Term) (i : ℕ) (v : Var) → i < length vars → length terms ≤ i → replaced_word (drop i vars) (drop i terms) word ≡ Name word
  no_terms vars terms i v h k = λ j. replaced_word (rest vars i v h j) (none terms i k j) word

  pub no_vars : (vars : List Var) (terms : List Term) (i : ℕ) → length vars ≤ i → replaced_word (drop i vars) terms word ≡ Name word
  no_vars vars terms i h = λ j. replaced_word (none vars i h j) terms word
