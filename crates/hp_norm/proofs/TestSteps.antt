-- The tests of a clause, one after the other, and the words over which they are made.
use Rattle.std.proofs.Common.{◌≡◌, ℕ, zero, suc, ◌+◌, ◌-◌, ◌<◌, ◌≤◌, true, false, Bool, List, [], ◌∷◌, ◌++◌, length, map, Result, Ok, Err, refl, sym, ap, subst, ◌∙◌, arith, length-append}
use Rattle.std.specs.Prelude.{if◌then◌else◌}
use Rattle.std.specs.Result.{IsErrAnd}
use Rattle.std.proofs.lemmas.List.{length-map}
use Rattle.hp_num.specs.Wide.{◌>>=◌}
use Rattle.hp_names.specs.Names.{Added, is_among}
use Rattle.hp_tree.specs.declared.problem.Var.{Var}
use Rattle.hp_tree.specs.Value.{Word}
use Rattle.hp_terms.specs.Words.{made_word, numbered}
use Rattle.hp_lit.specs.declared.literal.Lit.{Lit}
use Rattle.hp_lit.specs.declared.refusal.Refusal.{Refusal}
use Rattle.hp_lit.specs.declared.refusal.Refusal.TheVariants.{Wide, Memory}
use Rattle.hp_linear.specs.Answers.{Answers, Pushed}
use Rattle.hp_linear.specs.Steps.{Refusable}
use Rattle.hp_defs.specs.declared.names.Constant.{Constant}
use Rattle.hp_defs.specs.Names.{constant_name}
use Rattle.hp_norm.specs.Testing.{variable_words, with_word, with_words}

abbrev Tests : Type 0
Tests = Refusable (Unit {0})

-- ---- steps
-- a test that is passed leaves the others
pub test_passed : (all first rest : Tests) (done : Unit {0}) → all ≡ (first >>= λ d. rest) → first ≡ Ok done → all ≡ rest
test_passed all first rest done is e = is ∙ ap (λ (r : Tests). r >>= λ d. rest) e

stopped : (all first rest : Tests) (e : Refusal) → all ≡ (first >>= λ d. rest) → Answers first (Err e) → Answers all (Err e)
stopped all first rest Wide is h = is ∙ ap (λ (r : Tests). r >>= λ d. rest) h
stopped all first rest Memory is h = tt

-- a test that isn't is the answer
pub test_failed : (all first rest : Tests) (e : Refusal) (r : Result (Unit {0}) Refusal) → all ≡ (first >>= λ d. rest) → Answers first (Err e) → IsErrAnd r (λ x. x ≡ e) → Answers all r
test_failed all first rest e (Ok d) is h s = absurd s
test_failed all first rest e (Err x) is h s = subst (λ y. Answers all (Err y)) (sym s) (stopped all first rest e is h)

-- what is tested after a test that is passed
pub tests_passed : (all first rest : Tests) (done : Unit {0}) (r : Result (Unit {0}) Refusal) → all ≡ (first >>= λ d. rest) → first ≡ Ok done → Answers rest r → Answers all r
tests_passed all first rest done r is e h = subst (λ (t : Tests). Answers t r) (sym (test_passed all first rest done is e)) h

-- want of memory says nothing of a test
pub short : {A : Type 0} (wanted : Refusable A) (e : Refusal) (r : Result A Refusal) → e ≡ Memory → IsErrAnd r (λ x. x ≡ e) → Answers wanted r
short wanted e (Ok x) h s = absurd s
short wanted e (Err x) h s = subst (λ y. Answers wanted (Err y)) (sym (s ∙ h)) tt

-- literals that are formed or are not
pub formed : (wanted : Refusable (List Lit)) (old new : List Lit) (r : Result (Unit {0}) Refusal) → Pushed wanted old new r → Answers (wanted >>= λ lits. Ok tt) r
formed wanted old new (Ok done) h = ap (λ (w : Refusable (List Lit)). ◌>>=◌ {A = List Lit} w (λ lits. Ok tt)) h.1
formed wanted old new (Err Wide) h = ap (λ (w : Refusable (List Lit)). ◌>>=◌ {A = List Lit} w (λ lits. Ok tt)) h.0
formed wanted old new (Err Memory) h = tt

-- ---- words
pub word_added : (old new : List Word) (word : Word) (added : Bool) → Added old word new added → new ≡ with_word old word
word_added old new word true h = h.1 ∙ sym (ap (λ b. if b then old else old ++ word ∷ []) h.0)
word_added old new word false h = h.1 ∙ sym (ap (λ b. if b then old else old ++ word ∷ []) h.0)

one_more : (words : List Word) (word : Word) (b : Bool) → length (if b then words else words ++ word ∷ []) ≤ suc (length words)
one_more words word true = omega arith
one_more words word false = omega (arith, length-append words (word ∷ []))

-- at most as many words as there were and are added
pub few_words : (words more : List Word) → length (with_words words more) ≤ length words + length more
few_words words [] = omega arith
few_words words (word ∷ more) = omega (arith, few_words (with_word words word) more, one_more words word (is_among word words))

length_numbered : (from count : ℕ) → length (numbered from count) ≡ count
length_numbered from zero = refl
length_numbered from (suc count) = ap suc (length_numbered (suc from) count)

-- at most as many words as constants, variables and definitions
pub few_clause_words : (none first next all : List Word) (constants : List Constant) (vars : List Var) (count : ℕ) → none ≡ [] → first ≡ with_words none (map constant_name constants)
    → next ≡ with_words first (variable_words vars) → all ≡ with_words next (numbered 1 count) → length all ≤ length constants + length vars + count
few_clause_words none first next all constants vars count e f g h =
    omega (
      arith,
      ap (λ (ws : List Word). length ws) e,
      ap (λ (ws : List Word). length ws) f,
      ap (λ (ws : List Word). length ws) g,
      ap (λ (ws : List Word). length ws) h,
      few_words none (map constant_name constants),
      few_words first (variable_words vars),
      few_words next (numbered 1 count),
      length-map constants constant_name,
      length-map vars (λ (v : Var). v.name),
      length_numbered 1 count,
    )

-- the words of definitions, one after the other
pub numbered_next : (count at : ℕ) (old words new : List Word) (word : Word) (added : Bool) → at < count → word ≡ made_word (at + 1) → Added words word new added
    → with_words old (numbered 1 count) ≡ with_words words (numbered (at + 1) (count - at)) → with_words old (numbered 1 count) ≡ with_words new (numbered (at + 1 + 1) (count - (at + 1)))
numbered_next count at old words new word added h is a so_far =
    let less : count - at ≡ suc (count - (at + 1)) = grind (arith, h) in
    let next : suc (at + 1) ≡ at + 1 + 1 = omega arith in
    let same : with_word words (made_word (at + 1)) ≡ new = sym (word_added words new word added a ∙ ap (with_word words) is) in
    so_far
    ∙ (λ i. with_words words (numbered (at + 1) (less i)))
    ∙ (λ i. with_words (same i) (numbered (next i) (count - (at + 1))))
