-- Clauses that apply these functions alone, by words, apply functions at these places alone.
use Rattle.std.proofs.Common.{◌≡◌, ◌∙◌, ◌||◌, ◌++◌, ℕ, Bool, true, false, IsTrue, List, [], ◌∷◌, map, nat_eq, Option, Some, None, refl, sym, ap, subst}
use Rattle.std.specs.Prelude.{position, slice_get}
use Rattle.std.specs.Str.{bytes_eq}
use Rattle.std.specs.List.{All, list_all}
use Rattle.std.proofs.lemmas.Bool.{eq-eqb, or_left, or_right}
use Rattle.std.proofs.lemmas.List.Elements.{All-append, All-cons, All-nil, All-weaker}
use Rattle.std.proofs.lemmas.Option.{same_Some}
use Rattle.hp_names.proofs.Texts.{same_text}
use Rattle.hp_tree.specs.declared.term.Term.{Term, fold-roll-Term, map-Term}
use Rattle.hp_tree.specs.declared.term.Term.TheOpen.{Term-F}
use Rattle.hp_tree.specs.declared.problem.Atom.{Atom}
use Rattle.hp_tree.specs.Value.{Word}
use Rattle.hp_terms.specs.Occurring.{functions_in, functions_step, joined}
use Rattle.hp_index.proofs.Layers.{Parts, bare, by_layers}
use Rattle.hp_local.specs.Applied.{applies_only, applies_step, atom_applies}
use Rattle.hp_local.proofs.Tests.{both}
use Rattle.hp_defs.specs.declared.names.Signature.{Signature}
use Rattle.hp_defs.specs.Made.{IsMade}
use Rattle.hp_defs.specs.Names.{NameList, function_words}
use Rattle.hp_defs.proofs.Distinct.{position_of}
use Rattle.hp_norm.specs.Laws.{WordPasses, WordsOfAtomPass}
use Rattle.hp_local.specs.Frame.{is_own}
use Rattle.hp_class.specs.Frame.{is_function, is_place, signature_word, words_at}
use Rattle.hp_class.specs.Laws.{ClausesPass}
use Rattle.hp_class.proofs.Facts.{word_there}

-- ---- the functions of a term
module _ (test : Word → Bool) where
  abbrev Passes : Word → Type 0
  Passes word = test word ≡ true

  abbrev Holds : Term → Type 0
  Holds t = IsTrue (applies_only test t) → All Passes (functions_in t)

  abbrev Part : Type 0
  Part = Parts Holds

  all_joined : (ts : List Part) → IsTrue (list_all (λ b. b) (map (applies_only test) (map (λ (e : Part). e.0) ts))) → All Passes (joined (map functions_in (map (λ (e : Part). e.0) ts)))
  all_joined [] h = All-nil Passes
  all_joined (t ∷ ts) h =
      let k = both _ _ h in
      All-append Passes (functions_in t.0) (joined (map functions_in (map (λ (e : Part). e.0) ts))) (t.1 k.0) (all_joined ts k.1)

  layer : (y : Term-F Part) → IsTrue (applies_step test (map-Term Term Bool (applies_only test) (bare Holds y))) → All Passes (functions_step (map-Term Term (List Word) functions_in (bare Holds y)))
  layer (Term-F.Number q) h = All-nil Passes
  layer Term-F.Null h = All-nil Passes
  layer (Term-F.Name word) h = All-nil Passes
  layer (Term-F.Apply func args) h = let k = both _ _ h in All-cons Passes func (joined (map functions_in (map (λ (e : Part). e.0) args))) k.0 (all_joined args k.1)
  layer (Term-F.Add a b) h = let k = both _ _ h in All-append Passes (functions_in a.0) (functions_in b.0) (a.1 k.0) (b.1 k.1)
  layer (Term-F.Sub a b) h = let k = both _ _ h in All-append Passes (functions_in a.0) (functions_in b.0) (a.1 k.0) (b.1 k.1)
  layer (Term-F.Neg a) h = a.1 h
  layer (Term-F.Scale q a) h = a.1 h

  term_passes : (t : Term) → Holds t
  term_passes t = by_layers Holds (λ y h.
      subst (All Passes) (sym (fold-roll-Term (List Word) functions_step (bare Holds y)))
      (layer y (subst (λ b. IsTrue b) (fold-roll-Term Bool (applies_step test) (bare Holds y)) h))) t

-- ---- words and places
module _ (names : NameList) (made : IsMade names) where
  word_passes : (funcs : List ℕ) (word : Word) → is_function names funcs word ≡ true → WordPasses (is_place funcs) (function_words names) word
  word_passes [] word h func at = absurd (cc)
  word_passes (g ∷ gs) word h func at = by (slice_get names.signatures g) refl h (λ k. word_passes gs word k func at)
    where
      by : (o : Option Signature) → slice_get names.signatures g ≡ o → is_own (signature_word o ++ words_at names gs) word ≡ true → (is_function names gs word ≡ true → is_place gs func ≡ true)
          → (nat_eq g func || is_place gs func) ≡ true
      by None e k rest = or_right (nat_eq g func) (is_place gs func) (rest k)
      by (Some s) e k rest = among (bytes_eq s.name word) refl k
        where
          among : (b : Bool) → bytes_eq s.name word ≡ b → (b || is_function names gs word) ≡ true → (nat_eq g func || is_place gs func) ≡ true
          among false t k = or_right (nat_eq g func) (is_place gs func) (rest k)
          among true t k =
              let same : s.name ≡ word = same_text s.name word t in
              let here = position_of (function_words names) g s.name made.functions (word_there names.signatures g s e) in
              let places : g ≡ func = same_Some g func (sym here ∙ ap (λ (w : Word). position (bytes_eq w) (function_words names)) same ∙ at) in
              or_left (nat_eq g func) (is_place gs func) (eq-eqb g func places)

  atom_passes : (funcs : List ℕ) (a : Atom) → IsTrue (atom_applies (is_function names funcs) a) → WordsOfAtomPass (is_place funcs) (function_words names) a
  atom_passes funcs a h =
      let k = both _ _ h in
      let Passed = λ (w : Word). is_function names funcs w ≡ true in
      record {
        left = All-weaker Passed (WordPasses (is_place funcs) (function_words names)) (word_passes funcs) (functions_in a.left) (term_passes (is_function names funcs) a.left k.0);
        right = All-weaker Passed (WordPasses (is_place funcs) (function_words names)) (word_passes funcs) (functions_in a.right) (term_passes (is_function names funcs) a.right k.1);
      }

  atoms_pass : (funcs : List ℕ) (atoms : List Atom) → IsTrue (list_all (atom_applies (is_function names funcs)) atoms) → All (WordsOfAtomPass (is_place funcs) (function_words names)) atoms
  atoms_pass funcs [] h = All-nil (WordsOfAtomPass (is_place funcs) (function_words names))
  atoms_pass funcs (a ∷ atoms) h =
      let k = both _ _ h in
      All-cons (WordsOfAtomPass (is_place funcs) (function_words names)) a atoms (atom_passes funcs a k.0) (atoms_pass funcs atoms k.1)

pub clauses_pass : ClausesPass
clauses_pass names funcs c made h =
    let k = both _ _ h in
    record { guard = atoms_pass names made funcs c.guard k.0; head = atoms_pass names made funcs c.head k.1 }
