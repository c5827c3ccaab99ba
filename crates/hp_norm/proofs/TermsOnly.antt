-- Naming terms makes definitions by applications of the functions that they apply, and of no other ones.
use Rattle.std.proofs.Common.{◌≡◌, ◌++◌, ℕ, List, [], ◌∷◌, map, length, Bool, true, Option, Some, None, Ok, slice_get, refl, sym, ap, subst, ◌∙◌}
use Rattle.std.specs.Prelude.{position}
use Rattle.std.specs.Str.{bytes_eq}
use Rattle.std.specs.List.{All}
use Rattle.std.proofs.lemmas.List.{drop_at, take_at}
use Rattle.std.proofs.lemmas.List.Elements.{All-drop, All-head, All-tail, All-take}
use Rattle.hp_tree.specs.declared.term.Term.{Term, Number, Null, Name, Add, Sub, Neg, Scale, fold-roll-Term, map-Term}
use Rattle.hp_tree.specs.declared.term.Term.TheOpen.{Term-F}
use Rattle.hp_tree.specs.declared.problem.Sort.{Sort}
use Rattle.hp_tree.specs.declared.problem.Atom.{Atom}
use Rattle.hp_tree.specs.Value.{Word}
use Rattle.hp_terms.specs.Occurring.{functions_in, functions_step, joined}
use Rattle.hp_index.proofs.Layers.{Parts, bare, by_layers}
use Rattle.hp_lit.specs.declared.line.Arg.{Arg}
use Rattle.hp_defs.specs.declared.names.Ground.{Ground}
use Rattle.hp_defs.specs.declared.names.Signature.{Signature}
use Rattle.hp_defs.specs.Names.{function_words, signature_name}
use Rattle.hp_base.specs.Making.{Begins, Maker, ◌then◌, each, keep}
use Rattle.hp_base.specs.Defining.{definition_of}
use Rattle.hp_base.specs.Arguments.{argument_of}
use Rattle.hp_base.proofs.Growing.{came}
use Rattle.hp_norm.specs.Naming.{applied, applied_at, arguments, name_step, name_term, named, named_atom, named_atoms, one, placed, placed_argument, signed, two}
use Rattle.hp_norm.specs.Laws.{AtomsMakeOnly, WordPasses, WordsOfAtomPass}
use Rattle.hp_norm.proofs.MakingOnly.{GrowsOnly, Only, argument_only, definition_only, only_through, then_only, value_only}

-- ---- parts of lists
front : {X : Type 0} (P : X → Type 0) (xs ys : List X) → All P (xs ++ ys) → All P xs
front P xs ys h = subst (All P) (take_at xs ys (length xs) refl) (All-take P (length xs) (xs ++ ys) h)

back : {X : Type 0} (P : X → Type 0) (xs ys : List X) → All P (xs ++ ys) → All P ys
back P xs ys h = subst (All P) (drop_at xs ys (length xs) refl) (All-drop P (length xs) (xs ++ ys) h)

module _ (test : ℕ → Bool) (functions : List Word) (item : ℕ) where
  abbrev Passes : Word → Type 0
  Passes word = WordPasses test functions word

  -- from ground sets with these functions
  abbrev OnlyFrom : {A : Type 0} → Maker A → Type 0
  OnlyFrom {A} m = (old new : Ground) (x : A) → function_words old.names ≡ functions → m old ≡ Ok (x, new) → GrowsOnly test old new

  -- what holds from all ground sets
  always : {A : Type 0} (m : Maker A) → Only test m → OnlyFrom m
  always m p old new x same e = p old new x e

  same_functions : (old mid : Ground) → Begins old mid → function_words old.names ≡ functions → function_words mid.names ≡ functions
  same_functions old mid b same = ap (λ (ss : List Signature). map signature_name ss) b.signatures ∙ same

  then_from : {A B : Type 0} (m : Maker A) (f : A → Maker B) → OnlyFrom m → ((x : A) → OnlyFrom (f x)) → OnlyFrom (λ g. m g then f)
  then_from m f p q old new y same e =
      let c = came (m old) f y new e in
      let first = p old c.mid c.value same c.first in
      only_through test old c.mid new first (q c.value c.mid new y (same_functions old c.mid first.begins same) c.rest)

  abbrev IsOnly : Term → Type 0
  IsOnly term = All Passes (functions_in term) → OnlyFrom (named item term)

  abbrev terms : List (Parts IsOnly) → List Term
  terms args = map (λ (e : Parts IsOnly). e.0) args

  -- ---- arguments
  placed_only : (m : Maker Term) (sort : Sort) → OnlyFrom m → OnlyFrom (placed_argument item (record { named = m; sort = sort }))
  placed_only m sort p = then_from m (λ term. argument_of item sort term) p (λ term. always (argument_of item sort term) (argument_only test item sort term))

  args_only : (args : List (Parts IsOnly)) (sorts : List Sort) → All Passes (joined (map functions_in (terms args))) → OnlyFrom (arguments item sorts (map (named item) (terms args)))
  args_only [] [] all = always _ (value_only test [])
  args_only [] (sort ∷ sorts) all = always _ (value_only test [])
  args_only (arg ∷ args) [] all = always _ (value_only test [])
  args_only (arg ∷ args) (sort ∷ sorts) all =
      let more = each (placed_argument item) (placed (map (named item) (terms args)) sorts) in
      let own = arg.1 (front Passes (functions_in arg.0) (joined (map functions_in (terms args))) all) in
      let rest = args_only args sorts (back Passes (functions_in arg.0) (joined (map functions_in (terms args))) all) in
      then_from (placed_argument item (record { named = named item arg.0; sort = sort })) (λ x. λ mid. more mid then λ xs. λ end. Ok (x ∷ xs, end))
      (placed_only (named item arg.0) sort own)
      (λ x. then_from more (λ xs. λ end. Ok (x ∷ xs, end)) rest (λ xs. always _ (value_only test (x ∷ xs))))

  -- ---- applications
  name_only : (func : ℕ) (xs : List Arg) → test func ≡ true → Only test (λ mid. definition_of func xs mid then λ name. λ end. Ok (name_term end.names name, end))
  name_only func xs passes old new x e =
      then_only test (definition_of func xs) (λ name. λ end. Ok (name_term end.names name, end)) (definition_only test func xs passes)
      (λ name. λ o n y f. value_only test (name_term o.names name) o n y f) old new x e

  signed_only : (args : List (Parts IsOnly)) (func : ℕ) (signature : Option Signature) → test func ≡ true → All Passes (joined (map functions_in (terms args)))
      → OnlyFrom (signed item (map (named item) (terms args)) func signature)
  signed_only args func None passes all = always _ (value_only test Null)
  signed_only args func (Some signature) passes all =
      then_from (arguments item signature.args (map (named item) (terms args))) (λ xs. λ mid. definition_of func xs mid then λ name. λ end. Ok (name_term end.names name, end))
      (args_only args signature.args all) (λ xs. always _ (name_only func xs passes))

  applied_only : (word : Word) (args : List (Parts IsOnly)) → Passes word → All Passes (joined (map functions_in (terms args))) → OnlyFrom (applied item word (map (named item) (terms args)))
  applied_only word args passes all old new x same = by (position (bytes_eq word) (function_words old.names)) refl
    where
      by : (o : Option ℕ) → position (bytes_eq word) (function_words old.names) ≡ o → applied_at item (map (named item) (terms args)) o old ≡ Ok (x, new) → GrowsOnly test old new
      by None f e = value_only test Null old new x e
      by (Some func) f e =
          signed_only args func (slice_get old.names.signatures func) (passes func (ap (position (bytes_eq word)) (sym same) ∙ f)) all old new x same e

  -- ---- terms
  one_only : (build : Term → Term) (m : Maker Term) → OnlyFrom m → OnlyFrom (one build m)
  one_only build m p = then_from m (λ x. keep (build x)) p (λ x. always _ (value_only test (build x)))

  two_only : (build : Term → Term → Term) (m n : Maker Term) → OnlyFrom m → OnlyFrom n → OnlyFrom (two build m n)
  two_only build m n p q =
      then_from m (λ x. λ mid. n mid then λ y. keep (build x y)) p (λ x. then_from n (λ y. keep (build x y)) q (λ y. always _ (value_only test (build x y))))

  step_only : (y : Term-F (Parts IsOnly)) → All Passes (functions_step (map-Term Term (List Word) functions_in (bare IsOnly y)))
      → OnlyFrom (name_step item (map-Term Term (Maker Term) (named item) (bare IsOnly y)))
  step_only (Term-F.Number q) all = always _ (value_only test (Number q))
  step_only Term-F.Null all = always _ (value_only test Null)
  step_only (Term-F.Name word) all = always _ (value_only test (Name word))
  step_only (Term-F.Apply word args) all =
      applied_only word args (All-head Passes word (joined (map functions_in (terms args))) all) (All-tail Passes word (joined (map functions_in (terms args))) all)
  step_only (Term-F.Add a b) all =
      two_only Add (named item a.0) (named item b.0) (a.1 (front Passes (functions_in a.0) (functions_in b.0) all)) (b.1 (back Passes (functions_in a.0) (functions_in b.0) all))
  step_only (Term-F.Sub a b) all =
      two_only Sub (named item a.0) (named item b.0) (a.1 (front Passes (functions_in a.0) (functions_in b.0) all)) (b.1 (back Passes (functions_in a.0) (functions_in b.0) all))
  step_only (Term-F.Neg a) all = one_only Neg (named item a.0) (a.1 all)
  step_only (Term-F.Scale q a) all = one_only (Scale q) (named item a.0) (a.1 all)

  pub terms_make_only : (term : Term) → IsOnly term
  terms_make_only term = by_layers IsOnly (λ y all old new x same e.
      step_only y (subst (All Passes) (fold-roll-Term (List Word) functions_step (bare IsOnly y)) all) old new x same
      (sym (ap (λ (m : Maker Term). m old) (fold-roll-Term (Maker Term) (name_step item) (bare IsOnly y))) ∙ e)) term

  -- ---- atoms
  abbrev AtomPasses : Atom → Type 0
  AtomPasses atom = WordsOfAtomPass test functions atom

  atom_only : (atom : Atom) → AtomPasses atom → OnlyFrom (named_atom item atom)
  atom_only atom passes =
      then_from (named item atom.left) (λ left. λ mid. named item atom.right mid then λ right. keep (record { left = left; cmp = atom.cmp; right = right }))
      (terms_make_only atom.left passes.left)
      (λ left. then_from (named item atom.right) (λ right. keep (record { left = left; cmp = atom.cmp; right = right })) (terms_make_only atom.right passes.right)
      (λ right. always _ (value_only test (record { left = left; cmp = atom.cmp; right = right }))))

  pub atoms_only : (atoms : List Atom) → All AtomPasses atoms → OnlyFrom (named_atoms item atoms)
  atoms_only [] all = always _ (value_only test [])
  atoms_only (atom ∷ atoms) all =
      then_from (named_atom item atom) (λ y. λ mid. each (named_atom item) atoms mid then λ ys. λ end. Ok (y ∷ ys, end)) (atom_only atom (All-head AtomPasses atom atoms all))
      (λ y. then_from (each (named_atom item) atoms) (λ ys. λ end. Ok (y ∷ ys, end)) (atoms_only atoms (All-tail AtomPasses atom atoms all)) (λ ys. always _ (value_only test (y ∷ ys))))

pub atoms_make_only : AtomsMakeOnly
atoms_make_only test item atoms flats before after e passes = (atoms_only test (function_words before.names) item atoms passes before after flats refl e).only
