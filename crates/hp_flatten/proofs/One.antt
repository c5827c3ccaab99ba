-- A flattened clause has one application, that of the function at the words of its arguments.
use Rattle.std.proofs.Common.{◌≡◌, ◌≤◌, ℕ, suc, Bool, true, false, List, [], ◌∷◌, ◌++◌, map, length, refl, sym, ap, subst, ◌∙◌, arith}
use Rattle.std.specs.Prelude.{if◌then◌else◌, take}
use Rattle.std.specs.List.{All}
use Rattle.std.specs.Str.{bytes_eq}
use Rattle.std.proofs.lemmas.List.{length-append, map-append}
use Rattle.std.proofs.lemmas.List.Elements.{All-nil, All-cons, All-head, All-append}
use Rattle.std.proofs.lemmas.Slice.Eq.{bytes_eq-Decides}
use Rattle.hp_tree.specs.declared.term.Term.{Term, Name, Apply, fold-roll-Term, map-Term, roll-Term}
use Rattle.hp_tree.specs.declared.term.Term.TheOpen.{Term-F}
use Rattle.hp_tree.specs.declared.term.Term.TheVariants.{rolls-Number, rolls-Null, rolls-Name, rolls-Apply, rolls-Add, rolls-Sub, rolls-Neg, rolls-Scale}
use Rattle.hp_tree.specs.declared.problem.Atom.{Atom}
use Rattle.hp_tree.specs.declared.problem.Cmp.TheVariants.{Eq}
use Rattle.hp_tree.specs.declared.problem.Var.{Var}
use Rattle.hp_tree.specs.Value.{Word}
use Rattle.hp_terms.specs.Occurring.{joined}
use Rattle.hp_index.proofs.Layers.{Parts, bare, by_layers}
use Rattle.hp_local.specs.Rows.{argument_words}
use Rattle.hp_flatten.specs.declared.application.Application.{Application}
use Rattle.hp_flatten.specs.Applications.{applications, applications_step, atoms_applications}
use Rattle.hp_flatten.specs.Flattening.{argument_names, argument_word, at_words, equalities, equalities_from, equality, flat_atom, flat_step, flat_term, is_first}
use Rattle.hp_flatten.specs.Laws.{FlattenedHasOne}
use Rattle.hp_flatten.proofs.HoldsTerms.{applications_apply, applications_at, back, front}

-- ---- names
pub name_has_none : (word : Word) → applications (Name word) ≡ []
name_has_none word = ap applications (sym (rolls-Name word)) ∙ applications_at (Term-F.Name word)

names_have_none : (words : List Word) → joined (map applications (map Name words)) ≡ []
names_have_none [] = refl
names_have_none (word ∷ words) = λ i. name_has_none word i ++ names_have_none words i

-- ---- lists with one element at most
empty : {X : Type 0} (xs : List X) → suc (length xs) ≤ 1 → xs ≡ []
empty [] l = refl
empty (x ∷ xs) l = absurd (omega arith)

-- the arguments of an application have none
abbrev HasNone : Application → Type 0
HasNone x = joined (map applications x.args) ≡ []

abbrev AreBare : List Application → Type 0
AreBare xs = length xs ≤ 1 → All HasNone xs

both_bare : (xs ys : List Application) → AreBare xs → AreBare ys → AreBare (xs ++ ys)
both_bare xs ys one other few = let sum = length-append xs ys in All-append HasNone xs ys (one (omega arith)) (other (omega arith))

none_bare : AreBare []
none_bare few = All-nil HasNone

apply_bare : (func : Word) (args : List Term) → AreBare (record { func = func; args = args } ∷ joined (map applications args))
apply_bare func args few =
    let none = empty (joined (map applications args)) few in
    All-cons HasNone (record { func = func; args = args }) (joined (map applications args)) none (subst (All HasNone) (sym none) (All-nil HasNone))

abbrev IsBare : Term → Type 0
IsBare t = AreBare (applications t)

layer_bare : (y : Term-F (Parts IsBare)) → AreBare (applications (roll-Term (bare IsBare y)))
layer_bare (Term-F.Number q) = subst AreBare (sym (applications_at (Term-F.Number q))) none_bare
layer_bare Term-F.Null = subst AreBare (sym (applications_at Term-F.Null)) none_bare
layer_bare (Term-F.Name word) = subst AreBare (sym (applications_at (Term-F.Name word))) none_bare
layer_bare (Term-F.Apply func args) =
    let terms : List Term = map (λ (e : Parts IsBare). e.0) args in
    subst AreBare (sym (applications_apply func terms)) (apply_bare func terms)
layer_bare (Term-F.Add e f) = subst AreBare (sym (applications_at (Term-F.Add e.0 f.0))) (both_bare (applications e.0) (applications f.0) e.1 f.1)
layer_bare (Term-F.Sub e f) = subst AreBare (sym (applications_at (Term-F.Sub e.0 f.0))) (both_bare (applications e.0) (applications f.0) e.1 f.1)
layer_bare (Term-F.Neg e) = subst AreBare (sym (applications_at (Term-F.Neg e.0))) e.1
layer_bare (Term-F.Scale q e) = subst AreBare (sym (applications_at (Term-F.Scale q e.0))) e.1

term_bare : (t : Term) → IsBare t
term_bare t = by_layers IsBare layer_bare t

atoms_bare : (atoms : List Atom) → AreBare (atoms_applications atoms)
atoms_bare [] = none_bare
atoms_bare (atom ∷ atoms) =
    let own = both_bare (applications atom.left) (applications atom.right) (term_bare atom.left) (term_bare atom.right) in
    both_bare (applications atom.left ++ applications atom.right) (atoms_applications atoms) own (atoms_bare atoms)

-- the one application of a clause
pub one_has_none : (guard head : List Atom) (a : Application) → atoms_applications guard ++ atoms_applications head ≡ a ∷ [] → joined (map applications a.args) ≡ []
one_has_none guard head a one =
    All-head HasNone a [] (subst AreBare one (both_bare (atoms_applications guard) (atoms_applications head) (atoms_bare guard) (atoms_bare head)) (omega arith))

-- ---- what becomes of applications
module _ (a : Application) (vars : List Var) where
  abbrev flat : Term → Term
  flat = flat_term a vars

  abbrev pub IsIt : Application → Type 0
  IsIt x = x ≡ a

  -- at most one, and this one
  record IsLone (xs : List Application) : Type 0 where
    pub few : length xs ≤ 1
    pub it : All IsIt xs

  abbrev moved : List Application → List Application
  moved xs = map (λ x. at_words a.func (length a.args)) xs

  first_lone : (xs ys : List Application) → IsLone (xs ++ ys) → IsLone xs
  first_lone xs ys h = let sum = length-append xs ys in let few = h.few in record { few = omega arith; it = front IsIt xs ys h.it }

  last_lone : (xs ys : List Application) → IsLone (xs ++ ys) → IsLone ys
  last_lone xs ys h = let sum = length-append xs ys in let few = h.few in record { few = omega arith; it = back IsIt xs ys h.it }

  abbrev IsMoved : Term → Type 0
  IsMoved t = IsLone (applications t) → applications (flat t) ≡ moved (applications t)

  abbrev one_at : Term-F Term → Term
  one_at z = flat_step a vars (map-Term Term Term flat z)

  both_moved : (e f : Parts IsMoved) → IsLone (applications e.0 ++ applications f.0) → applications (flat e.0) ++ applications (flat f.0) ≡ moved (applications e.0 ++ applications f.0)
  both_moved e f lone =
      (let first = e.1 (first_lone (applications e.0) (applications f.0) lone) in
      let last = f.1 (last_lone (applications e.0) (applications f.0) lone) in
      λ i. first i ++ last i)
      ∙ sym (map-append (λ x. at_words a.func (length a.args)) (applications e.0) (applications f.0))

  apply_moved : (func : Word) (args flats : List Term) → IsLone (record { func = func; args = args } ∷ joined (map applications args))
      → applications (Apply func (if bytes_eq func a.func then argument_names (length a.args) else flats)) ≡ moved (record { func = func; args = args } ∷ joined (map applications args))
  apply_moved func args flats lone =
      let is = All-head IsIt (record { func = func; args = args }) (joined (map applications args)) lone.it in
      let few = lone.few in
      let none = empty (joined (map applications args)) few in
      let same : func ≡ a.func = ap (λ (x : Application). x.func) is in
      let test : bytes_eq func a.func ≡ true = (bytes_eq-Decides func a.func).1 same in
      let names = argument_names (length a.args) in
      ap (λ b. applications (Apply func (if b then names else flats))) test
      ∙ ap applications (sym (rolls-Apply func names))
      ∙ applications_apply func names
      ∙ (λ i. record { func = same i; args = names } ∷ names_have_none (take (length a.args) argument_words) i)
      ∙ ap (λ xs. at_words a.func (length a.args) ∷ moved xs) (sym none)

  layer_moved : (y : Term-F (Parts IsMoved)) → let z = bare IsMoved y in
      IsLone (applications_step (roll-Term z) (map-Term Term (List Application) applications z)) → applications (one_at z) ≡ moved (applications_step (roll-Term z) (map-Term Term (List Application) applications z))
  layer_moved (Term-F.Number q) lone = ap applications (sym (rolls-Number q)) ∙ applications_at (Term-F.Number q)
  layer_moved Term-F.Null lone = ap applications (sym rolls-Null) ∙ applications_at Term-F.Null
  layer_moved (Term-F.Name word) lone = name_has_none _
  layer_moved (Term-F.Apply func args) lone =
      let terms : List Term = map (λ (e : Parts IsMoved). e.0) args in
      let is = sym (applications_at (Term-F.Apply func terms)) ∙ applications_apply func terms in
      apply_moved func terms (map flat terms) (subst IsLone is lone) ∙ ap moved (sym is)
  layer_moved (Term-F.Add e f) lone = ap applications (sym (rolls-Add (flat e.0) (flat f.0))) ∙ applications_at (Term-F.Add (flat e.0) (flat f.0)) ∙ both_moved e f lone
  layer_moved (Term-F.Sub e f) lone = ap applications (sym (rolls-Sub (flat e.0) (flat f.0))) ∙ applications_at (Term-F.Sub (flat e.0) (flat f.0)) ∙ both_moved e f lone
  layer_moved (Term-F.Neg e) lone = ap applications (sym (rolls-Neg (flat e.0))) ∙ applications_at (Term-F.Neg (flat e.0)) ∙ e.1 lone
  layer_moved (Term-F.Scale q e) lone = ap applications (sym (rolls-Scale q (flat e.0))) ∙ applications_at (Term-F.Scale q (flat e.0)) ∙ e.1 lone

  term_moved : (t : Term) → IsMoved t
  term_moved t = by_layers IsMoved (λ y lone.
      let is = applications_at (bare IsMoved y) in
      ap applications (fold-roll-Term Term (flat_step a vars) (bare IsMoved y)) ∙ layer_moved y (subst IsLone is lone) ∙ ap moved (sym is)) t

  atoms_moved : (atoms : List Atom) → IsLone (atoms_applications atoms) → atoms_applications (map (flat_atom a vars) atoms) ≡ moved (atoms_applications atoms)
  atoms_moved [] lone = refl
  atoms_moved (atom ∷ atoms) lone =
      let own = applications atom.left ++ applications atom.right in
      let first = first_lone own (atoms_applications atoms) lone in
      let sides = both_moved (atom.left, term_moved atom.left) (atom.right, term_moved atom.right) first in
      let rest = atoms_moved atoms (last_lone own (atoms_applications atoms) lone) in
      (λ i. sides i ++ rest i) ∙ sym (map-append (λ x. at_words a.func (length a.args)) own (atoms_applications atoms))

  -- ---- equalities
  lone_none : IsLone []
  lone_none = record { few = omega arith; it = All-nil IsIt }

  equality_has_none : (k : ℕ) (t : Term) → applications t ≡ [] → atoms_applications (equality a vars k t) ≡ []
  equality_has_none k t none = by (is_first vars a.args k t)
    where
      is : applications (flat t) ≡ []
      is = term_moved t (subst IsLone (sym none) lone_none) ∙ ap moved none

      by : (b : Bool) → atoms_applications (if b then [] else record { left = Name (argument_word k); cmp = Eq; right = flat t } ∷ []) ≡ []
      by true = refl
      by false = λ i. (name_has_none (argument_word k) i ++ is i) ++ []

  front_none : {X : Type 0} (xs ys : List X) → xs ++ ys ≡ [] → xs ≡ []
  front_none [] ys e = refl
  front_none (x ∷ xs) ys e = absurd (cc)

  back_none : {X : Type 0} (xs ys : List X) → xs ++ ys ≡ [] → ys ≡ []
  back_none [] ys e = e
  back_none (x ∷ xs) ys e = absurd (cc)

  atoms_joined : (xs ys : List Atom) → atoms_applications xs ≡ [] → atoms_applications (xs ++ ys) ≡ atoms_applications ys
  atoms_joined [] ys none = refl
  atoms_joined (x ∷ xs) ys none =
      let own = applications x.left ++ applications x.right in
      let first = front_none own (atoms_applications xs) none in
      let rest = atoms_joined xs ys (back_none own (atoms_applications xs) none) in
      λ i. first i ++ rest i

  behind_none : (xs ys : List Atom) → atoms_applications ys ≡ [] → atoms_applications (xs ++ ys) ≡ atoms_applications xs
  behind_none [] ys none = none
  behind_none (x ∷ xs) ys none = ap (λ zs. (applications x.left ++ applications x.right) ++ zs) (behind_none xs ys none)

  equalities_have_none : (k : ℕ) (terms : List Term) → joined (map applications terms) ≡ [] → atoms_applications (equalities_from a vars k terms) ≡ []
  equalities_have_none k [] none = refl
  equalities_have_none k (t ∷ terms) none =
      let own = equality_has_none k t (front_none (applications t) (joined (map applications terms)) none) in
      atoms_joined (equality a vars k t) (equalities_from a vars (suc k) terms) own
      ∙ equalities_have_none (suc k) terms (back_none (applications t) (joined (map applications terms)) none)

  -- ---- clauses
  pub clause_moved : (guard head : List Atom) → atoms_applications guard ++ atoms_applications head ≡ a ∷ []
      → atoms_applications (map (flat_atom a vars) guard ++ equalities a vars) ++ atoms_applications (map (flat_atom a vars) head) ≡ at_words a.func (length a.args) ∷ []
  clause_moved guard head one =
      let lone : IsLone (atoms_applications guard ++ atoms_applications head) = subst IsLone (sym one) (record { few = omega arith; it = All-cons IsIt a [] refl (All-nil IsIt) }) in
      let none = equalities_have_none 0 a.args (one_has_none guard head a one) in
      let first = behind_none (map (flat_atom a vars) guard) (equalities a vars) none ∙ atoms_moved guard (first_lone (atoms_applications guard) (atoms_applications head) lone) in
      let last = atoms_moved head (last_lone (atoms_applications guard) (atoms_applications head) lone) in
      (λ i. first i ++ last i) ∙ sym (map-append (λ x. at_words a.func (length a.args)) (atoms_applications guard) (atoms_applications head)) ∙ ap moved one

pub flattened_has_one : FlattenedHasOne
flattened_has_one c a one = clause_moved a c.vars c.guard c.head one
