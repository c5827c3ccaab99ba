-- The head of a clause of cases: one atom, with the function at the words of the arguments alone on one side, and the bound on the other.
use Rattle.std.proofs.Common.{◌≡◌, ◌∙◌, ◌⊎◌, inl, inr, ℕ, List, [], ◌∷◌, ◌++◌, map, Bool, true, false, append-nil, append_assoc, Some, None, refl, sym, ap, subst}
use Rattle.std.specs.List.{list_all}
use Rattle.std.specs.Prelude.{if◌then◌else◌}
use Rattle.std.proofs.lemmas.Bool.{and_from}
use Rattle.std.proofs.lemmas.Option.{same_Some}
use Rattle.hp_tree.specs.declared.term.Term.{Term, Apply, Name, fold-roll-Term, ind-Term, map-Term, out-Term, out-roll-Term, roll-Term}
use Rattle.hp_tree.specs.declared.term.Term.TheOpen.{Term-F}
use Rattle.hp_tree.specs.declared.term.Term.TheVariants.{rolls-Apply, rolls-Name}
use Rattle.hp_tree.specs.declared.problem.Atom.{Atom}
use Rattle.hp_tree.specs.declared.problem.Cmp.{Cmp}
use Rattle.hp_tree.specs.declared.problem.Cmp.TheVariants.{Le, Lt, Eq, Ne, Ge, Gt}
use Rattle.hp_tree.specs.Value.{Word}
use Rattle.hp_local.specs.Applied.{applies_only, applies_step, atom_applies, clause_applies}
use Rattle.hp_norm.specs.declared.flat.FlatClause.{FlatClause}
use Rattle.hp_norm.specs.Flat.{universal_of}
use Rattle.hp_terms.specs.Occurring.{joined}
use Rattle.hp_flatten.specs.declared.application.Application.{Application}
use Rattle.hp_flatten.specs.Applications.{applications, atoms_applications}
use Rattle.hp_flatten.specs.Flattening.{argument_names, at_words}
use Rattle.hp_flatten.proofs.HoldsTerms.{applications_apply}
use Rattle.hp_cases.specs.declared.case.Bound.{Bound}
use Rattle.hp_cases.specs.declared.case.Bound.TheVariants.{Low, High, Same}
use Rattle.hp_cases.specs.Bounds.{applies_it, atom_value, bound_left, bound_right, head_bound, head_value}
use Rattle.hp_cases.specs.Cases.{bound_term}
use Rattle.hp_cases.proofs.Applied.{bare_atoms_apply, both_none}

-- ---- terms
pub roll_out : (t : Term) → roll-Term (out-Term t) ≡ t
roll_out t =
    ind-Term (λ s. roll-Term (out-Term s) ≡ s)
    (λ x y is. subst (λ z. roll-Term (out-Term (roll-Term z)) ≡ roll-Term z) is (ap roll-Term (out-roll-Term (map-Term ((s : Term) × (roll-Term (out-Term s) ≡ s)) Term (λ e. e.0) y)))) t

record IsApplied (t : Term) : Type 0 where
  pub func : Word
  pub args : List Term
  pub is : roll-Term (Term-F.Apply func args) ≡ t

layer_applied : (word : Word) (z : Term-F Term) (t : Term) → roll-Term z ≡ t → applies_it word z ≡ true → IsApplied t
layer_applied word (Term-F.Apply func args) t is e = record { func = func; args = args; is = is }
layer_applied word (Term-F.Number q) t is e = absurd (cc)
layer_applied word Term-F.Null t is e = absurd (cc)
layer_applied word (Term-F.Name n) t is e = absurd (cc)
layer_applied word (Term-F.Add a b) t is e = absurd (cc)
layer_applied word (Term-F.Sub a b) t is e = absurd (cc)
layer_applied word (Term-F.Neg a) t is e = absurd (cc)
layer_applied word (Term-F.Scale q a) t is e = absurd (cc)

-- ---- heads
pub record IsOnLeft (func : Word) (count : ℕ) (atom : Atom) (bound : Bound) : Type 0 where
  pub left : atom.left ≡ Apply func (argument_names count)
  pub bound_is : bound_right atom.cmp atom.right ≡ Some bound
  pub other : bound_term bound ≡ atom.right

pub record IsOnRight (func : Word) (count : ℕ) (atom : Atom) (bound : Bound) : Type 0 where
  pub right : atom.right ≡ Apply func (argument_names count)
  pub bound_is : bound_left atom.cmp atom.left ≡ Some bound
  pub other : bound_term bound ≡ atom.left

pub record IsHead (func : Word) (count : ℕ) (head : List Atom) (bound : Bound) : Type 0 where
  pub atom : Atom
  pub head_is : head ≡ atom ∷ []
  pub side : IsOnLeft func count atom bound ⊎ IsOnRight func count atom bound

term_of : (b c : Bound) → Some b ≡ Some c → bound_term b ≡ bound_term c
term_of b c e = ap bound_term (same_Some b c e)

right_is : (cmp : Cmp) (t : Term) (bound : Bound) → bound_right cmp t ≡ Some bound → bound_term bound ≡ t
right_is Le t bound e = sym (term_of (High t) bound e)
right_is Ge t bound e = sym (term_of (Low t) bound e)
right_is Eq t bound e = sym (term_of (Same t) bound e)
right_is Lt t bound e = absurd (cc)
right_is Gt t bound e = absurd (cc)
right_is Ne t bound e = absurd (cc)

left_is : (cmp : Cmp) (t : Term) (bound : Bound) → bound_left cmp t ≡ Some bound → bound_term bound ≡ t
left_is Le t bound e = sym (term_of (Low t) bound e)
left_is Ge t bound e = sym (term_of (High t) bound e)
left_is Eq t bound e = sym (term_of (Same t) bound e)
left_is Lt t bound e = absurd (cc)
left_is Gt t bound e = absurd (cc)
left_is Ne t bound e = absurd (cc)

pub head_of : (func : Word) (count : ℕ) (head : List Atom) (bound : Bound) → head_bound func head ≡ Some bound → head_value func head ≡ Some (Apply func (argument_names count)) → IsHead func count head bound
head_of func count [] bound b v = absurd (cc)
head_of func count (atom ∷ []) bound b v =
    record { atom = atom; head_is = refl; side = by (applies_it func (out-Term atom.left)) (applies_it func (out-Term atom.right)) b (same_Some (atom_value func atom) (Apply func (argument_names count)) v) }
  where
    by : (p q : Bool) → (if p then bound_right atom.cmp atom.right else if q then bound_left atom.cmp atom.left else None) ≡ Some bound
        → (if p then atom.left else atom.right) ≡ Apply func (argument_names count) → IsOnLeft func count atom bound ⊎ IsOnRight func count atom bound
    by true q b v = inl (record { left = v; bound_is = b; other = right_is atom.cmp atom.right bound b })
    by false true b v = inr (record { right = v; bound_is = b; other = left_is atom.cmp atom.left bound b })
    by false false b v = absurd (cc)
head_of func count (atom ∷ other ∷ atoms) bound b v = absurd (cc)

-- ---- clauses with one application
pub one_of : {X : Type 0} (xs : List X) (y : X) (ys : List X) (z : X) → xs ++ y ∷ ys ≡ z ∷ [] → (xs ≡ []) × (y ≡ z) × (ys ≡ [])
one_of [] y ys z e = (refl, cc, cc)
one_of (x ∷ xs) y ys z e = (let rest : xs ++ y ∷ ys ≡ [] = cc in let none = both_none xs (y ∷ ys) rest in let no = none.1 in absurd (cc))

module _ (func : Word) (count : ℕ) (guard : List Atom) (atom : Atom) (bound : Bound)
    (one : atoms_applications guard ++ atoms_applications (atom ∷ []) ≡ at_words func count ∷ []) where
  abbrev l : List Application
  l = applications atom.left

  abbrev r : List Application
  r = applications atom.right

  written : (t : Term) (a : IsApplied t) → record { func = a.func; args = a.args } ≡ at_words func count → t ≡ Apply func (argument_names count)
  written t a same = sym a.is ∙ ap (λ (x : Application). roll-Term (Term-F.Apply x.func x.args)) same ∙ rolls-Apply func (argument_names count)

  on_left : IsApplied atom.left → (atoms_applications guard ≡ []) × (atom.left ≡ Apply func (argument_names count))
  on_left a =
      let is : l ≡ record { func = a.func; args = a.args } ∷ joined (map applications a.args) = ap applications (sym a.is) ∙ applications_apply a.func a.args in
      let w = one_of (atoms_applications guard) (record { func = a.func; args = a.args }) ((joined (map applications a.args) ++ r) ++ []) (at_words func count)
      (ap (λ (xs : List Application). atoms_applications guard ++ ((xs ++ r) ++ [])) (sym is) ∙ one) in
      (w.0, written atom.left a w.1)

  on_right : IsApplied atom.right → (atoms_applications guard ≡ []) × (atom.right ≡ Apply func (argument_names count))
  on_right a =
      let G = atoms_applications guard in
      let rest = joined (map applications a.args) in
      let is : r ≡ record { func = a.func; args = a.args } ∷ rest = ap applications (sym a.is) ∙ applications_apply a.func a.args in
      let w = one_of (G ++ l) (record { func = a.func; args = a.args }) rest (at_words func count)
      (append_assoc G l (record { func = a.func; args = a.args } ∷ rest) ∙ ap (λ (xs : List Application). G ++ (l ++ xs)) (sym is)
      ∙ ap (λ (xs : List Application). G ++ xs) (sym (append-nil (l ++ r))) ∙ one) in
      ((both_none G l w.0).0, written atom.right a w.1)

  by_sides : (p q : Bool) → applies_it func (out-Term atom.left) ≡ p → applies_it func (out-Term atom.right) ≡ q
      → (if p then bound_right atom.cmp atom.right else if q then bound_left atom.cmp atom.left else None) ≡ Some bound
      → (atoms_applications guard ≡ []) × ((if p then atom.left else atom.right) ≡ Apply func (argument_names count))
  by_sides true q p_is q_is b = on_left (layer_applied func (out-Term atom.left) atom.left (roll_out atom.left) p_is)
  by_sides false true p_is q_is b = on_right (layer_applied func (out-Term atom.right) atom.right (roll_out atom.right) q_is)
  by_sides false false p_is q_is b = absurd (cc)

-- the guard has none, and the head compares it with the bound
pub one_application : (func : Word) (count : ℕ) (guard head : List Atom) (bound : Bound) → head_bound func head ≡ Some bound → atoms_applications guard ++ atoms_applications head ≡ at_words func count ∷ []
    → (atoms_applications guard ≡ []) × (head_value func head ≡ Some (Apply func (argument_names count)))
one_application func count guard [] bound b one = absurd (cc)
one_application func count guard (atom ∷ []) bound b one =
    (let w = by_sides func count guard atom bound one (applies_it func (out-Term atom.left)) (applies_it func (out-Term atom.right)) refl refl b in (w.0, ap (λ t. Some t) w.1))
one_application func count guard (atom ∷ other ∷ atoms) bound b one = absurd (cc)

-- ---- the function and lower ones are all that is applied
names_pass : (test : Word → Bool) (words : List Word) → list_all (λ b. b) (map (applies_only test) (map Name words)) ≡ true
names_pass test [] = refl
names_pass test (word ∷ words) =
    and_from (applies_only test (Name word)) (list_all (λ b. b) (map (applies_only test) (map Name words)))
    (ap (applies_only test) (sym (rolls-Name word)) ∙ fold-roll-Term Bool (applies_step test) (Term-F.Name word)) (names_pass test words)

value_passes : (test : Word → Bool) (func : Word) (words : List Word) → test func ≡ true → applies_only test (Apply func (map Name words)) ≡ true
value_passes test func words own =
    ap (applies_only test) (sym (rolls-Apply func (map Name words))) ∙ fold-roll-Term Bool (applies_step test) (Term-F.Apply func (map Name words))
    ∙ and_from (test func) (list_all (λ b. b) (map (applies_only test) (map Name words))) own (names_pass test words)

module _ (test : Word → Bool) (func : Word) (count : ℕ) (bound : Bound) (own : test func ≡ true) (lower : applies_only test (bound_term bound) ≡ true) where
  atom_passes : (atom : Atom) → IsOnLeft func count atom bound ⊎ IsOnRight func count atom bound → atom_applies test atom ≡ true
  atom_passes atom (inl h) =
      and_from (applies_only test atom.left) (applies_only test atom.right) (ap (applies_only test) h.left ∙ value_passes test func _ own) (ap (applies_only test) (sym h.other) ∙ lower)
  atom_passes atom (inr h) =
      and_from (applies_only test atom.left) (applies_only test atom.right) (ap (applies_only test) (sym h.other) ∙ lower) (ap (applies_only test) h.right ∙ value_passes test func _ own)

  pub clause_passes : (c : FlatClause) → atoms_applications c.guard ≡ [] → IsHead func count c.head bound → clause_applies test (universal_of c) ≡ true
  clause_passes c bare h =
      and_from (list_all (atom_applies test) c.guard) (list_all (atom_applies test) c.head) (bare_atoms_apply test c.guard bare)
      (ap (list_all (atom_applies test)) h.head_is ∙ and_from (atom_applies test h.atom) true (atom_passes h.atom h.side) refl)
