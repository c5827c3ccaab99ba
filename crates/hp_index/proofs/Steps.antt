-- Forms of sums and differences, and literals of an atom, from what is found for the two sides.
use Rattle.std.proofs.Common.{◌≡◌, ◌≤◌, List, ◌++◌, Bool, Option, Some, None, MatchOption, sym, ap, subst, ◌∙◌, arith}
use Rattle.std.specs.List.{All}
use Rattle.hp_tree.specs.declared.term.Term.{Term}
use Rattle.hp_tree.specs.declared.problem.Atom.{Atom}
use Rattle.hp_tree.specs.declared.problem.Cmp.{Cmp}
use Rattle.hp_tree.specs.Value.{Word}
use Rattle.hp_terms.specs.Weight.{IsLightAtom, weight}
use Rattle.hp_lit.specs.declared.literal.Lit.{Lit}
use Rattle.hp_index.specs.declared.form.IndexForm.{IndexForm}
use Rattle.hp_index.specs.Forms.{index_of}
use Rattle.hp_index.specs.Fit.{HasSmallBound, IsSmallSide, largest_side}
use Rattle.hp_tree.specs.Sides.{signed}
use Rattle.hp_index.specs.Literals.{form_literals, literals}
use Rattle.hp_index.proofs.Bounds.{literals_small, small_side}

-- ---- terms
-- a form is refused only where the numbers of its term are large
pub form_found : (words : List Word) (t : Term) (f : IndexForm) (r : Option IndexForm) → index_of words t ≡ f
    → MatchOption r (IsSmallSide f.offset → ⊥) (λ form. (form ≡ f) × IsSmallSide f.offset)
    → MatchOption r (weight t ≤ largest_side → ⊥) (λ form. (form ≡ index_of words t) × IsSmallSide form.offset)
form_found words t f None e m = λ light. m (subst (λ (g : IndexForm). IsSmallSide g.offset) e (small_side words t light))
form_found words t f (Some form) e m = (m.0 ∙ sym e, subst (λ (g : IndexForm). IsSmallSide g.offset) (sym m.0) m.1)

-- ---- atoms
pub left_light : (atom : Atom) → IsLightAtom atom → weight atom.left ≤ largest_side
left_light atom light = omega arith

pub right_light : (atom : Atom) → IsLightAtom atom → weight atom.right ≤ largest_side
right_light atom light = omega arith

-- what compares the forms of both sides is what the atom asks for
pub atom_pushed : (words : List Word) (positive : Bool) (atom : Atom) (cmp : Cmp) (l m : IndexForm) (old new : List Lit)
    → l ≡ index_of words atom.left → m ≡ index_of words atom.right → cmp ≡ signed positive atom.cmp → IsSmallSide l.offset → IsSmallSide m.offset
    → new ≡ old ++ form_literals cmp l m
    → (new ≡ old ++ literals words positive atom) × All HasSmallBound (literals words positive atom)
atom_pushed words positive atom cmp l m old new e g k p q h =
    let same : form_literals cmp l m ≡ literals words positive atom = λ i. form_literals (k i) (e i) (g i) in
    (h ∙ ap (λ (xs : List Lit). old ++ xs) same, subst (All HasSmallBound) same (literals_small cmp l m p q))
