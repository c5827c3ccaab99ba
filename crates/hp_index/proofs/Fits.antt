-- Literals of atoms whose sides have the sorts that they ask for can be decided.
use Rattle.std.proofs.Common.{true, false, Bool, cond, List, [], ◌∷◌, Option, None}
use Rattle.std.specs.List.{All}
use Rattle.std.proofs.lemmas.List.Elements.{All-nil, All-cons}
use Rattle.hp_tree.specs.declared.problem.Cmp.TheVariants.{Le, Lt, Eq, Ne, Ge, Gt}
use Rattle.hp_tree.specs.declared.problem.Sort.{Sort}
use Rattle.hp_tree.specs.declared.problem.Sort.TheVariants as sort
use Rattle.hp_lit.specs.declared.literal.Name.{Name}
use Rattle.hp_lit.specs.declared.literal.Rel.{Rel}
use Rattle.hp_lit.specs.declared.literal.Rel.TheVariants as rel
use Rattle.hp_lit.specs.declared.literal.Lit.TheVariants.{Idx, Ptr}
use Rattle.hp_lit.specs.Fit.{IsFit, IsIdxSide, IsRowOver}
use Rattle.hp_index.specs.declared.form.IndexForm.{IndexForm}
use Rattle.hp_index.specs.Forms.{index_of}
use Rattle.hp_index.specs.Fit.{IsFormOver}
use Rattle.hp_index.specs.Laws.{FormLiteralsAreFit, LiteralsAreFit, PtrLiteralsAreFit, TermsHaveFitForms}
use Rattle.hp_tree.specs.Sides.{signed}
use Rattle.hp_index.specs.Literals.{cancel, compared}
use Rattle.hp_index.specs.Pointers.{asks_same, pointer_of}
use Rattle.hp_index.proofs.Bounds.{compared_small, small_side}
use Rattle.hp_index.proofs.Named.{pointer_side, term_base}
use Rattle.hp_index.proofs.Steps.{left_light, right_light}
use Rattle.hp_index.proofs.Truth.{sorted_parts}

-- ---- forms
module _ (sorts : List Sort) where
  -- a name that cancels is gone
  cancelled : (b : Bool) (o : Option Name) → IsIdxSide sorts o → IsIdxSide sorts (cond b None o)
  cancelled true o h = tt
  cancelled false o h = h

  row_over : (r : Rel) (l m : IndexForm) → IsFormOver sorts l → IsFormOver sorts m → IsRowOver sorts (compared r l m)
  row_over r l m p q = record {
    bound = compared_small r l m p.offset q.offset;
    left = cancelled (cancel l.base m.base) l.base p.base;
    right = cancelled (cancel l.base m.base) m.base q.base;
  }

  one_fit : (r : Rel) (l m : IndexForm) → IsFormOver sorts l → IsFormOver sorts m → All (IsFit sorts) (Idx (compared r l m) ∷ [])
  one_fit r l m p q = All-cons (IsFit sorts) (Idx (compared r l m)) [] (row_over r l m p q) (All-nil (IsFit sorts))

pub form_literals_are_fit : FormLiteralsAreFit
form_literals_are_fit sorts Le l m p q = one_fit sorts rel.Le l m p q
form_literals_are_fit sorts Lt l m p q = one_fit sorts rel.Lt l m p q
form_literals_are_fit sorts Eq l m p q = one_fit sorts rel.Eq l m p q
form_literals_are_fit sorts Ne l m p q = All-cons (IsFit sorts) (Idx (compared rel.Lt l m)) (Idx (compared rel.Lt m l) ∷ []) (row_over sorts rel.Lt l m p q) (one_fit sorts rel.Lt m l q p)
form_literals_are_fit sorts Ge l m p q = one_fit sorts rel.Le m l q p
form_literals_are_fit sorts Gt l m p q = one_fit sorts rel.Lt m l q p

-- ---- atoms
pub terms_have_fit_forms : TermsHaveFitForms
terms_have_fit_forms words sorts t e light = record { base = (term_base words sorts t).index e; offset = small_side words t light }

pub literals_are_fit : LiteralsAreFit
literals_are_fit words sorts positive atom sorted light =
    let s = sorted_parts words sorts sort.Idx atom sorted in
    form_literals_are_fit sorts (signed positive atom.cmp) (index_of words atom.left) (index_of words atom.right)
    (terms_have_fit_forms words sorts atom.left s.left (left_light atom light)) (terms_have_fit_forms words sorts atom.right s.right (right_light atom light))

pub ptr_literals_are_fit : PtrLiteralsAreFit
ptr_literals_are_fit words sorts positive atom sorted =
    let s = sorted_parts words sorts sort.Ptr atom sorted in
    All-cons (IsFit sorts) (Ptr (record { same = asks_same (signed positive atom.cmp); left = pointer_of words atom.left; right = pointer_of words atom.right })) []
    (record { left = pointer_side words sorts atom.left s.left; right = pointer_side words sorts atom.right s.right }) (All-nil (IsFit sorts))
