-- The text of a term of each kind at a place, from the texts of its parts.
use Rattle.std.proofs.Common.{◌≡◌, ℕ, List, [], ◌∷◌, ◌++◌, map, ap, sym, refl, ◌∙◌}
use Rattle.std.specs.Prelude.{codes}
use Rattle.std.specs.List.{join_by}
use Rattle.std.proofs.lemmas.List.Folds.{flat_map-map}
use Rattle.hp_math.specs.Rational.{ℚ}
use Rattle.hp_ast.specs.declared.printing.Place.{Place}
use Rattle.hp_ast.specs.declared.printing.Place.TheVariants.{Whole, Operand, Factor}
use Rattle.hp_tree.specs.declared.term.Term.{Term, fold-roll-Term, roll-Term, map-Term}
use Rattle.hp_tree.specs.declared.term.Term.TheOpen.{Term-F}
use Rattle.hp_tree.specs.declared.term.Term.TheViews.{Apply, Add, Sub, Neg, Scale}
use Rattle.hp_tree.specs.declared.term.Term.TheVariants.{rolls-Apply, rolls-Add, rolls-Sub, rolls-Neg, rolls-Scale}
use Rattle.hp_ast.specs.Printing.{text_at, text_step, term_text, frac_text, enclosed, encloses_sum, encloses_product}

-- the text of a layer of terms
text-roll : (layer : Term-F Term) (place : Place) → text_at (roll-Term layer) place ≡ text_step (map-Term Term (Place → List ℕ) text_at layer) place
text-roll layer place = ap (λ f. f place) (fold-roll-Term (Place → List ℕ) text_step layer)

pub text-Neg : (inner : Term) (place : Place) → text_at (Neg inner) place ≡ enclosed (encloses_sum place) (codes "-" ++ text_at inner Operand)
text-Neg inner place = ap (λ t. text_at t place) (sym (rolls-Neg inner)) ∙ text-roll (Term-F.Neg inner) place

pub text-Add : (left right : Term) (place : Place)
    → text_at (Add left right) place ≡ enclosed (encloses_sum place) (text_at left Whole ++ codes " + " ++ text_at right Operand)
text-Add left right place = ap (λ t. text_at t place) (sym (rolls-Add left right)) ∙ text-roll (Term-F.Add left right) place

pub text-Sub : (left right : Term) (place : Place)
    → text_at (Sub left right) place ≡ enclosed (encloses_sum place) (text_at left Whole ++ codes " - " ++ text_at right Operand)
text-Sub left right place = ap (λ t. text_at t place) (sym (rolls-Sub left right)) ∙ text-roll (Term-F.Sub left right) place

pub text-Scale : (q : ℚ) (inner : Term) (place : Place)
    → text_at (Scale q inner) place ≡ enclosed (encloses_product place) (frac_text q ++ codes " * " ++ text_at inner Factor)
text-Scale q inner place = ap (λ t. text_at t place) (sym (rolls-Scale q inner)) ∙ text-roll (Term-F.Scale q inner) place

-- pieces that are made first are joined alike
join_by-map : {X Y : Type 0} (f : Y → List ℕ) (g : X → Y) (sep : List ℕ) (xs : List X) → join_by f sep (map g xs) ≡ join_by (λ x. f (g x)) sep xs
join_by-map f g sep [] = refl
join_by-map f g sep (x ∷ xs) = ap (λ z. f (g x) ++ z) (flat_map-map (λ y. sep ++ f y) g xs)

pub text-Apply : (func : List ℕ) (args : List Term) (place : Place)
    → text_at (Apply func args) place ≡ func ++ codes "(" ++ join_by term_text (codes ", ") args ++ codes ")"
text-Apply func args place =
    ap (λ t. text_at t place) (sym (rolls-Apply func args)) ∙ text-roll (Term-F.Apply func args) place
    ∙ ap (λ z. func ++ codes "(" ++ z ++ codes ")") (join_by-map (λ arg. arg Whole) text_at (codes ", ") args)
