-- Tables that are moved from one list to another.
use Rattle.std.proofs.Common.{◌≡◌, List, [], ◌∷◌, ◌++◌, sym, ap, ◌∙◌, append-nil, append_assoc}
use Rattle.std.specs.Prelude.{reverse}
use Rattle.std.proofs.lemmas.List.{reverse-append, reverse-reverse}

-- what was taken off the end of a list stands in the other order
pub record AreTurned {A : Type 0} (all left other : List A) : Type 0 where
  pub is : all ≡ left ++ reverse other

pub turned_start : {A : Type 0} (all other : List A) → other ≡ [] → AreTurned all all other
turned_start all other e = record { is = sym (append-nil all) ∙ ap (λ xs. all ++ reverse xs) (sym e) }

pub turned_more : {A : Type 0} (all left less other more : List A) (x : A) → left ≡ less ++ x ∷ [] → more ≡ other ++ x ∷ [] → AreTurned all left other → AreTurned all less more
turned_more all left less other more x e m a = record {
  is = a.is ∙ ap (λ xs. xs ++ reverse other) e ∙ append_assoc less (x ∷ []) (reverse other)
      ∙ ap (λ xs. less ++ xs) (sym (reverse-append other (x ∷ [])) ∙ ap reverse (sym m));
}

pub turned_end : {A : Type 0} (all left other : List A) → left ≡ [] → AreTurned all left other → other ≡ reverse all
turned_end all left other e a = sym (ap reverse (a.is ∙ ap (λ xs. xs ++ reverse other) e) ∙ reverse-reverse other)

-- what is left in the other order is to be added
pub record AreMoved {A : Type 0} (all now left : List A) : Type 0 where
  pub is : all ≡ now ++ reverse left

pub moved_start : {A : Type 0} (old more left : List A) → left ≡ reverse more → AreMoved (old ++ more) old left
moved_start old more left e = record { is = ap (λ xs. old ++ xs) (sym (reverse-reverse more) ∙ ap reverse (sym e)) }

pub moved_more : {A : Type 0} (all now next left less : List A) (x : A) → left ≡ less ++ x ∷ [] → next ≡ now ++ x ∷ [] → AreMoved all now left → AreMoved all next less
moved_more all now next left less x e m a = record {
  is = a.is ∙ ap (λ xs. now ++ reverse xs) e ∙ ap (λ xs. now ++ xs) (reverse-append less (x ∷ []))
      ∙ sym (append_assoc now (x ∷ []) (reverse less)) ∙ ap (λ xs. xs ++ reverse less) (sym m);
}

pub moved_end : {A : Type 0} (all now left : List A) → left ≡ [] → AreMoved all now left → now ≡ all
moved_end all now left e a = sym (a.is ∙ ap (λ xs. now ++ reverse xs) e ∙ append-nil now)
