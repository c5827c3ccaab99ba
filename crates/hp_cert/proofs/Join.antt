-- One more piece at the end of a text whose first piece is put in another way.
use Rattle.std.proofs.Common.{◌≡◌, ℕ, zero, suc, ◌+◌, ◌<◌, List, [], ◌∷◌, ◌++◌, take, length, get_or, arith, ap, ◌∙◌, append_assoc, append-nil, add-one, refl}
use Rattle.std.specs.List.{flat_map, join_by}
use Rattle.hp_lit.specs.declared.literal.Lit.{Lit}
use Rattle.hp_lit.specs.declared.literal.Part.{Part}
use Rattle.hp_defs.specs.Names.{NameList}
use Rattle.hp_cert.specs.Forms.{by_place, first_part, further_part, parts_text}
use Rattle.hp_cert.specs.Literals.{lit_text}
use Rattle.hp_cert.specs.Lines.{lits_text}
use Rattle.std.specs.Prelude.{codes}

flat_map_more : {X : Type 0} (f : X → List ℕ) (xs : List X) (i : ℕ) (d : X) → i < length xs
    → flat_map f (take (suc i) xs) ≡ flat_map f (take i xs) ++ f (get_or xs i d)
flat_map_more f [] i d h = absurd (omega arith)
flat_map_more f (x ∷ xs) zero d h = append-nil (f x)
flat_map_more f (x ∷ xs) (suc i) d h = ap (λ z. f x ++ z) (flat_map_more f xs i d (omega arith)) ∙ simp append_assoc

pub place_first : {X : Type 0} (f g : X → List ℕ) (xs : List X) (i : ℕ) (d : X) → i < length xs → i ≡ 0
    → by_place f g (take (i + 1) xs) ≡ f (get_or xs i d)
place_first f g [] i d h e = absurd (omega arith)
place_first f g (x ∷ xs) i d h e = rw e (append-nil (f x))

pub place_more : {X : Type 0} (f g : X → List ℕ) (xs : List X) (i : ℕ) (d : X) → i < length xs → 0 < i
    → by_place f g (take (i + 1) xs) ≡ by_place f g (take i xs) ++ g (get_or xs i d)
place_more f g [] i d h p = absurd (omega arith)
place_more f g (x ∷ xs) zero d h p = absurd (omega arith)
place_more f g (x ∷ xs) (suc i) d h p = rw add-one (ap (λ z. f x ++ z) (flat_map_more g xs i d (omega arith)) ∙ simp append_assoc)

-- a sum with a part, and a choice with a literal
pub parts_some : (names : NameList) (parts : List Part) → 0 < length parts → parts_text names parts ≡ by_place (first_part names) (further_part names) parts
parts_some names [] h = absurd (omega arith)
parts_some names (part ∷ parts) h = refl

pub lits_some : (names : NameList) (lits : List Lit) → 0 < length lits → lits_text names lits ≡ join_by (lit_text names) (codes " | ") lits
lits_some names [] h = absurd (omega arith)
lits_some names (lit ∷ lits) h = refl
