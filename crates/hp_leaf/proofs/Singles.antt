-- Lines of one literal, split one below the other, and a leaf at the end: a closed tree.
use Rattle.std.proofs.Common.{◌≡◌, ℕ, refl, sym, ap, subst, List, [], ◌∷◌, ◌++◌, length, map, append_assoc, append-nil}
use Rattle.hp_lit.specs.declared.proof.Choice.{Choice}
use Rattle.hp_lit.specs.declared.line.Line.{Line}
use Rattle.hp_leaf.specs.Leaf.{IsValid}
use Rattle.hp_leaf.specs.Tree.{Any, IsClosed, IsLine, Place, Reads, children, lits_at, place_lits}
use Rattle.hp_leaf.specs.declared.tree.LeafProof.{LeafProof}
use Rattle.hp_leaf.specs.declared.tree.Node.TheVariants.{Split, Leaf}

abbrev pub first_of : ℕ → Choice
first_of n = record { line = n; lit = 1 }

abbrev pub AreSingles : List Line → List ℕ → Type 0
AreSingles lines [] = Unit {0}
AreSingles lines (n ∷ ns) = IsLine lines n × (length (lits_at lines n) ≡ 1) × AreSingles lines ns

singles_read : (lines : List Line) (ns : List ℕ) (p : Place) (proof : LeafProof) → AreSingles lines ns → IsValid (place_lits lines (p ++ map first_of ns)) proof
    → Reads Any lines (map Split ns ++ Leaf proof ∷ []) (p ∷ []) []
singles_read lines [] p proof s v = (subst (λ q. IsValid (place_lits lines q) proof) (append-nil p) v, refl)
singles_read lines (n ∷ ns) p proof s v =
    let one : children p n 0 (length (lits_at lines n)) ++ [] ≡ (p ++ first_of n ∷ []) ∷ [] = ap (λ k. children p n 0 k ++ []) s.1 in (
      s.0,
      tt,
      subst (λ q. Reads Any lines (map Split ns ++ Leaf proof ∷ []) q []) (sym one)
          (singles_read lines ns (p ++ first_of n ∷ []) proof s.2 (subst (λ q. IsValid (place_lits lines q) proof) (sym (append_assoc p (first_of n ∷ []) (map first_of ns))) v)),
    )

pub singles_closed : (lines : List Line) (ns : List ℕ) (proof : LeafProof) → AreSingles lines ns → IsValid (place_lits lines (map first_of ns)) proof → IsClosed lines (map Split ns ++ Leaf proof ∷ [])
singles_closed lines ns proof s v = singles_read lines ns [] proof s v
