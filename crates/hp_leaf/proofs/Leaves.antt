-- A valid leaf stands over no true literals.
use Rattle.std.proofs.Common.{◌≡◌, ℕ, inl, inr, sym, ◌∙◌, ap, List, [], ◌∷◌, Option}
use Rattle.std.specs.List.{All}
use Rattle.hp_lit.specs.declared.literal.Name.{Name}
use Rattle.hp_lit.specs.declared.literal.Lit.{Lit}
use Rattle.hp_lit.specs.declared.literal.Lit.TheVariants.{Ptr as PtrLiteral}
use Rattle.hp_lit.specs.Truth.{Values, IsTrueAt, optional_value}
use Rattle.hp_lit.proofs.Cycles.{no_idx_leaf}
use Rattle.hp_lit.proofs.Farkas.{no_num_leaf}
use Rattle.hp_lit.proofs.Paths.{lit_true}
use Rattle.hp_leaf.specs.declared.tree.LeafProof.{LeafProof}
use Rattle.hp_leaf.specs.declared.tree.LeafProof.TheVariants.{Num, Idx, Ptr}
use Rattle.hp_lit.specs.Pointers.{JoinsAll, IsValidPtr}
use Rattle.hp_leaf.specs.Leaf.{IsValid}

joined_same : (v : Values) (path : List Lit) (a b : Option Name) (ns : List ℕ) → All (IsTrueAt v) path → JoinsAll path a ns b → optional_value v a ≡ optional_value v b
joined_same v path a b [] all e = ap (optional_value v) e
joined_same v path a b (n ∷ ns) all h =
    let l = h.1.lit in
    let e = (lit_true v path n (PtrLiteral l) h.1.at all).0 h.1.same in
    let rest = joined_same v path h.0 b ns all h.2 in
    elim h.1.ends [
      | inl w ↦ ap (optional_value v) (sym w.0) ∙ e ∙ ap (optional_value v) w.1 ∙ rest
      | inr w ↦ ap (optional_value v) (sym w.0) ∙ sym e ∙ ap (optional_value v) w.1 ∙ rest
    ]

no_conflict : (v : Values) (path : List Lit) (ne : ℕ) (ns : List ℕ) → IsValidPtr path ne ns → All (IsTrueAt v) path → ⊥
no_conflict v path ne ns h all =
    let e = (lit_true v path ne (PtrLiteral h.lit) h.at all).1 (joined_same v path h.lit.left h.lit.right ns all h.joined) in
    let a = h.apart in cc

pub no_leaf : (v : Values) (path : List Lit) (proof : LeafProof) → IsValid path proof → All (IsTrueAt v) path → ⊥
no_leaf v path (Num shares) h all = no_num_leaf path shares h v all
no_leaf v path (Idx steps) h all = no_idx_leaf path steps h v all
no_leaf v path (Ptr ne links) h all = no_conflict v path ne links h all
