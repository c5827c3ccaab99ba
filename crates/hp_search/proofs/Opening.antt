-- What one node more makes of a reading.
use Rattle.std.proofs.Common.{◌≡◌, ℕ, ◌≤◌, refl, sym, ◌∙◌, ap, subst, arith, List, [], ◌∷◌, ◌++◌, length, length-append, Bool, true, false, replicate, Option}
use Rattle.hp_lit.specs.declared.line.Line.{Line}
use Rattle.hp_tree.specs.declared.problem.Sort.{Sort}
use Rattle.hp_lit.specs.declared.valuation.Valuation.{Valuation}
use Rattle.hp_leaf.specs.declared.tree.LeafProof.{LeafProof}
use Rattle.hp_leaf.specs.declared.tree.Node.{Node}
use Rattle.hp_leaf.specs.declared.tree.Node.TheVariants.{Split, Leaf, Unopened}
use Rattle.hp_leaf.specs.Path.{IsHonestPath}
use Rattle.hp_leaf.specs.Tree.{lits_at, Place, children, IsOpenAt, Reads, IsClosed, IsSpent, limit}
use Rattle.hp_leaf.proofs.Counting.{spent_trees_are_small}
use Rattle.hp_leaf.proofs.Lengths.{path_short}
use Rattle.hp_leaf.proofs.Honest.{first_honest, reads_any, reads-append}
use Rattle.hp_search.specs.declared.looking.Seen.{Seen}
use Rattle.hp_search.specs.declared.looking.Seen.TheVariants.{Model as SeenModel, Split as SeenSplit, Leaf as SeenLeaf}
use Rattle.hp_search.specs.declared.searching.SearchErr.{SearchErr}
use Rattle.hp_search.specs.declared.searching.SearchErr.TheVariants as search_err
use Rattle.hp_search.specs.Search.{HasChain, IsModelAt, Sees, later, MovedOn, IsAt, IsCause, IsCauseWithin, IsNextAt}
use Rattle.hp_search.proofs.Picking.{part_honest}

module _ (sorts : List Sort) (lines : List Line) (old tree : List Node) (path : Place) (exact : Bool) (at : IsAt sorts lines old path) where
  pub path_honest : IsHonestPath sorts lines path
  path_honest = first_honest sorts lines old path (later lines [] path) at

  pub path_small : (n : ℕ) → length lines ≤ n → length path ≤ n
  path_small n b = omega (arith, path_short sorts lines path path_honest)

  pub seen_model : (seen : Seen) (v : Valuation) (chain : Option (List ℕ)) → Sees sorts lines path exact seen → seen ≡ SeenModel v chain
      → IsModelAt sorts lines path v × HasChain sorts lines path v exact chain × IsHonestPath sorts lines path
  seen_model seen v chain h e = (let s : Sees sorts lines path exact (SeenModel v chain) = subst (Sees sorts lines path exact) e h in (s.0, s.1, path_honest))

  -- a strain over the literals of some choices of an honest path
  pub cause_here : (e : SearchErr) → IsCauseWithin lines path e → IsCause sorts lines e
  cause_here (search_err.Strain s) h = record { path = h.part; honest = part_honest sorts lines h.part path h.of path_honest; strain = h.cause }
  cause_here search_err.Memory h = tt

  split_reads : (n : ℕ) (seen : Seen) → Sees sorts lines path exact seen → seen ≡ SeenSplit n → tree ≡ old ++ Split n ∷ []
      → Reads (IsOpenAt sorts lines) lines tree ([] ∷ []) (children path n 0 (length (lits_at lines n)) ++ later lines [] path)
  split_reads n seen h e t =
      let s : Sees sorts lines path exact (SeenSplit n) = subst (Sees sorts lines path exact) e h in
      subst (λ q. Reads (IsOpenAt sorts lines) lines q ([] ∷ []) (children path n 0 (length (lits_at lines n)) ++ later lines [] path)) (sym t)
      (reads-append (IsOpenAt sorts lines) lines old (Split n ∷ []) ([] ∷ []) (path ∷ later lines [] path) (children path n 0 (length (lits_at lines n)) ++ later lines [] path) at (s.0, s.1, refl))

  leaf_reads : (proof : LeafProof) (seen : Seen) → Sees sorts lines path exact seen → seen ≡ SeenLeaf proof → tree ≡ old ++ Leaf proof ∷ []
      → Reads (IsOpenAt sorts lines) lines tree ([] ∷ []) (later lines [] path)
  leaf_reads proof seen h e t =
      subst (λ q. Reads (IsOpenAt sorts lines) lines q ([] ∷ []) (later lines [] path)) (sym t)
      (reads-append (IsOpenAt sorts lines) lines old (Leaf proof ∷ []) ([] ∷ []) (path ∷ later lines [] path) (later lines [] path) at (subst (Sees sorts lines path exact) e h, refl))

  moved_next : (node : Node) (places : List Place) (next : Place) (more : Bool) → Reads (IsOpenAt sorts lines) lines tree ([] ∷ []) places → tree ≡ old ++ node ∷ []
      → MovedOn lines places next more → more ≡ true → IsNextAt sorts lines old tree next
  moved_next node places next more r t h m = record {
    at = subst (Reads (IsOpenAt sorts lines) lines tree ([] ∷ [])) (subst (MovedOn lines places next) m h) r;
    one = ap length t ∙ length-append old (node ∷ []);
  }

  moved_end : (places : List Place) (next : Place) (more : Bool) → Reads (IsOpenAt sorts lines) lines tree ([] ∷ []) places → MovedOn lines places next more → more ≡ false → IsClosed lines tree
  moved_end places next more r h m =
      reads_any (IsOpenAt sorts lines) lines tree ([] ∷ []) [] (subst (Reads (IsOpenAt sorts lines) lines tree ([] ∷ [])) (subst (MovedOn lines places next) m h) r)

  pub split_next : (n : ℕ) (seen : Seen) (next : Place) (more : Bool) → Sees sorts lines path exact seen → seen ≡ SeenSplit n → tree ≡ old ++ Split n ∷ []
      → MovedOn lines (children path n 0 (length (lits_at lines n)) ++ later lines [] path) next more → more ≡ true → IsNextAt sorts lines old tree next
  split_next n seen next more h e t m b = moved_next (Split n) (children path n 0 (length (lits_at lines n)) ++ later lines [] path) next more (split_reads n seen h e t) t m b

  pub split_end : (n : ℕ) (seen : Seen) (next : Place) (more : Bool) → Sees sorts lines path exact seen → seen ≡ SeenSplit n → tree ≡ old ++ Split n ∷ []
      → MovedOn lines (children path n 0 (length (lits_at lines n)) ++ later lines [] path) next more → more ≡ false → IsClosed lines tree
  split_end n seen next more h e t m b = moved_end (children path n 0 (length (lits_at lines n)) ++ later lines [] path) next more (split_reads n seen h e t) m b

  pub leaf_next : (proof : LeafProof) (seen : Seen) (next : Place) (more : Bool) → Sees sorts lines path exact seen → seen ≡ SeenLeaf proof → tree ≡ old ++ Leaf proof ∷ []
      → MovedOn lines (later lines [] path) next more → more ≡ true → IsNextAt sorts lines old tree next
  leaf_next proof seen next more h e t m b = moved_next (Leaf proof) (later lines [] path) next more (leaf_reads proof seen h e t) t m b

  pub leaf_end : (proof : LeafProof) (seen : Seen) (next : Place) (more : Bool) → Sees sorts lines path exact seen → seen ≡ SeenLeaf proof → tree ≡ old ++ Leaf proof ∷ []
      → MovedOn lines (later lines [] path) next more → more ≡ false → IsClosed lines tree
  leaf_end proof seen next more h e t m b = moved_end (later lines [] path) next more (leaf_reads proof seen h e t) m b

-- the places that are left
pub given_up : (sorts : List Sort) (lines : List Line) (old tree : List Node) (path : Place) (most : ℕ) → IsAt sorts lines old path → length old ≡ most
    → tree ≡ old ++ replicate (length (path ∷ later lines [] path)) Unopened → IsSpent sorts lines tree most
given_up sorts lines old tree path most at count t = record { made = old; waiting = path ∷ later lines [] path; honest = at; whole = t; count = count; some = omega arith }

pub not_enough : (sorts : List Sort) (lines : List Line) (tree : List Node) (most : ℕ) → IsSpent sorts lines tree most → limit lines ≤ most → ⊥
not_enough sorts lines tree most h b = omega (arith, spent_trees_are_small sorts lines tree most h)
