-- Reading with the places that wait, and trees by nesting, are the same.
use Rattle.std.proofs.Common.{refl, sym, subst, List, [], ◌∷◌, ◌++◌, length}
use Rattle.hp_lit.specs.declared.line.Line.{Line}
use Rattle.hp_leaf.specs.declared.tree.Node.{Node}
use Rattle.hp_leaf.specs.declared.tree.Node.TheVariants.{Split, Leaf, Unopened}
use Rattle.hp_leaf.specs.Tree.{lits_at, Place, children, Reads, Any}
use Rattle.hp_leaf.specs.Nested.{AreTrees, none, closed, split, ClosedIsNested}

-- a row of trees is cut where its places are
cut : (lines : List Line) (ps qs : List Place) (ns rest : List Node) → AreTrees lines (ps ++ qs) ns rest → (mid : List Node) × AreTrees lines ps ns mid × AreTrees lines qs mid rest
cut lines [] qs ns rest h = (ns, none, h)
cut lines (p ∷ ps) qs ns rest (closed proof v h) = let r = cut lines ps qs _ rest h in (r.0, closed proof v r.1, r.2)
cut lines (p ∷ ps) qs ns rest (split n l below h) = let r = cut lines ps qs _ rest h in (r.0, split n l below r.1, r.2)

nests : (lines : List Line) (ns : List Node) (ps : List Place) → Reads Any lines ns ps [] → AreTrees lines ps ns []
nests lines [] ps h = subst (λ q. AreTrees lines q [] []) (sym h) none
nests lines (node ∷ ns) [] h = absurd h
nests lines (Split n ∷ ns) (p ∷ ps) h =
    let r = cut lines (children p n 0 (length (lits_at lines n))) ps ns [] (nests lines ns (children p n 0 (length (lits_at lines n)) ++ ps) h.2) in
    split n h.0 r.1 r.2
nests lines (Leaf proof ∷ ns) (p ∷ ps) h = closed proof h.0 (nests lines ns ps h.1)
nests lines (Unopened ∷ ns) (p ∷ ps) h = absurd h

flat : (lines : List Line) (ps : List Place) (ns rest : List Node) (qs : List Place) → AreTrees lines ps ns rest → Reads Any lines rest qs [] → Reads Any lines ns (ps ++ qs) []
flat lines ps ns rest qs none k = k
flat lines ps ns rest qs (closed {place} {places} {nodes} proof v h) k = (v, flat lines places nodes rest qs h k)
flat lines ps ns rest qs (split {place} {places} {nodes} {middle} n l below h) k =
    let kids = children place n 0 (length (lits_at lines n)) in
    (l, tt, subst (λ q. Reads Any lines nodes q []) (refl) (flat lines kids nodes middle (places ++ qs) below (flat lines places middle rest qs h k)))

pub closed_is_nested : ClosedIsNested
closed_is_nested lines tree = (nests lines tree ([] ∷ []), λ h. flat lines ([] ∷ []) tree [] [] h refl)
