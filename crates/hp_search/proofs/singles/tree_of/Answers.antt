use Rattle.std.proofs.Common.{◌++◌, ◌∷◌, [], ◌∙◌, ap, subst, sym}
use Rattle.hp_leaf.specs.declared.tree.LeafProof.TheVariants.{Num, Idx, Ptr}
use Rattle.hp_leaf.specs.declared.tree.Node.TheVariants.{Leaf}
use Rattle.hp_leaf.specs.Leaf.{IsValid}
use Rattle.hp_leaf.specs.Tree.{IsClosed, place_lits}
use Rattle.hp_search.specs.inner.Singles.{line_at, lines_of_links, lines_of_shares, lines_of_steps, links_in_order, shares_in_order, splits_of, steps_in_order}
use Rattle.hp_search.proofs.Closing.{links_close, shares_close, steps_close}
use Rattle.hp_search.proofs.singles.tree_of.Goals as goal

pub returns-in_ok-tree_of_steps-in-Idx : goal.returns-in_ok-tree_of_steps-in-Idx
returns-in_ok-tree_of_steps-in-Idx c =
    let lines = c.args.lines.now in
    let singles = c.args.singles.now in
    let tree = c.in_ok-tree_of_steps-in-Idx.ensures ∙ ap (λ q. splits_of (lines_of_steps singles q) ++ Leaf (Idx (steps_in_order 0 q)) ∷ []) c.as_slice.ensures in
    subst (IsClosed lines) (sym tree) (steps_close lines singles c.requires.singles.each c.in-Idx.steps (subst (IsValid (place_lits lines singles)) c.in-Idx.is c.requires.valid))

pub returns-in_ok-tree_of_shares-in-Num : goal.returns-in_ok-tree_of_shares-in-Num
returns-in_ok-tree_of_shares-in-Num c =
    let lines = c.args.lines.now in
    let singles = c.args.singles.now in
    let tree = c.in_ok-tree_of_shares-in-Num.ensures ∙ ap (λ q. splits_of (lines_of_shares singles q) ++ Leaf (Num (shares_in_order 0 q)) ∷ []) c.as_slice-in-Num.ensures in
    subst (IsClosed lines) (sym tree) (shares_close lines singles c.requires.singles.each c.in-Num.shares (subst (IsValid (place_lits lines singles)) c.in-Num.is c.requires.valid))

pub returns-in_ok-tree_of_links-in-Ptr : goal.returns-in_ok-tree_of_links-in-Ptr
returns-in_ok-tree_of_links-in-Ptr c =
    let lines = c.args.lines.now in
    let singles = c.args.singles.now in
    let tree = c.in_ok-tree_of_links-in-Ptr.ensures ∙ ap (λ q. splits_of (line_at singles c.in-Ptr.ne ∷ lines_of_links singles q) ++ Leaf (Ptr 1 (links_in_order 1 q)) ∷ []) c.as_slice-in-Ptr.ensures in
    subst (IsClosed lines) (sym tree) (links_close lines singles c.requires.singles.each c.in-Ptr.ne c.in-Ptr.path (subst (IsValid (place_lits lines singles)) c.in-Ptr.is c.requires.valid))
