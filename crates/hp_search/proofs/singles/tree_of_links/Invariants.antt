use Rattle.std.proofs.Common.{◌≡◌, ◌∷◌, take}
use Rattle.hp_search.specs.inner.Singles.{line_at, lines_of_links, links_in_order, splits_of}
use Rattle.hp_search.proofs.singles.tree_of_links.Given as goal

abbrev pub invariant-loop-at : goal.invariant-loop-at
invariant-loop-at l = (l.tree ≡ splits_of (line_at l.singles l.ne ∷ lines_of_links l.singles (take l.at l.links))) × (l.ordered ≡ links_in_order 1 (take l.at l.links))
