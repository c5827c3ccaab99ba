use Rattle.std.proofs.Common.{◌≡◌, length}
use Rattle.hp_search.specs.Search.{IsAt}
use Rattle.hp_search.proofs.searching.search_places.Given as goal

abbrev pub invariant-loop-done : goal.invariant-loop-done
invariant-loop-done l = IsAt l.sorts l.lines l.tree l.path × (length l.tree ≡ l._done)
