use Rattle.std.proofs.Common.{◌≡◌, length, arith}
use Rattle.hp_search.proofs.Opening as opening
use Rattle.hp_search.proofs.searching.search_places.Goals as goal

pub returns-clause-enough : goal.returns-clause-enough
returns-clause-enough c = let count : length c.loop-done.tree ≡ c.args.most = omega arith in
    opening.not_enough c.args.sorts.now c.args.lines.now c.leave.new.tree c.args.most
    (opening.given_up _ _ c.loop-done.tree _ c.loop-done.path _ c.loop-done.invariant.0 count c.in_ok-leave.ensures)
