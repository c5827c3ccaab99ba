use Rattle.std.proofs.Common.{ℕ, ◌≤◌}
use Rattle.std.proofs.lemmas.List.Elements.{All-more}
use Rattle.hp_search.proofs.ahead.are_links_within.Goals as goal

pub loop-link-preserved : goal.loop-link-preserved
loop-link-preserved c = All-more (λ (link : ℕ). link ≤ c.args.count) c.args.links.now c.loop-link.link-index 0 c.loop-link-test.true c.loop-link.invariant c.if-link-count.false
