use Rattle.std.proofs.Common.{ℕ, pos}
use Rattle.hp_descent.proofs.Numbering.{one_entry}
use Rattle.hp_descent.proofs.rows.scale_row.Goals as goal

pub loop-name-preserved : goal.loop-name-preserved
loop-name-preserved c = one_entry (λ (n : ℕ). pos 0) c.args.names.now c.loop-name._name-index c.loop-name.coefs c.push.new.self c.new.result c.loop-name-test.true c.loop-name.invariant c.in_ok-push.ensures.ok c.new.ensures
