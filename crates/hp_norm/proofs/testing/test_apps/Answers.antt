use Rattle.hp_norm.proofs.ClauseTests.{app_failed, app_passed}
use Rattle.hp_norm.proofs.testing.test_apps.Goals as goal

pub returns-in_err-test_app : goal.returns-in_err-test_app
returns-in_err-test_app c =
    let s = c.args.standing.now in
    app_failed c.args.names.now s s.apps c.as_slice-app-items.result.now c.as_slice-app-items.ensures c.loop-app.app-index c.app-item.result c.loop-app-test.true c.app-item.is c.loop-app.invariant _ _
    c.in_err-test_app.ensures c.from_residual.ensures.1

pub loop-app-preserved : goal.loop-app-preserved
loop-app-preserved c =
    let s = c.args.standing.now in
    app_passed c.args.names.now s s.apps c.as_slice-app-items.result.now c.as_slice-app-items.ensures c.loop-app.app-index c.app-item.result c.loop-app-test.true c.app-item.is c.loop-app.invariant _
    c.in_ok-test_app.ensures
