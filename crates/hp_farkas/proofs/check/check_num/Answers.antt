use Rattle.hp_farkas.proofs.Verdict.{checked_of, valid_of, invalid_of}
use Rattle.hp_farkas.proofs.check.check_num.Goals as goal

pub returns-clause-checked : goal.returns-clause-checked
returns-clause-checked c = checked_of c.args.path.now c.args.shares.now c.add_up.result (c.is_combination.ensures.yes c.if-not-is_combination.false) c.add_up.ensures

pub returns-clause-valid : goal.returns-clause-valid
returns-clause-valid c =
    let k = c.is_combination.ensures.yes c.if-not-is_combination.false in
    valid_of c.args.path.now c.args.shares.now c.add_up.result k (checked_of c.args.path.now c.args.shares.now c.add_up.result k c.add_up.ensures)

pub returns-clause-invalid : goal.returns-clause-invalid
returns-clause-invalid c =
    let k = c.is_combination.ensures.yes c.if-not-is_combination.false in
    invalid_of c.args.path.now c.args.shares.now c.add_up.result (checked_of c.args.path.now c.args.shares.now c.add_up.result k c.add_up.ensures)
