use Rattle.hp_rows.proofs.fractions.product.Goals as goal

pub returns : goal.returns
returns c = rw c.whole.ensures at c.mul.ensures.formula
