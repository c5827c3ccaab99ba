use Rattle.hp_search.proofs.Wholes.{kept_true, true_kept, kept_in, kept_out}
use Rattle.hp_search.proofs.truth.row_holds.Goals as goal

pub returns-clause-yes : goal.returns-clause-yes
returns-clause-yes c = λ t. kept_true c.args.v.now.values c.args.row _ _ c.index_value-left.ensures.value c.index_value-right.ensures.value
    (kept_out c.args.row _ _ c.index_value-left.ensures.small c.index_value-right.ensures.small (c.keeps.ensures.yes t))

pub returns-clause-no : goal.returns-clause-no
returns-clause-no c = λ t h. c.keeps.ensures.no t (kept_in c.args.row _ _ c.index_value-left.ensures.small c.index_value-right.ensures.small
    (true_kept c.args.v.now.values c.args.row _ _ c.index_value-left.ensures.value c.index_value-right.ensures.value h))
