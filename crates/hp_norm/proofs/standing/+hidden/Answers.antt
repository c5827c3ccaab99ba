use Rattle.std.proofs.Common.{ℕ, ap, ◌∙◌}
use Rattle.hp_tree.specs.declared.term.Term.{Name}
use Rattle.hp_norm.specs.Testing.{stand_in}
use Rattle.hp_norm.proofs.Applications.{hidden_apply}
use Rattle.hp_norm.proofs.standing.+hidden.Goals as goal

pub returns-in_ok-stand_in-in-Apply : goal.returns-in_ok-stand_in-in-Apply
returns-in_ok-stand_in-in-Apply t c =
    let s = c.args.standing.now in
    ap Name c.in_ok-stand_in-in-Apply.ensures
    ∙ ap (λ (at : ℕ). Name (stand_in s at)) (c.in_ok-at-in-Apply.ensures.place)
    ∙ hidden_apply s c.args.term.now _ _ c.in-Apply.is
