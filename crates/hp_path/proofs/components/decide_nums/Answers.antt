use Rattle.std.proofs.Common.{sym, ◌∙◌, ap, subst, map, arith, length}
use Rattle.std.specs.List.{All}
use Rattle.hp_lit.specs.declared.literal.Lit.TheVariants.{Num}
use Rattle.hp_leaf.specs.Renumbered.{Stands}
use Rattle.hp_lit.specs.Fit.{IsNumOver}
use Rattle.hp_path.specs.Kinds.{num_lits}
use Rattle.hp_path.proofs.Mixed.{fewer_nums, nums_fit}
use Rattle.hp_path.proofs.Splitting.{nums_stand}
use Rattle.hp_path.proofs.components.decide_nums.Goals as goal

pub with_labels-requires : goal.with_labels-requires
with_labels-requires c = subst (All (IsNumOver c.args.sorts.now)) (sym (c.as_slice.ensures ∙ c.requires.parts.nums)) (nums_fit c.args.sorts.now c.args.lits.now c.requires.fit)

pub decide_apart-requires-clause-over : goal.decide_apart-requires-clause-over
decide_apart-requires-clause-over c = subst (All (IsNumOver c.args.sorts.now)) (sym c.requires.parts.nums) (nums_fit c.args.sorts.now c.args.lits.now c.requires.fit)

pub decide_apart-requires-clause-few : goal.decide_apart-requires-clause-few
decide_apart-requires-clause-few c =
    let e = ap length c.requires.parts.nums in
    omega (arith, e, fewer_nums c.args.lits.now, c.requires.few)

pub decide_apart-requires-clause-stand : goal.decide_apart-requires-clause-stand
decide_apart-requires-clause-stand c =
    let lits = c.args.lits.now in
    subst (λ ls. Stands lits (map Num ls) c.args.parts.now.num_places) (sym c.requires.parts.nums) (subst (Stands lits (map Num (num_lits lits))) (sym c.requires.parts.num_places) (nums_stand lits))
