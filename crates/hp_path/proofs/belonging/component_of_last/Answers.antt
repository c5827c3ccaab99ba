use Rattle.std.proofs.Common.{sym, ◌∙◌, subst, map}
use Rattle.std.specs.List.{All}
use Rattle.hp_lit.specs.declared.literal.Lit.TheVariants.{Num}
use Rattle.hp_leaf.specs.Renumbered.{Stands}
use Rattle.hp_lit.specs.Fit.{IsNumOver}
use Rattle.hp_path.specs.Kinds.{num_lits}
use Rattle.hp_path.proofs.Gathering.{same_count}
use Rattle.hp_path.proofs.Mixed.{nums_fit}
use Rattle.hp_path.proofs.Splitting.{nums_stand}
use Rattle.hp_path.proofs.belonging.component_of_last.Goals as goal

pub with_labels-requires : goal.with_labels-requires
with_labels-requires c = subst (All (IsNumOver c.args.sorts.now)) (sym (c.as_slice.ensures ∙ c.in_ok-parts.ensures.nums)) (nums_fit c.args.sorts.now c.args.lits.now c.requires.fit)

pub component_of-requires-clause-places : goal.component_of-requires-clause-places
component_of-requires-clause-places c =
    let lits = c.args.lits.now in
    let parts = c.in_ok-parts.parts in
    same_count lits parts.nums parts.num_places
    (subst (λ ls. Stands lits (map Num ls) parts.num_places) (sym c.in_ok-parts.ensures.nums) (subst (Stands lits (map Num (num_lits lits))) (sym c.in_ok-parts.ensures.num_places) (nums_stand lits)))
