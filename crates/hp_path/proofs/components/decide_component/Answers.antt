use Rattle.std.proofs.Common.{sym, ◌∙◌, subst, map, arith}
use Rattle.std.specs.List.{filter}
use Rattle.std.proofs.lemmas.List.Elements.{All-filter}
use Rattle.hp_lit.specs.declared.literal.Lit.TheVariants.{Num}
use Rattle.hp_lit.specs.Leaf.{IsValidNum}
use Rattle.hp_descent.specs.Answers.{IsSolution}
use Rattle.hp_descent.specs.Columns.{AreNumFit}
use Rattle.hp_leaf.specs.Renumbered.{renumbered_shares}
use Rattle.hp_leaf.proofs.Renumbered.{num_placed}
use Rattle.hp_lit.specs.Fit.{IsNumOver}
use Rattle.hp_path.specs.Components.{has_label, places_with}
use Rattle.hp_path.specs.inner.Sides.{Tells}
use Rattle.hp_path.proofs.Gathering.{fewer_with, names_with, same_count, stands_with}
use Rattle.hp_path.proofs.Mixed.{fit_over, solving}
use Rattle.hp_path.proofs.components.decide_component.Goals as goal

pub component_of-requires-clause-places : goal.component_of-requires-clause-places
component_of-requires-clause-places c = same_count c.args.lits.now c.args.parts.now.nums c.args.parts.now.num_places c.requires.stand

pub answer_at-requires : goal.answer_at-requires
answer_at-requires c =
    let ss = c.args.sorts.now in
    let t = has_label c.args.labelled.now.labels c.args.label in
    let nums = c.args.parts.now.nums in
    subst AreNumFit (sym (c.as_slice.ensures ∙ c.in_ok-component.ensures.nums))
    (fit_over ss (filter t nums) (All-filter t (IsNumOver ss) nums c.requires.over) (omega (arith, fewer_with t nums, c.requires.few)))

pub returns-in-Point-clause-decided : goal.returns-in-Point-clause-decided
returns-in-Point-clause-decided c =
    let ss = c.args.sorts.now in
    let t = has_label c.args.labelled.now.labels c.args.label in
    let nums = c.args.parts.now.nums in
    let h : IsSolution c.as_slice.result.now c.in-Point.values = subst (Tells c.args.pace c.as_slice.result.now) c.in-Point.is c.in_ok-values.ensures in
    solving ss (filter t nums) c.in-Point.values (All-filter t (IsNumOver ss) nums c.requires.over) (subst (λ ls. IsSolution ls c.in-Point.values) (c.as_slice.ensures ∙ c.in_ok-component.ensures.nums) h)

pub returns-in-Point-clause-names : goal.returns-in-Point-clause-names
returns-in-Point-clause-names c =
    let h : IsSolution c.as_slice.result.now c.in-Point.values = subst (Tells c.args.pace c.as_slice.result.now) c.in-Point.is c.in_ok-values.ensures in
    names_with c.args.labelled.now.labels c.args.label c.args.parts.now.nums c.in-Point.values c.requires.labelled.labels (subst (λ ls. IsSolution ls c.in-Point.values) (c.as_slice.ensures ∙ c.in_ok-component.ensures.nums) h)

pub returns-in_ok-shares-in-Farkas-clause-decided : goal.returns-in_ok-shares-in-Farkas-clause-decided
returns-in_ok-shares-in-Farkas-clause-decided c =
    let lits = c.args.lits.now in
    let labels = c.args.labelled.now.labels in
    let nums = c.args.parts.now.nums in
    let places = c.args.parts.now.num_places in
    let t = has_label labels c.args.label in
    let h : IsValidNum (map Num c.as_slice.result.now) c.in-Farkas.shares = subst (Tells c.args.pace c.as_slice.result.now) c.in-Farkas.is c.in_ok-values.ensures in
    let v : IsValidNum (map Num (filter t nums)) c.in-Farkas.shares = subst (λ ls. IsValidNum (map Num ls) c.in-Farkas.shares) (c.as_slice.ensures ∙ c.in_ok-component.ensures.nums) h in
    subst (IsValidNum lits)
    (sym (c.in_ok-shares-in-Farkas.ensures ∙ (λ i. renumbered_shares ((c.as_slice-in-Farkas.ensures ∙ c.in_ok-component.ensures.places) i) (c.as_slice-in-Farkas-2.ensures i))))
    (num_placed lits (map Num (filter t nums)) (places_with labels c.args.label nums places) c.in-Farkas.shares (stands_with labels c.args.label lits nums places c.requires.stand) v)
