use Rattle.std.proofs.Common.{◌≡◌, ◌∙◌, subst, sym}
use Rattle.std.specs.List.{All}
use Rattle.std.proofs.lemmas.List.Elements.{All-weaker}
use Rattle.hp_defs.specs.Made.{IsSmallArg}
use Rattle.hp_base.specs.Making.{in_turn}
use Rattle.hp_base.proofs.Making.{begins_same, makes_other}
use Rattle.hp_index_set.specs.IndexSet.{index_set}
use Rattle.hp_index_set.specs.Laws.{IsFitIndex}
use Rattle.hp_arrays.specs.Arrays.{array_elements, elements}
use Rattle.hp_arrays.proofs.SetFits.{set_fits}
use Rattle.hp_array.proofs.arrays.ArraysLocalClass.grow.Goals as goal

pub returns-in_err-indexes-clause-kept : goal.returns-in_err-indexes-clause-kept
returns-in_err-indexes-clause-kept c = begins_same c.args.g.now

pub add_elements-requires : goal.add_elements-requires
add_elements-requires c =
    let group = c.args.self.now in
    let names = c.args.g.now.names in
    let is : c.as_slice-2.result.now ≡ index_set group.own group.clauses names =
    c.as_slice-2.ensures ∙ c.in_ok-indexes.ensures ∙ (λ i. index_set (c.as_slice-own.ensures i) (c.as_slice.ensures i) names) in
    subst (All IsSmallArg) (sym is)
    (All-weaker (IsFitIndex names) IsSmallArg (λ x h. h.small) (index_set group.own group.clauses names)
    (set_fits names group.own group.words group.clauses c.requires.lent c.requires.sound.made c.requires.sound.names))

pub returns-clause-made : goal.returns-clause-made
returns-clause-made c =
    let group = c.args.self.now in
    let g = c.args.g.now in
    let is : c.as_slice-2.result.now ≡ index_set group.own group.clauses g.names =
    c.as_slice-2.ensures ∙ c.in_ok-indexes.ensures ∙ (λ i. index_set (c.as_slice-own.ensures i) (c.as_slice.ensures i) g.names) in
    makes_other (in_turn (elements c.as_slice-2.result.now) c.as_slice-own.result.now) (array_elements group.own group.clauses) g c.add_elements.new.g c.add_elements.result
    (λ i. in_turn (elements (sym is i)) (sym c.as_slice-own.ensures i) g) c.add_elements.ensures.made
