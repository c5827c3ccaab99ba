use Rattle.std.proofs.Common.{◌≡◌, ◌+◌, ◌<◌, ◌∙◌, ◌++◌, ◌∷◌, [], ap, length, sym, subst, None, ℕ}
use Rattle.hp_tree.specs.Limits.{most_names}
use Rattle.hp_terms.specs.Words.{made_word}
use Rattle.hp_defs.specs.Names.{NameList, count}
use Rattle.hp_defs.specs.Same.{place}
use Rattle.hp_defs.proofs.Adding.{definition_more, fresh_definition, no_place}
use Rattle.hp_defs.proofs.names.Names.add.Goals as goal

pub add-requires : goal.add-requires
add-requires c =
    let fresh = subst (λ (n : NameList). place c.args.body n.definitions ≡ None) (sym c.self.view_is) c.requires.fresh in
    no_place c.in_ok-cells.cells.items c.self.inside.definition_index c.args.body c.self.inside.made c.self.invariant.by_body c.in_ok-cells.ensures fresh

pub push_definition-requires-clause-fresh : goal.push_definition-requires-clause-fresh
push_definition-requires-clause-fresh c =
    let inside = c.self.inside in
    let names : NameList = record { constants = inside.declared; signatures = inside.functions; definitions = inside.made } in
    let spelled : c.as_slice.result.now ≡ made_word (length inside.made + 1) = c.as_slice.ensures ∙ c.in_ok-word.ensures ∙ ap (λ (n : ℕ). made_word (n + 1)) c.len.ensures in
    fresh_definition names inside.word_index inside.function_index inside.definition_index inside.places.items c.self.invariant c.as_slice.result.now spelled

pub invariant_of-self-in-Ok : goal.invariant_of-self-in-Ok
invariant_of-self-in-Ok c =
    let inside = c.self.inside in
    let made = inside.made in
    let body = c.args.body in
    let names : NameList = record { constants = inside.declared; signatures = inside.functions; definitions = made } in
    let room = subst (λ (n : NameList). count n < most_names) (sym c.self.view_is) c.requires.few in
    let fresh = subst (λ (n : NameList). place body n.definitions ≡ None) (sym c.self.view_is) c.requires.fresh in
    let spelled : c.as_slice.result.now ≡ made_word (length made + 1) = c.as_slice.ensures ∙ c.in_ok-word.ensures ∙ ap (λ (n : ℕ). made_word (n + 1)) c.len.ensures in
    let more = c.in-Ok.ensures.added ∙ (λ i. made ++ record { name = record { 0 = c.len-2.ensures i + c.len-3.ensures i }; body = body } ∷ []) in
    definition_more names inside.word_index inside.function_index inside.definition_index inside.places.items c.self.invariant body c.in_ok-cells.cells.items c.push_definition.new.made c.push_definition.new.words c.add.new.self c.push_definition.new.groups.items c.as_slice.result.now
    room c.requires.small fresh c.in_ok-cells.ensures spelled more c.in-Ok.ensures.indexed c.in_ok-add.ensures.added c.in-Ok.ensures.placed
