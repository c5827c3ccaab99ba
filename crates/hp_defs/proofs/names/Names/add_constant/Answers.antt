use Rattle.std.proofs.Common.{◌≡◌, ◌<◌, ◌++◌, ◌∷◌, ◌∙◌, [], false, length, ap, sym, subst}
use Rattle.hp_tree.specs.Limits.{most_names}
use Rattle.hp_tree.specs.Value.{Word}
use Rattle.hp_names.specs.Names.{is_among}
use Rattle.hp_defs.specs.declared.names.Constant.{Constant}
use Rattle.hp_defs.specs.Names.{NameList, constant_words}
use Rattle.hp_defs.proofs.Adding.{constant_more, fresh_word}
use Rattle.hp_defs.proofs.names.Names.add_constant.Goals as goal

pub push_named-requires : goal.push_named-requires
push_named-requires c =
    let inside = c.self.inside in
    let names : NameList = record { constants = inside.declared; signatures = inside.functions; definitions = inside.made } in
    let before = subst (λ (n : NameList). n.definitions ≡ []) (sym c.self.view_is) c.requires.before in
    let fresh = subst (λ (n : NameList). is_among c.args.name (constant_words n) ≡ false) (sym c.self.view_is) c.requires.fresh in
    let copied : c.as_slice.result.now ≡ c.args.name = c.as_slice.ensures ∙ c.in_ok-word.ensures in
    ap (λ (w : Word). is_among w inside.word_index) copied ∙ fresh_word names inside.word_index inside.function_index inside.definition_index inside.places.items c.self.invariant c.args.name before fresh

pub invariant_of-self-2 : goal.invariant_of-self-2
invariant_of-self-2 c =
    let inside = c.self.inside in
    let names : NameList = record { constants = inside.declared; signatures = inside.functions; definitions = inside.made } in
    let constant : Constant = record { name = c.args.name; sort = c.args.sort } in
    let room = subst (λ (n : NameList). length n.constants < most_names) (sym c.self.view_is) c.requires.few in
    let before = subst (λ (n : NameList). n.definitions ≡ []) (sym c.self.view_is) c.requires.before in
    let fresh = subst (λ (n : NameList). is_among c.args.name (constant_words n) ≡ false) (sym c.self.view_is) c.requires.fresh in
    constant_more names inside.word_index inside.function_index inside.definition_index inside.places.items c.self.invariant constant c.push_named.new.items c.push_named.new.index room before fresh c.requires.plain c.in_ok-push_named.ensures.added
    (c.in_ok-push_named.ensures.indexed ∙ ap (λ (w : Word). inside.word_index ++ w ∷ []) (c.as_slice.ensures ∙ c.in_ok-word.ensures))
