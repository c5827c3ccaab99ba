use Rattle.std.proofs.Common.{◌≡◌, ℕ, List, ◌<◌, ◌+◌, ◌^◌, ◌++◌, ◌∷◌, ◌∙◌, [], false, length, ap, sym, subst}
use Rattle.hp_tree.specs.Value.{Word}
use Rattle.hp_names.specs.Names.{is_among}
use Rattle.hp_defs.specs.Names.{NameList, function_words}
use Rattle.hp_defs.proofs.Adding.{signature_more}
use Rattle.hp_defs.proofs.names.Names.add_signature.Goals as goal

pub invariant_of-self-in-Ok : goal.invariant_of-self-in-Ok
invariant_of-self-in-Ok c =
    let inside = c.self.inside in
    let names : NameList = record { constants = inside.declared; signatures = inside.functions; definitions = inside.made } in
    let room = subst (λ (n : NameList). length n.signatures + 1 < 2 ^ 32) (sym c.self.view_is) c.requires.few in
    let before = subst (λ (n : NameList). n.definitions ≡ []) (sym c.self.view_is) c.requires.before in
    let fresh = subst (λ (n : NameList). is_among c.args.signature.name (function_words n) ≡ false) (sym c.self.view_is) c.requires.fresh in
    signature_more names inside.word_index inside.function_index inside.definition_index inside.places.items c.self.invariant c.args.signature c.push_named.new.items c.push_named.new.index c.push.new.self.items room before fresh c.in-Ok.ensures.added
    (c.in-Ok.ensures.indexed ∙ ap (λ (w : Word). inside.function_index ++ w ∷ []) (c.as_slice.ensures ∙ c.in_ok-word.ensures))
    (c.in_ok-push.ensures.items ∙ ap (λ (ks : List ℕ). inside.places.items ++ ks ∷ []) c.new.ensures)
