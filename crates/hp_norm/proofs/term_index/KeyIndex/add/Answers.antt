use Rattle.std.proofs.Common.{ℤ, ◌∙◌, ◌++◌, ◌∷◌, [], List, None, Bool, ap, sym, subst, map, if◌then◌else◌}
use Rattle.std.proofs.lemmas.List.{map-append}
use Rattle.std.specs.Cmp.Lexicographic.{pointwise, pointwise_decides}
use Rattle.std.specs.Ordering.{int_eq}
use Rattle.std.proofs.lemmas.Bool.Decides.{Decides-int_eq}
use Rattle.hp_defs.specs.First.{IsFirst}
use Rattle.hp_defs.proofs.First.{no_test}
use Rattle.hp_norm.proofs.term_index.KeyIndex.add.Goals as goal

pub returns-clause-added : goal.returns-clause-added
returns-clause-added c =
    let x = c.args.key.items in
    let keys = c.self.inside.set.keys in
    let nowhere = subst (λ (all : List (List ℤ)). IsFirst x all None) (sym c.self.view_is) c.requires in
    let none = no_test x (λ k. k.items) (λ k. pointwise int_eq x k.items) (λ k. pointwise_decides Decides-int_eq x k.items) keys nowhere in
    ap (map (λ k. k.items)) (c.in_ok-insert.ensures.keys ∙ ap (λ (b : Bool). if b then keys else keys ++ c.args.key ∷ []) none)
    ∙ map-append (λ k. k.items) keys (c.args.key ∷ [])
    ∙ ap (λ (all : List (List ℤ)). all ++ x ∷ []) c.self.view_is
