use Rattle.std.proofs.Common.{◌∙◌, ◌++◌, ◌∷◌, [], List, None, Bool, ap, sym, subst, map, if◌then◌else◌}
use Rattle.std.proofs.lemmas.List.{map-append}
use Rattle.std.specs.Cmp.Lexicographic.{pointwise, pointwise_decides}
use Rattle.hp_defs.specs.First.{IsFirst}
use Rattle.hp_tables.specs.declared.index.Coordinate.{Coordinate}
use Rattle.hp_tables.proofs.Telling.{same_coordinate, coordinates_tell}
use Rattle.hp_defs.proofs.First.{no_test}
use Rattle.hp_tables.proofs.index.PointIndex.add.Goals as goal

pub returns-clause-added : goal.returns-clause-added
returns-clause-added c =
    let x = c.args.point.items in
    let keys = c.self.inside.set.keys in
    let nowhere = subst (λ (all : List (List Coordinate)). IsFirst x all None) (sym c.self.view_is) c.requires in
    let none = no_test x (λ k. k.items) (λ k. pointwise same_coordinate x k.items) (λ k. pointwise_decides coordinates_tell x k.items) keys nowhere in
    ap (map (λ k. k.items)) (c.in_ok-insert.ensures.keys ∙ ap (λ (b : Bool). if b then keys else keys ++ c.args.point ∷ []) none)
    ∙ map-append (λ k. k.items) keys (c.args.point ∷ [])
    ∙ ap (λ (all : List (List Coordinate)). all ++ x ∷ []) c.self.view_is
