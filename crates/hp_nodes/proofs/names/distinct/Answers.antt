use Rattle.std.proofs.Common.{◌≤◌, subst, length, rules}
use Rattle.std.specs.Prelude.{nat_eq}
use Rattle.std.proofs.lemmas.List.Filters.{dedup_is}
use Rattle.hp_nodes.proofs.Finding.{names_are}
use Rattle.hp_nodes.proofs.names.distinct.Goals as goal

pub returns : goal.returns
returns c =
    let is = dedup_is nat_eq _ _ c.dedup.ensures.filtered in
    let few : length c.dedup.new.self.items ≤ length c.sort.new.self.items = search (rules, c.dedup.ensures.bound) in
    rw is (names_are c.args.mentions.items c.sort.new.self.items c.in_ok-sort.ensures.permutation c.in_ok-sort.ensures.sorted (subst (λ xs. length xs ≤ length c.sort.new.self.items) is few))
