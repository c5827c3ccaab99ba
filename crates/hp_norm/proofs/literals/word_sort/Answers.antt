use Rattle.std.proofs.Common.{List, length, ap, arith}
use Rattle.hp_tree.specs.Value.{Word}
use Rattle.hp_defs.proofs.Distinct.{length_words}
use Rattle.hp_defs.proofs.Growing.{length_sorts}
use Rattle.hp_norm.proofs.literals.word_sort.Goals as goal

pub sort-requires : goal.sort-requires
sort-requires c =
    let names = c.args.names.now in
    let within = c.in-Some.ensures.within in
    let as_many = ap (λ (ws : List Word). length ws) c.words.ensures.words in
    omega (arith, within, as_many, length_words names, length_sorts names)
