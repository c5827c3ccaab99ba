use Rattle.std.proofs.Common.{List, length, ap, arith}
use Rattle.hp_tree.specs.Value.{Word}
use Rattle.hp_defs.specs.Names.{NameList}
use Rattle.hp_defs.proofs.Distinct.{length_words}
use Rattle.hp_defs.proofs.names.Names.words.Goals as goal

pub returns-clause-few : goal.returns-clause-few
returns-clause-few c =
    let inside = c.self.inside in
    let names : NameList = record { constants = inside.declared; signatures = inside.functions; definitions = inside.made } in
    omega (arith, c.self.invariant.made.few, ap (λ (ws : List Word). length ws) c.self.invariant.by_word, length_words names)
