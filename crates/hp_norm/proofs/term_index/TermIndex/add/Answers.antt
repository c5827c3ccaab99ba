use Rattle.std.proofs.Common.{◌∙◌, ap, map}
use Rattle.hp_norm.specs.TermKeys.{term_key}
use Rattle.hp_norm.proofs.TermsFound.{nowhere}
use Rattle.hp_norm.proofs.term_index.TermIndex.add.Goals as goal

pub add-requires : goal.add-requires
add-requires c =
    nowhere c.args.key.items c.self.inside.keys c.args.self.now c.args.term (c.self.invariant ∙ ap (map term_key) c.self.view_is) c.requires.key c.requires.fresh
