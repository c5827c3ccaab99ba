use Rattle.std.proofs.Common.{List, length, ap, ◌∙◌, arith}
use Rattle.hp_defs.specs.declared.names.Constant.{Constant}
use Rattle.hp_pairs.proofs.Words.{definition_has_word}
use Rattle.hp_pairs.proofs.point.name_word.Goals as goal

pub returns-in_ok-word : goal.returns-in_ok-word
returns-in_ok-word c =
    let many = ap (λ (cs : List Constant). length cs) c.constants-constants.ensures.constants in
    c.in_ok-word.ensures ∙ definition_has_word c.args.names.now c.args.name.0 _ (omega (arith, many)) c.requires (omega (arith, many))
