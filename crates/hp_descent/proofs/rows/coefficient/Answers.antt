use Rattle.std.proofs.Common.{◌<◌, ◌^◌, sym, ◌∙◌, rules, FitsSigned, get_or, pos, unsigned_abs}
use Rattle.std.specs.Int.{w128}
use Rattle.std.proofs.lemmas.Int.{to_z-of_z}
use Rattle.hp_lit.specs.declared.literal.Part.{Part}
use Rattle.hp_descent.proofs.Rising.{coef_at}
use Rattle.hp_descent.proofs.rows.coefficient.Goals as goal

pub returns-then-part-name : goal.returns-then-part-name
returns-then-part-name c =
    let d : Part = record { name = record { 0 = 0 }; coef = pos 0 } in
    let n : unsigned_abs (get_or c.args.parts.now c.loop-part.part-index d).coef < 2 ^ 127 = c.requires.narrow c.loop-part.part-index d c.loop-part-test.true in
    let fits : FitsSigned w128 (get_or c.args.parts.now c.loop-part.part-index d).coef = search rules in
    let h = coef_at c.args.name c.args.parts.now c.loop-part.part-index _ c.requires.rising c.loop-part-test.true c.if-part-name.true in
    c.new.ensures ∙ to_z-of_z w128 _ fits ∙ sym h ∙ sym c.loop-part.invariant
