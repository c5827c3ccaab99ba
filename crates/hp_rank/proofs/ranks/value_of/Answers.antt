use Rattle.std.proofs.Common.{sym, ap, ◌∙◌, pos}
use Rattle.hp_math.specs.Rational.{whole}
use Rattle.hp_rank.specs.Ranks.{place_in}
use Rattle.hp_rank.proofs.Pointers.{ranked_ptr}
use Rattle.hp_rank.proofs.ranks.value_of.Goals as goal

pub returns-in-Ptr : goal.returns-in-Ptr
returns-in-Ptr c =
    let f = place_in c.args.inside.now c.args.beside.now in
    c.whole_number.ensures ∙ ap (λ n. whole (pos n)) (c.rank_of.ensures.place ∙ ap f c.pointer_of.ensures) ∙ sym (ranked_ptr f c.args.sort c.args.value c.in-Ptr.is)
