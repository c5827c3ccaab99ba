use Rattle.std.proofs.Common.{◌∷◌, ◌∙◌, ap, arith, length, subst, sym}
use Rattle.std.specs.List.Sorted.{IsStrictlyIncreasing}
use Rattle.hp_rank.specs.Ranks.{pointers}
use Rattle.hp_rank.proofs.Steps.{outside_increases, rising_increases, universe_few}
use Rattle.hp_rank.proofs.ranks.ranks_of.Goals as goal

pub outside_of-requires-clause-rising : goal.outside_of-requires-clause-rising
outside_of-requires-clause-rising c =
    subst IsStrictlyIncreasing (sym (c.deref.ensures.value ∙ c.in_ok-inside.ensures)) (rising_increases (0 ∷ pointers c.split_at.result.0.now c.split_at-2.result.0.now))

pub values_of-requires-clause-inside : goal.values_of-requires-clause-inside
values_of-requires-clause-inside c =
    subst IsStrictlyIncreasing (sym (c.deref-2.ensures.value ∙ c.in_ok-inside.ensures)) (rising_increases (0 ∷ pointers c.split_at.result.0.now c.split_at-2.result.0.now))

pub values_of-requires-clause-beside : goal.values_of-requires-clause-beside
values_of-requires-clause-beside c =
    subst IsStrictlyIncreasing (sym (c.deref-3.ensures.value ∙ c.in_ok-beside.ensures)) (outside_increases c.deref.result.now (pointers c.split_at.result.1.now c.split_at-2.result.1.now))

pub overflow_cast-result : goal.overflow_cast-result
overflow_cast-result c =
    omega (arith, c.len.ensures, ap length c.in_ok-inside.ensures, universe_few c.split_at.result.0.now c.split_at-2.result.0.now, c.split_at.ensures.front_len, c.requires.few, c.requires.first)
