use Rattle.std.proofs.Common.{◌≡◌, ap, subst, ◌∙◌, arith, to_z, of_z}
use Rattle.std.specs.Int.{w128}
use Rattle.std.proofs.lemmas.Int.{ints}
use Rattle.hp_math.specs.Rational.{whole}
use Rattle.hp_lit.specs.Truth.{optional_value}
use Rattle.hp_diff.specs.Rows.{IsSmallWhole}
use Rattle.hp_search.proofs.Wholes.{index_given, index_small}
use Rattle.hp_search.proofs.truth.index_value.Goals as goal

pub returns-then-at-len-clause-value : goal.returns-then-at-len-clause-value
returns-then-at-len-clause-value c =
    let e : c.num.result ≡ to_z w128 (of_z w128 c.num.result) = omega (arith, ints) in
    ap (optional_value c.args.v.now.values) c.in-Some.is ∙ index_given c.args.v.now.values c.in-Some.name.0 _ c.num.result (subst (λ n. IsSmallWhole (optional_value c.args.v.now.values n)) c.in-Some.is c.requires) c.get.ensures c.num.ensures.value ∙ ap whole e

pub returns-then-at-len-clause-small : goal.returns-then-at-len-clause-small
returns-then-at-len-clause-small c = index_small c.args.v.now.values c.in-Some.name.0 _ c.num.result (subst (λ n. IsSmallWhole (optional_value c.args.v.now.values n)) c.in-Some.is c.requires) c.get.ensures c.num.ensures.value
