use Rattle.std.proofs.Common.{◌≡◌, ◌<◌, ◌^◌, ◌<ℤ◌, unsigned_abs, pos, inl, inr, arith, refl, sym, ◌∙◌, to_z, of_z}
use denote.Enum.Bare.{same_true}
use Rattle.hp_lit.specs.contracts.literal.Rel.{the_type}
use Rattle.hp_lit.specs.declared.literal.Rel.TheVariants.{Eq}
use Rattle.std.specs.Int.{w128}
use Rattle.std.proofs.lemmas.Int.{ints}
use Rattle.hp_farkas.proofs.form.may_take.Goals as goal

pub returns-then-share-gt0-clause-yes : goal.returns-then-share-gt0-clause-yes
returns-then-share-gt0-clause-yes c = λ _.
    let f : to_z w128 (of_z w128 c.args.share.times) ≡ c.args.share.times = omega (arith, ints) in
    let p : pos 0 <ℤ c.args.share.times = grind (arith, ints) in
    let n : unsigned_abs c.args.share.times < 2 ^ 127 = omega (arith, ints) in
    (record { lit = c.in-Some.lit.now; times = c.args.share.times; narrow = n; sign = inl p }, (c.in-Some.ensures.some, refl, λ e. absurd (omega (arith, ints))))

pub returns-then-share-lt0-clause-yes : goal.returns-then-share-lt0-clause-yes
returns-then-share-lt0-clause-yes c = λ h.
    let e : c.in-Some.lit.now.rel ≡ Eq = same_true the_type tt c.in-Some.lit.now.rel Eq (sym c.eq.ensures ∙ h) in
    let f : to_z w128 (of_z w128 c.args.share.times) ≡ c.args.share.times = omega (arith, ints) in
    let n : c.args.share.times <ℤ pos 0 = grind (arith, ints) in
    let k : unsigned_abs c.args.share.times < 2 ^ 127 = omega (arith, ints) in
    (record { lit = c.in-Some.lit.now; times = c.args.share.times; narrow = k; sign = inr e }, (c.in-Some.ensures.some, refl, λ z. absurd (omega (arith, ints))))
