use Rattle.std.proofs.Common.{Ok, map, subst}
use Rattle.std.proofs.lemmas.List.Elements.{All-map}
use Rattle.hp_lit.specs.declared.literal.Lit.TheVariants.{Num}
use Rattle.hp_lit.specs.Truth.{IsTrueAt}
use Rattle.hp_lit.specs.Leaf.{IsValidNum}
use Rattle.hp_descent.specs.Answers.{Decides}
use Rattle.hp_lit.proofs.Farkas.{no_num_leaf}
use Rattle.hp_pairs.proofs.pairs.decide_test.Goals as goal

pub returns-in-Ok-Farkas : goal.returns-in-Ok-Farkas
returns-in-Ok-Farkas c v all =
    let shares = c.in-Ok-Farkas.field-0-0 in
    let given : IsValidNum (map Num c.as_slice.result.now) shares = subst (λ a. Decides c.as_slice.result.now (Ok a)) c.in-Ok-Farkas.field-0-is c.in-Ok-Farkas.ensures in
    no_num_leaf (map Num c.args.test.rows) shares (subst (λ rows. IsValidNum (map Num rows) shares) c.as_slice.ensures given) v
    (All-map (IsTrueAt v) Num c.args.test.rows all)
