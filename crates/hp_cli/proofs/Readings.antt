-- A problem has one reading of its clauses, and what refuses it lacks a ground set.
use Rattle.std.proofs.Common.{◌≡◌, ◌≢◌, ◌∙◌, ℕ, List, [], ◌∷◌, ◌++◌, length, Result, Ok, Err, refl, sym, ap, subst}
use Rattle.std.specs.List.{All, Contains}
use Rattle.std.proofs.lemmas.List.Elements.{All-contains, Contains-append_right}
use Rattle.hp_tree.specs.declared.limit.Limit.{Limit}
use Rattle.hp_tree.specs.declared.problem.Problem.{Problem}
use Rattle.hp_local.proofs.Lists.{contains_first}
use Rattle.hp_defs.specs.declared.names.Ground.{Ground}
use Rattle.hp_defs.specs.Names.{count}
use Rattle.hp_pairs.specs.declared.answer.Outside.{Outside}
use Rattle.hp_pairs.specs.Answers.{IsFirst, IsMet, IsUnmet}
use Rattle.hp_pairs.specs.Branches.{Pair}
use Rattle.hp_rules.specs.Rules.{rule_words}
use Rattle.hp_groups.specs.Groups.{groups_made}
use Rattle.hp_chain.specs.declared.answer.ChainErr.{ChainErr}
use Rattle.hp_chain.specs.declared.answer.ChainErr.TheVariants as refusal
use Rattle.hp_chain.specs.Ground.{IsFirstMet, IsGroundOf, IsLimited, IsOutside, IsReadAs, Read, alone, chain_of, flattened, making, naming, paired, pairs_of, read_of, ruled}

-- ---- readings
pub read_is : (p : Problem) (read : Read) → IsReadAs p read → read_of p ≡ Ok read
read_is p read taken = ap flattened taken.named ∙ ap (ruled read.0.flats read.1) taken.rules_give

one_value : {A E : Type 0} (x y : A) → ◌≡◌ {A = Result A E} (Ok x) (Ok y) → x ≡ y
one_value x y e = cc

pub one_reading : (p : Problem) (read other : Read) → read_of p ≡ Ok read → read_of p ≡ Ok other → read ≡ other
one_reading p read other e f = one_value read other (sym e ∙ f)

no_value : {A E : Type 0} (x : A) (e : E) → ◌≡◌ {A = Result A E} (Ok x) (Err e) → ⊥
no_value x e h = absurd (cc)

pub one_way : (p : Problem) (read : Read) (e : ChainErr) → read_of p ≡ Ok read → read_of p ≡ Err e → ⊥
one_way p read e is err = no_value read e (sym is ∙ err)

-- ---- pairs
-- the first pair that is met is one of them
pub first_among : (ps : List Pair) (P : Pair → Type 0) (first : IsFirst ps P) → Contains ps first.pair
first_among ps P first =
    subst (λ (qs : List Pair). Contains qs first.pair) (sym first.split)
    (Contains-append_right first.before (first.pair ∷ first.after) first.pair (contains_first first.pair first.after))

-- where none are met, no pair is
pub none_met : (read : Read) (o : Outside) → All IsUnmet (pairs_of read) → IsFirstMet read o → ⊥
none_met read o unmet first =
    All-contains IsUnmet (pairs_of read) first.pair unmet
    (first_among (pairs_of read) (λ p. IsMet (rule_words read.1.names) (count read.1.names) p o) first) first.holds.values first.holds.true

-- ---- ground sets
pub ground_unruly : (p : Problem) (g : Ground) (o : Outside) → IsGroundOf p g → IsOutside p o → ⊥
ground_unruly p g o is (alone e) = one_way p is.read (refusal.Outside o) (read_is p is.read is.taken) e
ground_unruly p g o is (paired read e first) =
    let same = one_reading p is.read read (read_is p is.read is.taken) e in
    none_met read o (subst (λ (r : Read). All IsUnmet (pairs_of r)) same is.taken.apart) first

pub ground_limited : (p : Problem) (g : Ground) (l : Limit) → IsGroundOf p g → IsLimited p l → ⊥
ground_limited p g l is (naming e) = one_way p is.read (refusal.Limit l) (read_is p is.read is.taken) e
ground_limited p g l is (making read taken e) =
    let same = one_reading p is.read read (read_is p is.read is.taken) (read_is p read taken) in
    no_value (tt, g) l (sym is.made ∙ ap (λ (r : Read). groups_made (chain_of p r) r.1) same ∙ e)
