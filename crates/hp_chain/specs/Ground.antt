-- The ground set of a problem: the lines of its clauses without variables, and then those of its groups, one after the other.
use Rattle.std.specs.Prelude.{◌≡◌, List, length, Result, Ok, Err, None, false}
use Rattle.std.specs.List.{All}
use Rattle.hp_names.specs.Names.{is_among}
use Rattle.hp_tree.specs.declared.limit.Limit.{Limit as limit}
use Rattle.hp_tree.specs.declared.problem.Problem.{Problem}
use Rattle.hp_terms.specs.Words.{declared_word}
use Rattle.hp_lit.specs.declared.refusal.GroundErr.{GroundErr}
use Rattle.hp_lit.specs.declared.refusal.GroundErr.TheVariants as ground
use Rattle.hp_defs.specs.declared.names.Ground.{Ground}
use Rattle.hp_defs.specs.Names.{count}
use Rattle.hp_local.specs.Rows.{argument_words}
use Rattle.hp_norm.specs.declared.flat.FlatClause.{FlatClause}
use Rattle.hp_norm.specs.Flat.{IsFlattenable, flat_of}
use Rattle.hp_sorts.specs.Limits.{passed}
use Rattle.hp_pairs.specs.declared.answer.Outside.{Outside}
use Rattle.hp_pairs.specs.declared.answer.PairErr.{PairErr}
use Rattle.hp_pairs.specs.declared.answer.PairErr.TheVariants as pair
use Rattle.hp_pairs.specs.declared.answer.PairStrain.{PairStrain}
use Rattle.hp_pairs.specs.Answers.{IsFirst, IsMet, IsStrainedPair, IsUnmet}
use Rattle.hp_pairs.specs.Branches.{Pair, pairs_from}
use Rattle.hp_rules.specs.declared.ruled.RuleErr.{RuleErr}
use Rattle.hp_rules.specs.declared.ruled.RuleErr.TheVariants as rule
use Rattle.hp_rules.specs.declared.ruled.Ruled.{Ruled}
use Rattle.hp_rules.specs.Rules.{rule_words, rules}
use Rattle.hp_groups.specs.declared.group.Group.{Group}
use Rattle.hp_groups.specs.Groups.{Reading, groups_made, groups_of}
use Rattle.hp_chain.specs.declared.answer.ChainErr.{ChainErr}
use Rattle.hp_chain.specs.declared.answer.ChainErr.TheVariants as refusal
use Rattle.hp_chain.specs.Order.{function_order}

-- no declared name is the word of an argument in a table
abbrev pub HasPlainNames : Problem → Type 0
HasPlainNames p = All (λ d. is_among (declared_word d) argument_words ≡ false) p.decls

-- ---- clauses
-- the clauses with variables of a problem as the rules read them, over the ground set of the others
abbrev pub Read : Type 0
Read = Reading × Ground

abbrev pub refused_by : RuleErr → ChainErr
refused_by (rule.Outside o) = refusal.Outside o
refused_by (rule.Limit l) = refusal.Limit l
refused_by rule.Memory = refusal.Memory

abbrev pub met_by : PairErr → ChainErr
met_by (pair.Outside o) = refusal.Outside o
met_by (pair.Strain s) = refusal.Strain s
met_by pair.Memory = refusal.Memory

abbrev pub ruled : List FlatClause → Ground → Result Ruled RuleErr → Result Read ChainErr
ruled flats base (Ok found) = Ok (record { flats = flats; ruled = found }, base)
ruled flats base (Err e) = Err (refused_by e)

abbrev pub flattened : Result (List FlatClause × Ground) limit → Result Read ChainErr
flattened (Ok x) = ruled x.0 x.1 (rules x.1.names x.0)
flattened (Err l) = Err (refusal.Limit l)

-- or why they can't be: the first limit that the clauses pass, and then the first clause that breaks a rule by itself
abbrev pub read_of : Problem → Result Read ChainErr
read_of p = flattened (flat_of p)

-- ---- pairs of cases
abbrev pub pairs_of : Read → List Pair
pairs_of read = pairs_from read.0.ruled.branches 0 (length read.1.names.signatures)

-- the first pair that some values meet, with a point of it
abbrev pub IsFirstMet : Read → Outside → Type 0
IsFirstMet read o = IsFirst (pairs_of read) (λ p. IsMet (rule_words read.1.names) (count read.1.names) p o)

-- a number passes 2^127 - 1 over a pair behind pairs that none meet
abbrev pub IsFirstStrained : Read → PairStrain → Type 0
IsFirstStrained read s = IsFirst (pairs_of read) (λ p. IsStrainedPair p s)

-- ---- groups
-- the groups of the functions of a problem, in the order of their turns
abbrev pub chain_of : Problem → Read → List Group
chain_of p read = groups_of read.0 read.1.names.signatures (function_order p.decls)

-- what ends the making of a ground set, as why there is none
abbrev pub refusal_from : GroundErr → ChainErr
refusal_from (ground.Limit l) = refusal.Limit l
refusal_from ground.Memory = refusal.Memory

-- the clauses can be taken: they keep the rules, and no pair of their cases is met
pub record IsReadAs (p : Problem) (read : Read) : Type 0 where
  pub named : flat_of p ≡ Ok (read.0.flats, read.1)
  pub rules_give : rules read.1.names read.0.flats ≡ Ok read.0.ruled
  pub apart : All IsUnmet (pairs_of read)

-- the ground set of a problem whose names and sorts are right, which is light and has few arguments
pub record IsGroundOf (p : Problem) (g : Ground) : Type 0 where
  pub able : IsFlattenable p
  pub limits : passed p ≡ None
  pub plain : HasPlainNames p
  pub read : Read
  pub taken : IsReadAs p read
  pub made : groups_made (chain_of p read) read.1 ≡ Ok (tt, g)

-- ---- why there is none
-- a clause breaks a rule by itself, or two clauses a rule with each other
pub data IsOutside (p : Problem) (o : Outside) : Type 0 where
  alone : read_of p ≡ Err (refusal.Outside o) → IsOutside p o
  paired : (read : Read) → read_of p ≡ Ok read → IsFirstMet read o → IsOutside p o

-- the clauses pass a limit, or the groups do
pub data IsLimited (p : Problem) (l : limit) : Type 0 where
  naming : read_of p ≡ Err (refusal.Limit l) → IsLimited p l
  making : (read : Read) → IsReadAs p read → groups_made (chain_of p read) read.1 ≡ Err l → IsLimited p l

pub record IsStrained (p : Problem) (s : PairStrain) : Type 0 where
  pub read : Read
  pub is : read_of p ≡ Ok read
  pub first : IsFirstStrained read s
