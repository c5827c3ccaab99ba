-- The groups of a problem over the ground set of its clauses without variables, and what they make.
use Rattle.std.proofs.Common.{◌≡◌, ◌∙◌, ◌<◌, ℕ, List, [], ◌∷◌, length, false, None, Ok, Err, sym, ap, subst}
use Rattle.std.specs.List.{All, AllZip}
use Rattle.std.proofs.lemmas.List.Elements.{All-cons, All-head, All-nil, All-tail}
use Rattle.hp_tree.specs.declared.limit.Limit.{Limit as Which}
use Rattle.hp_class.specs.Law.{HaveSortedPoints}
use Rattle.hp_tree.specs.declared.problem.Clause.{Clause}
use Rattle.hp_tree.specs.declared.problem.Decl.{Decl}
use Rattle.hp_tree.specs.declared.problem.Decl.TheVariants.{Const, Fun}
use Rattle.hp_tree.specs.declared.problem.Problem.{Problem}
use Rattle.hp_names.specs.Names.{is_among}
use Rattle.hp_terms.specs.Words.{declared_word}
use Rattle.hp_lit.specs.declared.refusal.GroundErr.{GroundErr}
use Rattle.hp_lit.specs.declared.refusal.GroundErr.TheVariants as stop
use Rattle.hp_lit.specs.Truth.{Values}
use Rattle.hp_local.specs.Rows.{argument_words}
use Rattle.hp_sorts.specs.Limits.{passed}
use Rattle.hp_sorts.proofs.Faultless.{faultless_problems_are_well_sorted}
use Rattle.hp_defs.specs.declared.names.Constant.{Constant}
use Rattle.hp_defs.specs.declared.names.Ground.{Ground}
use Rattle.hp_defs.specs.declared.names.Signature.{Signature}
use Rattle.hp_defs.specs.Names.{NameList, count}
use Rattle.hp_base.specs.Making.{Makes}
use Rattle.hp_base.proofs.Making.{begins_same}
use Rattle.hp_norm.specs.declared.flat.FlatClause.{FlatClause}
use Rattle.hp_norm.specs.Flat.{IsFlat, IsFlatOf, IsFlattenable, IsFlattened, flat_of, with_variables}
use Rattle.hp_norm.specs.Lines.{constants_of, signatures_from}
use Rattle.hp_norm.specs.Sound.{IsLater}
use Rattle.hp_norm.proofs.ProblemsFlat.{flattening_says}
use Rattle.hp_class.specs.Small.{HasFewArguments}
use Rattle.hp_flatten.specs.Laws.{HasPlainConstant, HasPlainConstants}
use Rattle.hp_pairs.specs.declared.answer.PairErr.{PairErr}
use Rattle.hp_pairs.specs.declared.answer.PairErr.TheVariants as pair
use Rattle.hp_flatten.proofs.IsFlat.{flattened_is_flat}
use Rattle.hp_flatten.proofs.One.{flattened_has_one}
use Rattle.hp_pairs.specs.Answers.{BranchIsFit, Separates}
use Rattle.hp_rules.specs.declared.ruled.RuleErr.{RuleErr}
use Rattle.hp_rules.specs.declared.ruled.RuleErr.TheVariants as rule
use Rattle.hp_rules.specs.declared.ruled.Ruled.{Ruled}
use Rattle.hp_rules.specs.Answers.{RuledAs}
use Rattle.hp_rules.specs.Rules.{rule_words, rules}
use Rattle.hp_ruled.specs.Laws.{AreRuled, HasFewVariables}
use Rattle.hp_ruled.proofs.Branches.{branches_fit}
use Rattle.hp_groups.specs.declared.group.Group.{Group}
use Rattle.hp_groups.specs.declared.group.Group.TheVariants.{Arrays, Cases, Free, Monotone}
use Rattle.hp_groups.specs.contracts.group.GroupLocalClass.TheImpl.{ghosts}
use Rattle.hp_groups.specs.Groups.{Reading, groups_made}
use Rattle.hp_groups.specs.Laws.{IsReadable, IsWhole}
use Rattle.hp_groups.proofs.Held.{got_one, groups_lent}
use Rattle.hp_chain.specs.declared.answer.ChainErr.TheVariants as refusal
use Rattle.hp_chain.specs.declared.chain.Chain.{Chain}
use Rattle.hp_chain.specs.Answers.{ClassifiedAs, DescendedAs}
use Rattle.hp_chain.specs.Ground.{HasPlainNames, IsReadAs, Read, alone, chain_of, flattened, making, met_by, naming, paired, pairs_of, read_of, refused_by, ruled}
use Rattle.hp_chain.specs.Order.{function_order, levels_of}
use Rattle.hp_chain.proofs.Levels.{levels_many, order_inside}
use Rattle.hp_chain.proofs.Narrow.{HasFewVariablesToo, few_variables_of, narrow_clauses, narrow_flats}
use Rattle.hp_chain.proofs.StructuresClauses.{all_with}
use Rattle.hp_chain.proofs.ValuesDeclared.{all_few_arguments, few_arguments_of, levels_within}
use Rattle.hp_chain.proofs.ValuesTurns.{has_turn}

all_flat : (g : Ground) → IsLater g g → (clauses : List Clause) (flats : List FlatClause) → AllZip (IsFlatOf g) clauses flats → All (IsFlat g.names) flats
all_flat g later [] [] are = All-nil (IsFlat g.names)
all_flat g later [] (c ∷ flats) are = absurd are
all_flat g later (clause ∷ clauses) [] are = absurd are
all_flat g later (clause ∷ clauses) (c ∷ flats) are = All-cons (IsFlat g.names) c flats (are.0.flat g later) (all_flat g later clauses flats are.1)

-- a name that is no word of an argument
all_plain : (ds : List Decl) → All (λ d. is_among (declared_word d) argument_words ≡ false) ds → All HasPlainConstant (constants_of ds)
all_plain [] plain = All-nil HasPlainConstant
all_plain (Const name sort ∷ ds) plain =
    All-cons HasPlainConstant (record { name = name; sort = sort }) (constants_of ds) (All-head (λ d. is_among (declared_word d) argument_words ≡ false) (Const name sort) ds plain)
    (all_plain ds (All-tail (λ d. is_among (declared_word d) argument_words ≡ false) (Const name sort) ds plain))
all_plain (Fun name args result level ∷ ds) plain = all_plain ds (All-tail (λ d. is_among (declared_word d) argument_words ≡ false) (Fun name args result level) ds plain)

-- ---- what groups ask for
module _ (p : Problem) (flats : List FlatClause) (base : Ground) (able : IsFlattenable p) (limits : passed p ≡ None) (named : flat_of p ≡ Ok (flats, base)) where
  pub is_flattened : IsFlattened p flats base
  is_flattened = flattening_says p flats base able named

  pub flats_are_flat : All (IsFlat base.names) flats
  flats_are_flat = all_flat base (record { begins = begins_same base; made = is_flattened.sound.made }) (with_variables p.clauses) flats is_flattened.clauses

  pub few_arguments_each : All HasFewArguments base.names.signatures
  few_arguments_each = subst (λ (ss : List Signature). All HasFewArguments ss) (sym is_flattened.signatures) (all_few_arguments 1 p.decls (few_arguments_of p limits))

  pub functions_many : length (levels_of p.decls) ≡ length base.names.signatures
  functions_many = levels_many 1 p.decls ∙ ap length (sym is_flattened.signatures)

  pub order_known : All (λ func. func < length base.names.signatures) (function_order p.decls)
  order_known = subst (λ n. All (λ func. func < n) (function_order p.decls)) functions_many (order_inside 16 (levels_of p.decls))

  -- each function has its turn
  pub order_whole : IsWhole base.names.signatures (function_order p.decls)
  order_whole func within =
      let got = got_one (signatures_from 1 p.decls) func (subst (λ (ss : List Signature). func < length ss) is_flattened.signatures within) in
      let level = levels_within 1 p.decls func got.0 (faultless_problems_are_well_sorted p able.sorted).levels got.1 in
      has_turn p.decls func got.0 got.1 level.0 level.1

  pub flats_are_narrow : All HasFewVariables flats
  flats_are_narrow =
      narrow_flats base (with_variables p.clauses) flats is_flattened.clauses
      (all_with HasFewVariablesToo p.clauses (narrow_clauses p.clauses (few_variables_of p limits)))

  pub plain_constants : HasPlainNames p → HasPlainConstants base.names
  plain_constants plain = subst (λ (cs : List Constant). All HasPlainConstant cs) (sym is_flattened.constants) (all_plain p.decls plain)

-- what the rules give the classes
pub readable : (p : Problem) (read : Reading) (base : Ground) → IsFlattenable p → passed p ≡ None → IsReadAs p (read, base) → HasPlainNames p → IsReadable base.names read
readable p read base able limits taken plain = record {
  ruled = record {
    made = (is_flattened p read.flats base able limits taken.named).sound.made;
    flat = flats_are_flat p read.flats base able limits taken.named;
    constants = plain_constants p read.flats base able limits taken.named plain;
    few = few_arguments_each p read.flats base able limits taken.named;
    narrow = flats_are_narrow p read.flats base able limits taken.named;
    ruled_is = taken.rules_give;
  };
  unmet = taken.apart;
}

pub are_ruled : (p : Problem) (flats : List FlatClause) (base : Ground) (found : Ruled) → IsFlattenable p → passed p ≡ None → flat_of p ≡ Ok (flats, base) → HasPlainNames p
    → rules base.names flats ≡ Ok found → AreRuled base.names flats found
are_ruled p flats base found able limits named plain gives = record {
  made = (is_flattened p flats base able limits named).sound.made;
  flat = flats_are_flat p flats base able limits named;
  constants = plain_constants p flats base able limits named plain;
  few = few_arguments_each p flats base able limits named;
  narrow = flats_are_narrow p flats base able limits named;
  ruled_is = gives;
}

-- the rows of cases can be decided
pub rows_fit : (p : Problem) (flats : List FlatClause) (base : Ground) (found : Ruled) → IsFlattenable p → passed p ≡ None → flat_of p ≡ Ok (flats, base) → HasPlainNames p
    → rules base.names flats ≡ Ok found → All BranchIsFit found.branches
rows_fit p flats base found able limits named plain gives =
    branches_fit flattened_is_flat flattened_has_one base.names flats found (are_ruled p flats base found able limits named plain gives)

-- the limit that groups pass
pub by_groups : (p : Problem) (chain : Chain) (read : Reading) (base new : Ground) (e : GroundErr) → IsReadAs p (read, base) → chain.groups ≡ chain_of p (read, base)
    → Makes (groups_made chain.groups) base new (Err e) → DescendedAs p chain (Err e)
by_groups p chain read base new (stop.Limit l) taken same h = making (read, base) taken (ap (λ (gs : List Group). groups_made gs base) (sym same) ∙ h)
by_groups p chain read base new stop.Memory taken same h = tt

pub chain_lent : (p : Problem) (read : Read) → IsFlattenable p → passed p ≡ None → IsReadAs p read → HasPlainNames p → All (λ c. ghosts.IsLent c read.1.names) (chain_of p read)
chain_lent p read able limits taken plain =
    groups_lent read.1.names read.0 (function_order p.decls) (readable p read.0 read.1 able limits taken plain) (order_whole p read.0.flats read.1 able limits taken.named)

-- groups of these classes are always ready to give tables
pub is_ready : (c : Group) (names : NameList) (v : Values) → ghosts.Ready c names v
is_ready (Free c) names v = tt
is_ready (Monotone c) names v = tt
is_ready (Cases c) names v = tt
is_ready (Arrays c) names v = tt

-- the law wants the points of its functions in the universe
pub are_placed : (c : Group) (size : ℕ) (names : NameList) (v : Values) → HaveSortedPoints (ghosts.own c) size names v → ghosts.ArePlaced c size names v
are_placed (Free c) size names v h = h
are_placed (Monotone c) size names v h = h
are_placed (Cases c) size names v h = h
are_placed (Arrays c) size names v h = h

-- ---- why there are no groups
module _ (p : Problem) where
  pub read_limit : (l : Which) → flat_of p ≡ Err l → read_of p ≡ Err (refusal.Limit l)
  read_limit l named = ap flattened named

  module _ (flats : List FlatClause) (base : Ground) (named : flat_of p ≡ Ok (flats, base)) where
    pub read_is : (found : Ruled) → rules base.names flats ≡ Ok found → read_of p ≡ Ok (record { flats = flats; ruled = found }, base)
    read_is found e = ap flattened named ∙ ap (ruled flats base) e

    -- a rule that one clause breaks
    pub by_rules : (e : RuleErr) → RuledAs base.names flats (Err e) → ClassifiedAs p (Err (refused_by e))
    by_rules (rule.Outside o) h = alone (ap flattened named ∙ ap (ruled flats base) h)
    by_rules (rule.Limit l) h = naming (ap flattened named ∙ ap (ruled flats base) h)
    by_rules rule.Memory h = tt

    module _ (found : Ruled) (gives : rules base.names flats ≡ Ok found) where
      abbrev these : Read
      these = (record { flats = flats; ruled = found }, base)

      -- a rule that two clauses break
      pub by_pairs : (e : PairErr) → Separates (rule_words base.names) (count base.names) (pairs_of these) (Err e) → ClassifiedAs p (Err (met_by e))
      by_pairs (pair.Outside o) h = paired these (read_is found gives) h
      by_pairs (pair.Strain s) h = record { read = these; is = read_is found gives; first = h }
      by_pairs pair.Memory h = tt
