-- The arguments of terms: what they are worth, and what stays while they are made.
use Rattle.std.proofs.Common.{◌≡◌, ◌↔◌, ◌∙◌, ℕ, pos, Bool, true, false, cond, List, [], ◌∷◌, Option, Some, None, Ok, slice_get, refl, sym, ap, subst}
use Rattle.std.specs.List.{All}
use Rattle.std.proofs.lemmas.Bool.{and_parts}
use Rattle.std.proofs.lemmas.List.Elements.{All-head}
use Rattle.hp_math.specs.Rational.{whole, ◌+ℚ◌, ◌*ℚ◌, eq_ℚ}
use Rattle.hp_math.proofs.Field.{+ℚ_zero}
use Rattle.hp_tree.specs.declared.term.Term.{Term}
use Rattle.hp_tree.specs.declared.problem.Sort.{Sort}
use Rattle.hp_tree.specs.declared.problem.Sort.TheVariants.{Num, Idx, Ptr}
use Rattle.hp_tree.specs.Value.{value}
use Rattle.hp_tree.proofs.Compares.{eq_ℚ-true}
use Rattle.hp_terms.specs.Weight.{largest_offset, weight}
use Rattle.hp_lit.specs.declared.literal.Name.{Name}
use Rattle.hp_lit.specs.declared.line.Arg.{Arg}
use Rattle.hp_lit.specs.declared.line.Arg.TheVariants.{Number, Named, Index, Null}
use Rattle.hp_lit.specs.declared.line.Lin.{Lin}
use Rattle.hp_lit.specs.declared.line.LinPart.{LinPart}
use Rattle.hp_lit.specs.Fit.{IsSide}
use Rattle.hp_lit.specs.Growing.{Begins as IsFront}
use Rattle.hp_lit.specs.Truth.{Values, LineIsTrue, name_value, optional_value}
use Rattle.hp_linear.specs.Fit.{IsLinOver}
use Rattle.hp_linear.specs.Lins.{lin_of}
use Rattle.hp_linear.specs.Values.{lin_value, sum_value}
use Rattle.hp_linear.proofs.Fields.{one_times, zero_plus}
use Rattle.hp_linear.proofs.Fits.{terms_have_fit_lins}
use Rattle.hp_linear.proofs.Semantics.{terms_have_lin_values}
use Rattle.hp_index.specs.Forms.{index_of}
use Rattle.hp_index.specs.Pointers.{pointer_of}
use Rattle.hp_index.proofs.Bounds.{offset_within, within-more}
use Rattle.hp_index.proofs.Named.{pointer_side, term_base}
use Rattle.hp_index.proofs.Semantics.{terms_have_form_values, terms_have_pointer_values}
use Rattle.hp_defs.specs.declared.names.Ground.{Ground}
use Rattle.hp_defs.specs.Fit.{ArgFits, IsFitNames}
use Rattle.hp_defs.specs.Made.{IsMade, IsSmallArg}
use Rattle.hp_defs.specs.Names.{sorts, words}
use Rattle.hp_defs.proofs.Growing.{begins_get, sorts_begin}
use Rattle.hp_base.specs.Making.{Begins, computed, keep}
use Rattle.hp_base.specs.Defining.{sum_of}
use Rattle.hp_base.specs.Arguments.{argument_of, form_argument, is_alone, lin_argument, named_sum, parts_argument, pointer_argument}
use Rattle.hp_base.specs.Laws.{ArgumentsAreSmall, ArgumentsBegin, ArgumentsFit, ArgumentsKeepFit, ArgumentsKeepMade, ArgumentsKeepSums, ArgumentsKeepTruth, ArgumentsSay, ArgumentsStayFit, HasSums, IsFitLine}
use Rattle.hp_base.specs.Values.{arg_value}
use Rattle.hp_base.proofs.Making.{begins_names, begins_trans}
use Rattle.hp_base.proofs.Growing.{argument_grows, came}
use Rattle.hp_base.proofs.ArgsSteps.{agrees_before, computed_gave, gave}
use Rattle.hp_base.proofs.ArgsDefined.{side_stays}
use Rattle.hp_base.proofs.SumsMade.{sum_fits, sum_keeps_fit, sum_keeps_sums, sum_keeps_truth, sum_made, sum_sort, sum_value as made_value}

-- ---- the ways to make an argument
-- an argument that needs nothing new
kept : (P : Arg → Ground → Type 0) (x arg : Arg) (before after : Ground) → keep x before ≡ Ok (arg, after) → P x before → P arg after
kept P x arg before after e h = let g = gave x arg before after e in subst (λ (y : Arg). P y after) g.value (subst (λ (z : Ground). P x z) g.ground h)

-- what holds of the argument of each kind of form
record Cases (P : Arg → Ground → Type 0) (item : ℕ) (lin : Lin) (before : Ground) : Type 0 where
  number : lin.parts ≡ [] → P (Number lin.rest) before
  alone : (part : LinPart) → lin.parts ≡ part ∷ [] → part.coef ≡ whole (pos 1) → lin.rest ≡ whole (pos 0) → P (Named part.name) before
  sum : (name : Name) (after : Ground) → sum_of item lin before ≡ Ok (name, after) → P (Named name) after

module _ (P : Arg → Ground → Type 0) (item : ℕ) (lin : Lin) (before after : Ground) (arg : Arg) (cases : Cases P item lin before) where
  by_sum : named_sum item lin before ≡ Ok (arg, after) → P arg after
  by_sum e =
      let one = came (sum_of item lin before) (λ name. keep (Named name)) arg after e in
      kept P (Named one.value) arg one.mid after one.rest (cases.sum one.value one.mid one.first)

  by_one : (part : LinPart) (b : Bool) → is_alone part lin.rest ≡ b → lin.parts ≡ part ∷ [] → cond b (keep (Named part.name)) (named_sum item lin) before ≡ Ok (arg, after) → P arg after
  by_one part true t is e =
      let both = and_parts (eq_ℚ part.coef (whole (pos 1))) (eq_ℚ lin.rest (whole (pos 0))) t in
      kept P (Named part.name) arg before after e (cases.alone part is (eq_ℚ-true part.coef (whole (pos 1)) both.0) (eq_ℚ-true lin.rest (whole (pos 0)) both.1))
  by_one part false t is e = by_sum e

  by_parts : (parts : List LinPart) → lin.parts ≡ parts → parts_argument item lin parts before ≡ Ok (arg, after) → P arg after
  by_parts [] is e = kept P (Number lin.rest) arg before after e (cases.number is)
  by_parts (part ∷ []) is e = by_one part (is_alone part lin.rest) refl is e
  by_parts (part ∷ more ∷ parts) is e = by_sum e

-- the argument of a num term
by_num : (P : Arg → Ground → Type 0) (item : ℕ) (term : Term) (arg : Arg) (before after : Ground)
    → ((lin : Lin) → lin_of (words before.names) term ≡ Ok lin → Cases P item lin before) → argument_of item Num term before ≡ Ok (arg, after) → P arg after
by_num P item term arg before after cases e =
    let one = came (computed item (lin_of (words before.names) term) before) (lin_argument item) arg after e in
    let c = computed_gave item (lin_of (words before.names) term) one.value before one.mid one.first in
    let rest = subst (λ (g : Ground). lin_argument item one.value g ≡ Ok (arg, after)) (sym c.ground) one.rest in
    by_parts P item one.value before after arg (cases one.value c.value) one.value.parts refl rest

-- the arguments of the other sorts
by_idx : (P : Arg → Ground → Type 0) (item : ℕ) (term : Term) (arg : Arg) (before after : Ground) → argument_of item Idx term before ≡ Ok (arg, after)
    → P (form_argument (index_of (words before.names) term)) before → P arg after
by_idx P item term arg before after e h = kept P (form_argument (index_of (words before.names) term)) arg before after e h

by_ptr : (P : Arg → Ground → Type 0) (item : ℕ) (term : Term) (arg : Arg) (before after : Ground) → argument_of item Ptr term before ≡ Ok (arg, after)
    → P (pointer_argument (pointer_of (words before.names) term)) before → P arg after
by_ptr P item term arg before after e h = kept P (pointer_argument (pointer_of (words before.names) term)) arg before after e h

-- ---- what was there
pub arguments_begin : ArgumentsBegin
arguments_begin item sort term arg before after e = argument_grows item sort term before after arg e

-- ---- values
number_value : (v : Values) (lin : Lin) → lin.parts ≡ [] → lin.rest ≡ lin_value v lin
number_value v lin is = sym (zero_plus lin.rest) ∙ ap (λ (ps : List LinPart). sum_value v ps +ℚ lin.rest) (sym is)

alone_value : (v : Values) (lin : Lin) (part : LinPart) → lin.parts ≡ part ∷ [] → part.coef ≡ whole (pos 1) → lin.rest ≡ whole (pos 0) → name_value v part.name.0 ≡ lin_value v lin
alone_value v lin part is one none =
    let x = name_value v part.name.0 in
    sym (one_times x) ∙ ap (λ q. q *ℚ x) (sym one) ∙ sym (+ℚ_zero (part.coef *ℚ x)) ∙ sym (+ℚ_zero (part.coef *ℚ x +ℚ whole (pos 0)))
    ∙ (λ i. sum_value v (sym is i) +ℚ sym none i)

pointer_has_value : (v : Values) (o : Option Name) → arg_value v (pointer_argument o) ≡ optional_value v o
pointer_has_value v None = refl
pointer_has_value v (Some name) = refl

pub arguments_say : ArgumentsSay
arguments_say item Num term arg before after end v env functions e b agrees hold formed =
    let ws = words before.names in
    let here = agrees_before before end v env (begins_trans before after end (arguments_begin item Num term arg before after e) b) agrees in
    by_num (λ x g. Begins g end → arg_value v x ≡ value env functions term) item term arg before after
    (λ lin given.
    let is = sym (terms_have_lin_values ws (sorts before.names) v env functions term lin here formed given) in
    record {
      number = λ none b. number_value v lin none ∙ is;
      alone = λ part one coef rest b. alone_value v lin part one coef rest ∙ is;
      sum = λ name g s b. made_value item lin name before g s end v b hold ∙ is;
    }) e b
arguments_say item Idx term arg before after end v env functions e b agrees hold formed =
    let here = agrees_before before end v env (begins_trans before after end (arguments_begin item Idx term arg before after e) b) agrees in
    by_idx (λ x g. arg_value v x ≡ value env functions term) item term arg before after e
    (sym (terms_have_form_values (words before.names) (sorts before.names) v env functions term here formed))
arguments_say item Ptr term arg before after end v env functions e b agrees hold formed =
    let ws = words before.names in
    let here = agrees_before before end v env (begins_trans before after end (arguments_begin item Ptr term arg before after e) b) agrees in
    by_ptr (λ x g. arg_value v x ≡ value env functions term) item term arg before after e
    (pointer_has_value v (pointer_of ws term) ∙ sym (terms_have_pointer_values ws (sorts before.names) v env functions term here formed))

-- ---- sorts and sizes
pointer_fits : (ss : List Sort) (o : Option Name) → IsSide Ptr ss o → ArgFits ss Ptr (pointer_argument o)
pointer_fits ss None h = tt
pointer_fits ss (Some name) h = h

abbrev IsNumName : List Sort → LinPart → Type 0
IsNumName ss p = slice_get ss p.name.0 ≡ Some Num

alone_fits : (ss : List Sort) (lin : Lin) (part : LinPart) → IsLinOver ss lin → lin.parts ≡ part ∷ [] → IsNumName ss part
alone_fits ss lin part over is = All-head (IsNumName ss) part [] (subst (λ (ps : List LinPart). All (IsNumName ss) ps) is over.names)

pub arguments_fit : ArgumentsFit
arguments_fit item Num term arg before after e fit formed =
    let ss = sorts before.names in
    by_num (λ x g. ArgFits (sorts g.names) Num x × IsFitNames g.names) item term arg before after
    (λ lin given.
    let over = (terms_have_fit_lins (words before.names) ss term lin formed given).0 in
    record {
      number = λ none. (tt, fit);
      alone = λ part is coef rest. (alone_fits ss lin part over is, fit);
      sum = λ name g s. (sum_sort item lin name before g s, sum_fits item lin name before g s over fit);
    }) e
arguments_fit item Idx term arg before after e fit formed =
    by_idx (λ x g. ArgFits (sorts g.names) Idx x × IsFitNames g.names) item term arg before after e ((term_base (words before.names) (sorts before.names) term).index formed, fit)
arguments_fit item Ptr term arg before after e fit formed =
    let ws = words before.names in
    by_ptr (λ x g. ArgFits (sorts g.names) Ptr x × IsFitNames g.names) item term arg before after e
    (pointer_fits (sorts before.names) (pointer_of ws term) (pointer_side ws (sorts before.names) term formed), fit)

arg_stays_fit : (old new : List Sort) → IsFront old new → (sort : Sort) (arg : Arg) → ArgFits old sort arg → ArgFits new sort arg
arg_stays_fit old new b Num (Number x) h = h
arg_stays_fit old new b Num (Named n) h = begins_get old new n.0 Num b h
arg_stays_fit old new b Num (Index base offset) h = absurd h
arg_stays_fit old new b Num Null h = absurd h
arg_stays_fit old new b Idx (Number x) h = absurd h
arg_stays_fit old new b Idx (Named n) h = absurd h
arg_stays_fit old new b Idx (Index base offset) h = side_stays old new b Idx base h
arg_stays_fit old new b Idx Null h = absurd h
arg_stays_fit old new b Ptr (Number x) h = absurd h
arg_stays_fit old new b Ptr (Named n) h = begins_get old new n.0 Ptr b h
arg_stays_fit old new b Ptr (Index base offset) h = absurd h
arg_stays_fit old new b Ptr Null h = h

pub arguments_stay_fit : ArgumentsStayFit
arguments_stay_fit before after sort arg b h =
    arg_stays_fit (sorts before.names) (sorts after.names) (sorts_begin before.names after.names (begins_names before after b)) sort arg h

small_pointer : (o : Option Name) → IsSmallArg (pointer_argument o)
small_pointer None = tt
small_pointer (Some name) = tt

pub arguments_are_small : ArgumentsAreSmall
arguments_are_small item Num term arg before after e light =
    by_num (λ x g. IsSmallArg x) item term arg before after (λ lin given. record { number = λ is. tt; alone = λ part is one none. tt; sum = λ name g s. tt }) e
arguments_are_small item Idx term arg before after e light =
    let ws = words before.names in
    by_idx (λ x g. IsSmallArg x) item term arg before after e (within-more (weight term) largest_offset (index_of ws term).offset light (offset_within ws term))
arguments_are_small item Ptr term arg before after e light =
    by_ptr (λ x g. IsSmallArg x) item term arg before after e (small_pointer (pointer_of (words before.names) term))

-- ---- what stays
pub arguments_keep_sums : ArgumentsKeepSums
arguments_keep_sums item Num term arg before after e has =
    by_num (λ x g. HasSums g) item term arg before after
    (λ lin given. record { number = λ is. has; alone = λ part is one none. has; sum = λ name g s. sum_keeps_sums item lin name before g s has }) e
arguments_keep_sums item Idx term arg before after e has = by_idx (λ x g. HasSums g) item term arg before after e has
arguments_keep_sums item Ptr term arg before after e has = by_ptr (λ x g. HasSums g) item term arg before after e has

abbrev AreFit : Ground → Type 0
AreFit g = All (IsFitLine g.names) g.lines

pub arguments_keep_fit : ArgumentsKeepFit
arguments_keep_fit item Num term arg before after e formed all =
    by_num (λ x g. AreFit g) item term arg before after
    (λ lin given.
    let over = (terms_have_fit_lins (words before.names) (sorts before.names) term lin formed given).0 in
    record { number = λ is. all; alone = λ part is one none. all; sum = λ name g s. sum_keeps_fit item lin name before g s over all }) e
arguments_keep_fit item Idx term arg before after e formed all = by_idx (λ x g. AreFit g) item term arg before after e all
arguments_keep_fit item Ptr term arg before after e formed all = by_ptr (λ x g. AreFit g) item term arg before after e all

pub arguments_keep_made : ArgumentsKeepMade
arguments_keep_made item Num term arg before after e is =
    by_num (λ x g. IsMade g.names) item term arg before after
    (λ lin given. record { number = λ none. is; alone = λ part one coef rest. is; sum = λ name g s. sum_made item lin name before g s is }) e
arguments_keep_made item Idx term arg before after e is = by_idx (λ x g. IsMade g.names) item term arg before after e is
arguments_keep_made item Ptr term arg before after e is = by_ptr (λ x g. IsMade g.names) item term arg before after e is

abbrev SameTruth : Values → Ground → Ground → Type 0
SameTruth v g h = All (λ line. LineIsTrue v line.lits) g.lines ↔ All (λ line. LineIsTrue v line.lits) h.lines

pub arguments_keep_truth : ArgumentsKeepTruth
arguments_keep_truth item Num term arg before after end v e b hold =
    let same : SameTruth v before before = (λ all. all, λ all. all) in
    by_num (λ x g. Begins g end → SameTruth v before g) item term arg before after
    (λ lin given. record { number = λ is b. same; alone = λ part is one none b. same; sum = λ name g s b. sum_keeps_truth item lin name before g s end v b hold }) e b
arguments_keep_truth item Idx term arg before after end v e b hold = by_idx (λ x g. SameTruth v before g) item term arg before after e (λ all. all, λ all. all)
arguments_keep_truth item Ptr term arg before after end v e b hold = by_ptr (λ x g. SameTruth v before g) item term arg before after e (λ all. all, λ all. all)
