-- The arguments of definitions that fit are small, where the values of index names are.
use Rattle.std.proofs.Common.{◌≡◌, ℕ, ℤ, pos, ◌≤ℤ◌, ◌+ℤ◌, List, [], ◌∷◌, get_or, drop, Option, Some, None, refl, sym, subst, arith}
use Rattle.std.specs.Prelude.{slice_get}
use Rattle.std.specs.List.{All, AllZip}
use Rattle.std.proofs.lemmas.Bool.{eq-eqb}
use Rattle.std.proofs.lemmas.Int.{ints}
use Rattle.std.proofs.lemmas.List.{take-append-drop}
use Rattle.std.proofs.lemmas.Option.{get_or_from_slice_get, slice_get-get_or}
use Rattle.std.proofs.lemmas.List.Elements.{All-cons, All-head, All-nil, All-tail}
use Rattle.hp_math.specs.Rational.{whole}
use Rattle.hp_math.proofs.Parts.{whole-parts}
use Rattle.hp_tree.specs.Limits.{largest_value}
use Rattle.hp_tree.specs.declared.problem.Sort.{Sort}
use Rattle.hp_tree.specs.declared.problem.Sort.TheVariants.{Num, Idx, Ptr}
use Rattle.hp_terms.specs.Weight.{IsWithin}
use Rattle.hp_lit.specs.declared.literal.Name.{Name}
use Rattle.hp_lit.specs.declared.line.Arg.{Arg}
use Rattle.hp_lit.specs.declared.line.Arg.TheVariants.{Number, Named, Index, Null}
use Rattle.hp_lit.specs.declared.line.Body.{Body}
use Rattle.hp_lit.specs.declared.line.Body.TheVariants.{Apply, Sum}
use Rattle.hp_lit.specs.Fit.{IsIdxSide}
use Rattle.hp_lit.specs.Sorts.{HaveSorts}
use Rattle.hp_lit.specs.Truth.{Values, optional_value}
use Rattle.hp_defs.specs.Fit.{ArgFits, BodyFits, IsFitNames}
use Rattle.hp_defs.specs.Made.{IsMade, IsSmallArg, IsSmallBody}
use Rattle.hp_defs.specs.Names.{BeginsNames, NameList, first_names, sorts}
use Rattle.hp_defs.proofs.Fitting.{bodies_stay_fit}
use Rattle.hp_base.specs.Congruence.{body_args}
use Rattle.hp_base.proofs.Places.{small_at}
use Rattle.hp_class.specs.Small.{AreSmallIdx, HasSmallSums, IsSmallAt, IsSmallSum}

none_small : IsWithin largest_value (whole (pos 0)).num
none_small = let zero_is = (whole-parts (pos 0)).0 in record { low = subst (λ n. pos 0 ≤ℤ (n +ℤ pos largest_value)) (sym zero_is) (omega (arith, ints)); high = subst (λ n. n ≤ℤ pos largest_value) (sym zero_is) (omega (arith, ints)) }

module _ (ss : List Sort) (v : Values) (sorted : HaveSorts ss v) (small : AreSmallIdx ss v) where
  side_small : (base : Option Name) (offset : ℤ) → IsIdxSide ss base → IsSmallArg (Index base offset) → IsSmallSum (optional_value v base) offset
  side_small None offset h s = record { whole = eq-eqb (whole (pos 0)).den 1 (whole-parts (pos 0)).1; near = none_small; added = s }
  side_small (Some name) offset h s = record { whole = sorted name.0 Idx h; near = small name.0 h; added = s }

  arg_small : (sort : Sort) (arg : Arg) → ArgFits ss sort arg → IsSmallArg arg → IsSmallAt v arg
  arg_small sort (Number q) h s = tt
  arg_small sort (Named name) h s = tt
  arg_small Num (Index base offset) h s = absurd h
  arg_small Idx (Index base offset) h s = side_small base offset h s
  arg_small Ptr (Index base offset) h s = absurd h
  arg_small sort Null h s = tt

  args_small : (sorts_are : List Sort) (args : List Arg) → AllZip (ArgFits ss) sorts_are args → All IsSmallArg args → All (IsSmallAt v) args
  args_small sorts_are [] h s = All-nil (IsSmallAt v)
  args_small [] (arg ∷ args) h s = absurd h
  args_small (sort ∷ sorts_are) (arg ∷ args) h s =
      All-cons (IsSmallAt v) arg args (arg_small sort arg h.0 (All-head IsSmallArg arg args s)) (args_small sorts_are args h.1 (All-tail IsSmallArg arg args s))

body_small : (names : NameList) (v : Values) (body : Body) → HaveSorts (sorts names) v → AreSmallIdx (sorts names) v → BodyFits names body → IsSmallBody body → All (IsSmallAt v) (body_args body)
body_small names v (Apply func args) sorted small h s = args_small (sorts names) v sorted small h.known.args args h.args_fit s
body_small names v (Sum lin) sorted small h s = All-nil (IsSmallAt v)

first_begin : (k : ℕ) (names : NameList) → BeginsNames (first_names k names) names
first_begin k names = record { constants = refl; signatures = refl; definitions = record { more = drop k names.definitions; all = sym (take-append-drop k names.definitions) } }

-- where definitions fit, all their arguments are small
pub all_small : (names : NameList) (v : Values) → IsMade names → IsFitNames names → HaveSorts (sorts names) v → AreSmallIdx (sorts names) v → All (HasSmallSums v) names.definitions
all_small names v made fit sorted small k d h =
    let e = get_or names.definitions k d in
    let there : slice_get names.definitions k ≡ Some e = slice_get-get_or names.definitions k d h in
    body_small names v e.body sorted small (bodies_stay_fit e.body (first_names k names) names (first_begin k names) (fit k e there))
    (small_at names.definitions k e h (sym (get_or_from_slice_get names.definitions k e e there)) made.small)
