-- The values of arguments and of definitions stay as further names get values.
use Rattle.std.proofs.Common.{◌≡◌, ◌++◌, ℕ, ◌≤◌, ◌<◌, pos, List, [], ◌∷◌, length, Option, Some, None, slice_get, refl, ap, arith}
use Rattle.std.specs.List.{All, AllZip}
use Rattle.std.proofs.lemmas.List.{get_or_append_left}
use Rattle.std.proofs.lemmas.List.Elements.{All-head, All-tail}
use Rattle.std.proofs.lemmas.Option.{slice_get_within}
use Rattle.hp_math.specs.Rational.{whole, ◌+ℚ◌, ◌*ℚ◌}
use Rattle.hp_tree.specs.declared.problem.Sort.{Sort}
use Rattle.hp_tree.specs.declared.problem.Sort.TheVariants.{Num, Idx, Ptr}
use Rattle.hp_tree.specs.Value.{Functions}
use Rattle.hp_lit.specs.declared.literal.Name.{Name}
use Rattle.hp_lit.specs.declared.line.Arg.{Arg}
use Rattle.hp_lit.specs.declared.line.Arg.TheVariants.{Number, Named, Index, Null}
use Rattle.hp_lit.specs.declared.line.Body.{Body}
use Rattle.hp_lit.specs.declared.line.Body.TheVariants.{Apply, Sum}
use Rattle.hp_lit.specs.declared.line.LinPart.{LinPart}
use Rattle.hp_lit.specs.Fit.{IsIdxSide}
use Rattle.hp_lit.specs.Truth.{Values, name_value, optional_value}
use Rattle.hp_linear.specs.Values.{sum_value}
use Rattle.hp_defs.specs.Fit.{ArgFits, BodyFits}
use Rattle.hp_defs.specs.Names.{NameList, sorts}
use Rattle.hp_base.specs.Values.{arg_value, arg_values, body_value, function_at}

module _ (sorts : List Sort) (v more : Values) (few : length sorts ≤ length v) where
  pub name_stays : (n : ℕ) (s : Sort) → slice_get sorts n ≡ Some s → name_value (v ++ more) n ≡ name_value v n
  name_stays n s e =
      let within : n < length v = omega (arith, slice_get_within sorts n s e) in
      get_or_append_left v more (whole (pos 0)) n within

  side_stays : (base : Option Name) → IsIdxSide sorts base → optional_value (v ++ more) base ≡ optional_value v base
  side_stays None fits = refl
  side_stays (Some name) fits = name_stays name.0 Idx fits

  arg_stays : (sort : Sort) (arg : Arg) → ArgFits sorts sort arg → arg_value (v ++ more) arg ≡ arg_value v arg
  arg_stays Num (Number x) fits = refl
  arg_stays Num (Named n) fits = name_stays n.0 Num fits
  arg_stays Num (Index base offset) fits = absurd fits
  arg_stays Num Null fits = refl
  arg_stays Idx (Index base offset) fits = ap (λ x. x +ℚ whole offset) (side_stays base fits)
  arg_stays Idx (Number x) fits = refl
  arg_stays Idx (Named n) fits = absurd fits
  arg_stays Idx Null fits = refl
  arg_stays Ptr (Named n) fits = name_stays n.0 Ptr fits
  arg_stays Ptr Null fits = refl
  arg_stays Ptr (Number x) fits = refl
  arg_stays Ptr (Index base offset) fits = absurd fits

  args_stay : (ss : List Sort) (args : List Arg) → AllZip (ArgFits sorts) ss args → arg_values (v ++ more) args ≡ arg_values v args
  args_stay [] [] fit = refl
  args_stay [] (a ∷ args) fit = absurd fit
  args_stay (s ∷ ss) [] fit = refl
  args_stay (s ∷ ss) (a ∷ args) fit = λ i. arg_stays s a fit.0 i ∷ args_stay ss args fit.1 i

  sum_stays : (parts : List LinPart) → All (λ p. slice_get sorts p.name.0 ≡ Some Num) parts → sum_value (v ++ more) parts ≡ sum_value v parts
  sum_stays [] all = refl
  sum_stays (p ∷ parts) all =
      let here = name_stays p.name.0 Num (All-head (λ (q : LinPart). slice_get sorts q.name.0 ≡ Some Num) p parts all) in
      let rest = sum_stays parts (All-tail (λ (q : LinPart). slice_get sorts q.name.0 ≡ Some Num) p parts all) in
      λ i. p.coef *ℚ here i +ℚ rest i

-- the value of a body over these names
pub body_stays : (functions : Functions) (names first : NameList) (v more : Values) → length (sorts first) ≤ length v → (body : Body) → BodyFits first body
    → body_value functions names (v ++ more) body ≡ body_value functions names v body
body_stays functions names first v more few (Apply func args) fits = ap (function_at functions names func) (args_stay (sorts first) v more few fits.known.args args fits.args_fit)
body_stays functions names first v more few (Sum lin) fits = ap (λ x. x +ℚ lin.rest) (sum_stays (sorts first) v more few lin.parts fits.names)
