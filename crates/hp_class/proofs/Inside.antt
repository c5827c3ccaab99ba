-- Values that are in the universe: the arguments and the values of applications, and tuples of arguments.
use Rattle.std.proofs.Common.{◌≡◌, ◌≤◌, ℕ, pos, true, IsTrue, List, [], ◌∷◌, map, Option, Some, None, refl, subst}
use Rattle.std.specs.List.{All, AllZip, Contains}
use Rattle.hp_math.specs.Rational.{whole, is_whole}
use Rattle.hp_tree.specs.declared.problem.Sort.{Sort}
use Rattle.hp_tree.specs.declared.problem.Sort.TheVariants.{Num, Idx, Ptr}
use Rattle.hp_tree.specs.declared.problem.Var.{Var}
use Rattle.hp_tree.specs.Sorted.{is_of_sort}
use Rattle.hp_tree.specs.Universal.{AreSorted}
use Rattle.hp_tree.specs.Value.{Word}
use Rattle.hp_terms.specs.Laws.{AreOfSort}
use Rattle.hp_terms.proofs.Whole.{null_pointer, whole-whole, whole_sum}
use Rattle.hp_lit.specs.declared.line.Arg.{Arg}
use Rattle.hp_lit.specs.declared.line.Arg.TheVariants.{Number, Named, Index, Null}
use Rattle.hp_lit.specs.declared.literal.Name.{Name}
use Rattle.hp_lit.specs.Fit.{IsIdxSide}
use Rattle.hp_lit.specs.Truth.{Values, optional_value}
use Rattle.hp_local.specs.Frame.{Fact}
use Rattle.hp_local.specs.Sorts.{IsSortedFact}
use Rattle.hp_local.proofs.Lists.{All-by, map_contains}
use Rattle.hp_defs.specs.declared.names.Signature.{Signature}
use Rattle.hp_defs.specs.Fit.{ArgFits}
use Rattle.hp_base.specs.Congruence.{Point}
use Rattle.hp_base.specs.Laws.{IsPoint}
use Rattle.hp_base.specs.Values.{arg_value, arg_values}
use Rattle.hp_class.specs.Frame.{fact_of}
use Rattle.hp_class.specs.Groups.{AreInside}

module _ (size : ℕ) (sorts : List Sort) (v : Values) (some : 1 ≤ size) (inside : AreInside size sorts v) where
  base_whole : (base : Option Name) → IsIdxSide sorts base → is_whole (optional_value v base) ≡ true
  base_whole None h = whole-whole (pos 0)
  base_whole (Some name) h = inside name.0 Idx h

  -- ---- arguments
  arg_inside : (sort : Sort) (arg : Arg) → ArgFits sorts sort arg → IsTrue (is_of_sort size sort (arg_value v arg))
  arg_inside Num arg h = refl
  arg_inside Idx (Number x) h = absurd h
  arg_inside Idx (Named n) h = absurd h
  arg_inside Idx (Index base offset) h = whole_sum (optional_value v base) (whole offset) (base_whole base h) (whole-whole offset)
  arg_inside Idx Null h = absurd h
  arg_inside Ptr (Number x) h = absurd h
  arg_inside Ptr (Named n) h = inside n.0 Ptr h
  arg_inside Ptr (Index base offset) h = absurd h
  arg_inside Ptr Null h = null_pointer size some

  pub args_inside : (ss : List Sort) (args : List Arg) → AllZip (ArgFits sorts) ss args → AreOfSort size ss (arg_values v args)
  args_inside [] [] h = tt
  args_inside [] (arg ∷ args) h = absurd h
  args_inside (s ∷ ss) [] h = absurd h
  args_inside (s ∷ ss) (arg ∷ args) h = (arg_inside s arg h.0, args_inside ss args h.1)

  -- those of variables
  pub tuple_inside : (vars : List Var) (args : List Arg) → AllZip (λ (x : Var) (arg : Arg). ArgFits sorts x.sort arg) vars args → AreSorted size vars (arg_values v args)
  tuple_inside [] [] h = tt
  tuple_inside [] (arg ∷ args) h = absurd h
  tuple_inside (x ∷ vars) [] h = absurd h
  tuple_inside (x ∷ vars) (arg ∷ args) h = (arg_inside x.sort arg h.0, tuple_inside vars args h.1)

  -- ---- applications
  pub point_inside : (signature : Signature) (word : Word) (p : Point) → IsPoint sorts signature p → IsSortedFact size signature.args signature.result (fact_of word v p)
  point_inside signature word p is = record { args = args_inside signature.args p.args is.args; value = inside p.name.0 signature.result is.name }

  pub points_inside : (signature : Signature) (word : Word) (ps : List Point) → ((p : Point) → Contains ps p → IsPoint sorts signature p)
      → All (IsSortedFact size signature.args signature.result) (map (fact_of word v) ps)
  points_inside signature word ps are = All-by (IsSortedFact size signature.args signature.result) (map (fact_of word v) ps) each
    where
      each : (k : Fact) → Contains (map (fact_of word v) ps) k → IsSortedFact size signature.args signature.result k
      each k m = let h = map_contains (fact_of word v) ps k m in subst (IsSortedFact size signature.args signature.result) h.2 (point_inside signature word h.0 (are h.0 h.1))
