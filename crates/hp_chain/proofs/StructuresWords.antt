-- What a structure gives to the declared words: a value to each constant, and to each function values of its sorts.
use Rattle.std.proofs.Common.{◌≡◌, ◌++◌, ℕ, zero, suc, ◌+◌, IsTrue, List, [], ◌∷◌, length, map, Some, slice_get, refl, sym, ap, subst, ◌∙◌}
use Rattle.std.specs.List.{All, Contains}
use Rattle.std.specs.Prelude.{option_map}
use Rattle.std.proofs.lemmas.List.Elements.{All-contains}
use Rattle.hp_tree.specs.declared.problem.Sort.{Sort}
use Rattle.hp_tree.specs.declared.problem.Decl.{Decl}
use Rattle.hp_tree.specs.declared.problem.Decl.TheVariants.{Const, Fun}
use Rattle.hp_tree.specs.declared.problem.Problem.{Problem}
use Rattle.hp_tree.specs.Sorted.{is_of_sort}
use Rattle.hp_names.specs.Names.{AreDistinct}
use Rattle.hp_lit.specs.Growing.{Begins}
use Rattle.hp_lit.specs.Truth.{Values}
use Rattle.hp_sorts.specs.Laws.{HasLevel}
use Rattle.hp_defs.specs.declared.names.Signature.{Signature}
use Rattle.hp_defs.specs.Names.{NameList, constant_name, constant_sort, constant_words, function_words, profile_of, signature_name, words}
use Rattle.hp_norm.specs.Laws.{AgreeOnConstants}
use Rattle.hp_chain.proofs.ValuesWords.{constants_agree}
use Rattle.hp_model.specs.declared.structure.ConstValue.{ConstValue}
use Rattle.hp_model.specs.declared.structure.Structure.{Structure}
use Rattle.hp_model.specs.Declarations.{constants, functions}
use Rattle.hp_model.specs.Value.{constant, entry_value, functions_of}
use Rattle.hp_model.specs.WellFormed.{ConstantsFit, WellFormed}
use Rattle.hp_model.proofs.Sorted.{declared_scopes_keep_sorts}
use Rattle.hp_local.proofs.Lists.{contains_later, contains_same}
use Rattle.hp_local.specs.Structures.{IsLevelled}
use Rattle.hp_norm.specs.Lines.{constants_of, signatures_from}
use Rattle.hp_class.specs.Frame.{const_values, environment}
use Rattle.hp_class.specs.Groups.{AreInside}
use Rattle.hp_chain.proofs.StructuresFilled.{FunctionsKeep}
use Rattle.hp_chain.proofs.ValuesDeclared.{are_levelled, declared_function}

-- ---- constants
as_many : (size : ℕ) (decls : List Decl) (cs : List ConstValue) → ConstantsFit size (constants decls) cs → length (map entry_value cs) ≡ length (constants_of decls)
as_many size [] [] fit = refl
as_many size [] (c ∷ cs) fit = absurd fit
as_many size (Const name sort ∷ decls) [] fit = absurd fit
as_many size (Const name sort ∷ decls) (c ∷ cs) fit = ap suc (as_many size decls cs fit.2)
as_many size (Fun name args result level ∷ decls) cs fit = as_many size decls cs fit

values_inside : (size : ℕ) (decls : List Decl) (cs : List ConstValue) → ConstantsFit size (constants decls) cs → AreInside size (map constant_sort (constants_of decls)) (map entry_value cs)
values_inside size [] cs fit n s e = absurd (cc)
values_inside size (Const name sort ∷ decls) [] fit n s e = absurd fit
values_inside size (Const name sort ∷ decls) (c ∷ cs) fit zero s e = let same : sort ≡ s = cc in subst (λ (t : Sort). IsTrue (is_of_sort size t c.value)) same fit.1
values_inside size (Const name sort ∷ decls) (c ∷ cs) fit (suc n) s e = values_inside size decls cs fit.2 n s e
values_inside size (Fun name args result level ∷ decls) cs fit n s e = values_inside size decls cs fit n s e

-- the constants with their values are those of the structure
same_constants : (size : ℕ) (decls : List Decl) (cs : List ConstValue) (more : Values) → ConstantsFit size (constants decls) cs
    → const_values (map constant_name (constants_of decls)) (map entry_value cs ++ more) ≡ cs
same_constants size [] [] more fit = refl
same_constants size [] (c ∷ cs) more fit = absurd fit
same_constants size (Const name sort ∷ decls) [] more fit = absurd fit
same_constants size (Const name sort ∷ decls) (c ∷ cs) more fit =
    let word = sym fit.0 in
    let rest = same_constants size decls cs more fit.2 in
    λ i. record { name = word i; value = c.value } ∷ rest i
same_constants size (Fun name args result level ∷ decls) cs more fit = same_constants size decls cs more fit

-- ---- functions
among_functions : (item : ℕ) (decls : List Decl) (func : ℕ) (signature : Signature) → slice_get (signatures_from item decls) func ≡ Some signature
    → Contains (functions decls) (declared_function signature)
among_functions item [] func signature e = absurd (cc)
among_functions item (Const name sort ∷ decls) func signature e = among_functions (item + 1) decls func signature e
among_functions item (Fun name args result level ∷ decls) zero signature e =
    let first : Signature = record { name = name; args = args; result = result; level = level; item = item } in
    let same : first ≡ signature = cc in
    contains_same (declared_function first) (functions decls) (declared_function signature) (ap declared_function same)
among_functions item (Fun name args result level ∷ decls) (suc func) signature e =
    let first : Signature = record { name = name; args = args; result = result; level = level; item = item } in
    contains_later (declared_function first) (functions decls) (declared_function signature) (among_functions (item + 1) decls func signature e)

-- ---- names that are declared so
module _ (s : Structure) (p : Problem) (fits : WellFormed s p) (names : NameList) (constants_are : names.constants ≡ constants_of p.decls) (signatures_are : names.signatures ≡ signatures_from 1 p.decls) where
  -- the values of the constants in their order
  abbrev pub given : Values
  given = map entry_value s.consts

  pub given_count : length given ≡ length names.constants
  given_count = as_many s.universe p.decls s.consts fits.constants_fit ∙ ap length (sym constants_are)

  pub given_inside : AreInside s.universe (map constant_sort names.constants) given
  given_inside = rw constants_are (values_inside s.universe p.decls s.consts fits.constants_fit)

  -- the words of all names have at values that begin with these what the structure gives to the constants
  pub given_again : (v : Values) → Begins given v → AgreeOnConstants p (environment (words names) v) (constant s.consts)
  given_again v begins =
      let again : const_values (constant_words names) v ≡ s.consts =
      (λ i. const_values (map constant_name (constants_are i)) (begins.all i)) ∙ same_constants s.universe p.decls s.consts begins.more fits.constants_fit in
      subst (λ (cs : List ConstValue). AgreeOnConstants p (environment (words names) v) (constant cs)) again (constants_agree p names v constants_are)

  pub functions_keep : All HasLevel p.decls → AreDistinct (function_words names) → FunctionsKeep s.universe (functions_of s) names
  functions_keep levels distinct func signature args known fit =
      let levelled = are_levelled p levels (subst (λ (ss : List Signature). AreDistinct (map signature_name ss)) signatures_are distinct) in
      let among = among_functions 1 p.decls func signature (subst (λ (ss : List Signature). slice_get ss func ≡ Some signature) signatures_are known) in
      let is = (All-contains (IsLevelled p) (functions p.decls) (declared_function signature) levelled among).first in
      (declared_scopes_keep_sorts s p fits).functions_keep signature.name (profile_of signature) args (ap (option_map (λ f. f.profile)) is) fit
