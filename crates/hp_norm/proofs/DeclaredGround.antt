-- The ground set of a problem begins with its declared names, which can be made.
use Rattle.std.proofs.Common.{◌≡◌, ◌+◌, ◌≤◌, ℕ, Bool, true, false, cond, nat_lt, List, [], ◌∷◌, length, map, Result, Ok, Err, refl, ap, arith}
use Rattle.std.specs.List.{All}
use Rattle.std.specs.Str.{bytes_eq}
use Rattle.std.proofs.lemmas.Bool.{ltb-false, or_from, or_parts}
use Rattle.std.proofs.lemmas.List.Elements.{All-nil, All-cons, All-head, All-tail}
use Rattle.hp_names.specs.Names.{AreDistinct, is_among}
use Rattle.hp_tree.specs.Limits.{most_names}
use Rattle.hp_tree.specs.declared.limit.Limit.{Limit}
use Rattle.hp_tree.specs.declared.problem.Decl.{Decl}
use Rattle.hp_tree.specs.declared.problem.Decl.TheVariants.{Const, Fun}
use Rattle.hp_tree.specs.declared.problem.Problem.{Problem}
use Rattle.hp_tree.specs.Value.{Word}
use Rattle.hp_terms.specs.Words.{IsPlainWord, declared_word}
use Rattle.hp_lit.specs.Limited.{many_names}
use Rattle.hp_defs.specs.declared.names.Ground.{Ground}
use Rattle.hp_defs.specs.Made.{IsSmallBody}
use Rattle.hp_defs.specs.Names.{constant_name, signature_name}
use Rattle.hp_base.specs.Laws.{IsFitLine}
use Rattle.hp_sorts.proofs.Faultless.{faultless_problems_are_well_sorted}
use Rattle.hp_norm.specs.Flat.{IsFlattenable}
use Rattle.hp_norm.specs.Lines.{constants_of, declared_ground, declared_names, signatures_from, start}
use Rattle.hp_norm.specs.Sound.{IsSound}
use Rattle.hp_norm.proofs.DeclaredWords.{count_functions}

-- ---- words
no_constant : (word : Word) (decls : List Decl) → is_among word (map declared_word decls) ≡ false → is_among word (map constant_name (constants_of decls)) ≡ false
no_constant word [] e = refl
no_constant word (Const name sort ∷ decls) e =
    let parts = or_parts (bytes_eq word name) (is_among word (map declared_word decls)) e in
    or_from (bytes_eq word name) (is_among word (map constant_name (constants_of decls))) parts.0 (no_constant word decls parts.1)
no_constant word (Fun name args result level ∷ decls) e = no_constant word decls (or_parts (bytes_eq word name) (is_among word (map declared_word decls)) e).1

no_function : (word : Word) (item : ℕ) (decls : List Decl) → is_among word (map declared_word decls) ≡ false → is_among word (map signature_name (signatures_from item decls)) ≡ false
no_function word item [] e = refl
no_function word item (Const name sort ∷ decls) e = no_function word (item + 1) decls (or_parts (bytes_eq word name) (is_among word (map declared_word decls)) e).1
no_function word item (Fun name args result level ∷ decls) e =
    let parts = or_parts (bytes_eq word name) (is_among word (map declared_word decls)) e in
    or_from (bytes_eq word name) _ parts.0 (no_function word (item + 1) decls parts.1)

constants_distinct : (decls : List Decl) → AreDistinct (map declared_word decls) → AreDistinct (map constant_name (constants_of decls))
constants_distinct [] d = tt
constants_distinct (Const name sort ∷ decls) d = (no_constant name decls d.0, constants_distinct decls d.1)
constants_distinct (Fun name args result level ∷ decls) d = constants_distinct decls d.1

functions_distinct : (item : ℕ) (decls : List Decl) → AreDistinct (map declared_word decls) → AreDistinct (map signature_name (signatures_from item decls))
functions_distinct item [] d = tt
functions_distinct item (Const name sort ∷ decls) d = functions_distinct (item + 1) decls d.1
functions_distinct item (Fun name args result level ∷ decls) d = (no_function name (item + 1) decls d.0, functions_distinct (item + 1) decls d.1)

abbrev IsPlainDecl : Decl → Type 0
IsPlainDecl d = IsPlainWord (declared_word d)

constants_plain : (decls : List Decl) → All IsPlainDecl decls → All IsPlainWord (map constant_name (constants_of decls))
constants_plain [] all = All-nil IsPlainWord
constants_plain (Const name sort ∷ decls) all =
    All-cons IsPlainWord name (map constant_name (constants_of decls)) (All-head IsPlainDecl (Const name sort) decls all) (constants_plain decls (All-tail IsPlainDecl (Const name sort) decls all))
constants_plain (Fun name args result level ∷ decls) all = constants_plain decls (All-tail IsPlainDecl (Fun name args result level) decls all)

-- ---- the ground set
module _ (p : Problem) where
  pub declared_sound : IsFlattenable p → length (constants_of p.decls) ≤ most_names → IsSound (declared_ground p.decls)
  declared_sound able few =
      let distinct = (faultless_problems_are_well_sorted p able.sorted).distinct in
      record {
        made = record {
          few = omega (arith, few);
          distinct = constants_distinct p.decls distinct;
          plain = constants_plain p.decls able.plain;
          functions = functions_distinct 1 p.decls distinct;
          few_functions = let all = able.few in let less = count_functions 1 p.decls in omega (arith, all, less);
          named = λ k d e. absurd (cc);
          once = λ j k x e f. absurd (cc);
          small = All-nil IsSmallBody;
        };
        names = λ k d e. absurd (cc);
        lines = All-nil (IsFitLine (declared_names p.decls));
        sums = λ k d lin e. absurd (cc);
      }

  -- what was there before the clauses
  pub record IsStarted (g : Ground) : Type 0 where
    pub few : length (constants_of p.decls) ≤ most_names
    pub same : declared_ground p.decls ≡ g

  pub started : (g : Ground) → start p.decls ≡ Ok g → IsStarted g
  started g e =
      (elim (nat_lt most_names (length (constants_of p.decls))) as (λ (t : Bool). nat_lt most_names (length (constants_of p.decls)) ≡ t
      → ◌≡◌ {A = Result Ground Limit} (cond t (Err many_names) (Ok (declared_ground p.decls))) (Ok g) → IsStarted g) [
        | true ↦ λ t e. absurd (cc)
        | false ↦ λ t e. record { few = ltb-false most_names (length (constants_of p.decls)) t; same = ap (λ (o : Result Ground Limit). elim o [ Ok x ↦ x | Err l ↦ declared_ground p.decls ]) e }
      ]) refl e
