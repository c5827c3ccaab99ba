-- What the scope of a problem says of words, the names of its declarations say, whatever definitions stand behind them.
use Rattle.std.proofs.Common.{◌≡◌, ℕ, zero, suc, ◌+◌, ◌≤◌, List, [], ◌∷◌, map, length, Option, Some, None, slice_get, refl, sym, ap, subst, ◌∙◌, arith}
use Rattle.std.specs.Prelude.{option_map, option_and_then, position}
use Rattle.std.specs.Str.{bytes_eq}
use Rattle.hp_tree.specs.declared.problem.Sort.{Sort}
use Rattle.hp_tree.specs.declared.problem.Decl.{Decl}
use Rattle.hp_tree.specs.declared.problem.Decl.TheVariants.{Const, Fun}
use Rattle.hp_tree.specs.declared.problem.Problem.{Problem}
use Rattle.hp_tree.specs.Value.{Word}
use Rattle.hp_terms.specs.Scope.{Profile, Widens}
use Rattle.hp_lit.specs.declared.literal.Name.{Name}
use Rattle.hp_lit.specs.Words.{number}
use Rattle.hp_lit.proofs.Words.{numbered}
use Rattle.hp_defs.specs.declared.names.Constant.{Constant}
use Rattle.hp_defs.specs.declared.names.Signature.{Signature}
use Rattle.hp_defs.specs.Made.{IsMade}
use Rattle.hp_defs.specs.Names.{NameList, constant_name, constant_sort, constant_words, function_words, signature_name, sorts, words}
use Rattle.hp_defs.proofs.First.{place_of}
use Rattle.hp_defs.proofs.Distinct.{position_of, words_are_distinct}
use Rattle.hp_defs.proofs.Lists.{get_front}
use Rattle.hp_base.specs.Lines.{flat_scope}
use Rattle.hp_sorts.specs.declared.tables.Signature.{Signature as Declared}
use Rattle.hp_sorts.specs.Numbered.{named}
use Rattle.hp_sorts.specs.Symbols.{constant_names, constant_sorts, function_names, signatures}
use Rattle.hp_sorts.specs.Scopes.{problem_scope, profile_of}
use Rattle.hp_norm.specs.Lines.{constants_of, declared_names, signatures_from}
use Rattle.hp_norm.specs.Scopes.{term_scope}
use Rattle.hp_norm.proofs.NamedWords.{IsKnown, known_has_profile, name_there}

-- ---- what the declarations are as names
pub words_of : (decls : List Decl) → map constant_name (constants_of decls) ≡ constant_names decls
words_of [] = refl
words_of (Const name sort ∷ decls) = ap (λ ws. name ∷ ws) (words_of decls)
words_of (Fun name args result level ∷ decls) = words_of decls

sorts_of : (decls : List Decl) → map constant_sort (constants_of decls) ≡ constant_sorts decls
sorts_of [] = refl
sorts_of (Const name sort ∷ decls) = ap (λ ss. sort ∷ ss) (sorts_of decls)
sorts_of (Fun name args result level ∷ decls) = sorts_of decls

functions_of : (item : ℕ) (decls : List Decl) → map signature_name (signatures_from item decls) ≡ function_names decls
functions_of item [] = refl
functions_of item (Const name sort ∷ decls) = functions_of (item + 1) decls
functions_of item (Fun name args result level ∷ decls) = ap (λ ws. name ∷ ws) (functions_of (item + 1) decls)

-- a signature with its word and its item is the declared one
record IsDeclared (o : Option Signature) (s : Declared) : Type 0 where
  signature : Signature
  there : o ≡ Some signature
  args : signature.args ≡ s.args
  result : signature.result ≡ s.result

signature_there : (item : ℕ) (decls : List Decl) (k : ℕ) (s : Declared) → slice_get (signatures decls) k ≡ Some s → IsDeclared (slice_get (signatures_from item decls) k) s
signature_there item [] k s e = absurd (cc)
signature_there item (Const name sort ∷ decls) k s e = signature_there (item + 1) decls k s e
signature_there item (Fun name args result level ∷ decls) zero s e =
    let same : record { args = args; result = result; level = level } ≡ s = cc in
    record {
      signature = record { name = name; args = args; result = result; level = level; item = item };
      there = refl;
      args = ap (λ (x : Declared). x.args) same;
      result = ap (λ (x : Declared). x.result) same;
    }
signature_there item (Fun name args result level ∷ decls) (suc k) s e = signature_there (item + 1) decls k s e

-- ---- places of words
-- where a word stands with a thing
record StandsWith {X : Type 0} (word : Word) (ws : List Word) (xs : List X) (x : X) : Type 0 where
  at : ℕ
  found : position (bytes_eq word) ws ≡ Some at
  there : slice_get ws at ≡ Some word
  thing : slice_get xs at ≡ Some x

stands_with : {X : Type 0} (word : Word) (ws : List Word) (xs : List X) (x : X) → named word ws xs ≡ Some x → StandsWith word ws xs x
stands_with {X} word ws xs x = by (position (bytes_eq word) ws) refl
  where
    by : (o : Option ℕ) → position (bytes_eq word) ws ≡ o → option_and_then (λ place. slice_get xs place) o ≡ Some x → StandsWith word ws xs x
    by None f e = absurd (cc)
    by (Some at) f e =
        let n : Name = record { 0 = at } in
        let is : number ws word ≡ Some n = ap (option_map (λ (i : ℕ). let m : Name = record { 0 = i } in m)) f in
        record { at = at; found = f; there = (numbered ws word n is).there; thing = e }

module _ (p : Problem) where
  -- a constant has its sort among the names
  pub constant_is_named : (names : NameList) (word : Word) (sort : Sort) → names.constants ≡ constants_of p.decls → IsMade names
      → (problem_scope p []).name word ≡ Some sort → (flat_scope names).name word ≡ Some sort
  constant_is_named names word sort same made e =
      let s = stands_with word (constant_names p.decls) (constant_sorts p.decls) sort e in
      let ws : constant_names p.decls ≡ constant_words names = sym (ap (λ cs. map constant_name cs) same ∙ words_of p.decls) in
      let ss : constant_sorts p.decls ≡ map constant_sort names.constants = sym (ap (λ cs. map constant_sort cs) same ∙ sorts_of p.decls) in
      let there = get_front (constant_words names) _ s.at word (subst (λ (xs : List Word). slice_get xs s.at ≡ Some word) ws s.there) in
      let thing = get_front (map constant_sort names.constants) _ s.at sort (subst (λ (xs : List Sort). slice_get xs s.at ≡ Some sort) ss s.thing) in
      ap (option_and_then (λ (at : ℕ). slice_get (sorts names) at)) (position_of (words names) s.at word (words_are_distinct names made) there) ∙ thing

  -- a function stands among the names with its profile
  pub function_is_declared : (names : NameList) (word : Word) (profile : Profile) → names.signatures ≡ signatures_from 1 p.decls → (problem_scope p []).function word ≡ Some profile → IsKnown names word profile
  function_is_declared names word profile same = by (named word (function_names p.decls) (signatures p.decls)) refl
    where
      by : (o : Option Declared) → named word (function_names p.decls) (signatures p.decls) ≡ o → option_map profile_of o ≡ Some profile → IsKnown names word profile
      by None f e = absurd (cc)
      by (Some d) f e =
          let s = stands_with word (function_names p.decls) (signatures p.decls) d f in
          let fs : function_names p.decls ≡ function_words names = sym (ap (λ cs. map signature_name cs) same ∙ functions_of 1 p.decls) in
          let h = subst (λ (ss : List Signature). IsDeclared (slice_get ss s.at) d) (sym same) (signature_there 1 p.decls s.at d s.thing) in
          let is : profile_of d ≡ profile = cc in
          let worded : slice_get (function_words names) s.at ≡ Some word = subst (λ (ws : List Word). slice_get ws s.at ≡ Some word) fs s.there in
          record {
            func = s.at;
            found = subst (λ (ws : List Word). position (bytes_eq word) ws ≡ Some s.at) fs s.found;
            signature = h.signature;
            there = h.there;
            args = h.args ∙ ap (λ (q : Profile). q.args) is;
            result = h.result ∙ ap (λ (q : Profile). q.result) is;
            name = name_there names.signatures s.at h.signature word h.there worded;
          }

  -- the declared names say all that the declarations say
  pub declared_scope : IsMade (declared_names p.decls) → Widens (problem_scope p []) (term_scope (declared_names p.decls))
  declared_scope made =
      let names = declared_names p.decls in
      record {
        names = λ word sort e. constant_is_named names word sort refl made e;
        functions = λ word profile e. known_has_profile names word profile (function_is_declared names word profile refl e);
        pointers = λ number e. e;
      }

  -- a word with a sort is that of a constant
  pub record IsConstant (word : Word) : Type 0 where
    pub constant : Constant
    pub at : ℕ
    pub there : slice_get (constants_of p.decls) at ≡ Some constant
    pub name : constant.name ≡ word

  pub word_is_constant : (word : Word) (sort : Sort) → (problem_scope p []).name word ≡ Some sort → IsConstant word
  word_is_constant word sort e =
      let s = stands_with word (constant_names p.decls) (constant_sorts p.decls) sort e in
      let there = subst (λ (ws : List Word). slice_get ws s.at ≡ Some word) (sym (words_of p.decls)) s.there in
      let c = place_of constant_name word (constants_of p.decls) s.at there in
      record { constant = c.0; at = s.at; there = c.1; name = c.2 }

-- ---- how many functions there are
-- as many functions as declarations at most
pub count_functions : (item : ℕ) (decls : List Decl) → length (signatures_from item decls) ≤ length decls
count_functions item [] = omega arith
count_functions item (Const name sort ∷ decls) = omega (arith, count_functions (item + 1) decls)
count_functions item (Fun name args result level ∷ decls) = omega (arith, count_functions (item + 1) decls)
