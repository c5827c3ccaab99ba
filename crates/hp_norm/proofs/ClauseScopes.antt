-- Scopes of clauses with variables: they say what names say, and go on to say it while definitions are added.
use Rattle.std.proofs.Common.{◌≡◌, ℕ, Bool, true, false, List, [], ◌∷◌, map, Option, Some, None, slice_get, refl, sym, ap, subst, ◌∙◌, arith, length}
use Rattle.std.specs.Prelude.{option_and_then, option_map, position, if◌then◌else◌}
use Rattle.std.specs.List.{All}
use Rattle.std.specs.Option.{option_or}
use Rattle.std.specs.Str.{bytes_eq}
use Rattle.std.proofs.lemmas.Bool.{or_from, or_parts}
use Rattle.std.proofs.lemmas.List.Elements.{All-head, All-tail}
use Rattle.std.proofs.lemmas.List.Folds.{list_any-append}
use Rattle.hp_names.specs.Names.{is_among}
use Rattle.hp_names.proofs.Distinct.{absent}
use Rattle.hp_tree.specs.declared.problem.Sort.{Sort}
use Rattle.hp_tree.specs.declared.problem.Var.{Var}
use Rattle.hp_tree.specs.Value.{Word}
use Rattle.hp_terms.specs.Scope.{Scope, Widens}
use Rattle.hp_terms.specs.Words.{IsPlainWord, numbered}
use Rattle.hp_lit.proofs.Words.{numbered as stands_there}
use Rattle.hp_defs.specs.declared.names.Constant.{Constant}
use Rattle.hp_defs.specs.declared.names.Ground.{Ground}
use Rattle.hp_defs.specs.Made.{IsMade}
use Rattle.hp_defs.specs.Names.{NameList, constant_name, constant_words, sorts, words}
use Rattle.hp_defs.proofs.Distinct.{plain_not_numbered}
use Rattle.hp_base.specs.Making.{Begins}
use Rattle.hp_base.specs.Lines.{flat_scope}
use Rattle.hp_base.proofs.ArgsScopes.{scopes_widen}
use Rattle.hp_norm.specs.Opening.{is_variable}
use Rattle.hp_norm.specs.Scopes.{clause_scope, term_scope, variable_sort}
use Rattle.hp_norm.proofs.NamedWords.{profiles_stay}

-- the variables have words that no constant and no definition has
pub record AreApart (vars : List Var) (names : NameList) : Type 0 where
  pub plain : All (λ v. IsPlainWord v.name) vars
  pub fresh : All (λ v. is_among v.name (constant_words names) ≡ false) vars

pub apart_stays : (vars : List Var) (before after : Ground) → Begins before after → AreApart vars before.names → AreApart vars after.names
apart_stays vars before after b a = record {
  plain = a.plain;
  fresh = subst (λ (cs : List Constant). All (λ (v : Var). is_among v.name (map constant_name cs) ≡ false) vars) (sym b.constants) a.fresh;
}

-- ---- words
-- a word that is no variable's has no sort of a variable
pub no_sort : (vars : List Var) (word : Word) → is_variable vars word ≡ false → variable_sort vars word ≡ None
no_sort [] word e = refl
no_sort (v ∷ vars) word e =
    let parts = or_parts (bytes_eq v.name word) (is_variable vars word) e in
    (λ i. if parts.0 i then Some v.sort else variable_sort vars word) ∙ no_sort vars word parts.1

-- the word of a name is no variable's
pub not_variable : (vars : List Var) (names : NameList) (k : ℕ) (word : Word) → IsMade names → AreApart vars names → slice_get (words names) k ≡ Some word → is_variable vars word ≡ false
not_variable [] names k word made apart e = refl
not_variable (v ∷ vars) names k word made apart e =
    let n = length names.definitions in
    let constants = All-head (λ (u : Var). is_among u.name (constant_words names) ≡ false) v vars apart.fresh in
    let plain = All-head (λ (u : Var). IsPlainWord u.name) v vars apart.plain in
    let none : is_among v.name (words names) ≡ false =
    list_any-append (bytes_eq v.name) (constant_words names) (numbered 1 n)
    ∙ or_from (is_among v.name (constant_words names)) (is_among v.name (numbered 1 n)) constants (plain_not_numbered v.name 1 n (omega (arith, made.few)) plain) in
    or_from (bytes_eq v.name word) (is_variable vars word) (absent v.name (words names) k word none e)
    (not_variable vars names k word made
    (record { plain = All-tail (λ (u : Var). IsPlainWord u.name) v vars apart.plain; fresh = All-tail (λ (u : Var). is_among u.name (constant_words names) ≡ false) v vars apart.fresh }) e)

-- a word with a sort stands among the words of names
pub word_stands : (names : NameList) (word : Word) (sort : Sort) → (flat_scope names).name word ≡ Some sort → (k : ℕ) × (slice_get (words names) k ≡ Some word)
word_stands names word sort = by (position (bytes_eq word) (words names)) refl
  where
    by : (o : Option ℕ) → position (bytes_eq word) (words names) ≡ o → option_and_then (λ at. slice_get (sorts names) at) o ≡ Some sort → (k : ℕ) × (slice_get (words names) k ≡ Some word)
    by None f e = absurd (cc)
    by (Some k) f e = (k, (stands_there (words names) word (record { 0 = k }) (ap (option_map (λ at. record { 0 = at })) f)).there)

-- ---- scopes
module _ (vars : List Var) where
  -- names say the same in a clause
  pub names_in_clause : (names : NameList) → IsMade names → AreApart vars names → Widens (flat_scope names) (clause_scope names vars)
  names_in_clause names made apart = record {
    names = λ word sort e.
        let at = word_stands names word sort e in
        ap (λ (o : Option Sort). option_or o ((flat_scope names).name word)) (no_sort vars word (not_variable vars names at.0 word made apart at.1)) ∙ e;
    functions = λ word profile e. absurd (cc);
    pointers = λ number e. e;
  }

  -- and go on to say it
  pub clause_grows : (scope : Scope) (before after : Ground) → Begins before after → IsMade after.names → Widens scope (clause_scope before.names vars) → Widens scope (clause_scope after.names vars)
  clause_grows scope before after b made w = record {
    names = λ word sort e. by word sort (variable_sort vars word) (w.names word sort e);
    functions = λ word profile e. profiles_stay before.names after.names word b.signatures ∙ w.functions word profile e;
    pointers = w.pointers;
  }
    where
      by : (word : Word) (sort : Sort) (o : Option Sort) → option_or o ((flat_scope before.names).name word) ≡ Some sort → option_or o ((flat_scope after.names).name word) ≡ Some sort
      by word sort (Some s) e = e
      by word sort None e = (scopes_widen before after b made).names word sort e

  -- what a scope says of all but the variables
  abbrev pub closed : Scope → Scope
  closed scope = record {
    name = λ word. if is_variable vars word then None else scope.name word;
    function = λ word. scope.function word;
    pointer = λ number. scope.pointer number;
  }

  -- names alone say it
  pub closed_in_names : (scope : Scope) (names : NameList) → Widens scope (clause_scope names vars) → Widens (closed scope) (term_scope names)
  closed_in_names scope names w = record {
    names = λ word sort e. by word sort (is_variable vars word) refl e;
    functions = w.functions;
    pointers = w.pointers;
  }
    where
      by : (word : Word) (sort : Sort) (b : Bool) → is_variable vars word ≡ b → (if b then None else scope.name word) ≡ Some sort → (flat_scope names).name word ≡ Some sort
      by word sort true f e = absurd (cc)
      by word sort false f e =
          sym (ap (λ (o : Option Sort). option_or o ((flat_scope names).name word)) (no_sort vars word f)) ∙ w.names word sort e
