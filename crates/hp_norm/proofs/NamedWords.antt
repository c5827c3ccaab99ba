-- What the scope of names says of words, it says while definitions are added, and a function that it knows stands among the signatures.
use Rattle.std.proofs.Common.{◌≡◌, ℕ, zero, suc, List, [], ◌∷◌, map, Option, Some, None, slice_get, refl, sym, ap, ◌∙◌}
use Rattle.std.specs.Prelude.{option_map, option_and_then, position}
use Rattle.std.specs.Str.{bytes_eq}
use Rattle.hp_tree.specs.Value.{Word}
use Rattle.hp_terms.specs.Scope.{Profile, Scope, Widens}
use Rattle.hp_lit.proofs.Words.{numbered}
use Rattle.hp_defs.specs.declared.names.Ground.{Ground}
use Rattle.hp_defs.specs.declared.names.Signature.{Signature}
use Rattle.hp_defs.specs.Made.{IsMade}
use Rattle.hp_defs.specs.Names.{NameList, function_words, profile_of, signature_name}
use Rattle.hp_base.specs.Making.{Begins}
use Rattle.hp_base.proofs.ArgsScopes.{scopes_widen}
use Rattle.hp_norm.specs.Scopes.{function_profile, term_scope}
use Rattle.hp_norm.specs.Sound.{IsSound}

-- a sound ground set whose names say all that a scope says
pub record IsOver (scope : Scope) (g : Ground) : Type 0 where
  pub sound : IsSound g
  pub wider : Widens scope (term_scope g.names)

pub same_scope : (scope : Scope) → Widens scope scope
same_scope scope = record { names = λ word sort e. e; functions = λ word profile e. e; pointers = λ number e. e }

-- ---- more names
pub profiles_stay : (before after : NameList) (word : Word) → after.signatures ≡ before.signatures → function_profile after word ≡ function_profile before word
profiles_stay before after word e =
    ap (λ (ss : List Signature). function_profile (record { constants = []; signatures = ss; definitions = [] }) word) e

pub scope_grows : (scope : Scope) (before after : Ground) → Begins before after → IsMade after.names → Widens scope (term_scope before.names) → Widens scope (term_scope after.names)
scope_grows scope before after b made w = record {
  names = λ word sort e. (scopes_widen before after b made).names word sort (w.names word sort e);
  functions = λ word profile e. profiles_stay before.names after.names word b.signatures ∙ w.functions word profile e;
  pointers = w.pointers;
}

-- ---- functions
-- the word at the place of a signature is its name
pub name_there : (ss : List Signature) (k : ℕ) (s : Signature) (word : Word) → slice_get ss k ≡ Some s → slice_get (map signature_name ss) k ≡ Some word → s.name ≡ word
name_there [] k s word e f = absurd (cc)
name_there (t ∷ ts) zero s word e f = let same : t ≡ s = cc in let is : t.name ≡ word = cc in ap signature_name (sym same) ∙ is
name_there (t ∷ ts) (suc k) s word e f = name_there ts k s word e f

-- a function stands among the names with its profile
pub record IsKnown (names : NameList) (word : Word) (profile : Profile) : Type 0 where
  pub func : ℕ
  pub found : position (bytes_eq word) (function_words names) ≡ Some func
  pub signature : Signature
  pub there : slice_get names.signatures func ≡ Some signature
  pub args : signature.args ≡ profile.args
  pub result : signature.result ≡ profile.result
  pub name : signature.name ≡ word

-- the word of a place is there
there : (ws : List Word) (word : Word) (k : ℕ) → position (bytes_eq word) ws ≡ Some k → slice_get ws k ≡ Some word
there ws word k e = (numbered ws word (record { 0 = k }) (ap (option_map (λ at. record { 0 = at })) e)).there

pub function_is_known : (names : NameList) (word : Word) (profile : Profile) → function_profile names word ≡ Some profile → IsKnown names word profile
function_is_known names word profile = by (position (bytes_eq word) (function_words names)) refl
  where
    at_place : (func : ℕ) (o : Option Signature) → position (bytes_eq word) (function_words names) ≡ Some func → slice_get names.signatures func ≡ o → option_map profile_of o ≡ Some profile → IsKnown names word profile
    at_place func None f s e = absurd (cc)
    at_place func (Some signature) f s e =
        let is : profile_of signature ≡ profile = cc in
        record {
          func = func;
          found = f;
          signature = signature;
          there = s;
          args = ap (λ (q : Profile). q.args) is;
          result = ap (λ (q : Profile). q.result) is;
          name = name_there names.signatures func signature word s (there (function_words names) word func f);
        }

    by : (o : Option ℕ) → position (bytes_eq word) (function_words names) ≡ o → option_map profile_of (option_and_then (λ at. slice_get names.signatures at) o) ≡ Some profile → IsKnown names word profile
    by None f e = absurd (cc)
    by (Some func) f e = at_place func (slice_get names.signatures func) f refl e

-- a function that stands with a profile has it in the scope
pub known_has_profile : (names : NameList) (word : Word) (profile : Profile) → IsKnown names word profile → function_profile names word ≡ Some profile
known_has_profile names word profile k =
    ap (λ (o : Option ℕ). option_map profile_of (option_and_then (λ at. slice_get names.signatures at) o)) k.found
    ∙ ap (option_map profile_of) k.there
    ∙ (λ i. Some (record { args = k.args i; result = k.result i }))
