-- The frame that names with values are: the values of words and constants, and the points of the functions.
use Rattle.std.specs.Prelude.{◌≡◌, ℕ, List, [], ◌∷◌, ◌++◌, map, Bool, true, ◌&&◌, nat_eq, pos, Option, Some, None, slice_get}
use Rattle.std.specs.List.{Contains, list_any}
use Rattle.hp_math.specs.Rational.{ℚ, whole, lt_ℚ}
use Rattle.hp_tree.specs.declared.problem.Sort.{Sort}
use Rattle.hp_tree.specs.declared.problem.Sort.TheVariants.{Num, Idx, Ptr}
use Rattle.hp_tree.specs.Value.{Word, Environment}
use Rattle.hp_terms.specs.Scope.{Profile}
use Rattle.hp_lit.specs.declared.line.Body.{Body}
use Rattle.hp_lit.specs.declared.line.Body.TheVariants.{Apply, Sum}
use Rattle.hp_lit.specs.declared.line.Def.{Def}
use Rattle.hp_lit.specs.Truth.{Values, name_value}
use Rattle.hp_defs.specs.declared.names.Signature.{Signature}
use Rattle.hp_defs.specs.Names.{NameList, constant_words, words}
use Rattle.hp_model.specs.declared.structure.ConstValue.{ConstValue}
use Rattle.hp_model.specs.Value.{constant}
use Rattle.hp_local.specs.Frame.{Fact, Frame, is_own}
use Rattle.hp_base.specs.Congruence.{Point}
use Rattle.hp_base.specs.Values.{arg_values}
use Rattle.hp_norm.specs.Scopes.{function_profile}
use Rattle.hp_class.specs.Points.{points}

-- ---- values of words
abbrev pub const_values : List Word → Values → List ConstValue
const_values [] v = []
const_values (word ∷ words) [] = []
const_values (word ∷ words) (x ∷ xs) = record { name = word; value = x } ∷ const_values words xs

-- the value at the first place of a word, and 0 for a word that isn't there
abbrev pub environment : List Word → Values → Environment
environment ws v = constant (const_values ws v)

-- ---- points
-- the arguments and the value of an application
abbrev pub fact_of : Word → Values → Point → Fact
fact_of word v p = record { func = word; args = arg_values v p.args; value = name_value v p.name.0 }

-- those of the function at this place, which has this word
abbrev pub facts_of : ℕ → Word → NameList → Values → List Fact
facts_of func word names v = map (fact_of word v) (points func names.definitions)

-- those of a definition
abbrev pub signature_facts : Values → Point → Option Signature → List Fact
signature_facts v p None = []
signature_facts v p (Some signature) = fact_of signature.name v p ∷ []

abbrev pub body_facts : List Signature → Values → Def → Body → List Fact
body_facts signatures v d (Apply func args) = signature_facts v (record { name = d.name; args = args }) (slice_get signatures func)
body_facts signatures v d (Sum lin) = []

-- those of all definitions, in the order of their making
abbrev pub definition_facts : List Signature → Values → List Def → List Fact
definition_facts signatures v [] = []
definition_facts signatures v (d ∷ ds) = body_facts signatures v d d.body ++ definition_facts signatures v ds

-- ---- the universe
abbrev pub below : ℕ → Sort → ℚ → Bool
below size Num x = true
below size Idx x = true
below size Ptr x = lt_ℚ x (whole (pos size))

abbrev pub all_below : ℕ → List Sort → List ℚ → Bool
all_below size (sort ∷ sorts) (x ∷ xs) = below size sort x && all_below size sorts xs
all_below size _ _ = true

abbrev pub fact_below : ℕ → Option Profile → Fact → Bool
fact_below size None k = true
fact_below size (Some profile) k = all_below size profile.args k.args && below size profile.result k.value

-- ---- the frame
-- a point is inside where its pointers are in a universe of so many
abbrev pub frame_at : ℕ → NameList → Values → Frame
frame_at size names v = record {
  size = size;
  names = environment (words names) v;
  consts = environment (constant_words names) v;
  facts = definition_facts names.signatures v names.definitions;
  inside = λ k. fact_below size (function_profile names k.func) k;
}

-- ---- functions by their places
abbrev pub signature_word : Option Signature → List Word
signature_word None = []
signature_word (Some signature) = signature.name ∷ []

-- the words of the functions at these places
abbrev pub words_at : NameList → List ℕ → List Word
words_at names [] = []
words_at names (func ∷ funcs) = signature_word (slice_get names.signatures func) ++ words_at names funcs

-- the word of one of these functions
abbrev pub is_function : NameList → List ℕ → Word → Bool
is_function names funcs word = is_own (words_at names funcs) word

-- one of these places
abbrev pub is_place : List ℕ → ℕ → Bool
is_place funcs func = list_any (λ other. nat_eq other func) funcs

-- applications of equal arguments have equal values
abbrev pub AreCongruentPoints : Values → List Point → Type 0
AreCongruentPoints v ps = (p q : Point) → Contains ps p → Contains ps q → arg_values v p.args ≡ arg_values v q.args → name_value v p.name.0 ≡ name_value v q.name.0
