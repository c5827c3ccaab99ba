-- What the declarations of a problem say of the constants and the tables that values give.
use Rattle.std.proofs.Common.{◌≡◌, ◌∙◌, ◌+◌, ◌≤◌, inl, inr, ℕ, zero, suc, Bool, true, false, cond, nat_lt, List, [], ◌∷◌, length, map, Some, None, refl, ap, subst, arith}
use Rattle.std.specs.Prelude.{slice_get}
use Rattle.std.specs.Str.{bytes_eq}
use Rattle.std.specs.List.{All, Contains, list_any}
use Rattle.std.proofs.lemmas.Bool.{ltb-false, or_parts}
use Rattle.std.proofs.lemmas.List.Elements.{All-cons, All-contains, All-head, All-nil, All-tail}
use Rattle.hp_names.specs.Names.{AreDistinct, is_among}
use Rattle.hp_names.proofs.Texts.{text_same}
use Rattle.hp_tree.specs.declared.limit.Limit.{Limit}
use Rattle.hp_tree.specs.declared.problem.Decl.{Decl}
use Rattle.hp_tree.specs.declared.problem.Decl.TheVariants.{Const, Fun}
use Rattle.hp_tree.specs.declared.problem.Problem.{Problem}
use Rattle.hp_tree.specs.Limits.{most_arguments, most_clauses, most_variables}
use Rattle.hp_tree.specs.declared.limit.Which.TheVariants.{Arguments, Clauses, Variables}
use Rattle.hp_tree.specs.Value.{Word}
use Rattle.hp_model.specs.Declarations.{DeclaredFunction, constants, functions, function_named}
use Rattle.hp_model.specs.WellFormed.{ConstantsFit}
use Rattle.hp_local.specs.Structures.{AreLevelled, IsLevelled}
use Rattle.hp_local.proofs.Lists.{All-by, contains_cases}
use Rattle.hp_lit.specs.Truth.{Values}
use Rattle.hp_sorts.specs.Laws.{HasLevel}
use Rattle.hp_sorts.specs.Limits.{has_many_arguments, has_many_variables, limit, passed}
use Rattle.hp_defs.specs.declared.names.Signature.{Signature}
use Rattle.hp_defs.specs.Names.{constant_name, constant_sort, signature_name}
use Rattle.hp_norm.specs.Lines.{constants_of, signatures_from}
use Rattle.std.proofs.lemmas.Option.{get_or_from_slice_get, slice_get_within}
use Rattle.hp_class.specs.Frame.{const_values}
use Rattle.hp_class.specs.Groups.{AreInside}
use Rattle.hp_class.specs.Small.{HasFewArguments}

-- ---- constants
pub constants_fit : (size : ℕ) (decls : List Decl) (w : Values) → length (constants_of decls) ≤ length w → AreInside size (map constant_sort (constants_of decls)) w
    → ConstantsFit size (constants decls) (const_values (map constant_name (constants_of decls)) w)
constants_fit size [] w long inside = tt
constants_fit size (Const name sort ∷ decls) [] long inside = absurd (omega (arith, long))
constants_fit size (Const name sort ∷ decls) (x ∷ xs) long inside =
    let shorter : length (constants_of decls) ≤ length xs = omega (arith, long) in
    (refl, inside zero sort refl, constants_fit size decls xs shorter (λ n s e. inside (suc n) s e))
constants_fit size (Fun name args result level ∷ decls) w long inside = constants_fit size decls w long inside

-- ---- functions
-- a signature as a declaration
abbrev pub declared_function : Signature → DeclaredFunction
declared_function s = record { name = s.name; profile = record { args = s.args; result = s.result }; level = s.level }

third : (a b c : Bool) (x y z : Limit) → cond a (Some x) (cond b (Some y) (cond c (Some z) None)) ≡ None → c ≡ false
third true b c x y z e = absurd (cc)
third false true c x y z e = absurd (cc)
third false false true x y z e = absurd (cc)
third false false false x y z e = refl

-- where no limit of a text is passed, functions have few arguments
pub few_arguments_of : (p : Problem) → passed p ≡ None → list_any has_many_arguments p.decls ≡ false
few_arguments_of p h =
    third (nat_lt most_clauses (length p.clauses)) (list_any has_many_variables p.clauses) (list_any has_many_arguments p.decls)
    (limit Clauses most_clauses) (limit Variables most_variables) (limit Arguments most_arguments) h

pub all_few_arguments : (item : ℕ) (ds : List Decl) → list_any has_many_arguments ds ≡ false → All HasFewArguments (signatures_from item ds)
all_few_arguments item [] h = All-nil HasFewArguments
all_few_arguments item (Const name sort ∷ ds) h = all_few_arguments (item + 1) ds h
all_few_arguments item (Fun name args result level ∷ ds) h =
    let s : Signature = record { name = name; args = args; result = result; level = level; item = item } in
    let parts = or_parts (nat_lt most_arguments (length args)) (list_any has_many_arguments ds) h in
    All-cons HasFewArguments s (signatures_from (item + 1) ds) (ltb-false most_arguments (length args) parts.0) (all_few_arguments (item + 1) ds parts.1)

pub few_arguments : (p : Problem) (k : ℕ) (s : Signature) → passed p ≡ None → slice_get (signatures_from 1 p.decls) k ≡ Some s → length s.args ≤ most_arguments
few_arguments p k s h e =
    let ss = signatures_from 1 p.decls in
    subst HasFewArguments (get_or_from_slice_get ss k s s e) (all_few_arguments 1 p.decls (few_arguments_of p h) k s (slice_get_within ss k s e))

pub levels_within : (item : ℕ) (decls : List Decl) (k : ℕ) (s : Signature) → All HasLevel decls → slice_get (signatures_from item decls) k ≡ Some s → (1 ≤ s.level) × (s.level ≤ 16)
levels_within item [] k s h e = absurd (cc)
levels_within item (Const name sort ∷ decls) k s h e = levels_within (item + 1) decls k s (All-tail HasLevel (Const name sort) decls h) e
levels_within item (Fun name args result level ∷ decls) zero s h e =
    let same : record { name = name; args = args; result = result; level = level; item = item } ≡ s = cc in
    subst (λ (x : Signature). (1 ≤ x.level) × (x.level ≤ 16)) same (All-head HasLevel (Fun name args result level) decls h)
levels_within item (Fun name args result level ∷ decls) (suc k) s h e = levels_within (item + 1) decls k s (All-tail HasLevel (Fun name args result level) decls h) e

-- ---- levels
abbrev function_name : DeclaredFunction → Word
function_name f = f.name

same_words : (item : ℕ) (decls : List Decl) → map signature_name (signatures_from item decls) ≡ map function_name (functions decls)
same_words item [] = refl
same_words item (Const name sort ∷ decls) = same_words (item + 1) decls
same_words item (Fun name args result level ∷ decls) = ap (λ (ws : List Word). name ∷ ws) (same_words (item + 1) decls)

abbrev Differs : Word → DeclaredFunction → Type 0
Differs word f = bytes_eq word f.name ≡ false

all_differ : (word : Word) (fs : List DeclaredFunction) → is_among word (map function_name fs) ≡ false → All (Differs word) fs
all_differ word [] h = All-nil (Differs word)
all_differ word (f ∷ fs) h = let parts = or_parts (bytes_eq word f.name) (is_among word (map function_name fs)) h in All-cons (Differs word) f fs parts.0 (all_differ word fs parts.1)

found_first : (fs : List DeclaredFunction) → AreDistinct (map function_name fs) → (f : DeclaredFunction) → Contains fs f → function_named fs f.name ≡ Some f
found_first [] once f m = absurd (omega (arith, m.1))
found_first (g ∷ fs) once f m = elim (contains_cases g fs f m) [
  | inl e ↦ subst (λ (x : DeclaredFunction). function_named (g ∷ fs) x.name ≡ Some x) e (ap (λ b. cond b (Some g) (function_named fs g.name)) (text_same g.name))
  | inr l ↦ ap (λ b. cond b (Some g) (function_named fs f.name)) (All-contains (Differs g.name) fs f (all_differ g.name fs once.0) l) ∙ found_first fs once.1 f l
]

abbrev IsWithin : DeclaredFunction → Type 0
IsWithin f = (1 ≤ f.level) × (f.level ≤ 16)

all_within : (decls : List Decl) → All HasLevel decls → All IsWithin (functions decls)
all_within [] h = All-nil IsWithin
all_within (Const name sort ∷ decls) h = all_within decls (All-tail HasLevel (Const name sort) decls h)
all_within (Fun name args result level ∷ decls) h =
    All-cons IsWithin (record { name = name; profile = record { args = args; result = result }; level = level }) (functions decls) (All-head HasLevel (Fun name args result level) decls h)
    (all_within decls (All-tail HasLevel (Fun name args result level) decls h))

pub are_levelled : (p : Problem) → All HasLevel p.decls → AreDistinct (map signature_name (signatures_from 1 p.decls)) → AreLevelled p
are_levelled p levels once = All-by (IsLevelled p) (functions p.decls) (λ f m. (
    let within = All-contains IsWithin (functions p.decls) f (all_within p.decls levels) m in
    record { first = found_first (functions p.decls) (subst AreDistinct (same_words 1 p.decls) once) f m; low = within.0; high = within.1 }))
