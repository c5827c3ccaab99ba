-- What scopes and tables say of what is declared, and that they say nothing else.
use Rattle.std.proofs.Common.{◌≡◌, zero, suc, List, [], ◌∷◌, Bool, true, false, cond, map, get_or, Option, Some, None, refl, sym, ap, subst, ◌∙◌, arith}
use Rattle.std.specs.Prelude.{option_map}
use Rattle.std.specs.List.{All, Contains}
use Rattle.std.specs.Option.{option_or}
use Rattle.std.specs.Str.{bytes_eq}
use Rattle.std.proofs.lemmas.Bool.{or_from, or_left, or_parts, or_right}
use Rattle.std.proofs.lemmas.List.Elements.{All-nil, All-cons, All-head, All-tail, All-weaker}
use Rattle.hp_names.specs.Names.{AreDistinct}
use Rattle.hp_names.proofs.Texts.{apart_back, same_text, text_same}
use Rattle.hp_tree.specs.declared.problem.Sort.{Sort}
use Rattle.hp_tree.specs.declared.problem.Var.{Var}
use Rattle.hp_tree.specs.declared.problem.Decl.{Decl}
use Rattle.hp_tree.specs.declared.problem.Decl.TheVariants.{Const, Fun}
use Rattle.hp_tree.specs.declared.problem.Problem.{Problem}
use Rattle.hp_terms.specs.Words.{declared_word}
use Rattle.hp_sorts.specs.declared.tables.Signature.{Signature}
use Rattle.hp_sorts.specs.declared.tables.Tables.{Tables}
use Rattle.hp_sorts.specs.Numbered.{Name, is_among, named}
use Rattle.hp_sorts.specs.Symbols.{constant_names, constant_sorts, function_names, is_declared, signatures, symbols}
use Rattle.hp_sorts.specs.Scopes.{problem_scope, profile_of}
use Rattle.hp_sorts.specs.Laws.{AreFresh, HasSignature, NothingElseIsFound, Says, ScopesSayWhatIsDeclared, SignaturesAreFound, VariablesWidenScopes}
use Rattle.hp_sorts.proofs.Places.{named-cons, named_absent, named_here, named_on}

-- ---- declarations among themselves
-- what the tables say of a declaration
abbrev IsFoundIn : List Decl → Decl → Type 0
IsFoundIn decls (Const name sort) = (named name (constant_names decls) (constant_sorts decls) ≡ Some sort) × (named name (function_names decls) (signatures decls) ≡ None)
IsFoundIn decls (Fun name args value level) =
    (named name (function_names decls) (signatures decls) ≡ Some (record { args = args; result = value; level = level }))
    × (named name (constant_names decls) (constant_sorts decls) ≡ None)

absent_constant : (n : Name) (decls : List Decl) → is_among n (map declared_word decls) ≡ false → is_among n (constant_names decls) ≡ false
absent_constant n [] e = refl
absent_constant n (Const name sort ∷ decls) e =
    let parts = or_parts (bytes_eq n name) (is_among n (map declared_word decls)) e in
    or_from (bytes_eq n name) (is_among n (constant_names decls)) parts.0 (absent_constant n decls parts.1)
absent_constant n (Fun name args value level ∷ decls) e = absent_constant n decls (or_parts (bytes_eq n name) (is_among n (map declared_word decls)) e).1

absent_function : (n : Name) (decls : List Decl) → is_among n (map declared_word decls) ≡ false → is_among n (function_names decls) ≡ false
absent_function n [] e = refl
absent_function n (Const name sort ∷ decls) e = absent_function n decls (or_parts (bytes_eq n name) (is_among n (map declared_word decls)) e).1
absent_function n (Fun name args value level ∷ decls) e =
    let parts = or_parts (bytes_eq n name) (is_among n (map declared_word decls)) e in
    or_from (bytes_eq n name) (is_among n (function_names decls)) parts.0 (absent_function n decls parts.1)

unlike : (n : Name) (decls : List Decl) → is_among n (map declared_word decls) ≡ false → All (λ d. bytes_eq (declared_word d) n ≡ false) decls
unlike n [] e = All-nil _
unlike n (d ∷ ds) e =
    let parts = or_parts (bytes_eq n (declared_word d)) (is_among n (map declared_word ds)) e in
    All-cons (λ d. bytes_eq (declared_word d) n ≡ false) d ds (apart_back n (declared_word d) parts.0) (unlike n ds parts.1)

first_found : (decl : Decl) (decls : List Decl) → is_among (declared_word decl) (map declared_word decls) ≡ false → IsFoundIn (decl ∷ decls) decl
first_found (Const name sort) decls e = (
  named_here name name (constant_names decls) sort (constant_sorts decls) (text_same name),
  named_absent name (function_names decls) (signatures decls) (absent_function name decls e),
)
first_found (Fun name args value level) decls e = (
  named_here name name (function_names decls) (record { args = args; result = value; level = level }) (signatures decls) (text_same name),
  named_absent name (constant_names decls) (constant_sorts decls) (absent_constant name decls e),
)

found_behind : (decl : Decl) (decls : List Decl) (d : Decl) → bytes_eq (declared_word d) (declared_word decl) ≡ false → IsFoundIn decls d → IsFoundIn (decl ∷ decls) d
found_behind (Const n s) decls (Const name sort) e h = (named_on name n (constant_names decls) s (constant_sorts decls) e ∙ h.0, h.1)
found_behind (Const n s) decls (Fun name args value level) e h = (h.0, named_on name n (constant_names decls) s (constant_sorts decls) e ∙ h.1)
found_behind (Fun n a v l) decls (Const name sort) e h = (h.0, named_on name n (function_names decls) (record { args = a; result = v; level = l }) (signatures decls) e ∙ h.1)
found_behind (Fun n a v l) decls (Fun name args value level) e h =
    (named_on name n (function_names decls) (record { args = a; result = v; level = l }) (signatures decls) e ∙ h.0, h.1)

all_found : (decls : List Decl) → AreDistinct (map declared_word decls) → All (IsFoundIn decls) decls
all_found [] d = All-nil (IsFoundIn [])
all_found (decl ∷ decls) d =
    let rest = all_found decls d.1 in
    let apart = unlike (declared_word decl) decls d.0 in
    All-cons (IsFoundIn (decl ∷ decls)) decl decls (first_found decl decls d.0) (λ k e h. found_behind decl decls (get_or decls k e) (apart k e h) (rest k e h))

pub signatures_are_found : SignaturesAreFound
signatures_are_found p sorted = All-weaker (IsFoundIn p.decls) (HasSignature p) signature p.decls (all_found p.decls sorted.distinct)
  where
    signature : (d : Decl) → IsFoundIn p.decls d → HasSignature p d
    signature (Const name sort) h = h.1
    signature (Fun name args value level) h = h.0

-- ---- variables
abbrev name_of : Var → Name
name_of v = v.name

abbrev sort_of : Var → Sort
sort_of v = v.sort

unlike_names : (n : Name) (vars : List Var) → is_among n (map name_of vars) ≡ false → All (λ v. bytes_eq v.name n ≡ false) vars
unlike_names n [] e = All-nil _
unlike_names n (v ∷ vs) e =
    let parts = or_parts (bytes_eq n v.name) (is_among n (map name_of vs)) e in
    All-cons (λ v. bytes_eq v.name n ≡ false) v vs (apart_back n v.name parts.0) (unlike_names n vs parts.1)

vars_found : (vars : List Var) → AreDistinct (map name_of vars) → All (λ v. named v.name (map name_of vars) (map sort_of vars) ≡ Some v.sort) vars
vars_found [] d = All-nil _
vars_found (var ∷ vars) d =
    let rest = vars_found vars d.1 in
    let apart = unlike_names var.name vars d.0 in
    All-cons (λ v. named v.name (map name_of (var ∷ vars)) (map sort_of (var ∷ vars)) ≡ Some v.sort) var vars
    (named_here var.name var.name (map name_of vars) var.sort (map sort_of vars) (text_same var.name))
    (λ k e h. named_on (get_or vars k e).name var.name (map name_of vars) var.sort (map sort_of vars) (apart k e h) ∙ rest k e h)

-- ---- scopes
-- a name with a thing at its place is there
pub there : {X : Type 0} (name : Name) (names : List Name) (xs : List X) (x : X) → named name names xs ≡ Some x → is_among name names ≡ true
there name names xs x e = by (is_among name names) refl
  where
    by : (b : Bool) → is_among name names ≡ b → is_among name names ≡ true
    by true h = h
    by false h = let none = named_absent name names xs h in absurd (cc)

no_variable : (s : Tables) (name : Name) (vars : List Var) → is_declared s name ≡ true → All (λ v. is_declared s v.name ≡ false) vars → is_among name (map name_of vars) ≡ false
no_variable s name [] d all = refl
no_variable s name (v ∷ vs) d all =
    or_from (bytes_eq name v.name) (is_among name (map name_of vs)) (by (bytes_eq name v.name) refl)
    (no_variable s name vs d (All-tail (λ v. is_declared s v.name ≡ false) v vs all))
  where
    by : (b : Bool) → bytes_eq name v.name ≡ b → bytes_eq name v.name ≡ false
    by true e =
        let same = same_text name v.name e in
        let no = All-head (λ v. is_declared s v.name ≡ false) v vs all in
        let not : is_declared s name ≡ false = subst (λ n. is_declared s n ≡ false) (sym same) no in absurd (cc)
    by false e = e

module _ (p : Problem) (vars : List Var) (fresh : AreFresh p vars) where
  hidden : (name : Name) → is_declared (symbols p.decls) name ≡ true → named name (map name_of vars) (map sort_of vars) ≡ None
  hidden name d = named_absent name (map name_of vars) (map sort_of vars) (no_variable (symbols p.decls) name vars d fresh.undeclared)

  said : (d : Decl) → IsFoundIn p.decls d → Says (problem_scope p vars) d
  said (Const name sort) h =
      let declared = or_left (is_among name (constant_names p.decls)) (is_among name (function_names p.decls)) (there name (constant_names p.decls) (constant_sorts p.decls) sort h.0) in
      (ap (λ o. option_or o (named name (constant_names p.decls) (constant_sorts p.decls))) (hidden name declared) ∙ h.0, ap (option_map profile_of) h.1)
  said (Fun name args value level) h =
      let declared = or_right (is_among name (constant_names p.decls)) (is_among name (function_names p.decls)) (there name (function_names p.decls) (signatures p.decls) _ h.0) in
      (ap (option_map profile_of) h.0, ap (λ o. option_or o (named name (constant_names p.decls) (constant_sorts p.decls))) (hidden name declared) ∙ h.1)

  variable_said : (v : Var) → named v.name (map name_of vars) (map sort_of vars) ≡ Some v.sort → (problem_scope p vars).name v.name ≡ Some v.sort
  variable_said v h = ap (λ o. option_or o (named v.name (constant_names p.decls) (constant_sorts p.decls))) h

pub scopes_say_what_is_declared : ScopesSayWhatIsDeclared
scopes_say_what_is_declared p vars sorted fresh = record {
  declared = All-weaker (IsFoundIn p.decls) (Says (problem_scope p vars)) (said p vars fresh) p.decls (all_found p.decls sorted.distinct);
  variable = All-weaker (λ v. named v.name (map name_of vars) (map sort_of vars) ≡ Some v.sort) (λ v. (problem_scope p vars).name v.name ≡ Some v.sort)
      (variable_said p vars fresh) vars (vars_found vars fresh.distinct);
}

pub variables_widen_scopes : VariablesWidenScopes
variables_widen_scopes p vars fresh = record { names = names; functions = λ word profile e. e; pointers = λ number e. e }
  where
    names : (word : Name) (sort : Sort) → (problem_scope p []).name word ≡ Some sort → (problem_scope p vars).name word ≡ Some sort
    names word sort e =
        let declared = or_left (is_among word (constant_names p.decls)) (is_among word (function_names p.decls)) (there word (constant_names p.decls) (constant_sorts p.decls) sort e) in
        ap (λ o. option_or o (named word (constant_names p.decls) (constant_sorts p.decls))) (hidden p vars fresh word declared) ∙ e

-- ---- nothing else
behind : (first : Decl) (decls : List Decl) (d : Decl) → Contains decls d → Contains (first ∷ decls) d
behind first decls d h = let less = h.1 in (suc h.0, omega arith, h.2)

at_front : (first : Decl) (decls : List Decl) (d : Decl) → first ≡ d → Contains (first ∷ decls) d
at_front first decls d e = (zero, omega arith, e)

constant_declared : (decls : List Decl) (name : Name) (sort : Sort) → named name (constant_names decls) (constant_sorts decls) ≡ Some sort → Contains decls (Const name sort)
constant_declared [] name sort e = absurd (cc)
constant_declared (Const n s ∷ decls) name sort e = by (bytes_eq name n) refl (λ h. constant_declared decls name sort h) (sym (named-cons name n (constant_names decls) s (constant_sorts decls)) ∙ e)
  where
    by : (b : Bool) → bytes_eq name n ≡ b → (named name (constant_names decls) (constant_sorts decls) ≡ Some sort → Contains decls (Const name sort))
        → cond b (Some s) (named name (constant_names decls) (constant_sorts decls)) ≡ Some sort → Contains (Const n s ∷ decls) (Const name sort)
    by true same on h =
        let word = same_text name n same in
        let one : s ≡ sort = cc in at_front (Const n s) decls (Const name sort) (λ i. Const (sym word i) (one i))
    by false other on h = behind (Const n s) decls (Const name sort) (on h)
constant_declared (Fun n a v l ∷ decls) name sort e = behind (Fun n a v l) decls (Const name sort) (constant_declared decls name sort e)

abbrev declared_as : Name → Signature → Decl
declared_as name signature = Fun name signature.args signature.result signature.level

function_declared : (decls : List Decl) (name : Name) (signature : Signature) → named name (function_names decls) (signatures decls) ≡ Some signature
    → Contains decls (declared_as name signature)
function_declared [] name signature e = absurd (cc)
function_declared (Const n s ∷ decls) name signature e = behind (Const n s) decls (declared_as name signature) (function_declared decls name signature e)
function_declared (Fun n a v l ∷ decls) name signature e = by (bytes_eq name n) refl (λ h. function_declared decls name signature h) (sym (named-cons name n (function_names decls) (record { args = a; result = v; level = l }) (signatures decls)) ∙ e)
  where
    by : (b : Bool) → bytes_eq name n ≡ b → (named name (function_names decls) (signatures decls) ≡ Some signature → Contains decls (declared_as name signature))
        → cond b (Some (record { args = a; result = v; level = l })) (named name (function_names decls) (signatures decls)) ≡ Some signature
        → Contains (Fun n a v l ∷ decls) (declared_as name signature)
    by true same on h =
        let word = same_text name n same in
        let one : declared_as n (record { args = a; result = v; level = l }) ≡ declared_as n signature = ap (λ (o : Option Signature). elim o [ None ↦ Fun n a v l | Some found ↦ declared_as n found ]) h in
        at_front (Fun n a v l) decls (declared_as name signature) (one ∙ ap (λ m. declared_as m signature) (sym word))
    by false other on h = behind (Fun n a v l) decls (declared_as name signature) (on h)

pub nothing_else_is_found : NothingElseIsFound
nothing_else_is_found p = record { constant = constant_declared p.decls; function = function_declared p.decls }
