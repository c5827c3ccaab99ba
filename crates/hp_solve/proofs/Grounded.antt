-- The ground set of a problem has what the search and the texts ask.
use Rattle.std.proofs.Common.{◌≡◌, ◌∙◌, ℕ, zero, suc, ◌<◌, ◌+◌, List, [], ◌∷◌, Some, length, refl, sym, subst, map, arith}
use Rattle.std.specs.Prelude.{slice_get}
use Rattle.std.specs.List.{All}
use Rattle.std.proofs.lemmas.List.Elements.{All-nil, All-cons, All-head, All-tail}
use Rattle.hp_tree.specs.declared.problem.Decl.{Decl}
use Rattle.hp_tree.specs.declared.problem.Decl.TheVariants.{Const, Fun}
use Rattle.hp_tree.specs.declared.problem.Problem.{Problem}
use Rattle.hp_terms.specs.Words.{declared_word}
use Rattle.hp_lit.specs.declared.line.Body.{Body}
use Rattle.hp_lit.specs.declared.line.Body.TheVariants.{Apply, Sum}
use Rattle.hp_lit.specs.declared.line.Def.{Def}
use Rattle.hp_defs.specs.declared.names.Constant.{Constant}
use Rattle.hp_defs.specs.declared.names.Ground.{Ground}
use Rattle.hp_defs.specs.declared.names.Signature.{Signature}
use Rattle.hp_defs.specs.Names.{NameList, first_names}
use Rattle.hp_defs.specs.Fit.{BodyFits, IsFitNames}
use Rattle.hp_cert.specs.Lines.{function_name}
use Rattle.hp_cert.specs.Named.{AreNamed, BodyIsNamed, DefIsNamed}
use Rattle.hp_cert.specs.Spelled.{AreOnOneLine, FunctionIsOnOneLine, IsOnOneLine, IsOther}
use Rattle.hp_norm.specs.Lines.{constants_of, signatures_from}
use Rattle.hp_chain.specs.Ground.{IsGroundOf, chain_of}
use Rattle.hp_class.proofs.GroupsMade.{groups_are_sound}
use Rattle.hp_groups.specs.declared.group.Group.{Group}
use Rattle.hp_groups.specs.contracts.group.GroupLocalClass.TheImpl.{ghosts}
use Rattle.hp_chain.proofs.ValuesDescended.{descended, flattened}
use Rattle.hp_solve.specs.Solved.{AreNamesOnOneLine}

-- ---- definitions are of declared functions
all_by_place : {X : Type 0} (P : X → Type 0) (xs : List X) → ((k : ℕ) (x : X) → slice_get xs k ≡ Some x → P x) → All P xs
all_by_place P [] h = All-nil P
all_by_place P (x ∷ xs) h = All-cons P x xs (h zero x refl) (all_by_place P xs (λ k. h (suc k)))

within : {X : Type 0} (xs : List X) (i : ℕ) (x : X) → slice_get xs i ≡ Some x → i < length xs
within [] i x h = absurd (cc)
within (y ∷ ys) zero x h = omega arith
within (y ∷ ys) (suc i) x h = omega (arith, within ys i x h)

body_named : (names : NameList) (k : ℕ) (body : Body) → BodyFits (first_names k names) body → BodyIsNamed names body
body_named names k (Apply func args) h = within names.signatures func h.known h.found
body_named names k (Sum lin) h = tt

pub names_named : (names : NameList) → IsFitNames names → AreNamed names
names_named names fit = all_by_place (DefIsNamed names) names.definitions (λ k d at. body_named names k d.body (fit k d at))

-- ---- no name has a line feed where no declared name has one
abbrev HasOneLine : Constant → Type 0
HasOneLine constant = IsOnOneLine constant.name

abbrev IsSigned : Signature → Type 0
IsSigned signature = IsOnOneLine signature.name

constants_on_one_line : (ds : List Decl) → All IsOnOneLine (map declared_word ds) → All HasOneLine (constants_of ds)
constants_on_one_line [] h = All-nil HasOneLine
constants_on_one_line (Const name sort ∷ ds) h =
    All-cons HasOneLine (record { name = name; sort = sort }) (constants_of ds) (All-head IsOnOneLine name (map declared_word ds) h) (constants_on_one_line ds (All-tail IsOnOneLine name (map declared_word ds) h))
constants_on_one_line (Fun name args result level ∷ ds) h = constants_on_one_line ds (All-tail IsOnOneLine name (map declared_word ds) h)

signatures_on_one_line : (item : ℕ) (ds : List Decl) → All IsOnOneLine (map declared_word ds) → All IsSigned (signatures_from item ds)
signatures_on_one_line item [] h = All-nil IsSigned
signatures_on_one_line item (Const name sort ∷ ds) h = signatures_on_one_line (item + 1) ds (All-tail IsOnOneLine name (map declared_word ds) h)
signatures_on_one_line item (Fun name args result level ∷ ds) h =
    All-cons IsSigned (record { name = name; args = args; result = result; level = level; item = item }) (signatures_from (item + 1) ds)
    (All-head IsOnOneLine name (map declared_word ds) h) (signatures_on_one_line (item + 1) ds (All-tail IsOnOneLine name (map declared_word ds) h))

function_on_one_line : (ss : List Signature) (func : ℕ) → All IsSigned ss → IsOnOneLine (function_name (slice_get ss func))
function_on_one_line [] func h = All-nil IsOther
function_on_one_line (s ∷ ss) zero h = All-head IsSigned s ss h
function_on_one_line (s ∷ ss) (suc func) h = function_on_one_line ss func (All-tail IsSigned s ss h)

body_on_one_line : (names : NameList) (body : Body) → All IsSigned names.signatures → FunctionIsOnOneLine names body
body_on_one_line names (Apply func args) h = function_on_one_line names.signatures func h
body_on_one_line names (Sum lin) h = tt

names_declared : (p : Problem) (names : NameList) → names.constants ≡ constants_of p.decls → names.signatures ≡ signatures_from 1 p.decls → AreNamesOnOneLine p → AreOnOneLine names
names_declared p names cs ss h =
    let signed = subst (All IsSigned) (sym ss) (signatures_on_one_line 1 p.decls h) in
    record {
      constants = subst (All HasOneLine) (sym cs) (constants_on_one_line p.decls h);
      functions = all_by_place (λ (d : Def). FunctionIsOnOneLine names d.body) names.definitions (λ k d at. body_on_one_line names d.body signed);
    }

-- the declared names of a ground set are those of its problem
record HasDeclared (p : Problem) (names : NameList) : Type 0 where
  constants : names.constants ≡ constants_of p.decls
  signatures : names.signatures ≡ signatures_from 1 p.decls

has_declared : (p : Problem) (g : Ground) → IsGroundOf p g → HasDeclared p g.names
has_declared p g is =
    let said = flattened p g is in
    let made = groups_are_sound Group ghosts.grow_of ghosts.own ghosts.applied ghosts.clauses ghosts.plan_of ghosts.IsLent (chain_of p is.read) is.read.1 g (descended p g is) in
    record { constants = made.begins.constants ∙ said.constants; signatures = made.begins.signatures ∙ said.signatures }

pub names_on_one_line : (p : Problem) (g : Ground) → IsGroundOf p g → AreNamesOnOneLine p → AreOnOneLine g.names
names_on_one_line p g is h =
    let has = has_declared p g is in
    names_declared p g.names has.constants has.signatures h
