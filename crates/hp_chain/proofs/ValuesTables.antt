-- Tables that fit the names of a ground set fit the declarations of its problem.
use Rattle.std.proofs.Common.{◌≡◌, ◌∙◌, ◌+◌, ◌≤◌, ℕ, zero, suc, cond, false, List, [], ◌∷◌, length, map, codes, Option, Some, refl, sym, ap, subst, arith}
use Rattle.std.specs.Prelude.{slice_get}
use Rattle.std.specs.List.{Contains, list_any}
use Rattle.std.specs.Str.{bytes_eq}
use Rattle.std.proofs.lemmas.Bool.{or_parts}
use Rattle.std.proofs.lemmas.List.Elements.{All-contains}
use Rattle.std.proofs.lemmas.Option.{same_Some}
use Rattle.hp_names.specs.Names.{AreDistinct, is_among}
use Rattle.hp_names.proofs.Distinct.{absent}
use Rattle.hp_names.proofs.Texts.{text_same}
use Rattle.hp_tree.specs.declared.problem.Decl.{Decl}
use Rattle.hp_tree.specs.declared.problem.Decl.TheVariants.{Const, Fun}
use Rattle.hp_tree.specs.declared.problem.Problem.{Problem}
use Rattle.hp_tree.specs.declared.problem.Sort.{Sort}
use Rattle.hp_tree.specs.Limits.{most_arguments}
use Rattle.hp_tree.specs.Value.{Word}
use Rattle.hp_model.specs.declared.structure.Table.{Table}
use Rattle.hp_model.specs.Declarations.{constant_sort as declared_sort, constants, functions}
use Rattle.hp_model.specs.Scopes.{argument_sort, table_scope}
use Rattle.hp_model.specs.WellFormed.{IsSortedTable, IsTableOf, TablesFit}
use Rattle.hp_local.specs.Rows.{argument_words}
use Rattle.hp_local.specs.Structures.{AreLevelled, IsLevelled, declared_level, level_of}
use Rattle.hp_local.proofs.Lists.{contains_first, contains_later, contains_none}
use Rattle.hp_local.proofs.TableScopes.{table_scopes_fit}
use Rattle.hp_defs.specs.declared.names.Constant.{Constant}
use Rattle.hp_defs.specs.declared.names.Signature.{Signature}
use Rattle.hp_defs.specs.Names.{NameList, constant_name}
use Rattle.hp_norm.specs.Lines.{constants_of, signatures_from}
use Rattle.hp_class.specs.Law.{IsScopeAt, IsTableAt}
use Rattle.hp_chain.proofs.ValuesDeclared.{declared_function}
use Rattle.hp_chain.proofs.ValuesLevels.{tables_by}

-- ---- constants
constant_there : (cs : List Constant) (k : ℕ) (c : Constant) → slice_get cs k ≡ Some c → slice_get (map constant_name cs) k ≡ Some c.name
constant_there [] k c e = absurd (cc)
constant_there (b ∷ cs) zero c e = let same : b ≡ c = cc in ap (λ (x : Constant). Some x.name) same
constant_there (b ∷ cs) (suc k) c e = constant_there cs k c e

-- the first constant with its word is its own
constant_known : (decls : List Decl) (k : ℕ) (c : Constant) → AreDistinct (map constant_name (constants_of decls)) → slice_get (constants_of decls) k ≡ Some c
    → declared_sort (constants decls) c.name ≡ Some c.sort
constant_known [] k c once e = absurd (cc)
constant_known (Const name sort ∷ decls) zero c once e =
    let b : Constant = record { name = name; sort = sort } in
    let same : b ≡ c = cc in
    subst (λ (x : Constant). declared_sort (constants (Const name sort ∷ decls)) x.name ≡ Some x.sort) same (ap (λ t. cond t (Some sort) (declared_sort (constants decls) name)) (text_same name))
constant_known (Const name sort ∷ decls) (suc k) c once e =
    ap (λ t. cond t (Some sort) (declared_sort (constants decls) c.name)) (absent name (map constant_name (constants_of decls)) k c.name once.0 (constant_there (constants_of decls) k c e))
    ∙ constant_known decls k c once.1 e
constant_known (Fun name args result level ∷ decls) k c once e = constant_known decls k c once e

-- a word that is none of the arguments'
other_sort : (args : List Sort) (other : Option Sort) (word : Word) → is_among word argument_words ≡ false → argument_sort args other word ≡ other
other_sort args other word h =
    let first = bytes_eq word (codes "$1") in
    let second = bytes_eq word (codes "$2") in
    let third = bytes_eq word (codes "$3") in
    let fourth = bytes_eq word (codes "$4") in
    let a = or_parts first (list_any (bytes_eq word) (codes "$2" ∷ codes "$3" ∷ codes "$4" ∷ [])) h in
    let b = or_parts second (list_any (bytes_eq word) (codes "$3" ∷ codes "$4" ∷ [])) a.1 in
    let c = or_parts third (list_any (bytes_eq word) (codes "$4" ∷ [])) b.1 in
    let d = or_parts fourth false c.1 in
    λ i. cond (a.0 i) (slice_get args 0) (cond (b.0 i) (slice_get args 1) (cond (c.0 i) (slice_get args 2) (cond (d.0 i) (slice_get args 3) other)))

-- ---- one table
-- a table that applies no function
pub table_fits : (p : Problem) (size func : ℕ) (names : NameList) (s : Signature) (table : Table) → names.constants ≡ constants_of p.decls → AreDistinct (map constant_name names.constants)
    → length s.args ≤ most_arguments → slice_get names.signatures func ≡ Some s → IsTableAt size names [] func table → IsTableOf size p (declared_function s) table
table_fits p size func names s table declared once few known at =
    let same : at.signature ≡ s = same_Some at.signature s (sym at.known ∙ known) in
    let scope = table_scope size p s.args s.level in
    let fits : IsScopeAt size names [] s.args scope = record {
      arguments = table_scopes_fit size p s.args s.level few;
      constants = λ k c there other.
          other_sort s.args (declared_sort (constants p.decls) c.name) c.name other
          ∙ constant_known p.decls k c (subst (λ (cs : List Constant). AreDistinct (map constant_name cs)) declared once) (ap (λ (cs : List Constant). slice_get cs k) (sym declared) ∙ there);
      functions = λ k t m there. absurd (contains_none k m);
    } in
    let sorted = at.sorted scope (subst (λ (x : Signature). IsScopeAt size names [] x.args scope) (sym same) fits) in
    record {
      name = at.name ∙ ap (λ (x : Signature). x.name) same;
      arguments = at.arguments ∙ ap (λ (x : Signature). length x.args) same;
      sorted = subst (λ (x : Signature). IsSortedTable scope x.result table) same sorted;
    }

pub table_word : (size func : ℕ) (names : NameList) (s : Signature) (table : Table) → slice_get names.signatures func ≡ Some s → IsTableAt size names [] func table → table.func ≡ s.name
table_word size func names s table known at = at.name ∙ ap (λ (x : Signature). x.name) (same_Some at.signature s (sym at.known ∙ known))

-- ---- all tables
pub tables_fit : (size : ℕ) (p : Problem) (table : ℕ → Table) (decls : List Decl) (item from : ℕ)
    → ((k : ℕ) (s : Signature) → slice_get (signatures_from item decls) k ≡ Some s → IsTableOf size p (declared_function s) (table (from + k)))
    → TablesFit size p (functions decls) (tables_by table from (signatures_from item decls))
tables_fit size p table [] item from fit = tt
tables_fit size p table (Const name sort ∷ decls) item from fit = tables_fit size p table decls (item + 1) from fit
tables_fit size p table (Fun name args result level ∷ decls) item from fit =
    let s : Signature = record { name = name; args = args; result = result; level = level; item = item } in
    let Fits = λ (func : ℕ) (x : Signature). IsTableOf size p (declared_function x) (table func) in
    let here : from + 0 ≡ from = omega arith in (
      subst (λ (func : ℕ). Fits func s) here (fit 0 s refl),
      tables_fit size p table decls (item + 1) (suc from) (λ k x e. (let next : from + suc k ≡ suc from + k = omega arith in subst (λ (func : ℕ). Fits func x) next (fit (suc k) x e))),
    )

-- ---- levels
declared_there : (item : ℕ) (decls : List Decl) (k : ℕ) (s : Signature) → slice_get (signatures_from item decls) k ≡ Some s → Contains (functions decls) (declared_function s)
declared_there item [] k s e = absurd (cc)
declared_there item (Const name sort ∷ decls) k s e = declared_there (item + 1) decls k s e
declared_there item (Fun name args result level ∷ decls) zero s e =
    let t : Signature = record { name = name; args = args; result = result; level = level; item = item } in
    let same : t ≡ s = cc in
    subst (λ (x : Signature). Contains (functions (Fun name args result level ∷ decls)) (declared_function x)) same (contains_first (declared_function t) (functions decls))
declared_there item (Fun name args result level ∷ decls) (suc k) s e =
    contains_later (record { name = name; profile = record { args = args; result = result }; level = level }) (functions decls) (declared_function s) (declared_there (item + 1) decls k s e)

-- a function has its level
pub has_level : (p : Problem) → AreLevelled p → (k : ℕ) (s : Signature) → slice_get (signatures_from 1 p.decls) k ≡ Some s
    → (declared_level p s.name ≡ s.level) × (1 ≤ s.level) × (s.level ≤ 16)
has_level p levelled k s e =
    let w = All-contains (IsLevelled p) (functions p.decls) (declared_function s) levelled (declared_there 1 p.decls k s e) in
    (ap level_of w.first, w.low, w.high)
