-- The group of a function as one of words: its functions, their tables, and its clauses.
use Rattle.std.proofs.Common.{◌≡◌, ◌∙◌, ◌||◌, ℕ, Bool, true, false, cond, IsTrue, List, [], ◌∷◌, ◌++◌, map, append-nil, Some, refl, sym, ap, subst}
use Rattle.std.specs.Prelude.{position, slice_get}
use Rattle.std.specs.List.{All, AllZip}
use Rattle.std.specs.Str.{bytes_eq}
use Rattle.std.proofs.lemmas.Bool.{or_parts}
use Rattle.std.proofs.lemmas.List.Elements.{All-cons, All-head, All-nil, All-tail}
use Rattle.std.proofs.lemmas.Option.{same_Some}
use Rattle.hp_math.specs.Rational.{ℚ}
use Rattle.hp_names.proofs.Texts.{same_text}
use Rattle.hp_tree.specs.Universal.{Universal}
use Rattle.hp_tree.specs.Value.{Word, Environment, Functions}
use Rattle.hp_model.specs.declared.structure.Table.{Table}
use Rattle.hp_local.specs.Applied.{clause_applies}
use Rattle.hp_local.specs.Frame.{Frame, with_tables}
use Rattle.hp_local.specs.Law.{Completes}
use Rattle.hp_defs.specs.declared.names.Signature.{Signature}
use Rattle.hp_defs.specs.Made.{IsMade}
use Rattle.hp_defs.specs.Names.{NameList, function_words}
use Rattle.hp_defs.proofs.Distinct.{position_of}
use Rattle.hp_norm.specs.declared.flat.FlatClause.{FlatClause}
use Rattle.hp_norm.specs.Flat.{universal_of}
use Rattle.hp_class.specs.Frame.{is_function}
use Rattle.hp_class.specs.Law.{IsTableAt, group_at}
use Rattle.hp_class.proofs.Facts.{word_there}
use Rattle.hp_ruled.proofs.Arrays.{first_test}
use Rattle.hp_chain.proofs.ValuesLevels.{IsMember, table_value}

-- ---- functions by their places and by their words
-- a function of a level
pub record IsOn (ss : List Signature) (level func : ℕ) : Type 0 where
  pub signature : Signature
  pub known : slice_get ss func ≡ Some signature
  pub on : signature.level ≡ level

-- its table has its word
pub record IsNamed (ss : List Signature) (table : ℕ → Table) (func : ℕ) : Type 0 where
  pub signature : Signature
  pub known : slice_get ss func ≡ Some signature
  pub named : (table func).func ≡ signature.name

module _ (names : NameList) where
  pub member : (level : ℕ) (funcs : List ℕ) (word : Word) → All (IsOn names.signatures level) funcs → IsTrue (is_function names funcs word) → IsMember names.signatures level word
  member level [] word all h = absurd (cc)
  member level (k ∷ funcs) word all h =
      let head = All-head (IsOn names.signatures level) k funcs all in
      by head (bytes_eq head.signature.name word) refl (sym (first_test names k funcs head.signature word head.known) ∙ h) (λ g. member level funcs word (All-tail (IsOn names.signatures level) k funcs all) g)
    where
      by : (head : IsOn names.signatures level k) (b : Bool) → bytes_eq head.signature.name word ≡ b → (b || is_function names funcs word) ≡ true
          → (IsTrue (is_function names funcs word) → IsMember names.signatures level word) → IsMember names.signatures level word
      by head true t g rest = record { place = k; signature = head.signature; known = head.known; name = same_text head.signature.name word t; on = head.on }
      by head false t g rest = rest g

  module _ (made : IsMade names) (table : ℕ → Table) (consts : Environment) (lower : Functions) (word : Word) (args : List ℚ) where
    abbrev Named : ℕ → Type 0
    Named func = IsNamed names.signatures table func

    same_place : (j k : ℕ) (s t : Signature) → slice_get names.signatures j ≡ Some s → slice_get names.signatures k ≡ Some t → s.name ≡ t.name → j ≡ k
    same_place j k s t e f same =
        same_Some j k
        (sym (position_of (function_words names) j s.name made.functions (word_there names.signatures j s e))
        ∙ ap (λ (w : Word). position (bytes_eq w) (function_words names)) same
        ∙ position_of (function_words names) k t.name made.functions (word_there names.signatures k t f))

    -- the tables from the first one on
    first_value : (k : ℕ) (funcs : List ℕ) (n : Named k) (b : Bool) → bytes_eq n.signature.name word ≡ b
        → with_tables consts lower (table k ∷ map table funcs) word args ≡ cond b (table_value consts lower (table k) args) (with_tables consts lower (map table funcs) word args)
    first_value k funcs n b t =
        ap (λ c. cond c (table_value consts lower (table k) args) (with_tables consts lower (map table funcs) word args)) (ap (λ (w : Word). bytes_eq w word) n.named ∙ t)

    -- a function has the value of its table
    pub table_found : (funcs : List ℕ) → All Named funcs → IsTrue (is_function names funcs word) → (k : ℕ) (t : Signature) → slice_get names.signatures k ≡ Some t → t.name ≡ word
        → with_tables consts lower (map table funcs) word args ≡ table_value consts lower (table k) args
    table_found [] all h k t e is = absurd (cc)
    table_found (j ∷ funcs) all h k t e is =
        let n = All-head Named j funcs all in
        by n (bytes_eq n.signature.name word) refl (sym (first_test names j funcs n.signature word n.known) ∙ h) (λ g. table_found funcs (All-tail Named j funcs all) g k t e is)
      where
        by : (n : Named j) (b : Bool) → bytes_eq n.signature.name word ≡ b → (b || is_function names funcs word) ≡ true
            → (IsTrue (is_function names funcs word) → with_tables consts lower (map table funcs) word args ≡ table_value consts lower (table k) args)
            → with_tables consts lower (map table (j ∷ funcs)) word args ≡ table_value consts lower (table k) args
        by n true u g rest =
            let same = same_place j k n.signature t n.known e (same_text n.signature.name word u ∙ sym is) in
            first_value j funcs n true u ∙ ap (λ i. table_value consts lower (table i) args) same
        by n false u g rest = first_value j funcs n false u ∙ rest g

    -- and any other that below
    pub none_found : (funcs : List ℕ) → All Named funcs → is_function names funcs word ≡ false → with_tables consts lower (map table funcs) word args ≡ lower word args
    none_found [] all h = refl
    none_found (j ∷ funcs) all h =
        let n = All-head Named j funcs all in
        let both = or_parts (bytes_eq n.signature.name word) (is_function names funcs word) (sym (first_test names j funcs n.signature word n.known) ∙ h) in
        first_value j funcs n false both.0 ∙ none_found funcs (All-tail Named j funcs all) both.1

-- ---- the law of a group
-- its tables are those of its functions, and its clauses apply no lower ones
pub law_of : (names : NameList) (frame : Frame) (own applied : List ℕ) (clauses : List FlatClause) (tables given : List Table) → applied ≡ [] → tables ≡ given
    → Completes frame (is_function names applied) (group_at names own clauses tables) → Completes frame (λ word. false) (group_at names own clauses given)
law_of names frame own applied clauses tables given none only law =
    subst (λ (ts : List Table). Completes frame (λ word. false) (group_at names own clauses ts)) only
    (subst (λ (funcs : List ℕ). Completes frame (is_function names funcs) (group_at names own clauses tables)) none law)

applies_mapped : (test : Word → Bool) (clauses : List FlatClause) → All (λ k. IsTrue (clause_applies test (universal_of k))) clauses → All (λ u. IsTrue (clause_applies test u)) (map universal_of clauses)
applies_mapped test [] h = All-nil (λ (u : Universal). IsTrue (clause_applies test u))
applies_mapped test (k ∷ clauses) h =
    let P = λ (k : FlatClause). IsTrue (clause_applies test (universal_of k)) in
    All-cons (λ (u : Universal). IsTrue (clause_applies test u)) (universal_of k) (map universal_of clauses) (All-head P k clauses h) (applies_mapped test clauses (All-tail P k clauses h))

nothing_more : (own applied : List ℕ) → applied ≡ [] → own ++ applied ≡ own
nothing_more own applied none = ap (λ (more : List ℕ). own ++ more) none ∙ append-nil own

pub applies_own : (names : NameList) (own applied : List ℕ) (clauses : List FlatClause) → applied ≡ []
    → All (λ k. IsTrue (clause_applies (is_function names (own ++ applied)) (universal_of k))) clauses → All (λ u. IsTrue (clause_applies (λ word. is_function names own word) u)) (map universal_of clauses)
applies_own names own applied clauses none h =
    applies_mapped (λ word. is_function names own word) clauses
    (subst (λ (funcs : List ℕ). All (λ (k : FlatClause). IsTrue (clause_applies (is_function names funcs) (universal_of k))) clauses) (nothing_more own applied none) h)

-- the table of one of its functions
all_zipped : (P : ℕ → Table → Type 0) (table : ℕ → Table) (funcs : List ℕ) → AllZip P funcs (map table funcs) → All (λ k. P k (table k)) funcs
all_zipped P table [] h = All-nil (λ k. P k (table k))
all_zipped P table (k ∷ funcs) h = All-cons (λ i. P i (table i)) k funcs h.0 (all_zipped P table funcs h.1)

pub tables_at : (size : ℕ) (names : NameList) (own applied : List ℕ) (tables : List Table) (table : ℕ → Table) → applied ≡ [] → tables ≡ map table own → AllZip (IsTableAt size names applied) own tables
    → All (λ k. IsTableAt size names [] k (table k)) own
tables_at size names own applied tables table none only h =
    all_zipped (IsTableAt size names []) table own
    (subst (λ (ts : List Table). AllZip (IsTableAt size names []) own ts) only (subst (λ (funcs : List ℕ). AllZip (IsTableAt size names funcs) own tables) none h))

-- what holds of all images holds of each image
pub All-unmap : {X Y : Type 0} (P : Y → Type 0) (f : X → Y) (xs : List X) → All P (map f xs) → All (λ x. P (f x)) xs
All-unmap P f [] all = All-nil (λ x. P (f x))
All-unmap P f (x ∷ xs) all = All-cons (λ y. P (f y)) x xs (All-head P (f x) (map f xs) all) (All-unmap P f xs (All-tail P (f x) (map f xs) all))
