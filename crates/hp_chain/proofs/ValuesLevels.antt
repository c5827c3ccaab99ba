-- Structures with one table for each function, in the order of signatures: where the tables of each group complete its clauses, the
-- clauses hold and points are kept.
use Rattle.std.proofs.Common.{◌≡◌, ◌∙◌, ◌+◌, ◌≤◌, ◌<◌, ◌-◌, ℕ, zero, suc, Bool, true, false, ◌||◌, IsTrue, cond, List, [], ◌∷◌, map, nat_eq, Some, refl, sym, ap, subst, arith}
use Rattle.std.specs.Prelude.{slice_get}
use Rattle.std.specs.List.{All, Contains}
use Rattle.std.specs.Str.{bytes_eq}
use Rattle.std.proofs.lemmas.Bool.{eq-eqb, eqb-true}
use Rattle.std.proofs.lemmas.List.Elements.{All-cons, All-contains, All-nil}
use Rattle.hp_math.specs.Rational.{ℚ}
use Rattle.hp_names.specs.Names.{AreDistinct}
use Rattle.hp_names.proofs.Distinct.{absent}
use Rattle.hp_names.proofs.Texts.{text_same}
use Rattle.hp_tree.specs.Universal.{HoldsAll}
use Rattle.hp_tree.specs.Value.{Word, Environment, Functions}
use Rattle.hp_model.specs.declared.structure.Structure.{Structure}
use Rattle.hp_model.specs.declared.structure.Table.{Table}
use Rattle.hp_model.specs.Value.{constant, functions_of, rows_value, tables_value, with_arguments}
use Rattle.hp_local.specs.Applied.{clause_applies}
use Rattle.hp_local.specs.Frame.{Fact, Frame, HasPoint, with_tables}
use Rattle.hp_local.specs.Fuel.{TablesAreLower}
use Rattle.hp_local.specs.Law.{Completes, Group, IsCovered, Stands}
use Rattle.hp_local.proofs.Levels.{levels_complete}
use Rattle.hp_local.proofs.Lists.{contains_later, contains_same}
use Rattle.hp_defs.specs.declared.names.Signature.{Signature}
use Rattle.hp_defs.specs.Names.{signature_name}
use Rattle.hp_class.proofs.Facts.{word_there}

-- ---- one function
-- a function of a level, by its word
pub record IsMember (ss : List Signature) (level : ℕ) (word : Word) : Type 0 where
  pub place : ℕ
  pub signature : Signature
  pub known : slice_get ss place ≡ Some signature
  pub name : signature.name ≡ word
  pub on : signature.level ≡ level

-- the value that a table gives
abbrev pub table_value : Environment → Functions → Table → List ℚ → ℚ
table_value consts lower table args = rows_value (with_arguments args consts) lower table.rows table.otherwise

-- the function at a place has its group: this owns it and functions of its level, whose tables, which apply no function, make its
-- clauses hold and have its points
pub record IsCompleted (level : Word → ℕ) (frame : Frame) (ss : List Signature) (table : ℕ → Table) (k : ℕ) (s : Signature) (group : Group) : Type 0 where
  pub word : (table k).func ≡ s.name
  pub of_level : level s.name ≡ s.level
  pub low : 1 ≤ s.level
  pub high : s.level ≤ 16
  pub owned : IsTrue (group.own s.name)
  pub members : (word : Word) → IsTrue (group.own word) → IsMember ss s.level word
  pub own_tables : (lower : Functions) (word : Word) → IsTrue (group.own word) → (m : IsMember ss s.level word) (args : List ℚ)
      → with_tables frame.consts lower group.tables word args ≡ table_value frame.consts lower (table m.place) args
  pub other_tables : (lower : Functions) (word : Word) → group.own word ≡ false → (args : List ℚ) → with_tables frame.consts lower group.tables word args ≡ lower word args
  pub applies : All (λ u. IsTrue (clause_applies group.own u)) group.clauses
  pub law : Completes frame (λ word. false) group

none_more : (b : Bool) → (b || false) ≡ b
none_more true = refl
none_more false = refl

-- ---- all functions in their order
-- the tables of functions with these signatures, the first of which has this place
abbrev pub tables_by : (ℕ → Table) → ℕ → List Signature → List Table
tables_by table from [] = []
tables_by table from (s ∷ ss) = table from ∷ tables_by table (suc from) ss

-- the groups of those of a level
abbrev groups_by : (ℕ → Signature → Group) → ℕ → ℕ → List Signature → List Group
groups_by group at from [] = []
groups_by group at from (s ∷ ss) = cond (nat_eq s.level at) (group from s ∷ groups_by group at (suc from) ss) (groups_by group at (suc from) ss)

groups_all : (P : Group → Type 0) (group : ℕ → Signature → Group) (at from : ℕ) (ss : List Signature)
    → ((k : ℕ) (s : Signature) → slice_get ss k ≡ Some s → s.level ≡ at → P (group (from + k) s)) → All P (groups_by group at from ss)
groups_all P group at from [] h = All-nil P
groups_all P group at from (s ∷ ss) h =
    let rest = groups_all P group at (suc from) ss (λ k t e l. (let next : from + suc k ≡ suc from + k = omega arith in subst (λ n. P (group n t)) next (h (suc k) t e l))) in
    by rest (nat_eq s.level at) refl
  where
    by : All P (groups_by group at (suc from) ss) → (b : Bool) → nat_eq s.level at ≡ b → All P (cond b (group from s ∷ groups_by group at (suc from) ss) (groups_by group at (suc from) ss))
    by rest false e = rest
    by rest true e =
        let here : from + 0 ≡ from = omega arith in
        All-cons P (group from s) (groups_by group at (suc from) ss) (subst (λ n. P (group n s)) here (h 0 s refl (eqb-true s.level at e))) rest

groups_have : (group : ℕ → Signature → Group) (at from : ℕ) (ss : List Signature) (k : ℕ) (s : Signature) → slice_get ss k ≡ Some s → s.level ≡ at
    → Contains (groups_by group at from ss) (group (from + k) s)
groups_have group at from [] k s e l = absurd (cc)
groups_have group at from (t ∷ ss) zero s e l =
    let same : t ≡ s = cc in
    let yes : nat_eq t.level at ≡ true = eq-eqb t.level at (ap (λ (x : Signature). x.level) same ∙ l) in
    let here : from ≡ from + 0 = omega arith in
    rw yes (contains_same (group from t) (groups_by group at (suc from) ss) (group (from + 0) s) (λ i. group (here i) (same i)))
groups_have group at from (t ∷ ss) (suc k) s e l =
    let next : suc from + k ≡ from + suc k = omega arith in
    let rest = subst (λ n. Contains (groups_by group at (suc from) ss) (group n s)) next (groups_have group at (suc from) ss k s e l) in
    elim (nat_eq t.level at) as (λ b. Contains (cond b (group from t ∷ groups_by group at (suc from) ss) (groups_by group at (suc from) ss)) (group (from + suc k) s)) [
      | true ↦ contains_later (group from t) (groups_by group at (suc from) ss) (group (from + suc k) s) rest
      | false ↦ rest
    ]

-- the first table with the word of a function is its own
table_found : (consts : Environment) (lower : Functions) (table : ℕ → Table) (from : ℕ) (ss : List Signature) (k : ℕ) (s : Signature) (args : List ℚ)
    → AreDistinct (map signature_name ss) → ((j : ℕ) (t : Signature) → slice_get ss j ≡ Some t → (table (from + j)).func ≡ t.name) → slice_get ss k ≡ Some s
    → tables_value consts lower (tables_by table from ss) s.name args ≡ table_value consts lower (table (from + k)) args
table_found consts lower table from [] k s args once named e = absurd (cc)
table_found consts lower table from (t ∷ ss) zero s args once named e =
    let same : t ≡ s = cc in
    let here : from ≡ from + 0 = omega arith in
    let word : (table from).func ≡ s.name = ap (λ n. (table n).func) here ∙ named 0 t refl ∙ ap signature_name same in
    ap (λ b. cond b (table_value consts lower (table from) args) (tables_value consts lower (tables_by table (suc from) ss) s.name args)) (ap (λ w. bytes_eq w s.name) word ∙ text_same s.name)
    ∙ ap (λ n. table_value consts lower (table n) args) here
table_found consts lower table from (t ∷ ss) (suc k) s args once named e =
    let next : suc from + k ≡ from + suc k = omega arith in
    let here : from ≡ from + 0 = omega arith in
    let word : (table from).func ≡ t.name = ap (λ n. (table n).func) here ∙ named 0 t refl in
    let later = λ (j : ℕ) (u : Signature) (g : slice_get ss j ≡ Some u). let more : suc from + j ≡ from + suc j = omega arith in ap (λ n. (table n).func) more ∙ named (suc j) u g in
    ap (λ b. cond b (table_value consts lower (table from) args) (tables_value consts lower (tables_by table (suc from) ss) s.name args))
    (ap (λ w. bytes_eq w s.name) word ∙ absent t.name (map signature_name ss) k s.name once.0 (word_there ss k s e))
    ∙ table_found consts lower table (suc from) ss k s args once.1 later e ∙ ap (λ n. table_value consts lower (table n) args) next

-- ---- the structure
-- a point of a function that there is
pub record IsOfFunction (ss : List Signature) (k : Fact) : Type 0 where
  pub func : ℕ
  pub signature : Signature
  pub known : slice_get ss func ≡ Some signature
  pub word : k.func ≡ signature.name

module _ (s : Structure) (level : Word → ℕ) (frame : Frame) (ss : List Signature) (group : ℕ → Signature → Group) (table : ℕ → Table)
    (consts : (word : Word) → frame.consts word ≡ constant s.consts word) (lower : TablesAreLower level s.tables) (tables : s.tables ≡ tables_by table 0 ss)
    (once : AreDistinct (map signature_name ss))
    (complete : (k : ℕ) (t : Signature) → slice_get ss k ≡ Some t → IsCompleted level frame ss table k t (group k t))
    (known : (k : Fact) → Contains frame.facts k → IsOfFunction ss k) where
  abbrev groups : ℕ → List Group
  groups at = groups_by group at 0 ss

  named : (k : ℕ) (t : Signature) → slice_get ss k ≡ Some t → (table (0 + k)).func ≡ t.name
  named k t e = let same : 0 + k ≡ k = omega arith in ap (λ n. (table n).func) same ∙ (complete k t e).word

  -- the structure has the table
  own_table : (k : ℕ) (t : Signature) → slice_get ss k ≡ Some t → (below : Functions) (args : List ℚ)
      → table_value frame.consts below (table k) args ≡ tables_value frame.consts below s.tables t.name args
  own_table k t e below args =
      let same : k ≡ 0 + k = omega arith in
      ap (λ n. table_value frame.consts below (table n) args) same
      ∙ sym (table_found frame.consts below table 0 ss k t args once named e)
      ∙ ap (λ ts. tables_value frame.consts below ts t.name args) (sym tables)

  stands : (at k : ℕ) (t : Signature) → slice_get ss k ≡ Some t → t.level ≡ at → Stands s level frame at (group k t)
  stands at k t e l =
      let c = complete k t e in
      record {
        applied = λ word. false;
        own_level = λ func o. (let m = c.members func o in ap level (sym m.name) ∙ (complete m.place m.signature m.known).of_level ∙ m.on ∙ l);
        applied_level = λ func f. absurd (cc);
        applies = subst (λ (test : Word → Bool). All (λ u. IsTrue (clause_applies test u)) (group k t).clauses) (λ i word. sym (none_more ((group k t).own word)) i) c.applies;
        own_tables = λ below func o args. (
            let m = c.members func o in
            c.own_tables below func o m args ∙ own_table m.place m.signature m.known below args ∙ ap (λ word. tables_value frame.consts below s.tables word args) m.name);
        other_tables = c.other_tables;
        applied_inside = λ j m f. absurd (cc);
        law = c.law;
      }

  covered : (k : Fact) → Contains frame.facts k → IsCovered level groups k
  covered k m =
      let w = known k m in
      let c = complete w.func w.signature w.known in
      let at : level k.func ≡ w.signature.level = ap level w.word ∙ c.of_level in
      let same : 0 + w.func ≡ w.func = omega arith in
      record {
        low = let low = c.low in omega (arith, at, low);
        high = let high = c.high in omega (arith, at, high);
        group = group w.func w.signature;
        among = subst (λ n. Contains (groups (level k.func)) (group n w.signature)) same (groups_have group (level k.func) 0 ss w.func w.signature w.known (sym at));
        owned = subst (λ word. IsTrue ((group w.func w.signature).own word)) (sym w.word) c.owned;
      }

  all_complete : ((at : ℕ) → at < 16 → All (λ g. All (HoldsAll frame.size frame.names (functions_of s)) g.clauses) (groups (suc at)))
      × ((k : Fact) → Contains frame.facts k → IsTrue (frame.inside k) → HasPoint (functions_of s) k)
  all_complete =
      levels_complete s level frame groups consts lower
      (λ at. groups_all (Stands s level frame at) group at 0 ss (λ k t e l. (let same : k ≡ 0 + k = omega arith in subst (λ n. Stands s level frame at (group n t)) same (stands at k t e l))))
      covered

  pub clauses_hold : (k : ℕ) (t : Signature) → slice_get ss k ≡ Some t → All (HoldsAll frame.size frame.names (functions_of s)) (group k t).clauses
  clauses_hold k t e =
      let c = complete k t e in
      let low = c.low in
      let high = c.high in
      let at : t.level ≡ suc (t.level - 1) = omega (arith, low) in
      let under : t.level - 1 < 16 = omega (arith, low, high) in
      let same : 0 + k ≡ k = omega arith in
      subst (λ n. All (HoldsAll frame.size frame.names (functions_of s)) (group n t).clauses) same
      (All-contains (λ (g : Group). All (HoldsAll frame.size frame.names (functions_of s)) g.clauses) (groups (suc (t.level - 1))) (group (0 + k) t) (all_complete.0 (t.level - 1) under)
      (groups_have group (suc (t.level - 1)) 0 ss k t e at))

  pub points_kept : (k : Fact) → Contains frame.facts k → IsTrue (frame.inside k) → HasPoint (functions_of s) k
  points_kept = all_complete.1
