-- The law of arrays.
use Rattle.std.proofs.Common.{ℕ, suc, ◌≡◌, inl, inr, List, [], ◌∷◌, map, length, Bool, true, false, ◌||◌, IsTrue, refl, ap, ◌∙◌, sym, subst, cond, arith}
use Rattle.std.specs.Prelude.{slice_index_or}
use Rattle.std.specs.Str.{bytes_eq}
use Rattle.std.specs.List.{list_all, All, Contains}
use Rattle.std.proofs.lemmas.List.Elements.{All-head, All-tail}
use Rattle.hp_math.specs.Rational.{ℚ, ◌+ℚ◌, ◌-ℚ◌, ◌*ℚ◌, neg_ℚ}
use Rattle.hp_math.specs.Steps.{steps}
use Rattle.hp_tree.specs.declared.term.Term.{Term, fold-roll-Term, ind-Term, roll-Term, map-Term}
use Rattle.hp_tree.specs.declared.term.Term.TheOpen.{Term-F}
use Rattle.hp_tree.specs.declared.problem.Atom.{Atom}
use Rattle.hp_tree.specs.declared.problem.Var.{Var}
use Rattle.hp_tree.specs.Universal.{Universal, assign, AreSorted, HoldsAll}
use Rattle.hp_tree.specs.Value.{Word, Environment, Functions, value, compares, atom_is_true, all_true, one_true}
use Rattle.hp_local.specs.Frame.{is_own, is_variable, Fact, AreCongruent, HasPoint, with_tables, Frame}
use Rattle.hp_local.specs.Arrays.{step_tables, Look, one_variable, look, atom_is_fine, KeepsTruth, IsFine, IsArrayGuard, Fine, Keeps, IsArrayClause, AreAmong, TuplesAreTrue, IsArray, ArraysComplete}
use Rattle.hp_local.specs.Nearest.{nearest}
use Rattle.hp_local.specs.Ordered.{in_order, fact_points, step_table}
use Rattle.hp_local.specs.Rows.{own_facts}
use Rattle.hp_local.proofs.Tests.{both, either, guarded, implied}
use Rattle.hp_tree.proofs.Compares.{not_true}
use Rattle.hp_local.proofs.Cases.{sorted_length}
use Rattle.hp_local.proofs.Nearest.{steps_are_nearest, nearest_among}
use Rattle.hp_local.proofs.Steps.{step_table_value, step_table_has, among_facts, same_bytes}
use Rattle.hp_local.proofs.Tables.{own_is, own_tables, other_tables, one_table}
use Rattle.hp_model.specs.declared.structure.Table.{Table}

-- ---- a term at values, and at the nearest ones
record Claim (is : List ℚ) (a : Look) (left right : ℚ) : Type 0 where
  at_variable : IsTrue a.variable → right ≡ nearest is left
  at_fine : IsTrue a.fine → left ≡ right

module _ (is : List ℚ) (own var : Word → Bool) (M N : Environment) (F : Functions)
    (at_var : (n : Word) → IsTrue (var n) → N n ≡ nearest is (M n)) (at_name : (n : Word) → var n ≡ false → M n ≡ N n)
    (at_own : (f : Word) → IsTrue (own f) → (x : ℚ) → F f (x ∷ []) ≡ F f (nearest is x ∷ [])) where
  abbrev Claims : Term → Type 0
  Claims t = Claim is (look own var t) (value M F t) (value N F t)

  fine_all : (ts : List ((t : Term) × Claims t)) → IsTrue (list_all (λ a. a.fine) (map (look own var) (map (λ e. e.0) ts)))
      → map (value M F) (map (λ e. e.0) ts) ≡ map (value N F) (map (λ e. e.0) ts)
  fine_all [] h = refl
  fine_all (t ∷ ts) h = let k = both _ _ h in λ i. t.1.at_fine k.0 i ∷ fine_all ts k.1 i

  array : (f : Word) → IsTrue (own f) → (ts : List ((t : Term) × Claims t)) → IsTrue (one_variable (map (look own var) (map (λ e. e.0) ts)))
      → F f (map (value M F) (map (λ e. e.0) ts)) ≡ F f (map (value N F) (map (λ e. e.0) ts))
  array f o [] h = cc
  array f o (t ∷ []) h = at_own f o (value M F t.0) ∙ ap (λ z. F f (z ∷ [])) (sym (t.1.at_variable h))
  array f o (t ∷ u ∷ ts) h = cc

  only : (fine : Bool) (a b : ℚ) → (IsTrue fine → a ≡ b) → Claim is (record { variable = false; fine = fine }) a b
  only fine a b f = record { at_variable = λ h. cc; at_fine = f }

  layer : (y : Term-F ((t : Term) × Claims t)) → Claims (roll-Term (map-Term ((t : Term) × Claims t) Term (λ e. e.0) y))
  layer (Term-F.Number n) = simp fold-roll-Term (only true n n (λ h. refl))
  layer Term-F.Null = simp fold-roll-Term (only true _ _ (λ h. refl))
  layer (Term-F.Name n) = simp fold-roll-Term (record { at_variable = at_var n; at_fine = λ h. at_name n (not_true _ h) })
  layer (Term-F.Apply func args) = simp fold-roll-Term (only _ _ _ (λ h. elim (either _ _ h) [
    | inl t ↦ (let k = both _ _ t in array func k.0 args k.1)
    | inr t ↦ ap (F func) (fine_all args t)
  ]))
  layer (Term-F.Add a b) = simp fold-roll-Term (only _ _ _ (λ h. (let k = both _ _ h in λ i. a.1.at_fine k.0 i +ℚ b.1.at_fine k.1 i)))
  layer (Term-F.Sub a b) = simp fold-roll-Term (only _ _ _ (λ h. (let k = both _ _ h in λ i. a.1.at_fine k.0 i -ℚ b.1.at_fine k.1 i)))
  layer (Term-F.Neg a) = simp fold-roll-Term (only _ _ _ (λ h. λ i. neg_ℚ (a.1.at_fine h i)))
  layer (Term-F.Scale n a) = simp fold-roll-Term (only _ _ _ (λ h. λ i. n *ℚ a.1.at_fine h i))

  fine_value : (t : Term) → IsTrue (look own var t).fine → value M F t ≡ value N F t
  fine_value t h = (ind-Term Claims (λ x y is. subst (λ z. Claims (roll-Term z)) is (layer y)) t).at_fine h

  pub fine_atom : (a : Atom) → IsTrue (atom_is_fine own var a) → atom_is_true M F a ≡ atom_is_true N F a
  fine_atom a h = let k = both _ _ h in λ i. compares a.cmp (fine_value a.left k.0 i) (fine_value a.right k.1 i)

-- ---- the values of the variables
at_variable : (is : List ℚ) (vs : List Var) (xs : List ℚ) (names : Environment) (n : Word) → length xs ≡ length vs → IsTrue (is_variable vs n)
    → assign vs (map (nearest is) xs) names n ≡ nearest is (assign vs xs names n)
at_variable is [] xs names n e h = cc
at_variable is (v ∷ vs) [] names n e h = absurd (omega arith)
at_variable is (v ∷ vs) (x ∷ xs) names n e h =
    (elim (bytes_eq v.name n) as (λ b. IsTrue (b || is_variable vs n)
    → cond b (nearest is x) (assign vs (map (nearest is) xs) names n) ≡ nearest is (cond b x (assign vs xs names n))) [
      | true ↦ λ t. refl
      | false ↦ λ t. at_variable is vs xs names n (let k : length xs ≡ length vs = omega arith in k) t
    ]) h

at_other : (vs : List Var) (xs ys : List ℚ) (names : Environment) (n : Word) → length xs ≡ length vs → length ys ≡ length vs → is_variable vs n ≡ false → assign vs xs names n ≡ assign vs ys names n
at_other [] xs ys names n d e h = refl
at_other (v ∷ vs) [] ys names n d e h = absurd (omega arith)
at_other (v ∷ vs) (x ∷ xs) [] names n d e h = absurd (omega arith)
at_other (v ∷ vs) (x ∷ xs) (y ∷ ys) names n d e h =
    (elim (bytes_eq v.name n) as (λ b. (b || is_variable vs n) ≡ false → cond b x (assign vs xs names n) ≡ cond b y (assign vs ys names n)) [
      | true ↦ λ t. cc
      | false ↦ λ t. at_other vs xs ys names n (let k : length xs ≡ length vs = omega arith in k) (let k : length ys ≡ length vs = omega arith in k) t
    ]) h

map_length : {A B : Type 0} (f : A → B) (xs : List A) → length (map f xs) ≡ length xs
map_length f [] = refl
map_length f (x ∷ xs) = ap suc (map_length f xs)

are_among : (size : ℕ) (i : ℚ) (is : List ℚ) (vs : List Var) (xs : List ℚ) → AreSorted size vs xs → AreAmong (i ∷ is) vs (map (nearest (i ∷ is)) xs)
are_among size i is [] [] s = tt
are_among size i is [] (x ∷ xs) s = absurd s
are_among size i is (v ∷ vs) [] s = absurd s
are_among size i is (v ∷ vs) (x ∷ xs) s = (nearest_among i is x, are_among size i is vs xs s.1)

-- ---- the clauses
module _ (is : List ℚ) (frame : Frame) (fs : List Word) (u : Universal) (M N : Environment) (F : Functions)
    (keep : (a : Atom) → KeepsTruth is frame u a → IsTrue (atom_is_true M F a) → IsTrue (atom_is_true N F a))
    (same : (a : Atom) → IsFine fs u a → atom_is_true M F a ≡ atom_is_true N F a) where
  guard_on : (a : Atom) → IsArrayGuard is frame fs u a → IsTrue (atom_is_true M F a) → IsTrue (atom_is_true N F a)
  guard_on a (Fine f) t = sym (same a f) ∙ t
  guard_on a (Keeps k) t = keep a k t

  guards_on : (atoms : List Atom) → All (IsArrayGuard is frame fs u) atoms → IsTrue (all_true M F atoms) → IsTrue (all_true N F atoms)
  guards_on [] h t = refl
  guards_on (a ∷ atoms) h t =
      let k = both _ _ t in
      let x : atom_is_true N F a ≡ true = guard_on a (All-head (IsArrayGuard is frame fs u) a atoms h) k.0 in
      rw x (guards_on atoms (All-tail (IsArrayGuard is frame fs u) a atoms h) k.1)

  heads_back : (atoms : List Atom) → All (IsFine fs u) atoms → IsTrue (one_true N F atoms) → IsTrue (one_true M F atoms)
  heads_back [] h t = t
  heads_back (a ∷ atoms) h t =
      (λ i. same a (All-head (IsFine fs u) a atoms h) i || one_true M F atoms)
      ∙ (elim (atom_is_true N F a) as (λ b. IsTrue (b || one_true N F atoms) → IsTrue (b || one_true M F atoms)) [
        | true ↦ λ t. refl
        | false ↦ λ t. heads_back atoms (All-tail (IsFine fs u) a atoms h) t
      ]) t

module _ (frame : Frame) (fs : List Word) (applied : Word → Bool) (i : ℚ) (is : List ℚ) (congruent : AreCongruent frame.facts)
    (arrays : All (IsArray frame (i ∷ is)) fs) (others : (word : Word) → IsTrue (applied word) → is_own fs word ≡ false)
    (lower : Functions) (have : (k : Fact) → Contains frame.facts k → IsTrue (applied k.func) → HasPoint lower k) where
  abbrev F : Functions
  F = with_tables frame.consts lower (step_tables frame.facts fs)

  abbrev table : Word → Table
  table f = step_table f (in_order (fact_points (own_facts f frame.facts)))

  own_table : (f : Word) → IsTrue (is_own fs f) → (xs : List ℚ) → F f xs ≡ with_tables frame.consts lower (table f ∷ []) f xs
  own_table f o xs = own_tables table (λ f. refl) frame.consts lower fs f xs o ∙ sym (one_table frame.consts lower (table f) xs)

  own_value : (f : Word) → IsTrue (is_own fs f) → (x : ℚ) → F f (x ∷ []) ≡ steps (in_order (fact_points (own_facts f frame.facts))) x
  own_value f o x = own_table f o (x ∷ []) ∙ step_table_value frame.consts lower f (in_order (fact_points (own_facts f frame.facts))) x

  own_nearest : (f : Word) → IsTrue (is_own fs f) → (x : ℚ) → F f (x ∷ []) ≡ F f (nearest (i ∷ is) x ∷ [])
  own_nearest f o x =
      let a = own_is (IsArray frame (i ∷ is)) fs arrays f o in
      own_value f o x
      ∙ steps_are_nearest (i ∷ is) (fact_points (own_facts f frame.facts)) a.at_each
      (λ p m. (let k = among_facts (own_facts f frame.facts) p m in subst (Contains (i ∷ is)) k.2 (a.at_no_other k.0 k.1))) x
      ∙ sym (own_value f o (nearest (i ∷ is) x))

  has_own : (k : Fact) → Contains frame.facts k → IsTrue (is_own fs k.func) → HasPoint F k
  has_own k m o =
      let a = own_is (IsArray frame (i ∷ is)) fs arrays k.func o in
      own_table k.func o k.args ∙ step_table_has frame.consts k.func frame.facts congruent a.arguments lower k m (same_bytes k.func)

  has_all : (k : Fact) → Contains frame.facts k → IsTrue (is_own fs k.func || applied k.func) → HasPoint F k
  has_all k m o =
      (elim (is_own fs k.func) as (λ b. is_own fs k.func ≡ b → IsTrue (b || applied k.func) → HasPoint F k) [
        | true ↦ λ t o. has_own k m t
        | false ↦ λ t o. other_tables table (λ f. refl) frame.consts lower fs k.func k.args t ∙ have k m o
      ]) refl o

  holds : (u : Universal) → IsArrayClause (i ∷ is) frame fs u → TuplesAreTrue (i ∷ is) frame (λ word. is_own fs word || applied word) u → HoldsAll frame.size frame.names F u
  holds u h tuples xs s =
      let ys = map (nearest (i ∷ is)) xs in
      let M = assign u.vars xs frame.names in
      let N = assign u.vars ys frame.names in
      let len = sorted_length frame.size u.vars xs s in
      let same = λ (a : Atom) (f : IsFine fs u a).
      fine_atom (i ∷ is) (is_own fs) (is_variable u.vars) M N F
      (λ n t. at_variable (i ∷ is) u.vars xs frame.names n len t)
      (λ n t. at_other u.vars xs ys frame.names n len (map_length (nearest (i ∷ is)) xs ∙ len) t)
      own_nearest a f in
      let keep = λ (a : Atom) (k : KeepsTruth (i ∷ is) frame u a). k F xs s in
      guarded (all_true M F u.guard) (one_true M F u.head) (λ t.
      let on = guards_on (i ∷ is) frame fs u M N F keep same u.guard h.guard t in
      let at_nearest = implied (all_true N F u.guard) (one_true N F u.head) (tuples ys (are_among frame.size i is u.vars xs s) F has_all) on in
      heads_back (i ∷ is) frame fs u M N F keep same u.head h.head at_nearest)

pub arrays_complete : ArraysComplete
arrays_complete frame fs applied i is clauses congruent arrays others shape tuples lower have = (
  λ k d l. holds frame fs applied i is congruent arrays others lower have (slice_index_or clauses k d) (shape k d l) (tuples k d l),
  λ k m j o. has_own frame fs applied i is congruent arrays others lower have k m o,
)
