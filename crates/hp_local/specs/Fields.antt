-- The completion of pointer fields: what stays true where values outside the universe become null.
use Rattle.std.specs.Prelude.{◌≡◌, ℕ, ◌≤◌, List, [], ◌∷◌, map, length, Bool, true, false, ◌&&◌, ◌||◌, not, if◌then◌else◌, IsTrue, pos, ◌⊎◌}
use Rattle.std.specs.List.{list_all, filter, All}
use Rattle.hp_math.specs.Rational.{ℚ, whole, eq_ℚ, lt_ℚ, le_ℚ, is_whole}
use Rattle.hp_tree.specs.Sorted.{is_of_sort}
use Rattle.hp_tree.specs.declared.term.Term.{Term, fold-Term, map-Term, Number}
use Rattle.hp_tree.specs.declared.term.Term.TheOpen.{Term-F}
use Rattle.hp_tree.specs.declared.problem.Atom.{Atom}
use Rattle.hp_tree.specs.declared.problem.Cmp.{Cmp}
use Rattle.hp_tree.specs.declared.problem.Cmp.TheVariants.{Le, Lt, Eq, Ne, Ge, Gt}
use Rattle.hp_tree.specs.declared.problem.Sort.TheVariants.{Ptr}
use Rattle.hp_tree.specs.Universal.{Universal, assign, AreSorted, clause_at}
use Rattle.hp_tree.specs.Value.{Word, Environment, Functions, value_step, all_true, one_true}
use Rattle.hp_model.specs.declared.structure.Table.{Table}
use Rattle.hp_local.specs.Frame.{is_own, is_variable, Fact, AreCongruent, Frame, IsTrueWithPoints}
use Rattle.hp_local.specs.Law.{Group, Completes}
use Rattle.hp_local.specs.Ordered.{first_argument}
use Rattle.hp_local.specs.Rows.{own_facts, point_rows}

-- ---- values
-- a pointer outside the universe becomes null
abbrev pub cut : ℕ → ℚ → ℚ
cut size x = if lt_ℚ x (whole (pos size)) then x else whole (pos 0)

abbrev pub is_null : ℚ → Bool
is_null x = eq_ℚ x (whole (pos 0))

abbrev pub is_pointer : ℚ → Bool
is_pointer x = is_whole x && le_ℚ (whole (pos 0)) x

-- ---- terms
-- the universe, the functions of the group, those of them that give pointers, and the names that are pointers
pub record FieldScope : Type 0 where
  pub size : ℕ
  pub own : Word → Bool
  pub gives : Word → Bool
  pub pointer : Word → Bool

-- what is told of a term: whether it is a pointer, and whether it is one that a field gives; whether it is known not to be
-- null; and whether all is good: each pointer of a field that is an argument in it is known not to be null
pub record Side : Type 0 where
  pub pointer : Bool
  pub given : Bool
  pub live : Bool
  pub good : Bool

-- no pointer of a field, or one that is not null
abbrev pub is_settled : Side → Bool
is_settled a = a.good && (not a.given || a.live)

abbrev pub one_pointer : List Side → Bool
one_pointer [] = false
one_pointer (a ∷ []) = is_settled a && a.pointer
one_pointer (a ∷ b ∷ args) = false

abbrev pub is_plain : Side → Bool
is_plain a = a.good && not a.given

-- a term of which it is told whether it is known not to be null
abbrev pub side_step : FieldScope → Bool → Term-F Side → Side
side_step s live (Term-F.Number n) = record { pointer = false; given = false; live = live; good = true }
side_step s live Term-F.Null = record { pointer = true; given = false; live = live; good = true }
side_step s live (Term-F.Name name) = record { pointer = s.pointer name; given = false; live = live; good = true }
side_step s live (Term-F.Apply func args) =
    record {
      pointer = s.own func && s.gives func;
      given = s.own func && s.gives func;
      live = live;
      good = if s.own func then one_pointer args else list_all is_plain args;
    }
side_step s live (Term-F.Add a b) = record { pointer = false; given = false; live = live; good = is_plain a && is_plain b }
side_step s live (Term-F.Sub a b) = record { pointer = false; given = false; live = live; good = is_plain a && is_plain b }
side_step s live (Term-F.Neg a) = record { pointer = false; given = false; live = live; good = is_plain a }
side_step s live (Term-F.Scale n a) = record { pointer = false; given = false; live = live; good = is_plain a }

-- a term with its value in the tables and its value at the points, known not to be null where it is not null in the tables
pub record Seen : Type 0 where
  pub value : ℚ
  pub partial : ℚ
  pub side : Side

abbrev pub seen_step : FieldScope → Environment → Functions → Functions → Term-F Seen → Seen
seen_step s names F P y =
    let value = value_step names F (map-Term Seen ℚ (λ a. a.value) y) in
    record { value = value; partial = value_step names P (map-Term Seen ℚ (λ a. a.partial) y); side = side_step s (not (is_null value)) (map-Term Seen Side (λ a. a.side) y) }

abbrev pub seen : FieldScope → Environment → Functions → Functions → Term → Seen
seen s names F P = fold-Term Seen (seen_step s names F P)

-- the functions in the tables, over those through the points
pub record AreCut (s : FieldScope) (names : Environment) (F P : Functions) : Type 0 where
  pub some : 1 ≤ s.size
  pub pointers : (f : Word) → IsTrue (s.own f) → IsTrue (s.gives f) → (x : ℚ) → IsTrue (is_of_sort s.size Ptr x) → F f (x ∷ []) ≡ cut s.size (P f (x ∷ []))
  pub whole_pointers : (f : Word) → IsTrue (s.own f) → IsTrue (s.gives f) → (x : ℚ) → IsTrue (is_pointer (P f (x ∷ [])))
  pub numbers : (f : Word) → IsTrue (s.own f) → s.gives f ≡ false → (x : ℚ) → IsTrue (is_of_sort s.size Ptr x) → F f (x ∷ []) ≡ P f (x ∷ [])
  pub others : (f : Word) → s.own f ≡ false → (xs : List ℚ) → F f xs ≡ P f xs
  pub names_in : (name : Word) → IsTrue (s.pointer name) → IsTrue (is_of_sort s.size Ptr (names name))

-- ---- clauses
-- two pointers, or two terms of which no field gives one
abbrev pub are_alike : Side → Side → Bool
are_alike a b = a.good && b.good && ((a.pointer && b.pointer) || (not a.given && not b.given))

-- in a guard the sides of `!=` may be pointers of fields, and every other side is settled
abbrev pub good_guard : Cmp → Side → Side → Bool
good_guard Le a b = is_settled a && is_settled b
good_guard Lt a b = is_settled a && is_settled b
good_guard Eq a b = is_settled a && is_settled b
good_guard Ne a b = are_alike a b
good_guard Ge a b = is_settled a && is_settled b
good_guard Gt a b = is_settled a && is_settled b

-- in a head those of `=`
abbrev pub good_head : Cmp → Side → Side → Bool
good_head Le a b = is_settled a && is_settled b
good_head Lt a b = is_settled a && is_settled b
good_head Eq a b = are_alike a b
good_head Ne a b = is_settled a && is_settled b
good_head Ge a b = is_settled a && is_settled b
good_head Gt a b = is_settled a && is_settled b

abbrev pub guard_is_good : FieldScope → Environment → Functions → Functions → Atom → Bool
guard_is_good s names F P atom = good_guard atom.cmp (seen s names F P atom.left).side (seen s names F P atom.right).side

abbrev pub head_is_good : FieldScope → Environment → Functions → Functions → Atom → Bool
head_is_good s names F P atom = good_head atom.cmp (seen s names F P atom.left).side (seen s names F P atom.right).side

-- a clause with good sides that is true at the points is true in the tables
abbrev pub FieldsStayTrue : Type 0
FieldsStayTrue = (s : FieldScope) (names : Environment) (F P : Functions) → AreCut s names F P → (guard head : List Atom)
    → IsTrue (list_all (guard_is_good s names F P) guard) → IsTrue (list_all (head_is_good s names F P) head)
    → IsTrue (not (all_true names P guard) || one_true names P head) → IsTrue (not (all_true names F guard) || one_true names F head)

-- ---- the group
-- the points whose argument is in the universe, a pointer outside it being null
abbrev pub cut_if : ℕ → Bool → ℚ → ℚ
cut_if size gives x = if gives then cut size x else x

abbrev pub field_facts : ℕ → Bool → List Fact → List Fact
field_facts size gives facts =
    map (λ k. record { func = k.func; args = k.args; value = cut_if size gives k.value })
    (filter (λ k. lt_ℚ (first_argument k.args) (whole (pos size))) facts)

abbrev pub field_table : ℕ → (Word → Bool) → List Fact → Word → Table
field_table size gives facts func = record { func = func; args = 1; rows = point_rows (field_facts size (gives func) (own_facts func facts)); otherwise = Number (whole (pos 0)) }

abbrev pub field_group : Frame → (Word → Bool) → List Word → List Universal → Group
field_group frame gives funcs clauses = record { own = is_own funcs; clauses = clauses; tables = map (field_table frame.size gives frame.facts) funcs }

-- a point of a field: one argument, a whole number from 0, and such a value where it gives pointers
pub record IsFieldFact (gives : Bool) (k : Fact) : Type 0 where
  pub arguments : length k.args ≡ 1
  pub argument : IsTrue (is_pointer (first_argument k.args))
  pub result : gives ≡ true → IsTrue (is_pointer k.value)

-- and both in the universe where the frame says so
pub record IsFieldPoint (frame : Frame) (gives : Bool) (k : Fact) : Type 0 where
  pub fact : IsFieldFact gives k
  pub inside_argument : IsTrue (frame.inside k) → IsTrue (lt_ℚ (first_argument k.args) (whole (pos frame.size)))
  pub inside_value : gives ≡ true → IsTrue (frame.inside k) → IsTrue (lt_ℚ k.value (whole (pos frame.size)))

-- ---- the completion
abbrev pub field_scope : Frame → (Word → Bool) → (Word → Bool) → List Word → Universal → FieldScope
field_scope frame gives constant funcs u = record { size = frame.size; own = is_own funcs; gives = gives; pointer = λ word. is_variable u.vars word || constant word }

-- the clause is true in the tables, or all its sides are good
abbrev pub IsNullGuarded : Frame → (Word → Bool) → (Word → Bool) → List Word → Universal → Type 0
IsNullGuarded frame gives constant funcs u =
    (F P : Functions) (xs : List ℚ) → AreSorted frame.size u.vars xs → AreCut (field_scope frame gives constant funcs u) (assign u.vars xs frame.names) F P
    → IsTrue (clause_at frame.names F u xs)
    ⊎ (IsTrue (list_all (guard_is_good (field_scope frame gives constant funcs u) (assign u.vars xs frame.names) F P) u.guard)
    × IsTrue (list_all (head_is_good (field_scope frame gives constant funcs u) (assign u.vars xs frame.names) F P) u.head))

pub record IsFieldClause (frame : Frame) (gives constant : Word → Bool) (funcs : List Word) (u : Universal) : Type 0 where
  pub vars : All (λ v. v.sort ≡ Ptr) u.vars
  pub guarded : IsNullGuarded frame gives constant funcs u

-- the clause is true at all pointers of the universe
abbrev pub PointersAreTrue : Frame → (Word → Bool) → Universal → Type 0
PointersAreTrue frame test u = (xs : List ℚ) → AreSorted frame.size u.vars xs → IsTrueWithPoints frame test u xs

abbrev pub FieldsComplete : Type 0
FieldsComplete = (frame : Frame) (gives constant applied : Word → Bool) (funcs : List Word) (clauses : List Universal) → 1 ≤ frame.size → AreCongruent frame.facts
    → ((func : Word) → IsTrue (is_own funcs func) → All (IsFieldPoint frame (gives func)) (own_facts func frame.facts))
    → ((word : Word) → IsTrue (applied word) → is_own funcs word ≡ false)
    → ((word : Word) → IsTrue (constant word) → IsTrue (is_of_sort frame.size Ptr (frame.names word)))
    → All (IsFieldClause frame gives constant funcs) clauses → All (PointersAreTrue frame (λ word. is_own funcs word || applied word)) clauses
    → Completes frame applied (field_group frame gives funcs clauses)
