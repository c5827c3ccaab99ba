-- Null guards, by the shape of a clause: where they make it false, the terms that they name are not null.
use Rattle.std.specs.Prelude.{◌≡◌, List, Bool, true, ◌&&◌, IsTrue}
use Rattle.std.specs.List.{list_all, Contains}
use Rattle.hp_tree.specs.declared.term.Term.{Term, fold-Term, map-Term, roll-Term, Null}
use Rattle.hp_tree.specs.declared.term.Term.TheOpen.{Term-F}
use Rattle.hp_tree.specs.declared.problem.Atom.{Atom}
use Rattle.hp_tree.specs.declared.problem.Cmp.TheVariants.{Eq, Ne}
use Rattle.hp_tree.specs.Universal.{Universal}
use Rattle.hp_tree.specs.Value.{Word}
use Rattle.hp_local.specs.Fields.{FieldScope, Side, side_step, good_guard, good_head, field_scope, IsNullGuarded}
use Rattle.hp_local.specs.Frame.{Frame}

-- `t != null` or `null != t` in the guard, or `t = null` or `null = t` in the head
pub data HasNullGuard (u : Universal) (t : Term) : Type 0 where
  InGuard : Contains u.guard (record { left = t; cmp = Ne; right = Null }) → HasNullGuard u t
  InGuardTurned : Contains u.guard (record { left = Null; cmp = Ne; right = t }) → HasNullGuard u t
  InHead : Contains u.head (record { left = t; cmp = Eq; right = Null }) → HasNullGuard u t
  InHeadTurned : Contains u.head (record { left = Null; cmp = Eq; right = t }) → HasNullGuard u t

-- a term with what is told of it where the terms that pass the test are known not to be null
pub record Marked : Type 0 where
  pub term : Term
  pub side : Side

abbrev pub marked_step : FieldScope → (Term → Bool) → Term-F Marked → Marked
marked_step s guarded y =
    let term = roll-Term (map-Term Marked Term (λ a. a.term) y) in
    record { term = term; side = side_step s (guarded term) (map-Term Marked Side (λ a. a.side) y) }

abbrev pub marked : FieldScope → (Term → Bool) → Term → Marked
marked s guarded = fold-Term Marked (marked_step s guarded)

abbrev pub sides_are_good : FieldScope → (Term → Bool) → Universal → Bool
sides_are_good s guarded u =
    list_all (λ (atom : Atom). good_guard atom.cmp (marked s guarded atom.left).side (marked s guarded atom.right).side) u.guard
    && list_all (λ (atom : Atom). good_head atom.cmp (marked s guarded atom.left).side (marked s guarded atom.right).side) u.head

-- a clause whose sides are good, where terms with a null guard are known not to be null
abbrev pub NullGuardsSuffice : Type 0
NullGuardsSuffice = (frame : Frame) (gives constant : Word → Bool) (funcs : List Word) (u : Universal) (guarded : Term → Bool)
    → ((t : Term) → guarded t ≡ true → HasNullGuard u t) → IsTrue (sides_are_good (field_scope frame gives constant funcs u) guarded u)
    → IsNullGuarded frame gives constant funcs u
