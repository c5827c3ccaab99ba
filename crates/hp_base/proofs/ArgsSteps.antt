-- Computations that added to a ground set and gave a value: their steps, and that what was there stays in front.
use Rattle.std.proofs.Common.{◌≡◌, ℕ, length, Bool, true, false, cond, nat_lt, Result, Ok, Err, ap, subst}
use Rattle.hp_tree.specs.Limits.{most_lines}
use Rattle.hp_tree.specs.declared.limit.Limit.{Limit}
use Rattle.hp_lit.specs.declared.line.Line.{Line}
use Rattle.hp_lit.specs.declared.refusal.Refusal.TheVariants.{Wide, Memory}
use Rattle.hp_lit.specs.Limited.{many_lines}
use Rattle.hp_lit.specs.Truth.{Values}
use Rattle.hp_lit.specs.Words.{Agrees}
use Rattle.hp_lit.proofs.Words.{agrees_front}
use Rattle.hp_linear.specs.Steps.{Refusable}
use Rattle.hp_tree.specs.Value.{Environment}
use Rattle.hp_defs.specs.declared.names.Ground.{Ground}
use Rattle.hp_defs.specs.Names.{words}
use Rattle.hp_defs.proofs.Growing.{names_begin}
use Rattle.hp_base.specs.Making.{Begins, computed}
use Rattle.hp_base.specs.Lines.{add_line, with_line}
use Rattle.hp_base.proofs.Making.{begins_names}

-- ---- what was there
-- what agrees with more names agrees with those in front
pub agrees_before : (old new : Ground) (v : Values) (env : Environment) → Begins old new → Agrees (words new.names) v env → Agrees (words old.names) v env
agrees_before old new v env b agrees =
    let front = (names_begin old.names new.names (begins_names old new b)).words in
    agrees_front (words old.names) front.more v env (subst (λ ws. Agrees ws v env) front.all agrees)

-- ---- steps
-- a step that adds nothing
pub record Gave {A : Type 0} (x y : A) (old new : Ground) : Type 0 where
  pub value : x ≡ y
  pub ground : old ≡ new

pub gave : {A : Type 0} (x y : A) (old new : Ground) → ◌≡◌ {A = Result (A × Ground) Limit} (Ok (x, old)) (Ok (y, new)) → Gave x y old new
gave {A} x y old new e = record {
  value = ap (λ (o : Result (A × Ground) Limit). elim o [ Ok z ↦ z.0 | Err l ↦ x ]) e;
  ground = ap (λ (o : Result (A × Ground) Limit). elim o [ Ok z ↦ z.1 | Err l ↦ old ]) e;
}

-- a value that was not refused
pub record Computed {A : Type 0} (r : Refusable A) (x : A) (old new : Ground) : Type 0 where
  pub value : r ≡ Ok x
  pub ground : old ≡ new

pub computed_gave : {A : Type 0} (item : ℕ) (r : Refusable A) (x : A) (old new : Ground) → computed item r old ≡ Ok (x, new) → Computed r x old new
computed_gave item (Ok y) x old new e = let g = gave y x old new e in record { value = ap Ok g.value; ground = g.ground }
computed_gave item (Err Wide) x old new e = absurd (cc)
computed_gave item (Err Memory) x old new e = absurd (cc)

-- a line that was added
pub line_added : (line : Line) (done : Unit {0}) (old new : Ground) → add_line line old ≡ Ok (done, new) → with_line old line ≡ new
line_added line done old new e =
    (elim (nat_lt (length old.lines) most_lines) as (λ (t : Bool). ◌≡◌ {A = Result (Unit {0} × Ground) Limit} (cond t (Ok (tt, with_line old line)) (Err many_lines)) (Ok (done, new)) → with_line old line ≡ new) [
      | true ↦ λ e. (gave tt done (with_line old line) new e).ground
      | false ↦ λ e. absurd (cc)
    ]) e
