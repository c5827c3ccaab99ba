-- Null guards keep the terms that they name from being null where the clause is false in the tables.
use Rattle.std.proofs.Common.{◌≡◌, ◌⊎◌, inl, inr, List, [], ◌∷◌, map, Bool, true, false, ◌&&◌, ◌||◌, not, IsTrue, refl, ap, ◌∙◌, sym, subst, cond, pos}
use Rattle.std.specs.List.{list_all, Contains}
use Rattle.hp_math.specs.Rational.{ℚ, whole, eq_ℚ}
use Rattle.hp_tree.specs.declared.term.Term.{Term, fold-roll-Term, ind-Term, roll-Term, map-Term, Null}
use Rattle.hp_tree.specs.declared.term.Term.TheOpen.{Term-F}
use Rattle.hp_tree.specs.declared.term.Term.TheVariants.{rolls-Null}
use Rattle.hp_tree.specs.declared.problem.Atom.{Atom}
use Rattle.hp_tree.specs.declared.problem.Cmp.{Cmp}
use Rattle.hp_tree.specs.declared.problem.Cmp.TheVariants.{Le, Lt, Eq, Ne, Ge, Gt}
use Rattle.hp_tree.specs.Universal.{Universal, assign}
use Rattle.hp_tree.specs.Value.{Environment, Functions, value, value_step, atom_is_true, all_true, one_true}
use Rattle.hp_tree.proofs.Compares.{eq_ℚ-true, eq_ℚ-from, not_true}
use Rattle.hp_local.specs.Fields.{is_null, AreCut, FieldScope, Side, is_settled, one_pointer, is_plain, Seen, seen_step, seen, are_alike, good_guard, good_head, guard_is_good, head_is_good, field_scope}
use Rattle.hp_local.specs.NullGuards.{HasNullGuard, InGuard, InGuardTurned, InHead, InHeadTurned, Marked, marked_step, marked, NullGuardsSuffice}
use Rattle.hp_local.proofs.Fields.{value_seen}
use Rattle.hp_local.proofs.Folds.{folds_keep}
use Rattle.hp_local.proofs.Tests.{both, and_true, neither}
use Rattle.hp_local.proofs.Lists.{contains_cases, contains_none}

-- ---- less is told of the one than of the other
record Covers (a b : Side) : Type 0 where
  pointer : a.pointer ≡ b.pointer
  given : a.given ≡ b.given
  live : a.live ≡ true → b.live ≡ true
  good : a.good ≡ true → b.good ≡ true

settled_on : (a b : Side) → Covers a b → IsTrue (is_settled a) → IsTrue (is_settled b)
settled_on a b c h =
    let k = both _ _ h in
    and_true b.good (not b.given || b.live) (c.good k.0)
    ((elim a.given as (λ g. g ≡ b.given → IsTrue (not g || a.live) → IsTrue (not b.given || b.live)) [
      | true ↦ λ e t. ap (λ g. not g || b.live) (sym e) ∙ c.live t
      | false ↦ λ e t. ap (λ g. not g || b.live) (sym e)
    ]) c.given k.1)

plain_on : (a b : Side) → Covers a b → IsTrue (is_plain a) → IsTrue (is_plain b)
plain_on a b c h = let k = both _ _ h in and_true b.good (not b.given) (c.good k.0) (ap not (sym c.given) ∙ k.1)

alike_on : (a b x y : Side) → Covers a x → Covers b y → IsTrue (are_alike a b) → IsTrue (are_alike x y)
alike_on a b x y c d h =
    let k = both _ _ h in
    let j = both _ _ k.0 in
    and_true (x.good && y.good) ((x.pointer && y.pointer) || (not x.given && not y.given))
    (and_true x.good y.good (c.good j.0) (d.good j.1))
    ((λ i. (sym c.pointer i && sym d.pointer i) || (not (sym c.given i) && not (sym d.given i))) ∙ k.1)

both_settled : (a b x y : Side) → Covers a x → Covers b y → IsTrue (is_settled a && is_settled b) → IsTrue (is_settled x && is_settled y)
both_settled a b x y c d h = let k = both _ _ h in and_true (is_settled x) (is_settled y) (settled_on a x c k.0) (settled_on b y d k.1)

guard_on : (cmp : Cmp) (a b x y : Side) → Covers a x → Covers b y → IsTrue (good_guard cmp a b) → IsTrue (good_guard cmp x y)
guard_on Le a b x y c d h = both_settled a b x y c d h
guard_on Lt a b x y c d h = both_settled a b x y c d h
guard_on Eq a b x y c d h = both_settled a b x y c d h
guard_on Ne a b x y c d h = alike_on a b x y c d h
guard_on Ge a b x y c d h = both_settled a b x y c d h
guard_on Gt a b x y c d h = both_settled a b x y c d h

head_on : (cmp : Cmp) (a b x y : Side) → Covers a x → Covers b y → IsTrue (good_head cmp a b) → IsTrue (good_head cmp x y)
head_on Le a b x y c d h = both_settled a b x y c d h
head_on Lt a b x y c d h = both_settled a b x y c d h
head_on Eq a b x y c d h = alike_on a b x y c d h
head_on Ne a b x y c d h = both_settled a b x y c d h
head_on Ge a b x y c d h = both_settled a b x y c d h
head_on Gt a b x y c d h = both_settled a b x y c d h

-- ---- the terms of a clause
module _ (s : FieldScope) (names : Environment) (F P : Functions) (c : AreCut s names F P) (guarded : Term → Bool) (not_null : (t : Term) → guarded t ≡ true → is_null (value names F t) ≡ false) where
  abbrev mark : Term → Marked
  mark = marked s guarded

  abbrev see : Term → Seen
  see = seen s names F P

  same_terms : (ts : List ((t : Term) × ((mark t).term ≡ t))) → map (λ a. a.term) (map mark (map (λ e. e.0) ts)) ≡ map (λ e. e.0) ts
  same_terms [] = refl
  same_terms (t ∷ ts) = λ i. t.1 i ∷ same_terms ts i

  term_layer : (y : Term-F ((t : Term) × ((mark t).term ≡ t))) → let z = roll-Term (map-Term ((t : Term) × ((mark t).term ≡ t)) Term (λ e. e.0) y) in (mark z).term ≡ z
  term_layer (Term-F.Number n) = simp fold-roll-Term
  term_layer Term-F.Null = simp fold-roll-Term
  term_layer (Term-F.Name n) = simp fold-roll-Term
  term_layer (Term-F.Apply func args) = simp fold-roll-Term (λ i. roll-Term (Term-F.Apply func (same_terms args i)))
  term_layer (Term-F.Add a b) = simp fold-roll-Term (λ i. roll-Term (Term-F.Add (a.1 i) (b.1 i)))
  term_layer (Term-F.Sub a b) = simp fold-roll-Term (λ i. roll-Term (Term-F.Sub (a.1 i) (b.1 i)))
  term_layer (Term-F.Neg a) = simp fold-roll-Term (λ i. roll-Term (Term-F.Neg (a.1 i)))
  term_layer (Term-F.Scale n a) = simp fold-roll-Term (λ i. roll-Term (Term-F.Scale n (a.1 i)))

  mark_term : (t : Term) → (mark t).term ≡ t
  mark_term t = ind-Term (λ t. (mark t).term ≡ t) (λ x y is. subst (λ z. (mark (roll-Term z)).term ≡ roll-Term z) is (term_layer y)) t

  mark_live : (t : Term) → (mark t).side.live ≡ guarded (mark t).term
  mark_live t = folds_keep Marked (marked_step s guarded) (λ a. a.side.live ≡ guarded a.term) each t
    where
      each : (y : Term-F ((a : Marked) × (a.side.live ≡ guarded a.term))) → let z = marked_step s guarded (map-Term ((a : Marked) × (a.side.live ≡ guarded a.term)) Marked (λ e. e.0) y) in z.side.live ≡ guarded z.term
      each (Term-F.Number n) = refl
      each Term-F.Null = refl
      each (Term-F.Name n) = refl
      each (Term-F.Apply func args) = refl
      each (Term-F.Add a b) = refl
      each (Term-F.Sub a b) = refl
      each (Term-F.Neg a) = refl
      each (Term-F.Scale n a) = refl

  see_live : (t : Term) → (see t).side.live ≡ not (is_null (see t).value)
  see_live t = folds_keep Seen (seen_step s names F P) (λ a. a.side.live ≡ not (is_null a.value)) each t
    where
      each : (y : Term-F ((a : Seen) × (a.side.live ≡ not (is_null a.value)))) → let z = seen_step s names F P (map-Term ((a : Seen) × (a.side.live ≡ not (is_null a.value))) Seen (λ e. e.0) y) in z.side.live ≡ not (is_null z.value)
      each (Term-F.Number n) = refl
      each Term-F.Null = refl
      each (Term-F.Name n) = refl
      each (Term-F.Apply func args) = refl
      each (Term-F.Add a b) = refl
      each (Term-F.Sub a b) = refl
      each (Term-F.Neg a) = refl
      each (Term-F.Scale n a) = refl

  live_on : (t : Term) → (mark t).side.live ≡ true → (see t).side.live ≡ true
  live_on t h = see_live t ∙ ap (λ x. not (is_null x)) (value_seen s names F P c t) ∙ ap not (not_null t (ap guarded (sym (mark_term t)) ∙ sym (mark_live t) ∙ h))

  -- but for what is known not to be null
  record Told (a b : Side) : Type 0 where
    pointer : a.pointer ≡ b.pointer
    given : a.given ≡ b.given
    good : a.good ≡ true → b.good ≡ true

  abbrev Tells : Term → Type 0
  Tells t = Told (mark t).side (see t).side

  covers : (t : Term) → Tells t → Covers (mark t).side (see t).side
  covers t h = record { pointer = h.pointer; given = h.given; live = live_on t; good = h.good }

  plains_on : (ts : List ((t : Term) × Tells t)) → IsTrue (list_all is_plain (map (λ a. a.side) (map mark (map (λ e. e.0) ts)))) → IsTrue (list_all is_plain (map (λ a. a.side) (map see (map (λ e. e.0) ts))))
  plains_on [] h = refl
  plains_on (t ∷ ts) h = let k = both _ _ h in and_true _ _ (plain_on _ _ (covers t.0 t.1) k.0) (plains_on ts k.1)

  one_on : (ts : List ((t : Term) × Tells t)) → IsTrue (one_pointer (map (λ a. a.side) (map mark (map (λ e. e.0) ts)))) → IsTrue (one_pointer (map (λ a. a.side) (map see (map (λ e. e.0) ts))))
  one_on [] h = cc
  one_on (t ∷ []) h = let k = both _ _ h in and_true _ _ (settled_on _ _ (covers t.0 t.1) k.0) (sym t.1.pointer ∙ k.1)
  one_on (t ∷ u ∷ ts) h = cc

  tells_layer : (y : Term-F ((t : Term) × Tells t)) → Tells (roll-Term (map-Term ((t : Term) × Tells t) Term (λ e. e.0) y))
  tells_layer (Term-F.Number n) = simp fold-roll-Term (record { pointer = refl; given = refl; good = λ h. refl })
  tells_layer Term-F.Null = simp fold-roll-Term (record { pointer = refl; given = refl; good = λ h. refl })
  tells_layer (Term-F.Name n) = simp fold-roll-Term (record { pointer = refl; given = refl; good = λ h. refl })
  tells_layer (Term-F.Apply func args) = simp fold-roll-Term (record {
    pointer = refl;
    given = refl;
    good = elim (s.own func) as (λ b. IsTrue (cond b (one_pointer (map (λ a. a.side) (map mark (map (λ e. e.0) args)))) (list_all is_plain (map (λ a. a.side) (map mark (map (λ e. e.0) args)))))
        → IsTrue (cond b (one_pointer (map (λ a. a.side) (map see (map (λ e. e.0) args)))) (list_all is_plain (map (λ a. a.side) (map see (map (λ e. e.0) args)))))) [ true ↦ one_on args | false ↦ plains_on args ];
  })
  tells_layer (Term-F.Add a b) = simp fold-roll-Term (record { pointer = refl; given = refl; good = λ h. (let k = both _ _ h in and_true _ _ (plain_on _ _ (covers a.0 a.1) k.0) (plain_on _ _ (covers b.0 b.1) k.1)) })
  tells_layer (Term-F.Sub a b) = simp fold-roll-Term (record { pointer = refl; given = refl; good = λ h. (let k = both _ _ h in and_true _ _ (plain_on _ _ (covers a.0 a.1) k.0) (plain_on _ _ (covers b.0 b.1) k.1)) })
  tells_layer (Term-F.Neg a) = simp fold-roll-Term (record { pointer = refl; given = refl; good = plain_on _ _ (covers a.0 a.1) })
  tells_layer (Term-F.Scale n a) = simp fold-roll-Term (record { pointer = refl; given = refl; good = plain_on _ _ (covers a.0 a.1) })

  covered : (t : Term) → Covers (mark t).side (see t).side
  covered t = covers t (ind-Term Tells (λ x y is. subst (λ z. Tells (roll-Term z)) is (tells_layer y)) t)

  pub guards_good : (atoms : List Atom) → IsTrue (list_all (λ (a : Atom). good_guard a.cmp (mark a.left).side (mark a.right).side) atoms) → IsTrue (list_all (guard_is_good s names F P) atoms)
  guards_good [] h = refl
  guards_good (a ∷ atoms) h = let k = both _ _ h in and_true _ _ (guard_on a.cmp _ _ _ _ (covered a.left) (covered a.right) k.0) (guards_good atoms k.1)

  pub heads_good : (atoms : List Atom) → IsTrue (list_all (λ (a : Atom). good_head a.cmp (mark a.left).side (mark a.right).side) atoms) → IsTrue (list_all (head_is_good s names F P) atoms)
  heads_good [] h = refl
  heads_good (a ∷ atoms) h = let k = both _ _ h in and_true _ _ (head_on a.cmp _ _ _ _ (covered a.left) (covered a.right) k.0) (heads_good atoms k.1)

-- ---- what null guards say
all_contains : (N : Environment) (F : Functions) (atoms : List Atom) (a : Atom) → all_true N F atoms ≡ true → Contains atoms a → atom_is_true N F a ≡ true
all_contains N F [] a h m = absurd (contains_none a m)
all_contains N F (b ∷ atoms) a h m =
    let k = both _ _ h in
    elim (contains_cases b atoms a m) [ inl e ↦ sym (ap (atom_is_true N F) e) ∙ k.0 | inr n ↦ all_contains N F atoms a k.1 n ]

none_contains : (N : Environment) (F : Functions) (atoms : List Atom) (a : Atom) → one_true N F atoms ≡ false → Contains atoms a → atom_is_true N F a ≡ false
none_contains N F [] a h m = absurd (contains_none a m)
none_contains N F (b ∷ atoms) a h m =
    let k = neither _ _ h in
    elim (contains_cases b atoms a m) [ inl e ↦ sym (ap (atom_is_true N F) e) ∙ k.0 | inr n ↦ none_contains N F atoms a k.1 n ]

null_value : (N : Environment) (F : Functions) → value N F Null ≡ whole (pos 0)
null_value N F = ap (value N F) (sym rolls-Null) ∙ fold-roll-Term ℚ (value_step N F) Term-F.Null

eq_turned : (a b : ℚ) → eq_ℚ a b ≡ false → eq_ℚ b a ≡ false
eq_turned a b h = (elim (eq_ℚ b a) as (λ t. eq_ℚ b a ≡ t → t ≡ false) [
  | true ↦ λ t. (let y : eq_ℚ a b ≡ true = eq_ℚ-from a b (sym (eq_ℚ-true b a t)) in cc)
  | false ↦ λ t. refl
]) refl

guard_says : (N : Environment) (F : Functions) (u : Universal) (t : Term) → all_true N F u.guard ≡ true → one_true N F u.head ≡ false → HasNullGuard u t → is_null (value N F t) ≡ false
guard_says N F u t on off (InGuard m) = ap (λ z. eq_ℚ (value N F t) z) (sym (null_value N F)) ∙ not_true _ (all_contains N F u.guard (record { left = t; cmp = Ne; right = Null }) on m)
guard_says N F u t on off (InGuardTurned m) =
    eq_turned (whole (pos 0)) (value N F t) (ap (λ z. eq_ℚ z (value N F t)) (sym (null_value N F)) ∙ not_true _ (all_contains N F u.guard (record { left = Null; cmp = Ne; right = t }) on m))
guard_says N F u t on off (InHead m) = ap (λ z. eq_ℚ (value N F t) z) (sym (null_value N F)) ∙ none_contains N F u.head (record { left = t; cmp = Eq; right = Null }) off m
guard_says N F u t on off (InHeadTurned m) =
    eq_turned (whole (pos 0)) (value N F t) (ap (λ z. eq_ℚ z (value N F t)) (sym (null_value N F)) ∙ none_contains N F u.head (record { left = Null; cmp = Eq; right = t }) off m)

pub null_guards_suffice : NullGuardsSuffice
null_guards_suffice frame gives constant funcs u guarded has good F P xs sorted cut =
    let s = field_scope frame gives constant funcs u in
    let N = assign u.vars xs frame.names in
    let k = both _ _ good in
    (elim (all_true N F u.guard) as (λ a. all_true N F u.guard ≡ a → IsTrue (not a || one_true N F u.head)
    ⊎ (IsTrue (list_all (guard_is_good s N F P) u.guard) × IsTrue (list_all (head_is_good s N F P) u.head))) [
      | false ↦ λ e. inl refl
      | true ↦ λ on. (elim (one_true N F u.head) as (λ b. one_true N F u.head ≡ b → IsTrue b
          ⊎ (IsTrue (list_all (guard_is_good s N F P) u.guard) × IsTrue (list_all (head_is_good s N F P) u.head))) [
            | true ↦ λ e. inl refl
            | false ↦ λ off. (
                let not_null = λ (t : Term) (g : guarded t ≡ true). guard_says N F u t on off (has t g) in
                inr (guards_good s N F P cut guarded not_null u.guard k.0, heads_good s N F P cut guarded not_null u.head k.1))
          ]) refl
    ]) refl
