-- The case distinction of fields: where no null guard makes the clause true, an inner pointer application has its value, and only outermost ones changed.
use Rattle.std.proofs.Common.{ℕ, ◌≡◌, ◌≤◌, List, [], ◌∷◌, map, Bool, true, false, ◌&&◌, ◌||◌, not, IsTrue, refl, ap, ◌∙◌, sym, subst, cond, pos}
use Rattle.std.specs.List.{list_all}
use Rattle.hp_math.specs.Rational.{ℚ, whole, eq_ℚ, lt_ℚ, le_ℚ, is_whole, ◌+ℚ◌, ◌-ℚ◌, ◌*ℚ◌, neg_ℚ}
use Rattle.hp_tree.specs.Sorted.{is_of_sort}
use Rattle.hp_tree.specs.declared.term.Term.{Term, map-Term}
use Rattle.hp_tree.specs.declared.term.Term.TheOpen.{Term-F}
use Rattle.hp_tree.specs.declared.problem.Atom.{Atom}
use Rattle.hp_tree.specs.declared.problem.Cmp.{Cmp}
use Rattle.hp_tree.specs.declared.problem.Cmp.TheVariants.{Le, Lt, Eq, Ne, Ge, Gt}
use Rattle.hp_tree.specs.declared.problem.Sort.TheVariants.{Ptr}
use Rattle.hp_tree.specs.Value.{Word, Environment, Functions, value, value_step, compares, atom_is_true, all_true, one_true}
use Rattle.hp_tree.proofs.Compares.{eq_ℚ-true, eq_ℚ-from, not_true}
use Rattle.hp_local.specs.Fields.{cut, is_null, FieldScope, Seen, is_settled, one_pointer, is_plain, seen_step, seen, AreCut, are_alike, good_guard, good_head, guard_is_good, head_is_good, FieldsStayTrue}
use Rattle.hp_local.proofs.Tests.{both}
use Rattle.hp_local.proofs.Folds.{folds_fuse, folds_keep}
use Rattle.hp_local.proofs.Sorts.{zero_fits}

pub cut_in : (size : ℕ) (x : ℚ) → 1 ≤ size → IsTrue (is_whole x && le_ℚ (whole (pos 0)) x) → IsTrue (is_of_sort size Ptr (cut size x))
cut_in size x h k =
    (elim (lt_ℚ x (whole (pos size))) as (λ b. lt_ℚ x (whole (pos size)) ≡ b → IsTrue (is_of_sort size Ptr (cond b x (whole (pos 0))))) [
      | true ↦ λ t. (let j = both _ _ k in let w : is_whole x ≡ true = j.0 in let l : le_ℚ (whole (pos 0)) x ≡ true = j.1 in rw (w, l, t) refl)
      | false ↦ λ t. zero_fits size Ptr h
    ]) refl

-- what is in the universe is not cut
pub in_kept : (size : ℕ) (x : ℚ) → IsTrue (is_of_sort size Ptr x) → cut size x ≡ x
in_kept size x h = let k = both (is_whole x && le_ℚ (whole (pos 0)) x) (lt_ℚ x (whole (pos size))) h in let t : lt_ℚ x (whole (pos size)) ≡ true = k.1 in rw t refl

-- what is cut to a value that is not null is not cut
cut_kept : (size : ℕ) (x : ℚ) → is_null (cut size x) ≡ false → cut size x ≡ x
cut_kept size x h =
    (elim (lt_ℚ x (whole (pos size))) as (λ b. is_null (cond b x (whole (pos 0))) ≡ false → cond b x (whole (pos 0)) ≡ x) [
      | true ↦ λ n. refl
      | false ↦ λ n. (let y : is_null (whole (pos 0)) ≡ true = eq_ℚ-from (whole (pos 0)) (whole (pos 0)) refl in cc)
    ]) h

abbrev told : ℚ → ℚ → Bool → Bool → Bool → Seen
told x y pointer given good = record { value = x; partial = y; side = record { pointer = pointer; given = given; live = not (is_null x); good = good } }

pub record Claim (size : ℕ) (a : Seen) : Type 0 where
  pub cut_value : a.side.given ≡ true → a.value ≡ cut size a.partial
  pub same_value : a.side.given ≡ false → a.value ≡ a.partial
  pub inside : a.side.pointer ≡ true → IsTrue (is_of_sort size Ptr a.value)
  pub live : a.side.live ≡ true → is_null a.value ≡ false

abbrev pub Claims : ℕ → Seen → Type 0
Claims size a = IsTrue a.side.good → Claim size a

settled_value : (size : ℕ) (a : Seen) → Claims size a → IsTrue (is_settled a.side) → a.value ≡ a.partial
settled_value size a c h =
    let k = both _ _ h in
    (elim a.side.given as (λ b. a.side.given ≡ b → IsTrue (not b || a.side.live) → a.value ≡ a.partial) [
      | true ↦ λ m n. (
          let e = (c k.0).cut_value m in
          let z : is_null (cut size a.partial) ≡ false = ap is_null (sym e) ∙ (c k.0).live n in
          e ∙ cut_kept size a.partial z)
      | false ↦ λ m n. (c k.0).same_value m
    ]) refl k.1

plain_value : (size : ℕ) (a : Seen) → Claims size a → IsTrue (is_plain a.side) → a.value ≡ a.partial
plain_value size a c h = let k = both _ _ h in (c k.0).same_value (not_true _ k.1)

pointer_value : (size : ℕ) (a : Seen) → Claims size a → IsTrue a.side.good → IsTrue a.side.pointer → a.value ≡ cut size a.partial
pointer_value size a c g p =
    (elim a.side.given as (λ b. a.side.given ≡ b → a.value ≡ cut size a.partial) [
      | true ↦ λ m. (c g).cut_value m
      | false ↦ λ m. (let e = (c g).same_value m in e ∙ sym (in_kept size a.partial (subst (λ z. IsTrue (is_of_sort size Ptr z)) e ((c g).inside p))))
    ]) refl

module _ (s : FieldScope) (names : Environment) (F P : Functions) (c : AreCut s names F P) where
  plain_all : (args : List ((a : Seen) × Claims s.size a)) → IsTrue (list_all is_plain (map (λ a. a.side) (map (λ e. e.0) args))) → map (λ a. a.value) (map (λ e. e.0) args) ≡ map (λ a. a.partial) (map (λ e. e.0) args)
  plain_all [] h = refl
  plain_all (a ∷ args) h = let k = both _ _ h in λ i. plain_value s.size a.0 a.1 k.0 i ∷ plain_all args k.1 i

  number : (x y : ℚ) (g : Bool) → x ≡ y → Claims s.size (told x y false false g)
  number x y g e h = record { cut_value = λ m. cc; same_value = λ m. e; inside = λ m. cc; live = not_true _ }

  -- an application of a field
  field : (f : Word) → IsTrue (s.own f) → (args : List ((a : Seen) × Claims s.size a)) → IsTrue (one_pointer (map (λ a. a.side) (map (λ e. e.0) args)))
      → (gives : Bool) → s.gives f ≡ gives
      → Claim s.size (told (F f (map (λ a. a.value) (map (λ e. e.0) args))) (P f (map (λ a. a.partial) (map (λ e. e.0) args))) gives gives true)
  field f o [] h gives t = cc
  field f o (a ∷ b ∷ args) h gives t = cc
  field f o (a ∷ []) h true t =
      let k = both _ _ h in
      let e = settled_value s.size a.0 a.1 k.0 in
      let i = (a.1 (both _ _ k.0).0).inside k.1 in
      let v = c.pointers f o t a.0.value i ∙ ap (λ z. cut s.size (P f (z ∷ []))) e in
      record {
        cut_value = λ m. v;
        same_value = λ m. cc;
        inside = λ m. subst (λ z. IsTrue (is_of_sort s.size Ptr z)) (sym v) (cut_in s.size (P f (a.0.partial ∷ [])) c.some (c.whole_pointers f o t a.0.partial));
        live = not_true _;
      }
  field f o (a ∷ []) h false t =
      let k = both _ _ h in
      let e = settled_value s.size a.0 a.1 k.0 in
      let i = (a.1 (both _ _ k.0).0).inside k.1 in
      record { cut_value = λ m. cc; same_value = λ m. c.numbers f o t a.0.value i ∙ ap (λ z. P f (z ∷ [])) e; inside = λ m. cc; live = not_true _ }

  layer : (y : Term-F ((a : Seen) × Claims s.size a)) → Claims s.size (seen_step s names F P (map-Term ((a : Seen) × Claims s.size a) Seen (λ e. e.0) y))
  layer (Term-F.Number n) h = record { cut_value = λ m. cc; same_value = λ m. refl; inside = λ m. cc; live = not_true _ }
  layer Term-F.Null h = record { cut_value = λ m. cc; same_value = λ m. refl; inside = λ m. zero_fits s.size Ptr c.some; live = not_true _ }
  layer (Term-F.Name n) h = record { cut_value = λ m. cc; same_value = λ m. refl; inside = λ m. c.names_in n m; live = not_true _ }
  layer (Term-F.Apply func args) h =
      (elim (s.own func) as (λ b. s.own func ≡ b → IsTrue (cond b (one_pointer (map (λ a. a.side) (map (λ e. e.0) args))) (list_all is_plain (map (λ a. a.side) (map (λ e. e.0) args))))
      → Claim s.size (told (F func (map (λ a. a.value) (map (λ e. e.0) args))) (P func (map (λ a. a.partial) (map (λ e. e.0) args))) (b && s.gives func) (b && s.gives func)
      (cond b (one_pointer (map (λ a. a.side) (map (λ e. e.0) args))) (list_all is_plain (map (λ a. a.side) (map (λ e. e.0) args)))))) [
        | true ↦ λ o h. (let k = field func o args h (s.gives func) refl in record { cut_value = k.cut_value; same_value = k.same_value; inside = k.inside; live = k.live })
        | false ↦ λ o h. record {
          cut_value = λ m. cc;
          same_value = λ m. c.others func o _ ∙ ap (P func) (plain_all args h);
          inside = λ m. cc;
          live = not_true _;
        }
      ]) refl h
  layer (Term-F.Add a b) h = let k = both _ _ h in number _ _ (is_plain a.0.side && is_plain b.0.side) (λ i. plain_value s.size a.0 a.1 k.0 i +ℚ plain_value s.size b.0 b.1 k.1 i) h
  layer (Term-F.Sub a b) h = let k = both _ _ h in number _ _ (is_plain a.0.side && is_plain b.0.side) (λ i. plain_value s.size a.0 a.1 k.0 i -ℚ plain_value s.size b.0 b.1 k.1 i) h
  layer (Term-F.Neg a) h = number _ _ (is_plain a.0.side) (λ i. neg_ℚ (plain_value s.size a.0 a.1 h i)) h
  layer (Term-F.Scale n a) h = number _ _ (is_plain a.0.side) (λ i. n *ℚ plain_value s.size a.0 a.1 h i) h

  claims : (t : Term) → Claims s.size (seen s names F P t)
  claims t = folds_keep Seen (seen_step s names F P) (Claims s.size) layer t

  pub value_seen : (t : Term) → (seen s names F P t).value ≡ value names F t
  value_seen t = folds_fuse Seen ℚ (seen_step s names F P) (value_step names F) (λ a. a.value) each t
    where
      each : (y : Term-F Seen) → (seen_step s names F P y).value ≡ value_step names F (map-Term Seen ℚ (λ a. a.value) y)
      each y = refl

  partial_seen : (t : Term) → (seen s names F P t).partial ≡ value names P t
  partial_seen t = folds_fuse Seen ℚ (seen_step s names F P) (value_step names P) (λ a. a.partial) each t
    where
      each : (y : Term-F Seen) → (seen_step s names F P y).partial ≡ value_step names P (map-Term Seen ℚ (λ a. a.partial) y)
      each y = refl

  -- an equation that is true at the points stays true
  equal_kept : (l r : Seen) → Claims s.size l → Claims s.size r → IsTrue (are_alike l.side r.side) → l.partial ≡ r.partial → l.value ≡ r.value
  equal_kept l r cl cr h e =
      let k = both _ _ h in
      let j = both _ _ k.0 in
      (elim (l.side.pointer && r.side.pointer) as (λ b. (l.side.pointer && r.side.pointer) ≡ b → IsTrue (b || (not l.side.given && not r.side.given)) → l.value ≡ r.value) [
        | true ↦ λ p h. (
            let q = both _ _ p in
            pointer_value s.size l cl j.0 q.0 ∙ ap (cut s.size) e ∙ sym (pointer_value s.size r cr j.1 q.1))
        | false ↦ λ p h. (
            let q = both _ _ h in
            (cl j.0).same_value (not_true _ q.0) ∙ e ∙ sym ((cr j.1).same_value (not_true _ q.1)))
      ]) refl k.1

  settled_same : (cmp : Cmp) (l r : Seen) → Claims s.size l → Claims s.size r → IsTrue (is_settled l.side && is_settled r.side) → compares cmp l.value r.value ≡ compares cmp l.partial r.partial
  settled_same cmp l r cl cr h = let k = both _ _ h in λ i. compares cmp (settled_value s.size l cl k.0 i) (settled_value s.size r cr k.1 i)

  guard_back : (cmp : Cmp) (l r : Seen) → Claims s.size l → Claims s.size r → IsTrue (good_guard cmp l.side r.side) → IsTrue (compares cmp l.value r.value) → IsTrue (compares cmp l.partial r.partial)
  guard_back Ne l r cl cr h t =
      (elim (eq_ℚ l.partial r.partial) as (λ b. eq_ℚ l.partial r.partial ≡ b → IsTrue (not b)) [
        | true ↦ λ e. (
            let v : eq_ℚ l.value r.value ≡ true = eq_ℚ-from l.value r.value (equal_kept l r cl cr h (eq_ℚ-true l.partial r.partial e)) in
            let w : eq_ℚ l.value r.value ≡ false = not_true _ t in
            cc)
        | false ↦ λ e. refl
      ]) refl
  guard_back Le l r cl cr h t = sym (settled_same Le l r cl cr h) ∙ t
  guard_back Lt l r cl cr h t = sym (settled_same Lt l r cl cr h) ∙ t
  guard_back Eq l r cl cr h t = sym (settled_same Eq l r cl cr h) ∙ t
  guard_back Ge l r cl cr h t = sym (settled_same Ge l r cl cr h) ∙ t
  guard_back Gt l r cl cr h t = sym (settled_same Gt l r cl cr h) ∙ t

  head_on : (cmp : Cmp) (l r : Seen) → Claims s.size l → Claims s.size r → IsTrue (good_head cmp l.side r.side) → IsTrue (compares cmp l.partial r.partial) → IsTrue (compares cmp l.value r.value)
  head_on Eq l r cl cr h t = eq_ℚ-from l.value r.value (equal_kept l r cl cr h (eq_ℚ-true l.partial r.partial t))
  head_on Le l r cl cr h t = settled_same Le l r cl cr h ∙ t
  head_on Lt l r cl cr h t = settled_same Lt l r cl cr h ∙ t
  head_on Ne l r cl cr h t = settled_same Ne l r cl cr h ∙ t
  head_on Ge l r cl cr h t = settled_same Ge l r cl cr h ∙ t
  head_on Gt l r cl cr h t = settled_same Gt l r cl cr h ∙ t

  atom_seen : (a : Atom) → compares a.cmp (seen s names F P a.left).value (seen s names F P a.right).value ≡ atom_is_true names F a
  atom_seen a = λ i. compares a.cmp (value_seen a.left i) (value_seen a.right i)

  atom_partial : (a : Atom) → compares a.cmp (seen s names F P a.left).partial (seen s names F P a.right).partial ≡ atom_is_true names P a
  atom_partial a = λ i. compares a.cmp (partial_seen a.left i) (partial_seen a.right i)

  guards_back : (args : List Atom) → IsTrue (list_all (guard_is_good s names F P) args) → IsTrue (all_true names F args) → IsTrue (all_true names P args)
  guards_back [] h t = refl
  guards_back (a ∷ args) h t =
      let k = both _ _ h in
      let j = both _ _ t in
      let x : atom_is_true names P a ≡ true = sym (atom_partial a) ∙ guard_back a.cmp (seen s names F P a.left) (seen s names F P a.right) (claims a.left) (claims a.right) k.0 (atom_seen a ∙ j.0) in
      rw x (guards_back args k.1 j.1)

  heads_on : (args : List Atom) → IsTrue (list_all (head_is_good s names F P) args) → IsTrue (one_true names P args) → IsTrue (one_true names F args)
  heads_on [] h t = t
  heads_on (a ∷ args) h t =
      let k = both _ _ h in
      (elim (atom_is_true names P a) as (λ b. atom_is_true names P a ≡ b → IsTrue (b || one_true names P args) → IsTrue (one_true names F (a ∷ args))) [
        | true ↦ λ e t. (
            let x : atom_is_true names F a ≡ true = sym (atom_seen a) ∙ head_on a.cmp (seen s names F P a.left) (seen s names F P a.right) (claims a.left) (claims a.right) k.0 (atom_partial a ∙ e) in
            rw x refl)
        | false ↦ λ e t. or_right (atom_is_true names F a) (heads_on args k.1 t)
      ]) refl t
    where
      or_right : (p : Bool) {q : Bool} → IsTrue q → IsTrue (p || q)
      or_right true h = refl
      or_right false h = h

pub fields_stay_true : FieldsStayTrue
fields_stay_true s names F P c guard head g h t =
    (elim (all_true names F guard) as (λ b. all_true names F guard ≡ b → IsTrue (not b || one_true names F head)) [
      | true ↦ λ e. (
          let x : all_true names P guard ≡ true = guards_back s names F P c guard g e in
          heads_on s names F P c head h (rw x at t))
      | false ↦ λ e. refl
    ]) refl
