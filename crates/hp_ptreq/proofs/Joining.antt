-- Classes that an equality makes one, and what the classes say of the first rows.
use Rattle.std.proofs.Common.{◌≡◌, ℕ, ◌+◌, ◌-◌, ◌<◌, ◌≤◌, List, [], ◌∷◌, ◌++◌, length, get_or, set, take, refl, sym, ap, subst, ◌∙◌, inl, inr, arith, true, false, Some}
use Rattle.std.specs.Prelude.{slice_get}
use Rattle.std.specs.List.{All}
use Rattle.std.proofs.lemmas.List.{get_or_append_left, length_push, take_more}
use Rattle.std.proofs.lemmas.List.Elements.{All-nil, All-push, All-weaker}
use Rattle.std.proofs.lemmas.Option.{slice_get_within, get_or_from_slice_get}
use Rattle.std.proofs.Math.Seq.{get_or-append_seam}
use Rattle.hp_lit.specs.declared.literal.PtrLit.{PtrLit}
use Rattle.hp_ptreq.specs.declared.classes.Join.{Join}
use Rattle.hp_ptreq.specs.declared.classes.Classes.{Classes}
use Rattle.hp_ptreq.specs.inner.Built.{AreClasses, IsKept}
use Rattle.hp_ptreq.specs.inner.Classes.{Agrees, AreApart, IsJoined, IsLevel, parent_at}
use Rattle.hp_ptreq.specs.inner.Nodes.{AreNodes, IsJoin}
use Rattle.hp_ptreq.proofs.Trees.{HaveRoots, level_back, level_here, level_put, put_trees}

agrees_before : (joins : List Join) (j : Join) (f : ℕ → ℕ) → Agrees (joins ++ j ∷ []) f → Agrees joins f
agrees_before joins j f agrees = λ k h.
    subst (λ (i : Join). f i.left ≡ f i.right) (get_or_append_left joins (j ∷ []) _ k h) (agrees k (omega (arith, length_push joins j)))

agrees_last : (joins : List Join) (j : Join) (f : ℕ → ℕ) → Agrees (joins ++ j ∷ []) f → f j.left ≡ f j.right
agrees_last joins j f agrees =
    subst (λ (i : Join). f i.left ≡ f i.right) (get_or-append_seam joins j [] _) (agrees (length joins) (omega (arith, length_push joins j)))

-- the greater root takes the lesser one as its parent
hang : (nodes : ℕ) (old : Classes) (parents : List ℕ) (j : Join) (x y greater lesser : ℕ) → HaveRoots nodes old.parents parents j.left j.right x y
    → greater < length parents → parent_at parents greater ≡ greater → lesser ≤ greater → ((f : ℕ → ℕ) → f x ≡ f y → f lesser ≡ f greater) → ((f : ℕ → ℕ) → f lesser ≡ f greater → f x ≡ f y)
    → IsJoined nodes old (record { parents = set parents greater lesser; joins = old.joins ++ j ∷ [] }) j
hang nodes old parents j x y greater lesser r h root le there back =
    let level = λ (f : ℕ → ℕ) (l : IsLevel (set parents greater lesser) f). level_back parents greater lesser f h l (ap f root) in
    record {
      trees = put_trees nodes parents greater lesser r.trees (let s = r.trees.count in omega arith) le;
      kept = λ f l. r.alike.backward f (level f l);
      both = record { by = λ f l. r.left.by f (level f l) ∙ back f (level_here parents greater lesser f h l) ∙ sym (r.right.by f (level f l)) };
      from = λ from f agrees.
          (let old_level = r.alike.forward f (from f (agrees_before old.joins j f agrees)) in
          level_put parents greater lesser f h old_level (there f (sym (r.left.by f old_level) ∙ agrees_last old.joins j f agrees ∙ r.right.by f old_level)));
      joins = inr refl;
    }

pub hang_right : (nodes : ℕ) (old : Classes) (parents : List ℕ) (j : Join) (x y : ℕ) → HaveRoots nodes old.parents parents j.left j.right x y → x < y
    → IsJoined nodes old (record { parents = set parents y x; joins = old.joins ++ j ∷ [] }) j
hang_right nodes old parents j x y r less = hang nodes old parents j x y y x r r.right_in r.right_root (omega arith) (λ f e. e) (λ f e. e)

pub hang_left : (nodes : ℕ) (old : Classes) (parents : List ℕ) (j : Join) (x y : ℕ) → HaveRoots nodes old.parents parents j.left j.right x y → y < x
    → IsJoined nodes old (record { parents = set parents x y; joins = old.joins ++ j ∷ [] }) j
hang_left nodes old parents j x y r less = hang nodes old parents j x y x y r r.left_in r.left_root (omega arith) (λ f e. sym e) (λ f e. sym e)

pub already_one : (nodes : ℕ) (old : Classes) (parents : List ℕ) (j : Join) (x y : ℕ) → HaveRoots nodes old.parents parents j.left j.right x y → x ≡ y
    → IsJoined nodes old (record { parents = parents; joins = old.joins }) j
already_one nodes old parents j x y r same = record {
  trees = r.trees;
  kept = λ f l. r.alike.backward f l;
  both = record { by = λ f l. r.left.by f l ∙ ap f same ∙ sym (r.right.by f l) };
  from = λ from f agrees. r.alike.forward f (from f agrees);
  joins = inl refl;
}

-- ---- the classes of the first rows
pub first_classes : (names : List ℕ) (rows : List PtrLit) (classes : Classes) → AreApart (length names + 1) classes → AreClasses names rows 0 classes
first_classes names rows classes a = record {
  trees = record { count = a.count; lesser = λ x x_in. (let own = a.own x x_in in omega arith) };
  each = subst (All (IsJoin names rows)) (sym a.joins) (All-nil (IsJoin names rows));
  from = λ f agrees x x_in. ap f (a.own x (let s = a.count in omega arith));
  kept = All-nil (IsKept names classes.parents);
}

-- one more row
next_kept : (names : List ℕ) (rows : List PtrLit) (parents : List ℕ) (at : ℕ) (row : PtrLit) → slice_get rows at ≡ Some row → All (IsKept names parents) (take at rows) → IsKept names parents row
    → All (IsKept names parents) (take (at + 1) rows)
next_kept names rows parents at row is all one =
    subst (All (IsKept names parents)) (sym (take_more rows at row (slice_get_within rows at row is)))
    (All-push (IsKept names parents) (take at rows) (get_or rows at row) all (subst (IsKept names parents) (sym (get_or_from_slice_get rows at row row is)) one))

kept_more : (names old new : List ℕ) → ((f : ℕ → ℕ) → IsLevel new f → IsLevel old f) → (row : PtrLit) → IsKept names old row → IsKept names new row
kept_more names old new back row kept = λ same.
    (let n = kept same in record { left = n.left; right = n.right; nodes = n.nodes; stand = record { by = λ f level. n.stand.by f (back f level) } })

pub next_equality : (names : List ℕ) (rows : List PtrLit) (at : ℕ) (row : PtrLit) (old new : Classes) (j : Join) → slice_get rows at ≡ Some row → row.same ≡ true
    → AreNodes names row j.left j.right → j.lit ≡ at + 1 → IsJoined (length names + 1) old new j → AreClasses names rows at old → AreClasses names rows (at + 1) new
next_equality names rows at row old new j is same nodes lit joined c =
    let back : j.lit - 1 ≡ at = omega arith in
    let one : IsJoin names rows j = record { row = row; lit = omega arith; at = ap (slice_get rows) back ∙ is; same = same; nodes = nodes } in
    record {
      trees = joined.trees;
      each = elim joined.joins [
        | inl e ↦ subst (All (IsJoin names rows)) (sym e) c.each
        | inr e ↦ subst (All (IsJoin names rows)) (sym e) (All-push (IsJoin names rows) old.joins j c.each one)
      ];
      from = joined.from c.from;
      kept = next_kept names rows new.parents at row is (All-weaker _ _ (kept_more names old.parents new.parents joined.kept) (take at rows) c.kept)
          (λ e. record { left = j.left; right = j.right; nodes = nodes; stand = joined.both });
    }

pub next_inequality : (names : List ℕ) (rows : List PtrLit) (at : ℕ) (row : PtrLit) (classes : Classes) → slice_get rows at ≡ Some row → row.same ≡ false
    → AreClasses names rows at classes → AreClasses names rows (at + 1) classes
next_inequality names rows at row classes is apart c = record {
  trees = c.trees;
  each = c.each;
  from = c.from;
  kept = next_kept names rows classes.parents at row is c.kept (λ e. absurd (cc));
}
