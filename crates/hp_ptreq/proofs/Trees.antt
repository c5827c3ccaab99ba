-- Trees of nodes: a node takes another parent, and a climb to a root.
use Rattle.std.proofs.Common.{◌≡◌, ◌≢◌, ℕ, ◌<◌, ◌≤◌, List, length, get_or, set, refl, sym, ap, ◌∙◌, inl, inr, arith, get_or-set_same, get_or-set_other}
use Rattle.std.proofs.lemmas.Bool.{cases_eq}
use Rattle.std.proofs.lemmas.List.{length-set}
use Rattle.hp_ptreq.specs.inner.Classes.{AreAlike, AreTogether, AreTrees, IsLevel, IsRootOf, parent_at}

put_here : (parents : List ℕ) (at next x : ℕ) → at < length parents → x ≡ at → parent_at (set parents at next) x ≡ next
put_here parents at next x h same = ap (λ (y : ℕ). get_or (set parents at next) y 0) same ∙ get_or-set_same parents at next 0 h

pub put_trees : (nodes : ℕ) (parents : List ℕ) (at next : ℕ) → AreTrees nodes parents → at < nodes → next ≤ at → AreTrees nodes (set parents at next)
put_trees nodes parents at next t at_in h = record {
  count = length-set parents at next ∙ t.count;
  lesser = λ x x_in. elim (cases_eq x at) [
    | inl same ↦ (let is = put_here parents at next x (let s = t.count in omega arith) same in omega arith)
    | inr ne ↦ (let is : parent_at (set parents at next) x ≡ parent_at parents x = get_or-set_other parents at x next 0 ne in let old = t.lesser x x_in in omega arith)
  ];
}

-- what is level, and the same at a node and its new parent, stays level
pub level_put : (parents : List ℕ) (at next : ℕ) (f : ℕ → ℕ) → at < length parents → IsLevel parents f → f next ≡ f at → IsLevel (set parents at next) f
level_put parents at next f h level e = λ x x_in. elim (cases_eq x at) [
  | inl same ↦ ap f (put_here parents at next x h same) ∙ e ∙ ap f (sym same)
  | inr ne ↦ ap f (get_or-set_other parents at x next 0 ne) ∙ level x (omega (arith, length-set parents at next))
]

-- what is level after, and the same at a node and its old parent, was level
pub level_back : (parents : List ℕ) (at next : ℕ) (f : ℕ → ℕ) → at < length parents → IsLevel (set parents at next) f → f (parent_at parents at) ≡ f at → IsLevel parents f
level_back parents at next f h level e = λ x x_in. elim (cases_eq x at) [
  | inl same ↦ ap (λ (y : ℕ). f (parent_at parents y)) same ∙ e ∙ ap f (sym same)
  | inr ne ↦ ap f (sym (get_or-set_other parents at x next 0 ne)) ∙ level x (omega (arith, length-set parents at next))
]

-- what is level after is the same at a node and its new parent
pub level_here : (parents : List ℕ) (at next : ℕ) (f : ℕ → ℕ) → at < length parents → IsLevel (set parents at next) f → f next ≡ f at
level_here parents at next f h level = ap f (sym (put_here parents at next at h refl)) ∙ level at (omega (arith, length-set parents at next))

-- ---- halving
abbrev grandparent : List ℕ → ℕ → ℕ
grandparent parents at = parent_at parents (parent_at parents at)

halved : (nodes : ℕ) (parents : List ℕ) (at : ℕ) → AreTrees nodes parents → at < nodes → parent_at parents at ≢ at → AreAlike parents (set parents at (grandparent parents at))
halved nodes parents at t at_in ne =
    let p = parent_at parents at in
    let next = grandparent parents at in
    let h : at < length parents = (let s = t.count in omega arith) in
    let p_in : p < length parents = (let s = t.count in let l = t.lesser at at_in in omega arith) in
    record {
      forward = λ f level. level_put parents at next f h level (level p p_in ∙ level at h);
      backward = λ f level. level_back parents at next f h level
          (sym (ap f (sym (get_or-set_other parents at p next 0 ne)) ∙ level p (omega (arith, length-set parents at next))) ∙ level_here parents at next f h level);
      roots = λ x x_in root. elim (cases_eq x at) [
        | inl same ↦ absurd (ne (ap (parent_at parents) (sym same) ∙ root ∙ same))
        | inr other ↦ get_or-set_other parents at x next 0 other ∙ root
      ];
    }

alike_then : (old mid new : List ℕ) → length old ≡ length mid → AreAlike old mid → AreAlike mid new → AreAlike old new
alike_then old mid new e a b = record {
  forward = λ f level. b.forward f (a.forward f level);
  backward = λ f level. a.backward f (b.backward f level);
  roots = λ x x_in root. b.roots x (omega arith) (a.roots x x_in root);
}

-- ---- the climb to a root
pub record IsClimbed (nodes : ℕ) (old new : List ℕ) (node at : ℕ) : Type 0 where
  pub trees : AreTrees nodes new
  pub alike : AreAlike old new
  pub within : at < nodes
  pub own : AreTogether new node at

pub start_climb : (nodes : ℕ) (parents : List ℕ) (node : ℕ) → AreTrees nodes parents → node < nodes → IsClimbed nodes parents parents node node
start_climb nodes parents node t h = record {
  trees = t;
  alike = record { forward = λ f level. level; backward = λ f level. level; roots = λ x x_in root. root };
  within = h;
  own = record { by = λ f level. refl };
}

pub next_climb : (nodes : ℕ) (old new : List ℕ) (node at : ℕ) → AreTrees nodes old → IsClimbed nodes old new node at → parent_at new at ≢ at
    → (grandparent new at < at) × IsClimbed nodes old (set new at (grandparent new at)) node (grandparent new at)
next_climb nodes old new node at t c ne =
    let p = parent_at new at in
    let next = grandparent new at in
    let below : p ≤ at = c.trees.lesser at c.within in
    let less : p < at = omega arith in
    let further : next ≤ p = c.trees.lesser p (let w = c.within in omega arith) in
    let h : at < length new = (let s = c.trees.count in let w = c.within in omega arith) in
    let step = halved nodes new at c.trees c.within ne in (
      omega arith,
      record {
        trees = put_trees nodes new at next c.trees c.within (omega arith);
        alike = alike_then old new (set new at next) (t.count ∙ sym c.trees.count) c.alike step;
        within = (let w = c.within in omega arith);
        own = record { by = λ f level. c.own.by f (step.backward f level) ∙ sym (level_here new at next f h level) };
      },
    )

pub end_climb : (nodes : ℕ) (old new : List ℕ) (node at : ℕ) → IsClimbed nodes old new node at → parent_at new at ≡ at → IsRootOf old new node at
end_climb nodes old new node at c root = record {
  alike = c.alike;
  within = (let s = c.trees.count in let w = c.within in omega arith);
  root = root;
  own = c.own;
}

-- ---- the roots of two nodes, one after the other
pub record HaveRoots (nodes : ℕ) (old new : List ℕ) (a b x y : ℕ) : Type 0 where
  pub trees : AreTrees nodes new
  pub alike : AreAlike old new
  pub left_in : x < length new
  pub right_in : y < length new
  pub left_root : parent_at new x ≡ x
  pub right_root : parent_at new y ≡ y
  pub left : AreTogether new a x
  pub right : AreTogether new b y

pub have_roots : (nodes : ℕ) (old mid new : List ℕ) (a b x y : ℕ) → AreTrees nodes old → AreTrees nodes mid → AreTrees nodes new → IsRootOf old mid a x → IsRootOf mid new b y
    → HaveRoots nodes old new a b x y
have_roots nodes old mid new a b x y to tm tn p q = record {
  trees = tn;
  alike = alike_then old mid new (to.count ∙ sym tm.count) p.alike q.alike;
  left_in = (let w = p.within in let m = tm.count in let n = tn.count in omega arith);
  right_in = q.within;
  left_root = q.alike.roots x p.within p.root;
  right_root = q.root;
  left = record { by = λ f level. p.own.by f (q.alike.backward f level) };
  right = q.own;
}
