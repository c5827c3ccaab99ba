-- Every place that waits after honest splits is an honest path.
use Rattle.std.proofs.Common.{ℕ, zero, suc, ◌+◌, ◌≤◌, sym, subst, arith, List, [], ◌∷◌, ◌++◌, length, append_assoc, append-nil}
use Rattle.hp_lit.specs.declared.line.Line.{Line}
use Rattle.hp_lit.specs.declared.proof.Choice.{Choice}
use Rattle.hp_tree.specs.declared.problem.Sort.{Sort}
use Rattle.hp_leaf.specs.declared.tree.Node.{Node}
use Rattle.hp_leaf.specs.declared.tree.Node.TheVariants.{Split, Leaf, Unopened}
use Rattle.hp_leaf.specs.Tree.{lits_at, IsLine, Place, children, IsOpenAt, Reads, Any}
use Rattle.hp_leaf.specs.Path.{InRange, HonestFrom, IsHonestPath}

module _ (sorts : List Sort) (lines : List Line) where
  pub AllHonest : List Place → Type 0
  AllHonest [] = Unit {0}
  AllHonest (p ∷ ps) = IsHonestPath sorts lines p × AllHonest ps

  honest-push : (before p : Place) (c : Choice) → HonestFrom sorts lines before p → IsLine lines c.line → InRange lines c → IsOpenAt sorts lines (before ++ p) c.line → HonestFrom sorts lines before (p ++ c ∷ [])
  honest-push before [] c h l r o = (l, r, subst (λ q. IsOpenAt sorts lines q c.line) (append-nil before) o, tt)
  honest-push before (d ∷ p) c h l r o = (h.0, h.1, h.2, honest-push (before ++ d ∷ []) p c h.3 l r (subst (λ q. IsOpenAt sorts lines q c.line) (sym (append_assoc before (d ∷ []) p)) o))

  honest-append : (ps qs : List Place) → AllHonest ps → AllHonest qs → AllHonest (ps ++ qs)
  unfolding AllHonest
  honest-append [] qs h k = k
  honest-append (p ∷ ps) qs h k = (h.0, honest-append ps qs h.1 k)

  honest_children : (p : Place) (n done left : ℕ) → IsHonestPath sorts lines p → IsLine lines n → IsOpenAt sorts lines p n → done + left ≤ length (lits_at lines n) → AllHonest (children p n done left)
  unfolding AllHonest
  honest_children p n done zero h l o b = tt
  honest_children p n done (suc left) h l o b =
      (honest-push [] p (record { line = n; lit = suc done }) h l (omega arith, omega arith) o, honest_children p n (suc done) left h l o (omega arith))

  pub reads_honest : (nodes : List Node) (places rest : List Place) → AllHonest places → Reads (IsOpenAt sorts lines) lines nodes places rest → AllHonest rest
  unfolding AllHonest
  reads_honest [] places rest i h = subst AllHonest h i
  reads_honest (node ∷ nodes) [] rest i h = absurd h
  reads_honest (Split n ∷ nodes) (p ∷ ps) rest i h =
      let count = length (lits_at lines n) in
      reads_honest nodes (children p n 0 count ++ ps) rest (honest-append (children p n 0 count) ps (honest_children p n 0 count i.0 h.0 h.1 (omega arith)) i.1) h.2
  reads_honest (Leaf proof ∷ nodes) (p ∷ ps) rest i h = reads_honest nodes ps rest i.1 h.1
  reads_honest (Unopened ∷ nodes) (p ∷ ps) rest i h = absurd h

  -- the first place that waits is an honest path
  pub first_honest : (nodes : List Node) (p : Place) (ps : List Place) → Reads (IsOpenAt sorts lines) lines nodes ([] ∷ []) (p ∷ ps) → IsHonestPath sorts lines p
  unfolding AllHonest
  first_honest nodes p ps h = (reads_honest nodes ([] ∷ []) (p ∷ ps) (tt, tt) h).0

-- what is honest is a reading
pub reads_any : (May : Place → ℕ → Type 0) (lines : List Line) (nodes : List Node) (places rest : List Place) → Reads May lines nodes places rest → Reads Any lines nodes places rest
reads_any May lines [] places rest h = h
reads_any May lines (node ∷ nodes) [] rest h = h
reads_any May lines (Split n ∷ nodes) (p ∷ ps) rest h = (h.0, tt, reads_any May lines nodes (children p n 0 (length (lits_at lines n)) ++ ps) rest h.2)
reads_any May lines (Leaf proof ∷ nodes) (p ∷ ps) rest h = (h.0, reads_any May lines nodes ps rest h.1)
reads_any May lines (Unopened ∷ nodes) (p ∷ ps) rest h = h

-- one node more at the end
pub reads-append : (May : Place → ℕ → Type 0) (lines : List Line) (ns ms : List Node) (places mid rest : List Place) → Reads May lines ns places mid → Reads May lines ms mid rest → Reads May lines (ns ++ ms) places rest
reads-append May lines [] ms places mid rest h k = subst (λ q. Reads May lines ms q rest) (sym h) k
reads-append May lines (node ∷ ns) ms [] mid rest h k = absurd h
reads-append May lines (Split n ∷ ns) ms (p ∷ ps) mid rest h k = (h.0, h.1, reads-append May lines ns ms (children p n 0 (length (lits_at lines n)) ++ ps) mid rest h.2 k)
reads-append May lines (Leaf proof ∷ ns) ms (p ∷ ps) mid rest h k = (h.0, reads-append May lines ns ms ps mid rest h.1 k)
reads-append May lines (Unopened ∷ ns) ms (p ∷ ps) mid rest h k = absurd h
