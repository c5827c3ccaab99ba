-- Closed and spent trees are readings, and their splits are of lines of the problem.
use Rattle.std.proofs.Common.{ℕ, List, [], ◌∷◌, ◌++◌, length, sym, subst, append-nil}
use Rattle.std.specs.Prelude.{replicate}
use Rattle.std.specs.List.{All}
use Rattle.std.proofs.lemmas.List.Elements.{All-nil, All-cons, All-append, All-replicate}
use Rattle.hp_tree.specs.declared.problem.Sort.{Sort}
use Rattle.hp_defs.specs.declared.names.Ground.{Ground}
use Rattle.hp_leaf.specs.declared.tree.Node.{Node}
use Rattle.hp_leaf.specs.declared.tree.Node.TheVariants.{Split, Leaf, Unopened}
use Rattle.hp_leaf.specs.Tree.{Any, IsClosed, IsOpenAt, IsSpent, Place, Reads, children, lits_at}
use Rattle.hp_leaf.proofs.Honest.{reads_any}
use Rattle.hp_cert.specs.Entries.{SplitsLine}
use Rattle.hp_cert.specs.Spelled.{IsReading}

reads_split : (May : Place → ℕ → Type 0) (g : Ground) (nodes : List Node) (places rest : List Place) → Reads May g.lines nodes places rest → All (SplitsLine g) nodes
reads_split May g [] places rest h = All-nil (SplitsLine g)
reads_split May g (node ∷ nodes) [] rest h = absurd h
reads_split May g (Split line ∷ nodes) (place ∷ places) rest h =
    All-cons (SplitsLine g) (Split line) nodes h.0 (reads_split May g nodes (children place line 0 (length (lits_at g.lines line)) ++ places) rest h.2)
reads_split May g (Leaf proof ∷ nodes) (place ∷ places) rest h = All-cons (SplitsLine g) (Leaf proof) nodes tt (reads_split May g nodes places rest h.1)
reads_split May g (Unopened ∷ nodes) (place ∷ places) rest h = absurd h

pub closed_splits : (g : Ground) (tree : List Node) → IsClosed g.lines tree → All (SplitsLine g) tree
closed_splits g tree h = reads_split Any g tree ([] ∷ []) [] h

pub spent_splits : (sorts : List Sort) (g : Ground) (tree : List Node) (most : ℕ) → IsSpent sorts g.lines tree most → All (SplitsLine g) tree
spent_splits sorts g tree most h =
    subst (All (SplitsLine g)) (sym h.whole) (All-append (SplitsLine g) h.made (replicate (length h.waiting) Unopened)
    (reads_split _ g h.made ([] ∷ []) h.waiting h.honest) (All-replicate (SplitsLine g) (length h.waiting) Unopened tt))

pub closed_reading : (g : Ground) (tree : List Node) → IsClosed g.lines tree → IsReading g.lines tree
closed_reading g tree h = record { made = tree; waiting = []; reads = h; whole = sym (append-nil tree) }

pub spent_reading : (sorts : List Sort) (g : Ground) (tree : List Node) (most : ℕ) → IsSpent sorts g.lines tree most → IsReading g.lines tree
spent_reading sorts g tree most h = record {
  made = h.made;
  waiting = h.waiting;
  reads = reads_any (IsOpenAt sorts g.lines) g.lines h.made ([] ∷ []) h.waiting h.honest;
  whole = h.whole;
}
