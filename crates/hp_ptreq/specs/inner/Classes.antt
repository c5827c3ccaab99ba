-- Classes of nodes: what is the same throughout each tree of parents, and what joins allow to be different.
use Rattle.std.specs.Prelude.{◌≡◌, ℕ, ◌<◌, ◌≤◌, ◌⊎◌, List, [], ◌∷◌, ◌++◌, length}
use Rattle.std.proofs.Common.{get_or}
use Rattle.hp_ptreq.specs.declared.classes.Join.{Join}
use Rattle.hp_ptreq.specs.declared.classes.Classes.{Classes}

-- the parent of a node, which is the node itself at a root
abbrev pub parent_at : List ℕ → ℕ → ℕ
parent_at parents x = get_or parents x 0

abbrev pub join_at : List Join → ℕ → Join
join_at joins k = get_or joins k (record { left = 0; right = 0; lit = 0 })

-- the label of a node, which is its value
abbrev pub label_at : List ℕ → ℕ → ℕ
label_at labels x = get_or labels x 0

-- each node has a parent, and none a greater one
pub record AreTrees (nodes : ℕ) (parents : List ℕ) : Type 0 where
  pub count : length parents ≡ nodes
  pub lesser : (x : ℕ) → x < nodes → parent_at parents x ≤ x

-- f is the same throughout each tree
abbrev pub IsLevel : List ℕ → (ℕ → ℕ) → Type 0
IsLevel parents f = (x : ℕ) → x < length parents → f (parent_at parents x) ≡ f x

-- f is the same at both ends of each join
abbrev pub Agrees : List Join → (ℕ → ℕ) → Type 0
Agrees joins f = (k : ℕ) → k < length joins → f (join_at joins k).left ≡ f (join_at joins k).right

-- two nodes of one tree: what is the same throughout each tree doesn't tell them apart
pub record AreTogether (parents : List ℕ) (x y : ℕ) : Type 0 where
  pub by : (f : ℕ → ℕ) → IsLevel parents f → f x ≡ f y

-- two nodes that joins lead between: what is the same at both ends of each join doesn't tell them apart
pub record AreJoined (joins : List Join) (x y : ℕ) : Type 0 where
  pub by : (f : ℕ → ℕ) → Agrees joins f → f x ≡ f y

-- the same classes, with the same roots and perhaps shorter ways to them
pub record AreAlike (old new : List ℕ) : Type 0 where
  pub forward : (f : ℕ → ℕ) → IsLevel old f → IsLevel new f
  pub backward : (f : ℕ → ℕ) → IsLevel new f → IsLevel old f
  pub roots : (x : ℕ) → x < length old → parent_at old x ≡ x → parent_at new x ≡ x

-- the root of a node's tree, where ways may have become shorter
pub record IsRootOf (old new : List ℕ) (node top : ℕ) : Type 0 where
  pub alike : AreAlike old new
  pub within : top < length new
  pub root : parent_at new top ≡ top
  pub own : AreTogether new node top

-- joins alone made the trees: what is the same at both ends of each join is the same throughout each tree
abbrev pub AreFrom : List Join → List ℕ → Type 0
AreFrom joins parents = (f : ℕ → ℕ) → Agrees joins f → IsLevel parents f

-- the classes with those of a join's nodes made one
pub record IsJoined (nodes : ℕ) (old new : Classes) (j : Join) : Type 0 where
  pub trees : AreTrees nodes new.parents
  pub kept : (f : ℕ → ℕ) → IsLevel new.parents f → IsLevel old.parents f
  pub both : AreTogether new.parents j.left j.right
  pub from : AreFrom old.joins old.parents → AreFrom new.joins new.parents
  pub joins : (new.joins ≡ old.joins) ⊎ (new.joins ≡ old.joins ++ j ∷ [])

-- each node is a class of its own
pub record AreApart (nodes : ℕ) (classes : Classes) : Type 0 where
  pub count : length classes.parents ≡ nodes
  pub own : (x : ℕ) → x < nodes → parent_at classes.parents x ≡ x
  pub joins : classes.joins ≡ []

-- the labels of the first nodes: the same throughout each tree, and each a node of it, 0 for node 0
pub record AreLabels (nodes : ℕ) (parents labels : List ℕ) : Type 0 where
  pub count : length labels ≡ nodes
  pub level : (x : ℕ) → x < nodes → label_at labels (parent_at parents x) ≡ label_at labels x
  pub own : (x : ℕ) → x < nodes → AreTogether parents x (label_at labels x)
  pub null : label_at labels 0 ≡ 0
