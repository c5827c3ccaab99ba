-- How deep terms nest.
use Rattle.std.specs.Prelude.{ℕ, ◌+◌, ◌<◌, max, List, [], ◌∷◌}
use Rattle.std.specs.List.{All}
use Rattle.hp_tree.specs.declared.term.Term.{Term, fold-Term}
use Rattle.hp_tree.specs.declared.term.Term.TheOpen.{Term-F}
use Rattle.hp_tree.specs.declared.problem.Atom.{Atom}
use Rattle.hp_tree.specs.declared.problem.Clause.{Clause}
use Rattle.hp_tree.specs.declared.problem.Problem.{Problem}

-- the greatest of some depths, and 0 where there is none
abbrev pub deepest : List ℕ → ℕ
deepest [] = 0
deepest (d ∷ ds) = max d (deepest ds)

abbrev pub depth_step : Term-F ℕ → ℕ
depth_step (Term-F.Number q) = 1
depth_step Term-F.Null = 1
depth_step (Term-F.Name name) = 1
depth_step (Term-F.Apply func args) = deepest args + 1
depth_step (Term-F.Add left right) = max left right + 1
depth_step (Term-F.Sub left right) = max left right + 1
depth_step (Term-F.Neg inner) = inner + 1
depth_step (Term-F.Scale q inner) = inner + 1

-- a number, null and a name are 1 deep, and any other term is one deeper than the deepest of its parts
abbrev pub depth : Term → ℕ
depth = fold-Term ℕ depth_step

-- the depth that no term of a text has
abbrev pub too_deep : ℕ
too_deep = 1300

-- both sides are less deep, and so are all their parts
abbrev pub IsShallowAtom : Atom → Type 0
IsShallowAtom atom = (depth atom.left < too_deep) × (depth atom.right < too_deep)

pub record IsShallowClause (clause : Clause) : Type 0 where
  pub guard : All IsShallowAtom clause.guard
  pub head : All IsShallowAtom clause.head

abbrev pub IsShallow : Problem → Type 0
IsShallow p = All IsShallowClause p.clauses
