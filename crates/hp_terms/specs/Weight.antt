-- How large the numbers of a problem are together: what bounds every number that its index terms are collected to.
use Rattle.std.specs.Prelude.{ℕ, ◌+◌, ◌*◌, ◌<◌, ◌^◌, List, [], ◌∷◌, ℤ, pos, ◌+ℤ◌, ◌≤ℤ◌, unsigned_abs}
use Rattle.std.specs.List.{All}
use Rattle.hp_tree.specs.declared.term.Term.{Term, fold-Term}
use Rattle.hp_tree.specs.declared.term.Term.TheOpen.{Term-F}
use Rattle.hp_tree.specs.declared.problem.Atom.{Atom}
use Rattle.hp_tree.specs.declared.problem.Clause.{Clause}
use Rattle.hp_tree.specs.declared.problem.Problem.{Problem}

-- ---- magnitudes
-- a magnitude of at most so much
pub record IsWithin (most : ℕ) (n : ℤ) : Type 0 where
  pub low : pos 0 ≤ℤ (n +ℤ pos most)
  pub high : n ≤ℤ pos most

-- the largest number beside an index name
abbrev pub largest_offset : ℕ
largest_offset = 2 * 10 ^ 24

abbrev pub IsSmallOffset : ℤ → Type 0
IsSmallOffset n = IsWithin largest_offset n

-- ---- numbers of terms
abbrev pub weights : List ℕ → ℕ
weights [] = 0
weights (n ∷ ns) = n + weights ns

abbrev pub weight_step : Term-F ℕ → ℕ
weight_step (Term-F.Number q) = unsigned_abs q.num
weight_step Term-F.Null = 0
weight_step (Term-F.Name name) = 0
weight_step (Term-F.Apply func args) = weights args
weight_step (Term-F.Add a b) = a + b
weight_step (Term-F.Sub a b) = a + b
weight_step (Term-F.Neg a) = a
weight_step (Term-F.Scale q a) = unsigned_abs q.num + a

-- the magnitudes of the numerators of all numbers of a term added together, those in arguments and those that multiply too
abbrev pub weight : Term → ℕ
weight = fold-Term ℕ weight_step

-- the numbers of both sides, added together by magnitude, stay below the largest offset
abbrev pub IsLightAtom : Atom → Type 0
IsLightAtom atom = (weight atom.left + weight atom.right) < largest_offset

pub record IsLightClause (clause : Clause) : Type 0 where
  pub guard : All IsLightAtom clause.guard
  pub head : All IsLightAtom clause.head

-- no atom has numbers that come near to that together
abbrev pub IsLight : Problem → Type 0
IsLight p = All IsLightClause p.clauses
