-- How heavy a term is outside of arguments, and how heavy the heaviest argument is that is an index: what is added in an index
-- stays small where each of them is, however many there are and however large the numbers of other arguments are.
use Rattle.std.specs.Prelude.{◌≡◌, ℕ, ◌+◌, ◌≤◌, max, List, [], ◌∷◌, map, Option, Some, None, unsigned_abs}
use Rattle.hp_tree.specs.declared.term.Term.{Term, fold-Term}
use Rattle.hp_tree.specs.declared.term.Term.TheOpen.{Term-F}
use Rattle.hp_tree.specs.declared.problem.Sort.{Sort}
use Rattle.hp_tree.specs.declared.problem.Sort.TheVariants.{Num, Idx, Ptr}
use Rattle.hp_tree.specs.declared.problem.Atom.{Atom}
use Rattle.hp_tree.specs.Value.{Word}
use Rattle.hp_terms.specs.Scope.{Profile, Scope}
use Rattle.hp_terms.specs.Weight.{largest_offset, weight}
use Rattle.hp_defs.specs.Names.{NameList}
use Rattle.hp_norm.specs.Scopes.{term_scope}

-- the numbers of a term outside of arguments, added together by magnitude, and the greatest such sum of an argument within it
-- that is an index, each outside of its own arguments
pub record Load : Type 0 where
  pub own : ℕ
  pub indexes : ℕ

abbrev pub own_load : ℕ → Load
own_load n = record { own = n; indexes = 0 }

abbrev pub both_loads : Load → Load → Load
both_loads a b = record { own = a.own + b.own; indexes = max a.indexes b.indexes }

-- ---- arguments
-- the greatest load of an index in an argument at a place of a sort, of itself where that is the place of one
abbrev pub place_load : Sort → Load → ℕ
place_load Num x = x.indexes
place_load Idx x = max x.own x.indexes
place_load Ptr x = x.indexes

-- the greatest of arguments at places of these sorts
abbrev pub arguments_load : List Sort → List Load → ℕ
arguments_load sorts [] = 0
arguments_load [] (x ∷ xs) = max x.indexes (arguments_load [] xs)
arguments_load (sort ∷ sorts) (x ∷ xs) = max (place_load sort x) (arguments_load sorts xs)

abbrev pub argument_sorts : Option Profile → List Sort
argument_sorts None = []
argument_sorts (Some profile) = profile.args

-- ---- terms
abbrev pub load_step : (Word → List Sort) → Term-F Load → Load
load_step places (Term-F.Number q) = own_load (unsigned_abs q.num)
load_step places Term-F.Null = own_load 0
load_step places (Term-F.Name name) = own_load 0
load_step places (Term-F.Apply func args) = record { own = 0; indexes = arguments_load (places func) args }
load_step places (Term-F.Add a b) = both_loads a b
load_step places (Term-F.Sub a b) = both_loads a b
load_step places (Term-F.Neg a) = a
load_step places (Term-F.Scale q a) = both_loads (own_load (unsigned_abs q.num)) a

-- the sorts of the arguments of a function
abbrev pub places_of : Scope → Word → List Sort
places_of scope word = argument_sorts (scope.function word)

abbrev pub load : Scope → Term → Load
load scope = fold-Term Load (load_step (places_of scope))

-- each argument that is an index has small numbers together
abbrev pub HasLightIndexes : Scope → Term → Type 0
HasLightIndexes scope term = (load scope term).indexes ≤ largest_offset

-- and so has each that is one of these arguments over names, at places of these sorts, or that is in one of them
abbrev pub ArgumentsAreLight : NameList → List Sort → List Term → Type 0
ArgumentsAreLight names sorts args = arguments_load sorts (map (load (term_scope names)) args) ≤ largest_offset

-- an argument at a place of a sort, with this load: it has small numbers if it is an index, and so have the indexes in it
pub record IsLightPlace (place : Sort) (x : Load) : Type 0 where
  pub inner : x.indexes ≤ largest_offset
  pub own : place ≡ Idx → x.own ≤ largest_offset

-- ---- atoms
pub record IsLightWithin (scope : Scope) (atom : Atom) : Type 0 where
  pub left : HasLightIndexes scope atom.left
  pub right : HasLightIndexes scope atom.right

-- each side weighs at most so much as is said of that of another atom
pub record WeighsAtMost (most : Term → ℕ) (atom flat : Atom) : Type 0 where
  pub left : weight flat.left ≤ most atom.left
  pub right : weight flat.right ≤ most atom.right

-- each side weighs no more than that of another atom outside of arguments
abbrev pub WeighsNoMore : Scope → Atom → Atom → Type 0
WeighsNoMore scope = WeighsAtMost (λ t. (load scope t).own)
