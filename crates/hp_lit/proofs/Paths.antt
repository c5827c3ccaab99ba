-- A literal of a path whose literals are all true.
use Rattle.std.proofs.Common.{ℕ, ◌-◌, subst, List}
use Rattle.std.specs.List.{All}
use Rattle.std.proofs.lemmas.Option.{slice_get_within, get_or_from_slice_get}
use Rattle.hp_lit.specs.declared.literal.Lit.{Lit}
use Rattle.hp_lit.specs.Truth.{Values, IsTrueAt}
use Rattle.hp_lit.specs.Cycle.{IsLit}

pub lit_true : (v : Values) (path : List Lit) (n : ℕ) (l : Lit) → IsLit path n l → All (IsTrueAt v) path → IsTrueAt v l
lit_true v path n l at all = subst (IsTrueAt v) (get_or_from_slice_get path (n - 1) l l at.1) (all (n - 1) l (slice_get_within path (n - 1) l at.1))
