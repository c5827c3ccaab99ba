-- The one table of each function, by its place.
use Rattle.std.proofs.Common.{◌≡◌, ◌∙◌, ℕ, List, [], ◌∷◌, Option, Some, None, ap, sym}
use Rattle.std.specs.Prelude.{slice_get}
use Rattle.hp_tree.specs.declared.term.Term.TheVariants.{Null}
use Rattle.hp_lit.specs.Truth.{Values}
use Rattle.hp_defs.specs.declared.names.Signature.{Signature}
use Rattle.hp_defs.specs.Names.{NameList}
use Rattle.hp_model.specs.declared.structure.Table.{Table}
use Rattle.hp_groups.specs.Groups.{Reading, function_tables}
use Rattle.hp_groups.proofs.Held.{one_table}

module _ (read : Reading) (size : ℕ) (names : NameList) (v : Values) where
  abbrev pub table_with : ℕ → Option Signature → Table
  table_with func None = record { func = []; args = 0; rows = []; otherwise = Null }
  table_with func (Some s) = (one_table func s read size names v).0

  abbrev pub table_at : List Signature → ℕ → Table
  table_at ss func = table_with func (slice_get ss func)

  pub table_only : (ss : List Signature) (func : ℕ) (s : Signature) → slice_get ss func ≡ Some s → function_tables read func s size names v ≡ table_at ss func ∷ []
  table_only ss func s known = (one_table func s read size names v).1 ∙ ap (λ (o : Option Signature). table_with func o ∷ []) (sym known)
