-- The structure that values of names give: pointers by rank, and for each function the table of its class.
use Rattle.std.specs.Prelude.{ℕ, suc, List, [], ◌∷◌, ◌++◌}
use Rattle.hp_lit.specs.Truth.{Values}
use Rattle.hp_defs.specs.declared.names.Signature.{Signature}
use Rattle.hp_defs.specs.Names.{NameList, constant_words, count, sorts}
use Rattle.hp_model.specs.declared.structure.Structure.{Structure}
use Rattle.hp_model.specs.declared.structure.Table.{Table}
use Rattle.hp_rank.specs.Ranks.{ranked, universe_size}
use Rattle.hp_class.specs.Frame.{const_values}
use Rattle.hp_groups.specs.Groups.{Reading, function_tables}

-- the tables of functions with these signatures in their order, the first of which has this place
abbrev pub tables_from : Reading → ℕ → ℕ → List Signature → NameList → Values → List Table
tables_from read size func [] names v = []
tables_from read size func (s ∷ ss) names v = function_tables read func s size names v ++ tables_from read size (suc func) ss names v

-- over values whose pointers are in a universe of so many
abbrev pub structure_over : Reading → ℕ → NameList → Values → Structure
structure_over read size names v = record {
  universe = size;
  consts = const_values (constant_words names) v;
  tables = tables_from read size 0 names.signatures names v;
}

-- null and the values of pointers by rank, for each constant its value, and for each function its table
abbrev pub structure_of : Reading → NameList → Values → Structure
structure_of read names v = structure_over read (universe_size (count names) (sorts names) v) names (ranked (count names) (sorts names) v)
