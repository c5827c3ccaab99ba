-- The class of a group of pointer fields, as it is made.
use Rattle.std.specs.Prelude.{ℕ, List}
use Rattle.hp_tree.specs.Value.{Word}
use Rattle.hp_defs.specs.Names.{NameList}
use Rattle.hp_norm.specs.declared.flat.FlatClause.{FlatClause}
use Rattle.hp_fields.specs.Fields.{pointer_terms}
use Rattle.hp_field.specs.declared.fields.Fields.{Fields}

abbrev pub fields_at : NameList → List ℕ → List Word → List ℕ → List FlatClause → Fields
fields_at names own words applied clauses = record { own = own; words = words; applied = applied; clauses = clauses; terms = pointer_terms names }
