-- A group of fields stays one while names are added.
use Rattle.std.proofs.Common.{ℕ, List}
use Rattle.hp_tree.specs.Value.{Word}
use Rattle.hp_lit.specs.declared.line.Arg.{Arg}
use Rattle.hp_defs.specs.Names.{BeginsNames, NameList}
use Rattle.hp_defs.proofs.Growing.{begins_through}
use Rattle.hp_norm.specs.declared.flat.FlatClause.{FlatClause}
use Rattle.hp_fields.specs.Fields.{IsFieldGroup}

pub fields_stay : (old new : NameList) (own : List ℕ) (words : List Word) (applied : List ℕ) (clauses : List FlatClause) (terms : List Arg)
    → IsFieldGroup old own words applied clauses terms → BeginsNames old new → IsFieldGroup new own words applied clauses terms
fields_stay old new own words applied clauses terms lent begins = record {
  front = lent.front;
  begins = begins_through lent.front old new lent.begins begins;
  made = lent.made;
  is = lent.is;
  terms_are = lent.terms_are;
}
