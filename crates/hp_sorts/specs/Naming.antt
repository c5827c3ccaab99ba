-- Whether the names of a term are declared, and its functions applied to as many arguments as declared.
use Rattle.std.specs.Prelude.{ℕ, Bool, true, false, ◌&&◌, ◌||◌, Option, Some, None, length, nat_eq}
use Rattle.std.specs.List.{list_all}
use Rattle.hp_tree.specs.declared.term.Term.{Term, fold-Term}
use Rattle.hp_tree.specs.declared.term.Term.TheOpen.{Term-F}
use Rattle.hp_tree.specs.declared.problem.Atom.{Atom}
use Rattle.hp_sorts.specs.declared.tables.SortTable.{SortTable}
use Rattle.hp_sorts.specs.declared.tables.Signature.{Signature}
use Rattle.hp_sorts.specs.declared.tables.Tables.{Tables}
use Rattle.hp_sorts.specs.declared.naming.NameRule.{NameRule}
use Rattle.hp_sorts.specs.declared.naming.NameRule.TheVariants.{Known, Counted}
use Rattle.hp_sorts.specs.Numbered.{Name, is_among}
use Rattle.hp_sorts.specs.Symbols.{signature_of}

-- whether a name without arguments is a variable or a constant
abbrev pub name_passes : Tables → SortTable → NameRule → Name → Bool
name_passes s vars Known name = is_among name vars.names || is_among name s.constants.names
name_passes s vars Counted name = true

abbrev pub takes : ℕ → Option Signature → Bool
takes count None = false
takes count (Some signature) = nat_eq count (length signature.args)

-- whether an applied name is a function, or a function of so many arguments
abbrev pub application_passes : Tables → NameRule → Name → ℕ → Bool
application_passes s Known func count = is_among func s.functions
application_passes s Counted func count = takes count (signature_of s func)

abbrev pub passes_step : Tables → SortTable → NameRule → Term-F Bool → Bool
passes_step s vars rule (Term-F.Number value) = true
passes_step s vars rule Term-F.Null = true
passes_step s vars rule (Term-F.Name name) = name_passes s vars rule name
passes_step s vars rule (Term-F.Apply func args) = application_passes s rule func (length args) && list_all (λ passes. passes) args
passes_step s vars rule (Term-F.Add left right) = left && right
passes_step s vars rule (Term-F.Sub left right) = left && right
passes_step s vars rule (Term-F.Neg inner) = inner
passes_step s vars rule (Term-F.Scale value inner) = inner

-- whether each name of a term meets the rule
abbrev pub term_passes : Tables → SortTable → NameRule → Term → Bool
term_passes s vars rule = fold-Term Bool (passes_step s vars rule)

abbrev pub atom_passes : Tables → SortTable → NameRule → Atom → Bool
atom_passes s vars rule atom = term_passes s vars rule atom.left && term_passes s vars rule atom.right
