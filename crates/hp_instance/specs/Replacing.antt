-- The arguments of a clause as terms, which take the places of its variables.
use Rattle.std.specs.Prelude.{◌<◌, List, [], ◌∷◌, if◌then◌else◌, map, Option, Some, None, slice_index_or}
use Rattle.std.specs.Str.{bytes_eq}
use Rattle.hp_math.specs.Rational.{whole}
use Rattle.hp_tree.specs.declared.term.Term.{Term, Number, Null, Name, Add}
use Rattle.hp_tree.specs.declared.problem.Var.{Var}
use Rattle.hp_tree.specs.declared.problem.Atom.{Atom}
use Rattle.hp_tree.specs.Value.{Word}
use Rattle.hp_lit.specs.declared.literal.Name as literal
use Rattle.hp_lit.specs.declared.line.Arg.{Arg}
use Rattle.hp_lit.specs.declared.line.Arg.TheVariants as arg
use Rattle.hp_defs.specs.Names.{NameList, count, words}
use Rattle.hp_local.specs.Substitution.{substitute_atom}

-- the word of a name
abbrev pub name_word : NameList → literal.Name → Word
name_word names name = slice_index_or (words names) name.0 []

-- ---- arguments whose names there are
abbrev pub IsKnownBase : NameList → Option literal.Name → Type 0
IsKnownBase names None = Unit {0}
IsKnownBase names (Some name) = name.0 < count names

abbrev pub IsKnownArg : NameList → Arg → Type 0
IsKnownArg names (arg.Number q) = Unit {0}
IsKnownArg names (arg.Named name) = name.0 < count names
IsKnownArg names (arg.Index base offset) = IsKnownBase names base
IsKnownArg names arg.Null = Unit {0}

-- ---- arguments as terms
abbrev pub index_term : NameList → Option literal.Name → Term → Term
index_term names None offset = offset
index_term names (Some name) offset = Add (Name (name_word names name)) offset

abbrev pub arg_term : NameList → Arg → Term
arg_term names (arg.Number q) = Number q
arg_term names (arg.Named name) = Name (name_word names name)
arg_term names (arg.Index base offset) = index_term names base (Number (whole offset))
arg_term names arg.Null = Null

abbrev pub arg_terms : NameList → List Arg → List Term
arg_terms names args = map (arg_term names) args

-- ---- in the places of variables
-- the term of the first variable with this word, and any other word as a name
abbrev pub replaced_word : List Var → List Term → Word → Term
replaced_word [] terms word = Name word
replaced_word (v ∷ vars) [] word = Name word
replaced_word (v ∷ vars) (term ∷ terms) word = if bytes_eq v.name word then term else replaced_word vars terms word

-- each variable becomes the argument at its place, and every other name stays
abbrev pub replacement : NameList → List Var → List Arg → Word → Term
replacement names vars args = replaced_word vars (arg_terms names args)

abbrev pub replaced_atoms : NameList → List Var → List Arg → List Atom → List Atom
replaced_atoms names vars args = map (substitute_atom (replacement names vars args))
