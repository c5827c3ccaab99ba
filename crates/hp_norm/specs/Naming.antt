-- Terms whose applications become names: inner before outer, arguments from left to right, each argument whole before the next.
use Rattle.std.specs.Prelude.{ℕ, suc, ◌-◌, List, [], ◌∷◌, length, Option, Some, None, Ok, position, slice_get}
use Rattle.std.specs.Str.{bytes_eq}
use Rattle.hp_tree.specs.declared.term.Term.{Term, fold-Term, Number, Null, Name, Add, Sub, Neg, Scale}
use Rattle.hp_tree.specs.declared.term.Term.TheOpen.{Term-F}
use Rattle.hp_tree.specs.declared.problem.Sort.{Sort}
use Rattle.hp_tree.specs.declared.problem.Atom.{Atom}
use Rattle.hp_tree.specs.Value.{Word}
use Rattle.hp_terms.specs.Words.{made_word}
use Rattle.hp_lit.specs.declared.literal.Name as literal
use Rattle.hp_lit.specs.declared.line.Arg.{Arg}
use Rattle.hp_defs.specs.declared.names.Signature.{Signature}
use Rattle.hp_defs.specs.Names.{NameList, function_words}
use Rattle.hp_base.specs.Making.{Maker, ◌then◌, each, keep}
use Rattle.hp_base.specs.Defining.{definition_of}
use Rattle.hp_base.specs.Arguments.{argument_of}

-- ---- arguments
-- a term that is yet to be named, at a place of this sort
pub record Placed : Type 0 where
  pub named : Maker Term
  pub sort : Sort

abbrev pub placed : List (Maker Term) → List Sort → List Placed
placed (m ∷ ms) (sort ∷ sorts) = record { named = m; sort = sort } ∷ placed ms sorts
placed _ _ = []

abbrev pub placed_argument : ℕ → Placed → Maker Arg
placed_argument item p g = p.named g then λ term. argument_of item p.sort term

abbrev pub arguments : ℕ → List Sort → List (Maker Term) → Maker (List Arg)
arguments item sorts terms = each (placed_argument item) (placed terms sorts)

-- ---- applications
-- the word of a definition as a term
abbrev pub name_term : NameList → literal.Name → Term
name_term names name = Name (made_word (suc (name.0 - length names.constants)))

abbrev pub application : ℕ → List (Maker Term) → ℕ → Signature → Maker Term
application item args func signature g =
    arguments item signature.args args g then λ xs. λ mid.
    definition_of func xs mid then λ name. λ end.
    Ok (name_term end.names name, end)

abbrev pub signed : ℕ → List (Maker Term) → ℕ → Option Signature → Maker Term
signed item args func None = keep Null
signed item args func (Some signature) = application item args func signature

-- an application of a function that there isn't counts as null
abbrev pub applied_at : ℕ → List (Maker Term) → Option ℕ → Maker Term
applied_at item args None g = Ok (Null, g)
applied_at item args (Some func) g = signed item args func (slice_get g.names.signatures func) g

abbrev pub applied : ℕ → Word → List (Maker Term) → Maker Term
applied item word args g = applied_at item args (position (bytes_eq word) (function_words g.names)) g

-- ---- terms
abbrev pub one : (Term → Term) → Maker Term → Maker Term
one build m g = m g then λ x. keep (build x)

abbrev pub two : (Term → Term → Term) → Maker Term → Maker Term → Maker Term
two build m n g = m g then λ x. λ mid. n mid then λ y. keep (build x y)

abbrev pub name_step : ℕ → Term-F (Maker Term) → Maker Term
name_step item (Term-F.Number q) = keep (Number q)
name_step item Term-F.Null = keep Null
name_step item (Term-F.Name word) = keep (Name word)
name_step item (Term-F.Apply word args) = applied item word args
name_step item (Term-F.Add a b) = two Add a b
name_step item (Term-F.Sub a b) = two Sub a b
name_step item (Term-F.Neg a) = one Neg a
name_step item (Term-F.Scale q a) = one (Scale q) a

-- a term of an item with a name for each of its applications
abbrev pub named : ℕ → Term → Maker Term
named item = fold-Term (Maker Term) (name_step item)

-- ---- atoms
abbrev pub named_atom : ℕ → Atom → Maker Atom
named_atom item atom g =
    named item atom.left g then λ left. λ mid.
    named item atom.right mid then λ right.
    keep (record { left = left; cmp = atom.cmp; right = right })

abbrev pub named_atoms : ℕ → List Atom → Maker (List Atom)
named_atoms item = each (named_atom item)
