-- Terms of clauses with variables: each application without variables becomes a name, and one with a variable in it stays.
use Rattle.std.specs.Prelude.{ℕ, List, Bool, true, false, ◌||◌}
use Rattle.std.specs.List.{list_any}
use Rattle.std.specs.Str.{bytes_eq}
use Rattle.hp_tree.specs.declared.term.Term.{Term, fold-Term, Number, Null, Name, Apply, Add, Sub, Neg, Scale}
use Rattle.hp_tree.specs.declared.term.Term.TheOpen.{Term-F}
use Rattle.hp_tree.specs.declared.problem.Atom.{Atom}
use Rattle.hp_tree.specs.declared.problem.Var.{Var}
use Rattle.hp_tree.specs.Value.{Word}
use Rattle.hp_base.specs.Making.{Maker, ◌then◌, each, keep}
use Rattle.hp_norm.specs.Naming.{named, one, two}
use Rattle.hp_norm.specs.Trees.{by_term}

-- ---- variables
abbrev pub is_variable : List Var → Word → Bool
is_variable vars word = list_any (λ v. bytes_eq v.name word) vars

abbrev pub mentions_step : List Var → Term-F Bool → Bool
mentions_step vars (Term-F.Number q) = false
mentions_step vars Term-F.Null = false
mentions_step vars (Term-F.Name word) = is_variable vars word
mentions_step vars (Term-F.Apply func args) = list_any (λ b. b) args
mentions_step vars (Term-F.Add a b) = a || b
mentions_step vars (Term-F.Sub a b) = a || b
mentions_step vars (Term-F.Neg a) = a
mentions_step vars (Term-F.Scale q a) = a

-- a variable occurs in the term
abbrev pub mentions : List Var → Term → Bool
mentions vars = fold-Term Bool (mentions_step vars)

-- ---- terms
abbrev pub run : Maker Term → Maker Term
run m = m

-- the same function at arguments that are made from left to right
abbrev pub kept_application : Word → List (Maker Term) → Maker Term
kept_application func args g = each run args g then λ xs. keep (Apply func xs)

-- an application with a variable in it keeps its function, and one without becomes a name
abbrev pub opened_application : ℕ → Bool → Term → Word → List (Maker Term) → Maker Term
opened_application item true term func args = kept_application func args
opened_application item false term func args = named item term

abbrev pub opening_step : List Var → ℕ → Term → Term-F (Maker Term) → Maker Term
opening_step vars item term (Term-F.Number q) = keep (Number q)
opening_step vars item term Term-F.Null = keep Null
opening_step vars item term (Term-F.Name word) = keep (Name word)
opening_step vars item term (Term-F.Apply func args) = opened_application item (mentions vars term) term func args
opening_step vars item term (Term-F.Add a b) = two Add a b
opening_step vars item term (Term-F.Sub a b) = two Sub a b
opening_step vars item term (Term-F.Neg a) = one Neg a
opening_step vars item term (Term-F.Scale q a) = one (Scale q) a

-- a term of an item with these variables, with a name for each application in which none of them occurs
abbrev pub opened : List Var → ℕ → Term → Maker Term
opened vars item = by_term (opening_step vars item)

-- ---- atoms
abbrev pub opened_atom : List Var → ℕ → Atom → Maker Atom
opened_atom vars item atom g =
    opened vars item atom.left g then λ left. λ mid.
    opened vars item atom.right mid then λ right.
    keep (record { left = left; cmp = atom.cmp; right = right })

abbrev pub opened_atoms : List Var → ℕ → List Atom → Maker (List Atom)
opened_atoms vars item = each (opened_atom vars item)
