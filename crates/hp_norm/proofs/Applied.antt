-- The name of an application, from its arguments and its definition.
use Rattle.std.proofs.Common.{◌≡◌, ℕ, List, Option, Some, Result, Ok, sym, ap, ◌∙◌}
use Rattle.std.specs.Prelude.{slice_get}
use Rattle.hp_tree.specs.declared.limit.Limit.{Limit as Which}
use Rattle.hp_tree.specs.declared.term.Term.{Term}
use Rattle.hp_tree.specs.declared.problem.Sort.{Sort}
use Rattle.hp_lit.specs.declared.literal.Name.{Name}
use Rattle.hp_lit.specs.declared.line.Arg.{Arg}
use Rattle.hp_defs.specs.declared.names.Ground.{Ground}
use Rattle.hp_defs.specs.declared.names.Signature.{Signature}
use Rattle.hp_base.specs.Making.{Maker, ◌then◌}
use Rattle.hp_base.specs.Defining.{definition_of}
use Rattle.hp_norm.specs.Naming.{arguments, name_term, signed}

module _ (item : ℕ) (args : List (Maker Term)) (func : ℕ) where
  abbrev named_at : Name → Maker Term
  named_at name end = Ok (name_term end.names name, end)

  abbrev defined : List Arg → Maker Term
  defined xs mid = definition_of func xs mid then named_at

  pub application_made : (signature : Signature) (sorts : List Sort) (g mid end : Ground) (xs : List Arg) (name : Name) (term : Term)
      → slice_get g.names.signatures func ≡ Some signature → sorts ≡ signature.args → arguments item sorts args g ≡ Ok (xs, mid)
      → definition_of func xs mid ≡ Ok (name, end) → term ≡ name_term end.names name
      → signed item args func (slice_get g.names.signatures func) g ≡ Ok (term, end)
  application_made signature sorts g mid end xs name term known same made found is =
      ap (λ (o : Option Signature). signed item args func o g) known
      ∙ ap (λ (ss : List Sort). arguments item ss args g then defined) (sym same)
      ∙ ap (λ (r : Result (List Arg × Ground) Which). r then defined) made
      ∙ ap (λ (r : Result (Name × Ground) Which). r then named_at) found
      ∙ ap (λ (t : Term). Ok (t, end)) (sym is)
