use Rattle.std.proofs.Common.{◌≡◌, map, drop}
use Rattle.std.specs.List.{list_all}
use Rattle.hp_sorts.specs.Naming.{term_passes}
use Rattle.hp_sorts.proofs.naming.+passes.Given as goal

abbrev pub invariant-all_pass-loop-term : goal.invariant-all_pass-loop-term
invariant-all_pass-loop-term l =
    list_all (λ b. b) (map (term_passes l.tables l.vars l.rule) l.terms) ≡ list_all (λ b. b) (map (term_passes l.tables l.vars l.rule) (drop l.term-index l.terms))
