-- What naming does to a ground set: what was there is in front, and lines that are added are true where sums have the values of their forms.
use Rattle.std.proofs.Common.{◌≡◌, ℕ, List, Ok, sym, subst}
use Rattle.hp_tree.specs.declared.term.Term.{Term}
use Rattle.hp_tree.specs.declared.problem.Sort.{Sort}
use Rattle.hp_lit.specs.declared.literal.Name.{Name}
use Rattle.hp_lit.specs.declared.line.Arg.{Arg}
use Rattle.hp_defs.specs.declared.names.Ground.{Ground}
use Rattle.hp_base.specs.Defining.{definition_of}
use Rattle.hp_base.specs.Arguments.{argument_of}
use Rattle.hp_norm.specs.Sound.{AreTrue, Grew}
use Rattle.hp_base.proofs.Making.{begins_same, begins_trans}
use Rattle.hp_base.proofs.ArgsDefinitions.{definitions_begin, definitions_keep_lines}
use Rattle.hp_base.proofs.ArgsMade.{arguments_begin, arguments_keep_truth}

pub grew_same : (g : Ground) → Grew g g
grew_same g = record { begins = begins_same g; truth = λ end v b hold. (λ all. all, λ all. all) }

pub grew_through : (old mid new : Ground) → Grew old mid → Grew mid new → Grew old new
grew_through old mid new p q = record {
  begins = begins_trans old mid new p.begins q.begins;
  truth = λ end v b hold.
      let first = p.truth end v (begins_trans mid new end q.begins b) hold in
      let rest = q.truth end v b hold in
      (λ all. rest.0 (first.0 all), λ all. first.1 (rest.1 all));
}

pub argument_grew : (item : ℕ) (sort : Sort) (term : Term) (arg : Arg) (before after : Ground) → argument_of item sort term before ≡ Ok (arg, after) → Grew before after
argument_grew item sort term arg before after e = record {
  begins = arguments_begin item sort term arg before after e;
  truth = λ end v b hold. arguments_keep_truth item sort term arg before after end v e b hold;
}

pub definition_grew : (func : ℕ) (args : List Arg) (name : Name) (before after : Ground) → definition_of func args before ≡ Ok (name, after) → Grew before after
definition_grew func args name before after e =
    let same = definitions_keep_lines func args name before after e in
    record {
      begins = definitions_begin func args name before after e;
      truth = λ end v b hold. (λ all. subst (AreTrue v) (sym same) all, λ all. subst (AreTrue v) same all);
    }
