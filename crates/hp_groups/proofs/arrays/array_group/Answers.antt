use Rattle.std.proofs.Common.{◌∙◌, ◌&&◌, ◌<◌, List, ℕ, length, ap, subst, sym}
use Rattle.std.specs.Prelude.{slice_get}
use Rattle.std.specs.List.{All}
use Rattle.std.proofs.lemmas.List.Elements.{All-filter}
use Rattle.hp_rules.specs.Rules.{has_level, is_array}
use Rattle.hp_ruled.specs.Laws.{array_clauses, place_words}
use Rattle.hp_groups.specs.declared.group.Group.TheVariants.{Arrays}
use Rattle.hp_groups.proofs.Grouping.{are_group, group_is}
use Rattle.hp_groups.proofs.arrays.array_group.Goals as goal

pub place_words-requires : goal.place_words-requires
place_words-requires c =
    let signatures = c.args.names.now.signatures in
    record {
      known = subst (λ (funcs : List ℕ). All (λ func. func < length signatures) funcs) (sym (c.as_slice.ensures ∙ c.in_ok-own.ensures))
          (All-filter (λ func. is_array c.args.ruled.now func && has_level c.args.level (slice_get signatures func)) (λ func. func < length signatures) c.args.order.now c.requires.known);
    }

pub new-requires : goal.new-requires
new-requires c = record {
  arrays = are_group c.args.names.now c.args.clauses.now c.args.ruled.now c.args.order.now c.args.level c.in_ok-own.own c.in_ok-words.words c.in_ok-over.over
      c.in_ok-own.ensures (c.in_ok-words.ensures ∙ ap (place_words c.args.names.now.signatures) c.as_slice.ensures) (c.in_ok-over.ensures ∙ ap (array_clauses c.args.level) c.as_slice-2.ensures)
      c.requires.ruled c.requires.whole;
}

pub returns : goal.returns
returns c =
    ap Arrays c.new.ensures.made
    ∙ group_is c.args.names.now c.args.clauses.now c.args.ruled.now c.args.order.now c.args.level c.in_ok-own.own c.in_ok-words.words c.in_ok-over.over
    c.in_ok-own.ensures (c.in_ok-words.ensures ∙ ap (place_words c.args.names.now.signatures) c.as_slice.ensures) (c.in_ok-over.ensures ∙ ap (array_clauses c.args.level) c.as_slice-2.ensures)
