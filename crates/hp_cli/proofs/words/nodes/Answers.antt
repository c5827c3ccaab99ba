-- A number of nodes is written in one way, and that way is read back as the number.
use Rattle.std.proofs.Common.{◌∙◌, ℕ, List, Some, sym, ap, arith}
use Rattle.std.specs.Str.{bytes_eq}
use Rattle.std.specs.Fmt.{decimal}
use Rattle.std.proofs.lemmas.Fmt.{parse-decimal}
use Rattle.hp_cli.proofs.WordLists.{ok_same, text_same}
use Rattle.hp_cli.proofs.words.nodes.Goals as goal
use Rattle.hp_cli.proofs.words.nodes.Goals.{else-is_canonical-via-then-is_canonical+then-most-ge1+else-most-le1000000, else-is_canonical-via-then-is_canonical+else-most-ge1, else-is_canonical-via-else-is_canonical}

pub returns-then-most-le1000000-clause-only : goal.returns-then-most-le1000000-clause-only
returns-then-most-le1000000-clause-only c = λ m e low high.
    let read = parse-decimal 32 m c.as_str.result.now c.parse.result (omega arith) (omega arith) (c.as_str.ensures.value ∙ e) c.parse.ensures.value.0 in
    let same = ok_same _ _ (sym c.in-Ok.is ∙ read) in
    ap Some (c.from.ensures ∙ same)

pub returns-else-is_canonical-clause-only : goal.returns-else-is_canonical-clause-only
returns-else-is_canonical-clause-only c = λ m e low high.
    let read = parse-decimal 32 m c.as_str.result.now c.parse.result (omega arith) (omega arith) (c.as_str.ensures.value ∙ e) c.parse.ensures.value.0 in
    let same = ok_same _ _ (sym c.in-Ok.is ∙ read) in
    let text = c.format.ensures.text ∙ ap decimal same ∙ sym (c.as_str-in-Ok.ensures.value ∙ e) in
    let equal = c.eq-is_canonical.ensures in
    absurd (elim c.else-is_canonical.branch [
      | else-is_canonical-via-then-is_canonical+then-most-ge1+else-most-le1000000 w ↦ omega arith
      | else-is_canonical-via-then-is_canonical+else-most-ge1 w ↦ omega arith
      | else-is_canonical-via-else-is_canonical w ↦ (let yes = equal ∙ ap (λ (t : List ℕ). bytes_eq t c.as_str-in-Ok.result.now) text ∙ text_same c.as_str-in-Ok.result.now in let no_match = w.if-is_canonical.false in cc)
    ])

pub returns-in-Err-clause-only : goal.returns-in-Err-clause-only
returns-in-Err-clause-only c = λ m e low high.
    let read = parse-decimal 32 m c.as_str.result.now c.parse.result (omega arith) (omega arith) (c.as_str.ensures.value ∙ e) c.parse.ensures.value.0 in
    absurd (let is = c.in-Err.is in cc)
