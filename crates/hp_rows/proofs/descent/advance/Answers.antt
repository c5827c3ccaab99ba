use Rattle.std.proofs.Common.{◌≡◌, reverse, sym, ◌∙◌, subst, true, false}
use Rattle.std.proofs.lemmas.List.{get_or_read}
use Rattle.hp_rows.specs.Rows.{Holds, row_at, no_row}
use Rattle.hp_rows.specs.Points.{at_point}
use Rattle.hp_rows.specs.inner.Steps.{first_is}
use Rattle.hp_rows.proofs.Steps.{popped, held}
use Rattle.hp_rows.proofs.descent.advance.Goals as goal

pub returns-then-is_last : goal.returns-then-is_last
returns-then-is_last c =
    let f : first_is c.args.state.now.at (reverse c.args.state.now.chain) ≡ true = rw c.as_slice.ensures at (sym c.is_last.ensures ∙ c.if-is_last.true) in
    let r = popped c.args.rows.now c.args.width c.requires.wide c.args.state.now.chain c.pop.new.self c.args.state.now.lines c.pop-then-is_last.new.self (reverse c.args.state.now.found) c.args.state.now.point c.args.state.now.at
    c.requires.state f c.pop.result c.pop.ensures c.pop-then-is_last.result c.pop-then-is_last.ensures in
    record { state = r.state; rises = r.rises }

pub returns-in-Ok-false : goal.returns-in-Ok-false
returns-in-Ok-false c =
    let f : first_is c.args.state.now.at (reverse c.args.state.now.chain) ≡ false = rw c.as_slice.ensures at (sym c.is_last.ensures ∙ c.if-is_last.false) in
    let e = rw c.in-Ok-false.field-0-test at c.in-Ok-false.is in
    let h = rw (e, c.as_slice-2.ensures) at c.is_broken.ensures in
    let i : c.index-rows-state.result ≡ row_at c.args.rows.now c.args.state.now.at = get_or_read c.args.rows.now c.args.state.now.at c.index-rows-state.result c.requires.more c.index-rows-state.is no_row in
    let r = held c.args.rows.now c.args.width c.requires.wide (reverse c.args.state.now.chain) (reverse c.args.state.now.lines) (reverse c.args.state.now.found) c.args.state.now.point c.args.state.now.at
    c.requires.state c.requires.more f (subst (λ r. Holds r (at_point c.args.state.now.point)) i h) in
    record { state = r.state; rises = r.rises }
