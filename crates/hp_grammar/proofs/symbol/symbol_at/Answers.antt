-- What the token says goes by its kind; the value of a numeral of at most 18 digits fits.
use Rattle.std.proofs.Common.{sym, ap, ◌∙◌}
use Rattle.hp_grammar.specs.Token.{name, numeral}
use Rattle.hp_grammar.proofs.Symbols.{kind_is, symbol_name, symbol_numeral, symbol_word, numeral_fits, cast_fits, cast_is}
use Rattle.hp_grammar.proofs.symbol.symbol_at.Goals as goal

pub numeral-value-requires : goal.numeral-value-requires
numeral-value-requires c = c.requires.numeral (kind_is _ _ (sym c.same-else-same.ensures ∙ c.if-same-2.true))

pub overflow_cast-result : goal.overflow_cast-result
overflow_cast-result c =
    let is = c.requires.numeral (kind_is _ _ (sym c.same-else-same.ensures ∙ c.if-same-2.true)) in
    cast_fits _ _ c.numeral-value.ensures.value (numeral_fits _ is)

pub returns-in_ok-from_slice : goal.returns-in_ok-from_slice
returns-in_ok-from_slice c =
    let e = symbol_name c.args.bytes.now c.args.token (sym c.same.ensures ∙ c.if-same.true) in
    ap (λ z. name z) c.in_ok-from_slice.ensures ∙ sym e

pub returns-then-same-2 : goal.returns-then-same-2
returns-then-same-2 c =
    let numeral_kind = sym c.same-else-same.ensures ∙ c.if-same-2.true in
    let e = symbol_numeral c.args.bytes.now c.args.token numeral_kind in
    let is = c.requires.numeral (kind_is _ _ numeral_kind) in
    ap (λ z. numeral z) (cast_is _ _ c.numeral-value.ensures.value (numeral_fits _ is)) ∙ sym e

pub returns-else-same-2 : goal.returns-else-same-2
returns-else-same-2 c =
    sym (symbol_word c.args.bytes.now c.args.token (sym c.same.ensures ∙ c.if-same.false) (sym c.same-else-same.ensures ∙ c.if-same-2.false))
