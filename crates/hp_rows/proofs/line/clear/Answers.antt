use Rattle.std.proofs.Common.{rules, ◌≡◌, ◌<◌, Ok, pos, length, ap, ◌∙◌, sym, subst, false, unsigned_abs, map}
use Rattle.std.proofs.lemmas.List.{get_or_read}
use Rattle.hp_num.specs.Divisor.{gcd}
use Rattle.hp_rows.specs.Arithmetic.{is_nothing, over, signed_by}
use Rattle.hp_rows.specs.Lines.{entry, pivot, subtract, gcd_from}
use Rattle.hp_rows.proofs.Clearing.{cleared}
use Rattle.hp_rows.proofs.line.clear.Goals as goal

pub returns-in-Ok-divide-clause-told : goal.returns-in-Ok-divide-clause-told
returns-in-Ok-divide-clause-told c =
    let g = c.args.g.now in
    let row = c.args.row in
    let p : c.pivot-at.result < length g = subst (λ n. n < length g) (sym c.pivot-at.ensures) c.requires.pivot in
    let v : c.index-g-at.result ≡ entry g (pivot g) =
    get_or_read g c.pivot-at.result c.index-g-at.result p c.index-g-at.is (pos 0) ∙ ap (λ n. entry g n) c.pivot-at.ensures in
    let q : c.pivot-at.result < length c.as_slice.result.now = subst (λ n. c.pivot-at.result < n) (c.requires.size ∙ ap (λ l. length l) (sym c.as_slice.ensures)) p in
    let w : c.index-as_slice-at.result ≡ entry row (pivot g) =
    get_or_read c.as_slice.result.now c.pivot-at.result c.index-as_slice-at.result q c.index-as_slice-at.is (pos 0) ∙ ap (λ n. entry c.as_slice.result.now n) c.pivot-at.ensures
    ∙ ap (λ l. entry l (pivot g)) c.as_slice.ensures in
    let n : is_nothing c.index-as_slice-at.result ≡ false = search rules in
    let h : c.gcd-h.result ≡ gcd (unsigned_abs c.index-g-at.result) (unsigned_abs c.index-as_slice-at.result) = search rules in
    let d : c.over-d.result ≡ over (pos (unsigned_abs c.index-g-at.result)) c.gcd-h.result = search rules in
    let k : c.signed_by-c.result ≡ signed_by c.index-g-at.result (over c.index-as_slice-at.result c.gcd-h.result) = search rules in
    let s : subtract c.over-d.result row c.signed_by-c.result g ≡ Ok c.in-Ok.line = search rules in
    let t : c.common-divisor.result ≡ gcd_from 0 c.in-Ok.line = search rules in
    let o : c.in-Ok-divide.out ≡ map (λ z. over z c.common-divisor.result) c.in-Ok.line = search rules in
    cleared g row c.in-Ok.line c.in-Ok-divide.out c.index-g-at.result c.index-as_slice-at.result c.over-d.result c.signed_by-c.result c.gcd-h.result c.common-divisor.result v w n h d k s t o
