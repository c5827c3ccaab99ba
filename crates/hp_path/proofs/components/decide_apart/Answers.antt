use Rattle.std.proofs.Common.{◌≡◌, ◌≤◌, ◌<◌, ◌+◌, ◌++◌, sym, ◌∙◌, ap, subst, arith, length, get_or, false, replicate}
use Rattle.std.proofs.lemmas.List.{nil_from_length}
use Rattle.hp_lit.specs.declared.literal.NumLit.{NumLit}
use Rattle.hp_lit.specs.declared.valuation.NameValue.{NameValue}
use Rattle.std.specs.List.{All, filter}
use Rattle.hp_path.specs.Components.{first_label, has_label, is_done, label_at}
use Rattle.hp_path.specs.Placed.{AreSolving}
use Rattle.hp_path.specs.inner.Sides.{AreOfLabel, DecidesPart}
use Rattle.hp_path.proofs.Gathering.{done_read, label_small, settled_found, settled_none, settled_past, settled_unknown, solved_all}
use Rattle.hp_path.proofs.components.decide_apart.Goals as goal
use Rattle.hp_path.proofs.components.decide_apart.Goals.{then-not-get+in_ok-more+in-Point+in_ok-push_values-in-Point, then-not-get+in_ok-more+in-Unknown+in_ok-push-in-Unknown, else-not-get}

pub get-requires : goal.get-requires
get-requires c =
    let labels = c.args.labelled.now.labels in
    let nums = c.args.parts.now.nums in
    let at : c.lit-item.result ≡ get_or nums c.loop-lit.lit-index c.lit-item.result = c.lit-item.is ∙ ap (λ ls. get_or ls c.loop-lit.lit-index c.lit-item.result) c.as_slice-lit-items.ensures in
    let l : c.loop-lit.lit-index < length nums = subst (λ ls. c.loop-lit.lit-index < length ls) c.as_slice-lit-items.ensures c.loop-lit-test.true in
    let e = c.first_label-label.ensures ∙ ap (first_label labels) c.as_slice.ensures in
    omega (arith, label_small labels nums c.lit-item.result c.loop-lit.lit-index c.requires.labelled.labels l at, e, c.loop-lit.invariant.count)

pub decide_component-requires-clause-label : goal.decide_component-requires-clause-label
decide_component-requires-clause-label c =
    let labels = c.args.labelled.now.labels in
    let nums = c.args.parts.now.nums in
    let at : c.lit-item.result ≡ get_or nums c.loop-lit.lit-index c.lit-item.result = c.lit-item.is ∙ ap (λ ls. get_or ls c.loop-lit.lit-index c.lit-item.result) c.as_slice-lit-items.ensures in
    let l : c.loop-lit.lit-index < length nums = subst (λ ls. c.loop-lit.lit-index < length ls) c.as_slice-lit-items.ensures c.loop-lit-test.true in
    let e = c.first_label-label.ensures ∙ ap (first_label labels) c.as_slice.ensures in
    omega (arith, label_small labels nums c.lit-item.result c.loop-lit.lit-index c.requires.labelled.labels l at, e)

pub loop-lit-init : goal.loop-lit-init
loop-lit-init c =
    let ss = c.args.sorts.now in
    let labels = c.args.labelled.now.labels in
    let nums = c.args.parts.now.nums in
    let places = c.args.parts.now.num_places in
    let e = c.in_ok-done.ensures ∙ ap (λ n. replicate (n + 1) false) c.len.ensures in
    settled_none ss c.args.pace labels nums places c.in_ok-done.done c.new-values.result c.new-unknown.result e c.new-values.ensures c.new-unknown.ensures

pub loop-lit-preserved : goal.loop-lit-preserved
loop-lit-preserved c =
    let ss = c.args.sorts.now in
    let p = c.args.pace in
    let labels = c.args.labelled.now.labels in
    let nums = c.args.parts.now.nums in
    let places = c.args.parts.now.num_places in
    let i = c.loop-lit.lit-index in
    let label = c.first_label-label.result in
    let lit = c.lit-item.result in
    let at : lit ≡ get_or nums i lit = c.lit-item.is ∙ ap (λ ls. get_or ls i lit) c.as_slice-lit-items.ensures in
    let l : i < length nums = subst (λ ls. i < length ls) c.as_slice-lit-items.ensures c.loop-lit-test.true in
    let own : label ≡ first_label labels lit.parts = c.first_label-label.ensures ∙ ap (first_label labels) c.as_slice.ensures in
    let e : label ≡ first_label labels (get_or nums i lit).parts = own ∙ ap (λ (x : NumLit). first_label labels x.parts) at in
    let below : label < length c.loop-lit.done = omega (arith, label_small labels nums lit i c.requires.labelled.labels l at, own, c.loop-lit.invariant.count) in
    let read : is_done c.loop-lit.done label ≡ c.get.result.now = done_read c.loop-lit.done label c.get.result.now c.get.ensures in
    elim c.if-not-get.branch [
      | then-not-get+in_ok-more+in-Point+in_ok-push_values-in-Point w ↦
          let decided : AreSolving ss (filter (has_label labels label) nums) w.in-Point.more = subst (DecidesPart ss p c.args.lits.now c.args.parts.now labels label) w.in-Point.is w.in_ok-more.ensures.decided in
          let names : All (λ (nv : NameValue). label_at labels nv.name.0 ≡ label) w.in-Point.more = subst (AreOfLabel labels label) w.in-Point.is w.in_ok-more.ensures.names in
          let pushed : c.if-not-get.values ≡ c.loop-lit.values ++ w.in-Point.more = w.values-is ∙ w.in_ok-push_values-in-Point.ensures ∙ ap (λ m. c.loop-lit.values ++ m) w.as_slice-in-Point.ensures in
          settled_found ss p labels nums places i lit c.loop-lit.done c.if-not-get.done c.loop-lit.values c.if-not-get.values w.in-Point.more c.loop-lit.unknown c.if-not-get.unknown label l
          c.loop-lit.invariant e below (read ∙ w.if-not-get.true) decided names (w.done-is ∙ w.set.ensures) pushed w.unknown-is
      | then-not-get+in_ok-more+in-Unknown+in_ok-push-in-Unknown w ↦
          let here = subst (DecidesPart ss p c.args.lits.now c.args.parts.now labels label) w.in-Unknown.is w.in_ok-more.ensures.decided in
          settled_unknown ss p labels nums places i lit c.loop-lit.done c.if-not-get.done c.loop-lit.values c.if-not-get.values c.loop-lit.unknown c.if-not-get.unknown w.in-Unknown.places label
          c.loop-lit.invariant (w.done-is ∙ w.set.ensures) (w.unknown-is ∙ w.in_ok-push-in-Unknown.ensures.ok)
          (record { labels = labels; label = label; are = c.requires.labelled.labels; is = here.0; given_up = here.1 })
      | else-not-get w ↦
          settled_past ss p labels nums places i lit c.loop-lit.done c.if-not-get.done c.loop-lit.values c.if-not-get.values c.loop-lit.unknown c.if-not-get.unknown l c.loop-lit.invariant
          (ap (is_done c.loop-lit.done) (sym e) ∙ read ∙ w.if-not-get.false) w.done-is w.values-is w.unknown-is
    ]

pub returns-then-len-eq0 : goal.returns-then-len-eq0
returns-then-len-eq0 c =
    let nums = c.args.parts.now.nums in
    let n = ap length c.as_slice-lit-items.ensures in
    let end : length nums ≤ c.loop-lit.lit-index = omega (arith, n, c.loop-lit-test.false) in
    solved_all c.args.sorts.now c.args.labelled.now.labels nums c.loop-lit.lit-index c.loop-lit.done c.loop-lit.values end (c.loop-lit.invariant.solved (nil_from_length c.loop-lit.unknown (omega arith)))
