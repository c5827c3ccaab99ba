use Rattle.std.proofs.Common.{◌≡◌, sym, ◌∙◌, ap, subst, arith, length, map}
use Rattle.hp_lit.specs.declared.literal.Lit.TheVariants.{Ptr}
use Rattle.hp_lit.specs.Pointers.{IsValidPtr}
use Rattle.hp_ptreq.specs.Rows.{IsPtrAnswer}
use Rattle.hp_leaf.specs.Renumbered.{place_at, renumbered_links}
use Rattle.hp_leaf.proofs.Renumbered.{ptr_placed}
use Rattle.hp_path.specs.Kinds.{ptr_lits}
use Rattle.hp_path.specs.Parted.{ptr_places}
use Rattle.hp_path.proofs.Mixed.{fewer_pairs}
use Rattle.hp_path.proofs.Splitting.{pairs_stand}
use Rattle.hp_path.proofs.pairs.decide_pairs.Goals as goal

pub decide-requires : goal.decide-requires
decide-requires c =
    let e = ap length (c.as_slice.ensures ∙ c.requires.parts.pairs) in
    omega (arith, e, fewer_pairs c.args.lits.now, c.requires.few)

pub returns-in_ok-path-in-Conflict : goal.returns-in_ok-path-in-Conflict
returns-in_ok-path-in-Conflict c =
    let lits = c.args.lits.now in
    let ne = c.in-Conflict.ne in
    let links = c.in-Conflict.links in
    let h : IsValidPtr (map Ptr c.as_slice.result.now) ne links = subst (IsPtrAnswer c.as_slice.result.now) c.in-Conflict.is c.in_ok-values.ensures in
    let v : IsValidPtr (map Ptr (ptr_lits lits)) ne links = subst (λ ps. IsValidPtr (map Ptr ps) ne links) (c.as_slice.ensures ∙ c.requires.parts.pairs) h in
    let places : c.as_slice-places.result.now ≡ ptr_places 1 lits = c.as_slice-places.ensures ∙ c.requires.parts.pair_places in
    let number : c.place_at.result ≡ place_at (ptr_places 1 lits) ne = c.place_at.ensures ∙ ap (λ ps. place_at ps ne) places in
    let path : c.in_ok-path-in-Conflict.path ≡ renumbered_links (ptr_places 1 lits) links = c.in_ok-path-in-Conflict.ensures ∙ (λ i. renumbered_links (places i) (c.as_slice-in-Conflict.ensures i)) in
    subst (λ n. IsValidPtr lits n c.in_ok-path-in-Conflict.path) (sym number)
    (subst (IsValidPtr lits (place_at (ptr_places 1 lits) ne)) (sym path) (ptr_placed lits (map Ptr (ptr_lits lits)) (ptr_places 1 lits) ne links (pairs_stand lits) v))
