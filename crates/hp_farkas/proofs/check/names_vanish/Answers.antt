use Rattle.std.proofs.Common.{◌≡◌, ◌≤◌, ◌∙◌, sym, ap, subst, arith, pos, Err, of_z, ◌&&◌, eqb}
use Rattle.std.specs.Int.{w128}
use Rattle.std.specs.Ordering.{int_eq}
use Rattle.std.proofs.lemmas.Int.{ints}
use Rattle.std.proofs.lemmas.Result.{err_from_is_err_and}
use Rattle.hp_farkas.specs.Names.{names_of, Occurs}
use Rattle.hp_farkas.specs.Check.{vanish}
use Rattle.hp_farkas.proofs.Names.{all_names, none_left, next_name}
use Rattle.hp_farkas.proofs.Least.{IsLeast, name_least}
use Rattle.hp_farkas.proofs.Loops.{onward, onward_begin, onward_end, onward_ok, onward_err}
use Rattle.hp_farkas.proofs.check.names_vanish.Goals as goal
use Rattle.hp_farkas.proofs.check.names_vanish.Goals.{then-vanish, else-vanish}

pub names-init : goal.names-init
names-init c = record {
  within = omega arith;
  sums = λ taken a. (names_of taken, all_names taken, onward_begin (vanish taken (names_of taken)));
}

pub returns-in-None : goal.returns-in-None
returns-in-None c = λ taken a.
    let r = c.names.invariant.sums taken a in
    let least = subst (IsLeast (λ k. Occurs k taken) c.names.from) (sym (c.in-None.ensures taken a)) (name_least c.names.from taken) in
    sym (r.2 ∙ onward_end c.names.vanish taken r.0 (none_left c.names.from taken r.0 r.1 least))

pub returns-in_err-sum-in-Some : goal.returns-in_err-sum-in-Some
returns-in_err-sum-in-Some c = λ taken a.
    let r = c.names.invariant.sums taken a in
    let least = subst (IsLeast (λ k. Occurs k taken) c.names.from) (sym (c.in-Some.ensures taken a)) (name_least c.names.from taken) in
    let n = next_name c.names.from c.in-Some.name.0 taken r.0 r.1 least.0 least.1 least.2 in
    let p = err_from_is_err_and c.from_residual.result c.from_residual.ensures.1 in
    p.1 ∙ ap (λ w. Err w) p.2 ∙ sym (r.2 ∙ onward_err c.names.vanish c.in_err-sum-in-Some.field-0.0 taken c.in-Some.name.0 r.0 n.rest n.is (sym (c.sum_of_name.ensures taken a) ∙ c.in_err-sum-in-Some.was))

pub names-smaller : goal.names-smaller
names-smaller c =
    let taken = c.requires.taken in
    let least = subst (IsLeast (λ k. Occurs k taken) c.names.from) (sym (c.in-Some.ensures taken c.requires.are_taken)) (name_least c.names.from taken) in
    let l : c.names.from ≤ c.in-Some.name.0 = least.1 in
    omega arith

pub names-preserved : goal.names-preserved
names-preserved c = record {
  within = omega arith;
  sums = λ taken a.
      let r = c.names.invariant.sums taken a in
      let least = subst (IsLeast (λ k. Occurs k taken) c.names.from) (sym (c.in-Some.ensures taken a)) (name_least c.names.from taken) in
      let n = next_name c.names.from c.in-Some.name.0 taken r.0 r.1 least.0 least.1 least.2 in
      let o = onward_ok c.names.vanish c.in_ok-sum-in-Some.sum taken c.in-Some.name.0 r.0 n.rest n.is (sym (c.sum_of_name.ensures taken a) ∙ c.in_ok-sum-in-Some.was) in
      let v : (c.names.vanish && int_eq c.in_ok-sum-in-Some.sum (pos 0)) ≡ c.if-vanish.vanish =
      elim c.if-vanish.branch [
        | then-vanish w ↦ (
            let z : eqb (of_z w128 c.in_ok-sum-in-Some.sum) 0 ≡ int_eq c.in_ok-sum-in-Some.sum (pos 0) = grind (arith, ints) in
            ap (λ v. v && int_eq c.in_ok-sum-in-Some.sum (pos 0)) w.if-vanish.true ∙ sym (w.vanish-is ∙ z))
        | else-vanish w ↦ ap (λ v. v && int_eq c.in_ok-sum-in-Some.sum (pos 0)) w.if-vanish.false ∙ sym (w.vanish-is ∙ w.if-vanish.false)
      ] in
      (n.rest, n.names, r.2 ∙ o ∙ ap (λ v. onward v (vanish taken n.rest)) v);
}
