-- The greatest magnitude of bounds.
use Rattle.std.proofs.Common.{◌≡◌, ℕ, ◌+◌, ◌*◌, ◌/◌, ◌^◌, ◌<◌, ◌≤◌, arith}
use Rattle.std.proofs.Math.Nat.{mul-le-mul_right, mul-div-le, le-div_iff_mul-le}
use Rattle.std.proofs.Common.{List, rules, pos, ◌+ℤ◌, ◌≤ℤ◌, FitsSigned, to_z, of_z, ℤ}
use Rattle.std.specs.Int.{w128}
use Rattle.std.proofs.lemmas.Int.{ints, to_z-of_z}
use Rattle.hp_diff.specs.declared.edges.Edge.{Edge}
use Rattle.hp_diff.specs.declared.labels.Labels.{Labels}
use Rattle.hp_diff.specs.inner.Labels.{limit_of, now_at, EdgeFits, AreLabels, AreLatest, AreShallow}

pub limit_next : (d l : ℕ) → (d + 1) * l ≡ d * l + l
limit_next d l = grind arith

pub limit_within : (d n : ℕ) → d ≤ n → d * limit_of n ≤ 10 ^ 37
unfolding limit_of
limit_within d n h = let more = mul-le-mul_right (10 ^ 37 / n) h in let all = mul-div-le (10 ^ 37) n in omega arith

pub limit_least : (n b : ℕ) → 0 < n → b * n ≤ 10 ^ 37 → b ≤ limit_of n
unfolding limit_of
limit_least n b some h = (le-div_iff_mul-le {k = n} {x = b} {y = 10 ^ 37} some).1 h

pub limit_small : (n : ℕ) → 0 < n → limit_of n ≤ 10 ^ 37
limit_small n some = let one = limit_within 1 n (omega arith) in omega arith

pub sum_fits : (a b : ℤ) → pos 0 ≤ℤ (a +ℤ pos (10 ^ 37)) → a ≤ℤ pos (10 ^ 37) → pos 0 ≤ℤ (b +ℤ pos (10 ^ 37)) → b ≤ℤ pos (10 ^ 37) → FitsSigned w128 (a +ℤ b)
sum_fits a b la ha lb hb = search rules

pub small_fits : (a : ℤ) → pos 0 ≤ℤ (a +ℤ pos (10 ^ 37)) → a ≤ℤ pos (10 ^ 37) → FitsSigned w128 a
small_fits a la ha = search rules

pub sum_fits_bits : (a b : ℤ) → pos 0 ≤ℤ (a +ℤ pos (10 ^ 37)) → a ≤ℤ pos (10 ^ 37) → pos 0 ≤ℤ (b +ℤ pos (10 ^ 37)) → b ≤ℤ pos (10 ^ 37)
    → FitsSigned w128 (to_z w128 (of_z w128 a) +ℤ to_z w128 (of_z w128 b))
sum_fits_bits a b la ha lb hb = rw (to_z-of_z w128 a (small_fits a la ha), to_z-of_z w128 b (small_fits b lb hb)) (sum_fits a b la ha lb hb)

pub edge_small : (n : ℕ) (e : Edge) → EdgeFits n e → (pos 0 ≤ℤ (e.bound +ℤ pos (10 ^ 37))) × (e.bound ≤ℤ pos (10 ^ 37))
edge_small n e f = let small = limit_small n (let to = f.to in omega arith) in let low = f.low in let high = f.high in (omega (arith, ints), omega (arith, ints))

pub label_small : (edges : List Edge) (n : ℕ) (s : Labels) (x : ℕ) → AreLabels edges n s.made → AreLatest n s → AreShallow n s.made → x < n
    → (pos 0 ≤ℤ ((now_at s x).value +ℤ pos (10 ^ 37))) × ((now_at s x).value ≤ℤ pos (10 ^ 37))
label_small edges n s x a t d h =
    let l = a.each _ (t.within x h) in
    let low = l.low in
    let high = l.high in
    let shallow = d.each _ (t.within x h) in
    let within = limit_within (now_at s x).depth n (omega arith) in
    (omega (arith, ints), omega (arith, ints))
