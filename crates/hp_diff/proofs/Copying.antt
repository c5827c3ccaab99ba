-- Values that are copied one after the other.
use Rattle.std.proofs.Common.{◌≡◌, ◌⊎◌, ℕ, ◌+◌, ◌<◌, ◌≤◌, List, length, set, sym, ap, ◌∙◌, inl, inr, arith, get_or-set_same, get_or-set_other}
use Rattle.std.specs.Prelude.{ℤ, pos}
use Rattle.std.proofs.lemmas.List.{length-set}
use Rattle.std.proofs.lemmas.Bool.{cases_eq}
use Rattle.hp_diff.specs.inner.Settled.{value_at}
use Rattle.hp_diff.specs.inner.Net.{number_at}
use Rattle.hp_diff.specs.inner.Repair.{AreSame, InQueue}

pub record IsCopying (nodes : ℕ) (queue : List ℕ) (from to : List ℤ) (at tail : ℕ) : Type 0 where
  pub count : length to ≡ nodes
  pub agree : (x : ℕ) → x < nodes → (value_at to x ≡ value_at from x) ⊎ InQueue queue at tail x

pub next_copy : (nodes : ℕ) (queue : List ℕ) (from to : List ℤ) (at tail : ℕ) (v : ℤ) → number_at queue at < nodes → v ≡ value_at from (number_at queue at) → IsCopying nodes queue from to at tail
    → IsCopying nodes queue from (set to (number_at queue at) v) (at + 1) tail
next_copy nodes queue from to at tail v h is p =
    let y = number_at queue at in
    record {
      count = length-set to y v ∙ p.count;
      agree = λ x x_in. elim (cases_eq x y) [
        | inl same ↦ inl (ap (value_at (set to y v)) same ∙ get_or-set_same to y v (pos 0) (let c = p.count in omega arith) ∙ is ∙ ap (value_at from) (sym same))
        | inr ne ↦ elim (p.agree x x_in) [
          | inl e ↦ inl (get_or-set_other to y x v (pos 0) ne ∙ e)
          | inr w ↦ elim (cases_eq w.at at) [
            | inl here ↦ absurd (ne (sym w.is ∙ ap (number_at queue) here))
            | inr other ↦ inr (record { at = w.at; low = (let l = w.low in omega arith); high = w.high; is = w.is })
          ]
        ]
      ];
    }

pub end_copy : (nodes : ℕ) (queue : List ℕ) (from to : List ℤ) (at tail : ℕ) → tail ≤ at → IsCopying nodes queue from to at tail → AreSame nodes to from
end_copy nodes queue from to at tail h p x x_in = elim (p.agree x x_in) [
  | inl e ↦ e
  | inr w ↦ absurd (let l = w.low in let t = w.high in omega arith)
]

pub record AreCopied (nodes : ℕ) (from to : List ℤ) (at : ℕ) : Type 0 where
  pub count : length to ≡ nodes
  pub same : (x : ℕ) → x < at → value_at to x ≡ value_at from x

pub next_copied : (nodes : ℕ) (from to : List ℤ) (at : ℕ) (v : ℤ) → at < nodes → v ≡ value_at from at → AreCopied nodes from to at → AreCopied nodes from (set to at v) (at + 1)
next_copied nodes from to at v h is p = record {
  count = length-set to at v ∙ p.count;
  same = λ x x_in. elim (cases_eq x at) [
    | inl e ↦ ap (value_at (set to at v)) e ∙ get_or-set_same to at v (pos 0) (let c = p.count in omega arith) ∙ is ∙ ap (value_at from) (sym e)
    | inr ne ↦ get_or-set_other to at x v (pos 0) ne ∙ p.same x (omega arith)
  ];
}
