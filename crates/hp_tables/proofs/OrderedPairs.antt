-- The pairs of applications: both are applications, and each two with different names are there.
use Rattle.std.proofs.Common.{◌≡◌, List, [], ◌∷◌, Bool, true, false, cond, nat_eq, sym, ap, subst, ◌∙◌, ◌⊎◌, inl, inr}
use Rattle.std.specs.List.{Contains}
use Rattle.std.proofs.Common.{eqb-true}
use Rattle.std.proofs.lemmas.Bool.{false_from_ne_true}
use Rattle.std.proofs.lemmas.List.Elements.{Contains-append_cases, Contains-append_left, Contains-append_right}
use Rattle.hp_base.specs.Congruence.{Point}
use Rattle.hp_local.proofs.Lists.{contains_cases, contains_first, contains_later, contains_none}
use Rattle.hp_tables.specs.Pairs.{ordered_from, ordered_pairs, with_others}

abbrev AreAmong : List Point → List Point → Point × Point → Type 0
AreAmong ps qs pair = Contains ps pair.0 × Contains qs pair.1

others_inside : (p : Point) (qs : List Point) (pair : Point × Point) → Contains (with_others p qs) pair → (p ≡ pair.0) × Contains qs pair.1
others_inside p [] pair m = absurd (contains_none pair m)
others_inside p (q ∷ qs) pair m = by (λ n. others_inside p qs pair n) (nat_eq p.name.0 q.name.0) m
  where
    later : (p ≡ pair.0) × Contains qs pair.1 → (p ≡ pair.0) × Contains (q ∷ qs) pair.1
    later h = (h.0, contains_later q qs pair.1 h.1)

    by : (Contains (with_others p qs) pair → (p ≡ pair.0) × Contains qs pair.1) → (b : Bool) → Contains (cond b (with_others p qs) ((p, q) ∷ with_others p qs)) pair → (p ≡ pair.0) × Contains (q ∷ qs) pair.1
    by rest true n = later (rest n)
    by rest false n = elim (contains_cases (p, q) (with_others p qs) pair n) [
      | inl e ↦ (ap (λ (x : Point × Point). x.0) e, subst (λ (x : Point × Point). Contains (q ∷ qs) x.1) e (contains_first q qs))
      | inr l ↦ later (rest l)
    ]

from_inside : (ps all : List Point) (pair : Point × Point) → Contains (ordered_from ps all) pair → AreAmong ps all pair
from_inside [] all pair m = absurd (contains_none pair m)
from_inside (p ∷ ps) all pair m = elim (Contains-append_cases (with_others p all) (ordered_from ps all) pair m) [
  | inl h ↦ (let one = others_inside p all pair h in (subst (λ (x : Point). Contains (p ∷ ps) x) one.0 (contains_first p ps), one.1))
  | inr l ↦ (let more = from_inside ps all pair l in (contains_later p ps pair.0 more.0, more.1))
]

-- both are applications
pub pairs_inside : (ps : List Point) (pair : Point × Point) → Contains (ordered_pairs ps) pair → Contains ps pair.0 × Contains ps pair.1
pairs_inside ps pair m = from_inside ps ps pair m

others_all : (p q : Point) (qs : List Point) → (p.name.0 ≡ q.name.0 → ⊥) → Contains qs q → Contains (with_others p qs) (p, q)
others_all p q [] apart m = absurd (contains_none q m)
others_all p q (r ∷ qs) apart m = by (λ n. others_all p q qs apart n) (contains_cases r qs q m)
  where
    kept : Contains (with_others p qs) (p, q) → Contains (with_others p (r ∷ qs)) (p, q)
    kept h = elim (nat_eq p.name.0 r.name.0) as (λ b. Contains (cond b (with_others p qs) ((p, r) ∷ with_others p qs)) (p, q)) [
      | true ↦ h
      | false ↦ contains_later (p, r) (with_others p qs) (p, q) h
    ]

    by : (Contains qs q → Contains (with_others p qs) (p, q)) → (r ≡ q) ⊎ Contains qs q → Contains (with_others p (r ∷ qs)) (p, q)
    by rest (inr n) = kept (rest n)
    by rest (inl e) = (
        let no : nat_eq p.name.0 r.name.0 ≡ false = false_from_ne_true (nat_eq p.name.0 r.name.0) (λ t. apart (eqb-true p.name.0 r.name.0 t ∙ ap (λ (x : Point). x.name.0) e)) in
        rw no (subst (λ (x : Point). Contains ((p, x) ∷ with_others p qs) (p, q)) (sym e) (contains_first (p, q) (with_others p qs)))
        )

from_all : (p q : Point) (ps all : List Point) → (p.name.0 ≡ q.name.0 → ⊥) → Contains ps p → Contains all q → Contains (ordered_from ps all) (p, q)
from_all p q [] all apart m n = absurd (contains_none p m)
from_all p q (r ∷ ps) all apart m n = elim (contains_cases r ps p m) [
  | inl e ↦ Contains-append_left (with_others r all) (ordered_from ps all) (p, q)
      (subst (λ (x : Point). Contains (with_others x all) (p, q)) (sym e) (others_all p q all apart n))
  | inr l ↦ Contains-append_right (with_others r all) (ordered_from ps all) (p, q) (from_all p q ps all apart l n)
]

-- each two with different names are there
pub pairs_all : (p q : Point) (ps : List Point) → (p.name.0 ≡ q.name.0 → ⊥) → Contains ps p → Contains ps q → Contains (ordered_pairs ps) (p, q)
pairs_all p q ps apart m n = from_all p q ps ps apart m n
