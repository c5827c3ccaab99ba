-- The values of a list, one after the other, as a loop makes them: what is left to be made from a place on.
use Rattle.std.proofs.Common.{◌≡◌, ℕ, zero, suc, ◌+◌, ◌<◌, ◌≤◌, List, [], ◌∷◌, ◌++◌, map, length, drop, get_or, Result, Ok, Err, refl, sym, ap, ◌∙◌, append-nil, append_assoc, add-one, drop-cons, arith}
use Rattle.std.specs.Result.{IsErrAnd}
use Rattle.hp_tree.specs.declared.limit.Limit.{Limit as Which}
use Rattle.hp_lit.specs.declared.refusal.GroundErr.{GroundErr}
use Rattle.hp_defs.specs.declared.names.Ground.{Ground}
use Rattle.hp_base.specs.Making.{Begins, Maker, Makes, ◌then◌, each, in_turn}
use Rattle.hp_base.proofs.Making.{begins_same, begins_trans, makes_same_err, makes_stopped}

-- values behind those that are there
abbrev pub behind : {A : Type 0} → List A → Result (List A × Ground) Which → Result (List A × Ground) Which
behind all r = r then λ xs. λ end. Ok (all ++ xs, end)

behind_nothing : {A : Type 0} (r : Result (List A × Ground) Which) → r ≡ behind [] r
behind_nothing (Ok x) = refl
behind_nothing (Err e) = refl

behind_one : {A : Type 0} (all : List A) (x : A) (r : Result (List A × Ground) Which)
    → behind all (r then λ xs. λ end. Ok (x ∷ xs, end)) ≡ behind (all ++ x ∷ []) r
behind_one {A} all x (Ok y) = ap (λ (xs : List A). ◌then◌ {A = List A} (Ok (xs, y.1)) (λ zs. λ end. Ok (zs, end))) (sym (append_assoc all (x ∷ []) y.0))
behind_one all x (Err e) = refl

-- ---- values of a list
-- a loop over `ns` at the place `i`, with these values made
pub record IsUnder {N A : Type 0} (f : N → Maker A) (ns : List N) (i : ℕ) (all : List A) (old now : Ground) : Type 0 where
  pub rest : each f ns old ≡ behind all (each f (drop i ns) now)
  pub kept : Begins old now

module _ {N A : Type 0} (f : N → Maker A) (ns : List N) where
  pub under_start : (all : List A) (g : Ground) → all ≡ [] → IsUnder f ns 0 all g g
  under_start all g e = record { rest = behind_nothing (each f ns g) ∙ ap (λ xs. behind xs (each f ns g)) (sym e); kept = begins_same g }

  -- the next item is `n`
  module _ (i : ℕ) (n : N) (is : drop i ns ≡ n ∷ drop (suc i) ns) (all : List A) (old now : Ground) (under : IsUnder f ns i all old now) where
    first : (r : Result (A × Ground) Which) → f n now ≡ r → each f ns old ≡ behind all (r then λ x. λ mid. each f (drop (suc i) ns) mid then λ xs. λ end. Ok (x ∷ xs, end))
    first r e =
        under.rest ∙ ap (λ zs. behind all (each f zs now)) is
        ∙ ap (λ q. behind all (q then λ x. λ mid. each f (drop (suc i) ns) mid then λ xs. λ end. Ok (x ∷ xs, end))) e

    pub under_more : (x : A) (more : List A) (next : Ground) → f n now ≡ Ok (x, next) → Begins now next → more ≡ all ++ x ∷ [] → IsUnder f ns (i + 1) more old next
    under_more x more next e b m = record {
      rest = first (Ok (x, next)) e ∙ behind_one all x (each f (drop (suc i) ns) next)
          ∙ (λ j. behind (sym m j) (each f (drop (sym (add-one i) j) ns) next));
      kept = begins_trans old now next under.kept b;
    }

    pub under_err : (next : Ground) (e : GroundErr) (r : Result (List A) GroundErr) → Makes (f n) now next (Err e) → IsErrAnd r (λ x. x ≡ e) → Makes (each f ns) old next r
    under_err next e r h s =
        makes_same_err (each f ns) old next r e s (makes_stopped (f n) (each f ns) now next old next e (λ l k. first (Err l) k) h)

  pub under_end : (i : ℕ) (all : List A) (old now : Ground) → drop i ns ≡ [] → IsUnder f ns i all old now → each f ns old ≡ Ok (all, now)
  under_end i all old now h u = u.rest ∙ ap (λ zs. behind all (each f zs now)) h ∙ ap (λ xs. Ok (xs, now)) (append-nil all)

-- ---- what a list adds
-- a loop over `ns` at the place `i`, which makes no value
pub record IsAt {N : Type 0} (f : N → Maker (Unit {0})) (ns : List N) (i : ℕ) (old now : Ground) : Type 0 where
  pub rest : in_turn f ns old ≡ in_turn f (drop i ns) now
  pub kept : Begins old now

module _ {N : Type 0} (f : N → Maker (Unit {0})) (ns : List N) where
  pub at_start : (g : Ground) → IsAt f ns 0 g g
  at_start g = record { rest = refl; kept = begins_same g }

  -- the next item is `n`
  module _ (i : ℕ) (n : N) (is : drop i ns ≡ n ∷ drop (suc i) ns) (old now : Ground) (under : IsAt f ns i old now) where
    turned : (r : Result (Unit {0} × Ground) Which) → f n now ≡ r → in_turn f ns old ≡ (r then λ done. in_turn f (drop (suc i) ns))
    turned r e = under.rest ∙ ap (λ zs. in_turn f zs now) is ∙ ap (λ q. q then λ done. in_turn f (drop (suc i) ns)) e

    pub at_more : (next : Ground) → f n now ≡ Ok (tt, next) → Begins now next → IsAt f ns (i + 1) old next
    at_more next e b = record {
      rest = turned (Ok (tt, next)) e ∙ (λ j. in_turn f (drop (sym (add-one i) j) ns) next);
      kept = begins_trans old now next under.kept b;
    }

    pub at_err : (next : Ground) (e : GroundErr) (r : Result (Unit {0}) GroundErr) → Makes (f n) now next (Err e) → IsErrAnd r (λ x. x ≡ e) → Makes (in_turn f ns) old next r
    at_err next e r h s =
        makes_same_err (in_turn f ns) old next r e s (makes_stopped (f n) (in_turn f ns) now next old next e (λ l k. turned (Err l) k) h)

  pub at_end : (i : ℕ) (old now : Ground) → drop i ns ≡ [] → IsAt f ns i old now → in_turn f ns old ≡ Ok (tt, now)
  at_end i old now h u = u.rest ∙ ap (λ zs. in_turn f zs now) h

-- ---- the next item
pub item_next : {N : Type 0} (ns : List N) (i : ℕ) (n : N) → i < length ns → n ≡ get_or ns i n → drop i ns ≡ n ∷ drop (suc i) ns
item_next ns i n h e = drop-cons ns i n h ∙ ap (λ y. y ∷ drop (suc i) ns) (sym e)

pub map_next : {T N : Type 0} (g : T → N) (ts : List T) (i : ℕ) (t : T) → i < length ts → t ≡ get_or ts i t → drop i (map g ts) ≡ g t ∷ drop (suc i) (map g ts)
map_next g [] i t h e = absurd (omega arith)
map_next g (x ∷ ts) zero t h e = ap (λ y. g y ∷ map g ts) (sym e)
map_next g (x ∷ ts) (suc i) t h e = map_next g ts i t (omega arith) e

pub map_over : {T N : Type 0} (g : T → N) (ts : List T) (i : ℕ) → length ts ≤ i → drop i (map g ts) ≡ []
map_over g [] zero h = refl
map_over g [] (suc i) h = refl
map_over g (x ∷ ts) zero h = absurd (omega arith)
map_over g (x ∷ ts) (suc i) h = map_over g ts i (omega arith)
