-- Lines of pairs, one after the other: what is left to be made from a place on, while the names stay.
use Rattle.std.proofs.Common.{◌≡◌, ℕ, zero, suc, ◌+◌, ◌<◌, ◌≤◌, List, [], ◌∷◌, ◌++◌, ◌-◌, map, length, take, drop, length-drop, get_or, Some, None, Option, Result, Ok, Err, refl, sym, ap, subst, ◌∙◌, add-one, drop-cons, arith}
use Rattle.std.specs.Prelude.{slice_get}
use Rattle.std.specs.List.{All}
use Rattle.std.specs.Result.{IsErrAnd}
use Rattle.std.proofs.lemmas.List.{take_all}
use Rattle.std.proofs.lemmas.List.Elements.{All-head, All-tail}
use Rattle.hp_tree.specs.declared.limit.Limit.{Limit}
use Rattle.hp_lit.specs.declared.line.Def.{Def}
use Rattle.hp_lit.specs.declared.refusal.GroundErr.{GroundErr}
use Rattle.hp_defs.specs.declared.names.Ground.{Ground}
use Rattle.hp_defs.specs.declared.names.Signature.{Signature}
use Rattle.hp_defs.specs.Names.{NameList}
use Rattle.hp_defs.specs.Places.{places}
use Rattle.hp_base.specs.Making.{Begins, Maker, Makes, ◌then◌, in_turn}
use Rattle.hp_base.specs.Congruence.{Point, congruence_at, congruence_between, congruence_of, point_of}
use Rattle.hp_base.proofs.CongruentLine.{congruence_is_added}
use Rattle.hp_base.proofs.Making.{begins_same, begins_trans, makes_other, makes_same_err, makes_stopped}
use Rattle.hp_base.proofs.Places.{congruence_there}
use Rattle.hp_class.specs.Places.{line_at, point_at, points_at}
use Rattle.hp_class.specs.Points.{function_lines, pair_line, pairs, signature_lines}
use Rattle.hp_class.proofs.Places.{got_one, over, places_inside, points_there}

-- ---- names stay
abbrev pub Keeps : {A : Type 0} → Maker A → Type 0
Keeps {A} m = (x : A) (old new : Ground) → m old ≡ Ok (x, new) → new.names ≡ old.names

ok_same : {A : Type 0} (a b : A) (r : Result A Limit) → r ≡ Ok a → r ≡ Ok b → b ≡ a
ok_same a b r d e = cc

same_end : {A : Type 0} (x y : A) (g h : Ground) (r : Result (A × Ground) Limit) → r ≡ Ok (x, g) → r ≡ Ok (y, h) → h ≡ g
same_end {A} x y g h r d e = ap (λ (p : A × Ground). p.1) (ok_same (x, g) (y, h) r d e)

unit_end : (x : Unit {0}) (old new : Ground) (r : Result (Unit {0} × Ground) Limit) → r ≡ Ok (tt, old) → r ≡ Ok (x, new) → new.names ≡ old.names
unit_end x old new r d e = ap (λ (g : Ground). g.names) (same_end tt x old new r d e)

of_keeps : (s : Signature) (p q : Point) → Keeps (congruence_of s p q)
of_keeps s p q x old new e = ap (λ (g : Ground). g.names) (congruence_is_added s p q x old new e).same

between_keeps : (s : Option Signature) (left right : Option Def) → Keeps (congruence_between s left right)
between_keeps None left right x old new e = unit_end x old new (Ok (tt, old)) refl e
between_keeps (Some s) None right x old new e = unit_end x old new (Ok (tt, old)) refl e
between_keeps (Some s) (Some left) None x old new e = unit_end x old new (Ok (tt, old)) refl e
between_keeps (Some s) (Some left) (Some right) x old new e = of_keeps s (point_of left) (point_of right) x old new e

pub at_keeps : (func left right : ℕ) → Keeps (congruence_at func left right)
at_keeps func left right x old new e =
    between_keeps (slice_get old.names.signatures func) (slice_get old.names.definitions left) (slice_get old.names.definitions right) x old new e

-- ---- turns
-- a loop over `ns` at the place `i`, whose turns keep the names
pub record IsTurned {N : Type 0} (f : N → Maker (Unit {0})) (ns : List N) (i : ℕ) (old now : Ground) : Type 0 where
  pub rest : in_turn f ns old ≡ in_turn f (drop i ns) now
  pub names : now.names ≡ old.names
  pub begins : Begins old now

module _ {N : Type 0} (f : N → Maker (Unit {0})) (ns : List N) where
  pub turned_start : (g : Ground) → IsTurned f ns 0 g g
  turned_start g = record { rest = refl; names = refl; begins = begins_same g }

  module _ (i : ℕ) (d : N) (h : i < length ns) (old now : Ground) (t : IsTurned f ns i old now) where
    turned : (r : Result (Unit {0} × Ground) Limit) → f (get_or ns i d) now ≡ r → in_turn f ns old ≡ (r then λ done. in_turn f (drop (suc i) ns))
    turned r e = t.rest ∙ ap (λ zs. in_turn f zs now) (drop-cons ns i d h) ∙ ap (λ q. q then λ done. in_turn f (drop (suc i) ns)) e

    pub turned_more : (next : Ground) → f (get_or ns i d) now ≡ Ok (tt, next) → next.names ≡ now.names → Begins now next → IsTurned f ns (i + 1) old next
    turned_more next e b more = record {
      rest = turned (Ok (tt, next)) e ∙ (λ j. in_turn f (drop (sym (add-one i) j) ns) next);
      names = b ∙ t.names;
      begins = begins_trans old now next t.begins more;
    }

    pub turned_err : (next : Ground) (e : GroundErr) (r : Result (Unit {0}) GroundErr) → Makes (f (get_or ns i d)) now next (Err e) → IsErrAnd r (λ x. x ≡ e) → Makes (in_turn f ns) old next r
    turned_err next e r m s =
        makes_same_err (in_turn f ns) old next r e s (makes_stopped (f (get_or ns i d)) (in_turn f ns) now next old next e (λ l k. turned (Err l) k) m)

  pub turned_end : (i : ℕ) (old now : Ground) → length ns ≤ i → IsTurned f ns i old now → in_turn f ns old ≡ Ok (tt, now)
  turned_end i old now h t = t.rest ∙ ap (λ zs. in_turn f zs now) (over ns i h)

-- ---- turns of two lists, and of a list of pairs
then_same : {A B : Type 0} (r : Result (A × Ground) Limit) (f h : A → Maker B) → ((x : A) (mid : Ground) → r ≡ Ok (x, mid) → f x mid ≡ h x mid) → (r then f) ≡ (r then h)
then_same (Ok x) f h same = same x.0 x.1 refl
then_same (Err l) f h same = refl

then_then : {A B C : Type 0} (r : Result (A × Ground) Limit) (f : A → Maker B) (h : B → Maker C) → (r then (λ x mid. f x mid then h)) ≡ ((r then f) then h)
then_then (Ok x) f h = refl
then_then (Err l) f h = refl

turns_both : {N : Type 0} (f : N → Maker (Unit {0})) (ms ns : List N) (g : Ground) → in_turn f (ms ++ ns) g ≡ (in_turn f ms g then λ done. in_turn f ns)
turns_both f [] ns g = refl
turns_both f (m ∷ ms) ns g =
    then_same (f m g) (λ done. in_turn f (ms ++ ns)) (λ done mid. in_turn f ms mid then λ end. in_turn f ns) (λ x mid e. turns_both f ms ns mid)
    ∙ then_then (f m g) (λ done. in_turn f ms) (λ done. in_turn f ns)

keep_both : {A B : Type 0} (r : Result (A × Ground) Limit) (h : A → Maker B) (x : B) (old new : Ground)
    → ((y : A) (mid : Ground) → r ≡ Ok (y, mid) → mid.names ≡ old.names) → ((y : A) → Keeps (h y)) → (r then h) ≡ Ok (x, new) → new.names ≡ old.names
keep_both (Ok y) h x old new first rest e = rest y.0 x y.1 new e ∙ first y.0 y.1 refl
keep_both (Err l) h x old new first rest e = absurd (cc)

turns_keep : {N : Type 0} (f : N → Maker (Unit {0})) → ((n : N) → Keeps (f n)) → (ns : List N) → Keeps (in_turn f ns)
turns_keep f keeps [] x old new e = unit_end x old new (Ok (tt, old)) refl e
turns_keep f keeps (n ∷ ns) x old new e =
    keep_both (f n old) (λ done. in_turn f ns) x old new (λ y mid is. keeps n y old mid is) (λ y. turns_keep f keeps ns) e

turns_map : {M N : Type 0} (f : N → Maker (Unit {0})) (h : M → N) (ms : List M) (g : Ground) → in_turn f (map h ms) g ≡ in_turn (λ m. f (h m)) ms g
turns_map f h [] g = refl
turns_map f h (m ∷ ms) g = then_same (f (h m) g) (λ done. in_turn f (map h ms)) (λ done. in_turn (λ n. f (h n)) ms) (λ x mid e. turns_map f h ms mid)

-- the pairs of a list from a place on: those of its first entry, and then the rest
pub pairs_first : (func : ℕ) (k : ℕ) (ks : List ℕ) (g : Ground)
    → in_turn (line_at func) (pairs (k ∷ ks)) g ≡ (in_turn (congruence_at func k) ks g then λ done. in_turn (line_at func) (pairs ks))
pairs_first func k ks g =
    turns_both (line_at func) (map (λ j. (k, j)) ks) (pairs ks) g
    ∙ ap (λ r. r then λ done. in_turn (line_at func) (pairs ks)) (turns_map (line_at func) (λ j. (k, j)) ks g)

-- ---- pairs, by a walk over first entries
pub record IsPaired (func : ℕ) (ks : List ℕ) (i : ℕ) (old now : Ground) : Type 0 where
  pub rest : in_turn (line_at func) (pairs ks) old ≡ in_turn (line_at func) (pairs (drop i ks)) now
  pub names : now.names ≡ old.names
  pub begins : Begins old now

pub paired_start : (func : ℕ) (ks : List ℕ) (g : Ground) → IsPaired func ks 0 g g
paired_start func ks g = record { rest = refl; names = refl; begins = begins_same g }

module _ (func : ℕ) (ks : List ℕ) (i : ℕ) (h : i < length ks) (old now : Ground) (t : IsPaired func ks i old now) where
  paired : (r : Result (Unit {0} × Ground) Limit) → in_turn (congruence_at func (get_or ks i 0)) (drop (suc i) ks) now ≡ r
      → in_turn (line_at func) (pairs ks) old ≡ (r then λ done. in_turn (line_at func) (pairs (drop (suc i) ks)))
  paired r e =
      t.rest ∙ ap (λ zs. in_turn (line_at func) (pairs zs) now) (drop-cons ks i 0 h) ∙ pairs_first func (get_or ks i 0) (drop (suc i) ks) now
      ∙ ap (λ q. q then λ done. in_turn (line_at func) (pairs (drop (suc i) ks))) e

  pub paired_more : (next : Ground) (others : List ℕ) → others ≡ drop (suc i) ks → in_turn (congruence_at func (get_or ks i 0)) others now ≡ Ok (tt, next) → next.names ≡ now.names → Begins now next → IsPaired func ks (i + 1) old next
  paired_more next others is e b more = record {
    rest = paired (Ok (tt, next)) (ap (λ zs. in_turn (congruence_at func (get_or ks i 0)) zs now) (sym is) ∙ e) ∙ (λ j. in_turn (line_at func) (pairs (drop (sym (add-one i) j) ks)) next);
    names = b ∙ t.names;
    begins = begins_trans old now next t.begins more;
  }

  pub paired_err : (next : Ground) (others : List ℕ) (e : GroundErr) (r : Result (Unit {0}) GroundErr) → others ≡ drop (suc i) ks
      → Makes (in_turn (congruence_at func (get_or ks i 0)) others) now next (Err e) → IsErrAnd r (λ x. x ≡ e) → Makes (in_turn (line_at func) (pairs ks)) old next r
  paired_err next others e r is m s =
      makes_same_err (in_turn (line_at func) (pairs ks)) old next r e s
      (makes_stopped (in_turn (congruence_at func (get_or ks i 0)) others) (in_turn (line_at func) (pairs ks)) now next old next e
      (λ l k. paired (Err l) (ap (λ zs. in_turn (congruence_at func (get_or ks i 0)) zs now) (sym is) ∙ k)) m)

pub paired_end : (func : ℕ) (ks : List ℕ) (i : ℕ) (old now : Ground) → length ks ≤ i → IsPaired func ks i old now → in_turn (line_at func) (pairs ks) old ≡ Ok (tt, now)
paired_end func ks i old now h t = t.rest ∙ ap (λ zs. in_turn (line_at func) (pairs zs) now) (over ks i h)

-- ---- pairs of places are pairs of applications
module _ (func : ℕ) (s : Signature) (names : NameList) (signed : slice_get names.signatures func ≡ Some s) where
  line_there : (j k : ℕ) (d e : Def) (g : Ground) → g.names ≡ names → slice_get names.definitions j ≡ Some d → slice_get names.definitions k ≡ Some e
      → congruence_at func j k g ≡ congruence_of s (point_of d) (point_of e) g
  line_there j k d e g same left right =
      congruence_there func j k s d e g (ap (λ (n : NameList). slice_get n.signatures func) same ∙ signed)
      (ap (λ (n : NameList). slice_get n.definitions j) same ∙ left) (ap (λ (n : NameList). slice_get n.definitions k) same ∙ right)

  there : (k : ℕ) → k < length names.definitions → (d : Def) × (slice_get names.definitions k ≡ Some d)
  there k h = got_one names.definitions k h

  row_same : (j : ℕ) (d : Def) (ks : List ℕ) → slice_get names.definitions j ≡ Some d → All (λ k. k < length names.definitions) ks → (g : Ground) → g.names ≡ names
      → in_turn (pair_line s) (map (λ q. (point_of d, q)) (points_at names.definitions ks)) g ≡ in_turn (congruence_at func j) ks g
  row_same j d [] left inside g same = refl
  row_same j d (k ∷ ks) left inside g same =
      let e = there k (All-head (λ n. n < length names.definitions) k ks inside) in
      let later = All-tail (λ n. n < length names.definitions) k ks inside in
      ap (λ o. in_turn (pair_line s) (map (λ q. (point_of d, q)) (point_at o ++ points_at names.definitions ks)) g) e.1
      ∙ ap (λ r. r then λ done. in_turn (pair_line s) (map (λ q. (point_of d, q)) (points_at names.definitions ks))) (sym (line_there j k d e.0 g same left e.1))
      ∙ then_same (congruence_at func j k g) (λ done. in_turn (pair_line s) (map (λ q. (point_of d, q)) (points_at names.definitions ks))) (λ done. in_turn (congruence_at func j) ks)
      (λ x mid is. row_same j d ks left later mid (at_keeps func j k x g mid is ∙ same))

  pairs_same : (ks : List ℕ) → All (λ k. k < length names.definitions) ks → (g : Ground) → g.names ≡ names
      → in_turn (pair_line s) (pairs (points_at names.definitions ks)) g ≡ in_turn (line_at func) (pairs ks) g
  pairs_same [] inside g same = refl
  pairs_same (k ∷ ks) inside g same =
      let d = there k (All-head (λ n. n < length names.definitions) k ks inside) in
      let later = All-tail (λ n. n < length names.definitions) k ks inside in
      let ps = points_at names.definitions ks in
      ap (λ o. in_turn (pair_line s) (pairs (point_at o ++ ps)) g) d.1
      ∙ turns_both (pair_line s) (map (λ q. (point_of d.0, q)) ps) (pairs ps) g
      ∙ ap (λ r. r then λ done. in_turn (pair_line s) (pairs ps)) (row_same k d.0 ks d.1 later g same)
      ∙ then_same (in_turn (congruence_at func k) ks g) (λ done. in_turn (pair_line s) (pairs ps)) (λ done. in_turn (line_at func) (pairs ks))
      (λ x mid is. pairs_same ks later mid (turns_keep (congruence_at func k) (λ j. at_keeps func k j) ks x g mid is ∙ same))
      ∙ sym (pairs_first func k ks g)

no_signature : (ss : List Signature) (k : ℕ) → k < length ss → slice_get ss k ≡ None → ⊥
no_signature [] k l e = absurd (omega arith)
no_signature (s ∷ ss) zero l e = absurd (cc)
no_signature (s ∷ ss) (suc k) l e = no_signature ss k (omega arith) e

signature_pairs : (func : ℕ) (g : Ground) (o : Option Signature) → func < length g.names.signatures → slice_get g.names.signatures func ≡ o
    → signature_lines func o g ≡ in_turn (line_at func) (pairs (places func g.names.definitions)) g
signature_pairs func g None h e = absurd (no_signature g.names.signatures func h e)
signature_pairs func g (Some s) h e =
    ap (λ ps. in_turn (pair_line s) (pairs ps) g) (points_there func g.names.definitions)
    ∙ pairs_same func s g.names e (places func g.names.definitions) (places_inside func g.names.definitions) g refl

-- the lines of a function are those of the pairs of its places
pub function_pairs : (func : ℕ) (g : Ground) → func < length g.names.signatures
    → function_lines func g ≡ in_turn (line_at func) (pairs (places func g.names.definitions)) g
function_pairs func g h = signature_pairs func g (slice_get g.names.signatures func) h refl

-- ---- lists of places
pub rest_is : (ks : List ℕ) (i : ℕ) → take (length ks - (i + 1)) (drop (i + 1) ks) ≡ drop (suc i) ks
rest_is ks i = take_all (length ks - (i + 1)) (drop (i + 1) ks) (omega (arith, length-drop (i + 1) ks)) ∙ ap (λ k. drop k ks) (add-one i)

pub all_drop : {A : Type 0} (P : A → Type 0) (i : ℕ) (xs : List A) → All P xs → All P (drop i xs)
all_drop P zero xs h = h
all_drop P (suc i) [] h = h
all_drop P (suc i) (x ∷ xs) h = all_drop P i xs (All-tail P x xs h)

-- the places of a function, at names that have stayed
pub places_known : (func : ℕ) (ks : List ℕ) (old now : NameList) → ks ≡ places func old.definitions → now ≡ old → All (λ k. k < length now.definitions) ks
places_known func ks old now is same =
    subst (λ js. All (λ k. k < length now.definitions) js) (sym is)
    (subst (λ (n : NameList). All (λ k. k < length n.definitions) (places func old.definitions)) (sym same) (places_inside func old.definitions))

-- what is made of the places is made of the function
pub function_made : (func : ℕ) (ks : List ℕ) (old new : Ground) (r : Result (Unit {0}) GroundErr) → func < length old.names.signatures → ks ≡ places func old.names.definitions
    → Makes (in_turn (line_at func) (pairs ks)) old new r → Makes (function_lines func) old new r
function_made func ks old new r h is = makes_other (in_turn (line_at func) (pairs ks)) (function_lines func) old new r (function_pairs func old h ∙ ap (λ js. in_turn (line_at func) (pairs js) old) (sym is))
