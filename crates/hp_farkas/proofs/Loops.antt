-- The loops over the shares and over the names.
use Rattle.std.proofs.Common.{◌≡◌, ℕ, ◌+◌, ◌<◌, ℤ, pos, refl, sym, ◌∙◌, ap, subst, List, [], ◌∷◌, length, drop, get_or, Result, Ok, Err, Option, Bool, true, false, ◌&&◌, ◌||◌, cond, nat_eq, add-one}
use Rattle.std.proofs.Math.Seq.{drop-cons}
use Rattle.std.proofs.lemmas.Bool.{eq-eqb, ne_eqb}
use Rattle.std.specs.Ordering.{int_eq}
use Rattle.hp_num.specs.declared.wide.Wide.{Wide}
use Rattle.hp_num.specs.Wide.{◌>>=◌}
use Rattle.hp_lit.specs.declared.literal.Name.{Name}
use Rattle.hp_lit.specs.declared.literal.Part.{Part}
use Rattle.hp_lit.specs.declared.literal.NumLit.{NumLit}
use Rattle.hp_lit.specs.declared.literal.Lit.{Lit}
use Rattle.hp_lit.specs.declared.literal.Lit.TheVariants.{Num}
use Rattle.hp_lit.specs.declared.proof.Share.{Share}
use Rattle.hp_lit.specs.Cycle.{IsLit}
use Rattle.hp_lit.specs.Leaf.{Taken, IsTaken, AreTaken}
use Rattle.hp_farkas.specs.Sums.{add_product, add_parts, sum_from}
use Rattle.hp_farkas.specs.inner.Next.{least_part, least_name}
use Rattle.hp_farkas.specs.Check.{vanish, is_less, has_strict}
use Rattle.hp_farkas.proofs.Rising.{drop_at}

-- the literal with a number is one
pub one_lit : (path : List Lit) (n : ℕ) (l m : NumLit) → IsLit path n (Num l) → IsLit path n (Num m) → l ≡ m
one_lit path n l m a b = let p = a.1 in let q = b.1 in cc

-- ---- what is left of the literals taken begins with that of the share at the loop's place
pub record Left (path : List Lit) (shares : List Share) (i : ℕ) (d : Share) (rest : List Taken) : Type 0 where
  pub first : Taken
  pub others : List Taken
  pub is : rest ≡ first ∷ others
  pub is_taken : IsTaken path (get_or shares i d) first
  pub are_taken : AreTaken path (drop (i + 1) shares) others

pub left : (path : List Lit) (shares : List Share) (i : ℕ) (d : Share) → i < length shares → (rest : List Taken) → AreTaken path (drop i shares) rest → Left path shares i d rest
left path shares i d h rest a = go rest (subst (λ q. AreTaken path q rest) (drop_at shares i d h) a)
  where
    go : (rest : List Taken) → AreTaken path (get_or shares i d ∷ drop (i + 1) shares) rest → Left path shares i d rest
    go [] a = absurd a
    go (t ∷ ts) a = record { first = t; others = ts; is = refl; is_taken = a.0; are_taken = a.1 }

-- ---- a sum made share by share, of which y is the end, z the number so far and v the next one
module _ (F : ℤ → Taken → Result ℤ Wide) (G : ℤ → List Taken → Result ℤ Wide) (step : (s : ℤ) (t : Taken) (ts : List Taken) → G s (t ∷ ts) ≡ (F s t >>= (λ u. G u ts)))
    (path : List Lit) (shares : List Share) (i : ℕ) (d : Share) (s : ℤ) (h : i < length shares)
    (y : Result ℤ Wide) (rest : (rest : List Taken) × AreTaken path (drop i shares) rest × (y ≡ G s rest)) where
  pub sum_err : (z : ℤ) → s ≡ z → (r : Result ℤ Wide) (w : Wide) → r ≡ Err w → ((t : Taken) → IsTaken path (get_or shares i d) t → r ≡ F z t) → Err w ≡ y
  sum_err z q r w k e =
      let l = left path shares i d h rest.0 rest.1 in
      let f : Err w ≡ F s l.first = sym k ∙ e l.first l.is_taken ∙ ap (λ x. F x l.first) (sym q) in
      ap (λ r. r >>= (λ u. G u l.others)) f ∙ sym (step s l.first l.others) ∙ ap (λ q. G s q) (sym l.is) ∙ sym rest.2

  pub sum_ok : (z : ℤ) → s ≡ z → (r : Result ℤ Wide) (u v : ℤ) → u ≡ v → r ≡ Ok u → ((t : Taken) → IsTaken path (get_or shares i d) t → r ≡ F z t)
      → (more : List Taken) × AreTaken path (drop (i + 1) shares) more × (y ≡ G v more)
  sum_ok z q r u v n k e =
      let l = left path shares i d h rest.0 rest.1 in
      let f : F s l.first ≡ Ok v = ap (λ x. F x l.first) q ∙ sym (e l.first l.is_taken) ∙ k ∙ ap (λ x. Ok x) n in
      (l.others, l.are_taken, rest.2 ∙ ap (λ q. G s q) l.is ∙ step s l.first l.others ∙ ap (λ r. r >>= (λ x. G x l.others)) f)

-- ---- a sum made part by part
module _ (n : ℕ) (m s : ℤ) (parts : List Part) (i : ℕ) (d : Part) (h : i < length parts) where
  part_at : drop i parts ≡ get_or parts i d ∷ drop (i + 1) parts
  part_at = rw add-one (drop-cons parts i d h)

  chosen : (b : Bool) → nat_eq (get_or parts i d).name.0 n ≡ b
      → add_parts n m s (drop i parts) ≡ cond b (add_product s m (get_or parts i d).coef >>= (λ t. add_parts n m t (drop (i + 1) parts))) (add_parts n m s (drop (i + 1) parts))
  chosen b e =
      ap (λ q. add_parts n m s q) part_at
      ∙ ap (λ b. cond b (add_product s m (get_or parts i d).coef >>= (λ t. add_parts n m t (drop (i + 1) parts))) (add_parts n m s (drop (i + 1) parts))) e

  pub part_err : (w : Wide) → (get_or parts i d).name.0 ≡ n → Err w ≡ add_product s m (get_or parts i d).coef → Err w ≡ add_parts n m s (drop i parts)
  part_err w e r = ap (λ r. r >>= (λ t. add_parts n m t (drop (i + 1) parts))) r ∙ sym (chosen true (eq-eqb (get_or parts i d).name.0 n e))

  pub part_ok : (u : ℤ) → (get_or parts i d).name.0 ≡ n → Ok u ≡ add_product s m (get_or parts i d).coef → add_parts n m s (drop i parts) ≡ add_parts n m u (drop (i + 1) parts)
  part_ok u e r = chosen true (eq-eqb (get_or parts i d).name.0 n e) ∙ ap (λ r. r >>= (λ t. add_parts n m t (drop (i + 1) parts))) (sym r)

  pub part_other : ((get_or parts i d).name.0 ≡ n → ⊥) → add_parts n m s (drop i parts) ≡ add_parts n m s (drop (i + 1) parts)
  part_other e = chosen false (ne_eqb (get_or parts i d).name.0 n e)

-- ---- a strict literal
module _ (path : List Lit) (shares : List Share) (i : ℕ) (d : Share) (h : i < length shares) (rest : List Taken) (a : AreTaken path (drop i shares) rest) where
  pub strict_here : ((t : Taken) → IsTaken path (get_or shares i d) t → true ≡ is_less t.lit.rel) → true ≡ has_strict rest
  strict_here e =
      let l = left path shares i d h rest a in
      ap (λ b. b || has_strict l.others) (e l.first l.is_taken) ∙ ap has_strict (sym l.is)

  pub strict_later : ((t : Taken) → IsTaken path (get_or shares i d) t → false ≡ is_less t.lit.rel) → (more : List Taken) × AreTaken path (drop (i + 1) shares) more × (has_strict rest ≡ has_strict more)
  strict_later e =
      let l = left path shares i d h rest a in
      (l.others, l.are_taken, ap has_strict l.is ∙ ap (λ b. b || has_strict l.others) (sym (e l.first l.is_taken)))

-- ---- the least name so far
module _ (path : List Lit) (shares : List Share) (i : ℕ) (d : Share) (h : i < length shares) (rest : List Taken) (a : AreTaken path (drop i shares) rest) (from : ℕ) (best : Option Name) where
  pub least_none : ((lit : NumLit) → IsLit path (get_or shares i d).lit (Num lit) → ⊥) → ⊥
  least_none e = let l = left path shares i d h rest a in e l.first.lit l.is_taken.0

  pub least_some : (lit : NumLit) → IsLit path (get_or shares i d).lit (Num lit)
      → (more : List Taken) × AreTaken path (drop (i + 1) shares) more × (least_name from best rest ≡ least_name from (least_part from best lit.parts) more)
  least_some lit at =
      let l = left path shares i d h rest a in
      (l.others, l.are_taken, ap (λ q. least_name from best q) l.is ∙ ap (λ m. least_name from (least_part from best m.parts) l.others) (one_lit path (get_or shares i d).lit l.first.lit lit l.is_taken.0 at))

-- ---- the sums of the names so far, and of those that are left
abbrev pub onward : Bool → Result Bool Wide → Result Bool Wide
onward v r = r >>= (λ rest. Ok (v && rest))

pub onward_begin : (r : Result Bool Wide) → r ≡ onward true r
onward_begin (Ok b) = refl
onward_begin (Err e) = refl

pub onward_end : (v : Bool) (ts : List Taken) (ns : List ℕ) → ns ≡ [] → onward v (vanish ts ns) ≡ Ok v
onward_end v ts ns e = (λ i. onward v (vanish ts (e i))) ∙ go v
  where
    go : (v : Bool) → onward v (Ok true) ≡ Ok v
    go true = refl
    go false = refl

and_then : (v b : Bool) (r : Result Bool Wide) → onward v (r >>= (λ rest. Ok (b && rest))) ≡ onward (v && b) r
and_then true b (Ok c) = refl
and_then false b (Ok c) = refl
and_then v b (Err e) = refl

pub onward_ok : (v : Bool) (s : ℤ) (ts : List Taken) (n : ℕ) (ns ms : List ℕ) → ns ≡ n ∷ ms → sum_from n (pos 0) ts ≡ Ok s → onward v (vanish ts ns) ≡ onward (v && int_eq s (pos 0)) (vanish ts ms)
onward_ok v s ts n ns ms e h =
    (λ i. onward v (vanish ts (e i)))
    ∙ ap (λ r. onward v (r >>= (λ sum. vanish ts ms >>= (λ rest. Ok (int_eq sum (pos 0) && rest))))) h
    ∙ and_then v (int_eq s (pos 0)) (vanish ts ms)

pub onward_err : (v : Bool) (w : Wide) (ts : List Taken) (n : ℕ) (ns ms : List ℕ) → ns ≡ n ∷ ms → sum_from n (pos 0) ts ≡ Err w → onward v (vanish ts ns) ≡ Err w
onward_err v w ts n ns ms e h =
    (λ i. onward v (vanish ts (e i)))
    ∙ ap (λ r. onward v (r >>= (λ sum. vanish ts ms >>= (λ rest. Ok (int_eq sum (pos 0) && rest))))) h
