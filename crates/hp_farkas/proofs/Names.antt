-- The list of names rises and has each name that occurs, and a walk from least name to least name goes along it.
use Rattle.std.proofs.Common.{◌≡◌, ℕ, ◌+◌, ◌≤◌, ◌⊎◌, inl, inr, refl, ap, subst, arith, List, [], ◌∷◌, Bool, true, false, cond, nat_lt}
use Rattle.std.proofs.lemmas.Bool.{ltb-true, ltb-false, cases_eq}
use Rattle.hp_lit.specs.declared.literal.Part.{Part}
use Rattle.hp_lit.specs.Leaf.{Taken}
use Rattle.hp_farkas.specs.Names.{HasName, insert, IsIn, names_of, NamesInOrder, Occurs, RisesFrom, with_names}

-- ---- a number put in its place
insert_rises : (f n : ℕ) (ns : List ℕ) → f ≤ n → RisesFrom f ns → RisesFrom f (insert n ns)
insert_rises f n [] h r = (h, tt)
insert_rises f n (m ∷ ms) h r =
    let A : Bool → Bool → List ℕ = λ a b. cond a (n ∷ m ∷ ms) (cond b (m ∷ insert n ms) (m ∷ ms)) in
    (elim (nat_lt n m) as (λ a. nat_lt n m ≡ a → RisesFrom f (A a (nat_lt m n))) [
      | true ↦ λ e. (let l = ltb-true n m e in (h, (omega arith, r.1)))
      | false ↦ λ e.
          (elim (nat_lt m n) as (λ b. nat_lt m n ≡ b → RisesFrom f (A false b)) [
            | true ↦ λ g. (let l = ltb-true m n g in (r.0, insert_rises (m + 1) n ms (omega arith) r.1))
            | false ↦ λ g. r
          ]) refl
    ]) refl

insert_in : (k n : ℕ) (ns : List ℕ) → IsIn k (insert n ns) → (n ≡ k) ⊎ IsIn k ns
insert_in k n [] h = h
insert_in k n (m ∷ ms) h =
    let A : Bool → Bool → List ℕ = λ a b. cond a (n ∷ m ∷ ms) (cond b (m ∷ insert n ms) (m ∷ ms)) in
    (elim (nat_lt n m) as (λ a. IsIn k (A a (nat_lt m n)) → (n ≡ k) ⊎ ((m ≡ k) ⊎ IsIn k ms)) [
      | true ↦ λ q. q
      | false ↦
          elim (nat_lt m n) as (λ b. IsIn k (A false b) → (n ≡ k) ⊎ ((m ≡ k) ⊎ IsIn k ms)) [
            | true ↦ λ q. later (λ j. insert_in k n ms j) q
            | false ↦ λ q. inr q
          ]
    ]) h
  where
    deeper : (n ≡ k) ⊎ IsIn k ms → (n ≡ k) ⊎ ((m ≡ k) ⊎ IsIn k ms)
    deeper (inl e) = inl e
    deeper (inr q) = inr (inr q)

    later : (IsIn k (insert n ms) → (n ≡ k) ⊎ IsIn k ms) → (m ≡ k) ⊎ IsIn k (insert n ms) → (n ≡ k) ⊎ ((m ≡ k) ⊎ IsIn k ms)
    later f (inl e) = inr (inl e)
    later f (inr q) = deeper (f q)

in_insert : (k n : ℕ) (ns : List ℕ) → (n ≡ k) ⊎ IsIn k ns → IsIn k (insert n ns)
in_insert k n [] h = h
in_insert k n (m ∷ ms) h =
    let A : Bool → Bool → List ℕ = λ a b. cond a (n ∷ m ∷ ms) (cond b (m ∷ insert n ms) (m ∷ ms)) in
    (elim (nat_lt n m) as (λ a. nat_lt n m ≡ a → IsIn k (A a (nat_lt m n))) [
      | true ↦ λ e. h
      | false ↦ λ e.
          (elim (nat_lt m n) as (λ b. nat_lt m n ≡ b → IsIn k (A false b)) [
            | true ↦ λ g. later (λ j. in_insert k n ms j) h
            | false ↦ λ g. (let l = ltb-false n m e in let j = ltb-false m n g in same (omega arith) h)
          ]) refl
    ]) refl
  where
    later : ((n ≡ k) ⊎ IsIn k ms → IsIn k (insert n ms)) → (n ≡ k) ⊎ ((m ≡ k) ⊎ IsIn k ms) → (m ≡ k) ⊎ IsIn k (insert n ms)
    later f (inl e) = inr (f (inl e))
    later f (inr (inl e)) = inl e
    later f (inr (inr q)) = inr (f (inr q))

    same : m ≡ n → (n ≡ k) ⊎ ((m ≡ k) ⊎ IsIn k ms) → (m ≡ k) ⊎ IsIn k ms
    same e (inl g) = inl (cc)
    same e (inr q) = q

-- ---- the names of parts, and of all literals taken
parts_rise : (ps : List Part) (ns : List ℕ) → RisesFrom 0 ns → RisesFrom 0 (with_names ps ns)
parts_rise [] ns r = r
parts_rise (p ∷ ps) ns r = insert_rises 0 p.name.0 (with_names ps ns) (omega arith) (parts_rise ps ns r)

in_parts : (k : ℕ) (ps : List Part) (ns : List ℕ) → HasName k ps ⊎ IsIn k ns → IsIn k (with_names ps ns)
in_parts k [] ns (inl h) = absurd h
in_parts k [] ns (inr q) = q
in_parts k (p ∷ ps) ns (inl (inl e)) = in_insert k p.name.0 (with_names ps ns) (inl e)
in_parts k (p ∷ ps) ns (inl (inr h)) = in_insert k p.name.0 (with_names ps ns) (inr (in_parts k ps ns (inl h)))
in_parts k (p ∷ ps) ns (inr q) = in_insert k p.name.0 (with_names ps ns) (inr (in_parts k ps ns (inr q)))

parts_in : (k : ℕ) (ps : List Part) (ns : List ℕ) → IsIn k (with_names ps ns) → HasName k ps ⊎ IsIn k ns
parts_in k [] ns q = inr q
parts_in k (p ∷ ps) ns q = first (λ j. parts_in k ps ns j) (insert_in k p.name.0 (with_names ps ns) q)
  where
    later : HasName k ps ⊎ IsIn k ns → ((p.name.0 ≡ k) ⊎ HasName k ps) ⊎ IsIn k ns
    later (inl h) = inl (inr h)
    later (inr q) = inr q

    first : (IsIn k (with_names ps ns) → HasName k ps ⊎ IsIn k ns) → (p.name.0 ≡ k) ⊎ IsIn k (with_names ps ns) → ((p.name.0 ≡ k) ⊎ HasName k ps) ⊎ IsIn k ns
    first f (inl e) = inl (inl e)
    first f (inr q) = later (f q)

pub names_rise : (ts : List Taken) → RisesFrom 0 (names_of ts)
names_rise [] = tt
names_rise (t ∷ ts) = parts_rise t.lit.parts (names_of ts) (names_rise ts)

pub in_names : (k : ℕ) (ts : List Taken) → Occurs k ts → IsIn k (names_of ts)
in_names k [] h = h
in_names k (t ∷ ts) (inl h) = in_parts k t.lit.parts (names_of ts) (inl h)
in_names k (t ∷ ts) (inr h) = in_parts k t.lit.parts (names_of ts) (inr (in_names k ts h))

pub names_in : (k : ℕ) (ts : List Taken) → IsIn k (names_of ts) → Occurs k ts
names_in k [] h = h
names_in k (t ∷ ts) h = go (λ j. names_in k ts j) (parts_in k t.lit.parts (names_of ts) h)
  where
    go : (IsIn k (names_of ts) → Occurs k ts) → HasName k t.lit.parts ⊎ IsIn k (names_of ts) → HasName k t.lit.parts ⊎ Occurs k ts
    go f (inl h) = inl h
    go f (inr q) = inr (f q)

pub names_in_order : NamesInOrder
names_in_order = record { rise = names_rise; occur = λ ts n. (names_in n ts, in_names n ts) }

pub is_in : (k : ℕ) (ns : List ℕ) → IsIn k ns ⊎ (IsIn k ns → ⊥)
is_in k [] = inr (λ h. h)
is_in k (n ∷ ns) = go (cases_eq n k) (is_in k ns)
  where
    none : (n ≡ k → ⊥) → (IsIn k ns → ⊥) → (n ≡ k) ⊎ IsIn k ns → ⊥
    none a b (inl e) = a e
    none a b (inr q) = b q

    go : (n ≡ k) ⊎ (n ≡ k → ⊥) → IsIn k ns ⊎ (IsIn k ns → ⊥) → ((n ≡ k) ⊎ IsIn k ns) ⊎ ((n ≡ k) ⊎ IsIn k ns → ⊥)
    go (inl e) _ = inl (inl e)
    go (inr a) (inl q) = inl (inr q)
    go (inr a) (inr b) = inr (none a b)

-- ---- a walk along the names
-- these are the names from a number on
pub record AreNamesFrom (from : ℕ) (ts : List Taken) (ns : List ℕ) : Type 0 where
  pub rise : RisesFrom from ns
  pub occur : (k : ℕ) → IsIn k ns → Occurs k ts
  pub all : (k : ℕ) → Occurs k ts → from ≤ k → IsIn k ns

pub all_names : (ts : List Taken) → AreNamesFrom 0 ts (names_of ts)
all_names ts = record { rise = names_rise ts; occur = λ k. names_in k ts; all = λ k h _. in_names k ts h }

above : (k f : ℕ) (ns : List ℕ) → RisesFrom f ns → IsIn k ns → f ≤ k
above k f [] r q = absurd q
above k f (n ∷ ns) r (inl e) = omega arith
above k f (n ∷ ns) r (inr q) = let a = above k (n + 1) ns r.1 q in omega arith

pub none_left : (from : ℕ) (ts : List Taken) (ns : List ℕ) → AreNamesFrom from ts ns → ((k : ℕ) → Occurs k ts → from ≤ k → ⊥) → ns ≡ []
none_left from ts [] a none = refl
none_left from ts (n ∷ ns) a none = absurd (none n (a.occur n (inl refl)) a.rise.0)

pub record NextName (n : ℕ) (ts : List Taken) (ns : List ℕ) : Type 0 where
  pub rest : List ℕ
  pub is : ns ≡ n ∷ rest
  pub names : AreNamesFrom (n + 1) ts rest

pub next_name : (from n : ℕ) (ts : List Taken) (ns : List ℕ) → AreNamesFrom from ts ns → Occurs n ts → from ≤ n → ((k : ℕ) → Occurs k ts → from ≤ k → n ≤ k) → NextName n ts ns
next_name from n ts [] a o h least = absurd (a.all n o h)
next_name from n ts (m ∷ ms) a o h least = go (a.all n o h)
  where
    below : n ≤ m
    below = least m (a.occur m (inl refl)) a.rise.0

    later : (k : ℕ) → n + 1 ≤ k → m ≡ n → (m ≡ k) ⊎ IsIn k ms → IsIn k ms
    later k h e (inl g) = absurd (omega arith)
    later k h e (inr q) = q

    go : (m ≡ n) ⊎ IsIn n ms → NextName n ts (m ∷ ms)
    go (inl e) = record {
      rest = ms;
      is = ap (λ x. x ∷ ms) e;
      names = record {
        rise = subst (λ x. RisesFrom (x + 1) ms) e a.rise.1;
        occur = λ k q. a.occur k (inr q);
        all = λ k o g. later k g e (a.all k o (omega arith));
      };
    }
    go (inr q) = let b = above n (m + 1) ms a.rise.1 q in let c = below in absurd (omega arith)
