-- The applications of a function among definitions, and pairs of entries.
use Rattle.std.proofs.Common.{◌≡◌, ◌∙◌, ◌⊎◌, inl, inr, ℕ, zero, suc, Bool, true, false, cond, List, [], ◌∷◌, map, nat_eq, Some, refl, sym, ap, subst}
use Rattle.std.specs.Prelude.{slice_get}
use Rattle.std.specs.List.{Contains}
use Rattle.std.proofs.lemmas.Bool.{eq-eqb, eqb-true}
use Rattle.std.proofs.lemmas.List.Elements.{Contains-append_cases, Contains-append_left, Contains-append_right}
use Rattle.hp_lit.specs.declared.line.Arg.{Arg}
use Rattle.hp_lit.specs.declared.line.Body.{Body}
use Rattle.hp_lit.specs.declared.line.Body.TheVariants.{Apply, Sum}
use Rattle.hp_lit.specs.declared.line.Def.{Def}
use Rattle.hp_local.proofs.Lists.{contains_cases, contains_first, contains_later, contains_map, contains_none, contains_same, map_contains}
use Rattle.hp_defs.specs.declared.names.Signature.{Signature}
use Rattle.hp_defs.specs.Fit.{IsFitNames}
use Rattle.hp_defs.specs.Made.{IsMade}
use Rattle.hp_defs.specs.Names.{NameList, sorts}
use Rattle.hp_base.specs.Congruence.{Point}
use Rattle.hp_base.specs.Laws.{IsDefined, IsPoint}
use Rattle.hp_base.proofs.CongruentPoints.{applications_are_points}
use Rattle.hp_class.specs.Points.{body_point, pairs, points}

-- ---- pairs
-- the two entries of a pair are entries of the list
pub pairs_among : {X : Type 0} (xs : List X) (pair : X × X) → Contains (pairs xs) pair → Contains xs pair.0 × Contains xs pair.1
pairs_among [] pair m = absurd (contains_none pair m)
pairs_among {X} (x ∷ xs) pair m = by (pairs_among xs pair) (Contains-append_cases (map (λ (y : X). (x, y)) xs) (pairs xs) pair m)
  where
    by : (Contains (pairs xs) pair → Contains xs pair.0 × Contains xs pair.1) → Contains (map (λ (y : X). (x, y)) xs) pair ⊎ Contains (pairs xs) pair
        → Contains (x ∷ xs) pair.0 × Contains (x ∷ xs) pair.1
    by among (inl h) =
        let w = map_contains (λ (y : X). (x, y)) xs pair h in
        (contains_same x xs pair.0 (ap (λ (q : X × X). q.0) w.2), contains_later x xs pair.1 (subst (λ (z : X). Contains xs z) (ap (λ (q : X × X). q.1) w.2) w.1))
    by among (inr h) = let w = among h in (contains_later x xs pair.0 w.0, contains_later x xs pair.1 w.1)

-- two entries are the same, or a pair in one order or the other
pub pairs_all : {X : Type 0} (xs : List X) (x y : X) → Contains xs x → Contains xs y → (x ≡ y) ⊎ (Contains {X = X × X} (pairs xs) (x, y) ⊎ Contains {X = X × X} (pairs xs) (y, x))
pairs_all [] x y m n = absurd (contains_none x m)
pairs_all {X} (z ∷ zs) x y m n = by (pairs_all zs x y) (contains_cases z zs x m) (contains_cases z zs y n)
  where
    first : (a b : X) → z ≡ a → Contains zs b → Contains {X = X × X} (pairs (z ∷ zs)) (a, b)
    first a b e h =
        Contains-append_left (map (λ (w : X). (z, w)) zs) (pairs zs) (a, b)
        (subst (λ (c : X). Contains {X = X × X} (map (λ (w : X). (z, w)) zs) (c, b)) e (contains_map (λ (w : X). (z, w)) zs b h))

    rest : (pair : X × X) → Contains {X = X × X} (pairs zs) pair → Contains {X = X × X} (pairs (z ∷ zs)) pair
    rest pair h = Contains-append_right (map (λ (w : X). (z, w)) zs) (pairs zs) pair h

    by : (Contains zs x → Contains zs y → (x ≡ y) ⊎ (Contains {X = X × X} (pairs zs) (x, y) ⊎ Contains {X = X × X} (pairs zs) (y, x))) → (z ≡ x) ⊎ Contains zs x → (z ≡ y) ⊎ Contains zs y
        → (x ≡ y) ⊎ (Contains {X = X × X} (pairs (z ∷ zs)) (x, y) ⊎ Contains {X = X × X} (pairs (z ∷ zs)) (y, x))
    by both (inl e) (inl f) = inl (sym e ∙ f)
    by both (inl e) (inr k) = inr (inl (first x y e k))
    by both (inr h) (inl f) = inr (inr (first y x f h))
    by both (inr h) (inr k) = elim (both h k) [
      | inl e ↦ inl e
      | inr w ↦ elim w [ inl a ↦ inr (inl (rest (x, y) a)) | inr b ↦ inr (inr (rest (y, x) b)) ]
    ]

-- ---- applications
-- the definition that a point is
pub record IsApplied (func : ℕ) (ds : List Def) (p : Point) : Type 0 where
  pub place : ℕ
  pub definition : Def
  pub there : slice_get ds place ≡ Some definition
  pub body : definition.body ≡ Apply func p.args
  pub name : definition.name ≡ p.name

first_applied : (func : ℕ) (d : Def) (body : Body) (p : Point) → Contains (body_point func d body) p → (body ≡ Apply func p.args) × (d.name ≡ p.name)
first_applied func d (Sum lin) p m = absurd (contains_none p m)
first_applied func d (Apply g args) p m = by (nat_eq g func) refl m
  where
    this : Point
    this = record { name = d.name; args = args }

    by : (b : Bool) → nat_eq g func ≡ b → Contains (cond b (this ∷ []) []) p → (Apply g args ≡ Apply func p.args) × (d.name ≡ p.name)
    by false t n = absurd (contains_none p n)
    by true t n = elim (contains_cases this [] p n) [
      | inl e ↦ (let same : g ≡ func = eqb-true g func t in ((λ i. Apply (same i) (e i).args), ap (λ (q : Point). q.name) e))
      | inr l ↦ absurd (contains_none p l)
    ]

pub applied : (func : ℕ) (ds : List Def) (p : Point) → Contains (points func ds) p → IsApplied func ds p
applied func [] p m = absurd (contains_none p m)
applied func (d ∷ ds) p m = elim (Contains-append_cases (body_point func d d.body) (points func ds) p m) [
  | inl h ↦ (let is = first_applied func d d.body p h in record { place = 0; definition = d; there = refl; body = is.0; name = is.1 })
  | inr l ↦ (let w = applied func ds p l in record { place = suc w.place; definition = w.definition; there = w.there; body = w.body; name = w.name })
]

-- each definition by an application of the function is one of its points
pub is_among_points : (func : ℕ) (ds : List Def) (k : ℕ) (d : Def) (args : List Arg) → slice_get ds k ≡ Some d → d.body ≡ Apply func args
    → Contains (points func ds) (record { name = d.name; args = args })
is_among_points func [] k d args e is = absurd (cc)
is_among_points func (c ∷ ds) zero d args e is =
    let same : c ≡ d = cc in
    let yes : nat_eq func func ≡ true = eq-eqb func func refl in
    let this : Point = record { name = c.name; args = args } in
    let here : Contains (body_point func c (Apply func args)) this = rw yes (contains_first this []) in
    let there : Contains (body_point func c c.body) this = subst (λ (b : Body). Contains (body_point func c b) this) (sym is ∙ ap (λ (x : Def). x.body) (sym same)) here in
    subst (λ (x : Def). Contains (points func (c ∷ ds)) (record { name = x.name; args = args })) same (Contains-append_left (body_point func c c.body) (points func ds) this there)
is_among_points func (c ∷ ds) (suc k) d args e is =
    Contains-append_right (body_point func c c.body) (points func ds) (record { name = d.name; args = args }) (is_among_points func ds k d args e is)

-- the points of a function have arguments of its sorts, and names of the sort of its result
pub are_points : (names : NameList) → IsMade names → IsFitNames names → (func : ℕ) (signature : Signature) → slice_get names.signatures func ≡ Some signature
    → (p : Point) → Contains (points func names.definitions) p → IsPoint (sorts names) signature p
are_points names made fit func signature known p m =
    let w = applied func names.definitions p m in
    let defined : IsDefined names p.name (Apply func p.args) = record { place = w.place; definition = w.definition; there = w.there; has_body = w.body; has_name = sym w.name ∙ made.named w.place w.definition w.there } in
    applications_are_points names p.name func p.args signature made fit defined known
