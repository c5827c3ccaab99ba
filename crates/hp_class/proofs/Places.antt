-- The applications of a function are those at its places, which are inside the list of definitions.
use Rattle.std.proofs.Common.{◌≡◌, ℕ, zero, suc, ◌<◌, ◌≤◌, List, [], ◌∷◌, ◌++◌, true, false, map, length, drop, nat_eq, Some, refl, sym, ap, ◌∙◌, append_assoc, arith, if◌then◌else◌}
use Rattle.std.specs.Prelude.{slice_get}
use Rattle.std.specs.List.{All}
use Rattle.std.proofs.lemmas.List.Elements.{All-append, All-cons, All-map, All-nil}
use Rattle.hp_lit.specs.declared.line.Body.{Body}
use Rattle.hp_lit.specs.declared.line.Body.TheVariants.{Apply, Sum}
use Rattle.hp_lit.specs.declared.line.Def.{Def}
use Rattle.hp_defs.specs.Places.{body_place, places}
use Rattle.hp_base.specs.Congruence.{body_args}
use Rattle.hp_class.specs.Points.{body_point, points}
use Rattle.hp_class.specs.Places.{point_at, points_at}

-- ---- lists
pub over : {A : Type 0} (xs : List A) (i : ℕ) → length xs ≤ i → drop i xs ≡ []
over [] zero h = refl
over [] (suc i) h = refl
over (x ∷ xs) zero h = absurd (omega arith)
over (x ∷ xs) (suc i) h = over xs i (omega arith)

pub got_one : {A : Type 0} (xs : List A) (i : ℕ) → i < length xs → (x : A) × (slice_get xs i ≡ Some x)
got_one [] i h = absurd (omega arith)
got_one (x ∷ xs) zero h = (x, refl)
got_one (x ∷ xs) (suc i) h = got_one xs i (omega arith)

-- ---- applications at places
points_both : (ds : List Def) (ks ls : List ℕ) → points_at ds (ks ++ ls) ≡ points_at ds ks ++ points_at ds ls
points_both ds [] ls = refl
points_both ds (k ∷ ks) ls = ap (λ ps. point_at (slice_get ds k) ++ ps) (points_both ds ks ls) ∙ sym (append_assoc (point_at (slice_get ds k)) (points_at ds ks) (points_at ds ls))

points_later : (d : Def) (ds : List Def) (ks : List ℕ) → points_at (d ∷ ds) (map suc ks) ≡ points_at ds ks
points_later d ds [] = refl
points_later d ds (k ∷ ks) = ap (λ ps. point_at (slice_get ds k) ++ ps) (points_later d ds ks)

point_first : (func : ℕ) (d : Def) (ds : List Def) (body : Body) → d.body ≡ body → points_at (d ∷ ds) (body_place func 0 body) ≡ body_point func d body
point_first func d ds (Apply g args) e = elim (nat_eq g func) as (λ b. points_at (d ∷ ds) (if b then 0 ∷ [] else []) ≡ (if b then record { name = d.name; args = args } ∷ [] else [])) [
  | true ↦ ap (λ (body : Body). record { name = d.name; args = body_args body } ∷ []) e
  | false ↦ refl
]
point_first func d ds (Sum lin) e = refl

-- the applications of a function are those at its places
pub points_there : (func : ℕ) (ds : List Def) → points func ds ≡ points_at ds (places func ds)
points_there func [] = refl
points_there func (d ∷ ds) = sym (
    points_both (d ∷ ds) (body_place func 0 d.body) (map suc (places func ds))
    ∙ (λ j. point_first func d ds d.body refl j ++ (points_later d ds (places func ds) ∙ sym (points_there func ds)) j))

body_place_inside : (func n : ℕ) (body : Body) → All (λ k. k < suc n) (body_place func 0 body)
body_place_inside func n (Apply g args) = elim (nat_eq g func) as (λ b. All (λ k. k < suc n) (if b then 0 ∷ [] else [])) [
  | true ↦ All-cons (λ k. k < suc n) 0 [] (omega arith) (All-nil (λ k. k < suc n))
  | false ↦ All-nil (λ k. k < suc n)
]
body_place_inside func n (Sum lin) = All-nil (λ k. k < suc n)

pub places_inside : (func : ℕ) (ds : List Def) → All (λ k. k < length ds) (places func ds)
places_inside func [] = All-nil (λ k. k < 0)
places_inside func (d ∷ ds) =
    let later = places_inside func ds in
    All-append (λ k. k < suc (length ds)) (body_place func 0 d.body) (map suc (places func ds)) (body_place_inside func (length ds) d.body)
    (All-map (λ k. k < suc (length ds)) suc (places func ds) (λ i e h. (let l = later i e h in omega arith)))
