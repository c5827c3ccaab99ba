-- The tests of bodies tell equal ones.
use Rattle.std.proofs.Common.{◌≡◌, true, List, Option, Some, None, refl, sym, ap, ◌∙◌, true≢false, nat_eq, map}
use Rattle.std.specs.Bool.{Decides}
use Rattle.std.specs.Ordering.{int_eq}
use Rattle.std.specs.Cmp.Lexicographic.{pointwise, pointwise_decides}
use Rattle.std.proofs.lemmas.Bool.Decides.{Decides-eqb, Decides-int_eq, Decides-like, Decides-and}
use Rattle.hp_math.specs.Rational.{ℚ, eq_ℚ}
use Rattle.hp_math.proofs.Laws.{tests_decide}
use Rattle.hp_lit.specs.declared.literal.Name.{Name}
use Rattle.hp_lit.specs.declared.line.Arg.{Arg}
use Rattle.hp_lit.specs.declared.line.Arg.TheVariants.{Number, Named, Index, Null}
use Rattle.hp_lit.specs.declared.line.LinPart.{LinPart}
use Rattle.hp_lit.specs.declared.line.Body.{Body}
use Rattle.hp_lit.specs.declared.line.Body.TheVariants.{Apply, Sum}
use Rattle.hp_lit.specs.declared.line.Def.{Def}
use Rattle.hp_defs.specs.Cells.{body_cells, definition_cells}
use Rattle.hp_defs.specs.First.{IsFirst}
use Rattle.hp_defs.specs.Same.{same_base, same_arg, same_part, same_body, place}
use Rattle.hp_defs.proofs.Bodies.{cells_inject}
use Rattle.hp_defs.proofs.First.{first_by_test}

name_tells : (m n : Name) → Decides (nat_eq m.0 n.0) (m ≡ n)
name_tells m n = Decides-like (nat_eq m.0 n.0) (λ e i. record { 0 = e i }) (λ e i. (e i).0) (Decides-eqb m.0 n.0)

number_tells : (x y : ℚ) → Decides (eq_ℚ x y) (x ≡ y)
number_tells x y = let t = tests_decide.eq x y in (t.0, t.1)

base_tells : (m n : Option Name) → Decides (same_base m n) (m ≡ n)
base_tells None None = (λ h. refl, λ e. refl)
base_tells None (Some n) = (λ h. absurd (true≢false (sym h)), λ e. absurd (cc))
base_tells (Some m) None = (λ h. absurd (true≢false (sym h)), λ e. absurd (cc))
base_tells (Some m) (Some n) = Decides-like (nat_eq m.0 n.0) (λ e. ap Some e) (λ e. cc) (name_tells m n)

arg_means : (x y : Arg) → same_arg x y ≡ true → x ≡ y
arg_means (Number x) (Number y) h = ap Number ((number_tells x y).0 h)
arg_means (Named m) (Named n) h = ap Named ((name_tells m n).0 h)
arg_means (Index m x) (Index n y) h =
    let both = (Decides-and (same_base m n) (int_eq x y) (base_tells m n) (Decides-int_eq x y)).0 h in
    λ i. Index (both.0 i) (both.1 i)
arg_means Null Null h = refl
arg_means _ _ h = absurd (true≢false (sym h))

arg_itself : (x : Arg) → same_arg x x ≡ true
arg_itself (Number x) = (number_tells x x).1 refl
arg_itself (Named n) = (name_tells n n).1 refl
arg_itself (Index n x) = (Decides-and (same_base n n) (int_eq x x) (base_tells n n) (Decides-int_eq x x)).1 (refl, refl)
arg_itself Null = refl

arg_tells : (x y : Arg) → Decides (same_arg x y) (x ≡ y)
arg_tells x y = (arg_means x y, λ e. ap (same_arg x) (sym e) ∙ arg_itself x)

part_tells : (p q : LinPart) → Decides (same_part p q) (p ≡ q)
part_tells p q =
    Decides-like (same_part p q) (λ both i. record { name = both.0 i; coef = both.1 i }) (λ e. (λ i. (e i).name, λ i. (e i).coef))
    (Decides-and (nat_eq p.name.0 q.name.0) (eq_ℚ p.coef q.coef) (name_tells p.name q.name) (number_tells p.coef q.coef))

body_means : (a b : Body) → same_body a b ≡ true → a ≡ b
body_means (Apply f xs) (Apply g ys) h =
    let both = (Decides-and (nat_eq f g) (pointwise same_arg xs ys) (Decides-eqb f g) (pointwise_decides arg_tells xs ys)).0 h in
    λ i. Apply (both.0 i) (both.1 i)
body_means (Sum x) (Sum y) h =
    let both = (Decides-and (pointwise same_part x.parts y.parts) (eq_ℚ x.rest y.rest) (pointwise_decides part_tells x.parts y.parts) (number_tells x.rest y.rest)).0 h in
    λ i. Sum (record { parts = both.0 i; rest = both.1 i })
body_means _ _ h = absurd (true≢false (sym h))

body_itself : (b : Body) → same_body b b ≡ true
body_itself (Apply f xs) = (Decides-and (nat_eq f f) (pointwise same_arg xs xs) (Decides-eqb f f) (pointwise_decides arg_tells xs xs)).1 (refl, refl)
body_itself (Sum x) = (Decides-and (pointwise same_part x.parts x.parts) (eq_ℚ x.rest x.rest) (pointwise_decides part_tells x.parts x.parts) (number_tells x.rest x.rest)).1 (refl, refl)

pub bodies_tell : (a b : Body) → Decides (same_body a b) (a ≡ b)
bodies_tell a b = (body_means a b, λ e. ap (same_body a) (sym e) ∙ body_itself a)

-- the place of a body is the first place of its cells among those of the definitions
pub place_is_first : (b : Body) (definitions : List Def) → IsFirst (body_cells b) (map definition_cells definitions) (place b definitions)
place_is_first b definitions =
    first_by_test (body_cells b) definition_cells (λ d. same_body b d.body) (λ d. Decides-like (same_body b d.body) (λ e. ap body_cells e) (cells_inject b d.body) (bodies_tell b d.body)) definitions

-- the place of a body is its first place among the bodies of the definitions
pub place_is_exact : (b : Body) (definitions : List Def) → IsFirst b (map (λ d. d.body) definitions) (place b definitions)
place_is_exact b definitions = first_by_test b (λ d. d.body) (λ d. same_body b d.body) (λ d. bodies_tell b d.body) definitions
