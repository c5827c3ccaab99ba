-- The applications of a function stay while no definition applies it that is made.
use Rattle.std.proofs.Common.{◌≡◌, ◌∙◌, ◌+◌, ◌++◌, ℕ, suc, Bool, true, false, cond, List, [], ◌∷◌, length, nat_eq, Some, refl, sym, ap, subst, append-nil, append_assoc, arith}
use Rattle.std.specs.Prelude.{slice_get}
use Rattle.std.proofs.lemmas.Bool.{eqb-true}
use Rattle.hp_lit.specs.declared.line.Arg.{Arg}
use Rattle.hp_lit.specs.declared.line.Body.{Body}
use Rattle.hp_lit.specs.declared.line.Body.TheVariants.{Apply, Sum}
use Rattle.hp_lit.specs.declared.line.Def.{Def}
use Rattle.hp_base.specs.Congruence.{Point}
use Rattle.hp_class.specs.Laws.{PointsStay}
use Rattle.hp_class.specs.Points.{body_point, points}

get_back : {A : Type 0} (xs ys : List A) (k : ℕ) (x : A) → slice_get ys k ≡ Some x → slice_get (xs ++ ys) (length xs + k) ≡ Some x
get_back [] ys k x e = let at : k ≡ 0 + k = omega arith in subst (λ (n : ℕ). slice_get ys n ≡ Some x) at e
get_back (y ∷ xs) ys k x e =
    let at : suc (length xs + k) ≡ suc (length xs) + k = omega arith in
    subst (λ (n : ℕ). slice_get (y ∷ (xs ++ ys)) n ≡ Some x) at (get_back xs ys k x e)

points_both : (func : ℕ) (ds es : List Def) → points func (ds ++ es) ≡ points func ds ++ points func es
points_both func [] es = refl
points_both func (d ∷ ds) es = ap (λ ps. body_point func d d.body ++ ps) (points_both func ds es) ∙ sym (append_assoc (body_point func d d.body) (points func ds) (points func es))

-- no definition is an application of the function
abbrev ApplyNone : ℕ → List Def → Type 0
ApplyNone func ds = (k : ℕ) (d : Def) (args : List Arg) → slice_get ds k ≡ Some d → d.body ≡ Apply func args → ⊥

body_none : (func : ℕ) (d : Def) (body : Body) → ((args : List Arg) → body ≡ Apply func args → ⊥) → body_point func d body ≡ []
body_none func d (Sum lin) h = refl
body_none func d (Apply g args) h = by (nat_eq g func) refl
  where
    this : Point
    this = record { name = d.name; args = args }

    by : (b : Bool) → nat_eq g func ≡ b → cond b (this ∷ []) [] ≡ []
    by false t = refl
    by true t = absurd (h args (ap (λ k. Apply k args) (eqb-true g func t)))

none_there : (func : ℕ) (ds : List Def) → ApplyNone func ds → points func ds ≡ []
none_there func [] h = refl
none_there func (d ∷ ds) h = (λ i. body_none func d d.body (λ args e. h 0 d args refl e) i ++ none_there func ds (λ k c args e is. h (suc k) c args e is) i)

absent : (b : Bool) → b ≡ true → b ≡ false → ⊥
absent b e f = cc

pub points_stay : PointsStay
points_stay test func old new b only fails =
    let made = none_there func b.made (λ k d args e is. absent (test func)
    (only (length old.names.definitions + k) d func args (omega arith)
    (subst (λ (ds : List Def). slice_get ds (length old.names.definitions + k) ≡ Some d) (sym b.definitions) (get_back old.names.definitions b.made k d e)) is) fails) in
    ap (points func) b.definitions ∙ points_both func old.names.definitions b.made
    ∙ ap (λ ps. points func old.names.definitions ++ ps) made ∙ append-nil (points func old.names.definitions)
