-- What stands at a place of a list of definitions, and the line of the applications at two places.
use Rattle.std.proofs.Common.{◌≡◌, ℕ, zero, suc, ◌<◌, List, [], ◌∷◌, map, length, get_or, Some, sym, ap, subst, ◌∙◌, arith}
use Rattle.std.specs.Prelude.{slice_get}
use Rattle.std.specs.List.{All}
use Rattle.std.proofs.lemmas.List.Elements.{All-head, All-tail}
use Rattle.hp_lit.specs.declared.line.Def.{Def}
use Rattle.hp_defs.specs.declared.names.Ground.{Ground}
use Rattle.hp_defs.specs.declared.names.Signature.{Signature}
use Rattle.hp_defs.specs.Made.{IsSmallBody}
use Rattle.hp_defs.specs.Names.{definition_body}
use Rattle.hp_base.specs.Congruence.{congruence_at, congruence_between, congruence_of, point_of}

pub got : {A : Type 0} (xs : List A) (k : ℕ) (x : A) → k < length xs → x ≡ get_or xs k x → slice_get xs k ≡ Some x
got [] k x h e = absurd (omega arith)
got (y ∷ xs) zero x h e = ap (λ z. Some z) (sym e)
got (y ∷ xs) (suc k) x h e = got xs k x (omega arith) e

pub small_at : (ds : List Def) (k : ℕ) (d : Def) → k < length ds → d ≡ get_or ds k d → All IsSmallBody (map definition_body ds) → IsSmallBody d.body
small_at [] k d h e s = absurd (omega arith)
small_at (x ∷ ds) zero d h e s = subst (λ (y : Def). IsSmallBody y.body) (sym e) (All-head IsSmallBody x.body (map definition_body ds) s)
small_at (x ∷ ds) (suc k) d h e s = small_at ds k d (omega arith) e (All-tail IsSmallBody x.body (map definition_body ds) s)

-- the same of a list that equals another
pub got_there : {A : Type 0} (ys xs : List A) (k : ℕ) (x : A) → ys ≡ xs → k < length xs → x ≡ get_or ys k x → slice_get xs k ≡ Some x
got_there ys xs k x e h is = got xs k x h (is ∙ ap (λ zs. get_or zs k x) e)

pub small_there : (es ds : List Def) (k : ℕ) (d : Def) → es ≡ ds → k < length ds → d ≡ get_or es k d → All IsSmallBody (map definition_body ds) → IsSmallBody d.body
small_there es ds k d e h is s = small_at ds k d h (is ∙ ap (λ (zs : List Def). get_or zs k d) e) s

-- ---- applications
pub congruence_there : (func left right : ℕ) (signature : Signature) (first second : Def) (g : Ground)
    → slice_get g.names.signatures func ≡ Some signature → slice_get g.names.definitions left ≡ Some first → slice_get g.names.definitions right ≡ Some second
    → congruence_at func left right g ≡ congruence_of signature (point_of first) (point_of second) g
congruence_there func left right signature first second g e d f = λ j. congruence_between (e j) (d j) (f j) g
